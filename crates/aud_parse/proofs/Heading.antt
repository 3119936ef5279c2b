-- What reads the head of an operation's body, and its exits.
use Rattle.std.proofs.Common.{ℕ, List, ◌∷◌, ◌++◌}
use Rattle.std.specs.Prelude.{◌≡◌, Result, Ok, Err, IsErrAnd, Box}
use Rattle.std.specs.Global.{Global}
use Rattle.std.proofs.lemmas.Result.{err_from_is_err_and}
use Rattle.aud_lex.specs.Element.{Element}
use Rattle.aud_grammar.specs.Grammar.{Phrase, Symbol, N}
use Rattle.aud_grammar.specs.Parsed.{Verdict}
use Rattle.aud_grammar.specs.Actions.{Item}
use Rattle.aud_grammar.specs.Ties.Outcome.{Out}
use Rattle.aud_cursor.specs.Ties.Reads.{FailsAt, FailsIn}
use Rattle.aud_cursor.specs.declared.cursor.Rest.{Rest}
use Rattle.aud_cursor.specs.declared.cursor.Fault.{Fault}
use Rattle.aud_cursor.specs.declared.cursor.Fault.TheVariants as fault
use Rattle.aud_cursor.proofs.Passing.{fails_through}
use Rattle.aud_parse.specs.Ties.Heads.{HeadComes, ReadsHead}
use Rattle.aud_parse.specs.declared.operation_head.OperationHead.{OperationHead}

-- the exit by a `?`
pub exit_head : {p : Phrase} {s : Symbol} {r r' : ℕ} {start : Rest} {ts' : List Element} {K : List Symbol → List Symbol} {f : List Item → List Item} (e : Fault) (res : Result (Box OperationHead Global × Rest) Fault) →
    IsErrAnd res (λ y. y ≡ e) → FailsAt s r' ts' e → ((k : List Symbol) (ds : List Item) (v : Verdict) → Out (s ∷ K k) r' ts' ds v → Out (N p ∷ k) r start.tokens.now (f ds) v) → ReadsHead p r start res
exit_head e res is h g =
    let i = err_from_is_err_and res is in
    rw (i.1, i.2) (record { reads = fails_through e h g; shorter = tt })

-- the same of what has read several symbols

fails_all : {s0 : Symbol} (S : List Symbol) (K : List Symbol → List Symbol) {r r' : ℕ} {ts ts' : List Element} {f : List Item → List Item} (e : Fault) →
    FailsIn S r' ts' e → ((k : List Symbol) (ds : List Item) (v : Verdict) → Out (S ++ K k) r' ts' ds v → Out (s0 ∷ k) r ts (f ds) v) → FailsAt s0 r ts e
fails_all S K fault.Memory h before = tt
fails_all S K {f = f} (fault.Wrong rest) h before = λ k. let o = h (K k) in (f o.0, before k o.0 _ o.1)
fails_all S K {f = f} (fault.Deep rest) h before = λ k. let o = h (K k) in (f o.0, before k o.0 _ o.1)

pub exit_head_all : {p : Phrase} (S : List Symbol) (K : List Symbol → List Symbol) {r r' : ℕ} {start : Rest} {ts' : List Element} {f : List Item → List Item} (e : Fault) (res : Result (Box OperationHead Global × Rest) Fault) →
    IsErrAnd res (λ y. y ≡ e) → FailsIn S r' ts' e → ((k : List Symbol) (ds : List Item) (v : Verdict) → Out (S ++ K k) r' ts' ds v → Out (N p ∷ k) r start.tokens.now (f ds) v) → ReadsHead p r start res
exit_head_all S K e res is h before =
    let i = err_from_is_err_and res is in
    rw (i.1, i.2) (record { reads = fails_all S K e h before; shorter = tt })

-- a function that hands on the answer of another
pub head_on : {p q : Phrase} {r : ℕ} (start : Rest) (res : Result (Box OperationHead Global × Rest) Fault) → ReadsHead p r start res →
    ((k : List Symbol) (ds : List Item) (v : Verdict) → Out (N p ∷ k) r start.tokens.now ds v → Out (N q ∷ k) r start.tokens.now ds v) → ReadsHead q r start res
head_on {p} {q} {r} start res h g = record { reads = by res h.reads; shorter = h.shorter }
  where
    by : (res : Result (Box OperationHead Global × Rest) Fault) → HeadComes p r start res → HeadComes q r start res
    by (Ok x) h = λ k ds v o. g k _ v (h k ds v o)
    by (Err e) h = fails_through e h g
