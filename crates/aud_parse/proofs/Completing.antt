-- What reading completes, and the exit of what completes a tree or reads several.
use Rattle.std.proofs.Common.{◌≡◌, ℕ, List, ◌∷◌, ◌++◌, ◌∙◌, ap, sym, arith}
use Rattle.std.specs.Prelude.{Result, Ok, Err, IsErrAnd}
use Rattle.std.proofs.lemmas.Result.{err_from_is_err_and}
use Rattle.aud_lex.specs.Element.{Element}
use Rattle.aud_lex.specs.declared.token.Kind.{Kind}
use Rattle.aud_grammar.specs.Grammar.{Symbol, T}
use Rattle.aud_grammar.specs.Parsed.{Verdict}
use Rattle.aud_grammar.specs.Actions.{Item}
use Rattle.aud_grammar.specs.Ties.Outcome.{Out}
use Rattle.aud_cursor.specs.Ties.Reads.{FailsAt, Fewer, FailsIn, Comes, Reading, Completing, Completes, ReadsAll, NoMore}
use Rattle.aud_cursor.specs.Ties.Behind.{Ends}
use Rattle.aud_cursor.specs.declared.cursor.Rest.{Rest}
use Rattle.aud_cursor.specs.declared.cursor.Fault.{Fault}
use Rattle.aud_cursor.specs.declared.cursor.Fault.TheVariants as fault
use Rattle.aud_cursor.proofs.Passing.{to}
use Rattle.aud_parse_expr.proofs.Joined.{fewer_still}

-- a tree that is completed behind what was read
completed : {s0 : Symbol} (s : List Symbol) {make : List Item → List Item} {r : ℕ} {X : Type 0} (x : X → Item) (start mid : Rest) (res : Result (X × Rest) Fault) → Completing make x s r mid res →
    ((k : List Symbol) (ds : List Item) (v : Verdict) → Out (s ++ k) r mid.tokens.now ds v → Out (s0 ∷ k) r start.tokens.now (make ds) v) → Comes x s0 r start res
completed s x start mid (Ok p) h before = λ k ds v o. let w = h k ds v o in to (before k w.0 v w.1) w.2
completed s x start mid (Err fault.Memory) h before = tt
completed s {make = make} x start mid (Err (fault.Wrong rest)) h before = λ k. let o = h k in (make o.0, before k o.0 _ o.1)
completed s {make = make} x start mid (Err (fault.Deep rest)) h before = λ k. let o = h k in (make o.0, before k o.0 _ o.1)

pub completes : {s0 : Symbol} {s : List Symbol} {make : List Item → List Item} {r : ℕ} {X : Type 0} (x : X → Item) (start mid : Rest) (res : Result (X × Rest) Fault) → Completes make x s r mid res → NoMore mid start →
    ((k : List Symbol) (ds : List Item) (v : Verdict) → Out (s ++ k) r mid.tokens.now ds v → Out (s0 ∷ k) r start.tokens.now (make ds) v) → Reading Fewer x s0 r start res
completes {s = s} x start mid res h m before = record { reads = completed s x start mid res h.reads before; shorter = fewer_still start mid res h.shorter m }

-- the exit by a `?` of what completes a tree
fails_in : (S : List Symbol) {s : Symbol} {r r' : ℕ} {ts ts' : List Element} {K : List Symbol → List Symbol} {f : List Item → List Item} (e : Fault) →
    FailsAt s r' ts' e → ((k : List Symbol) (ds : List Item) (v : Verdict) → Out (s ∷ K k) r' ts' ds v → Out (S ++ k) r ts (f ds) v) → FailsIn S r ts e
fails_in S fault.Memory h before = tt
fails_in S {K = K} {f} (fault.Wrong rest) h before = λ k. let o = h (K k) in (f o.0, before k o.0 _ o.1)
fails_in S {K = K} {f} (fault.Deep rest) h before = λ k. let o = h (K k) in (f o.0, before k o.0 _ o.1)

pub exit_in : {make : List Item → List Item} {S : List Symbol} {s : Symbol} {r r' : ℕ} {start : Rest} {ts' : List Element} {K : List Symbol → List Symbol} {f : List Item → List Item} {X : Type 0} (x : X → Item) (e : Fault)
    (res : Result (X × Rest) Fault) → IsErrAnd res (λ y. y ≡ e) → FailsAt s r' ts' e →
    ((k : List Symbol) (ds : List Item) (v : Verdict) → Out (s ∷ K k) r' ts' ds v → Out (S ++ k) r start.tokens.now (f ds) v) → Completes make x S r start res
exit_in {S = S} x e res is h before =
    let p = err_from_is_err_and res is in
    rw (p.1, p.2) (record { reads = fails_in S e h before; shorter = tt })

-- the same of what reads several trees
pub exit_among : {S : List Symbol} {s : Symbol} {r r' : ℕ} {start : Rest} {ts' : List Element} {K : List Symbol → List Symbol} {f : List Item → List Item} {X : Type 0} (x : X → List Item) (e : Fault)
    (res : Result (X × Rest) Fault) → IsErrAnd res (λ y. y ≡ e) → FailsAt s r' ts' e →
    ((k : List Symbol) (ds : List Item) (v : Verdict) → Out (s ∷ K k) r' ts' ds v → Out (S ++ k) r start.tokens.now (f ds) v) → ReadsAll x S r start res
exit_among {S = S} x e res is h before =
    let p = err_from_is_err_and res is in
    rw (p.1, p.2) (record { reads = fails_in S e h before; shorter = tt })

-- several trees of which the last symbol is a word
pub ends_among : {S : List Symbol} {c : Kind} {r : ℕ} (start mid : Rest) {f : List Item → List Item} {X : Type 0} (x : X → List Item) {tree : X} (res : Result (X × Rest) Fault) → Ends c tree mid res → NoMore mid start →
    ((k : List Symbol) (ds : List Item) (v : Verdict) → Out (T c ∷ k) r mid.tokens.now ds v → Out (S ++ k) r start.tokens.now (f ds) v) → ((ds : List Item) → f ds ≡ x tree ++ ds) → ReadsAll x S r start res
ends_among {r = r} start mid x (Ok p) e m before is = record { reads = λ k ds v o. to (before k ds v (e.reads.1 r k ds v o)) (is ds ∙ ap (λ t. x t ++ ds) (sym e.reads.0)); shorter = omega (arith, e.shorter, m) }
ends_among {S} {r = r} start mid x (Err fault) e m before is = record { reads = fails_in S {K = λ k. k} fault (e.reads r) before; shorter = tt }

-- several symbols that are read as the first of others, and the exit by a `?` of what has read them
fails_more : (S s : List Symbol) (K : List Symbol → List Symbol) {r r' : ℕ} {ts ts' : List Element} {f : List Item → List Item} (e : Fault) →
    FailsIn s r' ts' e → ((k : List Symbol) (ds : List Item) (v : Verdict) → Out (s ++ K k) r' ts' ds v → Out (S ++ k) r ts (f ds) v) → FailsIn S r ts e
fails_more S s K fault.Memory h before = tt
fails_more S s K {f = f} (fault.Wrong rest) h before = λ k. let o = h (K k) in (f o.0, before k o.0 _ o.1)
fails_more S s K {f = f} (fault.Deep rest) h before = λ k. let o = h (K k) in (f o.0, before k o.0 _ o.1)

pub exit_more : {S : List Symbol} (s : List Symbol) (K : List Symbol → List Symbol) {r r' : ℕ} {start : Rest} {ts' : List Element} {f : List Item → List Item} {X : Type 0} (x : X → List Item) (e : Fault)
    (res : Result (X × Rest) Fault) → IsErrAnd res (λ y. y ≡ e) → FailsIn s r' ts' e →
    ((k : List Symbol) (ds : List Item) (v : Verdict) → Out (s ++ K k) r' ts' ds v → Out (S ++ k) r start.tokens.now (f ds) v) → ReadsAll x S r start res
exit_more {S = S} s K x e res is h before =
    let p = err_from_is_err_and res is in
    rw (p.1, p.2) (record { reads = fails_more S s K e h before; shorter = tt })

-- what completes a tree behind symbols that are passed before
pub completes_in : {make make' : List Item → List Item} {S s : List Symbol} {r : ℕ} (f : List Item → List Item) {X : Type 0} (x : X → Item) (start mid : Rest) (res : Result (X × Rest) Fault) → Completes make x s r mid res → NoMore mid start →
    ((k : List Symbol) (ds : List Item) (v : Verdict) → Out (s ++ k) r mid.tokens.now ds v → Out (S ++ k) r start.tokens.now (f ds) v) → ((ds : List Item) → make' (f ds) ≡ make ds) → Completes make' x S r start res
completes_in {make} {make'} {S} {s} {r} f {X} x start mid res h m before same = record { reads = by res h.reads; shorter = fewer_still start mid res h.shorter m }
  where
    by : (res : Result (X × Rest) Fault) → Completing make x s r mid res → Completing make' x S r start res
    by (Ok p) h = λ k ds v o. let w = h k ds v o in (f w.0, before k w.0 v w.1, same w.0 ∙ w.2)
    by (Err fault.Memory) h = tt
    by (Err (fault.Wrong rest)) h = λ k. let o = h k in (f o.0, before k o.0 _ o.1)
    by (Err (fault.Deep rest)) h = λ k. let o = h k in (f o.0, before k o.0 _ o.1)
