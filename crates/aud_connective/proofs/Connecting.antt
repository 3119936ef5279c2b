-- What is passed of a chain of relations.
use Rattle.std.proofs.Common.{◌≡◌, ℕ, List, [], ◌∷◌, ◌++◌, Bool, ap, sym, subst, arith, ◌∙◌}
use Rattle.std.specs.Prelude.{Result, Ok, Err, IsErrAnd}
use Rattle.std.proofs.lemmas.Result.{err_from_is_err_and}
use Rattle.aud_lex.specs.Element.{Element}
use Rattle.aud_lex.specs.declared.token.Kind.{Kind}
use Rattle.aud_lex.specs.declared.token.Kind.TheVariants as kind
use Rattle.aud_syntax.specs.declared.tree.Connective.{Connective}
use Rattle.aud_syntax.specs.declared.tree.Connective.TheVariants as connective
use Rattle.aud_grammar.specs.Grammar as g
use Rattle.aud_grammar.specs.Grammar.{Symbol, T, N}
use Rattle.aud_grammar.specs.First.{next_in, firsts}
use Rattle.aud_grammar.specs.Parsed.{Verdict}
use Rattle.aud_grammar.specs.Actions.{Item}
use Rattle.aud_grammar.specs.Ties.Outcome.{Out, o_rule}
use Rattle.aud_cursor.specs.Ties.Reads.{Passes, FailsAt, Fewer, ReadsWord}
use Rattle.aud_connective.specs.Ties.Connects.{further, Reconnects}
use Rattle.aud_cursor.specs.declared.cursor.Rest.{Rest}
use Rattle.aud_cursor.specs.declared.cursor.Fault.{Fault}
use Rattle.aud_cursor.proofs.Passing.{fails_through}

-- the next token is of the one kind with which a phrase begins
pub next_so : {ks : List Kind} {c : Kind} {b t : Bool} (ts : List Element) → ks ≡ c ∷ [] → b ≡ next_in (c ∷ []) ts → b ≡ t → next_in ks ts ≡ t
next_so ts e h i = ap (λ l. next_in l ts) e ∙ sym h ∙ i

-- the next token begins a further relation behind the operator, or does not, as a call has told
pub comes_so : (operator : Connective) (ts : List Element) {b t : Bool} → b ≡ next_in (firsts (further operator)) ts → b ≡ t → next_in (firsts (further operator)) ts ≡ t
comes_so operator ts h i = sym h ∙ i

-- the words of an operator behind its first
abbrev pub second : Connective → List Symbol
second connective.And = []
second connective.Or = []
second connective.Xor = []
second connective.AndThen = T kind.Then ∷ []
second connective.OrElse = T kind.Else ∷ []

same_head : {c d : Kind} → c ∷ [] ≡ d ∷ [] → c ≡ d
same_head h = cc

-- the words of an operator and a relation are a further relation
pub link : (operator : Connective) {c : Kind} {k : List Symbol} {r : ℕ} {ts : List Element} {ds : List Item} {v : Verdict} → firsts (further operator) ≡ c ∷ [] →
    Out (T c ∷ (second operator ++ (N g.Relation ∷ k))) r ts ds v → Out (N (further operator) ∷ k) r ts ds v
link connective.And {c} {k} {r} {ts} {ds} {v} h o = let i : c ≡ kind.And = sym (same_head h) in o_rule (subst (λ z. Out (T z ∷ N g.Relation ∷ k) r ts ds v) i o)
link connective.Or {c} {k} {r} {ts} {ds} {v} h o = let i : c ≡ kind.Or = sym (same_head h) in o_rule (subst (λ z. Out (T z ∷ N g.Relation ∷ k) r ts ds v) i o)
link connective.Xor {c} {k} {r} {ts} {ds} {v} h o = let i : c ≡ kind.Xor = sym (same_head h) in o_rule (subst (λ z. Out (T z ∷ N g.Relation ∷ k) r ts ds v) i o)
link connective.AndThen {c} {k} {r} {ts} {ds} {v} h o = let i : c ≡ kind.And = sym (same_head h) in o_rule (subst (λ z. Out (T z ∷ T kind.Then ∷ N g.Relation ∷ k) r ts ds v) i o)
link connective.OrElse {c} {k} {r} {ts} {ds} {v} h o = let i : c ≡ kind.Or = sym (same_head h) in o_rule (subst (λ z. Out (T z ∷ T kind.Else ∷ N g.Relation ∷ k) r ts ds v) i o)

-- the operator does not begin
pub not_again : (operator : Connective) {c : Kind} {start : Rest} (e : Fault) (res : Result Rest Fault) → firsts (further operator) ≡ c ∷ [] →
    IsErrAnd res (λ y. y ≡ e) → ((room : ℕ) → FailsAt (T c) room start.tokens.now e) → Reconnects operator start res
not_again operator e res f is h =
    let p = err_from_is_err_and res is in
    rw (p.1, p.2) (record { reads = λ room. fails_through {K = λ k. second operator ++ (N g.Relation ∷ k)} {f = λ ds. ds} e (h room) (λ k ds v o. link operator f o); shorter = tt })

-- its one word is passed
pub one_word : (operator : Connective) {c : Kind} {start rest : Rest} → firsts (further operator) ≡ c ∷ [] → second operator ≡ [] →
    ((room : ℕ) → Passes (T c) room start.tokens.now (λ ds. ds) room rest.tokens.now) → Fewer rest start → Reconnects operator start (Ok rest)
one_word operator {c} {start} {rest} f none pass fewer = record {
  reads = λ room k ds v o. link operator f (pass room _ ds v (subst (λ z. Out (z ++ (N g.Relation ∷ k)) room rest.tokens.now ds v) (sym none) o));
  shorter = fewer;
}

-- its first word is passed, and its second comes next or does not
pub two_words : (operator : Connective) {c d : Kind} {start rest : Rest} (res : Result Rest Fault) → firsts (further operator) ≡ c ∷ [] → second operator ≡ T d ∷ [] →
    ((room : ℕ) → Passes (T c) room start.tokens.now (λ ds. ds) room rest.tokens.now) → Fewer rest start → ReadsWord d rest res → Reconnects operator start res
two_words operator {c} {d} {start} {rest} (Ok p) f is pass fewer h = record {
  reads = λ room k ds v o. link operator f (pass room _ ds v (subst (λ z. Out (z ++ (N g.Relation ∷ k)) room rest.tokens.now ds v) (sym is) (h.reads room _ ds v o)));
  shorter = omega (arith, h.shorter, fewer);
}
two_words operator {c} {d} {start} {rest} (Err e) f is pass fewer h = record {
  reads = λ room.
      fails_through {K = λ k. N g.Relation ∷ k} {f = λ ds. ds} e (h.reads room) (λ k ds v o. link operator f (pass room _ ds v (subst (λ z. Out (z ++ (N g.Relation ∷ k)) room rest.tokens.now ds v) (sym is) o)));
  shorter = tt;
}
