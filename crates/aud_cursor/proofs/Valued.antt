-- Phrases that are a word and another phrase, or a word.
use Rattle.std.proofs.Common.{◌≡◌, ℕ, List, [], ◌∷◌, ◌++◌, Bool, refl, sym, ap, subst, ◌∙◌}
use Rattle.aud_lex.specs.Element.{Element}
use Rattle.aud_lex.specs.declared.token.Kind.{Kind}
use Rattle.aud_lex.specs.declared.token.Kind.TheVariants as kind
use Rattle.aud_grammar.specs.Grammar as g
use Rattle.aud_grammar.specs.Grammar.{Phrase, Symbol, T, N}
use Rattle.aud_grammar.specs.First.{next_in, firsts}
use Rattle.aud_grammar.specs.Parsed.{Verdict}
use Rattle.aud_grammar.specs.Actions.{Item, there}
use Rattle.aud_grammar.specs.Ties.Outcome.{Out, o_rule}
use Rattle.aud_cursor.specs.Ties.Parts.{IsBehind, IsValue, IsMark}
use Rattle.aud_cursor.proofs.Passing.{to}

pub valued : {c : Kind} {q p : Phrase} {k : List Symbol} {r : ℕ} {ts : List Element} {ds : List Item} {v : Verdict} → IsBehind c q p → Out (T c ∷ N q ∷ k) r ts ds v → Out (N p ∷ k) r ts ds v
valued {k = k} {r} {ts} {ds} {v} h o = to (o_rule (subst (λ l. Out (l ++ k) r ts ds v) (sym h.symbols) o)) (h.same ds)

pub marked : {c : Kind} {p : Phrase} {k : List Symbol} {r : ℕ} {ts : List Element} {ds : List Item} {v : Verdict} → IsMark c p → Out (T c ∷ k) r ts ds v → Out (N p ∷ k) r ts (there ∷ ds) v
marked {k = k} {r} {ts} {ds} {v} h o = to (o_rule (subst (λ l. Out (l ++ k) r ts ds v) (sym h.symbols) o)) (h.same ds)

-- the word comes next, or does not, and so does the phrase
pub begun_so : {c : Kind} (p : Phrase) (ts : List Element) {b : Bool} → firsts p ≡ c ∷ [] → next_in (c ∷ []) ts ≡ b → next_in (firsts p) ts ≡ b
begun_so p ts e h = ap (λ l. next_in l ts) e ∙ h

pub initial : IsValue kind.Becomes g.Initial
initial = record { symbols = refl; begins = refl; same = λ st. refl }

pub when : IsValue kind.When g.When
when = record { symbols = refl; begins = refl; same = λ st. refl }

pub more_identifier : IsBehind kind.Comma g.Identifier g.MoreIdentifiers
more_identifier = record { symbols = refl; begins = refl; same = λ st. refl }

pub more_choice : IsBehind kind.Bar g.Identifier g.MoreChoices
more_choice = record { symbols = refl; begins = refl; same = λ st. refl }

pub negated : IsMark kind.Minus g.Negated
negated = record { symbols = refl; begins = refl; same = λ st. refl }

pub reversed : IsMark kind.Reverse g.Reverse
reversed = record { symbols = refl; begins = refl; same = λ st. refl }

pub in_out : IsMark kind.Out g.InOut
in_out = record { symbols = refl; begins = refl; same = λ st. refl }

pub typed : IsMark kind.Type g.TaskType
typed = record { symbols = refl; begins = refl; same = λ st. refl }
