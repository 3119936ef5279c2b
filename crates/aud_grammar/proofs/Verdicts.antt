-- What the verdict says of the tree of the tokens.
use Rattle.std.proofs.Common.{◌≡◌, ℕ, List, [], ◌∷◌, length, ap, arith, true, false, ◌==◌}
use Rattle.std.proofs.lemmas.Bool.{eqb-true}
use Rattle.aud_lex.specs.Element.{Element}
use Rattle.aud_grammar.specs.Grammar.{Phrase, N}
use Rattle.aud_grammar.specs.Parsed.{Verdict, Good, Wrong}
use Rattle.aud_grammar.specs.Actions.{Item}
use Rattle.aud_grammar.specs.Parsed.{Ran, parsed_as, judged}
use Rattle.aud_grammar.specs.Ties.Outcome.{Out, o_end, o_rest, Fails}
use Rattle.aud_grammar.proofs.Reading.{read_is}

pub parsed_is : {X : Type 0} (f : Item → X) (p : Phrase) (r : ℕ) (ts : List Element) (ds : List Item) (v : Verdict) → Out (N p ∷ []) r ts ds v → parsed_as f p r ts ≡ judged f (length ts) ds v
parsed_is f p r ts ds v o = ap (λ (x : Ran). judged f (length ts) x.0 x.1) (read_is o)

pub parsed_fails : {X : Type 0} (f : Item → X) (p : Phrase) (r : ℕ) (ts : List Element) (v : Verdict) → Fails (N p ∷ []) r ts v → (d : List Item) × (parsed_as f p r ts ≡ judged f (length ts) d v)
parsed_fails f p r ts v o = (o.0, parsed_is f p r ts o.0 v o.1)

pub all_read : (r : ℕ) (rest : List Element) → (length rest == 0) ≡ true → Out [] r rest [] Good
all_read r [] e = o_end
all_read r (t ∷ rest) e = absurd (omega (arith, eqb-true (length (t ∷ rest)) 0 e))

pub some_left : (r : ℕ) (rest : List Element) → (length rest == 0) ≡ false → Out [] r rest [] (Wrong rest)
some_left r [] e = cc
some_left r (t ∷ rest) e = o_rest
