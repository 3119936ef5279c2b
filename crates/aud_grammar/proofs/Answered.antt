-- The function's answers are right, and so they are the only right ones.
use Rattle.std.proofs.Common.{◌≡◌, ℕ, ◌+◌, ◌-◌, ◌<◌, List, [], ◌∷◌, ◌++◌, length, take, refl, sym, ap, ◌∙◌, subst, arith, length-append, append_assoc, append-nil, Ok, Err}
use Rattle.std.specs.Prelude.{Result, ◌↔◌, true, false}
use Rattle.std.proofs.Math.Seq.{take-append_seam}
use Rattle.aud_text.specs.declared.limits.TheConstants.{LEVELS}
use Rattle.aud_lex.specs.Element.{Element}
use Rattle.aud_syntax.specs.Plain as m
use Rattle.aud_grammar.specs.Grammar as g
use Rattle.aud_grammar.specs.Grammar.{Symbol, N}
use Rattle.aud_grammar.specs.Actions.{Item, the_unit}
use Rattle.aud_grammar.specs.Parsed.{Fault, wrong_at, deep_at, Verdict, Good, Wrong, Deep, budget, parsed, judged}
use Rattle.aud_grammar.specs.Ties.Outcome.{Out}
use Rattle.aud_grammar.specs.Why.Derives.{Derives, Viable}
use Rattle.aud_grammar.specs.Why.Begun.{Within}
use Rattle.aud_grammar.specs.Why.Laws.{SyntaxFaultAt, LevelFaultAt, IsRight, TheSpelled, WrongPlace, FirstDeep, DeepPlace, OneParser}
use Rattle.aud_grammar.proofs.Reading.{enough_budget}
use Rattle.aud_grammar.proofs.Total.{out}
use Rattle.aud_grammar.proofs.Sound.{sound}
use Rattle.aud_grammar.proofs.Gets.{Gets, reach_of, more_room}
use Rattle.aud_grammar.proofs.Ways.{whole, begun, begun_take, derives_begun}
use Rattle.aud_grammar.proofs.Ends.{Only, Stands, whole_clean, ends}
use Rattle.aud_grammar.proofs.OneAnswer.{one_answer}

-- the tokens are cut where the run ends

abbrev Start : List Symbol
Start = N g.Unit ∷ []

take_front : (front rest : List Element) → take (length (front ++ rest) - length rest) (front ++ rest) ≡ front
take_front front rest = let e : length (front ++ rest) - length rest ≡ length front = omega (arith, length-append front rest) in ap (λ n. take n (front ++ rest)) e ∙ take-append_seam front rest

take_one_more : (front : List Element) (t : Element) (rest : List Element) → take (length (front ++ t ∷ rest) - length (t ∷ rest) + 1) (front ++ t ∷ rest) ≡ front ++ t ∷ []
take_one_more front t rest =
    let e : length (front ++ t ∷ rest) - length (t ∷ rest) + 1 ≡ length (front ++ t ∷ []) = omega (arith, length-append front (t ∷ rest), length-append front (t ∷ [])) in
    ap (λ n. take n (front ++ t ∷ rest)) e ∙ ap (λ l. take (length (front ++ t ∷ [])) l) (sym (append_assoc front (t ∷ []) rest)) ∙ take-append_seam (front ++ t ∷ []) rest

viable : (front : List Element) → Gets Start front → Viable g.Unit front
viable front h = (h.0, (h.1, h.2, h.3))

no_token_on : (front rest : List Element) → Only Start LEVELS front (Wrong rest) → length (front ++ rest) - length rest < length (front ++ rest) → ¬ Viable g.Unit (take (length (front ++ rest) - length rest + 1) (front ++ rest))
no_token_on front [] only lt v = absurd (omega arith)
no_token_on front (t ∷ rest) only lt v =
    let d = v.1 in
    let e : take (length (front ++ t ∷ rest) - length (t ∷ rest) + 1) (front ++ t ∷ rest) ++ d.1 ≡ front ++ t ∷ d.1 = ap (λ z. z ++ d.1) (take_one_more front t rest) ∙ append_assoc front (t ∷ []) d.1 in
    only true (t ∷ d.1) (LEVELS + v.0) (omega arith) tt refl (whole (subst (λ z. Derives Start (LEVELS + v.0) d.0 z) e (more_room d.2 (LEVELS + v.0) (omega arith))))

no_end : (front rest : List Element) → Only Start LEVELS front (Wrong rest) → length (front ++ rest) - length rest ≡ length (front ++ rest) → (r : ℕ) (ds : List Item) → ¬ Derives Start r ds (front ++ rest)
no_end front [] only e r ds d = only true [] (LEVELS + r) (omega arith) tt refl (whole (more_room d (LEVELS + r) (omega arith)))
no_end front (t ∷ rest) only e r ds d = absurd (omega (arith, e, length-append front (t ∷ rest)))

syntax_fault : (front rest : List Element) → Gets Start (front ++ []) → Within LEVELS front → Only Start LEVELS front (Wrong rest) → SyntaxFaultAt (front ++ rest) (length (front ++ rest) - length rest)
syntax_fault front rest alive held only = (
  omega arith,
  (subst (λ z. Viable g.Unit z) (append-nil front ∙ sym (take_front front rest)) (viable _ alive), no_token_on front rest only, no_end front rest only),
  subst (λ z. Within LEVELS z) (sym (take_front front rest)) held,
)

level_fault : (front rest : List Element) → Stands (Deep rest) → Gets Start (front ++ reach_of (Deep rest)) → Within LEVELS front → Only Start LEVELS front (Deep rest) → LevelFaultAt (front ++ rest) (length (front ++ rest) - length rest)
level_fault front [] stood alive held only = absurd stood
level_fault front (t ∷ rest) stood alive held only = (
  omega (arith, length-append front (t ∷ rest)),
  subst (λ z. Viable g.Unit z) (sym (take_one_more front t rest)) (viable _ alive),
  subst (λ z. Within LEVELS z) (sym (take_front front (t ∷ rest))) held,
  λ w. only false (t ∷ []) LEVELS (omega arith) (λ e. cc) refl (begun (subst (λ z. Within LEVELS z) (take_one_more front t rest) w)) refl,
)

judged_right : (ts : List Element) (ds : List Item) (v : Verdict) → Out Start LEVELS ts ds v → IsRight ts (judged the_unit (length ts) ds v)
judged_right ts ds Good o = (ds, sound o refl, refl)
judged_right ts ds (Wrong rest) o =
    let e = ends o (whole_clean g.Unit refl) tt in
    subst (λ z. SyntaxFaultAt z (length z - length rest)) (sym e.split) (syntax_fault e.front rest e.alive e.held e.only)
judged_right ts ds (Deep rest) o =
    let e = ends o (whole_clean g.Unit refl) tt in
    subst (λ z. LevelFaultAt z (length z - length rest)) (sym e.split) (level_fault e.front rest e.stood e.alive e.held e.only)

parsed_right : (ts : List Element) → IsRight ts (parsed ts)
parsed_right ts = judged_right ts _ _ (out ts budget Start LEVELS tt (enough_budget Start))

-- the laws

answers : (ts : List Element) (a : Result m.Unit Fault) → (parsed ts ≡ a) ↔ IsRight ts a
answers ts a = (λ e. subst (λ z. IsRight ts z) e (parsed_right ts), λ h. one_answer ts (parsed ts) a (parsed_right ts) h)

pub the_spelled : TheSpelled
the_spelled ts t = answers ts (Ok t)

pub wrong_place : WrongPlace
wrong_place ts i = answers ts (Err (wrong_at i))

pub first_deep : FirstDeep
first_deep ts i = answers ts (Err (deep_at i))

pub deep_place : DeepPlace
deep_place ts i e =
    let h : LevelFaultAt ts i = (first_deep ts i).0 e in
    let front = take (i + 1) ts in (
      h.1,
      λ us ds d. h.3 (subst (λ z. Within LEVELS z) (take-append_seam front us) (begun_take (derives_begun d) (length front))),
    )

pub one_parser : OneParser
one_parser = (parsed_right, λ f right ts. one_answer ts (f ts) (parsed ts) (right ts) (parsed_right ts))
