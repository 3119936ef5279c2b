-- Code whose steps end as those of code in memory do has, by its form, the ways that they take.
use Rattle.std.proofs.Common.{◌≡◌, ℕ, zero, suc, List, [], ◌∷◌, drop, Option, None, Some, refl, ap, ◌∙◌, subst, slice_get}
use Rattle.std.proofs.lemmas.Option.{same_Some}
use Rattle.aud_code.specs.declared.line.Among.{Among}
use Rattle.aud_code.specs.declared.line.Among.TheVariants as among
use Rattle.aud_code.specs.declared.line.EndLine.{EndLine}
use Rattle.aud_code.specs.declared.line.Ending.{Ending}
use Rattle.aud_code.specs.declared.line.Ending.TheVariants.{Loop, Block}
use Rattle.aud_code.specs.declared.line.Last.{Last}
use Rattle.aud_code.specs.declared.line.Last.TheVariants.{Does, Concerns, Continues, Guards, Ends, Leaves}
use Rattle.aud_code.specs.Flat as flat
use Rattle.aud_code.specs.View.{beside, inside_of, plain_among, plain_ending, plain_found, plain_last, ways_of, EndsPlainly}
use Rattle.aud_framed.specs.Stepping.{HasWays, LeadsWhere}

does_lead : (e : Ending) (next : ℕ) → LeadsWhere (flat.Does (plain_ending e)) (next ∷ inside_of e)
does_lead (Loop f inside) next = tt
does_lead (Block region inside) next = tt
does_lead e next = tt

among_lead : (a : Among) (ns : List ℕ) → LeadsWhere (flat.Does (plain_among a)) ns
among_lead (among.DeclareTasks ts) ns = tt
among_lead a ns = tt

leads : (last : Last) → LeadsWhere (plain_last last) (ways_of last)
leads (Does e next) = does_lead e next
leads (Concerns a next) = among_lead a (next ∷ beside a)
leads (Continues f behind inside) = tt
leads (Guards gs) = refl
leads (Ends c next) = tt
leads (Leaves n to) = tt

-- what ends the step at a place where an ending stands
end_found : (ls : List flat.FlatLine) (n place : ℕ) (l : flat.EndLine) → slice_get ls n ≡ Some (flat.end l) → flat.end_from (drop n ls) place ≡ l
end_found [] n place l e = absurd cc
end_found (flat.instructs i ∷ ls) zero place l e = absurd cc
end_found (flat.end x ∷ ls) zero place l e = ap ending (same_Some (flat.end x) (flat.end l) e)
  where
    ending : flat.FlatLine → flat.EndLine
    ending (flat.instructs i) = x
    ending (flat.end y) = y
end_found (x ∷ ls) (suc n) place l e = end_found ls n place l e

pub plain_ways : (code : flat.Flat) → EndsPlainly code → HasWays code
plain_ways code plainly n l e = by (plainly n).0 ((plainly n).1 ∙ end_found code.lines n n l e)
  where
    by : (x : Option EndLine) → plain_found n x ≡ l → LeadsWhere l.last l.ways
    by None q = subst (λ (y : flat.EndLine). LeadsWhere y.last y.ways) q tt
    by (Some x) q = subst (λ (y : flat.EndLine). LeadsWhere y.last y.ways) q (leads x.last)
