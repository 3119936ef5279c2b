-- The code of a program is sound.
use Rattle.std.proofs.Common.{◌≡◌, ℕ, zero, suc, ◌+◌, ◌≤◌, List, [], ◌∷◌, ◌++◌, length, map, slice_get, Option, Some, None, sym, ap, subst, arith, length-append}
use Rattle.aud_typed.specs.Tree.{Body, BooleanExpression, Program}
use Rattle.aud_layout.specs.Layout.{What, does, continues, guards, ends, leaves, Line, body_size, unit_code, units_code, starts_from, spare_from, code_of}
use Rattle.aud_code.specs.Places.{Way, Guard}
use Rattle.aud_layout.proofs.Standing.Places.{length-unit}
use Rattle.aud_code.specs.Instruction.{Instruction, If}
use Rattle.aud_code.specs.Flat.{Does, EndLine, FlatLine, instructs, end}
use Rattle.aud_layout.specs.Assembly.{offset, guard_moved, last_by, way_moved, end_line, instructions_by, assembled_from, flat_program}
use Rattle.aud_code.specs.Sound.{no_counts, LastFine, IsStart, EachStart, WayStart, GuardsStart, LastLeads, Leads, AllDecide, IsSound}
use Rattle.aud_layout.specs.Instructions.{condition_code}
use Rattle.aud_layout.specs.Activations.{ActivatesInParts}
use Rattle.aud_layout.proofs.Flat.Made.{whole_code, fine_condition}
use Rattle.aud_layout.proofs.Flat.Starting.{starts_fine}
use Rattle.aud_layout.proofs.Flat.Within.{PlacesIn, WayIn, GuardsIn, WhatIn, LineIn, LinesIn, one_and}
use Rattle.aud_layout.proofs.Flat.Beginning.{places_within, begins}
use Rattle.aud_layout.proofs.Flat.FramesLaw.{each_fits, bodies_framed}
use Rattle.aud_layout.proofs.Flat.Activating.{LineActivates, EachActivates, one_then, each_activates}

abbrev IsEnd : Option FlatLine → Type 0
IsEnd None = ⊥
IsEnd (Some (instructs i)) = ⊥
IsEnd (Some (end l)) = Unit {0}

abbrev end_or : EndLine → Option FlatLine → EndLine
end_or d None = d
end_or d (Some (instructs i)) = d
end_or d (Some (end l)) = l

module _ (f : ℕ → ℕ) (T : ℕ) (X : List FlatLine) (start : (n : ℕ) → n ≤ T → IsStart X (f n)) where
  each : (ns : List ℕ) → PlacesIn T ns → EachStart X (map f ns)
  each [] h = tt
  each (n ∷ ns) h = (start n h.0, each ns h.1)

  way : (w : Option Way) → WayIn T w → WayStart X (way_moved f w)
  way None h = tt
  way (Some w) h = start w.to h

  guarding : (gs : List Guard) → GuardsIn T gs → GuardsStart X (map (guard_moved f) gs)
  guarding [] h = tt
  guarding (g ∷ gs) h = (start g.to h.0, guarding gs h.1)

  lasts : (w : What) → WhatIn T w → LastLeads X (last_by f w)
  lasts (does a) h = tt
  lasts (continues g) h = tt
  lasts (guards gs) h = guarding gs h
  lasts (ends c next) h = start next h
  lasts (leaves n next) h = start next h

  line_leads : (l : Line) → LineIn T l → LineActivates f X l → Leads X (end_line f l)
  line_leads l h k =
      record { out = start l.out h.out; ways = each l.ways h.ways; bodies = each l.bodies h.bodies; exit = way l.exit h.exit; last = lasts l.what h.what; activates = k.before }

  among : (is : List Instruction) (e : EndLine) (rest : List FlatLine) (n : ℕ) → Leads X e → ((m : ℕ) (l : EndLine) → slice_get rest m ≡ Some (end l) → Leads X l) → (l : EndLine) → slice_get ((map instructs is ++ end e ∷ []) ++ rest) n ≡ Some (end l) → Leads X l
  among [] e rest zero h more l g = subst (Leads X) (ap (end_or e) g) h
  among [] e rest (suc n) h more l g = more n l g
  among (i ∷ is) e rest zero h more l g = absurd (subst IsEnd (sym g) tt)
  among (i ∷ is) e rest (suc n) h more l g = among is e rest n h more l g

  leads_in : (ls : List Line) → LinesIn T ls → EachActivates f X ls → (n : ℕ) (l : EndLine) → slice_get (assembled_from f ls) n ≡ Some (end l) → Leads X l
  leads_in [] h a zero l g = absurd (subst IsEnd (sym g) tt)
  leads_in [] h a (suc n) l g = absurd (subst IsEnd (sym g) tt)
  leads_in (x ∷ ls) (one_and h hs) (one_then k ks) n l g = among (instructions_by x.what) (end_line f x) (assembled_from f ls) n (line_leads x h k) (λ m j e. leads_in ls hs ks m j e) l g

starts_in : (T : ℕ) (bs : List Body) (at : ℕ) → at + length (units_code bs at) ≤ T → PlacesIn T (starts_from bs at)
starts_in T [] at h = tt
starts_in T (b ∷ bs) at h =
    let next = at + body_size b 1 in
    let n = length-unit b at in
    let m = length-append (unit_code b at) (units_code bs next) in
    (omega (arith, h), starts_in T bs next (omega (arith, h, n, m)))

spare_in : (T : ℕ) (bs : List Body) (at : ℕ) → at + length (units_code bs at) ≤ T → spare_from bs at ≤ T
spare_in T [] at h = omega (arith, h)
spare_in T (b ∷ bs) at h =
    let next = at + body_size b 1 in
    let n = length-unit b at in
    let m = length-append (unit_code b at) (units_code bs next) in
    spare_in T bs next (omega (arith, h, n, m))

all_decide : (bs : List BooleanExpression) → AllDecide (map condition_code bs)
all_decide [] = tt
all_decide (b ∷ bs) = (whole_code (LastFine (Does If)) (condition_code b) no_counts (fine_condition (LastFine (Does If)) b [] no_counts tt), all_decide bs)

pub code_is_sound : (program : Program) → ActivatesInParts program → IsSound (flat_program program)
code_is_sound program activates =
    let lines = (code_of program).lines in
    let f = offset lines in
    let T = length lines in
    let X = assembled_from f lines in
    let all : 0 + length (units_code program.bodies 0) ≤ T = omega arith in
    record {
      operands = λ n h. starts_fine f lines n h n;
      leads = λ n l g. leads_in f T X (λ k h. begins f lines k h) lines (places_within program) (each_activates program activates) n l g;
      starts = (each f T X (λ k h. begins f lines k h) (starts_from program.bodies 0) (starts_in T program.bodies 0 all), begins f lines (spare_from program.bodies 0) (spare_in T program.bodies 0 all));
      frames = each_fits program;
      framed = bodies_framed program;
      barriers = all_decide program.barriers;
    }
