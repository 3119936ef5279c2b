-- The code of bodies in memory, one after the other.
use Rattle.std.proofs.Common.{◌≡◌, ℕ, ◌+◌, List, [], ◌∷◌, ◌++◌, length, refl, ap, sym, ◌∙◌, append-nil, append_assoc, length-append}
use Rattle.std.specs.Prelude.{None, map}
use Rattle.aud_typed.specs.declared.program.Unit as declared
use Rattle.aud_typed.specs.Ties.View.{plain_unit}
use Rattle.aud_typed.proofs.Opened.{body_open}
use Rattle.aud_typed.specs.Tree as tree
use Rattle.aud_meaning.specs.declared.state.Construct.TheVariants as construct
use Rattle.aud_meaning.specs.Items.{no_body}
use Rattle.aud_code.specs.Flat.{FlatLine}
use Rattle.aud_code.specs.Instruction.{Instruction}
use Rattle.aud_layout.specs.Instructions.{condition_code}
use Rattle.aud_layout.specs.Layout.{Around, in_call, body_size_by, end_place_by, unit_code_by, units_code_by, starts_from_by, spare_from_by}
use Rattle.aud_layout.specs.Written.{flat_step, written, written_bodies}
use Rattle.aud_layout.proofs.Flat.Assembly.{assembled_append}
use Rattle.aud_gen.specs.Writes.{body_lines, unit_lines, bodies_in}
use Rattle.aud_gen.proofs.Lines.{continued, body_written}
use Rattle.aud_gen.proofs.Constructs.{body_laid}

unit_size : (b : tree.Body) (place : ℕ) → length (unit_lines b place) ≡ body_size_by flat_step b 1
unit_size b place = let last = end_place_by flat_step b place 1 in body_written construct.Unit b place 0 last (in_call None last)

-- a body, by what is written of it
pub whole_unit : (b : tree.Body) (last : ℕ) (old new : List FlatLine) (a : Around) → last ≡ end_place_by flat_step b (length old) 1 → a ≡ in_call None last → new ≡ old ++ body_lines construct.Unit b last (length old) 0 last a → new ≡ old ++ unit_lines b (length old)
whole_unit b last old new a el ea h =
    let L = end_place_by flat_step b (length old) 1 in
    h
    ∙ ap (λ z. old ++ body_lines construct.Unit b last (length old) 0 last z) ea
    ∙ ap (λ l. old ++ body_lines construct.Unit b l (length old) 0 l (in_call None l)) el
    ∙ ap (λ ls. old ++ ls) (body_laid construct.Unit b (length old) 0 L (in_call None L))

-- What was written so far, and what is left to write of these bodies.

abbrev pub with_units : List FlatLine → List tree.Body → List FlatLine
with_units now bs = now ++ written (units_code_by flat_step bs (length now))

abbrev pub with_starts : List ℕ → List FlatLine → List tree.Body → List ℕ
with_starts starts now bs = starts ++ starts_from_by flat_step bs (length now)

abbrev pub with_spare : List FlatLine → List tree.Body → ℕ
with_spare now bs = spare_from_by flat_step bs (length now)

-- so many lines are there, once a body more is written
unit_there : (b : tree.Body) (now new : List FlatLine) → new ≡ now ++ unit_lines b (length now) → length new ≡ length now + body_size_by flat_step b 1
unit_there b now new h = ap length h ∙ length-append now (unit_lines b (length now)) ∙ ap (λ n. length now + n) (unit_size b (length now))

pub one_unit : (b : tree.Body) (rest : List tree.Body) (now new whole : List FlatLine) → new ≡ now ++ unit_lines b (length now) → with_units now (b ∷ rest) ≡ whole → with_units new rest ≡ whole
one_unit b rest now new whole h left =
    let behind = length now + body_size_by flat_step b 1 in
    continued now new _ (unit_lines b (length now)) (λ place. written (units_code_by flat_step rest place)) _ h (unit_size b (length now)) refl
    ∙ ap (λ ls. now ++ ls) (sym (assembled_append (λ n. n) (unit_code_by flat_step b (length now)) (units_code_by flat_step rest behind)))
    ∙ left

pub one_start : (b : tree.Body) (rest : List tree.Body) (starts more whole : List ℕ) (now new : List FlatLine) → new ≡ now ++ unit_lines b (length now) → more ≡ starts ++ length now ∷ [] → with_starts starts now (b ∷ rest) ≡ whole → with_starts more new rest ≡ whole
one_start b rest starts more whole now new h added left =
    ap (λ ns. ns ++ starts_from_by flat_step rest (length new)) added
    ∙ ap (λ n. (starts ++ length now ∷ []) ++ starts_from_by flat_step rest n) (unit_there b now new h)
    ∙ append_assoc starts (length now ∷ []) (starts_from_by flat_step rest (length now + body_size_by flat_step b 1))
    ∙ left

pub one_spare : (b : tree.Body) (rest : List tree.Body) (whole : ℕ) (now new : List FlatLine) → new ≡ now ++ unit_lines b (length now) → with_spare now (b ∷ rest) ≡ whole → with_spare new rest ≡ whole
one_spare b rest whole now new h left = ap (spare_from_by flat_step rest) (unit_there b now new h) ∙ left

-- all bodies, and the one for numbers that none has
pub units_written : (bs : List tree.Body) (es : List tree.BooleanExpression) (now lines : List FlatLine) (starts : List ℕ) (spare : ℕ) (barriers : List (List Instruction)) → with_units now [] ≡ written (units_code_by flat_step bs 0) → with_starts starts now [] ≡ starts_from_by flat_step bs 0 → with_spare now [] ≡ spare_from_by flat_step bs 0 → spare ≡ length now → lines ≡ now ++ unit_lines no_body (length now) → barriers ≡ map condition_code es → record { lines = lines; starts = starts; spare = spare; barriers = barriers } ≡ written_bodies bs es
units_written bs es now lines starts spare barriers written_all started spared there last are =
    ap (λ ls. record { lines = ls; starts = starts; spare = spare; barriers = barriers }) (last ∙ written_all)
    ∙ ap (λ ns. record { lines = written (units_code_by flat_step bs 0); starts = ns; spare = spare; barriers = barriers }) (sym (append-nil starts) ∙ started)
    ∙ ap (λ n. record { lines = written (units_code_by flat_step bs 0); starts = starts_from_by flat_step bs 0; spare = n; barriers = barriers }) (there ∙ spared)
    ∙ ap (λ is. record { lines = written (units_code_by flat_step bs 0); starts = starts_from_by flat_step bs 0; spare = spare_from_by flat_step bs 0; barriers = is }) are

-- the bodies of a program are those of its units
pub bodies_open : (units : List declared.Unit) → bodies_in units ≡ map (λ (u : tree.UnitBody). u.body) (map plain_unit units)
bodies_open [] = refl
bodies_open (u ∷ us) = ap (λ b. b ∷ bodies_in us) (sym (body_open u.body)) ∙ ap (λ bs. (plain_unit u).body ∷ bs) (bodies_open us)
