-- The lines of the frames that a task has open, frame by frame.
use Rattle.std.proofs.Common.{◌≡◌, cond, ℕ, zero, suc, ◌+◌, ◌<◌, ℤ, List, [], ◌∷◌, ◌++◌, length, min, take, drop, map, Vec, get_or, slice_index_or, refl, ap, sym, ◌∙◌, arith}
use Rattle.std.specs.Fmt.{decimal}
use Rattle.std.specs.Global.{Global}
use Rattle.std.proofs.lemmas.List.{drop_more, length-map, take-map, take_min}
use Rattle.aud_typed.specs.declared.program.Named as declared
use Rattle.aud_typed.specs.Tree.{Named, Plan}
use Rattle.aud_typed.specs.Ties.View.{plain_named, plain_region}
use Rattle.aud_meaning.specs.Configuration.{Frame, Opened}
use Rattle.aud_meaning.specs.Listings.{cells_of, frame_lines, is_hidden, opened_lines, values}
use Rattle.aud_store.specs.declared.stack.Open.{Open}
use Rattle.aud_store.specs.Ties.Extents.{extent, extent_in}
use Rattle.aud_debug.specs.Ties.Extents.{extent_lines}
use Rattle.aud_debug.proofs.Cells.{names_lines}

abbrev line_of : ℕ → Named → List ℤ → List ℕ
line_of depth v cells = decimal depth ++ 32 ∷ (v.name ++ 32 ∷ 61 ∷ values v.shown (take (cells_of v.shown) cells))

-- the names that are not elaborated are not looked at
first_names : (depth n : ℕ) (vs : List Named) (cells : List ℤ) → frame_lines depth n vs cells ≡ frame_lines depth (length (take n vs)) (take n vs) cells
first_names depth zero vs cells = refl
first_names depth (suc n) [] cells = refl
first_names depth (suc n) (v ∷ vs) cells =
    ap (λ rest. cond (is_hidden v.shown) rest (line_of depth v cells ∷ rest)) (first_names depth n vs (drop (cells_of v.shown) cells))

elaborated_lines : (depth n : ℕ) (vs : List Named) (names : List declared.Named) (cells : List ℤ) → map plain_named names ≡ take n vs → frame_lines depth n vs cells ≡ names_lines depth names cells
elaborated_lines depth n vs names cells are =
    first_names depth n vs cells
    ∙ ap (λ l. frame_lines depth (length l) l cells) (sym are)
    ∙ ap (λ k. frame_lines depth k (map plain_named names) cells) (length-map names plain_named)

pub elaborated_of : (names : List declared.Named) (k m : ℕ) (region : List Named) → m ≡ min k (length names) → map plain_named names ≡ region → map plain_named (take m names) ≡ take k region
elaborated_of names k m region is are =
    ap (λ j. map plain_named (take j names)) is
    ∙ ap (map plain_named) (take_min k names)
    ∙ sym (take-map plain_named k names)
    ∙ ap (take k) are

pub region_found : (rs : List (Vec declared.Named Global)) (n : ℕ) (r : Vec declared.Named Global) → n < length rs → r ≡ get_or rs n r → slice_index_or (map plain_region rs) n [] ≡ plain_region r
region_found [] n r within is = absurd (omega (arith, within))
region_found (x ∷ rs) zero r within is = ap plain_region (sym is)
region_found (x ∷ rs) (suc n) r within is = region_found rs n r (omega (arith, within)) is

pub next_frame : (regions : List (List Named)) (frames : List Frame) (os : List Open) (i : ℕ) (o : Open) (names : List declared.Named) (cells : List ℤ) → i < length os → o ≡ get_or os i o →
    map plain_named names ≡ take o.elaborated (slice_index_or regions o.region []) → cells ≡ slice_index_or frames o.frame [] →
    extent_lines regions (i + 1) (map extent_in (drop i os)) frames ≡ names_lines (i + 1) names cells ++ extent_lines regions (i + 1 + 1) (map extent_in (drop (i + 1) os)) frames
next_frame regions frames os i o names cells within at are is =
    let further_in : suc (i + 1) ≡ i + 1 + 1 = omega arith in
    let vs = slice_index_or regions o.region [] in
    ap (λ l. extent_lines regions (i + 1) (map extent_in l) frames) (drop_more os i o within ∙ ap (λ x. x ∷ drop (i + 1) os) (sym at))
    ∙ ap (λ l. frame_lines (i + 1) o.elaborated vs l ++ extent_lines regions (suc (i + 1)) (map extent_in (drop (i + 1) os)) frames) (sym is)
    ∙ ap (λ l. l ++ extent_lines regions (suc (i + 1)) (map extent_in (drop (i + 1) os)) frames) (elaborated_lines (i + 1) o.elaborated vs names cells are)
    ∙ ap (λ d. names_lines (i + 1) names cells ++ extent_lines regions d (map extent_in (drop (i + 1) os)) frames) further_in

pub extents_opened : (plan : Plan) (depth : ℕ) (os : List Opened) (frames : List Frame) → extent_lines plan.regions depth (map extent os) frames ≡ opened_lines plan depth os frames
extents_opened plan depth [] frames = refl
extents_opened plan depth (o ∷ os) frames =
    ap (λ l. frame_lines depth o.elaborated (slice_index_or plan.regions o.region []) (slice_index_or frames o.frame []) ++ l) (extents_opened plan (suc depth) os frames)
