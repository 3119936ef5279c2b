-- The lines of a frame, variable by variable, and the values of a variable, cell by cell.
use Rattle.std.proofs.Common.{◌≡◌, Bool, true, false, cond, ℕ, ◌+◌, ◌<◌, ℤ, List, [], ◌∷◌, ◌++◌, length, take, drop, map, get_or, refl, ap, sym, ◌∙◌, append_assoc}
use Rattle.std.proofs.lemmas.List.{drop_more}
use Rattle.aud_typed.specs.declared.program.Named as declared
use Rattle.aud_typed.specs.Tree.{Shown}
use Rattle.aud_typed.specs.Ties.View.{plain_named}
use Rattle.aud_meaning.specs.Listings.{cells_of, frame_lines, is_hidden, shown_one, values}
use Rattle.aud_debug.specs.Ties.Pages.{variable_lines}

abbrev pub names_lines : ℕ → List declared.Named → List ℤ → List (List ℕ)
names_lines depth names cells = frame_lines depth (length names) (map plain_named names) cells

by_hidden : (b : Bool) (line : List ℕ) (rest : List (List ℕ)) → cond b rest (line ∷ rest) ≡ cond b [] (line ∷ []) ++ rest
by_hidden true line rest = refl
by_hidden false line rest = refl

first_lines : (depth : ℕ) (v : declared.Named) (vs : List declared.Named) (cells : List ℤ) →
    names_lines depth (v ∷ vs) cells ≡ variable_lines depth (plain_named v) (take (cells_of (plain_named v).shown) cells) ++ names_lines depth vs (drop (cells_of (plain_named v).shown) cells)
first_lines depth v vs cells = by_hidden (is_hidden (plain_named v).shown) _ (names_lines depth vs (drop (cells_of (plain_named v).shown) cells))

pub next_lines : (depth : ℕ) (vs : List declared.Named) (i : ℕ) (v : declared.Named) (cells own behind : List ℤ) → i < length vs → v ≡ get_or vs i v →
    own ≡ take (cells_of (plain_named v).shown) cells → behind ≡ drop (cells_of (plain_named v).shown) cells →
    names_lines depth (drop i vs) cells ≡ variable_lines depth (plain_named v) own ++ names_lines depth (drop (i + 1) vs) behind
next_lines depth vs i v cells own behind within at is left =
    ap (λ l. names_lines depth l cells) (drop_more vs i v within ∙ ap (λ x. x ∷ drop (i + 1) vs) (sym at))
    ∙ first_lines depth v (drop (i + 1) vs) cells
    ∙ ap (λ l. variable_lines depth (plain_named v) l ++ names_lines depth (drop (i + 1) vs) (drop (cells_of (plain_named v).shown) cells)) (sym is)
    ∙ ap (λ l. variable_lines depth (plain_named v) own ++ names_lines depth (drop (i + 1) vs) l) (sym left)

-- of one more cell
pub next_value : (shown : Shown) (zs : List ℤ) (i : ℕ) (z d : ℤ) (out spaced more all : List ℕ) → i < length zs → z ≡ get_or zs i d →
    spaced ≡ out ++ 32 ∷ [] → more ≡ spaced ++ shown_one shown z → out ++ values shown (drop i zs) ≡ all → more ++ values shown (drop (i + 1) zs) ≡ all
next_value shown zs i z d out spaced more all within at space adds before =
    ap (λ l. l ++ values shown (drop (i + 1) zs)) (adds ∙ ap (λ l. l ++ shown_one shown z) space)
    ∙ append_assoc (out ++ 32 ∷ []) (shown_one shown z) (values shown (drop (i + 1) zs))
    ∙ append_assoc out (32 ∷ []) (shown_one shown z ++ values shown (drop (i + 1) zs))
    ∙ ap (λ l. out ++ values shown l) (ap (λ y. y ∷ drop (i + 1) zs) at ∙ sym (drop_more zs i d within))
    ∙ before
