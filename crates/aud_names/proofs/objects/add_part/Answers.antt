use Rattle.std.proofs.Common.{◌≡◌, ◌++◌, ◌∷◌, [], ◌+◌, ℕ, Bool, false, List, None, if◌then◌else◌, ap, sym, ◌∙◌, rules}
use Rattle.std.specs.Str.{bytes_eq}
use Rattle.indexmap.proofs.CallerLemmas.{insert_entry-new}
use Rattle.aud_names.specs.declared.names.Meaning.{Meaning}
use Rattle.aud_names.specs.Names.{Symbol, Region, named_in, is_declared}
use Rattle.aud_names.specs.Objects.{part_meaning, part_cells}
use Rattle.aud_names.specs.Ties.Regions.{plain_region}
use Rattle.aud_names.proofs.objects.add_part.Goals as goal

pub returns : goal.returns
returns c =
    let name = c.args.name.now in
    let kind = c.args.kind in
    let r : Region = plain_region c.args.region.now in
    let m : Meaning = part_meaning kind c.args.instance (record { level = r.level; index = r.cells }) in
    let made : List Symbol → ℕ → ℕ → Region = λ l cells names. record r { symbols = l; cells = cells; names = names } in
    let more : Region = made (r.symbols ++ (name, m) ∷ []) (r.cells + part_cells kind) (r.names + part_cells kind) in
    let known : is_declared name r.symbols ≡ false = search rules in
    let none : named_in name r.symbols ≡ None = search rules in
    let last = insert_entry-new bytes_eq c.args.region.now.symbols name m none in
    let grown : c.insert.new.symbols.entries ≡ r.symbols ++ (name, m) ∷ [] = search rules in
    let cells : c.in_ok-cells.cells ≡ r.cells + part_cells kind = search rules in
    let names : c.in_ok-names.names ≡ r.names + part_cells kind = search rules in
    ap (λ l. made l c.in_ok-cells.cells c.in_ok-names.names) grown ∙ ap (λ n. made (r.symbols ++ (name, m) ∷ []) n c.in_ok-names.names) cells ∙ ap (made (r.symbols ++ (name, m) ∷ []) (r.cells + part_cells kind)) names
    ∙ sym (ap (λ (b : Bool). if b then r else more) known)
