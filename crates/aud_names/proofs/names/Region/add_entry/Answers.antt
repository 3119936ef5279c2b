use Rattle.std.proofs.Common.{◌≡◌, ◌++◌, ◌∷◌, [], Bool, false, None, if◌then◌else◌, ap, sym, ◌∙◌, rules}
use Rattle.std.specs.Str.{bytes_eq}
use Rattle.indexmap.proofs.CallerLemmas.{insert_entry-new}
use Rattle.aud_names.specs.declared.names.Meaning.{Meaning}
use Rattle.aud_names.specs.declared.names.Meaning.TheVariants.{Entry}
use Rattle.aud_names.specs.declared.names.Owner.TheVariants.{Single}
use Rattle.aud_names.specs.Names.{Region, named_in, is_declared, own_cell}
use Rattle.aud_names.specs.Ties.Regions.{plain_region}
use Rattle.aud_names.proofs.names.Region.add_entry.Goals as goal

pub returns : goal.returns
returns c =
    let name = c.args.name.now in
    let r : Region = plain_region c.args.self.now in
    let entry : Meaning = Entry (record { number = c.args.number; owner = Single (own_cell r.level) }) in
    let more : Region = record r { symbols = r.symbols ++ (name, entry) ∷ [] } in
    let known : is_declared name r.symbols ≡ false = search rules in
    let none : named_in name r.symbols ≡ None = search rules in
    let last = insert_entry-new bytes_eq c.args.self.now.symbols name entry none in
    let grown : c.insert.new.symbols.entries ≡ r.symbols ++ (name, entry) ∷ [] = search rules in
    ap (λ l. record r { symbols = l }) grown ∙ sym (ap (λ (b : Bool). if b then r else more) known)
