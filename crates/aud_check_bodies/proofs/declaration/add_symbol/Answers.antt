use Rattle.std.proofs.Common.{◌≡◌, false, None, rules}
use Rattle.std.specs.Str.{bytes_eq}
use Rattle.indexmap.proofs.CallerLemmas.{insert_entry-new}
use Rattle.aud_names.specs.Names.{named_in, is_declared}
use Rattle.aud_check_bodies.proofs.declaration.add_symbol.Goals as goal

pub returns : goal.returns
returns c =
    let known : is_declared c.args.name.now c.args.region.now.symbols.entries ≡ false = search rules in
    let none : named_in c.args.name.now c.args.region.now.symbols.entries ≡ None = search rules in
    let last = insert_entry-new bytes_eq c.args.region.now.symbols c.args.name.now c.new_meaning-meaning.result none in
    search rules
