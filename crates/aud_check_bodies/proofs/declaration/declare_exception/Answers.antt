use Rattle.std.proofs.Common.{◌≡◌, false, None, rules}
use Rattle.std.specs.Str.{bytes_eq}
use Rattle.indexmap.proofs.CallerLemmas.{insert_entry-new}
use Rattle.aud_typed.specs.declared.program.Exception.TheVariants.{Declared}
use Rattle.aud_names.specs.declared.names.Meaning.TheVariants.{Exception}
use Rattle.aud_names.specs.Names.{named_in, is_declared}
use Rattle.aud_check_bodies.proofs.declaration.declare_exception.Goals as goal

pub returns-in_ok-push-clause-declared : goal.returns-in_ok-push-clause-declared
returns-in_ok-push-clause-declared c =
    let known : is_declared c.args.ident.now.name c.args.region.now.symbols.entries ≡ false = search rules in
    let none : named_in c.args.ident.now.name c.args.region.now.symbols.entries ≡ None = search rules in
    let last = insert_entry-new bytes_eq c.args.region.now.symbols c.args.ident.now.name (Exception (Declared c.len.result)) none in
    rw known (search rules)
