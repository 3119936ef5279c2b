use Rattle.std.proofs.Common.{◌≡◌, false, None, rules}
use Rattle.std.specs.Str.{bytes_eq}
use Rattle.indexmap.proofs.CallerLemmas.{insert_entry-new}
use Rattle.aud_names.specs.declared.names.Meaning.TheVariants.{TaskType}
use Rattle.aud_names.specs.Names.{named_in, is_declared}
use Rattle.aud_check_bodies.proofs.task.add_task_symbol.Goals as goal

pub returns : goal.returns
returns c =
    let known : is_declared c.args.task.now.name.name c.args.region.now.symbols.entries ≡ false = search rules in
    let none : named_in c.args.task.now.name.name c.args.region.now.symbols.entries ≡ None = search rules in
    let last = insert_entry-new bytes_eq c.args.region.now.symbols c.args.task.now.name.name (TaskType c.args.number) none in
    search rules
