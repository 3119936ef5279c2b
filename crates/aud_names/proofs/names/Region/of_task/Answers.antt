use Rattle.std.specs.Prelude.{nat_eq, if◌then◌else◌}
use Rattle.std.proofs.Common.{rules, ◌≡◌, ◌+◌, ◌∷◌, List, drop, sym, ap, ◌∙◌, arith}
use Rattle.aud_syntax.proofs.Written.{dropped}
use Rattle.aud_names.specs.declared.entries.EntryName.{EntryName}
use Rattle.aud_names.specs.Names.{Region, with_entry, with_entries}
use Rattle.aud_names.specs.Ties.Regions.{plain_region}
use Rattle.aud_names.proofs.names.Region.of_task.Goals.{then-task_type-entry+in_ok-add_entry, else-task_type-entry}
use Rattle.aud_names.proofs.names.Region.of_task.Goals as goal

pub loop-entry-preserved : goal.loop-entry-preserved
loop-entry-preserved c =
    let i = c.loop-entry.entry-index in
    let n = c.args.task_type in
    let e = c.entry-item.result in
    let r : Region = plain_region c.loop-entry.region in
    let rest : List EntryName = drop (i + 1) c.args.entries.now in
    let opened : drop i c.args.entries.now ≡ e ∷ rest = dropped c.args.entries.now i e (omega arith) c.entry-item.is in
    let one : plain_region c.if-task_type-entry.region ≡ (if nat_eq n e.task_type then with_entry e.name e.number r else r) = elim c.if-task_type-entry.branch [
      | then-task_type-entry+in_ok-add_entry w ↦ search rules
      | else-task_type-entry w ↦ search rules
    ] in
    ap (with_entries n rest) one ∙ ap (λ l. with_entries n l r) (sym opened) ∙ c.loop-entry.invariant
