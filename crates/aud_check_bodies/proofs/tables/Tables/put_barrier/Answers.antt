use Rattle.std.specs.Prelude.{ℕ, [], Option, length, map, slice_set, Some}
use Rattle.std.proofs.Common.{◌≡◌, ◌<◌, ap, arith, ◌∙◌}
use Rattle.aud_typed.specs.declared.program.Entry.{Entry}
use Rattle.aud_typed.specs.declared.program.EntryBody.{EntryBody}
use Rattle.aud_typed.specs.Ties.View.{entry_with, plain_entry}
use Rattle.aud_check_bodies.specs.Tables.{Tables}
use Rattle.aud_check_bodies.specs.Ties.Tables.{plain_tables}
use Rattle.aud_check_bodies.proofs.Kept.{entry_put}
use Rattle.aud_check_bodies.proofs.tables.Tables.put_barrier.Goals as goal

pub returns-then-number-len : goal.returns-then-number-len
returns-then-number-len c =
    let xs = c.args.self.now.entries.items in
    let x : Entry = c.index_mut-entry.result.now in
    let t : Tables = plain_tables c.args.self.now in
    let within : c.args.number < length xs = omega (arith, c.if-number-len.true, c.len.ensures) in
    let barred : ℕ → Option EntryBody = λ u. Some (record { unit = u; barrier = c.args.barrier }) in
    let made : Entry = record x { body = barred (entry_with [] 0 x.body).unit } in
    let same : record x { body = c.replace.new.dest } ≡ made = ap (λ (b : Option EntryBody). record x { body = b }) (c.replace.ensures.after ∙ ap barred c.body_unit-unit.ensures) in
    ap (λ (e : Entry). record t { entries = map plain_entry (slice_set xs c.args.number e) }) same ∙ ap (λ es. record t { entries = es }) (entry_put xs c.args.number x c.args.barrier within c.index_mut-entry.ensures.value)
