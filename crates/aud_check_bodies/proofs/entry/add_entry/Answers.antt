use Rattle.std.specs.Prelude.{ℕ, List, [], ◌∷◌, ◌++◌}
use Rattle.std.proofs.Common.{◌≡◌, ap, ◌∙◌}
use Rattle.std.proofs.lemmas.Result.{on_ok_weaker}
use Rattle.aud_names.specs.declared.entries.EntryName.{EntryName}
use Rattle.aud_names.specs.Names.{Region, with_entry}
use Rattle.aud_names.specs.Ties.Regions.{plain_region}
use Rattle.aud_check_bodies.specs.Entries.{Entries}
use Rattle.aud_check_bodies.specs.Tables.{Tables, next_entry, entry_kept}
use Rattle.aud_check_bodies.specs.Ties.Tables.{plain_tables}
use Rattle.aud_check_bodies.proofs.entry.add_entry.Goals as goal

pub returns : goal.returns
returns c =
    let name = c.args.name.now in
    let task_type = c.args.task_type in
    let profile = c.args.profile.items in
    let old = c.args.entries.now in
    let t = plain_tables c.args.tables.now in
    let n = next_entry t in
    let numbered : c.next_entry-number.result ≡ n = c.next_entry-number.ensures in
    let made : Region → List EntryName → Tables → Entries = λ own names tables. record { own = own; names = names; tables = tables } in
    let listed : List ℕ → ℕ → List EntryName = λ l k. old.names.items ++ (record { task_type = task_type; name = l; number = k }) ∷ [] in
    let own : plain_region c.add_entry.new.self ≡ with_entry name n (plain_region old.own) = c.in_ok-add_entry.ensures ∙ ap (λ k. with_entry name k (plain_region old.own)) numbered in
    let names : c.push.new.self.items ≡ listed name n = c.in_ok-push.ensures.items ∙ ap (λ l. listed l c.next_entry-number.result) c.in_ok-found.ensures ∙ ap (listed name) numbered in
    on_ok_weaker c.keep_entry.result (λ kept.
    ap (λ r. made r c.push.new.self.items (plain_tables c.keep_entry.new.self)) own ∙ ap (λ l. made (with_entry name n (plain_region old.own)) l (plain_tables c.keep_entry.new.self)) names
    ∙ ap (made (with_entry name n (plain_region old.own)) (listed name n)) (kept ∙ ap (λ l. entry_kept l profile t) c.in_ok-listed.ensures)) c.keep_entry.ensures
