use Rattle.std.specs.Prelude.{[], List}
use Rattle.std.proofs.Common.{◌≡◌, ◌+◌, ◌∷◌, drop, map, refl, sym, ap, ◌∙◌, arith}
use Rattle.std.proofs.lemmas.List.{drop_all}
use Rattle.aud_syntax.specs.Plain as m
use Rattle.aud_syntax.specs.Ties.View.{plain_entry}
use Rattle.aud_syntax.proofs.Written.{dropped}
use Rattle.aud_fault.specs.declared.fault.Fault.{Fault}
use Rattle.aud_fault.specs.Least.{noted}
use Rattle.aud_names.specs.Ties.Regions.{plain_regions}
use Rattle.aud_check_bodies.specs.Entries.{Entries, one_entry, declared_entries, entry_faults, entries_faults}
use Rattle.aud_check_bodies.specs.Ties.Entries.{plain_entries}
use Rattle.aud_typing.proofs.Notes.{noted_append}
use Rattle.aud_check_bodies.proofs.entry.declare_entries.Goals as goal

pub loop-next-init : goal.loop-next-init
loop-next-init c = record { declared = refl; noted = refl }

pub loop-next-preserved : goal.loop-next-preserved
loop-next-preserved c =
    let l = c.args.list.now in
    let i = c.loop-next.next-index in
    let n = c.args.task_type in
    let e = plain_entry c.next-item.result in
    let outer = plain_regions c.args.outer.now in
    let old = c.loop-next.faults in
    let t : Entries = plain_entries c.loop-next.entries c.loop-next.tables in
    let next : Entries = one_entry n e outer t in
    let rest : List m.EntryDeclaration = map plain_entry (drop (i + 1) l) in
    let opened : map plain_entry (drop i l) ≡ e ∷ rest = ap (map plain_entry) (dropped l i c.next-item.result (omega arith) c.next-item.is) in
    let one : List Fault = entry_faults e t.own outer in
    record {
      declared = ap (declared_entries n rest outer) c.in_ok-declare_entry.ensures.declared ∙ ap (λ es. declared_entries n es outer t) (sym opened) ∙ c.loop-next.invariant.declared;
      noted = ap (λ u. noted c.declare_entry.new.faults (entries_faults n rest outer u)) c.in_ok-declare_entry.ensures.declared ∙ ap (λ f. noted f (entries_faults n rest outer next)) c.in_ok-declare_entry.ensures.noted
          ∙ sym (noted_append old one (entries_faults n rest outer next)) ∙ ap (λ es. noted old (entries_faults n es outer t)) (sym opened) ∙ c.loop-next.invariant.noted;
    }

pub returns-clause-declared : goal.returns-clause-declared
returns-clause-declared c =
    let l = c.args.list.now in
    let i = c.loop-next.next-index in
    let gone : map plain_entry (drop i l) ≡ [] = ap (map plain_entry) (drop_all i l c.loop-next-test.false) in
    ap (λ es. declared_entries c.args.task_type es (plain_regions c.args.outer.now) (plain_entries c.loop-next.entries c.loop-next.tables)) (sym gone) ∙ c.loop-next.invariant.declared

pub returns-clause-noted : goal.returns-clause-noted
returns-clause-noted c =
    let l = c.args.list.now in
    let i = c.loop-next.next-index in
    let gone : map plain_entry (drop i l) ≡ [] = ap (map plain_entry) (drop_all i l c.loop-next-test.false) in
    ap (λ es. noted c.loop-next.faults (entries_faults c.args.task_type es (plain_regions c.args.outer.now) (plain_entries c.loop-next.entries c.loop-next.tables))) (sym gone) ∙ c.loop-next.invariant.noted
