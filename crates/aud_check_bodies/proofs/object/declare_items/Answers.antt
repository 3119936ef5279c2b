use Rattle.std.specs.Prelude.{[], List, false}
use Rattle.std.proofs.Common.{◌≡◌, ◌+◌, ◌∷◌, drop, map, refl, sym, ap, ◌∙◌, arith}
use Rattle.std.proofs.lemmas.List.{drop_all}
use Rattle.aud_syntax.specs.Plain as m
use Rattle.aud_syntax.specs.Ties.View.{plain_private_item}
use Rattle.aud_syntax.proofs.Written.{dropped}
use Rattle.aud_fault.specs.declared.fault.Fault.{Fault}
use Rattle.aud_fault.specs.Least.{noted}
use Rattle.aud_names.specs.Ties.Regions.{plain_regions}
use Rattle.aud_check_bodies.specs.Objects.{ObjectDeclared, one_item, declared_items, item_faults, items_faults}
use Rattle.aud_check_bodies.specs.Ties.Objects.{plain_parts}
use Rattle.aud_typing.proofs.Notes.{noted_append}
use Rattle.aud_check_bodies.proofs.object.declare_items.Goals as goal

pub loop-next-init : goal.loop-next-init
loop-next-init c = record { declared = refl; noted = refl }

pub loop-next-preserved : goal.loop-next-preserved
loop-next-preserved c =
    let l = c.args.list.now in
    let i = c.loop-next.next-index in
    let n = c.args.object in
    let o = plain_private_item c.next-item.result in
    let outer = plain_regions c.args.outer.now in
    let old = c.loop-next.faults in
    let x : ObjectDeclared = plain_parts c.loop-next.parts c.loop-next.around c.loop-next.tables in
    let next : ObjectDeclared = one_item n o outer x in
    let rest : List m.PrivateItem = map plain_private_item (drop (i + 1) l) in
    let opened : map plain_private_item (drop i l) ≡ o ∷ rest = ap (map plain_private_item) (dropped l i c.next-item.result (omega arith) c.next-item.is) in
    let one : List Fault = item_faults n o outer x in
    record {
      declared = ap (declared_items n rest outer) c.in_ok-declare_item.ensures.declared ∙ ap (λ os. declared_items n os outer x) (sym opened) ∙ c.loop-next.invariant.declared;
      noted = ap (λ y. noted c.declare_item.new.faults (items_faults n rest outer y)) c.in_ok-declare_item.ensures.declared ∙ ap (λ f. noted f (items_faults n rest outer next)) c.in_ok-declare_item.ensures.noted
          ∙ sym (noted_append old one (items_faults n rest outer next)) ∙ ap (λ os. noted old (items_faults n os outer x)) (sym opened) ∙ c.loop-next.invariant.noted;
    }

pub returns-clause-declared : goal.returns-clause-declared
returns-clause-declared c =
    let l = c.args.list.now in
    let i = c.loop-next.next-index in
    let gone : map plain_private_item (drop i l) ≡ [] = ap (map plain_private_item) (drop_all i l c.loop-next-test.false) in
    ap (λ os. declared_items c.args.object os (plain_regions c.args.outer.now) (plain_parts c.loop-next.parts c.loop-next.around c.loop-next.tables)) (sym gone) ∙ c.loop-next.invariant.declared

pub returns-clause-noted : goal.returns-clause-noted
returns-clause-noted c =
    let l = c.args.list.now in
    let i = c.loop-next.next-index in
    let gone : map plain_private_item (drop i l) ≡ [] = ap (map plain_private_item) (drop_all i l c.loop-next-test.false) in
    ap (λ os. noted c.loop-next.faults (items_faults c.args.object os (plain_regions c.args.outer.now) (plain_parts c.loop-next.parts c.loop-next.around c.loop-next.tables))) (sym gone) ∙ c.loop-next.invariant.noted
