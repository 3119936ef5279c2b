use Rattle.std.specs.Prelude.{[], List, false}
use Rattle.std.proofs.Common.{◌≡◌, ◌+◌, ◌∷◌, drop, map, refl, sym, ap, ◌∙◌, arith}
use Rattle.std.proofs.lemmas.List.{drop_all}
use Rattle.aud_syntax.specs.Plain as m
use Rattle.aud_syntax.specs.Ties.View.{plain_operation}
use Rattle.aud_syntax.proofs.Written.{dropped}
use Rattle.aud_fault.specs.declared.fault.Fault.{Fault}
use Rattle.aud_fault.specs.Least.{noted}
use Rattle.aud_names.specs.Ties.Regions.{plain_regions}
use Rattle.aud_check_bodies.specs.Objects.{ObjectDeclared, one_operation, declared_operations, operation_faults, operations_faults}
use Rattle.aud_check_bodies.specs.Ties.Objects.{plain_parts}
use Rattle.aud_typing.proofs.Notes.{noted_append}
use Rattle.aud_check_bodies.proofs.object.declare_operations.Goals as goal

pub loop-next-init : goal.loop-next-init
loop-next-init c = record { declared = refl; noted = refl }

pub loop-next-preserved : goal.loop-next-preserved
loop-next-preserved c =
    let l = c.args.list.now in
    let i = c.loop-next.next-index in
    let n = c.args.object in
    let o = plain_operation c.next-item.result in
    let outer = plain_regions c.args.outer.now in
    let old = c.loop-next.faults in
    let x : ObjectDeclared = plain_parts c.loop-next.parts c.loop-next.around c.loop-next.tables in
    let next : ObjectDeclared = one_operation n false o outer x in
    let rest : List m.Operation = map plain_operation (drop (i + 1) l) in
    let opened : map plain_operation (drop i l) ≡ o ∷ rest = ap (map plain_operation) (dropped l i c.next-item.result (omega arith) c.next-item.is) in
    let one : List Fault = operation_faults o outer x in
    record {
      declared = ap (declared_operations n rest outer) c.in_ok-declare_operation.ensures.declared ∙ ap (λ os. declared_operations n os outer x) (sym opened) ∙ c.loop-next.invariant.declared;
      noted = ap (λ y. noted c.declare_operation.new.faults (operations_faults n rest outer y)) c.in_ok-declare_operation.ensures.declared ∙ ap (λ f. noted f (operations_faults n rest outer next)) c.in_ok-declare_operation.ensures.noted
          ∙ sym (noted_append old one (operations_faults n rest outer next)) ∙ ap (λ os. noted old (operations_faults n os outer x)) (sym opened) ∙ c.loop-next.invariant.noted;
    }

pub returns-clause-declared : goal.returns-clause-declared
returns-clause-declared c =
    let l = c.args.list.now in
    let i = c.loop-next.next-index in
    let gone : map plain_operation (drop i l) ≡ [] = ap (map plain_operation) (drop_all i l c.loop-next-test.false) in
    ap (λ os. declared_operations c.args.object os (plain_regions c.args.outer.now) (plain_parts c.loop-next.parts c.loop-next.around c.loop-next.tables)) (sym gone) ∙ c.loop-next.invariant.declared

pub returns-clause-noted : goal.returns-clause-noted
returns-clause-noted c =
    let l = c.args.list.now in
    let i = c.loop-next.next-index in
    let gone : map plain_operation (drop i l) ≡ [] = ap (map plain_operation) (drop_all i l c.loop-next-test.false) in
    ap (λ os. noted c.loop-next.faults (operations_faults c.args.object os (plain_regions c.args.outer.now) (plain_parts c.loop-next.parts c.loop-next.around c.loop-next.tables))) (sym gone) ∙ c.loop-next.invariant.noted
