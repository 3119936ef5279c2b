use Rattle.std.specs.Prelude.{List, Option}
use Rattle.std.proofs.Common.{◌≡◌, ◌+◌, ◌∷◌, drop, sym, ap, subst, ◌∙◌, arith}
use Rattle.aud_syntax.specs.declared.tree.Ident.{Ident}
use Rattle.aud_syntax.proofs.Written.{dropped}
use Rattle.aud_fault.specs.declared.fault.Fault.{Fault}
use Rattle.aud_fault.specs.Least.{noted}
use Rattle.aud_names.specs.declared.names.Instance.{Instance}
use Rattle.aud_names.specs.declared.parts.PartKind.{PartKind}
use Rattle.aud_names.specs.Names.{Region}
use Rattle.aud_names.specs.Objects.{with_part}
use Rattle.aud_names.specs.Rules.{declared_once}
use Rattle.aud_names.specs.Ties.Regions.{plain_region}
use Rattle.aud_check_bodies.specs.Objects.{with_all_parts, parts_twice}
use Rattle.aud_typing.proofs.Notes.{noted_append}
use Rattle.aud_check_bodies.proofs.object.add_components.Goals as goal

-- the faults of one component more
one_noted : (kind : PartKind) (o : Instance) (i : Ident) (is : List Ident) (r s : Region) (old new : Option Fault) → s ≡ with_part i.name kind o r → new ≡ noted old (declared_once i.name i.at r.symbols) → noted new (parts_twice is kind o s) ≡ noted old (parts_twice (i ∷ is) kind o r)
one_noted kind o i is r s old new p q =
    let next : Region = with_part i.name kind o r in
    ap (λ z. noted new (parts_twice is kind o z)) p ∙ ap (λ z. noted z (parts_twice is kind o next)) q ∙ sym (noted_append old (declared_once i.name i.at r.symbols) (parts_twice is kind o next))

pub loop-other-init : goal.loop-other-init
loop-other-init c =
    let ns = c.args.names.now in
    let h = c.in_ok-add_component.ensures in
    record {
      region = ap (with_all_parts ns.others.items c.args.kind c.args.instance) h.region;
      noted = one_noted c.args.kind c.args.instance ns.first ns.others.items (plain_region c.args.own.now) (plain_region c.add_component.new.own) c.args.faults.now c.add_component.new.faults h.region h.noted;
    }

pub loop-other-preserved : goal.loop-other-preserved
loop-other-preserved c =
    let xs = c.args.names.now.others.items in
    let seen = c.deref-other-items.result.now in
    let i = c.loop-other.other-index in
    let x = c.other-item.result in
    let kind = c.args.kind in
    let o = c.args.instance in
    let r : Region = plain_region c.loop-other.own in
    let old = c.loop-other.faults in
    let rest : List Ident = drop (i + 1) xs in
    let next : drop i xs ≡ x ∷ rest = subst (λ l. drop i l ≡ x ∷ drop (i + 1) l) c.deref-other-items.ensures.value (dropped seen i x (omega arith) c.other-item.is) in
    let h = c.in_ok-add_component-2.ensures in
    record {
      region = ap (with_all_parts rest kind o) h.region ∙ ap (λ is. with_all_parts is kind o r) (sym next) ∙ c.loop-other.invariant.region;
      noted = one_noted kind o x rest r (plain_region c.add_component-in-loop-other.new.own) old c.add_component-in-loop-other.new.faults h.region h.noted
          ∙ ap (λ is. noted old (parts_twice is kind o r)) (sym next) ∙ c.loop-other.invariant.noted;
    }
