use Rattle.std.specs.Prelude.{ℕ, List, [], true}
use Rattle.std.proofs.Common.{◌≡◌, ◌+◌, ◌∷◌, drop, sym, ap, subst, ◌∙◌, arith}
use Rattle.std.proofs.lemmas.List.{append_assoc}
use Rattle.aud_syntax.specs.declared.tree.Ident.{Ident}
use Rattle.aud_syntax.proofs.Written.{dropped}
use Rattle.aud_names.specs.declared.parts.PartKind.{PartKind}
use Rattle.aud_names.specs.Names.{Region}
use Rattle.aud_names.specs.Ties.Regions.{plain_region}
use Rattle.aud_check_bodies.specs.Objects.{object_part, with_object_parts, component_parts}
use Rattle.aud_check_bodies.proofs.object.add_component_parts.Goals as goal

-- one component more
one_more : (object : ℕ) (kind : PartKind) (i : Ident) (is : List Ident) (r s : Region) → s ≡ with_object_parts (object_part object true i kind ∷ []) r → with_object_parts (component_parts object is kind) s ≡ with_object_parts (component_parts object (i ∷ is) kind) r
one_more object kind i is r s e =
    ap (with_object_parts (component_parts object is kind)) e ∙ ap {B = Region} (λ ps. record r { parts = ps }) (append_assoc r.parts (object_part object true i kind ∷ []) (component_parts object is kind))

pub loop-other-init : goal.loop-other-init
loop-other-init c =
    let ns = c.args.names.now in
    one_more c.args.object c.args.kind ns.first ns.others.items (plain_region c.args.around.now) (plain_region c.add_object_part.new.around) c.in_ok-add_object_part.ensures

pub loop-other-preserved : goal.loop-other-preserved
loop-other-preserved c =
    let xs = c.args.names.now.others.items in
    let seen = c.deref-other-items.result.now in
    let i = c.loop-other.other-index in
    let x = c.other-item.result in
    let n = c.args.object in
    let kind = c.args.kind in
    let r : Region = plain_region c.loop-other.around in
    let rest : List Ident = drop (i + 1) xs in
    let next : drop i xs ≡ x ∷ rest = subst (λ l. drop i l ≡ x ∷ drop (i + 1) l) c.deref-other-items.ensures.value (dropped seen i x (omega arith) c.other-item.is) in
    one_more n kind x rest r (plain_region c.add_object_part-in-loop-other.new.around) c.in_ok-add_object_part-2.ensures
    ∙ ap (λ is. with_object_parts (component_parts n is kind) r) (sym next) ∙ c.loop-other.invariant
