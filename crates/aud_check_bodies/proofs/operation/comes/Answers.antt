use Rattle.std.specs.Prelude.{List, Option, Some, None}
use Rattle.std.proofs.Common.{ap, sym, subst, ◌∙◌}
use Rattle.aud_names.specs.declared.awaited.AwaitedPart.{AwaitedPart}
use Rattle.aud_names.specs.declared.parts.PartKind.{PartKind}
use Rattle.aud_names.specs.Objects.{is_unit}
use Rattle.aud_names.proofs.Firsts.{Answers, found_answers}
use Rattle.aud_check_bodies.specs.Operations.{part_unit, still_awaited}
use Rattle.aud_check_bodies.proofs.operation.comes.Goals as goal

pub returns-in-Some-index_of_unit : goal.returns-in-Some-index_of_unit
returns-in-Some-index_of_unit c =
    let xs : List AwaitedPart = c.args.awaited.now.items in
    let part = c.in-Some.part in
    let index = c.in-Some-index_of_unit.index in
    let seen = c.deref.result.now in
    let found = found_answers (is_unit c.part_unit.result) seen (Some index) (sym c.in-Some-index_of_unit.is ∙ c.index_of_unit.ensures) in
    let h : Answers (is_unit (part_unit part)) xs (Some index) =
    subst (λ (l : List AwaitedPart). Answers (is_unit (part_unit part)) l (Some index)) c.deref.ensures.value (subst (λ u. Answers (is_unit u) seen (Some index)) c.part_unit.ensures found) in
    c.remove.ensures.items ∙ sym h.1 ∙ ap (λ (f : Option PartKind). still_awaited f xs) (sym c.in-Some.is)

pub returns-in_default-index_of_unit : goal.returns-in_default-index_of_unit
returns-in_default-index_of_unit c =
    let xs : List AwaitedPart = c.args.awaited.now.items in
    let part = c.in-Some.part in
    let seen = c.deref.result.now in
    let found = found_answers (is_unit c.part_unit.result) seen None (sym c.in_default-index_of_unit.is ∙ c.index_of_unit.ensures) in
    let h : Answers (is_unit (part_unit part)) xs None =
    subst (λ (l : List AwaitedPart). Answers (is_unit (part_unit part)) l None) c.deref.ensures.value (subst (λ u. Answers (is_unit u) seen None) c.part_unit.ensures found) in
    sym h.0 ∙ ap (λ (f : Option PartKind). still_awaited f xs) (sym c.in-Some.is)
