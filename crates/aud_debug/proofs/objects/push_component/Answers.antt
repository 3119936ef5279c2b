use Rattle.std.proofs.Common.{◌≡◌, ◌++◌, ◌∷◌, [], false, ap, sym, codes, ◌∙◌}
use Rattle.std.specs.Prelude.{if◌then◌else◌}
use Rattle.std.specs.Fmt.{decimal}
use Rattle.aud_typed.specs.Ties.View.{plain_named}
use Rattle.aud_meaning.specs.Listings.Values.{is_hidden, values}
use Rattle.aud_debug.proofs.Ended.{line_ended}
use Rattle.aud_debug.proofs.Watched.{added_as, component_told}
use Rattle.aud_debug.proofs.objects.push_component.Goals as goal

pub returns : goal.returns
returns c =
    let v = plain_named c.args.component.now in
    let out = c.args.page.now.bytes.items in
    let number = decimal c.args.number in
    let name = c.args.name.now in
    let cells = values v.shown c.args.cells.now in
    let line = number ++ 32 ∷ ((name ++ 46 ∷ v.name) ++ 32 ∷ 61 ∷ cells) in
    let shown : false ≡ is_hidden v.shown = sym c.if-is_hidden.false ∙ c.is_hidden.ensures in
    let space = c.in_ok-extend_from_slice.ensures.items ∙ ap (λ x. x ++ codes " ") c.in_ok-push_decimal.ensures in
    let named = c.in_ok-extend_from_slice-2.ensures.items ∙ ap (λ x. x ++ name) space in
    let point = c.in_ok-extend_from_slice-3.ensures.items ∙ ap (λ x. x ++ codes ".") named in
    let component = c.in_ok-extend_from_slice-4.ensures.items ∙ (ap (λ w. c.extend_from_slice-3.new.self.items ++ w) c.as_bytes.ensures ∙ ap (λ x. x ++ v.name) point) in
    let equal = c.in_ok-extend_from_slice-5.ensures.items ∙ ap (λ x. x ++ codes " =") component in
    let told = c.in_ok-push_values.ensures ∙ (ap (λ x. x ++ cells) equal ∙ component_told out number name v.name cells) in
    added_as c.args.page.now c.end_line.new.self _ _ (ap (λ b. if b then [] else line ∷ []) shown)
    (line_ended out _ _ line _ _ told c.in_ok-end_line.ensures.bytes c.in_ok-end_line.ensures.count)
