use Rattle.std.proofs.Common.{◌≡◌, ◌+◌, ◌∙◌, ap, arith, length, min, take, drop, subst}
use Rattle.std.proofs.lemmas.List.{drop_all, take_min, drop_min}
use Rattle.aud_typed.specs.Ties.View.{plain_named}
use Rattle.aud_meaning.specs.Listings.Values.{cells_of}
use Rattle.aud_debug.specs.Ties.Watched.{component_line}
use Rattle.aud_debug.proofs.Pages.{Comes, comes_more, comes_all}
use Rattle.aud_debug.proofs.Watched.{cells_lines, next_component}
use Rattle.aud_debug.proofs.objects.push_cells.Goals as goal

pub loop-component-preserved : goal.loop-component-preserved
loop-component-preserved c =
    let names = c.args.components.now in
    let number = c.args.number in
    let name = c.args.name.now in
    let left = c.loop-component.left.now in
    let i = c.loop-component.component-index in
    let v = c.component-item.result in
    let own = c.split_at.result.0.now in
    let behind = c.split_at.result.1.now in
    let many : c.min.result ≡ min (cells_of (plain_named v).shown) (length left) = c.min.ensures ∙ ap (λ n. min n (length left)) c.cells_of.ensures in
    comes_more c.loop-component.page c.push_component.new.page c.args.page.now (component_line number name (plain_named v) own) (cells_lines number name (drop (i + 1) names) behind) (cells_lines number name (drop i names) left) (cells_lines number name names c.args.cells.now)
    c.in_ok-push_component.ensures
    (next_component number name names i v left own behind (omega arith) c.component-item.is
    (c.split_at.ensures.front ∙ ap (λ n. take n left) many ∙ take_min (cells_of (plain_named v).shown) left)
    (c.split_at.ensures.back ∙ ap (λ n. drop n left) many ∙ drop_min (cells_of (plain_named v).shown) left))
    c.loop-component.invariant

pub returns : goal.returns
returns c =
    let names = c.args.components.now in
    let number = c.args.number in
    let name = c.args.name.now in
    let left = c.loop-component.left.now in
    let all = cells_lines number name names c.args.cells.now in
    comes_all c.loop-component.page c.args.page.now all
    (subst (λ l. Comes c.loop-component.page c.args.page.now l all) (ap (λ l. cells_lines number name l left) (drop_all c.loop-component.component-index names (omega arith))) c.loop-component.invariant)
