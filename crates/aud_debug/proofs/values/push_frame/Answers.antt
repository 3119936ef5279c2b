use Rattle.std.proofs.Common.{◌≡◌, ◌+◌, ◌∙◌, ap, arith, length, min, take, drop, subst}
use Rattle.std.proofs.lemmas.List.{drop_all, take_min, drop_min}
use Rattle.aud_typed.specs.Ties.View.{plain_named}
use Rattle.aud_meaning.specs.Listings.{cells_of}
use Rattle.aud_debug.specs.Ties.Pages.{variable_lines}
use Rattle.aud_debug.proofs.Pages.{Comes, comes_more, comes_all}
use Rattle.aud_debug.proofs.Cells.{names_lines, next_lines}
use Rattle.aud_debug.proofs.values.push_frame.Goals as goal

pub loop-named-preserved : goal.loop-named-preserved
loop-named-preserved c =
    let names = c.args.names.now in
    let depth = c.args.depth in
    let left = c.loop-named.left.now in
    let i = c.loop-named.named-index in
    let v = c.named-item.result in
    let own = c.split_at.result.0.now in
    let behind = c.split_at.result.1.now in
    let many : c.min.result ≡ min (cells_of (plain_named v).shown) (length left) = c.min.ensures ∙ ap (λ n. min n (length left)) c.cells_of.ensures in
    comes_more c.loop-named.page c.push_variable.new.page c.args.page.now (variable_lines depth (plain_named v) own) (names_lines depth (drop (i + 1) names) behind) (names_lines depth (drop i names) left) (names_lines depth names c.args.cells.now)
    c.in_ok-push_variable.ensures
    (next_lines depth names i v left own behind (omega arith) c.named-item.is
    (c.split_at.ensures.front ∙ ap (λ n. take n left) many ∙ take_min (cells_of (plain_named v).shown) left)
    (c.split_at.ensures.back ∙ ap (λ n. drop n left) many ∙ drop_min (cells_of (plain_named v).shown) left))
    c.loop-named.invariant

pub returns : goal.returns
returns c =
    let names = c.args.names.now in
    let depth = c.args.depth in
    let left = c.loop-named.left.now in
    let all = names_lines depth names c.args.cells.now in
    comes_all c.loop-named.page c.args.page.now all
    (subst (λ l. Comes c.loop-named.page c.args.page.now l all) (ap (λ l. names_lines depth l left) (drop_all c.loop-named.named-index names (omega arith))) c.loop-named.invariant)
