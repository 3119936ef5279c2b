use Rattle.std.proofs.Common.{◌||◌, ◌&&◌, not, ap, sym, ◌∙◌}
use Rattle.aud_meaning.specs.Parts.{any, contains}
use Rattle.aud_calls.proofs.Lists.{contains_same}
use Rattle.aud_state.proofs.task.Task.is_hit.Goals as goal

pub returns-then-contains : goal.returns-then-contains
returns-then-contains c = λ go plan barrier.
    let n = c.args.n in
    let under = any (λ m. contains m c.args.self.now.masters.items) c.args.bodies.now in
    let is = c.contains.ensures.value ∙ contains_same n c.args.named.now in
    c.if-contains.true
    ∙ ap (λ b. b || under) (sym c.if-contains.true ∙ is)
    ∙ ap (λ b. not b && (contains n c.args.named.now || under)) (c.if-not-is_terminated.ensures)

pub returns-else-contains : goal.returns-else-contains
returns-else-contains c = λ go plan barrier.
    let n = c.args.n in
    let under = any (λ m. contains m c.args.self.now.masters.items) c.args.bodies.now in
    let is = c.contains.ensures.value ∙ contains_same n c.args.named.now in
    c.is_under_any.ensures
    ∙ ap (λ b. b || under) (sym c.if-contains.false ∙ is)
    ∙ ap (λ b. not b && (contains n c.args.named.now || under)) (c.if-not-is_terminated.ensures)
