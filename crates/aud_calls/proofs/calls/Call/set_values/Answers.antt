use Rattle.std.proofs.Common.{List, ℤ, ap, sym, ◌∙◌}
use Rattle.std.specs.Prelude.{Bool, not}
use Rattle.aud_meaning.specs.Tasks as effect
use Rattle.aud_calls.specs.View.{plain_call}
use Rattle.aud_calls.proofs.calls.Call.set_values.Goals as goal

pub returns-then-seen : goal.returns-then-seen
returns-then-seen c = λ go plan barrier.
    let vs = c.args.values.items in
    ap (λ (l : List ℤ). record (plain_call c.args.self.now) { values = vs; unseen = l }) c.clear.ensures.items
    ∙ ap (λ (b : Bool). record (plain_call c.args.self.now) { values = effect.if_seen go plan barrier b vs; unseen = effect.if_seen go plan barrier (not b) vs }) (sym c.if-seen.true)

pub returns-else-seen : goal.returns-else-seen
returns-else-seen c = λ go plan barrier.
    let vs = c.args.values.items in
    ap (λ (l : List ℤ). record (plain_call c.args.self.now) { values = l; unseen = vs }) c.clear-else-seen.ensures.items
    ∙ ap (λ (b : Bool). record (plain_call c.args.self.now) { values = effect.if_seen go plan barrier b vs; unseen = effect.if_seen go plan barrier (not b) vs }) (sym c.if-seen.false)
