use Rattle.std.proofs.Common.{◌≡◌, ℕ, map, ap, ◌∙◌}
use Rattle.aud_meaning.specs.Configuration.{All}
use Rattle.aud_meaning.specs.Parts.{contains, owns}
use Rattle.aud_code.specs.Places.{Spot}
use Rattle.aud_over.specs.Over.{forgotten, is_served, with_kept}
use Rattle.aud_calls.specs.View.{Kept}
use Rattle.aud_state.specs.Held.{calls_given_back}
use Rattle.aud_state.specs.View.{all_of, plain_task}
use Rattle.aud_state.proofs.CallsGiven.{calls_left_over, left_same}
use Rattle.aud_state.proofs.state.State.forget_calls.Goals as goal
use Rattle.aud_state.proofs.state.State.forget_calls.Goals.{After-forget}

abbrev before : After-forget → All Spot
before c = let i = c.self.inside in all_of i.tasks.items i.progress i.calls i.objects.items

served_there : (c : After-forget) (n : ℕ) → contains n c.deref-2.result.now ≡ is_served (owns (before c).tasks) n
served_there c n =
    ap (contains n) c.deref-2.ensures.value
    ∙ c.in_ok-served.ensures n
    ∙ ap (λ ts. is_served (owns (map plain_task ts)) n) c.deref.ensures.value

given : (c : After-forget) → (let i = c.self.inside in all_of i.tasks.items i.progress c.forget.new.self i.objects.items) ≡ calls_given_back c.args.self.now
given c =
    let i = c.self.inside in
    ap (λ (k : Kept). all_of i.tasks.items i.progress k i.objects.items) c.forget.ensures
    ∙ ap (λ cs. with_kept (before c).shared.frames cs (before c)) (left_same (λ n. contains n c.deref-2.result.now) (is_served (owns (before c).tasks)) (served_there c) 0 (before c).shared.calls)
    ∙ ap calls_given_back c.self.view_is

pub returns-clause-given_back : goal.returns-clause-given_back
returns-clause-given_back c = given ((goal.at.returns-clause-given_back c).After-forget)

pub returns-clause-left : goal.returns-clause-left
returns-clause-left c = ap forgotten (given ((goal.at.returns-clause-left c).After-forget)) ∙ calls_left_over c.args.self.now
