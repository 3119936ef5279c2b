use Rattle.std.proofs.Common.{◌≡◌, ℕ, [], map, slice_index_or, ap, ◌∙◌}
use Rattle.std.specs.Prelude.{◌||◌}
use Rattle.aud_meaning.specs.Configuration.{All}
use Rattle.aud_meaning.specs.Parts.{any, contains}
use Rattle.aud_meaning.specs.Ties.Part.{Part}
use Rattle.aud_code.specs.Places.{Spot}
use Rattle.aud_over.specs.Over.{forgotten, object_names}
use Rattle.aud_state.specs.Held.{given_back, is_held, keeps}
use Rattle.aud_state.specs.View.{all_of, plain_object, plain_task}
use Rattle.aud_state.proofs.Giving.{given_back_so, given_held, given_left}
use Rattle.aud_state.proofs.state.State.forget_frames.Goals as goal
use Rattle.aud_state.proofs.state.State.forget_frames.Goals.{After-forget}

abbrev before : After-forget → All Spot
before c = let i = c.self.inside in all_of i.tasks.items i.progress i.calls i.objects.items

tasks_kept : (c : After-forget) (f : ℕ) → contains f c.in_ok-kept.kept.items ≡ any (keeps f) (before c).tasks
tasks_kept c f = c.in_ok-kept.ensures f ∙ ap (λ ts. any (keeps f) (map plain_task ts)) c.deref.ensures.value

all_kept : (c : After-forget) (f : ℕ) → contains f c.deref_mut.result.now ≡ (contains f c.in_ok-kept.kept.items || any (object_names f) (before c).shared.objects)
all_kept c f =
    ap (contains f) c.deref_mut.ensures.value
    ∙ c.in_ok-put_around.ensures f
    ∙ ap (λ os. contains f c.in_ok-kept.kept.items || any (object_names f) (map plain_object os)) c.deref-2.ensures.value

pub returns-clause-given_back : goal.returns-clause-given_back
returns-clause-given_back c =
    let at = (goal.at.returns-clause-given_back c).After-forget in
    let i = c.self.inside in
    ap (λ (p : Part Spot). all_of i.tasks.items p i.calls i.objects.items) c.forget.ensures
    ∙ given_back_so (before at) c.in_ok-kept.kept.items c.deref_mut.result.now (tasks_kept at) (all_kept at)
    ∙ ap given_back c.self.view_is

pub returns-clause-left : goal.returns-clause-left
returns-clause-left c =
    let at = (goal.at.returns-clause-left c).After-forget in
    let i = c.self.inside in
    ap (λ (p : Part Spot). forgotten (all_of i.tasks.items p i.calls i.objects.items)) c.forget.ensures
    ∙ given_left (before at) c.in_ok-kept.kept.items c.deref_mut.result.now (tasks_kept at) (all_kept at)
    ∙ ap forgotten c.self.view_is

pub returns-clause-held : goal.returns-clause-held
returns-clause-held c = λ frame h.
    let at = (goal.at.returns-clause-held c).After-forget in
    ap (λ (p : Part Spot). slice_index_or p.frames frame []) c.forget.ensures
    ∙ given_held (before at) c.in_ok-kept.kept.items c.deref_mut.result.now (tasks_kept at) (all_kept at) frame (ap (is_held frame) c.self.view_is ∙ h)
    ∙ ap (λ (s : All Spot). slice_index_or s.shared.frames frame []) c.self.view_is
