use Rattle.std.proofs.Common.{ap, rules, ◌∙◌}
use Rattle.std.proofs.lemmas.Fn.{filter_same}
use Rattle.std.proofs.lemmas.List.Filters.{dedup_is}
use Rattle.aud_meaning.specs.Configuration as meaning
use Rattle.aud_meaning.specs.Parts.{is_queued, numbers}
use Rattle.aud_calls.specs.View.{Kept}
use Rattle.aud_calls.proofs.CallLaws.Found.{all_found}
use Rattle.aud_calls.proofs.calls.Calls.all_queued.Goals as goal

pub returns : goal.returns
returns c =
    all_found _ _ c.self.inside.queues c.self.invariant _ _ _ _ c.in_ok-ids.ensures
    (filter_same _ _ _ (λ x b f' k. search rules) _ _ c.retain.ensures.filtered)
    c.sort_unstable.ensures.permutation c.sort_unstable.ensures.sorted
    (dedup_is _ _ _ c.dedup.ensures.filtered)
    ∙ ap (λ (w : Kept). numbers (λ (x : meaning.Call). is_queued x.state) 0 w.calls) c.self.view_is
