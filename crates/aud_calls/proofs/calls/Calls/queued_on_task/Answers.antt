use Rattle.std.proofs.Common.{filter, ap, rules, ◌∙◌, slice_index_or}
use Rattle.std.proofs.lemmas.Fn.{filter_same}
use Rattle.aud_meaning.specs.Configuration as meaning
use Rattle.aud_meaning.specs.Parts.{is_queued, is_task, no_call}
use Rattle.aud_calls.proofs.CallLaws.Found.{both_numbers}
use Rattle.aud_calls.proofs.calls.Calls.queued_on_task.Goals as goal

pub returns : goal.returns
returns c =
    filter_same _ _ _ (λ x b f' k. search rules) _ _ c.retain.ensures.filtered
    ∙ ap (filter (λ id. is_task c.args.task (slice_index_or c.args.self.now.calls id no_call).owner)) c.in_ok-ids.ensures
    ∙ both_numbers (λ (x : meaning.Call). is_queued x.state) (λ (x : meaning.Call). is_task c.args.task x.owner) no_call c.args.self.now.calls
