use Rattle.std.proofs.Common.{filter, nat_eq, not, ap, rules, ◌∙◌, slice_index_or}
use Rattle.std.specs.Prelude.{◌&&◌}
use Rattle.std.proofs.lemmas.Fn.{filter_same}
use Rattle.aud_meaning.specs.Configuration as meaning
use Rattle.aud_meaning.specs.Parts.{is_queued, no_call}
use Rattle.aud_calls.proofs.CallLaws.Found.{both_numbers}
use Rattle.aud_calls.proofs.calls.Calls.queued_by.Goals as goal

pub returns : goal.returns
returns c =
    filter_same _ _ _ (λ x b f' k. search rules) _ _ c.retain.ensures.filtered
    ∙ ap (filter (λ id. not (slice_index_or c.args.self.now.calls id no_call).stays)) c.in_ok-ids.ensures
    ∙ both_numbers (λ (x : meaning.Call). is_queued x.state && nat_eq x.caller c.args.caller) (λ (x : meaning.Call). not x.stays) no_call c.args.self.now.calls
