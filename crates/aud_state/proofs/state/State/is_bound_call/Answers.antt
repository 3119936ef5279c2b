use Rattle.std.proofs.Common.{ap, ◌∙◌}
use Rattle.std.specs.Prelude.{◌||◌, ◌&&◌}
use Rattle.aud_meaning.specs.Parts.{call_of, is_queued, is_selected}
use Rattle.aud_state.proofs.state.State.is_bound_call.Goals as goal

pub returns : goal.returns
returns c =
    let s = c.args.self.now in
    c.is_bound.ensures
    ∙ ap (λ id. is_selected (call_of id s).state || (is_queued (call_of id s).state && (call_of id s).stays)) c.call.ensures
