use Rattle.std.proofs.Common.{sym, ◌∙◌, arith}
use Rattle.aud_tasks.proofs.Running.Hindering.{all_idle, next_idle, none_idle}
use Rattle.aud_tasks.proofs.hindering.are_idle.Goals as goal

pub loop-object-init : goal.loop-object-init
loop-object-init c = none_idle c.args.state.now

pub loop-object-preserved : goal.loop-object-preserved
loop-object-preserved c = next_idle c.args.state.now c.loop-object.object c.loop-object.invariant (sym c.is_idle.ensures ∙ c.if-not-is_idle.false)

pub returns : goal.returns
returns c = λ so. all_idle c.args.state.now c.loop-object.object (omega arith) c.loop-object.invariant
