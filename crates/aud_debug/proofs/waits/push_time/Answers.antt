use Rattle.std.proofs.Common.{◌++◌, codes}
use Rattle.std.specs.Fmt.{decimal}
use Rattle.aud_debug.proofs.Waiting.{reason_ended}
use Rattle.aud_debug.proofs.waits.push_time.Goals as goal

pub returns : goal.returns
returns c = reason_ended c.args.task c.args.state.now (codes "delay " ++ decimal c.args.time) _ _ _ _ _ _ c.in_ok-push_task.ensures c.in_ok-push_until.ensures c.in_ok-end_line.ensures.bytes c.in_ok-end_line.ensures.count
