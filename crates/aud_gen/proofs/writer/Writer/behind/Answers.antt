use Rattle.std.proofs.Common.{refl}
use Rattle.aud_gen.proofs.Writing.{contradiction}
use Rattle.aud_gen.proofs.writer.Writer.behind.Goals as goal

pub returns-in-Ok : goal.returns-in-Ok
returns-in-Ok c = record { same = refl; unless_refused = λ e. (e, (c.in-Ok.ensures.same, c.in-Ok.ensures.whole)) }

pub returns-in-Err : goal.returns-in-Err
returns-in-Err c = record { same = cc; unless_refused = λ e. contradiction refl e }
