use Rattle.aud_typed.specs.declared.program.Statement.TheVariants.{Loop}
use Rattle.aud_typed.specs.Ties.View.{plain_statement}
use Rattle.aud_typed.proofs.Opened.{loop_open}
use Rattle.aud_typing.proofs.Notes.{boxes}
use Rattle.aud_check_bodies.proofs.iteration.forever.Goals as goal

pub returns : goal.returns
returns c = boxes plain_statement c.boxed.result (Loop c.args.body) _ c.boxed.ensures (loop_open c.args.body)
