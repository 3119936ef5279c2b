use Rattle.aud_typed.specs.declared.program.Statement.TheVariants.{Accept}
use Rattle.aud_typed.specs.Ties.View.{plain_statement}
use Rattle.aud_typing.proofs.Notes.{boxes}
use Rattle.aud_check_bodies.proofs.Parts.{accepted_statement}
use Rattle.aud_check_bodies.proofs.made.accepted.Goals as goal

pub returns : goal.returns
returns c = boxes plain_statement c.boxed.result (Accept c.args.statement) _ c.boxed.ensures (accepted_statement c.args.statement.value)
