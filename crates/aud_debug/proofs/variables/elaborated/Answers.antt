use Rattle.aud_debug.proofs.Frames.{elaborated_of}
use Rattle.aud_debug.proofs.variables.elaborated.Goals as goal

pub returns : goal.returns
returns c = elaborated_of c.names_of-names.result.now c.args.frame.elaborated c.min.result _ c.min.ensures c.names_of-names.ensures
