use Rattle.std.proofs.Common.{ap}
use Rattle.aud_syntax.specs.Ties.View.{plain_expressions}
use Rattle.aud_syntax.proofs.Opened.{name_open}
use Rattle.aud_names.proofs.resolution.first_args.Goals as goal

pub returns : goal.returns
returns c = rw (name_open c.args.name.now) (ap plain_expressions c.deref.ensures.value)
