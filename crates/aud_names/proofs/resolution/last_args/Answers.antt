use Rattle.aud_syntax.proofs.Opened.{name_open}
use Rattle.aud_names.proofs.resolution.last_args.Goals as goal

pub returns : goal.returns
returns c = rw (name_open c.args.name.now) (rw c.deref.ensures.value at c.last_of.ensures)
