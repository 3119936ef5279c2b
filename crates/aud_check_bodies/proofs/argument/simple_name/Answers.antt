use Rattle.aud_syntax.proofs.Opened.{simple_open}
use Rattle.aud_check_bodies.proofs.argument.simple_name.Goals as goal

pub returns-in-Some : goal.returns-in-Some
returns-in-Some c = rw (simple_open c.args.simple.now) (rw c.in-Some.is)

pub returns-in-None : goal.returns-in-None
returns-in-None c = rw (simple_open c.args.simple.now) (rw c.in-None.is (rw (simple_open c.args.simple.now) at c.unsigned_name.ensures))
