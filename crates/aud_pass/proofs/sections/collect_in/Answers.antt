use Rattle.aud_pass.proofs.Looks.{told_of}
use Rattle.aud_pass.proofs.sections.collect_in.Goals as goal

pub returns-clause-told : goal.returns-clause-told
returns-clause-told c = told_of c.args.pass.now c.args.hall.now c.look.result c.look.new.pass c.got.ensures.right c.look.ensures.answers c.look.ensures.exact
