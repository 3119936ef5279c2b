use Rattle.std.proofs.Common.{rules}
use Rattle.aud_syntax.proofs.Opened.{name_open}
use Rattle.aud_names.proofs.resolution.resolve.Goals as goal

pub returns-in-Some-clause-denoted : goal.returns-in-Some-clause-denoted
returns-in-Some-clause-denoted c = rw (name_open c.args.name.now) (search rules)

pub returns-in-Some-clause-noted : goal.returns-in-Some-clause-noted
returns-in-Some-clause-noted c = rw (name_open c.args.name.now) (search rules)

pub returns-in-None-clause-denoted : goal.returns-in-None-clause-denoted
returns-in-None-clause-denoted c = rw (name_open c.args.name.now) (search rules)

pub returns-in-None-clause-noted : goal.returns-in-None-clause-noted
returns-in-None-clause-noted c = rw (name_open c.args.name.now) (search rules)
