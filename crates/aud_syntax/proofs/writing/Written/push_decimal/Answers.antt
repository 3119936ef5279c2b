use Rattle.aud_syntax.proofs.Written.{refused_before, appended_unless}
use Rattle.aud_syntax.proofs.writing.Written.push_decimal.Goals as goal

pub returns-then-self : goal.returns-then-self
returns-then-self c = refused_before c.if-self.true

pub returns : goal.returns
returns c = appended_unless c.push_decimal.result c.if-self.false c.is_err-self.ensures.value c.push_decimal.ensures
