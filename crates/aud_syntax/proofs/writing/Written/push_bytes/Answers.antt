use Rattle.std.proofs.Common.{◌++◌}
use Rattle.aud_syntax.proofs.Refused.{on_ok}
use Rattle.aud_syntax.proofs.Written.{refused_before, appended_unless}
use Rattle.aud_syntax.proofs.writing.Written.push_bytes.Goals as goal

pub returns-then-self : goal.returns-then-self
returns-then-self c = refused_before c.if-self.true

pub returns : goal.returns
returns c =
    let before = c.args.self.now.text.items in
    appended_unless c.extend_from_slice.result c.if-self.false c.is_err-self.ensures.value (on_ok c.extend_from_slice.result c.extend_from_slice.new.self.items (before ++ c.args.bytes.now) before c.extend_from_slice.ensures.items)
