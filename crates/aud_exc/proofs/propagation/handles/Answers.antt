use Rattle.std.proofs.Common.{◌∙◌}
use Rattle.aud_exc.proofs.Handling.{named}
use Rattle.aud_exc.proofs.propagation.handles.Goals as goal

pub returns-else-guard : goal.returns-else-guard
returns-else-guard c = rw (c.if-guard.false, ← c.deref.ensures.value) (c.contains.ensures.value ∙ named c.args.exception c.deref.result.now)
