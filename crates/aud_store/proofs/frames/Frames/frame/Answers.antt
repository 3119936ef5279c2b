use Rattle.std.proofs.Common.{Some, ap, sym, ◌∙◌}
use Rattle.aud_store.proofs.Framed.{kept_got}
use Rattle.aud_store.proofs.frames.Frames.frame.Goals as goal

pub returns-else-number-eq0 : goal.returns-else-number-eq0
returns-else-number-eq0 c =
    kept_got c.self.inside.made c.args.number c.self.inside.first.items c.self.inside.shelf c.args.self.now c.self.view_is c.requires c.if-number-eq0.false
    ∙ ap Some (sym c.cells.ensures)
