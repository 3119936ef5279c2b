use Rattle.std.proofs.Common.{◌++◌}
use Rattle.aud_store.specs.Ties.Shelf.{frame_of}
use Rattle.aud_store.proofs.Framed.{below_made, first_written, shelf_written}
use Rattle.aud_store.proofs.frames.Frames.extend.Goals as goal

pub returns-then-frame-eq0-clause-extended : goal.returns-then-frame-eq0-clause-extended
returns-then-frame-eq0-clause-extended c =
    first_written c.self.inside.made c.args.frame c.self.inside.first.items c.extend_from_slice.new.self.items c.self.inside.shelf c.args.self.now (λ vs. vs ++ c.args.values.now) c.self.view_is c.requires c.if-frame-eq0.true
    c.in_ok-extend_from_slice.ensures.ok

pub extend-requires-clause-within : goal.extend-requires-clause-within
extend-requires-clause-within c = below_made c.self.inside.made c.args.frame (frame_of c.self.inside.first.items c.self.inside.shelf) c.args.self.now c.self.view_is c.requires

pub returns-clause-extended : goal.returns-clause-extended
returns-clause-extended c =
    shelf_written c.self.inside.made c.args.frame c.self.inside.first.items c.self.inside.shelf c.extend.new.self c.args.self.now (λ vs. vs ++ c.args.values.now) c.self.view_is c.requires c.if-frame-eq0.false
    c.in_ok-extend.ensures.longer
