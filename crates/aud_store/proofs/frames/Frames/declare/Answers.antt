use Rattle.std.proofs.Common.{◌++◌, replicate}
use Rattle.aud_store.specs.Ties.Shelf.{frame_of}
use Rattle.aud_store.proofs.Framed.{below_made, first_written, shelf_written}
use Rattle.aud_store.proofs.frames.Frames.declare.Goals as goal

pub returns-then-frame-eq0-clause-declared : goal.returns-then-frame-eq0-clause-declared
returns-then-frame-eq0-clause-declared c =
    first_written c.self.inside.made c.args.frame c.self.inside.first.items c.lengthen.new.cells.items c.self.inside.shelf c.args.self.now (λ vs. vs ++ replicate c.args.count c.args.value) c.self.view_is c.requires c.if-frame-eq0.true
    c.in_ok-lengthen.ensures.longer

pub lengthen-requires-2-clause-within : goal.lengthen-requires-2-clause-within
lengthen-requires-2-clause-within c = below_made c.self.inside.made c.args.frame (frame_of c.self.inside.first.items c.self.inside.shelf) c.args.self.now c.self.view_is c.requires

pub returns-clause-declared : goal.returns-clause-declared
returns-clause-declared c =
    shelf_written c.self.inside.made c.args.frame c.self.inside.first.items c.self.inside.shelf c.lengthen-2.new.self c.args.self.now (λ vs. vs ++ replicate c.args.count c.args.value) c.self.view_is c.requires c.if-frame-eq0.false
    c.in_ok-lengthen-2.ensures.longer
