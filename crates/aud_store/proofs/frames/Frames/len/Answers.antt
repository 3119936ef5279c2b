use Rattle.std.proofs.Common.{sym}
use Rattle.aud_store.specs.Ties.Shelf.{frame_of}
use Rattle.aud_store.proofs.Laid.{length_laid}
use Rattle.aud_store.proofs.frames.Frames.len.Goals as goal

pub returns : goal.returns
returns c = rw (← c.self.view_is) (sym (length_laid c.self.inside.made (frame_of c.self.inside.first.items c.self.inside.shelf)))
