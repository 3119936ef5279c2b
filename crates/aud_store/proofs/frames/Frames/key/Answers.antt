use Rattle.aud_store.proofs.Framed.{reads_none}
use Rattle.aud_store.proofs.frames.Frames.key.Goals as goal

pub returns : goal.returns
returns c = λ none some. reads_none c.self.inside.made c.args.number c.self.inside.first.items c.self.inside.shelf c.args.self.now c.key.result c.self.view_is c.key.ensures.absent none some
