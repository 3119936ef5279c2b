use Rattle.std.proofs.Common.{◌∙◌}
use Rattle.aud_store.proofs.Naming.{searched_among}
use Rattle.aud_store.proofs.shelf.is_among.Goals as goal

pub returns : goal.returns
returns c = c.is_ok.ensures.value ∙ searched_among c.args.number c.args.named.now c.binary_search.result c.requires c.binary_search.ensures.position
