use Rattle.aud_parse.proofs.build.in_order.Goals as goal

pub returns : goal.returns
returns c = c.boxed.ensures
