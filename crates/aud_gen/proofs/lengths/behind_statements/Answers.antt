use Rattle.aud_typed.specs.Ties.View.{statements_in}
use Rattle.aud_layout.specs.Layout.{statement_size_by}
use Rattle.aud_layout.specs.Written.{flat_step}
use Rattle.aud_gen.proofs.Counted.{exactly_behind}
use Rattle.aud_gen.proofs.lengths.behind_statements.Goals as goal

pub returns : goal.returns
returns c = exactly_behind c.place_behind.result c.args.place c.statements_length.result (statement_size_by flat_step (statements_in c.args.ss.now) c.args.ways) c.statements_length.ensures c.place_behind.ensures.same c.place_behind.ensures.whole
