use Rattle.std.proofs.Common.{ap, sym, ◌∙◌}
use Rattle.std.specs.Option.{is_some}
use Rattle.aud_meaning.specs.Parts.{own_of}
use Rattle.aud_meaning.specs.Run.{construct_left}
use Rattle.aud_tasks.proofs.MoveLaws.Again.{none_again, none_pending}
use Rattle.aud_tasks.proofs.again.again_at.Goals as goal

pub target_at-requires-clause-quiet : goal.target_at-requires-clause-quiet
target_at-requires-clause-quiet c = ap is_some (sym c.pending.ensures) ∙ sym c.is_some.ensures ∙ c.if-is_some.false

pub target_at-requires-clause-made : goal.target_at-requires-clause-made
target_at-requires-clause-made c = sym c.again.ensures ∙ c.in-Some.is

pub returns-then-is_some : goal.returns-then-is_some
returns-then-is_some c = λ plan comes.
    let o = own_of c.args.task c.args.state.now in
    none_pending o.pending o.again (construct_left o) (ap is_some (sym c.pending.ensures) ∙ sym c.is_some.ensures ∙ c.if-is_some.true)

pub returns-in-None : goal.returns-in-None
returns-in-None c = λ plan comes.
    let o = own_of c.args.task c.args.state.now in
    none_again o.pending o.again (construct_left o) (sym c.again.ensures ∙ c.in-None.is)
