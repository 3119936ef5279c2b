use Rattle.std.proofs.Common.{sym, ap, subst, ◌∙◌}
use Rattle.aud_meaning.specs.Run.{master_left_by}
use Rattle.aud_meaning.specs.Ties.Stack.{Stack, out_of_loops}
use Rattle.aud_sequential.specs.Standing.{LeavesIn}
use Rattle.aud_sequential.proofs.Leaving.{none_left, some_left}
use Rattle.aud_sequential.proofs.standing.Standing.master_left.Goals as goal

pub returns-then-leaves_construct : goal.returns-then-leaves_construct
returns-then-leaves_construct c = λ p at.
    some_left c.args.code.now p c.innermost_master.result
    (c.innermost_master.ensures ∙ ap (λ (s : Stack). master_left_by (out_of_loops s).opened) (sym at.stack))
    (subst (LeavesIn c.args.code.now p) c.if-leaves_construct.true (c.leaves_construct.ensures p at))

pub returns-else-leaves_construct : goal.returns-else-leaves_construct
returns-else-leaves_construct c = λ p at.
    none_left c.args.code.now p
    (subst (LeavesIn c.args.code.now p) c.if-leaves_construct.false (c.leaves_construct.ensures p at))
