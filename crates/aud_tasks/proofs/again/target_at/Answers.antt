use Rattle.std.proofs.Common.{sym, ◌∙◌}
use Rattle.aud_meaning.specs.Parts.{own_of}
use Rattle.aud_meaning.specs.Run.{construct_left}
use Rattle.aud_tasks.specs.Turning.{coming_in}
use Rattle.aud_tasks.proofs.MoveLaws.Again.{again_as, ending_is, makes_again, never_ending}
use Rattle.aud_tasks.proofs.again.target_at.Goals as goal

pub returns-then-comes_to_end : goal.returns-then-comes_to_end
returns-then-comes_to_end c =
    let s = c.args.state.now in
    let n = c.args.task in
    let o = own_of n s in
    makes_again c.args.code.now n s c.target_of.result
    (c.target_of.ensures ∙ sym (again_as o.pending o.again c.args.again (construct_left o) c.requires.quiet c.requires.made))
    (λ plan. ending_is (coming_in plan c.args.code.now n s) (sym (c.comes_to_end.ensures plan) ∙ c.if-comes_to_end.true))

pub returns-else-comes_to_end : goal.returns-else-comes_to_end
returns-else-comes_to_end c = λ plan comes.
    never_ending (coming_in plan c.args.code.now c.args.task c.args.state.now) (sym (c.comes_to_end.ensures plan) ∙ c.if-comes_to_end.false) comes
