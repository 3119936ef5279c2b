use Rattle.std.proofs.Common.{sym, subst, ap, ◌∙◌}
use Rattle.aud_meaning.specs.Control.{Scene}
use Rattle.aud_meaning.specs.Ties.Part.{Part, rest_of}
use Rattle.aud_code.specs.Flat.{asked_last}
use Rattle.aud_code.specs.Instruction.{Reached}
use Rattle.aud_code.specs.Places.{Spot, loops_of}
use Rattle.aud_code.specs.View.{exit_of, plain_last}
use Rattle.aud_sequential.specs.Shown.{plans_of}
use Rattle.aud_sequential.specs.Steps.{DoesAsked}
use Rattle.aud_sequential.proofs.Keeping.{does_keep, continued_keeps}
use Rattle.aud_sequential.proofs.Steps.{statement_answers, loop_answers}
use Rattle.aud_sequential.proofs.progress.Progress.step_alone.Goals as goal

pub returns-in_ok-act_by-in-Does-clause-does : goal.returns-in_ok-act_by-in-Does-clause-does
returns-in_ok-act_by-in-Does-clause-does c =
    let units = plans_of c.args.units.now in
    let end = c.args.end.now in
    subst (λ (p : Part Spot). (s : Scene) → DoesAsked units c.args.code.now c.args.self.now p (asked_last (plain_last end.last) (loops_of (exit_of end.last)) end.at s (Reached c.args.operands.now))) (sym c.in_ok-act_by-in-Does.ensures)
    (statement_answers units c.args.code.now c.args.self.now end c.requires.there c.in-Does.ending c.in-Does.next c.args.operands.now c.in-Does.is c.requires.fine)

pub returns-in-Continues-clause-does : goal.returns-in-Continues-clause-does
returns-in-Continues-clause-does c =
    let units = plans_of c.args.units.now in
    let end = c.args.end.now in
    subst (λ (p : Part Spot). (s : Scene) → DoesAsked units c.args.code.now c.args.self.now p (asked_last (plain_last end.last) (loops_of (exit_of end.last)) end.at s (Reached c.args.operands.now))) (sym c.continue_loop.ensures)
    (loop_answers units c.args.code.now c.args.self.now end c.requires.there c.in-Continues.control c.in-Continues.behind c.in-Continues.inside c.args.operands.now c.in-Continues.is)

pub returns-in_ok-act_by-in-Does-clause-kept : goal.returns-in_ok-act_by-in-Does-clause-kept
returns-in_ok-act_by-in-Does-clause-kept c =
    ap (λ (p : Part Spot). rest_of p) c.in_ok-act_by-in-Does.ensures
    ∙ does_keep c.args.self.now (plans_of c.args.units.now) c.args.code.now c.in-Does.ending c.args.end.now.at c.in-Does.next c.args.operands.now

pub returns-in-Continues-clause-kept : goal.returns-in-Continues-clause-kept
returns-in-Continues-clause-kept c =
    ap (λ (p : Part Spot). rest_of p) c.continue_loop.ensures
    ∙ continued_keeps c.args.self.now c.in-Continues.control c.in-Continues.behind c.in-Continues.inside
