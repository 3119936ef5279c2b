use Rattle.std.proofs.Common.{map, refl, subst, sym}
use Rattle.aud_code.specs.View.{plain_line}
use Rattle.aud_expr.specs.Flow.{StepFine}
use Rattle.aud_expr.proofs.Executed.{in_step}
use Rattle.aud_expr.proofs.Instructions.{scene_of}
use Rattle.aud_expr.proofs.Marking.{not_marked}
use Rattle.aud_expr.proofs.evaluate.evaluate.Goals as goal

pub evaluate_until-requires-clause-fine : goal.evaluate_until-requires-clause-fine
evaluate_until-requires-clause-fine g c = subst (λ ls. StepFine ls c.args.first) (sym c.lines.ensures.lines) (c.lines.ensures.sound.operands c.args.first c.requires.begins)

pub unreachable-requires : goal.unreachable-requires
unreachable-requires g c =
    let s = scene_of (g.F.Facts.facts c.args.facts.now) c.args.clock c.args.objects c.args.display.now c.args.frames.now in
    not_marked (map plain_line c.lines.result.now) c.args.first s c.evaluate_until.new.operands ((rw c.in-Marks.is at c.in_ok-halt.ensures.ends) s refl refl refl refl refl)

pub returns-clause-ends : goal.returns-clause-ends
returns-clause-ends g c = rw (c.in-Ends.is, c.lines.ensures.lines) at c.in_ok-halt.ensures.ends

pub returns-clause-reaches : goal.returns-clause-reaches
returns-clause-reaches g c = rw (c.in-Ends.is, c.lines.ensures.lines) at c.in_ok-halt.ensures.reaches

pub returns-clause-fits : goal.returns-clause-fits
returns-clause-fits g c = rw (c.in-Ends.is, c.lines.ensures.lines) at c.in_ok-halt.ensures.fits

pub returns-clause-ticks : goal.returns-clause-ticks
returns-clause-ticks g c = rw c.lines.ensures.lines at c.in_ok-halt.ensures.ticks

pub returns-clause-few : goal.returns-clause-few
returns-clause-few g c = in_step c.args.code.now c.args.first _ (rw c.lines.ensures.lines at c.in_ok-halt.ensures.few)
