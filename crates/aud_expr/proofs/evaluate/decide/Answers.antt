use Rattle.std.proofs.Common.{map, refl, ap, ◌∙◌}
use Rattle.aud_code.specs.Flat.{decided_by}
use Rattle.aud_code.specs.View.{plain_line}
use Rattle.aud_expr.proofs.Instructions.{scene_of}
use Rattle.aud_expr.proofs.Marking.{has_truth, not_marked}
use Rattle.aud_expr.proofs.evaluate.decide.Goals as goal

pub evaluate_until-requires-clause-fine : goal.evaluate_until-requires-clause-fine
evaluate_until-requires-clause-fine g c = c.requires.fine

pub unreachable-requires : goal.unreachable-requires
unreachable-requires g c =
    let s = scene_of (g.F.Facts.facts c.args.facts.now) 0 0 c.args.display.now c.args.frames.now in
    not_marked (map plain_line c.args.lines.now) 0 s c.evaluate_until.new.operands ((rw c.in-Marks.is at c.in_ok-halt.ensures.ends) s refl refl refl refl refl)

pub truth_at-requires : goal.truth_at-requires
truth_at-requires g c = has_truth c.in-Ends.outcome (map plain_line c.args.lines.now) c.evaluate_until.new.operands c.requires.taken (rw c.in-Ends.is at c.in_ok-halt.ensures.fits)

pub returns-clause-met : goal.returns-clause-met
returns-clause-met g c = λ s ed ef ek et eo. c.truth_at.ensures ∙ ap decided_by ((rw c.in-Ends.is at c.in_ok-halt.ensures.ends) s ed ef ek et eo)
