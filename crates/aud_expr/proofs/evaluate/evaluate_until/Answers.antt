use Rattle.std.proofs.Common.{◌≡◌, ◌≤◌, length, drop, map, refl, sym, ap, ◌∙◌, arith}
use Rattle.std.proofs.lemmas.List.{drop_all, length-map}
use Rattle.aud_code.specs.Flat.{instructions_from}
use Rattle.aud_code.specs.Instruction.{no_operands}
use Rattle.aud_code.specs.Frames.{found_from}
use Rattle.aud_code.specs.View.{plain_end, plain_line}
use Rattle.aud_expr.proofs.Executed.{no_more}
use Rattle.aud_expr.proofs.Instructions.{line_read, scene_of, needed, passes_on, goes_on, raised, raised_ticks, stopped, stopped_ticks, at_end, fits_end, end_ticks, none_met, last_ticks}
use Rattle.aud_expr.proofs.evaluate.evaluate_until.Goals as goal

pub returns-in-End-clause-ends : goal.returns-in-End-clause-ends
returns-in-End-clause-ends g c = at_end _ _ _ _ _ _ _ _ _ _ _ _ c.loop-place.invariant.stands (plain_end c.in-End.field-0) (rw c.in-End.is at (line_read c.args.lines.now (length c.args.lines.now) c.loop-place.place c.index-lines-place.result refl (omega arith) c.index-lines-place.is))

pub returns-in-End-clause-reaches : goal.returns-in-End-clause-reaches
returns-in-End-clause-reaches g c = c.loop-place.invariant.stands.meets

pub returns-in-End-clause-fits : goal.returns-in-End-clause-fits
returns-in-End-clause-fits g c = fits_end _ _ _ _ _ _ _ _ _ _ _ _ c.loop-place.invariant.stands (plain_end c.in-End.field-0) (rw c.in-End.is at (line_read c.args.lines.now (length c.args.lines.now) c.loop-place.place c.index-lines-place.result refl (omega arith) c.index-lines-place.is))

pub returns-in-End-clause-ticks : goal.returns-in-End-clause-ticks
returns-in-End-clause-ticks g c = end_ticks _ _ _ _ _ _ _ _ _ _ _ _ c.loop-place.invariant.stands (plain_end c.in-End.field-0) (rw c.in-End.is at (line_read c.args.lines.now (length c.args.lines.now) c.loop-place.place c.index-lines-place.result refl (omega arith) c.index-lines-place.is))

pub loop-place-preserved-then-passed-gt0 : goal.loop-place-preserved-then-passed-gt0
loop-place-preserved-then-passed-gt0 g c = record {
  stands = passes_on _ _ _ _ _ _ _ _ _ _ c.in-Instruction.instruction (rw c.in-Instruction.is at (line_read c.args.lines.now (length c.args.lines.now) c.loop-place.place c.index-lines-place.result refl (omega arith) c.index-lines-place.is)) _ _ c.if-passed-gt0.true c.loop-place.invariant.stands;
  few = omega (arith, c.loop-place.invariant.few);
}

pub eval_step-requires-clause-finds : goal.eval_step-requires-clause-finds
eval_step-requires-clause-finds g c =
    let none : c.loop-place.passed ≡ 0 = omega (arith, c.if-passed-gt0.false) in
    needed _ _ _ _ _ _ _ _ _ _ c.in-Instruction.instruction (rw c.in-Instruction.is at (line_read c.args.lines.now (length c.args.lines.now) c.loop-place.place c.index-lines-place.result refl (omega arith) c.index-lines-place.is)) _ (rw none at c.loop-place.invariant.stands)

pub returns-in-Raises-clause-ends : goal.returns-in-Raises-clause-ends
returns-in-Raises-clause-ends g c =
    let none : c.loop-place.passed ≡ 0 = omega (arith, c.if-passed-gt0.false) in
    raised _ _ _ _ _ _ _ _ _ _ c.in-Instruction.instruction (rw c.in-Instruction.is at (line_read c.args.lines.now (length c.args.lines.now) c.loop-place.place c.index-lines-place.result refl (omega arith) c.index-lines-place.is)) _ (rw none at c.loop-place.invariant.stands) c.eval_step.new.operands c.in-Raises.raise (rw c.in-Raises.is at c.in_ok-flow.ensures.acts)

pub returns-in-Raises-clause-ticks : goal.returns-in-Raises-clause-ticks
returns-in-Raises-clause-ticks g c =
    let none : c.loop-place.passed ≡ 0 = omega (arith, c.if-passed-gt0.false) in
    rw c.eval_step.ensures.tick (raised_ticks _ _ _ _ _ _ _ _ _ _ c.in-Instruction.instruction (rw c.in-Instruction.is at (line_read c.args.lines.now (length c.args.lines.now) c.loop-place.place c.index-lines-place.result refl (omega arith) c.index-lines-place.is)) _ (rw none at c.loop-place.invariant.stands) c.eval_step.new.operands c.in-Raises.raise (rw c.in-Raises.is at c.in_ok-flow.ensures.acts))

pub returns-in-Stops-clause-ends : goal.returns-in-Stops-clause-ends
returns-in-Stops-clause-ends g c =
    let none : c.loop-place.passed ≡ 0 = omega (arith, c.if-passed-gt0.false) in
    stopped _ _ _ _ _ _ _ _ _ _ c.in-Instruction.instruction (rw c.in-Instruction.is at (line_read c.args.lines.now (length c.args.lines.now) c.loop-place.place c.index-lines-place.result refl (omega arith) c.index-lines-place.is)) _ (rw none at c.loop-place.invariant.stands) c.eval_step.new.operands (rw c.in-Stops.is at c.in_ok-flow.ensures.acts)

pub returns-in-Stops-clause-ticks : goal.returns-in-Stops-clause-ticks
returns-in-Stops-clause-ticks g c =
    let none : c.loop-place.passed ≡ 0 = omega (arith, c.if-passed-gt0.false) in
    rw c.eval_step.ensures.tick (stopped_ticks _ _ _ _ _ _ _ _ _ _ c.in-Instruction.instruction (rw c.in-Instruction.is at (line_read c.args.lines.now (length c.args.lines.now) c.loop-place.place c.index-lines-place.result refl (omega arith) c.index-lines-place.is)) _ (rw none at c.loop-place.invariant.stands) c.eval_step.new.operands (rw c.in-Stops.is at c.in_ok-flow.ensures.acts))

pub returns-in-Stops-clause-few : goal.returns-in-Stops-clause-few
returns-in-Stops-clause-few g c =
    let none : c.loop-place.passed ≡ 0 = omega (arith, c.if-passed-gt0.false) in
    let s = scene_of (g.F.Facts.facts c.args.facts.now) c.args.clock c.args.objects c.args.display.now c.args.frames.now in
    let all = stopped_ticks _ _ _ _ _ _ _ _ _ _ c.in-Instruction.instruction (rw c.in-Instruction.is at (line_read c.args.lines.now (length c.args.lines.now) c.loop-place.place c.index-lines-place.result refl (omega arith) c.index-lines-place.is)) _ (rw none at c.loop-place.invariant.stands) c.eval_step.new.operands (rw c.in-Stops.is at c.in_ok-flow.ensures.acts) s refl refl refl refl refl in
    omega (arith, c.eval_step.ensures.tick, all, no_more c.args.stops s (instructions_from (drop c.args.first (map plain_line c.args.lines.now))) 0 no_operands)

pub loop-place-preserved : goal.loop-place-preserved
loop-place-preserved g c =
    let none : c.loop-place.passed ≡ 0 = omega (arith, c.if-passed-gt0.false) in
    record {
      stands = rw c.eval_step.ensures.tick (goes_on _ _ _ _ _ _ _ _ _ _ c.in-Instruction.instruction (rw c.in-Instruction.is at (line_read c.args.lines.now (length c.args.lines.now) c.loop-place.place c.index-lines-place.result refl (omega arith) c.index-lines-place.is)) _ (rw none at c.loop-place.invariant.stands) c.in-Passes.count c.eval_step.new.operands (rw c.in-Passes.is at c.in_ok-flow.ensures.acts));
      few = omega (arith, c.eval_step.ensures.tick, c.loop-place.invariant.few);
    }

pub returns-clause-reaches : goal.returns-clause-reaches
returns-clause-reaches g c =
    let lines = map plain_line c.args.lines.now in
    let long = length-map c.args.lines.now plain_line in
    let behind : length lines ≤ c.loop-place.place = omega (arith, long) in
    let none = drop_all (length c.args.lines.now) lines (omega (arith, long)) in
    ap found_from none ∙ sym (none_met _ _ _ _ _ _ _ _ _ _ _ _ c.loop-place.invariant.stands behind)

pub returns-clause-few : goal.returns-clause-few
returns-clause-few g c =
    let long = length-map c.args.lines.now plain_line in
    let behind : length (map plain_line c.args.lines.now) ≤ c.loop-place.place = omega (arith, long) in
    let s = scene_of (g.F.Facts.facts c.args.facts.now) c.args.clock c.args.objects c.args.display.now c.args.frames.now in
    let all = last_ticks _ _ _ _ _ _ _ _ _ _ _ _ c.loop-place.invariant.stands behind s refl refl refl refl refl in
    omega (arith, all, no_more c.args.stops s (instructions_from (drop c.args.first (map plain_line c.args.lines.now))) 0 no_operands)

pub returns-in-End-clause-few : goal.returns-in-End-clause-few
returns-in-End-clause-few g c =
    let s = scene_of (g.F.Facts.facts c.args.facts.now) c.args.clock c.args.objects c.args.display.now c.args.frames.now in
    let all = end_ticks _ _ _ _ _ _ _ _ _ _ _ _ c.loop-place.invariant.stands (plain_end c.in-End.field-0) (rw c.in-End.is at (line_read c.args.lines.now (length c.args.lines.now) c.loop-place.place c.index-lines-place.result refl (omega arith) c.index-lines-place.is)) s refl refl refl refl refl in
    omega (arith, all, no_more c.args.stops s (instructions_from (drop c.args.first (map plain_line c.args.lines.now))) 0 no_operands)

pub returns-in-Raises-clause-few : goal.returns-in-Raises-clause-few
returns-in-Raises-clause-few g c =
    let none : c.loop-place.passed ≡ 0 = omega (arith, c.if-passed-gt0.false) in
    let s = scene_of (g.F.Facts.facts c.args.facts.now) c.args.clock c.args.objects c.args.display.now c.args.frames.now in
    let all = raised_ticks _ _ _ _ _ _ _ _ _ _ c.in-Instruction.instruction (rw c.in-Instruction.is at (line_read c.args.lines.now (length c.args.lines.now) c.loop-place.place c.index-lines-place.result refl (omega arith) c.index-lines-place.is)) _ (rw none at c.loop-place.invariant.stands) c.eval_step.new.operands c.in-Raises.raise (rw c.in-Raises.is at c.in_ok-flow.ensures.acts) s refl refl refl refl refl in
    omega (arith, c.eval_step.ensures.tick, all, no_more c.args.stops s (instructions_from (drop c.args.first (map plain_line c.args.lines.now))) 0 no_operands)
