use Rattle.std.proofs.Common.{◌≡◌, Bool, true, false, if◌then◌else◌, List, ℕ, Result, Ok, Err, is_ok, OnOk, true≢false, refl, ap, sym, subst}
use Rattle.std.specs.Prelude.{IfOk}
use Rattle.std.specs.declared.alloc.AllocError.{AllocError}
use Rattle.aud_meaning.specs.Configuration.{Frame}
use Rattle.aud_meaning.specs.Evaluation.{Facts}
use Rattle.aud_code.specs.Instruction.{Instruction, Push, Load, PushTruth, Find, AppendNewLine, Marked, Cell, Truth, Negate, Relate, Compare, Combine, Count, Name, BeginObject, Component, OpensAccept, OpensDelay, SetTime, IsCallable, IsTerminated, LoadFound, Pass, PassCopy, AppendImage, AppendTruth, LoadElement, FindElement, OnOne, OnTwo, Check, PassIfFalse, PassIfTrue, Operands}
use Rattle.aud_expr.specs.declared.flow.Flow.{Flow}
use Rattle.aud_expr.specs.declared.flow.Flow.TheVariants.{Passes, Stops}
use Rattle.aud_code.specs.Eval.{Then}
use Rattle.aud_expr.specs.Flow.{Acts, Reads, Does, followed}
use Rattle.aud_expr.proofs.evaluate.eval_step.Goals as goal

-- what is done whatever is seen is done in this sight
acts : (b : Bool) (facts : Facts) (clock objects : ℕ) (display : List ℕ) (frames : List Frame) (i : Instruction) (old new : Operands) (r : Result Flow AllocError) → IfOk r (λ flow. Does i flow old new) → IfOk r (λ flow. Acts b facts clock objects display frames i flow old new)
acts b facts clock objects display frames i old new (Ok flow) h = λ s ed ef ek et eo go. h b s go
acts b facts clock objects display frames i old new (Err e) h = h

-- and so is what is done whatever the facts are
reads : (b : Bool) (facts : Facts) (clock objects : ℕ) (display : List ℕ) (frames : List Frame) (i : Instruction) (old new : Operands) (r : Result Flow AllocError) → IfOk r (λ flow. Reads display frames i flow old new) → IfOk r (λ flow. Acts b facts clock objects display frames i flow old new)
reads b facts clock objects display frames i old new (Ok flow) h = λ s ed ef ek et eo go. h b s ed ef go
reads b facts clock objects display frames i old new (Err e) h = h

-- and what is done where no other instruction is passed
passed : (b : Bool) (facts : Facts) (clock objects : ℕ) (display : List ℕ) (frames : List Frame) (i : Instruction) (old new : Operands) (d : Result (Unit {0}) AllocError) (r : Result Flow AllocError) {Q : Type 0} → IfOk r (λ flow. flow ≡ Passes 0) → is_ok r ≡ is_ok d → (Q → Acts b facts clock objects display frames i (Passes 0) old new) → OnOk d Q → IfOk r (λ flow. Acts b facts clock objects display frames i flow old new)
passed b facts clock objects display frames i old new (Ok u) (Ok flow) e same f h = subst (λ flow. Acts b facts clock objects display frames i flow old new) (sym e) (f h)
passed b facts clock objects display frames i old new (Err refused) (Ok flow) e same f h = absurd (true≢false same)
passed b facts clock objects display frames i old new d (Err refused) e same f h = tt

at_mark : (stops : Bool) (go : Then) (o : Operands) → (if stops then Marked o else go 0 o) ≡ followed (if stops then Stops else Passes 0) go o
at_mark true go o = refl
at_mark false go o = refl

pub returns-in-Mark-clause-acts : goal.returns-in-Mark-clause-acts
returns-in-Mark-clause-acts g c = rw (c.in-Mark.is, c.at_mark.ensures) (λ s ed ef ek et eo go. at_mark c.args.stops go c.args.operands.now)

pub returns-in-Push-clause-acts : goal.returns-in-Push-clause-acts
returns-in-Push-clause-acts g c = rw c.in-Push.is (passed c.args.stops _ _ _ _ _ (Push c.in-Push.value) c.args.operands.now c.push.new.self c.push.result c.passes.result c.passes.ensures.passes c.passes.ensures.alike (λ h s ed ef ek et eo go. sym (ap (go 0) h)) c.push.ensures)

pub returns-in-Load-clause-acts : goal.returns-in-Load-clause-acts
returns-in-Load-clause-acts g c = rw c.in-Load.is (passed c.args.stops _ _ _ _ _ (Load c.in-Load.variable) c.args.operands.now c.load.new.operands c.load.result c.passes-in-Load.result c.passes-in-Load.ensures.passes c.passes-in-Load.ensures.alike (λ h s ed ef ek et eo go. h c.args.stops s ed ef go) c.load.ensures)

pub returns-in-PushTruth-clause-acts : goal.returns-in-PushTruth-clause-acts
returns-in-PushTruth-clause-acts g c = rw c.in-PushTruth.is (passed c.args.stops _ _ _ _ _ (PushTruth c.in-PushTruth.value) c.args.operands.now c.push_truth.new.self c.push_truth.result c.passes-in-PushTruth.result c.passes-in-PushTruth.ensures.passes c.passes-in-PushTruth.ensures.alike (λ h s ed ef ek et eo go. sym (ap (go 0) h)) c.push_truth.ensures)

pub returns-in-Find-clause-acts : goal.returns-in-Find-clause-acts
returns-in-Find-clause-acts g c = rw c.in-Find.is (passed c.args.stops _ _ _ _ _ (Find c.in-Find.variable c.in-Find.subtype) c.args.operands.now c.find.new.operands c.find.result c.passes-in-Find.result c.passes-in-Find.ensures.passes c.passes-in-Find.ensures.alike (λ h s ed ef ek et eo go. h c.args.stops s ed ef go) c.find.ensures)

pub returns-in-AppendNewLine-clause-acts : goal.returns-in-AppendNewLine-clause-acts
returns-in-AppendNewLine-clause-acts g c = rw c.in-AppendNewLine.is (passed c.args.stops _ _ _ _ _ AppendNewLine c.args.operands.now c.append-in-AppendNewLine.new.self c.append-in-AppendNewLine.result c.passes-in-AppendNewLine.result c.passes-in-AppendNewLine.ensures.passes c.passes-in-AppendNewLine.ensures.alike (λ h s ed ef ek et eo go. sym (ap (go 0) h)) c.append-in-AppendNewLine.ensures)

pub returns-in-OnOne-clause-acts : goal.returns-in-OnOne-clause-acts
returns-in-OnOne-clause-acts g c = rw c.in-OnOne.is (acts c.args.stops _ _ _ _ _ (OnOne c.in-OnOne.operator) c.args.operands.now c.on_one.new.operands c.on_one.result c.on_one.ensures)

pub returns-in-OnTwo-clause-acts : goal.returns-in-OnTwo-clause-acts
returns-in-OnTwo-clause-acts g c = rw c.in-OnTwo.is (acts c.args.stops _ _ _ _ _ (OnTwo c.in-OnTwo.operator) c.args.operands.now c.on_two.new.operands c.on_two.result c.on_two.ensures)

pub returns-in-Check-clause-acts : goal.returns-in-Check-clause-acts
returns-in-Check-clause-acts g c = rw c.in-Check.is (acts c.args.stops _ _ _ _ _ (Check c.in-Check.subtype) c.args.operands.now c.check.new.operands c.check.result c.check.ensures)

pub returns-in-PassIfFalse-clause-acts : goal.returns-in-PassIfFalse-clause-acts
returns-in-PassIfFalse-clause-acts g c = rw c.in-PassIfFalse.is (acts c.args.stops _ _ _ _ _ (PassIfFalse c.in-PassIfFalse.count) c.args.operands.now c.pass_if.new.operands c.pass_if.result c.pass_if.ensures)

pub returns-in-PassIfTrue-clause-acts : goal.returns-in-PassIfTrue-clause-acts
returns-in-PassIfTrue-clause-acts g c = rw c.in-PassIfTrue.is (acts c.args.stops _ _ _ _ _ (PassIfTrue c.in-PassIfTrue.count) c.args.operands.now c.pass_if-in-PassIfTrue.new.operands c.pass_if-in-PassIfTrue.result c.pass_if-in-PassIfTrue.ensures)

pub returns-in-Cell-clause-acts : goal.returns-in-Cell-clause-acts
returns-in-Cell-clause-acts g c = rw c.in-Cell.is (passed c.args.stops _ _ _ _ _ Cell c.args.operands.now c.cell.new.operands c.cell.result c.passes-in-Cell.result c.passes-in-Cell.ensures.passes c.passes-in-Cell.ensures.alike (λ h s ed ef ek et eo go. h c.args.stops s go) c.cell.ensures)

pub returns-in-Truth-clause-acts : goal.returns-in-Truth-clause-acts
returns-in-Truth-clause-acts g c = rw c.in-Truth.is (passed c.args.stops _ _ _ _ _ Truth c.args.operands.now c.truth.new.operands c.truth.result c.passes-in-Truth.result c.passes-in-Truth.ensures.passes c.passes-in-Truth.ensures.alike (λ h s ed ef ek et eo go. h c.args.stops s go) c.truth.ensures)

pub returns-in-Negate-clause-acts : goal.returns-in-Negate-clause-acts
returns-in-Negate-clause-acts g c = rw c.in-Negate.is (passed c.args.stops _ _ _ _ _ Negate c.args.operands.now c.negate.new.operands c.negate.result c.passes-in-Negate.result c.passes-in-Negate.ensures.passes c.passes-in-Negate.ensures.alike (λ h s ed ef ek et eo go. h c.args.stops s go) c.negate.ensures)

pub returns-in-Relate-clause-acts : goal.returns-in-Relate-clause-acts
returns-in-Relate-clause-acts g c = rw c.in-Relate.is (passed c.args.stops _ _ _ _ _ (Relate c.in-Relate.relation) c.args.operands.now c.relate.new.operands c.relate.result c.passes-in-Relate.result c.passes-in-Relate.ensures.passes c.passes-in-Relate.ensures.alike (λ h s ed ef ek et eo go. h c.args.stops s go) c.relate.ensures)

pub returns-in-Compare-clause-acts : goal.returns-in-Compare-clause-acts
returns-in-Compare-clause-acts g c = rw c.in-Compare.is (passed c.args.stops _ _ _ _ _ (Compare c.in-Compare.relation) c.args.operands.now c.compare.new.operands c.compare.result c.passes-in-Compare.result c.passes-in-Compare.ensures.passes c.passes-in-Compare.ensures.alike (λ h s ed ef ek et eo go. h c.args.stops s go) c.compare.ensures)

pub returns-in-Combine-clause-acts : goal.returns-in-Combine-clause-acts
returns-in-Combine-clause-acts g c = rw c.in-Combine.is (passed c.args.stops _ _ _ _ _ (Combine c.in-Combine.operator) c.args.operands.now c.combine.new.operands c.combine.result c.passes-in-Combine.result c.passes-in-Combine.ensures.passes c.passes-in-Combine.ensures.alike (λ h s ed ef ek et eo go. h c.args.stops s go) c.combine.ensures)

pub returns-in-AppendImage-clause-acts : goal.returns-in-AppendImage-clause-acts
returns-in-AppendImage-clause-acts g c = rw c.in-AppendImage.is (passed c.args.stops _ _ _ _ _ AppendImage c.args.operands.now c.append_image.new.operands c.append_image.result c.passes-in-AppendImage.result c.passes-in-AppendImage.ensures.passes c.passes-in-AppendImage.ensures.alike (λ h s ed ef ek et eo go. h c.args.stops s go) c.append_image.ensures)

pub returns-in-AppendTruth-clause-acts : goal.returns-in-AppendTruth-clause-acts
returns-in-AppendTruth-clause-acts g c = rw c.in-AppendTruth.is (passed c.args.stops _ _ _ _ _ AppendTruth c.args.operands.now c.append_truth.new.operands c.append_truth.result c.passes-in-AppendTruth.result c.passes-in-AppendTruth.ensures.passes c.passes-in-AppendTruth.ensures.alike (λ h s ed ef ek et eo go. h c.args.stops s go) c.append_truth.ensures)

pub returns-in-LoadElement-clause-acts : goal.returns-in-LoadElement-clause-acts
returns-in-LoadElement-clause-acts g c = rw c.in-LoadElement.is (reads c.args.stops _ _ _ _ _ (LoadElement c.in-LoadElement.array) c.args.operands.now c.load_element.new.operands c.load_element.result c.load_element.ensures)

pub returns-in-FindElement-clause-acts : goal.returns-in-FindElement-clause-acts
returns-in-FindElement-clause-acts g c = rw c.in-FindElement.is (reads c.args.stops _ _ _ _ _ (FindElement c.in-FindElement.array c.in-FindElement.subtype) c.args.operands.now c.find_element.new.operands c.find_element.result c.find_element.ensures)

pub returns-in-LoadFound-clause-acts : goal.returns-in-LoadFound-clause-acts
returns-in-LoadFound-clause-acts g c = rw c.in-LoadFound.is (passed c.args.stops _ _ _ _ _ LoadFound c.args.operands.now c.load_found.new.operands c.load_found.result c.passes-in-LoadFound.result c.passes-in-LoadFound.ensures.passes c.passes-in-LoadFound.ensures.alike (λ h s ed ef ek et eo go. h c.args.display.now c.args.stops s ed ef go) c.load_found.ensures)

pub returns-in-Pass-clause-acts : goal.returns-in-Pass-clause-acts
returns-in-Pass-clause-acts g c = rw c.in-Pass.is (passed c.args.stops _ _ _ _ _ Pass c.args.operands.now c.pass.new.operands c.pass.result c.passes-in-Pass.result c.passes-in-Pass.ensures.passes c.passes-in-Pass.ensures.alike (λ h s ed ef ek et eo go. h c.args.stops s go) c.pass.ensures)

pub returns-in-PassCopy-clause-acts : goal.returns-in-PassCopy-clause-acts
returns-in-PassCopy-clause-acts g c = rw c.in-PassCopy.is (passed c.args.stops _ _ _ _ _ (PassCopy c.in-PassCopy.formal) c.args.operands.now c.pass_copy.new.operands c.pass_copy.result c.passes-in-PassCopy.result c.passes-in-PassCopy.ensures.passes c.passes-in-PassCopy.ensures.alike (λ h s ed ef ek et eo go. h c.args.stops s go) c.pass_copy.ensures)

pub returns-in-IsCallable-clause-acts : goal.returns-in-IsCallable-clause-acts
returns-in-IsCallable-clause-acts g c = rw c.in-IsCallable.is (passed c.args.stops _ _ _ _ _ IsCallable c.args.operands.now c.is_callable.new.operands c.is_callable.result c.passes-in-IsCallable.result c.passes-in-IsCallable.ensures.passes c.passes-in-IsCallable.ensures.alike (λ h s ed ef ek et eo go. h c.args.stops s ek go) c.is_callable.ensures)

pub returns-in-IsTerminated-clause-acts : goal.returns-in-IsTerminated-clause-acts
returns-in-IsTerminated-clause-acts g c = rw c.in-IsTerminated.is (passed c.args.stops _ _ _ _ _ IsTerminated c.args.operands.now c.is_terminated.new.operands c.is_terminated.result c.passes-in-IsTerminated.result c.passes-in-IsTerminated.ensures.passes c.passes-in-IsTerminated.ensures.alike (λ h s ed ef ek et eo go. h c.args.stops s ek go) c.is_terminated.ensures)

pub returns-in-Count-clause-acts : goal.returns-in-Count-clause-acts
returns-in-Count-clause-acts g c = rw c.in-Count.is (passed c.args.stops _ _ _ _ _ (Count c.in-Count.variable c.in-Count.entry) c.args.operands.now c.count.new.operands c.count.result c.passes-in-Count.result c.passes-in-Count.ensures.passes c.passes-in-Count.ensures.alike (λ h s ed ef ek et eo go. h c.args.stops s ed ef ek go) c.count.ensures)

pub returns-in-Name-clause-acts : goal.returns-in-Name-clause-acts
returns-in-Name-clause-acts g c = rw c.in-Name.is (passed c.args.stops _ _ _ _ _ Name c.args.operands.now c.name.new.operands c.name.result c.passes-in-Name.result c.passes-in-Name.ensures.passes c.passes-in-Name.ensures.alike (λ h s ed ef ek et eo go. h c.args.stops s go) c.name.ensures)

pub returns-in-Milliseconds-clause-acts : goal.returns-in-Milliseconds-clause-acts
returns-in-Milliseconds-clause-acts g c = rw c.in-Milliseconds.is (λ s ed ef ek et eo go. c.milliseconds.ensures c.args.stops s go)

pub returns-in-Seconds-clause-acts : goal.returns-in-Seconds-clause-acts
returns-in-Seconds-clause-acts g c = rw c.in-Seconds.is (λ s ed ef ek et eo go. c.seconds.ensures c.args.stops s go)

pub returns-in-OpensAccept-clause-acts : goal.returns-in-OpensAccept-clause-acts
returns-in-OpensAccept-clause-acts g c = rw c.in-OpensAccept.is (passed c.args.stops _ _ _ _ _ (OpensAccept c.in-OpensAccept.accept) c.args.operands.now c.opens_accept.new.operands c.opens_accept.result c.passes-in-OpensAccept.result c.passes-in-OpensAccept.ensures.passes c.passes-in-OpensAccept.ensures.alike (λ h s ed ef ek et eo go. h c.args.stops s go) c.opens_accept.ensures)

pub returns-in-OpensDelay-clause-acts : goal.returns-in-OpensDelay-clause-acts
returns-in-OpensDelay-clause-acts g c = rw c.in-OpensDelay.is (passed c.args.stops _ _ _ _ _ (OpensDelay c.in-OpensDelay.alternative) c.args.operands.now c.opens_delay.new.operands c.opens_delay.result c.passes-in-OpensDelay.result c.passes-in-OpensDelay.ensures.passes c.passes-in-OpensDelay.ensures.alike (λ h s ed ef ek et eo go. h c.args.stops s go) c.opens_delay.ensures)

pub returns-in-OpensTerminate-clause-acts : goal.returns-in-OpensTerminate-clause-acts
returns-in-OpensTerminate-clause-acts g c = rw c.in-OpensTerminate.is (λ s ed ef ek et eo go. c.opens_terminate.ensures c.args.stops s go)

pub returns-in-PassUnlessNext-clause-acts : goal.returns-in-PassUnlessNext-clause-acts
returns-in-PassUnlessNext-clause-acts g c = rw c.in-PassUnlessNext.is (λ s ed ef ek et eo go. c.pass_unless_next.ensures c.args.stops s go)

pub returns-in-SetTime-clause-acts : goal.returns-in-SetTime-clause-acts
returns-in-SetTime-clause-acts g c = rw c.in-SetTime.is (passed c.args.stops _ _ _ _ _ (SetTime c.in-SetTime.alternative) c.args.operands.now c.set_time.new.operands c.set_time.result c.passes-in-SetTime.result c.passes-in-SetTime.ensures.passes c.passes-in-SetTime.ensures.alike (λ h s ed ef ek et eo go. h c.args.stops s et go) c.set_time.ensures)

pub returns-in-BeginObject-clause-acts : goal.returns-in-BeginObject-clause-acts
returns-in-BeginObject-clause-acts g c = rw c.in-BeginObject.is (passed c.args.stops _ _ _ _ _ BeginObject c.args.operands.now c.begin_object.new.operands c.begin_object.result c.passes-in-BeginObject.result c.passes-in-BeginObject.ensures.passes c.passes-in-BeginObject.ensures.alike (λ h s ed ef ek et eo go. h c.args.stops s eo go) c.begin_object.ensures)

pub returns-in-Component-clause-acts : goal.returns-in-Component-clause-acts
returns-in-Component-clause-acts g c = rw c.in-Component.is (passed c.args.stops _ _ _ _ _ Component c.args.operands.now c.component.new.operands c.component.result c.passes-in-Component.result c.passes-in-Component.ensures.passes c.passes-in-Component.ensures.alike (λ h s ed ef ek et eo go. h c.args.stops s go) c.component.ensures)
