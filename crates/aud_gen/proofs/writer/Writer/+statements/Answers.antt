use Rattle.std.proofs.Common.{◌≡◌, ℕ, refl, suc, ◌+◌, ◌-◌, ◌++◌, length, drop, ap, sym, ◌∙◌, subst, arith, append-nil}
use Rattle.std.specs.Prelude.{if◌then◌else◌, vec_len}
use Rattle.std.proofs.lemmas.List.{drop_all, length-drop}
use Rattle.aud_typed.specs.declared.program.IfStatement.{out-IfStatement}
use Rattle.aud_typed.specs.declared.program.BlockStatement.{out-BlockStatement}
use Rattle.aud_typed.specs.declared.program.Body.{out-Body}
use Rattle.aud_typed.specs.declared.program.EntryCallStatement.{out-EntryCallStatement}
use Rattle.aud_typed.specs.declared.program.AcceptStatement.{out-AcceptStatement}
use Rattle.aud_typed.specs.declared.program.Doing.{out-Doing}
use Rattle.aud_typed.specs.declared.program.SelectStatement.{out-SelectStatement}
use Rattle.aud_typed.proofs.Opened.{loop_open, while_open, if_open, for_open, block_open, entry_call_open, accept_open, accept_alternative_open, delay_alternative_open, select_open}
use Rattle.aud_typed.specs.Tree.{part_of, activation, while_loop, plain_loop, no_alternatives}
use Rattle.aud_typed.specs.Ties.View.{plain_boolean, plain_statement, plain_statements, statements_in, part_of_arms, if_in, for_in, handlers_in, elaborations_in, body_in, block_in, accept_in, alternatives_in, doing_in, entry_call_in, plain_call, plain_delay, select_in}
use Rattle.aud_layout.specs.Layout.{statement_size_by, part_size_by, doing_size_by, part_place, doing_place, ways_count, in_loop}
use Rattle.aud_layout.specs.Written.{flat_step}
use Rattle.aud_layout.specs.Leading.{around}
use Rattle.aud_gen.specs.Writes.{alone, body_lines, bounds, doing_lines, ended, for_lines, has_statements, statement_lines, part_lines, guard_lines, handlers_lines}
use Rattle.aud_gen.proofs.Elaborations.{whole_activated}
use Rattle.aud_gen.proofs.Entering.{list_read, offered_read, one_offered, whole_accept, whole_alternative, whole_call, whole_doing, whole_select, whole_waiting, with_offered}
use Rattle.aud_gen.proofs.Loops.{dropped}
use Rattle.aud_gen.proofs.Writing.{found_lines, nothing_written}
use Rattle.aud_gen.proofs.Lines.{none_left, with_part, one_listed, one_arm, same_lines, same_around, same_loop, whole_while, whole_list, whole_arm, if_by}
use Rattle.aud_meaning.specs.declared.state.Construct.TheVariants as construct
use Rattle.aud_code.specs.declared.line.Last.TheVariants.{Does}
use Rattle.aud_code.specs.declared.line.Ending.TheVariants.{Block}
use Rattle.aud_gen.proofs.Constructs.{whole_for, whole_body, whole_block, with_handlers, one_handler}
use Rattle.aud_gen.proofs.writer.Writer.+statements.Goals as goal

pub write_arm-returns : goal.write_arm-returns
write_arm-returns t c = record {
  unless_refused = λ e.
      let inside = c.write_statements.ensures.unless_refused e in
      let step = c.write_test.ensures.unless_refused inside.0 in
      (step.0, whole_arm c.args.arm.now c.args.more c.args.self.now.lines c.write_test.new.self.lines c.write_statements.new.self.lines c.args.next (around c.args.out c.args.ways.now) step.1 inside.1);
}

pub write_if-loop-arm-init : goal.write_if-loop-arm-init
write_if-loop-arm-init t c =
    let arms = c.deref-arm-items.result.now in
    let first = (out-IfStatement c.args.s.now).first in
    let fit : c.len-left.result + 0 ≡ length arms = omega (arith, c.len-left.ensures, ap length c.deref-arm-items.ensures.value) in
    let many : length arms ≡ c.len-left.result = omega (arith, fit) in
    let otherwise = part_of (plain_statements (out-IfStatement c.args.s.now).otherwise.items) in
    let goes = c.goes_on.ensures arms many ∙ ap (λ ss. has_statements (part_of_arms arms (part_of (plain_statements ss)))) c.deref.ensures.value in
    let a = around c.args.out c.args.ways.now in
    let old = c.args.self.now.lines in (
      fit,
      record {
        unless_refused = λ e.
            let arm = c.write_arm.ensures.unless_refused e in
            (arm.0, one_arm first (part_of_arms arms otherwise) c.goes_on.result old c.write_arm.new.self.lines _ c.args.next a goes arm.1 (ap (λ arms'. old ++ statement_lines (if_by first arms' otherwise) (length old) c.args.next a) c.deref-arm-items.ensures.value));
      },
    )

pub write_if-loop-arm-preserved : goal.write_if-loop-arm-preserved
write_if-loop-arm-preserved t c =
    let arms = c.deref-arm-items.result.now in
    let rest = drop (c.loop-arm.arm-index + 1) arms in
    let fit : c.loop-arm.left - 1 + (c.loop-arm.arm-index + 1) ≡ length arms = omega (arith, c.loop-arm.invariant.0) in
    let otherwise = part_of (plain_statements (out-IfStatement c.args.s.now).otherwise.items) in
    let many : length rest ≡ c.loop-arm.left - 1 = omega (arith, c.loop-arm.invariant.0, length-drop (c.loop-arm.arm-index + 1) arms) in
    let goes = c.goes_on-in-loop-arm.ensures rest many ∙ ap (λ ss. has_statements (part_of_arms rest (part_of (plain_statements ss)))) c.deref-in-loop-arm.ensures.value in
    let a = around c.args.out c.args.ways.now in (
      fit,
      record {
        unless_refused = λ e.
            let arm = c.write_arm-in-loop-arm.ensures.unless_refused e in
            let before = c.loop-arm.invariant.1.unless_refused arm.0 in
            let left = ap (λ arms'. with_part c.loop-arm.self.lines (part_of_arms arms' otherwise) c.args.next a) (sym (dropped arms c.loop-arm.arm-index c.arm-item.result (omega arith) c.arm-item.is)) ∙ before.1 in
            (before.0, one_arm c.arm-item.result (part_of_arms rest otherwise) c.goes_on-in-loop-arm.result c.loop-arm.self.lines c.write_arm-in-loop-arm.new.self.lines _ c.args.next a goes arm.1 left);
      },
    )

pub write_if-returns : goal.write_if-returns
write_if-returns t c = record {
  unless_refused = λ e.
      let a = around c.args.out c.args.ways.now in
      let now = c.loop-arm.self.lines in
      let otherwise = part_of (plain_statements (out-IfStatement c.args.s.now).otherwise.items) in
      let last = c.write_list.ensures.unless_refused e in
      let before = c.loop-arm.invariant.1.unless_refused last.0 in
      let none = ap (λ arms. with_part now (part_of_arms arms otherwise) c.args.next a) (drop_all c.loop-arm.arm-index c.deref-arm-items.result.now (omega (arith, c.loop-arm-test.false))) in
      (before.0, list_read now c.write_list.new.self.lines c.deref-2.result.now (out-IfStatement c.args.s.now).otherwise.items c.args.next a c.deref-2.ensures.value last.1 ∙ sym none ∙ before.1);
}

pub write_list-loop-s-init : goal.write_list-loop-s-init
write_list-loop-s-init t c = (omega arith, record { unless_refused = λ e. (e, refl) })

pub write_list-loop-s-preserved : goal.write_list-loop-s-preserved
write_list-loop-s-preserved t c =
    let rest = drop (c.loop-s.s-index + 1) c.args.ss.now in
    let fit : c.loop-s.left - 1 + (c.loop-s.s-index + 1) ≡ length c.args.ss.now = omega (arith, c.loop-s.invariant.0) in
    let many : c.loop-s.left - 1 ≡ length rest = omega (arith, c.loop-s.invariant.0, length-drop (c.loop-s.s-index + 1) c.args.ss.now) in
    let a = around c.args.out c.args.ways.now in (
      fit,
      record {
        unless_refused = λ e.
            let one = c.write_in_list.ensures.unless_refused e in
            let before = c.loop-s.invariant.1.unless_refused one.0 in
            let left = ap (λ ss. with_part c.loop-s.self.lines (part_of (plain_statements ss)) c.args.next a) (sym (dropped c.args.ss.now c.loop-s.s-index c.s-item.result (omega arith) c.s-item.is)) ∙ before.1 in
            (before.0, one_listed c.s-item.result rest _ c.loop-s.self.lines c.write_in_list.new.self.lines _ c.args.next a (none_left rest (c.loop-s.left - 1) many) one.1 left);
      },
    )

pub write_list-returns : goal.write_list-returns
write_list-returns t c = record {
  unless_refused = λ e.
      let a = around c.args.out c.args.ways.now in
      let now = c.loop-s.self.lines in
      let before = c.loop-s.invariant.1.unless_refused e in
      let none = ap (λ ss. with_part now (part_of (plain_statements ss)) c.args.next a) (drop_all c.loop-s.s-index c.args.ss.now (omega (arith, c.loop-s-test.false))) in
      (before.0, sym (append-nil now) ∙ sym none ∙ before.1);
}

pub write_in_list-returns : goal.write_in_list-returns
write_in_list-returns t c =
    let a = around c.args.out c.args.ways.now in
    let s = plain_statement c.args.s.now in
    found_lines (λ place n. statement_lines s place n a) c.behind_listed-then.result (if c.args.is_last then c.args.next else length c.args.self.now.lines + statement_size_by flat_step s (ways_count a)) c.behind_listed-then.ensures c.write_statement.ensures

pub write_statement-returns-in-If : goal.write_statement-returns-in-If
write_statement-returns-in-If t c = record {
  unless_refused = λ e.
      let is : if_in c.deref.result.now ≡ plain_statement c.args.s.now = ap if_in c.deref.ensures ∙ sym (ap plain_statement c.in-If.is ∙ if_open c.in-If.branches.value) in
      let it = c.write_if.ensures.unless_refused e in
      (it.0, same_lines c.args.self.now.lines c.write_if.new.self.lines (if_in c.deref.result.now) (plain_statement c.args.s.now) c.args.next (around c.args.out c.args.ways.now) is it.1);
}

pub write_statement-returns-in-While : goal.write_statement-returns-in-While
write_statement-returns-in-While t c = record {
  unless_refused = λ e.
      let is : plain_statement c.args.s.now ≡ while_loop c.in-While.at (plain_boolean c.in-While.condition) (statements_in c.in-While.body.value) = ap plain_statement c.in-While.is ∙ while_open c.in-While.at c.in-While.condition c.in-While.body in
      let inside = c.write_loop.ensures.unless_refused e in
      let step = c.write_while.ensures.unless_refused inside.0 in
      (step.0, whole_while c.in-While.at (plain_boolean c.in-While.condition) (statements_in c.in-While.body.value) (statements_in c.deref-in-While.result.now) (plain_statement c.args.s.now) c.args.self.now.lines c.write_while.new.self.lines c.write_loop.new.self.lines c.args.next c.place-place.result (around c.args.out c.args.ways.now) c.place-place.ensures step.1 (ap statements_in c.deref-in-While.ensures) is inside.1);
}

pub write_statement-returns-in-Loop : goal.write_statement-returns-in-Loop
write_statement-returns-in-Loop t c = record {
  unless_refused = λ e.
      let is : plain_statement c.args.s.now ≡ plain_loop (statements_in c.in-Loop.body.value) = ap plain_statement c.in-Loop.is ∙ loop_open c.in-Loop.body in
      let it = c.write_loop-in-Loop.ensures.unless_refused e in
      (it.0, same_loop c.args.self.now.lines c.write_loop-in-Loop.new.self.lines (statements_in c.in-Loop.body.value) (statements_in c.deref-in-Loop.result.now) (plain_statement c.args.s.now) c.args.next c.place.result (around c.args.out c.args.ways.now) c.place.ensures (ap statements_in c.deref-in-Loop.ensures) is it.1);
}

pub write_statements-returns : goal.write_statements-returns
write_statements-returns t c = record {
  unless_refused = λ e.
      let others = c.write_list.ensures.unless_refused e in
      let first = c.write_in_list.ensures.unless_refused others.0 in
      let ss = c.args.ss.now in
      let last = c.is_empty.ensures ∙ none_left ss.others.items (vec_len ss.others) (sym c.deref-2.ensures.len ∙ ap length c.deref-2.ensures.value) in
      (first.0, whole_list ss.first.value ss.others.items c.deref-2.result.now c.is_empty.result c.args.self.now.lines c.write_in_list.new.self.lines c.write_list.new.self.lines c.args.next (around c.args.out c.args.ways.now) last c.deref-2.ensures.value (rw c.deref.ensures at first.1) others.1);
}

pub write_body-returns : goal.write_body-returns
write_body-returns t c = record {
  unless_refused = λ e.
      let b = out-Body c.args.body.now in
      let w = λ (out : ℕ). around out c.args.ways.now in
      let count = ways_count (w 0) in
      let d = part_of (elaborations_in c.args.body.now) in
      let s = statements_in b.statements in
      let old = c.args.self.now.lines in
      let last = c.args.last in
      let n2 = c.write_statements.new.self.lines in
      let n3 = c.write_guards.new.self.lines in
      let k5 = c.end.ensures.unless_refused e in
      let k4 = c.write_handlers.ensures.unless_refused k5.0 in
      let k3 = c.write_guards.ensures.unless_refused k4.0 in
      let k2 = c.write_statements.ensures.unless_refused k3.0 in
      let k1 = c.write_elaborations.ensures.unless_refused k2.0 in
      let guard = c.behind_statements-guard.ensures.unless_refused k1.0 in
      let begin = c.behind_elaborations-begin.ensures.unless_refused guard.0 in
      let h1 = k1.1 ∙ ap (λ ls. ls ++ part_lines d (length ls) c.behind_elaborations-begin.result (w last)) (c.behind_statements-guard.ensures.same ∙ c.behind_elaborations-begin.ensures.same) in (
        begin.0,
        whole_body w c.args.ways.now.within count (λ out. refl) c.args.construct d s (handlers_in b.handlers.items) b.end old c.write_elaborations.new.self.lines n2 n3 c.write_handlers.new.self.lines c.end.new.self.lines c.behind_elaborations-begin.result c.behind_statements-guard.result last c.args.next c.args.out begin.1 guard.1
            h1
            k2.1
            (k3.1 ∙ ap (λ z. n2 ++ guard_lines (handlers_in z) b.end (length n2) last count c.args.ways.now.within) c.deref.ensures.value)
            (k4.1 ∙ ap (λ z. n3 ++ handlers_lines (handlers_in z) (length n3) last (w last)) c.deref-2.ensures.value)
            k5.1,
      );
}

pub write_block-returns-in-Ok : goal.write_block-returns-in-Ok
write_block-returns-in-Ok t c = record {
  unless_refused = λ e.
      let o = out-BlockStatement c.args.block.now in
      let b = out-Body o.body in
      let a = around c.args.out c.args.ways.now in
      let old = c.args.self.now.lines in
      let inside = c.behind-inside.result in
      let last = c.end_of-last.result in
      let k3 = c.write_stubs.ensures.unless_refused e in
      let k2 = c.write_body.ensures.unless_refused k3.0 in
      let k1 = c.end_statement.ensures.unless_refused k2.0 in
      let last_is = c.end_of-last.ensures.unless_refused k1.0 in
      let found = c.behind-inside.ensures.unless_refused last_is.0 in
      let inside_is : inside ≡ length old + 1 = omega (arith, found.1.0, c.place-place.ensures) in
      let h1 = k1.1 ∙ ap (λ ls. ls ++ ended (Does (Block o.region inside) c.args.next) o.at a.out a.within) (c.end_of-last.ensures.same ∙ c.behind-inside.ensures.same) in
      (found.0, whole_block o.at o.region (body_in o.body) (part_of (elaborations_in o.body)) b.begin (statements_in b.statements) (handlers_in b.handlers.items) b.end old c.end_statement.new.self.lines c.write_body.new.self.lines c.write_stubs.new.self.lines c.place-place.result inside last c.args.next a (around last c.in-Ok.inner) refl c.place-place.ensures inside_is last_is.1 (c.in-Ok.ensures last) h1 k2.1 k3.1);
}

pub write_block-returns-in-Err : goal.write_block-returns-in-Err
write_block-returns-in-Err t c = c.refuse.ensures _ _

pub write_for-returns-in-Ok : goal.write_for-returns-in-Ok
write_for-returns-in-Ok t c = record {
  unless_refused = λ e.
      let a = around c.args.out c.args.ways.now in
      let old = c.args.self.now.lines in
      let again = c.behind_bounds-again.result in
      let place = c.place-place.result in
      let inside = c.write_statements.ensures.unless_refused e in
      let steps = c.write_control.ensures.unless_refused inside.0 in
      let found = c.behind_bounds-again.ensures.unless_refused steps.0 in
      let again_is : again ≡ suc (length old + bounds c.args.s.now) = omega (arith, found.1) in
      let h = steps.1 ∙ ap (λ ls. ls ++ for_lines c.args.s.now place again c.args.next a.out a.within) c.behind_bounds-again.ensures.same in
      (found.0, whole_for c.args.s.now old c.write_control.new.self.lines c.write_statements.new.self.lines place again c.args.next a (around c.args.out c.in-Ok.inner) c.place-place.ensures again_is (c.in-Ok.ensures c.args.out) h inside.1);
}

pub write_for-returns-in-Err : goal.write_for-returns-in-Err
write_for-returns-in-Err t c = c.refuse.ensures _ _

pub write_handlers-loop-handler-init : goal.write_handlers-loop-handler-init
write_handlers-loop-handler-init t c = record { unless_refused = λ e. (e, refl) }

pub write_handlers-loop-handler-preserved : goal.write_handlers-loop-handler-preserved
write_handlers-loop-handler-preserved t c = record {
  unless_refused = λ e.
      let a = around c.args.last c.args.ways.now in
      let hs = c.args.handlers.now in
      let i = c.loop-handler.handler-index in
      let one = c.write_statements.ensures.unless_refused e in
      let before = c.loop-handler.invariant.unless_refused one.0 in (
        before.0,
        one_handler c.handler-item.result (drop (i + 1) hs) c.loop-handler.self.lines c.write_statements.new.self.lines _ c.args.last a one.1
            (ap (λ z. with_handlers c.loop-handler.self.lines z c.args.last a) (sym (dropped hs i c.handler-item.result (omega arith) c.handler-item.is)) ∙ before.1),
      );
}

pub write_handlers-returns : goal.write_handlers-returns
write_handlers-returns t c = record {
  unless_refused = λ e.
      let a = around c.args.last c.args.ways.now in
      let now = c.loop-handler.self.lines in
      let before = c.loop-handler.invariant.unless_refused e in
      let none = ap (λ z. with_handlers now z c.args.last a) (drop_all c.loop-handler.handler-index c.args.handlers.now (omega (arith, c.loop-handler-test.false))) in
      (before.0, sym (append-nil now) ∙ sym none ∙ before.1);
}

pub write_loop-returns-in-Ok : goal.write_loop-returns-in-Ok
write_loop-returns-in-Ok t c = record {
  unless_refused = λ e.
      let a = around c.args.out c.args.ways.now in
      let old = c.args.self.now.lines in
      let inside = c.write_statements.ensures.unless_refused e in
      (inside.0, same_around old c.write_statements.new.self.lines (λ b. statement_lines (statements_in c.args.body.now) (length old) c.args.again b) (around c.args.out c.in-Ok.inner) (in_loop c.args.next a) (c.in-Ok.ensures c.args.out) inside.1);
}

pub write_loop-returns-in-Err : goal.write_loop-returns-in-Err
write_loop-returns-in-Err t c = c.refuse.ensures _ _

pub write_elaborations-returns-then-body : goal.write_elaborations-returns-then-body
write_elaborations-returns-then-body t c = record {
  unless_refused = λ e.
      let b = out-Body c.args.body.now in
      let xs = plain_statements b.declarations.items in
      let a = around c.args.out c.args.ways.now in
      let old = c.args.self.now.lines in
      let behind = c.behind_list-activation.result in
      let activation' = c.concern.ensures.unless_refused e in
      let declared = c.write_list.ensures.unless_refused activation'.0 in
      let found = c.behind_list-activation.ensures.unless_refused declared.0 in
      let listed = found.1 ∙ ap (λ z. c.place.result + part_size_by flat_step (part_of (plain_statements z)) (ways_count a)) c.deref.ensures.value in
      let behind_is : behind ≡ length old + part_size_by flat_step (part_of xs) (ways_count a) = listed ∙ ap (λ (n : ℕ). n + part_size_by flat_step (part_of xs) (ways_count a)) c.place.ensures in
      let h = declared.1
      ∙ ap (λ ls. ls ++ part_lines (part_of (plain_statements c.deref-then-body.result.now)) (length ls) behind a) c.behind_list-activation.ensures.same
      ∙ ap (λ z. old ++ part_lines (part_of (plain_statements z)) (length old) behind a) c.deref-then-body.ensures.value in
      let whole = whole_activated xs b.begin old c.write_list.new.self.lines c.concern.new.self.lines behind c.args.next a behind_is h activation'.1 in
      (found.0, subst (λ x. c.concern.new.self.lines ≡ old ++ part_lines (part_of (xs ++ activation x b.begin)) (length old) c.args.next a) (sym c.if-body.true) whole);
}

pub write_elaborations-returns-else-body : goal.write_elaborations-returns-else-body
write_elaborations-returns-else-body t c = record {
  unless_refused = λ e.
      let b = out-Body c.args.body.now in
      let xs = plain_statements b.declarations.items in
      let a = around c.args.out c.args.ways.now in
      let old = c.args.self.now.lines in
      let declared = c.write_list-else-body.ensures.unless_refused e in
      let whole = list_read old c.write_list-else-body.new.self.lines c.deref-else-body.result.now b.declarations.items c.args.next a c.deref-else-body.ensures.value declared.1
      ∙ ap (λ ss. old ++ part_lines (part_of ss) (length old) c.args.next a) (sym (append-nil xs)) in
      (declared.0, subst (λ x. c.write_list-else-body.new.self.lines ≡ old ++ part_lines (part_of (xs ++ activation x b.begin)) (length old) c.args.next a) (sym c.if-body.false) whole);
}

pub write_statement-returns-in-For : goal.write_statement-returns-in-For
write_statement-returns-in-For t c = record {
  unless_refused = λ e.
      let is : for_in c.deref-in-For.result.now ≡ plain_statement c.args.s.now = ap for_in c.deref-in-For.ensures ∙ sym (ap plain_statement c.in-For.is ∙ for_open c.in-For.s) in
      let it = c.write_for.ensures.unless_refused e in
      (it.0, same_lines c.args.self.now.lines c.write_for.new.self.lines (for_in c.deref-in-For.result.now) (plain_statement c.args.s.now) c.args.next (around c.args.out c.args.ways.now) is it.1);
}

pub write_statement-returns-in-Block : goal.write_statement-returns-in-Block
write_statement-returns-in-Block t c = record {
  unless_refused = λ e.
      let is : block_in c.deref-in-Block.result.now ≡ plain_statement c.args.s.now = ap block_in c.deref-in-Block.ensures ∙ sym (ap plain_statement c.in-Block.is ∙ block_open c.in-Block.block.value) in
      let it = c.write_block.ensures.unless_refused e in
      (it.0, same_lines c.args.self.now.lines c.write_block.new.self.lines (block_in c.deref-in-Block.result.now) (plain_statement c.args.s.now) c.args.next (around c.args.out c.args.ways.now) is it.1);
}

pub write_statement-returns-in-EntryCall : goal.write_statement-returns-in-EntryCall
write_statement-returns-in-EntryCall t c = record {
  unless_refused = λ e.
      let is : entry_call_in c.deref-in-EntryCall.result.now ≡ plain_statement c.args.s.now = ap entry_call_in c.deref-in-EntryCall.ensures ∙ sym (ap plain_statement c.in-EntryCall.is ∙ entry_call_open c.in-EntryCall.call) in
      let it = c.write_entry_call.ensures.unless_refused e in
      (it.0, same_lines c.args.self.now.lines c.write_entry_call.new.self.lines (entry_call_in c.deref-in-EntryCall.result.now) (plain_statement c.args.s.now) c.args.next (around c.args.out c.args.ways.now) is it.1);
}

pub write_statement-returns-in-Accept : goal.write_statement-returns-in-Accept
write_statement-returns-in-Accept t c = record {
  unless_refused = λ e.
      let is : accept_in c.deref-in-Accept.result.now ≡ plain_statement c.args.s.now = ap accept_in c.deref-in-Accept.ensures ∙ sym (ap plain_statement c.in-Accept.is ∙ accept_open c.in-Accept.accept.value) in
      let it = c.write_accept_statement.ensures.unless_refused e in
      (it.0, same_lines c.args.self.now.lines c.write_accept_statement.new.self.lines (accept_in c.deref-in-Accept.result.now) (plain_statement c.args.s.now) c.args.next (around c.args.out c.args.ways.now) is it.1);
}

pub write_statement-returns-in-Select : goal.write_statement-returns-in-Select
write_statement-returns-in-Select t c = record {
  unless_refused = λ e.
      let is : select_in c.deref-in-Select.result.now ≡ plain_statement c.args.s.now = ap select_in c.deref-in-Select.ensures ∙ sym (ap plain_statement c.in-Select.is ∙ select_open c.in-Select.select) in
      let it = c.write_select.ensures.unless_refused e in
      (it.0, same_lines c.args.self.now.lines c.write_select.new.self.lines (select_in c.deref-in-Select.result.now) (plain_statement c.args.s.now) c.args.next (around c.args.out c.args.ways.now) is it.1);
}

pub write_entry_call-returns : goal.write_entry_call-returns
write_entry_call-returns t c = record {
  unless_refused = λ e.
      let s = out-EntryCallStatement c.args.call.now in
      let a = around c.args.out c.args.ways.now in
      let next = c.args.next in
      let p = part_of (plain_statements s.after.items) in
      let q = part_of (plain_statements s.otherwise.items) in
      let n1 = c.write_call_step.new.self.lines in
      let n2 = c.write_list.new.self.lines in
      let k3 = c.write_list-2.ensures.unless_refused e in
      let k2 = c.write_list.ensures.unless_refused k3.0 in
      let k1 = c.write_call_step.ensures.unless_refused k2.0 in (
        k1.0,
        whole_call s.at (plain_call s.callee s.entry s.arguments.items s.form) p q c.args.self.now.lines n1 n2 c.write_list-2.new.self.lines _ _ next a refl refl k1.1
            (list_read n1 n2 c.deref.result.now s.after.items next a c.deref.ensures.value k2.1)
            (list_read n2 c.write_list-2.new.self.lines c.deref-2.result.now s.otherwise.items next a c.deref-2.ensures.value k3.1),
      );
}

pub write_accept_statement-returns : goal.write_accept_statement-returns
write_accept_statement-returns t c = record {
  unless_refused = λ e.
      let s = out-AcceptStatement c.args.accept.now in
      let a = around c.args.out c.args.ways.now in
      let d = doing_in s.doing in
      let old = c.args.self.now.lines in
      let does = c.write_doing.ensures.unless_refused e in
      let step = c.write_accept.ensures.unless_refused does.0 in
      (step.0, whole_accept s.at s.entry d old c.write_accept.new.self.lines c.write_doing.new.self.lines c.place-own.result (doing_place d (length old + 1) c.args.next) c.args.next a c.place-own.ensures (ap (λ (n : ℕ). doing_place d (n + 1) c.args.next) (sym c.place-own.ensures)) step.1 does.1);
}

pub write_doing-returns-in-Some : goal.write_doing-returns-in-Some
write_doing-returns-in-Some t c = record {
  unless_refused = λ e.
      let d = out-Doing c.in-Some.doing in
      let last = c.end_of_unit-last.result in
      let a = around last c.of_body-ways.result in
      let does = c.write_body.ensures.unless_refused e in
      let found = c.end_of_unit-last.ensures.unless_refused does.0 in
      let h = does.1 ∙ ap (λ ls. ls ++ body_lines construct.Accept (body_in d.body) last (length ls) c.args.next c.args.out a) c.end_of_unit-last.ensures.same in
      (found.0, whole_doing (doing_in c.args.doing.now) d.region (body_in d.body) c.args.opener last c.args.next c.args.out c.args.self.now.lines c.write_body.new.self.lines a (ap doing_in c.in-Some.is) found.1 (c.of_body-ways.ensures last) h);
}

pub write_doing-returns-in-None : goal.write_doing-returns-in-None
write_doing-returns-in-None t c = rw c.in-None.is nothing_written

pub write_select-returns : goal.write_select-returns
write_select-returns t c = record {
  unless_refused = λ e.
      let s = out-SelectStatement c.args.select.now in
      let a = around c.args.out c.args.ways.now in
      let next = c.args.next in
      let old = c.args.self.now.lines in
      let offered = alternatives_in s.alternatives.items in
      let p = part_of (plain_statements s.otherwise.items) in
      let n1 = c.write_choice_step.new.self.lines in
      let n2 = c.write_alternatives.new.self.lines in
      let k3 = c.write_list.ensures.unless_refused e in
      let k2 = c.write_alternatives.ensures.unless_refused k3.0 in
      let k1 = c.write_choice_step.ensures.unless_refused k2.0 in (
        k1.0,
        whole_select s.at offered p old n1 n2 c.write_list.new.self.lines (length old) _ next _ _ a refl refl refl refl k1.1
            (offered_read n1 n2 c.deref.result.now s.alternatives.items c.place-own.result (length old) next a c.deref.ensures.value c.place-own.ensures k2.1)
            (list_read n2 c.write_list.new.self.lines c.deref-2.result.now s.otherwise.items next a c.deref-2.ensures.value k3.1),
      );
}

pub write_alternatives-loop-alternative-init : goal.write_alternatives-loop-alternative-init
write_alternatives-loop-alternative-init t c = record { unless_refused = λ e. (e, refl) }

pub write_alternatives-loop-alternative-preserved : goal.write_alternatives-loop-alternative-preserved
write_alternatives-loop-alternative-preserved t c = record {
  unless_refused = λ e.
      let xs = c.args.alternatives.now in
      let i = c.loop-alternative.alternative-index in
      let x = c.alternative-item.result in
      let a = around c.args.out c.args.ways.now in
      let one = c.write_alternative.ensures.unless_refused e in
      let before = c.loop-alternative.invariant.unless_refused one.0 in (
        before.0,
        one_offered x (drop (i + 1) xs) c.loop-alternative.self.lines c.write_alternative.new.self.lines _ c.args.opener c.args.next a one.1
            (ap (λ z. with_offered c.loop-alternative.self.lines z c.args.opener c.args.next a) (sym (dropped xs i x (omega arith) c.alternative-item.is)) ∙ before.1),
      );
}

pub write_alternatives-returns : goal.write_alternatives-returns
write_alternatives-returns t c = record {
  unless_refused = λ e.
      let a = around c.args.out c.args.ways.now in
      let now = c.loop-alternative.self.lines in
      let before = c.loop-alternative.invariant.unless_refused e in
      let none = ap (λ z. with_offered now z c.args.opener c.args.next a) (drop_all c.loop-alternative.alternative-index c.args.alternatives.now (omega (arith, c.loop-alternative-test.false))) in
      (before.0, sym (append-nil now) ∙ sym none ∙ before.1);
}

pub write_alternative-returns-in-Accept : goal.write_alternative-returns-in-Accept
write_alternative-returns-in-Accept t c = record {
  unless_refused = λ e.
      let s = out-AcceptStatement c.in-Accept.accept in
      let a = around c.args.out c.args.ways.now in
      let next = c.args.next in
      let old = c.args.self.now.lines in
      let d = doing_in s.doing in
      let p = part_of (plain_statements c.in-Accept.after.items) in
      let behind = c.behind_doing-behind.result in
      let second = length old + doing_size_by flat_step d in
      let alternatives = ap alone c.in-Accept.is ∙ accept_alternative_open c.in-Accept.guard c.in-Accept.accept c.in-Accept.after no_alternatives in
      let mid = c.write_doing.new.self.lines in
      let k2 = c.write_list.ensures.unless_refused e in
      let k1 = c.write_doing.ensures.unless_refused k2.0 in
      let found = c.behind_doing-behind.ensures.unless_refused k1.0 in
      let leads = found.1 ∙ ap (λ xs. part_place (part_of (plain_statements xs)) second next) c.deref.ensures.value in
      let h = k1.1 ∙ ap (λ ls. ls ++ doing_lines d c.args.opener (length ls) behind a.out) c.behind_doing-behind.ensures.same in (
        found.0,
        whole_alternative (alone c.args.alternative.now) (plain_boolean c.in-Accept.guard) s.at s.entry d p old mid c.write_list.new.self.lines c.args.opener second behind next a alternatives refl leads h
            (list_read mid c.write_list.new.self.lines c.deref-in-Accept.result.now c.in-Accept.after.items next a c.deref-in-Accept.ensures.value k2.1),
      );
}

pub write_alternative-returns-in-Delay : goal.write_alternative-returns-in-Delay
write_alternative-returns-in-Delay t c = record {
  unless_refused = λ e.
      let a = around c.args.out c.args.ways.now in
      let old = c.args.self.now.lines in
      let new = c.write_list-in-Delay.new.self.lines in
      let p = part_of (plain_statements c.in-Delay.after.items) in
      let alternatives = ap alone c.in-Delay.is ∙ delay_alternative_open c.in-Delay.guard c.in-Delay.delay c.in-Delay.after no_alternatives in
      let k = c.write_list-in-Delay.ensures.unless_refused e in (
        k.0,
        whole_waiting (alone c.args.alternative.now) (plain_boolean c.in-Delay.guard) (plain_delay c.in-Delay.delay) p old new c.args.opener c.args.next a alternatives
            (list_read old new c.deref-in-Delay.result.now c.in-Delay.after.items c.args.next a c.deref-in-Delay.ensures.value k.1),
      );
}

pub write_alternative-returns-in-Terminate : goal.write_alternative-returns-in-Terminate
write_alternative-returns-in-Terminate t c = rw c.in-Terminate.is nothing_written
