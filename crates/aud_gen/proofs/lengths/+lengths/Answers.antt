use Rattle.std.proofs.Common.{◌≡◌, suc, ◌+◌, ◌++◌, length, length-append, refl, ap, sym, ◌∙◌, arith}
use Rattle.std.proofs.lemmas.List.{drop_all}
use Rattle.aud_typed.proofs.Opened.{loop_open, while_open, if_open, for_open, block_open, entry_call_open, accept_open, accept_alternative_open, delay_alternative_open, select_open}
use Rattle.aud_typed.specs.declared.program.Body.{out-Body}
use Rattle.aud_typed.specs.declared.program.ForStatement.{out-ForStatement}
use Rattle.aud_typed.specs.declared.program.AcceptStatement.{out-AcceptStatement}
use Rattle.aud_typed.specs.Tree.{part_of, activation, no_alternatives}
use Rattle.aud_typed.specs.Ties.View.{plain_integer, plain_statement, plain_statements, statements_in, if_in, for_in, block_in, handlers_in, alternatives_in, doing_in, entry_call_in, select_in}
use Rattle.aud_layout.specs.Instructions.{integer_code}
use Rattle.aud_layout.specs.Layout.{statement_size_by, part_size_by, handlers_size_by, doing_size_by, offered_size_by}
use Rattle.aud_layout.specs.Written.{flat_step}
use Rattle.aud_gen.proofs.Elaborations.{activated_length}
use Rattle.aud_gen.proofs.Loops.{dropped}
use Rattle.aud_gen.specs.Writes.{alternative_size, choice_code, counted}
use Rattle.aud_gen.proofs.Counted.{in_loop_counted}
use Rattle.aud_gen.proofs.Entering.{next_alternative}
use Rattle.aud_gen.proofs.Lists.{arms_length, if_length, next_length, next_arm}
use Rattle.aud_gen.proofs.lengths.+lengths.Goals as goal

-- Statements that hold others.

pub statement_length-returns-in-If : goal.statement_length-returns-in-If
statement_length-returns-in-If t c =
    let is = ap plain_statement c.in-If.is ∙ if_open c.in-If.branches.value in
    c.if_length.ensures ∙ ap (λ z. counted (statement_size_by flat_step (if_in z) c.args.ways)) c.deref.ensures ∙ ap (λ z. counted (statement_size_by flat_step z c.args.ways)) (sym is)

pub statement_length-returns-in-For : goal.statement_length-returns-in-For
statement_length-returns-in-For t c =
    let is = ap plain_statement c.in-For.is ∙ for_open c.in-For.s in
    c.for_length.ensures ∙ ap (λ z. counted (statement_size_by flat_step (for_in z) c.args.ways)) c.deref-in-For.ensures ∙ ap (λ z. counted (statement_size_by flat_step z c.args.ways)) (sym is)

pub statement_length-returns-in-Block : goal.statement_length-returns-in-Block
statement_length-returns-in-Block t c =
    let is = ap plain_statement c.in-Block.is ∙ block_open c.in-Block.block.value in
    c.block_length.ensures ∙ ap (λ z. counted (statement_size_by flat_step (block_in z) c.args.ways)) c.deref-in-Block.ensures ∙ ap (λ z. counted (statement_size_by flat_step z c.args.ways)) (sym is)

pub statement_length-returns-in-EntryCall : goal.statement_length-returns-in-EntryCall
statement_length-returns-in-EntryCall t c =
    let is = ap plain_statement c.in-EntryCall.is ∙ entry_call_open c.in-EntryCall.call in
    c.entry_call_length.ensures ∙ ap (λ z. counted (statement_size_by flat_step (entry_call_in z) c.args.ways)) c.deref-in-EntryCall.ensures ∙ ap (λ z. counted (statement_size_by flat_step z c.args.ways)) (sym is)

pub statement_length-returns-in-Select : goal.statement_length-returns-in-Select
statement_length-returns-in-Select t c =
    let is = ap plain_statement c.in-Select.is ∙ select_open c.in-Select.select in
    c.select_length.ensures ∙ ap (λ z. counted (statement_size_by flat_step (select_in z) c.args.ways)) c.deref-in-Select.ensures ∙ ap (λ z. counted (statement_size_by flat_step z c.args.ways)) (sym is)

pub statement_length-returns-in-Accept : goal.statement_length-returns-in-Accept
statement_length-returns-in-Accept t c =
    let is = ap plain_statement c.in-Accept.is ∙ accept_open c.in-Accept.accept.value in
    let size = ap (λ z. statement_size_by flat_step z c.args.ways) is in
    let doing = c.doing_length.ensures ∙ ap (λ z. counted (doing_size_by flat_step (doing_in (out-AcceptStatement z).doing))) c.deref-in-Accept.ensures in
    omega (arith, doing, size)

pub statement_length-returns-in-While : goal.statement_length-returns-in-While
statement_length-returns-in-While t c =
    let ways = c.args.ways in
    let body = statements_in c.in-While.body.value in
    let is = ap plain_statement c.in-While.is ∙ while_open c.in-While.field-0 c.in-While.condition c.in-While.body in
    let more = c.saturating_add-in-While.result in
    let within = c.statements_length.ensures ∙ ap (λ z. counted (statement_size_by flat_step (statements_in z) more)) c.deref-in-While.ensures ∙ in_loop_counted body ways more (omega arith) in
    omega (arith, within, ap (λ z. statement_size_by flat_step z ways) is)

pub statement_length-returns-in-Loop : goal.statement_length-returns-in-Loop
statement_length-returns-in-Loop t c =
    let ways = c.args.ways in
    let is = ap plain_statement c.in-Loop.is ∙ loop_open c.in-Loop.body in
    let more = c.saturating_add-in-Loop.result in
    c.statements_length-in-Loop.ensures ∙ ap (λ z. counted (statement_size_by flat_step (statements_in z) more)) c.deref-in-Loop.ensures ∙ in_loop_counted (statements_in c.in-Loop.body.value) ways more (omega arith) ∙ ap (λ z. counted (statement_size_by flat_step z ways)) (sym is)

pub for_length-returns : goal.for_length-returns
for_length-returns t c =
    let o = out-ForStatement c.args.s.now in
    let x = integer_code (plain_integer o.first) in
    let y = integer_code (plain_integer o.last) in
    let inside = statements_in o.statements in
    let within = c.statements_length.ensures ∙ in_loop_counted inside c.args.ways c.saturating_add-2.result (omega arith) in
    let whole : statement_size_by flat_step (for_in c.args.s.now) c.args.ways ≡ suc (suc (statement_size_by flat_step inside (suc c.args.ways)) + length (x ++ y)) = refl in
    omega (arith, within, whole, length-append x y, c.integer_length.ensures, c.integer_length-2.ensures)

pub entry_call_length-returns : goal.entry_call_length-returns
entry_call_length-returns t c =
    let ways = c.args.ways in
    let after = c.list_length.ensures ∙ ap (λ z. counted (part_size_by flat_step (part_of (plain_statements z)) ways)) c.deref.ensures.value in
    let otherwise = c.list_length-2.ensures ∙ ap (λ z. counted (part_size_by flat_step (part_of (plain_statements z)) ways)) c.deref-2.ensures.value in
    omega (arith, after, otherwise, c.call_length.ensures)

pub select_length-returns : goal.select_length-returns
select_length-returns t c =
    let ways = c.args.ways in
    let choice = c.choice_length.ensures ∙ ap (λ z. counted (length (choice_code (alternatives_in z)))) c.deref.ensures.value in
    let offered = c.alternatives_length.ensures ∙ ap (λ z. counted (offered_size_by flat_step (alternatives_in z) ways)) c.deref-2.ensures.value in
    let otherwise = c.list_length.ensures ∙ ap (λ z. counted (part_size_by flat_step (part_of (plain_statements z)) ways)) c.deref-3.ensures.value in
    omega (arith, offered, otherwise, choice)

pub elaborations_length-returns-then-body : goal.elaborations_length-returns-then-body
elaborations_length-returns-then-body t c =
    let b = out-Body c.args.body.now in
    let xs = plain_statements b.declarations.items in
    let ways = c.args.ways in
    let declared = c.list_length-declared.ensures ∙ ap (λ z. counted (part_size_by flat_step (part_of (plain_statements z)) ways)) c.deref.ensures.value in
    let all = ap (λ x. part_size_by flat_step (part_of (xs ++ activation x b.begin)) ways) c.if-body.true in
    omega (arith, declared, activated_length xs b.begin ways, all)

-- Lists.

pub if_length-loop-arm-init : goal.if_length-loop-arm-init
if_length-loop-arm-init t c =
    let ways = c.args.ways in
    let arms = ap (λ z. arms_length z ways) c.deref-arm-items.ensures.value in
    let list = c.list_length.ensures ∙ ap (λ z. counted (part_size_by flat_step (part_of (plain_statements z)) ways)) c.deref.ensures.value in
    (omega arith, omega (arith, c.arm_length.ensures, list, arms, if_length c.args.s.now ways))

pub if_length-loop-arm-preserved : goal.if_length-loop-arm-preserved
if_length-loop-arm-preserved t c =
    let more = next_arm c.deref-arm-items.result.now c.loop-arm.arm-index c.arm-item.result (omega arith) c.arm-item.is c.args.ways in
    (omega arith, omega (arith, c.loop-arm.invariant.0, c.loop-arm.invariant.1, more))

pub if_length-returns : goal.if_length-returns
if_length-returns t c =
    let none = ap (λ z. arms_length z c.args.ways) (drop_all c.loop-arm.arm-index c.deref-arm-items.result.now (omega (arith, c.loop-arm-test.false))) in
    omega (arith, c.loop-arm.invariant.0, c.loop-arm.invariant.1)

pub list_length-loop-s-preserved : goal.list_length-loop-s-preserved
list_length-loop-s-preserved t c =
    let more = next_length c.args.ss.now c.loop-s.s-index c.s-item.result (omega arith) c.s-item.is c.args.ways in
    (omega arith, omega (arith, c.loop-s.invariant.0, c.loop-s.invariant.1, c.statement_length.ensures, more))

pub list_length-returns : goal.list_length-returns
list_length-returns t c =
    let none = ap (λ z. part_size_by flat_step (part_of (plain_statements z)) c.args.ways) (drop_all c.loop-s.s-index c.args.ss.now (omega (arith, c.loop-s-test.false))) in
    omega (arith, c.loop-s.invariant.0, c.loop-s.invariant.1)

pub handlers_length-loop-handler-preserved : goal.handlers_length-loop-handler-preserved
handlers_length-loop-handler-preserved t c =
    let hs = c.args.handlers.now in
    let i = c.loop-handler.handler-index in
    let more = ap (λ z. handlers_size_by flat_step (handlers_in z) c.args.ways) (dropped hs i c.handler-item.result (omega arith) c.handler-item.is) in
    (omega arith, omega (arith, c.loop-handler.invariant.0, c.loop-handler.invariant.1, c.statements_length.ensures, more))

pub handlers_length-returns : goal.handlers_length-returns
handlers_length-returns t c =
    let none = ap (λ z. handlers_size_by flat_step (handlers_in z) c.args.ways) (drop_all c.loop-handler.handler-index c.args.handlers.now (omega (arith, c.loop-handler-test.false))) in
    omega (arith, c.loop-handler.invariant.0, c.loop-handler.invariant.1)

pub alternatives_length-loop-alternative-preserved : goal.alternatives_length-loop-alternative-preserved
alternatives_length-loop-alternative-preserved t c =
    let more = next_alternative c.args.alternatives.now c.loop-alternative.alternative-index c.alternative-item.result (omega arith) c.alternative-item.is c.args.ways in
    (omega arith, omega (arith, c.loop-alternative.invariant.0, c.loop-alternative.invariant.1, c.alternative_length.ensures, more))

pub alternatives_length-returns : goal.alternatives_length-returns
alternatives_length-returns t c =
    let none = ap (λ z. offered_size_by flat_step (alternatives_in z) c.args.ways) (drop_all c.loop-alternative.alternative-index c.args.alternatives.now (omega (arith, c.loop-alternative-test.false))) in
    omega (arith, c.loop-alternative.invariant.0, c.loop-alternative.invariant.1)

pub alternative_length-returns-in-Accept : goal.alternative_length-returns-in-Accept
alternative_length-returns-in-Accept t c =
    let is = ap (λ a. alternative_size a c.args.ways) c.in-Accept.is ∙ ap (λ o. offered_size_by flat_step o c.args.ways) (accept_alternative_open c.in-Accept.guard c.in-Accept.accept c.in-Accept.after no_alternatives) in
    let after = c.list_length.ensures ∙ ap (λ z. counted (part_size_by flat_step (part_of (plain_statements z)) c.args.ways)) c.deref.ensures.value in
    omega (arith, after, c.doing_length.ensures, is)

pub alternative_length-returns-in-Delay : goal.alternative_length-returns-in-Delay
alternative_length-returns-in-Delay t c =
    let is = ap (λ a. alternative_size a c.args.ways) c.in-Delay.is ∙ ap (λ o. offered_size_by flat_step o c.args.ways) (delay_alternative_open c.in-Delay.guard c.in-Delay.delay c.in-Delay.after no_alternatives) in
    let after = c.list_length-in-Delay.ensures ∙ ap (λ z. counted (part_size_by flat_step (part_of (plain_statements z)) c.args.ways)) c.deref-in-Delay.ensures.value in
    omega (arith, after, is)
