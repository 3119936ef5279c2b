use Rattle.std.proofs.Common.{◌∷◌, [], length, ap, ◌∙◌, arith, length-append}
use Rattle.aud_typed.specs.declared.program.AcceptStatement.{out-AcceptStatement}
use Rattle.aud_typed.specs.Tree.{no_alternatives}
use Rattle.aud_typed.specs.Ties.View.{doing_in, plain_boolean}
use Rattle.aud_typed.proofs.Opened.{accept_alternative_open, delay_alternative_open}
use Rattle.aud_meaning.specs.declared.state.OpenAccept.{OpenAccept}
use Rattle.aud_meaning.specs.Statements.{region_of}
use Rattle.aud_code.specs.Instruction.{OpensAccept, OpensDelay, OpensTerminate}
use Rattle.aud_layout.specs.Instructions.{condition_code, guards_code}
use Rattle.aud_gen.specs.Writes.{alone}
use Rattle.aud_gen.proofs.lengths.guard_length.Goals as goal

pub returns-in-Accept : goal.returns-in-Accept
returns-in-Accept c = λ number.
    let s = out-AcceptStatement c.in-Accept.accept in
    let its : OpenAccept = record { alternative = number; entry = s.entry; at = s.at; region = region_of (doing_in s.doing) } in
    let is = ap (λ a. length (guards_code number (alone a))) c.in-Accept.is ∙ ap (λ o. length (guards_code number o)) (accept_alternative_open c.in-Accept.guard c.in-Accept.accept c.in-Accept.after no_alternatives) in
    omega (arith, c.boolean_length.ensures, is, length-append (condition_code (plain_boolean c.in-Accept.guard)) (OpensAccept its ∷ []))

pub returns-in-Delay : goal.returns-in-Delay
returns-in-Delay c = λ number.
    let is = ap (λ a. length (guards_code number (alone a))) c.in-Delay.is ∙ ap (λ o. length (guards_code number o)) (delay_alternative_open c.in-Delay.guard c.in-Delay.delay c.in-Delay.after no_alternatives) in
    omega (arith, c.boolean_length-in-Delay.ensures, is, length-append (condition_code (plain_boolean c.in-Delay.guard)) (OpensDelay number ∷ []))

pub returns-in-Terminate : goal.returns-in-Terminate
returns-in-Terminate c = λ number.
    let is = ap (λ a. length (guards_code number (alone a))) c.in-Terminate.is in
    omega (arith, c.boolean_length-in-Terminate.ensures, is, length-append (condition_code (plain_boolean c.in-Terminate.guard)) (OpensTerminate ∷ []))
