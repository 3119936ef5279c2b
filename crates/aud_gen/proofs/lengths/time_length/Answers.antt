use Rattle.std.proofs.Common.{◌∷◌, [], length, ap, ◌∙◌, arith, length-append}
use Rattle.aud_typed.specs.Tree.{no_alternatives}
use Rattle.aud_typed.specs.Ties.View.{plain_delay}
use Rattle.aud_typed.proofs.Opened.{accept_alternative_open, delay_alternative_open}
use Rattle.aud_code.specs.Instruction.{SetTime}
use Rattle.aud_layout.specs.Instructions.{delay_code, delays_code, timed_code}
use Rattle.aud_gen.specs.Writes.{alone}
use Rattle.aud_gen.proofs.lengths.time_length.Goals as goal

pub returns-in-Accept : goal.returns-in-Accept
returns-in-Accept c = λ number.
    let is = ap (λ a. length (delays_code number (alone a))) c.in-Accept.is ∙ ap (λ o. length (delays_code number o)) (accept_alternative_open c.in-Accept.guard c.in-Accept.accept c.in-Accept.after no_alternatives) in
    omega (arith, is)

pub returns-in-Delay : goal.returns-in-Delay
returns-in-Delay c = λ number.
    let e = plain_delay c.in-Delay.delay in
    let is = ap (λ a. length (delays_code number (alone a))) c.in-Delay.is ∙ ap (λ o. length (delays_code number o)) (delay_alternative_open c.in-Delay.guard c.in-Delay.delay c.in-Delay.after no_alternatives) in
    omega (arith, c.delay_length.ensures, is, length-append (timed_code number e) [], length-append (delay_code e) (SetTime number ∷ []))

pub returns-in-Terminate : goal.returns-in-Terminate
returns-in-Terminate c = λ number. omega (arith, ap (λ a. length (delays_code number (alone a))) c.in-Terminate.is)
