use Rattle.std.proofs.Common.{◌≡◌, [], ◌∷◌, length, ap, sym, ◌∙◌, subst, arith, append-nil, length-append}
use Rattle.aud_typed.specs.Tree.{no_alternatives}
use Rattle.aud_typed.specs.Ties.View.{plain_delay}
use Rattle.aud_typed.proofs.Opened.{accept_alternative_open, delay_alternative_open}
use Rattle.aud_code.specs.Instruction.{PassUnlessNext, SetTime}
use Rattle.aud_layout.specs.Instructions.{delay_code, delays_code, timed_code}
use Rattle.aud_gen.specs.Writes.{alone, Finds, Instructs}
use Rattle.aud_gen.proofs.Writing.{◌then◌, found_then, nothing_instructed}
use Rattle.aud_gen.proofs.writer.Writer.write_time.Goals as goal

pub returns-in-Accept : goal.returns-in-Accept
returns-in-Accept c =
    let is = ap (λ a. delays_code c.args.number (alone a)) c.in-Accept.is ∙ ap (delays_code c.args.number) (accept_alternative_open c.in-Accept.guard c.in-Accept.accept c.in-Accept.after no_alternatives) in
    subst (λ js. Instructs c.args.self.now c.args.self.now js) (sym is) nothing_instructed

pub returns-in-Delay : goal.returns-in-Delay
returns-in-Delay c =
    let n = c.args.number in
    let e = delay_code (plain_delay c.in-Delay.delay) in
    let timed = timed_code n (plain_delay c.in-Delay.delay) in
    let is = ap (λ a. delays_code n (alone a)) c.in-Delay.is ∙ ap (delays_code n) (delay_alternative_open c.in-Delay.guard c.in-Delay.delay c.in-Delay.after no_alternatives) in
    let passed : Finds c.args.self.now c.behind-passed.new.self (c.behind-passed.result ≡ length timed) = record {
      same = c.behind-passed.ensures.same;
      unless_refused = λ r. let it = c.behind-passed.ensures.unless_refused r in (it.0, omega (arith, it.1.0, it.1.1, c.delay_length.ensures, length-append e (SetTime n ∷ [])));
    } in
    subst (λ js. Instructs c.args.self.now c.instruct-in-Delay.new.self js) (ap (λ js. PassUnlessNext n (length timed) ∷ js) (sym (append-nil timed)) ∙ sym is)
    (found_then (λ k. PassUnlessNext n k ∷ timed) c.behind-passed.result (length timed) passed (c.instruct.ensures then c.write_delay.ensures then c.instruct-in-Delay.ensures))

pub returns-in-Terminate : goal.returns-in-Terminate
returns-in-Terminate c = rw c.in-Terminate.is nothing_instructed
