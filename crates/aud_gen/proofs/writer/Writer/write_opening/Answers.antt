use Rattle.std.proofs.Common.{ap, sym, ◌∙◌, subst}
use Rattle.aud_typed.specs.Tree.{no_alternatives}
use Rattle.aud_typed.proofs.Opened.{accept_alternative_open, delay_alternative_open}
use Rattle.aud_layout.specs.Instructions.{guards_code}
use Rattle.aud_gen.specs.Writes.{alone, Instructs}
use Rattle.aud_gen.proofs.Writing.{◌then◌}
use Rattle.aud_gen.proofs.writer.Writer.write_opening.Goals as goal

pub returns-in-Accept : goal.returns-in-Accept
returns-in-Accept c =
    let is = ap (λ a. guards_code c.args.number (alone a)) c.in-Accept.is ∙ ap (guards_code c.args.number) (accept_alternative_open c.in-Accept.guard c.in-Accept.accept c.in-Accept.after no_alternatives) in
    subst (λ js. Instructs c.args.self.now c.instruct.new.self js) (sym is) (c.write_boolean.ensures then (rw c.open_accept.ensures at c.instruct.ensures))

pub returns-in-Delay : goal.returns-in-Delay
returns-in-Delay c =
    let is = ap (λ a. guards_code c.args.number (alone a)) c.in-Delay.is ∙ ap (guards_code c.args.number) (delay_alternative_open c.in-Delay.guard c.in-Delay.delay c.in-Delay.after no_alternatives) in
    subst (λ js. Instructs c.args.self.now c.instruct-in-Delay.new.self js) (sym is) (c.write_boolean-in-Delay.ensures then c.instruct-in-Delay.ensures)

pub returns-in-Terminate : goal.returns-in-Terminate
returns-in-Terminate c = rw c.in-Terminate.is (c.write_boolean-in-Terminate.ensures then c.instruct-in-Terminate.ensures)
