use Rattle.std.proofs.Common.{◌≡◌, ◌+◌, ℕ, [], ◌∷◌, ap, sym, ◌∙◌, arith}
use Rattle.aud_typed.specs.declared.program.AcceptStatement.{out-AcceptStatement}
use Rattle.aud_typed.specs.Tree.{no_alternatives, part_of}
use Rattle.aud_typed.specs.Ties.View.{doing_in, plain_statements}
use Rattle.aud_typed.proofs.Opened.{accept_alternative_open, delay_alternative_open}
use Rattle.aud_layout.specs.Layout.{bodies_from_by, doing_place, doing_size_by, part_place, parts_from_by}
use Rattle.aud_layout.specs.Written.{flat_step}
use Rattle.aud_gen.specs.Writes.{alone}
use Rattle.aud_gen.proofs.entries.offer.Goals as goal

pub returns-in_ok-second-in-Accept : goal.returns-in_ok-second-in-Accept
returns-in_ok-second-in-Accept c = λ ways.
    let next = c.args.next in
    let place = c.args.place in
    let d = doing_in (out-AcceptStatement c.in-Accept.accept).doing in
    let p = part_of (plain_statements c.in-Accept.after.items) in
    let alternatives = ap alone c.in-Accept.is ∙ accept_alternative_open c.in-Accept.guard c.in-Accept.accept c.in-Accept.after no_alternatives in
    let second : c.in_ok-second-in-Accept.second ≡ place + doing_size_by flat_step d = omega (arith, c.in_ok-second-in-Accept.ensures.same, c.in_ok-second-in-Accept.ensures.whole, c.doing_length.ensures) in
    let behind = c.part_place-behind.ensures ∙ ap (λ xs. part_place (part_of (plain_statements xs)) c.in_ok-second-in-Accept.second next) c.deref.ensures.value ∙ ap (λ (n : ℕ). part_place p n next) second in
    let body = c.doing_place-body.ensures ∙ ap (λ (n : ℕ). doing_place d place n) behind in
    (ap (λ o. parts_from_by flat_step o place next ways) alternatives ∙ ap (λ (n : ℕ). n ∷ []) (sym behind), ap (λ o. bodies_from_by flat_step o place next ways) alternatives ∙ ap (λ (n : ℕ). n ∷ []) (sym body))

pub returns-in-Delay : goal.returns-in-Delay
returns-in-Delay c = λ ways.
    let next = c.args.next in
    let place = c.args.place in
    let alternatives = ap alone c.in-Delay.is ∙ delay_alternative_open c.in-Delay.guard c.in-Delay.delay c.in-Delay.after no_alternatives in
    let behind = c.part_place-behind-in-Delay.ensures ∙ ap (λ xs. part_place (part_of (plain_statements xs)) place next) c.deref-in-Delay.ensures.value in
    (ap (λ o. parts_from_by flat_step o place next ways) alternatives ∙ ap (λ (n : ℕ). n ∷ []) (sym behind), ap (λ o. bodies_from_by flat_step o place next ways) alternatives ∙ ap (λ (n : ℕ). n ∷ []) (sym behind))

pub returns-in-Terminate : goal.returns-in-Terminate
returns-in-Terminate c = λ ways.
    (ap (λ a. parts_from_by flat_step (alone a) c.args.place c.args.next ways) c.in-Terminate.is, ap (λ a. bodies_from_by flat_step (alone a) c.args.place c.args.next ways) c.in-Terminate.is)
