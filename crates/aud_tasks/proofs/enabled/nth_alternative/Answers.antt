use Rattle.std.proofs.Common.{Some, slice_get, ap, sym, ◌∙◌, arith}
use Rattle.aud_tasks.specs.Enabled.{each_or_one}
use Rattle.aud_tasks.proofs.MoveLaws.Alternatives.{each_picked, no_number, picked_at, picked_past}
use Rattle.aud_tasks.proofs.enabled.nth_alternative.Goals as goal

pub returns-then-is_empty : goal.returns-then-is_empty
returns-then-is_empty c =
    c.nth_only.ensures
    ∙ ap (λ ns. slice_get (each_or_one c.args.task ns) c.args.index) (sym (no_number c.args.numbers.now (sym c.is_empty.ensures ∙ c.if-is_empty.true)))

pub returns-in-Some : goal.returns-in-Some
returns-in-Some c =
    let ns = c.args.numbers.now in
    ap Some c.pick.ensures
    ∙ sym (ap (λ ms. slice_get ms c.args.index) (each_picked c.args.task ns (sym c.is_empty.ensures ∙ c.if-is_empty.false))
    ∙ picked_at c.args.task ns c.args.index c.in-Some.number.now c.in-Some.ensures.lookup.3.0 c.in-Some.ensures.lookup.1)

pub returns-in-None : goal.returns-in-None
returns-in-None c =
    let ns = c.args.numbers.now in
    sym (ap (λ ms. slice_get ms c.args.index) (each_picked c.args.task ns (sym c.is_empty.ensures ∙ c.if-is_empty.false))
    ∙ picked_past c.args.task ns c.args.index (omega (arith, c.in-None.ensures.lookup)))
