use Rattle.std.proofs.Common.{ap, sym, ◌∙◌}
use Rattle.aud_meaning.specs.Listings.{turn_kind}
use Rattle.aud_code.specs.Flat.{barrier_at}
use Rattle.aud_meaning.specs.Parts.{own_of, sight_of}
use Rattle.aud_tasks.specs.Turning.{coming_in, turned}
use Rattle.aud_tasks.proofs.ViewLaws.Listed.{kind_as}
use Rattle.aud_tasks.proofs.coming.kind_of.Goals as goal

pub returns-in-Acting : goal.returns-in-Acting
returns-in-Acting c = λ plan.
    let code = c.args.code.now in
    let s = c.args.state.now in
    let n = c.args.task in
    kind_as plan code n s (own_of n s) c.next_kind.result (coming_in plan code n s) (c.next_kind.ensures plan (sight_of n s))
    ∙ ap (λ x. turn_kind plan (barrier_at code) (turned plan code n s x) (own_of n s)) (sym c.in-Acting.is)
