use Rattle.std.proofs.Common.{ap, sym, ◌∙◌}
use Rattle.aud_meaning.specs.Listings.{place_by}
use Rattle.aud_code.specs.Flat.{barrier_at}
use Rattle.aud_tasks.specs.Turning.{seen_in, turned}
use Rattle.aud_tasks.proofs.coming.place_of.Goals as goal

pub returns-in-Completing : goal.returns-in-Completing
returns-in-Completing c = λ plan units.
    let code = c.args.compiled.code.now in
    let s = c.args.state.now in
    let n = c.args.task in
    c.end_of_body.ensures plan units
    ∙ ap (λ x. place_by plan (barrier_at code) (turned plan code n s x) (seen_in plan code n s)) (sym c.in-Completing.is)
