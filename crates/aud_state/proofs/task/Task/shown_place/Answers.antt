use Rattle.std.proofs.Common.{ap, sym, ◌∙◌}
use Rattle.aud_sequential.specs.Next.{place_in}
use Rattle.aud_sequential.specs.Parked.{no_part}
use Rattle.aud_state.proofs.task.Task.shown_place.Goals as goal

pub returns : goal.returns
returns c =
    let stands = c.standing.ensures no_part in
    c.shown_place.ensures
    ∙ ap (λ n. place_in c.args.code.now n c.standing.result.pending) (sym stands.place)
    ∙ ap (place_in c.args.code.now c.args.self.now.parked.control.place) (sym stands.pends)
