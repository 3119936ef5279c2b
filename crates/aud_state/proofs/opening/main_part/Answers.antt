use Rattle.std.proofs.Common.{ap, ◌∙◌}
use Rattle.std.specs.Prelude.{[]}
use Rattle.aud_meaning.specs.Configuration.{for_body}
use Rattle.aud_meaning.specs.Ties.Part.{Part}
use Rattle.aud_code.specs.Places.{Spot}
use Rattle.aud_store.specs.Ties.Stored.{entered}
use Rattle.aud_sequential.specs.Parked.{acting, no_part, parked, Parked}
use Rattle.aud_sequential.specs.Shown.{plans_of, unit_in}
use Rattle.aud_sequential.specs.Steps.{on_stored}
use Rattle.aud_state.proofs.TaskLaws.Started.{main_opened}
use Rattle.aud_state.proofs.opening.main_part.Goals as goal

pub returns : goal.returns
returns c = λ empty.
    let us = plans_of c.args.units.now in
    let begun : Parked → Part Spot → Part Spot = λ t p. on_stored (entered for_body (unit_in us 0).region (unit_in us 0).at [] 0) (acting t p) in
    ap (λ (t : Parked). acting t c.exchange-2.new.self) c.exchange-2.ensures.parked
    ∙ ap (λ (p : Part Spot). acting (parked c.open_main.new.self) p) c.exchange-2.ensures.acts
    ∙ c.in_ok-open_main.ensures
    ∙ ap (λ (p : Part Spot). on_stored (entered for_body (unit_in us 0).region (unit_in us 0).at [] 0) p) c.exchange.ensures.acts
    ∙ ap (λ (p : Part Spot). begun c.in_ok-parked.parked p) empty
    ∙ ap (λ (t : Parked). begun t no_part) c.in_ok-parked.ensures
    ∙ main_opened c.args.code.now us
