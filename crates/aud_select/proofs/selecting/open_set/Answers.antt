use Rattle.std.proofs.Common.{map, ap, ◌∙◌}
use Rattle.aud_meaning.specs.declared.state.OpenAccept.{OpenAccept}
use Rattle.aud_meaning.specs.Run.{seen}
use Rattle.aud_code.specs.Flat.{barrier_at, flat_controls}
use Rattle.aud_select.proofs.Picking.{called_same}
use Rattle.aud_select.proofs.selecting.open_set.Goals as goal

pub returns : goal.returns
returns c = λ plan code.
    c.in_ok-numbers.ensures
    ∙ ap (map (λ (a : OpenAccept). a.alternative)) (called_same plan (barrier_at code) c.args.n (seen plan (flat_controls plan code) c.args.state.now) c.args.accepts.now)
