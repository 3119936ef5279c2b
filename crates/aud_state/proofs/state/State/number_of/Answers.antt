use Rattle.std.proofs.Common.{ap, sym, ◌∙◌}
use Rattle.std.specs.Prelude.{nat_abs}
use Rattle.aud_meaning.specs.Configuration.{All}
use Rattle.aud_meaning.specs.Parts.{sight_of}
use Rattle.aud_code.specs.Flat.{no_scene}
use Rattle.aud_code.specs.Places.{Spot}
use Rattle.aud_store.specs.Ties.Stored.{Stored}
use Rattle.aud_state.proofs.state.State.number_of.Goals as goal

pub returns : goal.returns
returns c =
    c.number_in.ensures
    ∙ ap nat_abs (c.value_of.ensures (no_scene (sight_of c.args.n c.args.self.now)) (sym c.display.ensures) (ap (λ (a : All Spot). a.shared.frames) (sym c.self.view_is) ∙ sym (c.frames-frames.ensures ∙ ap (λ (s : Stored). s.frames) c.store.ensures)))
