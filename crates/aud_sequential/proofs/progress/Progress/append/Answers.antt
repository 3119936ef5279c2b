use Rattle.std.proofs.Common.{reverse, ap, ◌∙◌, arith}
use Rattle.aud_meaning.specs.Ties.Part.{Part}
use Rattle.aud_code.specs.Places.{Spot}
use Rattle.aud_sequential.specs.Steps.{written}
use Rattle.aud_sequential.proofs.Output.{put_cut}
use Rattle.aud_sequential.proofs.progress.Progress.append.Goals as goal

pub returns : goal.returns
returns c =
    let inside = c.self.inside in
    let p : Part Spot = record { control = record { place = inside.place; returns = reverse inside.returns.items }; pending = inside.pending; stack = inside.store.stack; frames = inside.store.frames; output = inside.output.items; cut = inside.cut; choices = inside.choices.items; clock = inside.clock; steps = inside.steps } in
    put_cut c.args.text.now p c.extend_from_slice-2.new.self.items c.self.invariant.0 (omega (arith, c.if-text-room.false)) (grind (arith, c.in_ok-extend_from_slice-2.ensures.items))
    ∙ ap (written c.args.text.now) c.self.view_is
