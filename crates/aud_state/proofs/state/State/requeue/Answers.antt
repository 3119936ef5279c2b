use Rattle.std.proofs.Common.{◌≡◌, Option, Some, slice_get, ap, sym, refl, ◌∙◌, arith}
use Rattle.aud_meaning.specs.Configuration.{All, TaskAt}
use Rattle.aud_meaning.specs.Effects.{out_of}
use Rattle.aud_meaning.specs.Parts.{acting}
use Rattle.aud_meaning.specs.Step as step
use Rattle.aud_meaning.specs.Ties.Part.{shared_by}
use Rattle.aud_code.specs.Control.{going}
use Rattle.aud_code.specs.Places.{Spot, Way, goes_way}
use Rattle.aud_state.specs.View.{plain_task}
use Rattle.aud_state.proofs.TaskLaws.Beside.{alone_changed, alone_past, got}
use Rattle.aud_state.proofs.state.State.requeue.Goals as goal

pub returns-then-n-len : goal.returns-then-n-len
returns-then-n-len c = λ plan barrier.
    let i = c.self.inside in
    let go = going c.args.code.now in
    let n = c.args.n in
    let x = c.index_mut.result.now in
    let t = plain_task x in
    let again = Some c.args.again in
    let there : slice_get c.args.self.now.tasks n ≡ Some t =
    sym (ap (λ (s : All Spot). slice_get s.tasks n) c.self.view_is) ∙ got plain_task i.tasks.items n x (omega arith) c.index_mut.ensures.value in
    alone_changed (λ a. step.out_of_loops go plan barrier c.args.way.loops (step.requeued go plan barrier c.args.again a)) i.tasks.items i.progress i.progress i.calls i.objects.items n x c.requeue.new.self c.args.self.now
    (omega arith) c.index_mut.ensures.value
    (λ s. ap (λ (y : TaskAt Spot). acting y (shared_by s i.progress)) c.requeue.ensures
    ∙ ap (λ (w : Option Way). acting (record { control = goes_way w t.control; own = out_of c.args.way.loops (record t.own { again = again }) }) (shared_by s i.progress)) (sym (c.requires t there)))
    refl c.self.view_is

pub returns-else-n-len : goal.returns-else-n-len
returns-else-n-len c = λ plan barrier.
    let i = c.self.inside in
    alone_past (λ a. step.out_of_loops (going c.args.code.now) plan barrier c.args.way.loops (step.requeued (going c.args.code.now) plan barrier c.args.again a)) i.tasks.items i.progress i.calls i.objects.items c.args.n c.args.self.now (omega arith) c.self.view_is
