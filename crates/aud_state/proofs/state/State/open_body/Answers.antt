use Rattle.std.proofs.Common.{arith}
use Rattle.std.specs.Prelude.{pos, ◌∷◌, []}
use Rattle.aud_meaning.specs.Configuration.{for_body}
use Rattle.aud_meaning.specs.Effects.{opens}
use Rattle.aud_sequential.specs.Shown.{plans_of, unit_in}
use Rattle.aud_state.proofs.TaskLaws.Beside.{alone_changed, alone_past}
use Rattle.aud_state.proofs.state.State.open_body.Goals as goal

pub returns-in_ok-open_body : goal.returns-in_ok-open_body
returns-in_ok-open_body c =
    let i = c.self.inside in
    alone_changed (λ t. opens for_body (unit_in (plans_of c.args.units.now) c.args.unit).region (unit_in (plans_of c.args.units.now) c.args.unit).at t.own.display (pos c.args.n ∷ []) 1 t) i.tasks.items i.progress c.open_body.new.progress i.calls i.objects.items c.args.n c.index_mut.result.now c.open_body.new.self c.args.self.now
    (omega arith) c.index_mut.ensures.value c.in_ok-open_body.ensures.does c.in_ok-open_body.ensures.kept c.self.view_is

pub returns-else-n-len : goal.returns-else-n-len
returns-else-n-len c =
    let i = c.self.inside in
    alone_past (λ t. opens for_body (unit_in (plans_of c.args.units.now) c.args.unit).region (unit_in (plans_of c.args.units.now) c.args.unit).at t.own.display (pos c.args.n ∷ []) 1 t) i.tasks.items i.progress i.calls i.objects.items c.args.n c.args.self.now (omega arith) c.self.view_is
