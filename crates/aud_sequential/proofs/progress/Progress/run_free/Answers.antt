use Rattle.std.proofs.Common.{◌≡◌, ◌+◌, reverse, ap, ◌∙◌, refl, subst, arith}
use Rattle.aud_meaning.specs.Effects.{innermost}
use Rattle.aud_meaning.specs.Ties.Part.{Part}
use Rattle.aud_code.specs.Places.{Spot, goes}
use Rattle.aud_store.specs.Ties.Stored.{Stored}
use Rattle.aud_sequential.specs.Fast.{Free, led, RunsFast}
use Rattle.aud_sequential.proofs.FastRuns.{runs_fast}
use Rattle.aud_sequential.proofs.progress.Progress.run_free.Goals as goal
use Rattle.aud_sequential.proofs.progress.Progress.run_free.Goals.{After-fast_run-run}

abbrev before : (c : After-fast_run-run) → Part Spot
before c =
    let inside = c.self.inside in
    record { control = record { place = inside.place; returns = reverse inside.returns.items }; pending = inside.pending; stack = inside.store.stack; frames = inside.store.frames; output = inside.output.items; cut = inside.cut; choices = inside.choices.items; clock = inside.clock; steps = inside.steps }

free : (c : After-fast_run-run) → Free c.self.inside.place (innermost c.self.inside.store.stack.opened) c.self.inside.store.stack.display c.self.inside.store.frames (before c)
free c = record {
  none = rw (← c.self.view_is) at c.requires.none;
  uncut = rw (← c.self.view_is) at c.requires.uncut;
  control = refl;
  innermost = refl;
  sees = refl;
  has = refl;
}

abbrev with_store : (c : After-fast_run-run) → Stored → Part Spot
with_store c store = record (before c) { control = goes c.fast_run-run.result.place (before c).control; stack = store.stack; frames = store.frames; steps = c.self.inside.steps + c.fast_run-run.result.steps }

abbrev after : (c : After-fast_run-run) → Part Spot
after c = with_store c c.fast_run-run.new.store

led_there : (c : After-fast_run-run) → after c ≡ led c.fast_run-run.result.place c.fast_run-run.new.store.frames c.fast_run-run.result.steps (before c)
led_there c =
    let run = c.fast_run-run.result in
    let steps : c.self.inside.steps + run.steps ≡ run.steps + c.self.inside.steps = omega arith in
    ap (with_store c) c.fast_run-run.ensures.same ∙ ap (λ n. record (led run.place c.fast_run-run.new.store.frames run.steps (before c)) { steps = n }) steps

pub returns : goal.returns
returns c =
    let there = (goal.at.returns c).After-fast_run-run in
    let inside = c.self.inside in
    let run = c.fast_run-run.result in
    let fast = runs_fast c.args.code.now c.args.n inside.place (innermost inside.store.stack.opened) inside.store.stack.display inside.store.frames c.fast_run-run.new.store.frames (before there) (after there) run (free there) c.fast_run-run.ensures.done c.fast_run-run.ensures.few (led_there there) in
    record { runs = subst (λ p. RunsFast c.args.code.now c.args.n p (after there) run) c.self.view_is fast }
