use Rattle.std.proofs.Common.{◌≡◌, ◌+◌, ℕ, reverse, sym, ap, ◌∙◌, refl, subst, arith}
use Rattle.aud_meaning.specs.Ties.Part.{Part}
use Rattle.aud_code.specs.Places.{Spot, goes}
use Rattle.aud_sequential.specs.Fast.{Free, RunsFast}
use Rattle.aud_store.specs.Ties.Stored.{Stored}
use Rattle.aud_sequential.specs.Parked.{Parked, acting, parked}
use Rattle.aud_sequential.proofs.FastRuns.{runs_fast}
use Rattle.aud_sequential.proofs.progress.Progress.run_free_once.Goals as goal
use Rattle.aud_sequential.proofs.progress.Progress.run_free_once.Goals.{After-single_run-run}

abbrev before : (c : After-single_run-run) → Part Spot
before c =
    let own = c.task.inside in
    let all = c.self.inside in
    record { control = record { place = own.place; returns = reverse own.returns.items }; pending = own.pending; stack = own.stack; frames = all.store.frames; output = all.output.items; cut = all.cut; choices = all.choices.items; clock = all.clock; steps = all.steps }

acts_so : (c : After-single_run-run) → before c ≡ acting c.args.task.now c.args.self.now
acts_so c =
    let own = c.task.inside in
    ap (acting (record { control = record { place = own.place; returns = reverse own.returns.items }; pending = own.pending; stack = own.stack })) c.self.view_is
    ∙ ap (λ (t : Parked). acting t c.args.self.now) c.task.view_is

free : (c : After-single_run-run) → Free c.task.inside.place c.innermost_number-innermost.result c.display-display.result.now c.self.inside.store.frames (before c)
free c = record {
  none = rw (← c.task.view_is) at c.requires.none;
  uncut = rw (← c.self.view_is) at c.requires.uncut;
  control = refl;
  innermost = sym c.innermost_number-innermost.ensures;
  sees = sym c.display-display.ensures;
  has = refl;
}

abbrev with_steps : (c : After-single_run-run) → ℕ → Part Spot
with_steps c n = record (before c) { control = goes c.single_run-run.result.place (before c).control; frames = c.single_run-run.new.store.frames; steps = n }

-- what lies in the progress meanwhile
abbrev own : (c : After-single_run-run) → Parked
own c =
    let all = c.self.inside in
    record { control = record { place = all.place; returns = reverse all.returns.items }; pending = all.pending; stack = all.store.stack }

pub returns : goal.returns
returns c =
    let there = (goal.at.returns c).After-single_run-run in
    let code = c.args.code.now in
    let run = c.single_run-run.result in
    let new = c.single_run-run.new.store.frames in
    let steps : c.self.inside.steps + run.steps ≡ run.steps + c.self.inside.steps = omega arith in
    let fast = runs_fast code 1 c.task.inside.place c.innermost_number-innermost.result c.display-display.result.now c.self.inside.store.frames new (before there) (with_steps there (c.self.inside.steps + run.steps)) run (free there) c.single_run-run.ensures.done c.single_run-run.ensures.few (ap (with_steps there) steps) in
    record {
      runs = subst (λ p. RunsFast code 1 p (with_steps there (c.self.inside.steps + run.steps)) run) (acts_so there) fast;
      here = ap (λ (s : Stored). record (own there) { stack = s.stack }) c.single_run-run.ensures.same ∙ ap parked c.self.view_is;
    }
