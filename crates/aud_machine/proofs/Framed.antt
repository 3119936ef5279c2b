-- A machine's tasks hold the frames that are open where they stand, whatever is done to it.
use Rattle.std.proofs.Common.{◌≡◌, ℕ, List, Option, Some, None, Bool, refl, sym, subst, slice_get}
use Rattle.aud_text.specs.declared.limits.Limits.{Limits}
use Rattle.aud_typed.specs.declared.program.Program.{Program}
use Rattle.aud_typed.specs.Ties.View.{plain_program}
use Rattle.aud_typed.specs.Tree as tree
use Rattle.aud_typed.specs.Tree.{Plan}
use Rattle.aud_typed.specs.Why.Scoped.{IsScoped}
use Rattle.aud_scoped.specs.Declares.{DeclaresInParts}
use Rattle.aud_meaning.specs.declared.state.Move.{Move}
use Rattle.aud_meaning.specs.Configuration.{All}
use Rattle.aud_meaning.specs.Run.{moves_at, opening_with, supplied, advanced}
use Rattle.aud_code.specs.Places.{Spot}
use Rattle.aud_code.specs.Flat.{Flat, flat_controls}
use Rattle.aud_code.specs.Sound.{IsSound}
use Rattle.aud_code.specs.View.{EndsPlainly}
use Rattle.aud_layout.specs.Assembly.{flat_program}
use Rattle.aud_layout.proofs.Flat.Levels.{frames_are_tabled}
use Rattle.aud_framed.specs.Fitting.{DeclaresDirectly, OnlyOpen}
use Rattle.aud_framed.specs.Runs.{Comes, GoesOn}
use Rattle.aud_framed.proofs.Running.Reaching.{comes, comes_kept}
use Rattle.aud_framed.proofs.Running.Standing.{comes_open}
use Rattle.aud_framed.proofs.Stepping.Leading.{plain_ways}
use Rattle.aud_tasks.specs.declared.run.Ran.{Ran}
use Rattle.aud_tasks.specs.Running.{RunsLeaving, Takes}
use Rattle.aud_machine.specs.Frames.{HasTable, HoldsFrames, Meets}
use Rattle.aud_machine.specs.Shown.{Shown}
use Rattle.aud_machine.proofs.Bridges.{Forgets}

pub frames_tabled : (p : tree.Program) → IsScoped p → DeclaresInParts p → HasTable p.plan (flat_program p)
frames_tabled p scoped declares =
    let t = frames_are_tabled p scoped declares in
    (t.0, t.1, t.2, t.3, t.4, record { bodies = t.5; types = t.6 }, tt)

module _ (p : Program) (code : Flat) (limits : Limits) where
  abbrev plan : Plan
  plan = (plain_program p).plan

  abbrev IsCome : All Spot → Type 0
  IsCome = Comes plan code p.name limits

  goes : GoesOn plan code p.name limits
  goes = comes plan code p.name limits

  pub opening_comes : (new : All Spot) → new ≡ opening_with plan p.name ((flat_controls plan code).begins 0) → IsCome new
  opening_comes new told = subst IsCome (sym told) goes.begins

  pub supplied_comes : (choices : List ℕ) (old new : All Spot) → new ≡ supplied choices old → IsCome old → IsCome new
  supplied_comes choices old new told h = subst IsCome (sym told) (goes.supplies choices old h)

  pub advanced_comes : (milliseconds : ℕ) (old new : All Spot) → new ≡ advanced milliseconds old → IsCome old → IsCome new
  advanced_comes milliseconds old new told h = subst IsCome (sym told) (goes.waits milliseconds old h)

  pub runs_comes : (n : ℕ) (old new : All Spot) (ran : Ran) → RunsLeaving plan code limits n old new ran → IsCome old → IsCome new
  runs_comes n old new ran told h = goes.kept _ new told.left (goes.runs n old h)

  pub taken_comes : (nth : ℕ) (old mid new : All Spot) (taken : Option Ran) → Forgets taken mid new → Takes plan code limits (slice_get (moves_at plan (flat_controls plan code) old) nth) old mid taken → IsCome old → IsCome new
  taken_comes nth old mid new taken forgets told h = goes.kept mid new forgets.left (by (slice_get (moves_at plan (flat_controls plan code) old) nth) refl told)
    where
      by : (o : Option Move) → slice_get (moves_at plan (flat_controls plan code) old) nth ≡ o → Takes plan code limits o old mid taken → IsCome mid
      by None at none = subst IsCome (sym none.1) h
      by (Some m) at took = subst IsCome (sym took.2.next) (goes.steps nth m old at h)

  abbrev machine : Bool → All Spot → Shown
  machine spent all = record { program = p; code = code; limits = limits; all = all; spent = spent }

  pub holds_frames : (spent : Bool) (all : All Spot) → IsSound code → EndsPlainly code → HasTable plan code → IsCome all → Meets (machine spent all) → HoldsFrames (machine spent all)
  holds_frames spent all sound plainly t is meets =
      (t.0, t.1, t.2, t.3, t.4, t.5, (comes_kept plan code t.0 t.1 t.2 t.3 p.name limits sound t.4 t.5 (plain_ways code plainly) meets all is).framed)

  pub opens_seen : (spent : Bool) (all : All Spot) → IsSound code → EndsPlainly code → HasTable plan code → IsCome all → Meets (machine spent all) → DeclaresDirectly code → OnlyOpen plan code all
  opens_seen spent all sound plainly t is meets direct = comes_open plan code t.0 t.1 t.2 t.3 p.name limits sound t.4 t.5 (plain_ways code plainly) direct meets all is
