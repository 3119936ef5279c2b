use Rattle.std.proofs.Common.{sym, ◌∙◌}
use Rattle.std.specs.Prelude.{slice_get, false}
use Rattle.aud_typed.specs.Ties.View.{plain_program}
use Rattle.aud_meaning.specs.Configuration.{All}
use Rattle.aud_meaning.specs.Run.{moves_at}
use Rattle.aud_code.specs.Places.{Spot}
use Rattle.aud_code.specs.Flat.{flat_controls}
use Rattle.aud_machine.specs.Frames.{ComesTo}
use Rattle.aud_machine.specs.Shows.{MissesNone}
use Rattle.aud_machine.proofs.Bridges.{Forgets, forgot, nothing_forgot, taken_shown, counted_taken, few_taken, spots_stay, within_taken}
use Rattle.aud_machine.proofs.Framed.{taken_comes}
use Rattle.aud_machine.proofs.Missed.{taken_misses}
use Rattle.aud_machine.proofs.machine.Machine.take.Goals as goal
use Rattle.aud_machine.proofs.machine.Machine.take.Goals.{then-is_some+in_ok-forget_if_due, else-is_some}

pub returns-clause-takes : goal.returns-clause-takes
returns-clause-takes c =
    let inside = c.self.inside in
    let mid = c.take.new.state in
    let taken = c.in_ok-taken.taken in
    elim c.if-is_some.branch [
      | then-is_some+in_ok-forget_if_due w ↦
          let new = w.forget_if_due.new.state in
          let told = w.in_ok-forget_if_due.ensures in
          let forgets : Forgets taken mid new = forgot taken mid new (sym c.is_some.ensures ∙ w.if-is_some.true) told.left told.others in
          rw (w.self-inside-is, ← c.self.view_is) (λ shown h.
          taken_shown inside.program inside.code c.self.invariant.0 inside.limits inside.spent inside.state shown h c.args.nth mid new taken forgets c.in_ok-taken.ensures.takes)
      | else-is_some w ↦
          rw (w.self-inside-is, ← c.self.view_is) (λ shown h.
          taken_shown inside.program inside.code c.self.invariant.0 inside.limits inside.spent inside.state shown h c.args.nth mid mid taken (nothing_forgot taken mid) c.in_ok-taken.ensures.takes)
    ]

pub returns-clause-ticks : goal.returns-clause-ticks
returns-clause-ticks c =
    let inside = c.self.inside in
    let plan = (plain_program inside.program).plan in
    rw (← c.self.view_is) (few_taken plan inside.code inside.limits (slice_get (moves_at plan (flat_controls plan inside.code) inside.state) c.args.nth) inside.state c.take.new.state c.in_ok-taken.taken c.self.invariant.1 c.in_ok-taken.ensures.takes)

pub returns-clause-counts : goal.returns-clause-counts
returns-clause-counts c =
    let inside = c.self.inside in
    let plan = (plain_program inside.program).plan in
    rw (← c.self.view_is) (counted_taken plan inside.code inside.limits (slice_get (moves_at plan (flat_controls plan inside.code) inside.state) c.args.nth) inside.state c.take.new.state c.in_ok-taken.taken c.in_ok-taken.ensures.takes)

pub invariant_of-self-2 : goal.invariant_of-self-2
invariant_of-self-2 c =
    let inside = c.self.inside in
    let plan = (plain_program inside.program).plan in
    let move = slice_get (moves_at plan (flat_controls plan inside.code) inside.state) c.args.nth in
    let mid = c.take.new.state in
    let taken = c.in_ok-taken.taken in
    let done = c.in_ok-taken.ensures in
    let misses : (new : All Spot) → Forgets taken mid new → MissesNone (record { program = inside.program; code = inside.code; limits = inside.limits; all = new; spent = false }) =
    (λ new forgets. taken_misses inside.program inside.code c.self.invariant.0 inside.limits inside.spent inside.state (c.self.invariant.4 c.if-self.false) c.args.nth mid new taken forgets done.takes) in
    let come : (new : All Spot) → Forgets taken mid new → ComesTo (record { program = inside.program; code = inside.code; limits = inside.limits; all = new; spent = false }) =
    (λ new forgets. taken_comes inside.program inside.code inside.limits c.args.nth inside.state mid new taken forgets done.takes (c.self.invariant.6 c.if-self.false)) in
    elim c.if-is_some.branch [
      | then-is_some+in_ok-forget_if_due w ↦
          let new = w.forget_if_due.new.state in
          let told = w.in_ok-forget_if_due.ensures in
          let forgets : Forgets taken mid new = forgot taken mid new (sym c.is_some.ensures ∙ w.if-is_some.true) told.left told.others in
          rw w.self-inside-is (c.self.invariant.0, c.self.invariant.1, λ alive. spots_stay inside.code taken mid new forgets done.spots, λ alive one. within_taken plan inside.code inside.limits move inside.state mid new taken done.takes forgets (c.self.invariant.3 c.if-self.false one), λ alive. misses new forgets, c.self.invariant.5, λ alive. come new forgets)
      | else-is_some w ↦ rw w.self-inside-is (c.self.invariant.0, c.self.invariant.1, λ alive. done.spots, λ alive one. within_taken plan inside.code inside.limits move inside.state mid mid taken done.takes (nothing_forgot taken mid) (c.self.invariant.3 c.if-self.false one), λ alive. misses mid (nothing_forgot taken mid), c.self.invariant.5, λ alive. come mid (nothing_forgot taken mid))
    ]
