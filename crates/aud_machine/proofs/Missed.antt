-- No call is queued on a task's open entry, whatever is done to a machine.
use Rattle.std.proofs.Common.{◌≡◌, ℕ, suc, List, [], ◌∷◌, slice_get, slice_index_or, Option, Some, None, Bool, true, false, refl, sym, ap, ◌∙◌, subst, if◌then◌else◌}
use Rattle.std.specs.Prelude.{◌&&◌, ◌||◌, not, nat_eq}
use Rattle.aud_text.specs.declared.limits.Limits.{Limits}
use Rattle.aud_typed.specs.declared.program.Program.{Program}
use Rattle.aud_typed.specs.Ties.View.{plain_program}
use Rattle.aud_typed.specs.Tree as tree
use Rattle.aud_meaning.specs.declared.state.CallState.{CallState}
use Rattle.aud_meaning.specs.declared.state.CallState.TheVariants.{Queued, Selected, Done, Cancelled}
use Rattle.aud_meaning.specs.declared.state.Owner.{Owner}
use Rattle.aud_meaning.specs.declared.state.Move.{Move}
use Rattle.aud_meaning.specs.Configuration.{Item, Own, Call, Shared, All, Configuration}
use Rattle.aud_meaning.specs.Control.{Controls}
use Rattle.aud_meaning.specs.Statements.{controls}
use Rattle.aud_meaning.specs.Parts.{is_queued, is_task, nobody, numbers, own_of, owns}
use Rattle.aud_meaning.specs.Run.{moves_at, moves_in, step, run, opening, opening_with, supplied, advanced}
use Rattle.aud_meaning.specs.Why.Open.{IsOpen, KeepsOpen, queued_on}
use Rattle.aud_meaning.proofs.Open.Steps.{open_law}
use Rattle.aud_code.specs.Places.{Spot}
use Rattle.aud_code.specs.Flat.{Flat, flat_controls}
use Rattle.aud_layout.specs.Assembly.{flat_program}
use Rattle.aud_over.specs.Over.{is_call_over, is_served, call_if, calls_left}
use Rattle.aud_tasks.specs.declared.run.Ran.{Ran}
use Rattle.aud_tasks.specs.Running.{RunsLeaving, Takes}
use Rattle.aud_machine.specs.Shown.{Shown}
use Rattle.aud_machine.specs.Shows.{MissesNone, Shows}
use Rattle.aud_machine.specs.Shows as shown
use Rattle.aud_machine.proofs.Bridges.{Forgets, opening_shown, owns_shown, shared_shown, supplied_shown, advanced_shown, runs_shown, taken_shown}

-- A call that is over is queued on no entry, so that it may be forgotten.

abbrev is_on : (Owner → Bool) → ℕ → Call → Bool
is_on its entry c = is_queued c.state && nat_eq c.entry entry && its c.owner

over_is_on : (its : Owner → Bool) (entry : ℕ) (served : Bool) (state : CallState) (c : Call) → c.state ≡ state → is_on its entry (call_if (not (is_call_over state) || served) c) ≡ is_on its entry c
over_is_on its entry served Queued c at = refl
over_is_on its entry served Selected c at = refl
over_is_on its entry true Done c at = refl
over_is_on its entry false Done c at = sym (ap (λ s. is_queued s && nat_eq c.entry entry && its c.owner) at)
over_is_on its entry true Cancelled c at = refl
over_is_on its entry false Cancelled c at = sym (ap (λ s. is_queued s && nat_eq c.entry entry && its c.owner) at)

left_from : (its : Owner → Bool) (entry : ℕ) (served : ℕ → Bool) (id : ℕ) (cs : List Call) → numbers (is_on its entry) id (calls_left served id cs) ≡ numbers (is_on its entry) id cs
left_from its entry served id [] = refl
left_from its entry served id (c ∷ cs) =
    let rest : List ℕ = numbers (is_on its entry) (suc id) (calls_left served (suc id) cs) in
    ap (λ b. if b then id ∷ rest else rest) (over_is_on its entry (served id) c.state c refl)
    ∙ ap (λ ns. if is_on its entry c then id ∷ ns else ns) (left_from its entry served (suc id) cs)

queued_left : (its : Owner → Bool) (entry : ℕ) (served : ℕ → Bool) (cs : List Call) → queued_on its entry (calls_left served 0 cs) ≡ queued_on its entry cs
queued_left its entry served cs = left_from its entry served 0 cs

module _ (p : Program) (lines : Flat) (is : lines ≡ flat_program (plain_program p)) (limits : Limits) where
  abbrev program : tree.Program
  program = plain_program p

  abbrev K : Controls Spot
  K = flat_controls program.plan lines

  -- a machine of this program
  abbrev machine : Bool → All Spot → Shown
  machine spent m = record { program = p; code = lines; limits = limits; all = m; spent = spent }

  keeps : KeepsOpen (List Item) program.plan (controls program) limits
  keeps = open_law limits program

  pub opening_misses : (m : All Spot) → m ≡ opening_with program.plan p.name (K.begins 0) → MissesNone (machine false m)
  opening_misses m told =
      (opening program, record { alive = refl; through = m; all = opening_shown p lines is m told; left = refl }, keeps.opening program.name ((controls program).begins 0))

  module _ (spent : Bool) (m : All Spot) (met : MissesNone (machine spent m)) where
    abbrev c : Configuration
    c = met.0

    abbrev shows : Shows (machine spent m) c
    shows = met.1

    -- the same calls are queued as in the program
    queued_shown : (n entry : ℕ) → queued_on (is_task n) entry m.shared.calls ≡ queued_on (is_task n) entry c.shared.calls
    queued_shown n entry =
        sym (queued_left (is_task n) entry (is_served (owns m.tasks)) m.shared.calls)
        ∙ ap (λ (s : Shared). queued_on (is_task n) entry s.calls) (shared_shown p lines is limits spent m c shows)
        ∙ queued_left (is_task n) entry (is_served (owns c.tasks)) c.shared.calls

    pub none_shown : (n entry : ℕ) → IsOpen (own_of n m) entry → queued_on (is_task n) entry m.shared.calls ≡ []
    none_shown n entry is_open =
        queued_shown n entry
        ∙ keeps.none c met.2 n entry (subst (λ (os : List Own). IsOpen (slice_index_or os n nobody) entry) (owns_shown p lines is limits spent m c shows) is_open)

    -- What is done to it.

    pub supplied_misses : (choices : List ℕ) (new : All Spot) → new ≡ supplied choices m → MissesNone (machine false new)
    supplied_misses choices new told = (supplied choices c, supplied_shown p lines is limits spent m c shows choices new told, keeps.supply choices c met.2)

    pub advanced_misses : (milliseconds : ℕ) (new : All Spot) → new ≡ advanced milliseconds m → MissesNone (machine spent new)
    advanced_misses milliseconds new told =
        (advanced milliseconds c, advanced_shown p lines is limits spent m c shows milliseconds new told, keeps.wait milliseconds c met.2)

    pub runs_misses : (n : ℕ) (new : All Spot) (ran : Ran) → RunsLeaving program.plan lines limits n m new ran → MissesNone (machine false new)
    runs_misses n new ran told = (run limits program n c, (runs_shown p lines is limits spent m c shows n new ran told).shows, keeps.run n c met.2)

    pub taken_misses : (nth : ℕ) (mid new : All Spot) (taken : Option Ran) → Forgets taken mid new → Takes program.plan lines limits (slice_get (moves_at program.plan K m) nth) m mid taken → MissesNone (machine false new)
    taken_misses nth mid new taken forgets told = by (slice_get (moves_in program c) nth) refl (taken_shown p lines is limits spent m c shows nth mid new taken forgets told)
      where
        by : (o : Option Move) → slice_get (moves_in program c) nth ≡ o → shown.Takes limits program c o (machine spent m) (machine false new) taken → MissesNone (machine false new)
        by None at same = (c, subst (λ x. Shows x c) (sym same.1) shows, met.2)
        by (Some move) at took = (step limits program c move, took.2, keeps.step c nth move at met.2)
