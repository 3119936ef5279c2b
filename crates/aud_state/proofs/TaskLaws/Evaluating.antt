-- What the task of a number sees, and where it stands.
use Rattle.std.proofs.Common.{◌≡◌, ◌<◌, ◌≤◌, ℕ, Bool, true, List, length, map, get_or, refl, ap, sym, ◌∙◌, subst, slice_get, Option, Some, None}
use Rattle.std.proofs.lemmas.List.{length-map}
use Rattle.aud_meaning.specs.Configuration.{All, Frame, Own, TaskAt}
use Rattle.aud_meaning.specs.Control.{Scene}
use Rattle.aud_meaning.specs.Evaluation.{Sight}
use Rattle.aud_meaning.specs.Parts.{facts_in, facts_of, owns, sight_of}
use Rattle.aud_meaning.specs.Ties.Part.{Part}
use Rattle.aud_code.specs.Flat.{Flat, FlatLine, no_scene}
use Rattle.aud_code.specs.Instruction.{Operands}
use Rattle.aud_code.specs.Places.{Spot}
use Rattle.aud_code.specs.Sound.{IsStart}
use Rattle.aud_expr.specs.declared.evaluate.Outcome.{Outcome}
use Rattle.aud_expr.specs.Flow.{InSight, ended, evaluated_at, evaluated_by, ReachesEnd, FitsEnd, IsMarked}
use Rattle.aud_calls.specs.View.{Kept}
use Rattle.aud_expr.specs.Ticks.{ticks_at}
use Rattle.aud_state.specs.declared.object.Object.{Object}
use Rattle.aud_state.specs.declared.task.Task.{Task}
use Rattle.aud_state.specs.Fast.{scene}
use Rattle.aud_state.specs.View.{plain_task, all_of}
use Rattle.aud_state.proofs.TaskLaws.Beside.{got, past}
use Rattle.aud_state.proofs.TaskLaws.Changed.{own_at}

that_or : Option (TaskAt Spot) → TaskAt Spot → TaskAt Spot
that_or None u = u
that_or (Some t) u = t

same_task : (o : Option (TaskAt Spot)) (t u : TaskAt Spot) → o ≡ Some t → o ≡ Some u → t ≡ u
unfolding that_or
same_task o t u is also = ap (λ w. that_or w u) (sym is ∙ also)

pub within_all : (ts : List Task) (p : Part Spot) (k : Kept) (os : List Object) (n : ℕ) (c : All Spot) → all_of ts p k os ≡ c → n < length c.tasks → n < length ts
within_all ts p k os n c is within = subst (λ m. n < m) (ap (λ (a : All Spot). length a.tasks) (sym is) ∙ length-map ts plain_task) within

module _ (ts : List Task) (p : Part Spot) (k : Kept) (os : List Object) (n : ℕ) (x : Task) (c : All Spot) (within : n < length ts) (at : x ≡ get_or ts n x) (is : all_of ts p k os ≡ c) where
  there : slice_get c.tasks n ≡ Some (plain_task x)
  there = sym (ap (λ (a : All Spot). slice_get a.tasks n) is) ∙ got plain_task ts n x within at

  module _ (place : ℕ) (stands : x.parked.control.place ≡ place) where
    pub begins : (lines : List FlatLine) → ((t : TaskAt Spot) → slice_get c.tasks n ≡ Some t → IsStart lines t.control.place) → IsStart lines place
    begins lines starts = subst (IsStart lines) stands (starts (plain_task x) there)

    pub place_of : (t : TaskAt Spot) → slice_get c.tasks n ≡ Some t → place ≡ t.control.place
    place_of t is_that = sym stands ∙ ap (λ (u : TaskAt Spot). u.control.place) (same_task (slice_get c.tasks n) (plain_task x) t there is_that)

    pub reaches : (code : Flat) (e : Outcome) → ReachesEnd e code place → (t : TaskAt Spot) → slice_get c.tasks n ≡ Some t → ReachesEnd e code t.control.place
    reaches code e h t is_that = subst (ReachesEnd e code) (place_of t is_that) h

    pub fits : (code : Flat) (o : Operands) (e : Outcome) → FitsEnd e code place o → (t : TaskAt Spot) → slice_get c.tasks n ≡ Some t → FitsEnd e code t.control.place o
    fits code o e h t is_that = subst (λ m. FitsEnd e code m o) (place_of t is_that) h

    -- in a scene that sees what the task sees
    module _ (lent : List Task) (display : List ℕ) (frames : List Frame) (all : lent ≡ ts) (seen : display ≡ x.parked.stack.display) (framed : frames ≡ p.frames) where
      in_sight : (s : Scene) (P : Scene → Type 0) (clock objects : ℕ) → s.sight ≡ sight_of n c → s.clock ≡ clock → s.objects ≡ objects → InSight (facts_in (owns (map plain_task lent)) k.calls) clock objects display frames P → P s
      in_sight s P clock objects sees shows counted h =
          h s
          (ap (λ (v : Sight). v.display) sees ∙ ap (λ (own : Own). own.display) (own_at ts p k os n x c within at is) ∙ sym seen)
          (ap (λ (v : Sight). v.frames) sees ∙ ap (λ (a : All Spot). a.shared.frames) (sym is) ∙ sym framed)
          (ap (λ (v : Sight). v.facts) sees ∙ ap (λ (a : All Spot). facts_of a) (sym is) ∙ ap (λ us. facts_in (owns (map plain_task us)) k.calls) (sym all))
          shows
          counted

    pub ends : (code : Flat) (clock objects : ℕ) (o : Operands) (e : Outcome) (lent : List Task) (display : List ℕ) (frames : List Frame) → lent ≡ ts → display ≡ x.parked.stack.display → frames ≡ p.frames → c.clock ≡ clock → length c.shared.objects ≡ objects → InSight (facts_in (owns (map plain_task lent)) k.calls) clock objects display frames (λ s. ended e o ≡ evaluated_at code place s) → (t : TaskAt Spot) → slice_get c.tasks n ≡ Some t → ended e o ≡ evaluated_at code t.control.place (scene n c)
    ends code clock objects o e lent display frames all seen framed shows counted h t is_that =
        in_sight lent display frames all seen framed (scene n c) (λ s. ended e o ≡ evaluated_at code place s) clock objects refl shows counted h
        ∙ ap (λ m. evaluated_at code m (scene n c)) (place_of t is_that)

    pub executes : (code : Flat) (clock objects ticks : ℕ) (lent : List Task) (display : List ℕ) (frames : List Frame) → lent ≡ ts → display ≡ x.parked.stack.display → frames ≡ p.frames → c.clock ≡ clock → length c.shared.objects ≡ objects → InSight (facts_in (owns (map plain_task lent)) k.calls) clock objects display frames (λ s. ticks ≡ ticks_at code place s) → (t : TaskAt Spot) → slice_get c.tasks n ≡ Some t → ticks ≡ ticks_at code t.control.place (scene n c)
    executes code clock objects ticks lent display frames all seen framed shows counted h t is_that =
        in_sight lent display frames all seen framed (scene n c) (λ s. ticks ≡ ticks_at code place s) clock objects refl shows counted h
        ∙ ap (λ m. ticks_at code m (scene n c)) (place_of t is_that)

    pub marks : (code : Flat) (o : Operands) (is_marked : Bool) (lent : List Task) (display : List ℕ) (frames : List Frame) → lent ≡ ts → display ≡ x.parked.stack.display → frames ≡ p.frames → InSight (facts_in (owns (map plain_task lent)) k.calls) 0 0 display frames (λ s. IsMarked is_marked o (evaluated_by true code place s)) → (t : TaskAt Spot) → slice_get c.tasks n ≡ Some t → IsMarked is_marked o (evaluated_by true code t.control.place (no_scene (sight_of n c)))
    marks code o is_marked lent display frames all seen framed h t is_that =
        let s = no_scene (sight_of n c) in
        subst (λ m. IsMarked is_marked o (evaluated_by true code m s)) (place_of t is_that) (in_sight lent display frames all seen framed s (λ s. IsMarked is_marked o (evaluated_by true code place s)) 0 0 refl refl refl h)

pub nowhere : (ts : List Task) (p : Part Spot) (k : Kept) (os : List Object) (n : ℕ) (c : All Spot) → length ts ≤ n → all_of ts p k os ≡ c → (t : TaskAt Spot) → slice_get c.tasks n ≡ Some t → 0 ≡ t.control.place
nowhere ts p k os n c beyond is t that = absurd (cc (sym (past plain_task ts n beyond) ∙ ap (λ (a : All Spot). slice_get a.tasks n) is ∙ that))
