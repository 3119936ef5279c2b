-- Which steps are choices.
use Rattle.std.proofs.Common.{◌≡◌, ◌<◌, ℕ, length, Option, Some, None, Bool, true, false, slice_get, refl, ap, sym, ◌∙◌, subst}
use Rattle.std.specs.Prelude.{IfNone, IfSome, is_some}
use Rattle.aud_typed.specs.Tree.{Plan}
use Rattle.aud_meaning.specs.declared.state.Pending.{Pending}
use Rattle.aud_meaning.specs.Configuration.{Own, TaskAt, All}
use Rattle.aud_meaning.specs.Evaluation.{Sight}
use Rattle.aud_meaning.specs.Parts.{own_of, sight_of}
use Rattle.aud_meaning.specs.Statements.{coming_raised}
use Rattle.aud_code.specs.declared.line.Among.TheVariants as among
use Rattle.aud_code.specs.declared.line.Ending.TheVariants.{Declare, DeclareArray, Null, Assign, Put, If, While, Loop, Exit, Raise, RaiseAgain, Block, Return, ReturnValue, OwnCall, Call}
use Rattle.aud_code.specs.declared.line.Last.{Last}
use Rattle.aud_code.specs.declared.line.Last.TheVariants.{Does, Concerns, Continues, Guards, Ends, Leaves}
use Rattle.aud_code.specs.Flat.{Flat, EndLine, coming_at, coming_last, end_at, handler_at, no_end}
use Rattle.aud_code.specs.Instruction.{Ended}
use Rattle.aud_code.specs.Places.{Spot, is_there}
use Rattle.aud_code.specs.View.{plain_last}
use Rattle.aud_state.specs.Reads.{coming_by}
use Rattle.aud_tasks.specs.Choices.{choice_of, comes_of, is_alone, marked, ComesTo}
use Rattle.aud_tasks.specs.declared.choice.Choice.{Choice}
use Rattle.aud_tasks.specs.Moving.{IsSimple, IsSingle}
use Rattle.aud_tasks.specs.Turning.{coming_in}
use Rattle.aud_tasks.proofs.StepLaws.Stepping.{own_there}

-- By its ending.
module _ (plan : Plan) (s : Sight) (x : Ended) where
  abbrev Told : Last → Type 0
  Told l = IfSome (choice_of l) (λ choice. coming_last plan (plain_last l) s x ≡ comes_of choice x) × IfNone (choice_of l) (IsSingle (coming_last plan (plain_last l) s x))

  pub told : (l : Last) → Told l
  told (Does (Declare up_to again) next) = (tt, tt)
  told (Does (DeclareArray t n) next) = (tt, tt)
  told (Does Null next) = (tt, tt)
  told (Does Assign next) = (tt, tt)
  told (Does Put next) = (tt, tt)
  told (Does (If inside) next) = (tt, tt)
  told (Does (While inside) next) = (tt, tt)
  told (Does (Loop f inside) next) = (tt, tt)
  told (Does (Exit w) next) = (tt, tt)
  told (Does (Raise z) next) = (tt, tt)
  told (Does RaiseAgain next) = (tt, tt)
  told (Does (Block region inside) next) = (tt, tt)
  told (Does (Return w) next) = (tt, tt)
  told (Does (Call unit) next) = (tt, tt)
  told (Does (ReturnValue w) next) = (tt, tt)
  told (Does OwnCall next) = (tt, tt)
  told (Concerns (among.DeclareTasks ts) next) = (tt, tt)
  told (Concerns (among.DeclareObject k) next) = (tt, tt)
  told (Concerns among.Activate next) = (tt, tt)
  told (Concerns among.Activated next) = (tt, tt)
  told (Concerns (among.Call entry form otherwise) next) = (refl, tt)
  told (Concerns (among.CallObject v entry form otherwise) next) = (tt, tt)
  told (Concerns (among.Operation v unit) next) = (tt, tt)
  told (Concerns among.Delay next) = (tt, tt)
  told (Concerns among.Abort next) = (tt, tt)
  told (Concerns (among.RequeueTask again way) next) = (tt, tt)
  told (Concerns (among.RequeueObject v again way) next) = (tt, tt)
  told (Concerns (among.Accept entry region body) next) = (tt, tt)
  told (Concerns (among.Select has_else own offers) next) = (refl, tt)
  told (Continues f behind inside) = (tt, tt)
  told (Guards gs) = (tt, tt)
  told (Ends c next) = (tt, tt)
  told (Leaves n to) = (tt, tt)

  pub simple : (l : Last) → is_alone l ≡ true → IsSimple (coming_last plan (plain_last l) s x)
  simple (Does (Declare up_to again) next) h = tt
  simple (Does (DeclareArray t n) next) h = tt
  simple (Does Null next) h = tt
  simple (Does Assign next) h = tt
  simple (Does Put next) h = tt
  simple (Does (If inside) next) h = tt
  simple (Does (While inside) next) h = tt
  simple (Does (Loop f inside) next) h = tt
  simple (Does (Exit w) next) h = tt
  simple (Does (Raise z) next) h = tt
  simple (Does RaiseAgain next) h = tt
  simple (Does (Block region inside) next) h = tt
  simple (Does (Return w) next) h = tt
  simple (Does (Call unit) next) h = tt
  simple (Does (ReturnValue w) next) h = tt
  simple (Does OwnCall next) h = tt
  simple (Concerns a next) h = absurd cc
  simple (Continues f behind inside) h = absurd cc
  simple (Guards gs) h = absurd cc
  simple (Ends c next) h = absurd cc
  simple (Leaves n to) h = absurd cc

module _ (plan : Plan) (code : Flat) (n : ℕ) (c : All Spot) where
  pub coming_as : (o : Option (TaskAt Spot)) → slice_get c.tasks n ≡ o → coming_in plan code n c ≡ coming_by code plan (sight_of n c) o
  coming_as o is = ap (coming_by code plan (sight_of n c)) is

  -- what holds of a task that is there holds of each that is none
  by_task : ((t : TaskAt Spot) → slice_get c.tasks n ≡ Some t → IsSingle (coming_at code plan t.own.pending (sight_of n c) t.control)) → IsSingle (coming_in plan code n c)
  by_task h = by (slice_get c.tasks n) refl
    where
      by : (o : Option (TaskAt Spot)) → slice_get c.tasks n ≡ o → IsSingle (coming_in plan code n c)
      by None is = subst IsSingle (sym (coming_as None is)) tt
      by (Some t) is = subst IsSingle (sym (coming_as (Some t) is)) (h t is)

  raised_single : (b : Bool) → IsSingle (coming_raised b)
  raised_single true = tt
  raised_single false = tt

  pending_single : (p : Option Pending) (s : Sight) (t : Spot) → is_some p ≡ true → IsSingle (coming_at code plan p s t)
  pending_single None s t h = absurd cc
  pending_single (Some p) s t h = raised_single (is_there (handler_at code p.exception t))

  -- an exception is pending
  pub single_pending : is_some (own_of n c).pending ≡ true → IsSingle (coming_in plan code n c)
  single_pending h = by_task (λ t there. pending_single t.own.pending (sight_of n c) t.control (ap (λ (o : Own). is_some o.pending) (sym (own_there c.tasks n t there)) ∙ h))

  none_pending : (p : Option Pending) → is_some p ≡ false → p ≡ None
  none_pending None h = refl
  none_pending (Some p) h = absurd cc

  module _ (quiet : is_some (own_of n c).pending ≡ false) where
    pub at_end : (t : TaskAt Spot) → slice_get c.tasks n ≡ Some t → coming_at code plan t.own.pending (sight_of n c) t.control ≡ coming_last plan (end_at code t.control.place).last (sight_of n c) (marked code n t c)
    at_end t there =
        let none : t.own.pending ≡ None = none_pending t.own.pending (ap (λ (o : Own). is_some o.pending) (sym (own_there c.tasks n t there)) ∙ quiet) in
        ap (λ p. coming_at code plan p (sight_of n c) t.control) none

    -- it stands where no step does more
    pub single_there : (place : ℕ) → ((t : TaskAt Spot) → slice_get c.tasks n ≡ Some t → place ≡ t.control.place) → end_at code place ≡ no_end place → IsSingle (coming_in plan code n c)
    single_there place stands none = by_task (λ t there.
        subst IsSingle (sym (at_end t there ∙ ap (λ (l : EndLine). coming_last plan l.last (sight_of n c) (marked code n t c)) (ap (end_at code) (sym (stands t there)) ∙ none))) tt)

    module _ (place : ℕ) (l : Last) (stands : (t : TaskAt Spot) → slice_get c.tasks n ≡ Some t → place ≡ t.control.place) (ends : plain_last l ≡ (end_at code place).last) where
      pub as_last : (t : TaskAt Spot) → slice_get c.tasks n ≡ Some t → coming_at code plan t.own.pending (sight_of n c) t.control ≡ coming_last plan (plain_last l) (sight_of n c) (marked code n t c)
      as_last t there =
          at_end t there
          ∙ ap (λ k. coming_last plan (end_at code k).last (sight_of n c) (marked code n t c)) (sym (stands t there))
          ∙ ap (λ k. coming_last plan k (sight_of n c) (marked code n t c)) (sym ends)

      pub simple_so : (t : TaskAt Spot) → slice_get c.tasks n ≡ Some t → is_alone l ≡ true → IsSimple (coming_in plan code n c)
      simple_so t there h = subst IsSimple (sym (coming_as (Some t) there ∙ as_last t there)) (simple plan (sight_of n c) (marked code n t c) l h)

      pub comes_so : (o : Option Choice) → o ≡ choice_of l → place < length code.lines → IfSome o (λ choice. ComesTo choice plan code n c)
      comes_so None is within = tt
      comes_so (Some choice) is within = λ t there.
          let here : t.control.place < length code.lines = subst (λ k. k < length code.lines) (stands t there) within in
          let said : coming_last plan (plain_last l) (sight_of n c) (marked code n t c) ≡ comes_of choice (marked code n t c) =
          subst (λ o. IfSome o (λ k. coming_last plan (plain_last l) (sight_of n c) (marked code n t c) ≡ comes_of k (marked code n t c))) (sym is) (told plan (sight_of n c) (marked code n t c) l).0 in
          (here, coming_as (Some t) there ∙ as_last t there ∙ said)

      pub single_so : (o : Option Choice) → o ≡ choice_of l → IfNone o (IsSingle (coming_in plan code n c))
      single_so (Some choice) is = tt
      single_so None is = by_task (λ t there.
          subst IsSingle (sym (as_last t there)) (subst (λ o. IfNone o (IsSingle (coming_last plan (plain_last l) (sight_of n c) (marked code n t c)))) (sym is) (told plan (sight_of n c) (marked code n t c) l).1))

-- for each plan, where it is so
pub every : {A : Type 0} (P : Plan → A → Type 0) (o : Option A) → ((plan : Plan) → IfSome o (P plan)) → IfSome o (λ x. (plan : Plan) → P plan x)
every P None h = tt
every P (Some x) h = h

pub every_none : {A : Type 0} (P : Plan → Type 0) (o : Option A) → ((plan : Plan) → IfNone o (P plan)) → IfNone o ((plan : Plan) → P plan)
every_none P None h = h
every_none P (Some x) h = tt
