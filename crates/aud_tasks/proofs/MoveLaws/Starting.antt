-- Which steps are calls of objects.
use Rattle.std.proofs.Common.{◌≡◌, ℕ, Option, Some, None, Bool, true, false, slice_get, refl, ap, sym, ◌∙◌, subst}
use Rattle.std.specs.Prelude.{IfNone, IfSome, is_some}
use Rattle.aud_typed.specs.Tree.{Plan}
use Rattle.aud_meaning.specs.declared.state.Pending.{Pending}
use Rattle.aud_meaning.specs.Configuration.{Own, TaskAt, All}
use Rattle.aud_meaning.specs.Control.{starting}
use Rattle.aud_meaning.specs.Evaluation.{Sight}
use Rattle.aud_meaning.specs.Parts.{own_of, sight_of}
use Rattle.aud_meaning.specs.Statements.{coming_raised}
use Rattle.aud_code.specs.declared.line.Among.TheVariants as among
use Rattle.aud_code.specs.declared.line.Ending.TheVariants.{Declare, DeclareArray, Null, Assign, Put, If, While, Loop, Exit, Raise, RaiseAgain, Block, Return, ReturnValue, OwnCall, Call}
use Rattle.aud_code.specs.declared.line.Last.{Last}
use Rattle.aud_code.specs.declared.line.Last.TheVariants.{Does, Concerns, Continues, Guards, Ends, Leaves}
use Rattle.aud_code.specs.Flat.{Flat, EndLine, coming_at, coming_last, end_at, handler_at, no_end}
use Rattle.aud_code.specs.Instruction.{Ended}
use Rattle.aud_code.specs.Places.{Spot, is_there}
use Rattle.aud_code.specs.View.{plain_last}
use Rattle.aud_tasks.specs.Choices.{marked, start_in, IsNoStart}
use Rattle.aud_tasks.specs.declared.choice.Start.{Start}
use Rattle.aud_tasks.specs.Turning.{coming_in}
use Rattle.aud_tasks.proofs.MoveLaws.Chosen.{as_last, at_end, coming_as}
use Rattle.aud_tasks.proofs.StepLaws.Stepping.{own_there}

-- By its ending.
module _ (plan : Plan) (s : Sight) (x : Ended) where
  abbrev Told : Last → Type 0
  Told l = IfSome (start_in plan l s) (λ start. coming_last plan (plain_last l) s x ≡ starting start.object start.reading) × IfNone (start_in plan l s) (IsNoStart (coming_last plan (plain_last l) s x))

  pub told : (l : Last) → Told l
  told (Does (Declare up_to again) next) = (tt, tt)
  told (Does (DeclareArray t n) next) = (tt, tt)
  told (Does Null next) = (tt, tt)
  told (Does Assign next) = (tt, tt)
  told (Does Put next) = (tt, tt)
  told (Does (If inside) next) = (tt, tt)
  told (Does (While inside) next) = (tt, tt)
  told (Does (Loop f inside) next) = (tt, tt)
  told (Does (Exit w) next) = (tt, tt)
  told (Does (Raise z) next) = (tt, tt)
  told (Does RaiseAgain next) = (tt, tt)
  told (Does (Block region inside) next) = (tt, tt)
  told (Does (Return w) next) = (tt, tt)
  told (Does (Call unit) next) = (tt, tt)
  told (Does (ReturnValue w) next) = (tt, tt)
  told (Does OwnCall next) = (tt, tt)
  told (Concerns (among.DeclareTasks ts) next) = (tt, tt)
  told (Concerns (among.DeclareObject k) next) = (tt, tt)
  told (Concerns among.Activate next) = (tt, tt)
  told (Concerns among.Activated next) = (tt, tt)
  told (Concerns (among.Call entry form otherwise) next) = (tt, tt)
  told (Concerns (among.CallObject v entry form otherwise) next) = (refl, tt)
  told (Concerns (among.Operation v unit) next) = (refl, tt)
  told (Concerns among.Delay next) = (tt, tt)
  told (Concerns among.Abort next) = (tt, tt)
  told (Concerns (among.RequeueTask again way) next) = (tt, tt)
  told (Concerns (among.RequeueObject v again way) next) = (tt, tt)
  told (Concerns (among.Accept entry region body) next) = (tt, tt)
  told (Concerns (among.Select has_else own offers) next) = (tt, tt)
  told (Continues f behind inside) = (tt, tt)
  told (Guards gs) = (tt, tt)
  told (Ends c next) = (tt, tt)
  told (Leaves n to) = (tt, tt)

module _ (plan : Plan) (code : Flat) (n : ℕ) (c : All Spot) (t : TaskAt Spot) (there : slice_get c.tasks n ≡ Some t) where
  raised_no_start : (b : Bool) → IsNoStart (coming_raised b)
  raised_no_start true = tt
  raised_no_start false = tt

  pending_no_start : (p : Option Pending) (s : Sight) (u : Spot) → is_some p ≡ true → IsNoStart (coming_at code plan p s u)
  pending_no_start None s u h = absurd cc
  pending_no_start (Some p) s u h = raised_no_start (is_there (handler_at code p.exception u))

  -- an exception is pending
  pub no_start_pending : is_some (own_of n c).pending ≡ true → IsNoStart (coming_in plan code n c)
  no_start_pending h =
      subst IsNoStart (sym (coming_as plan code n c (Some t) there))
      (pending_no_start t.own.pending (sight_of n c) t.control (ap (λ (o : Own). is_some o.pending) (sym (own_there c.tasks n t there)) ∙ h))

  module _ (quiet : is_some (own_of n c).pending ≡ false) (place : ℕ) (stands : (t : TaskAt Spot) → slice_get c.tasks n ≡ Some t → place ≡ t.control.place) where
    -- it stands where no step does more
    pub no_start_there : end_at code place ≡ no_end place → IsNoStart (coming_in plan code n c)
    no_start_there none =
        subst IsNoStart
        (sym (coming_as plan code n c (Some t) there
        ∙ at_end plan code n c quiet t there
        ∙ ap (λ (l : EndLine). coming_last plan l.last (sight_of n c) (marked code n t c)) (ap (end_at code) (sym (stands t there)) ∙ none))) tt

    module _ (l : Last) (ends : plain_last l ≡ (end_at code place).last) where
      comes : coming_in plan code n c ≡ coming_last plan (plain_last l) (sight_of n c) (marked code n t c)
      comes = coming_as plan code n c (Some t) there ∙ as_last plan code n c quiet place l stands ends t there

      pub starts_so : (o : Option Start) → o ≡ start_in plan l (sight_of n c) → IfSome o (λ start. coming_in plan code n c ≡ starting start.object start.reading)
      starts_so None is = tt
      starts_so (Some start) is =
          comes ∙ subst (λ o. IfSome o (λ (k : Start). coming_last plan (plain_last l) (sight_of n c) (marked code n t c) ≡ starting k.object k.reading)) (sym is) (told plan (sight_of n c) (marked code n t c) l).0

      pub no_start_so : (o : Option Start) → o ≡ start_in plan l (sight_of n c) → IfNone o (IsNoStart (coming_in plan code n c))
      no_start_so (Some start) is = tt
      no_start_so None is =
          subst IsNoStart (sym comes) (subst (λ o. IfNone o (IsNoStart (coming_last plan (plain_last l) (sight_of n c) (marked code n t c)))) (sym is) (told plan (sight_of n c) (marked code n t c) l).1)
