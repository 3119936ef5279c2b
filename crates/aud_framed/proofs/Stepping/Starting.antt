-- A task calls an entry of an object.
use Rattle.std.proofs.Common.{◌≡◌, ℕ, List, [], ◌∷◌, ◌++◌, length, Some, None, Result, Bool, true, false, refl, sym, ap, ◌∙◌, subst, inr, if◌then◌else◌, slice_get}
use Rattle.std.proofs.lemmas.Bool.{false≢true, true≢false}
use Rattle.aud_text.specs.declared.place.Pos.{Pos}
use Rattle.aud_text.specs.declared.raise.Raise.{Raise}
use Rattle.aud_text.specs.declared.raise.Raise.TheVariants.{Program, Storage}
use Rattle.aud_typed.specs.declared.program.Exception.TheVariants.{Predefined}
use Rattle.aud_typed.specs.declared.program.Variable.{Variable}
use Rattle.aud_typed.specs.Tree.{Plan}
use Rattle.aud_meaning.specs.declared.state.Action.{Action}
use Rattle.aud_meaning.specs.declared.state.Owner.TheVariants as owner
use Rattle.aud_meaning.specs.declared.state.Status.TheVariants.{Running, Calling}
use Rattle.aud_meaning.specs.Configuration.{Own, Call, TaskAt, All}
use Rattle.aud_meaning.specs.Control.{Asked, Called, Scene, calls_entry, starting}
use Rattle.aud_meaning.specs.Effects.{has_room}
use Rattle.aud_meaning.specs.Evaluation.{number_in}
use Rattle.aud_meaning.specs.Parts.{begin_action, blocks, call_of, changed, contains, in_action, in_the_way, new_call, no_waits, object_of, own_of, owner_number, sight_of, stands_at_call}
use Rattle.aud_meaning.specs.Run.{scene_of}
use Rattle.aud_meaning.specs.Step.{call_record}
use Rattle.aud_meaning.specs.Tasks as effect
use Rattle.aud_code.specs.Places.{Spot, loops_of}
use Rattle.aud_code.specs.Eval.{asked_ended, eval}
use Rattle.aud_code.specs.Flat.{Flat, Does, asked_at, asked_last, coming_at, coming_last, end_at, flat_controls, instructions_at, no_scene}
use Rattle.aud_code.specs.Instruction.{CallKind, CallObject, Ended, Reached, Marked, Raised, Lost, no_operands}
use Rattle.aud_code.specs.Seen.{IsSeen}
use Rattle.aud_code.specs.Sound.{Counts, IsSound}
use Rattle.aud_framed.specs.Held.{IsCall}
use Rattle.aud_framed.specs.Calls.{CallsOn, EntryFits, objects_in}
use Rattle.aud_framed.specs.Framed.{HasLevels}
use Rattle.aud_framed.specs.Stepping.{HasWays}
use Rattle.aud_framed.proofs.Stepping.Actions.{action_begun, fits_still, still_there}
use Rattle.aud_framed.proofs.Stepping.Barriers.{barrier_good}
use Rattle.aud_framed.proofs.Stepping.Beginning.{task_changed}
use Rattle.aud_framed.proofs.Stepping.Blocks.{raised_good}
use Rattle.aud_framed.proofs.Stepping.Ending.{Good}
use Rattle.aud_framed.proofs.Stepping.Entering.{begun_changes}
use Rattle.aud_framed.proofs.Stepping.Holding.{HasObject}
use Rattle.aud_framed.proofs.Stepping.Making.{made, newest, none_around, not_served, only_call, own_is}
use Rattle.aud_framed.proofs.Stepping.Refusing.{orders}

-- The object whose entry a step calls is the one that comes.

abbrev object_asked : Asked → ℕ
object_asked (calls_entry o call) = owner_number o
object_asked a = 0

object_named : (v : Variable) (entry out m : ℕ) (form : CallKind) (at : Pos) (s : Scene) (call : Called) (x : Ended) → asked_ended (CallObject v entry form) out at s x ≡ calls_entry (owner.Object m) call → number_in v s.sight ≡ m
object_named v entry out m form at s call (Reached o) e = ap object_asked e
object_named v entry out m form at s call (Marked o) e = absurd cc
object_named v entry out m form at s call (Raised raise) e = absurd cc
object_named v entry out m form at s call Lost e = absurd cc

pub object_comes : (plan : Plan) (code : Flat) (n : ℕ) (c : All Spot) (spot : Spot) (m : ℕ) (call : Called) (v : Variable) (form : CallKind) → (end_at code spot.place).last ≡ Does (CallObject v call.entry form) → asked_at code None (scene_of plan (flat_controls plan code) n c) spot ≡ calls_entry (owner.Object m) call → coming_at code plan None (sight_of n c) spot ≡ starting m false
object_comes plan code n c spot m call v form line e =
    let s : Scene = scene_of plan (flat_controls plan code) n c in
    let out : ℕ = loops_of (end_at code spot.place).exit in
    let at : Pos = (end_at code spot.place).at in
    let x : Ended = eval false s (instructions_at code spot.place) 0 no_operands in
    ap (λ l. coming_last plan l (sight_of n c) (eval true (no_scene (sight_of n c)) (instructions_at code spot.place) 0 no_operands)) line
    ∙ ap (λ k. starting k false) (object_named v call.entry out m form at s call x (ap (λ l. asked_last l out at s x) (sym line) ∙ e))

module _ (plan : Plan) (code : Flat) (table : List Counts) (tasks barriers seen : List ℕ) (sound : IsSound code) (fits : IsSeen code table tasks barriers seen) (ways : HasWays code) where
  abbrev pub Kept : All Spot → Type 0
  Kept c = Good plan code table tasks barriers seen sound fits ways c

  either_kept : (b : Bool) (x y : All Spot) → (b ≡ true → Kept x) → (b ≡ false → Kept y) → Kept (if b then x else y)
  either_kept true x y h k = h refl
  either_kept false x y h k = k refl

  module _ (levels : HasLevels plan code tasks seen) (object n : ℕ) (call : Called) (v : Variable) (form : CallKind) (c : All Spot) (t : TaskAt Spot) (w : Kept c) (is : slice_get c.tasks n ≡ Some t) (running : t.own.status ≡ Running) (none : t.own.pending ≡ None) (still : t.own.again ≡ None) (starts_none : t.own.restart ≡ None) (entry : EntryFits plan c (owner.Object object) call.entry) (line : (end_at code t.control.place).last ≡ Does (CallObject v call.entry form)) (idle : in_the_way n false (object_of object c) ≡ false) where
    abbrev x : Call
    x = call_record n (owner.Object object) call

    abbrev id : ℕ
    id = length c.shared.calls

    abbrev waits : TaskAt Spot → TaskAt Spot
    waits u = record u { own = record (blocks Calling call.at no_waits u.own) { call = length c.shared.calls } }

    abbrev d : All Spot
    d = new_call x (stands_at_call n (length c.shared.calls) call.at c)

    abbrev begins : List Action → List Action
    begins xs = xs ++ record { task = n; reading = false } ∷ []

    module _ (free : in_action n c ≡ false) (well : t.own.abnormal ≡ false) where
      calls : IsCall (end_at code t.control.place).last
      calls = inr (v, call.entry, form, line)

      d_good : Kept d
      d_good = made plan code table tasks barriers seen sound fits ways (owner.Object object) n call c t w is running none still starts_none calls free

      own_d : own_of n d ≡ (waits t).own
      own_d = own_is plan code table tasks barriers seen sound fits ways (owner.Object object) n call c t w is running none still starts_none calls free

      last : call_of id d ≡ x
      last = newest plan code table tasks barriers seen sound fits ways (owner.Object object) n call c t w is running none still starts_none calls free

      begun : Kept (begin_action n object false d)
      begun = record { framed = action_begun plan code seen n object false d idle (λ q. absurd (false≢true q)) d_good.framed; spots = d_good.spots }

      holds : HasObject plan n object (begin_action n object false d)
      holds = record {
        acts = begun_changes plan n object false d entry.0.1 refl;
        outside =
            ap (λ (y : Own). contains object (objects_in y.opened)) own_d
            ∙ ap (λ os. contains object os) (none_around plan code table tasks barriers seen sound fits ways (owner.Object object) n call c t w is running none still starts_none calls free);
      }

      on_it : CallsOn plan (begin_action n object false d) n object
      on_it i live mine =
          subst (λ j. (call_of j d).owner ≡ owner.Object object)
          (only_call plan code table tasks barriers seen sound fits ways (owner.Object object) n call c t w is running none still starts_none calls free i live mine) (ap (λ (a : Call). a.owner) last)

      met : (b : Result Bool Raise) → Kept (effect.barrier_met (orders plan code table tasks barriers seen sound fits ways) plan (flat_controls plan code).barrier b call.at object id n (begin_action n object false d))
      met b =
          barrier_good plan code table tasks barriers seen sound fits ways levels call.at object id n (begin_action n object false d) (waits t) begun (task_changed n waits c.tasks t is) starts_none still holds
          (not_served plan code table tasks barriers seen sound fits ways (owner.Object object) n call c t w is running none still starts_none calls free) (ap (λ (a : Call). a.state) last) (ap (λ (a : Call). a.owner) last) (inr (refl, on_it))
          (subst (λ (a : Call). EntryFits plan (begin_action n object false d) (owner.Object object) a.entry) (sym last) (fits_still plan d (changed object (λ o. record o { actions = begins o.actions }) d.shared.objects) (still_there plan code seen object begins d) (owner.Object object) call.entry entry))
          (subst (λ (a : Call). (own_of a.caller d).abnormal ≡ true → a.stays ≡ true) (sym last) (λ ill. absurd (true≢false (sym ill ∙ (ap (λ (y : Own). y.abnormal) own_d ∙ well))))) (λ e. (ap (λ (a : Call). a.caller) last, refl)) b

    pub calls_object_good : (in_action n c ≡ false → t.own.abnormal ≡ false) → Kept (effect.calls_object (orders plan code table tasks barriers seen sound fits ways) plan (flat_controls plan code).barrier x object c)
    calls_object_good well =
        either_kept (in_action n c) _ _ (λ acts. raised_good plan code table tasks barriers seen sound fits ways (Predefined Program) call.at n c t w is running none still (CallObject v call.entry form, line))
        (λ free. either_kept (has_room (own_of n c)) _ _ (λ room. met free (well free) (effect.barrier_of plan (flat_controls plan code).barrier object call.entry c))
        (λ full. raised_good plan code table tasks barriers seen sound fits ways (Predefined Storage) call.at n c t w is running none still (CallObject v call.entry form, line)))
