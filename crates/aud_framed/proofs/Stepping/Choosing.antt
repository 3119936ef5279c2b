-- A task that has an object for itself serves the oldest call on one of its entries.
use Rattle.std.proofs.Common.{◌≡◌, ◌⊎◌, ◌≤◌, ◌<◌, ℕ, zero, suc, List, [], ◌∷◌, length, Option, Some, None, Bool, true, false, refl, sym, ap, ◌∙◌, subst, inl, inr, slice_get, slice_index_or, arith}
use Rattle.std.proofs.lemmas.Bool.{eq-eqb, true≢false, false≢true}
use Rattle.std.specs.Prelude.{◌||◌, nat_eq}
use Rattle.aud_typed.specs.Tree.{ObjectPlan, Plan}
use Rattle.aud_meaning.specs.declared.state.CallState.TheVariants.{Queued, Selected}
use Rattle.aud_meaning.specs.declared.state.Owner.{Owner}
use Rattle.aud_meaning.specs.declared.state.Owner.TheVariants as owner
use Rattle.aud_meaning.specs.declared.state.Restart.{Restart}
use Rattle.aud_meaning.specs.declared.state.Again.{Again}
use Rattle.aud_meaning.specs.declared.state.Serving.{Serving}
use Rattle.aud_meaning.specs.declared.state.Status.TheVariants.{Running, Calling}
use Rattle.aud_meaning.specs.Configuration.{Own, Object, Call, TaskAt, All}
use Rattle.aud_meaning.specs.Parts.{Waiting, any, call_of, contains, entry_plan, is_over, object_of, object_plan, on_call, own_of, owner_number, queue, unit_of}
use Rattle.aud_meaning.specs.Tasks as effect
use Rattle.aud_code.specs.Places.{Spot}
use Rattle.aud_code.specs.Flat.{Flat, flat_controls}
use Rattle.aud_code.specs.Seen.{IsSeen}
use Rattle.aud_code.specs.Sound.{Counts, IsSound}
use Rattle.aud_over.specs.Over.{is_call_over}
use Rattle.aud_framed.specs.Waiting.{is_of_object}
use Rattle.aud_framed.specs.Calls.{AreApart, CallsOn, IsEntryOf, Serves, calls_in, changes, objects_in, with_restarted, with_served}
use Rattle.aud_framed.specs.Framed.{AllObjectsFit, EntriesFit, HasLevels}
use Rattle.aud_framed.specs.Stepping.{HasWays}
use Rattle.aud_framed.proofs.Stepping.Actions.{changes_it, object_at}
use Rattle.aud_framed.proofs.Stepping.Calls.{unserved_queued}
use Rattle.aud_framed.proofs.Stepping.Ending.{Good}
use Rattle.aud_framed.proofs.Stepping.Entering.{entry_entered}
use Rattle.aud_framed.proofs.Stepping.Meeting.{first_in, now_selected}
use Rattle.aud_framed.proofs.Stepping.Parts.{own_got}
use Rattle.aud_framed.proofs.Stepping.Refusing.{orders}
use Rattle.aud_framed.proofs.Stepping.Requeuing.{changed_call}
use Rattle.aud_framed.proofs.Stepping.Selecting.{field_same, selected_framed}
use Rattle.aud_framed.proofs.Stepping.Serving.{serviced_good}

-- An object that is changed is there, and its entries are objects' entries, whose bodies see what it sees.

pub object_there : (n object : ℕ) (os : List Object) → changes_it n (object_at object os) ≡ true → object < length os
object_there n object [] h = absurd (false≢true h)
object_there n zero (o ∷ os) h = omega arith
object_there n (suc object) (o ∷ os) h = let less : object < length os = object_there n object os h in omega (arith, less)

fits_at : (plan : Plan) (object : ℕ) (os : List Object) → object < length os → AllObjectsFit plan os → EntriesFit plan (length (object_at object os).display) (object_plan plan (object_at object os).declaration).entries
fits_at plan object [] less h = absurd (omega (arith, less))
fits_at plan zero (o ∷ os) less h = h.0
fits_at plan (suc object) (o ∷ os) less h = let fewer : object < length os = omega (arith, less) in fits_at plan object os fewer h.1

entry_level : (plan : Plan) (n k : ℕ) (es : List ℕ) → k < length es → EntriesFit plan n es → (unit_of plan (entry_plan plan (slice_index_or es k 0)).unit).level ≡ n
entry_level plan n k [] less h = absurd (omega (arith, less))
entry_level plan n zero (e ∷ es) less h = h.0
entry_level plan n (suc k) (e ∷ es) less h = let fewer : k < length es = omega (arith, less) in entry_level plan n k es fewer h.1

entry_in : (k : ℕ) (es : List ℕ) → k < length es → contains (slice_index_or es k 0) es ≡ true
entry_in k [] less = absurd (omega (arith, less))
entry_in zero (e ∷ es) less = ap (λ b. b || contains e es) (eq-eqb e e refl)
entry_in (suc k) (e ∷ es) less = let fewer : k < length es = omega (arith, less) in or_true (nat_eq (slice_index_or es k 0) e) (contains (slice_index_or es k 0) es) (entry_in k es fewer)
  where
    or_true : (b d : Bool) → d ≡ true → b || d ≡ true
    or_true true d h = refl
    or_true false d h = h

objects_entry : (entry n : ℕ) (ps : List ObjectPlan) → contains entry (slice_index_or ps n (record { name = []; level = 0; components = []; entries = [] })).entries ≡ true → any (λ (o : ObjectPlan). contains entry o.entries) ps ≡ true
objects_entry entry n [] h = absurd (false≢true h)
objects_entry entry zero (p ∷ ps) h = ap (λ b. b || any (λ (o : ObjectPlan). contains entry o.entries) ps) h
objects_entry entry (suc n) (p ∷ ps) h = by (contains entry p.entries) (objects_entry entry n ps h)
  where
    by : (b : Bool) → any (λ (o : ObjectPlan). contains entry o.entries) ps ≡ true → b || any (λ (o : ObjectPlan). contains entry o.entries) ps ≡ true
    by true k = refl
    by false k = k

its_owner : (plan : Plan) (c : All Spot) (object entry : ℕ) (o : Owner) → IsEntryOf plan c o entry → is_of_object plan entry ≡ true → owner_number o ≡ object → o ≡ owner.Object object
its_owner plan c object entry (owner.Task m) h e q = absurd (true≢false (sym e ∙ h))
its_owner plan c object entry (owner.Object m) h e q = ap (λ k. owner.Object k) q

module _ (plan : Plan) (code : Flat) (table : List Counts) (tasks barriers seen : List ℕ) (sound : IsSound code) (fits : IsSeen code table tasks barriers seen) (ways : HasWays code) where
  abbrev pub Kept : All Spot → Type 0
  Kept c = Good plan code table tasks barriers seen sound fits ways c

  module _ (levels : HasLevels plan code tasks seen) (s : Serving) (n : ℕ) (c : All Spot) (t : TaskAt Spot) (good : Kept c) (is : slice_get c.tasks n ≡ Some t) (alive : is_over t.own.status ≡ false) (serving : t.own.serving ≡ Some s) where
    own_is : own_of n c ≡ t.own
    own_is = own_got n c.tasks t is

    mine : Serves plan c n t.own
    mine = subst (λ x. Serves plan c n x) own_is (good.framed.serves n (ap (λ (x : Own). is_over x.status) own_is ∙ alive))

    acts : changes plan c n s.object ≡ true
    acts = (mine.serving s serving).0

    outside : contains s.object (objects_in t.own.opened) ≡ false
    outside = (subst (λ x. AreApart (with_served x (objects_in t.own.opened))) serving mine.objects).0

    unmade : t.own.restart ≡ None
    unmade = by t.own.restart refl
      where
        by : (r : Option Restart) → t.own.restart ≡ r → r ≡ None
        by None e = refl
        by (Some r) e = let wrong : None ≡ Some s = sym (mine.restart r e).apart.0 ∙ serving in absurd cc

    still : t.own.again ≡ None
    still = by t.own.again refl
      where
        by : (r : Option Again) → t.own.again ≡ r → r ≡ None
        by None e = refl
        by (Some r) e = let wrong : None ≡ Some s = sym (mine.again r e).1.1.0 ∙ serving in absurd cc

    none_left : Kept (effect.serviced (orders plan code table tasks barriers seen sound fits ways) plan (flat_controls plan code).barrier s.object s.at n c)
    none_left = serviced_good plan code table tasks barriers seen sound fits ways s.object s.at n c t good is acts outside unmade still (mine.serving s serving).1

    abbrev entries : List ℕ
    entries = effect.entries_of plan (flat_controls plan code).barrier s.object c

    there : s.object < length c.shared.objects
    there = object_there n s.object c.shared.objects acts

    oldest : (k : ℕ) (w : Waiting) (ws : List Waiting) → k < length entries → queue s.object (slice_index_or entries k 0) c.shared.calls ≡ w ∷ ws → Kept (effect.enters_entry (orders plan code table tasks barriers seen sound fits ways) plan (flat_controls plan code).barrier true s.at s.object w.call n c)
    oldest k w ws less some =
        let first = first_in s.object (slice_index_or entries k 0) c w ws some in
        let its : (call_of w.call c).owner ≡ owner.Object s.object =
        its_owner plan c s.object (slice_index_or entries k 0) (call_of w.call c).owner
        (subst (λ e. IsEntryOf plan c (call_of w.call c).owner e) first.entry_is (good.framed.queued w.call first.queued))
        (objects_entry (slice_index_or entries k 0) (object_of s.object c).declaration plan.objects (entry_in k entries less)) first.owner_is in
        entry_entered plan code table tasks barriers seen sound fits ways levels true s.at s.object w.call n c t
        (record { framed = selected_framed plan code seen w.call c first.queued good.framed; spots = good.spots }) is (by (mine.serving s serving).1) unmade still acts outside
        (subst (λ r. contains w.call (with_restarted r (calls_in t.own.opened)) ≡ false) unmade (unserved_queued plan c n w.call t.own first.queued mine))
        (now_selected w.call c.shared.calls first.queued, field_same (λ (a : Call). a.owner) w.call w.call (λ (a : Call). record a { state = Selected }) c.shared.calls (λ a. refl) ∙ its)
        (ap (λ e. (unit_of plan (entry_plan plan e).unit).level) first.entry_is ∙ entry_level plan (length (object_of s.object c).display) k entries less (fits_at plan s.object c.shared.objects there good.framed.objects))
      where
        calls_still : CallsOn plan c n s.object → CallsOn plan (on_call w.call (λ (a : Call). record a { state = Selected }) c) n s.object
        calls_still h i =
            changed_call (λ a. is_call_over a.state ≡ false → a.caller ≡ n → a.owner ≡ owner.Object s.object) w.call (λ (a : Call). record a { state = Selected }) c.shared.calls i (h i)
            (λ e alive mine. h i (ap is_call_over (subst (λ j. (call_of j c).state ≡ Queued) e (first_in s.object (slice_index_or (effect.entries_of plan (flat_controls plan code).barrier s.object c) k 0) c w ws some).queued)) mine)

        by : (t.own.status ≡ Running) ⊎ ((t.own.status ≡ Calling) × CallsOn plan c n s.object) → (t.own.status ≡ Running) ⊎ ((t.own.status ≡ Calling) × CallsOn plan (on_call w.call (λ (a : Call). record a { state = Selected }) c) n s.object)
        by (inl e) = inl e
        by (inr h) = inr (h.0, calls_still h.1)

    chosen : (k : ℕ) → k < length entries → Kept (effect.serves_oldest (orders plan code table tasks barriers seen sound fits ways) plan (flat_controls plan code).barrier (queue s.object (slice_index_or entries k 0) c.shared.calls) s n c)
    chosen k less = by (queue s.object (slice_index_or entries k 0) c.shared.calls) refl
      where
        by : (ws : List Waiting) → queue s.object (slice_index_or (effect.entries_of plan (flat_controls plan code).barrier s.object c) k 0) c.shared.calls ≡ ws → Kept (effect.serves_oldest (orders plan code table tasks barriers seen sound fits ways) plan (flat_controls plan code).barrier ws s n c)
        by [] e = good
        by (w ∷ ws) e = oldest k w ws less e

    pub served : (alternative : Option ℕ) → ((index : ℕ) → alternative ≡ Some index → (1 ≤ index) × (index ≤ length (effect.entries_of plan (flat_controls plan code).barrier s.object c))) → Kept (effect.serves (orders plan code table tasks barriers seen sound fits ways) plan (flat_controls plan code).barrier alternative s n c)
    served None h = none_left
    served (Some zero) h = let wrong = (h zero refl).0 in absurd (omega (arith, wrong))
    served (Some (suc k)) h = let most = (h (suc k) refl).1 in let less : k < length entries = omega (arith, most) in chosen k less
