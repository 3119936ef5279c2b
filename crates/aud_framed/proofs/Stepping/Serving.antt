-- A task services an object.
use Rattle.std.proofs.Common.{◌≡◌, ◌⊎◌, ℕ, List, [], ◌∷◌, Option, Some, None, Result, Ok, Err, true, false, sym, ap, ◌∙◌, subst, slice_get}
use Rattle.std.proofs.lemmas.Option.{same_Some}
use Rattle.aud_text.specs.declared.place.Pos.{Pos}
use Rattle.aud_text.specs.declared.raise.Raise.{Raise}
use Rattle.aud_text.specs.declared.raise.Raise.TheVariants.{Program}
use Rattle.aud_typed.specs.Tree.{Plan}
use Rattle.aud_meaning.specs.declared.state.Serving.{Serving}
use Rattle.aud_meaning.specs.declared.state.Status.{Status}
use Rattle.aud_meaning.specs.declared.state.Status.TheVariants.{Created, Running, Activating, Accepting, Delaying, Calling, Completed, Terminated}
use Rattle.aud_meaning.specs.Configuration.{Own, TaskAt, All}
use Rattle.aud_meaning.specs.Parts.{contains, end_action, on_own, own_of}
use Rattle.aud_meaning.specs.Tasks as effect
use Rattle.aud_code.specs.Places.{Spot}
use Rattle.aud_code.specs.Flat.{Flat, flat_controls}
use Rattle.aud_code.specs.Seen.{IsSeen}
use Rattle.aud_code.specs.Sound.{Counts, IsSound}
use Rattle.aud_framed.specs.Waiting.{TaskFramed}
use Rattle.aud_framed.specs.Calls.{AreApart, CallsOn, changes, objects_in, with_served}
use Rattle.aud_framed.specs.Stepping.{HasWays}
use Rattle.aud_framed.proofs.Stepping.Actions.{action_ended}
use Rattle.aud_framed.proofs.Stepping.Ending.{Good, changed_spots}
use Rattle.aud_framed.proofs.Stepping.Holding.{Held, object_refused}
use Rattle.aud_framed.proofs.Stepping.Parts.{framed_at, own_got}
use Rattle.aud_framed.proofs.Stepping.Refusing.{orders}
use Rattle.aud_framed.proofs.Stepping.Tasks.{task_good}

serving_framed : (plan : Plan) (code : Flat) (seen : List ℕ) (x : Option Serving) (s : Status) (t : TaskAt Spot) → TaskFramed plan code seen s t → TaskFramed plan code seen s (record t { own = record t.own { serving = x } })
serving_framed plan code seen x Created t h = record { place = h.place; display = h.display; opened = h.opened; none = h.none }
serving_framed plan code seen x Running t h = h
serving_framed plan code seen x Activating t h = h
serving_framed plan code seen x Accepting t h = h
serving_framed plan code seen x Delaying t h = h
serving_framed plan code seen x Calling t h = h
serving_framed plan code seen x Completed t h = h
serving_framed plan code seen x Terminated t h = h

pub inner_apart : (s : Option Serving) (is : List ℕ) → AreApart (with_served s is) → AreApart is
inner_apart None is h = h
inner_apart (Some s) is h = h.1

module _ (plan : Plan) (code : Flat) (table : List Counts) (tasks barriers seen : List ℕ) (sound : IsSound code) (fits : IsSeen code table tasks barriers seen) (ways : HasWays code) where
  abbrev pub Kept : All Spot → Type 0
  Kept c = Good plan code table tasks barriers seen sound fits ways c

  pub ended_good : (n object : ℕ) (c : All Spot) → contains object (objects_in (own_of n c).opened) ≡ false → Kept c → Kept (end_action n object c)
  ended_good n object c outside w = record {
    framed = action_ended plan code seen n object c outside w.framed;
    spots = changed_spots plan code table tasks barriers seen sound fits ways n (λ t. record t { own = record t.own { serving = None } }) c.tasks (λ t h. h) w.spots;
  }

  -- it stands before a call that it serves
  stands_before : (object : ℕ) (at : Pos) (n : ℕ) (c : All Spot) (t : TaskAt Spot) → Kept c → slice_get c.tasks n ≡ Some t → changes plan c n object ≡ true → contains object (objects_in t.own.opened) ≡ false → t.own.restart ≡ None → t.own.again ≡ None → (t.own.status ≡ Running) ⊎ ((t.own.status ≡ Calling) × CallsOn plan c n object) → Kept (on_own n (λ own. record own { serving = Some (record { object = object; at = at }) }) c)
  stands_before object at n c t w is acts outside unmade still may =
      task_good plan code table tasks barriers seen sound fits ways n (λ u. record u { own = record u.own { serving = Some (record { object = object; at = at }) } }) c t is
      (serving_framed plan code seen (Some (record { object = object; at = at })) t.own.status t (framed_at plan code seen n c.tasks t is w.framed.tasks))
      (record {
        live = λ h. h;
        waits = λ id live mine h. h;
        serves = λ live s. record {
          opened = s.opened;
          calls = s.calls;
          objects = (outside, inner_apart t.own.serving (objects_in t.own.opened) s.objects);
          serving = λ x e. subst (λ (y : Serving). (changes plan c n y.object ≡ true) × ((t.own.status ≡ Running) ⊎ ((t.own.status ≡ Calling) × CallsOn plan c n y.object))) (same_Some (record { object = object; at = at }) x e) (acts, may);
          again = λ r q. let wrong : None ≡ Some r = sym still ∙ q in absurd cc;
          restart = λ r q. let wrong : None ≡ Some r = sym unmade ∙ q in absurd cc;
          withdraw = s.withdraw;
        };
        abnormal = λ h. h;
      }) (λ u h. h) w

  pub serviced_good : (object : ℕ) (at : Pos) (n : ℕ) (c : All Spot) (t : TaskAt Spot) → Kept c → slice_get c.tasks n ≡ Some t → changes plan c n object ≡ true → contains object (objects_in t.own.opened) ≡ false → t.own.restart ≡ None → t.own.again ≡ None → (t.own.status ≡ Running) ⊎ ((t.own.status ≡ Calling) × CallsOn plan c n object) → Kept (effect.serviced (orders plan code table tasks barriers seen sound fits ways) plan (flat_controls plan code).barrier object at n c)
  serviced_good object at n c t w is acts outside unmade still may = by (effect.eligible plan (flat_controls plan code).barrier object c)
    where
      outside_now : contains object (objects_in (own_of n c).opened) ≡ false
      outside_now = ap (λ (x : Own). contains object (objects_in x.opened)) (own_got n c.tasks t is) ∙ outside

      by : (r : Result (List ℕ) Raise) → Kept (effect.serviced_by (orders plan code table tasks barriers seen sound fits ways) plan (flat_controls plan code).barrier r object at n c)
      by (Err raise) =
          let h : Held plan code table tasks barriers seen sound fits ways n object _ =
          object_refused plan code table tasks barriers seen sound fits ways n object Program c (record { good = w; holds = record { acts = acts; outside = outside_now } }) in
          ended_good n object _ h.holds.outside h.good
      by (Ok []) = ended_good n object c outside_now w
      by (Ok (e ∷ es)) = stands_before object at n c t w is acts outside unmade still may
