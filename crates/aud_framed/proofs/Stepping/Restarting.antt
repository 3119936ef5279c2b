-- A call that its accept makes again is made on an object.
use Rattle.std.proofs.Common.{◌≡◌, ℕ, List, [], ◌∷◌, Option, Some, None, Bool, true, false, refl, sym, ap, ◌∙◌, subst, inl, if◌then◌else◌, slice_get}
use Rattle.std.proofs.lemmas.Bool.{eq-eqb, eqb-true, true≢false}
use Rattle.std.specs.Prelude.{◌||◌, nat_eq}
use Rattle.aud_typed.specs.Tree.{Plan}
use Rattle.aud_meaning.specs.declared.state.Again.{Again}
use Rattle.aud_meaning.specs.declared.state.CallState.TheVariants.{Cancelled}
use Rattle.aud_meaning.specs.declared.state.Form.{Form}
use Rattle.aud_meaning.specs.declared.state.Form.TheVariants.{Plain, Conditional, TimedTo}
use Rattle.aud_meaning.specs.declared.state.Owner.{Owner}
use Rattle.aud_meaning.specs.declared.state.Owner.TheVariants as owner
use Rattle.aud_meaning.specs.declared.state.Restart.{Restart}
use Rattle.aud_meaning.specs.declared.state.Status.TheVariants.{Running}
use Rattle.aud_meaning.specs.Configuration.{Purpose, for_body, for_block, for_loop, for_procedure, for_operation, for_entry, for_accept, Opened, Own, Call, TaskAt, All}
use Rattle.aud_meaning.specs.Parts.{begin_action, call_of, cancels, contains, in_the_way, is_over, object_of, on_call, on_own, own_of, owner_number}
use Rattle.aud_meaning.specs.Tasks as effect
use Rattle.aud_code.specs.Places.{Spot}
use Rattle.aud_code.specs.Flat.{Flat, flat_controls}
use Rattle.aud_code.specs.Seen.{IsSeen}
use Rattle.aud_code.specs.Sound.{Counts, IsSound}
use Rattle.aud_over.specs.Over.{is_call_over}
use Rattle.aud_framed.specs.Waiting.{TaskFramed}
use Rattle.aud_framed.specs.Calls.{AreApart, EntryFits, IsAgain, RestartFits, Serves, ServesIn, Waits, calls_in, objects_in, with_restarted}
use Rattle.aud_framed.specs.Framed.{HasLevels, IsFramed}
use Rattle.aud_framed.specs.Stepping.{HasWays}
use Rattle.aud_framed.proofs.Stepping.Actions.{action_begun, fits_still, still_there}
use Rattle.aud_framed.proofs.Stepping.Barriers.{barrier_good}
use Rattle.aud_framed.proofs.Stepping.Calls.{IsUnserved, over_framed, served_by}
use Rattle.aud_framed.proofs.Stepping.Ending.{Good, task_caller}
use Rattle.aud_framed.proofs.Stepping.Entering.{begun_changes}
use Rattle.aud_framed.proofs.Stepping.Leaving.{got_changed}
use Rattle.aud_framed.proofs.Stepping.Parts.{changed_own, framed_at, own_got}
use Rattle.aud_framed.proofs.Stepping.Refusing.{orders}
use Rattle.aud_framed.proofs.Stepping.Requeuing.{call_framed, there_changed}
use Rattle.aud_framed.proofs.Stepping.Served.{lost_not}
use Rattle.aud_framed.proofs.Stepping.Tasks.{task_good}

neither : (a b : Bool) → a ≡ false → b ≡ false → a || b ≡ false
neither false b h k = k
neither true b h k = h

-- who else serves a call of a task's entry is that task
module _ (plan : Plan) (code : Flat) (seen : List ℕ) (n id : ℕ) (c : All Spot) (w : IsFramed plan code seen c) (its : (call_of id c).owner ≡ owner.Task n) where
  other : (i : ℕ) (q : Owner) → (call_of i c).owner ≡ q → (owner.Task n ≡ q → ⊥) → nat_eq id i ≡ false
  other i q e wrong = on (nat_eq id i) refl
    where
      on : (b : Bool) → nat_eq id i ≡ b → b ≡ false
      on true x = absurd (wrong (sym its ∙ (ap (λ j. (call_of j c).owner) (eqb-true id i x) ∙ e)))
      on false x = refl

  others_free : (m : ℕ) (os : List Opened) → (owner.Task n ≡ owner.Task m → ⊥) → ServesIn plan c m os → contains id (calls_in os) ≡ false
  others_free m [] differs s = refl
  others_free m (o ∷ os) differs s = by o.purpose s (others_free m os differs)
    where
      by : (p : Purpose) → ServesIn plan c m (record o { purpose = p } ∷ os) → (ServesIn plan c m os → contains id (calls_in os) ≡ false) → contains id (calls_in (record o { purpose = p } ∷ os)) ≡ false
      by for_body s on = on s.1
      by for_block s on = on s.1
      by for_loop s on = on s.1
      by (for_procedure r) s on = on s.1
      by (for_operation i r) s on = on s.1
      by (for_entry i k served back) s on = neither (nat_eq id k) _ (other k (owner.Object i) s.0.0.1 (λ e. absurd cc)) (on s.1)
      by (for_accept k) s on = neither (nat_eq id k) _ (other k (owner.Task m) s.0.0.1 differs) (on s.1)

  pub task_unserved : contains id (served_by (own_of n c)) ≡ false → IsUnserved id c
  task_unserved mine m alive = by (nat_eq n m) refl
    where
      made : (r : Option Restart) → (own_of m c).restart ≡ r → (owner.Task n ≡ owner.Task m → ⊥) → contains id (calls_in (own_of m c).opened) ≡ false → contains id (with_restarted r (calls_in (own_of m c).opened)) ≡ false
      made None e differs h = h
      made (Some r) e differs h = neither (nat_eq id r.call) _ (other r.call (owner.Task m) ((w.serves m alive).restart r e).served.1 differs) h

      by : (b : Bool) → nat_eq n m ≡ b → contains id (served_by (own_of m c)) ≡ false
      by true e = subst (λ i. contains id (served_by (own_of i c)) ≡ false) (eqb-true n m e) mine
      by false e =
          let differs : owner.Task n ≡ owner.Task m → ⊥ = (λ x. true≢false (sym (eq-eqb n m (ap (λ q. owner_number q) x)) ∙ e)) in
          made (own_of m c).restart refl differs (others_free m (own_of m c).opened differs (w.serves m alive).opened)

pub restarting_framed : (plan : Plan) (code : Flat) (seen : List ℕ) (r : Option Restart) (t : TaskAt Spot) → t.own.status ≡ Running → TaskFramed plan code seen t.own.status t → TaskFramed plan code seen t.own.status (record t { own = record t.own { restart = r } })
restarting_framed plan code seen r t running h =
    subst (λ st. TaskFramed plan code seen st (record t { own = record t.own { restart = r } })) (sym running)
    (subst (λ st. TaskFramed plan code seen st t) running h)

module _ (plan : Plan) (code : Flat) (table : List Counts) (tasks barriers seen : List ℕ) (sound : IsSound code) (fits : IsSeen code table tasks barriers seen) (ways : HasWays code) where
  abbrev pub Kept : All Spot → Type 0
  Kept c = Good plan code table tasks barriers seen sound fits ways c

  never_conditional : (f : Form) → IsAgain f → effect.is_conditional (orders plan code table tasks barriers seen sound fits ways) plan (flat_controls plan code).barrier f ≡ true → ⊥
  never_conditional Plain a e = true≢false (sym e)
  never_conditional (Conditional time) a e = a
  never_conditional (TimedTo time) a e = true≢false (sym e)

  module _ (levels : HasLevels plan code tasks seen) (r : Restart) (n : ℕ) (c : All Spot) (t : TaskAt Spot) (w : Kept c) (is : slice_get c.tasks n ≡ Some t) (running : t.own.status ≡ Running) (restarting : t.own.restart ≡ Some r) (way : in_the_way n false (object_of r.object c) ≡ false) where
    own_is : own_of n c ≡ t.own
    own_is = own_got n c.tasks t is

    mine : Serves plan c n t.own
    mine = subst (λ x. Serves plan c n x) own_is (w.framed.serves n (ap (λ (x : Own). is_over x.status) own_is ∙ ap is_over running))

    made : RestartFits plan c n t.own r
    made = mine.restart r restarting

    still : t.own.again ≡ None
    still = by t.own.again refl
      where
        by : (a : Option Again) → t.own.again ≡ a → a ≡ None
        by None e = refl
        by (Some a) e = let wrong : None ≡ Some r = sym (mine.again a e).1.1.1 ∙ restarting in absurd cc

    apart : AreApart (r.call ∷ calls_in t.own.opened)
    apart = subst (λ q. AreApart (with_restarted q (calls_in t.own.opened))) restarting mine.calls

    abbrev dropped : All Spot
    dropped = on_own n (λ own. record own { restart = None }) c

    dropped_good : Kept dropped
    dropped_good =
        task_good plan code table tasks barriers seen sound fits ways n (λ u. record u { own = record u.own { restart = None } }) c t is
        (restarting_framed plan code seen None t running (framed_at plan code seen n c.tasks t is w.framed.tasks))
        (record {
          live = λ h. h;
          waits = λ id live its h. h;
          serves = λ live s. record {
            opened = s.opened;
            calls = apart.1;
            objects = s.objects;
            serving = s.serving;
            again = λ a e. let k = s.again a e in (k.0, (k.1.0, (k.1.1.0, refl)));
            restart = λ a e. absurd cc;
            withdraw = s.withdraw;
          };
          abnormal = λ h. h;
        }) (λ u h. h) w

    dropped_there : slice_get dropped.tasks n ≡ Some (record t { own = record t.own { restart = None } })
    dropped_there = got_changed n (λ (u : TaskAt Spot). record u { own = record u.own { restart = None } }) c.tasks t is

    live : is_call_over (call_of r.call c).state ≡ false
    live = ap is_call_over made.served.0

    free : IsUnserved r.call dropped
    free =
        task_unserved plan code seen n r.call dropped dropped_good.framed made.served.1
        (ap (λ (x : Own). contains r.call (served_by x)) (own_got n dropped.tasks (record t { own = record t.own { restart = None } }) dropped_there) ∙ apart.0)

    abbrev called : All Spot
    called = on_call r.call (λ (a : Call). effect.called_of (orders plan code table tasks barriers seen sound fits ways) plan (flat_controls plan code).barrier (owner.Object r.object) a) dropped

    called_is : call_of r.call called ≡ effect.called_of (orders plan code table tasks barriers seen sound fits ways) plan (flat_controls plan code).barrier (owner.Object r.object) (call_of r.call c)
    called_is = there_changed r.call (λ (a : Call). effect.called_of (orders plan code table tasks barriers seen sound fits ways) plan (flat_controls plan code).barrier (owner.Object r.object) a) c.shared.calls live

    called_good : Kept called
    called_good = record {
      framed =
          call_framed plan code seen r.call (λ (a : Call). effect.called_of (orders plan code table tasks barriers seen sound fits ways) plan (flat_controls plan code).barrier (owner.Object r.object) a) dropped free live (λ a. refl)
          (λ o e. let wrong : owner.Task n ≡ owner.Object o = sym made.served.1 ∙ e in absurd cc)
          (λ h. inl (task_caller n (own_of (call_of r.call dropped).caller dropped) (subst (λ o. Waits o (own_of (call_of r.call dropped).caller dropped)) made.served.1 (dropped_good.framed.calls r.call live).1)))
          (λ e. absurd cc) (λ e. absurd cc) dropped_good.framed;
      spots = dropped_good.spots;
    }

    abbrev acting : All Spot
    acting = begin_action n r.object false called

    lost_or : (b : Bool) → effect.is_lost (orders plan code table tasks barriers seen sound fits ways) plan (flat_controls plan code).barrier (call_of r.call c) c ≡ b → (own_of (call_of r.call c).caller c).abnormal ≡ (own_of (call_of r.call c).caller dropped).abnormal → Kept (if b then cancels r.call dropped else effect.barrier_met (orders plan code table tasks barriers seen sound fits ways) plan (flat_controls plan code).barrier (effect.barrier_of plan (flat_controls plan code).barrier r.object (call_of r.call c).entry c) r.at r.object r.call n acting)
    lost_or true e same = record { framed = over_framed plan code seen r.call (λ (a : Call). record a { state = Cancelled }) dropped (λ a. refl) free dropped_good.framed; spots = dropped_good.spots }
    lost_or false e same =
        barrier_good plan code table tasks barriers seen sound fits ways levels r.at r.object r.call n acting (record t { own = record t.own { restart = None } })
        (record { framed = action_begun plan code seen n r.object false called way (λ q. absurd (true≢false (sym q))) called_good.framed; spots = called_good.spots })
        dropped_there refl still
        (record {
          acts = begun_changes plan n r.object false called made.entry.0.1 refl;
          outside = ap (λ (x : Own). contains r.object (objects_in x.opened)) (own_got n dropped.tasks (record t { own = record t.own { restart = None } }) dropped_there) ∙ ap (λ is. contains r.object is) made.outside;
        })
        apart.0 (ap (λ (a : Call). a.state) called_is) (ap (λ (a : Call). a.owner) called_is) (inl running)
        (subst (λ (a : Call). EntryFits plan acting (owner.Object r.object) a.entry) (sym called_is)
        (fits_still plan called _ (still_there plan code seen r.object _ called) (owner.Object r.object) (call_of r.call c).entry made.entry))
        (subst (λ (a : Call). (own_of a.caller acting).abnormal ≡ true → a.stays ≡ true) (sym called_is) (λ ill. lost_not (call_of r.call c).stays (own_of (call_of r.call c).caller c).abnormal e (same ∙ ill)))
        (λ q. absurd (never_conditional (call_of r.call c).form made.form (subst (λ (a : Call). effect.is_conditional (orders plan code table tasks barriers seen sound fits ways) plan (flat_controls plan code).barrier a.form ≡ true) called_is q)))
        (effect.barrier_of plan (flat_controls plan code).barrier r.object (call_of r.call c).entry c)

    pub made_again : Kept (effect.starts_again (orders plan code table tasks barriers seen sound fits ways) plan (flat_controls plan code).barrier r n c)
    made_again =
        lost_or (effect.is_lost (orders plan code table tasks barriers seen sound fits ways) plan (flat_controls plan code).barrier (call_of r.call c) c) refl
        (sym (changed_own (λ i own. own.abnormal ≡ (own_of i c).abnormal) n (λ (u : TaskAt Spot). record u { own = record u.own { restart = None } }) c.tasks (λ u e h. h) (call_of r.call c).caller refl))
