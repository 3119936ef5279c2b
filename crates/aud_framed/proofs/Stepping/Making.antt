-- A task makes a call, and waits for it.
use Rattle.std.proofs.Common.{◌≡◌, ℕ, List, [], length, Option, Some, None, false, refl, sym, ap, ◌∙◌, subst, inl, slice_get}
use Rattle.aud_text.specs.declared.place.Pos.{Pos}
use Rattle.aud_typed.specs.Tree.{Plan}
use Rattle.aud_meaning.specs.declared.state.CallState.TheVariants.{Selected, Done}
use Rattle.aud_meaning.specs.declared.state.Owner.{Owner}
use Rattle.aud_meaning.specs.declared.state.Serving.{Serving}
use Rattle.aud_meaning.specs.declared.state.Status.TheVariants.{Running, Calling}
use Rattle.aud_meaning.specs.Configuration.{Own, Call, TaskAt, All}
use Rattle.aud_meaning.specs.Control.{Called}
use Rattle.aud_meaning.specs.Parts.{blocks, call_of, contains, in_action, is_over, new_call, no_waits, own_of, stands_at_call}
use Rattle.aud_meaning.specs.Step.{call_record}
use Rattle.aud_meaning.proofs.Open.Tasks.{last_call}
use Rattle.aud_code.specs.Places.{Spot}
use Rattle.aud_code.specs.Flat.{Flat, end_at}
use Rattle.aud_code.specs.Frames.{Found}
use Rattle.aud_code.specs.Seen.{IsSeen}
use Rattle.aud_code.specs.Sound.{Counts, IsSound}
use Rattle.aud_over.specs.Over.{is_call_over}
use Rattle.aud_framed.specs.Held.{IsCall, StandsAt}
use Rattle.aud_framed.specs.Calls.{CallerWaits, Serves, calls_in, objects_in, with_restarted}
use Rattle.aud_framed.specs.Ways.{StandsAtStep}
use Rattle.aud_framed.specs.Stepping.{HasWays}
use Rattle.aud_framed.proofs.Stepping.Arriving.{made_framed, none_there, unserved_other}
use Rattle.aud_framed.proofs.Stepping.Blocks.{own_changed}
use Rattle.aud_framed.proofs.Stepping.Calls.{IsUnserved, served_by}
use Rattle.aud_framed.proofs.Stepping.Delays.{no_change, outside, running_outside}
use Rattle.aud_framed.proofs.Stepping.Ending.{Good}
use Rattle.aud_framed.proofs.Stepping.Lone.{at_step}
use Rattle.aud_framed.proofs.Stepping.Parts.{Follows, own_got}
use Rattle.aud_framed.proofs.Stepping.Tasks.{task_good}

module _ (plan : Plan) (code : Flat) (table : List Counts) (tasks barriers seen : List ℕ) (sound : IsSound code) (fits : IsSeen code table tasks barriers seen) (ways : HasWays code) where
  abbrev pub Kept : All Spot → Type 0
  Kept c = Good plan code table tasks barriers seen sound fits ways c

  calling : (c : All Spot) (n id : ℕ) (own : Own) (at : Pos) → own.status ≡ Running → own.again ≡ None → own.restart ≡ None → own.serving ≡ None → objects_in own.opened ≡ [] → Follows plan c n own (record (blocks Calling at no_waits own) { call = id })
  calling c n id own at running still starts_none serves_none none_around = record {
    live = λ h. ap is_over running;
    waits = λ i live its h. absurd (running_outside _ own running none_around h.1);
    serves = λ live s. record {
      opened = s.opened;
      calls = s.calls;
      objects = s.objects;
      serving = λ x e. let wrong : None ≡ Some x = sym serves_none ∙ e in absurd cc;
      again = λ x e. let wrong : None ≡ Some x = sym still ∙ e in absurd cc;
      restart = λ x e. let wrong : None ≡ Some x = sym starts_none ∙ e in absurd cc;
      withdraw = λ o e. let h = (s.withdraw o e).0 in absurd (running_outside h.0 own running none_around h.1);
    };
    abnormal = λ h. h;
  }

  module _ (o : Owner) (n : ℕ) (call : Called) (c : All Spot) (t : TaskAt Spot) (w : Kept c) (is : slice_get c.tasks n ≡ Some t) (running : t.own.status ≡ Running) (none : t.own.pending ≡ None) (still : t.own.again ≡ None) (starts_none : t.own.restart ≡ None) (line : IsCall (end_at code t.control.place).last) (free : in_action n c ≡ false) where
    abbrev x : Call
    x = call_record n o call

    abbrev id : ℕ
    id = length c.shared.calls

    abbrev waits : TaskAt Spot → TaskAt Spot
    waits u = record u { own = record (blocks Calling call.at no_waits u.own) { call = length c.shared.calls } }

    abbrev c1 : All Spot
    c1 = stands_at_call n (length c.shared.calls) call.at c

    abbrev d : All Spot
    d = new_call x c1

    s : StandsAtStep code seen t.control.place (end_at code t.control.place) t.control.returns t.own.display t.own.opened
    s = at_step plan code seen n c t w.spots is running none w.framed

    serves : Serves plan c n t.own
    serves =
        subst (λ (y : Own). Serves plan c n y) (own_got n c.tasks t is)
        (w.framed.serves n (ap (λ (y : Own). is_over y.status) (own_got n c.tasks t is) ∙ ap is_over running))

    pub none_around : objects_in t.own.opened ≡ []
    none_around = outside plan c n free t.own.opened serves.opened

    serves_none : t.own.serving ≡ None
    serves_none = by t.own.serving refl
      where
        by : (y : Option Serving) → t.own.serving ≡ y → y ≡ None
        by None e = refl
        by (Some y) e = absurd (no_change plan c n free y.object (serves.serving y e).0)

    withdraws_none : t.own.withdraw ≡ None
    withdraws_none = by t.own.withdraw refl
      where
        by : (y : Option ℕ) → t.own.withdraw ≡ y → y ≡ None
        by None e = refl
        by (Some y) e = let h = (serves.withdraw y e).0 in absurd (running_outside h.0 t.own running none_around h.1)

    waits_good : Kept c1
    waits_good =
        task_good plan code table tasks barriers seen sound fits ways n waits c t is
        (subst (λ p. StandsAt code.lines seen p t.control t.own.display t.own.opened) (sym none) s.stands, none, subst (λ y. Found y (λ l. IsCall l.last)) (sym s.is) line)
        (calling c n id t.own call.at running still starts_none serves_none none_around) (λ u h. h) w

    -- the task stands at its call
    pub own_is : own_of n d ≡ (waits t).own
    own_is = own_changed n waits c.tasks t is

    pub made : Kept d
    made = record {
      framed =
          made_framed plan code seen x c1 refl (subst (λ (y : Own). CallerWaits id x y) (sym own_is) (refl, inl refl)) (ap (λ (y : Own). y.serving) own_is ∙ serves_none) (ap (λ (y : Own). y.withdraw) own_is ∙ withdraws_none) (ap (λ (y : Own). objects_in y.opened) own_is ∙ none_around)
          waits_good.framed;
      spots = waits_good.spots;
    }

    pub newest : call_of id d ≡ x
    newest = last_call c.shared.calls x

    pub unserved : IsUnserved id d
    unserved k alive =
        unserved_other plan c1 k id (own_of k c1) (λ e. let wrong : Done ≡ Selected = sym (none_there c.shared.calls) ∙ e in absurd cc)
        (waits_good.framed.serves k alive)

    pub not_served : contains id (calls_in t.own.opened) ≡ false
    not_served =
        subst (λ r. contains id (with_restarted r (calls_in t.own.opened)) ≡ false) starts_none
        (subst (λ (y : Own). contains id (served_by y) ≡ false) own_is (unserved n (ap (λ (y : Own). is_over y.status) own_is)))

    -- it has no other call
    pub only_call : (i : ℕ) → is_call_over (call_of i d).state ≡ false → (call_of i d).caller ≡ n → id ≡ i
    only_call i live mine =
        sym (ap (λ (y : Own). y.call) own_is)
        ∙ (ap (λ k. (own_of k d).call) (sym mine) ∙ (made.framed.calls i live).0)
