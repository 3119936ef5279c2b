-- A task waits at an accept.
use Rattle.std.proofs.Common.{◌≡◌, ℕ, List, [], ◌∷◌, length, Some, None, false, sym, ap, ◌∙◌, subst, slice_get}
use Rattle.aud_text.specs.declared.place.Pos.{Pos}
use Rattle.aud_typed.specs.Tree.{Plan}
use Rattle.aud_meaning.specs.declared.state.OpenAccept.{OpenAccept}
use Rattle.aud_meaning.specs.declared.state.Status.TheVariants.{Running, Accepting}
use Rattle.aud_meaning.specs.Configuration.{Own, TaskAt, Waits as WaitsAt, All}
use Rattle.aud_meaning.specs.Parts.{blocks, is_over, queue}
use Rattle.aud_meaning.specs.Tasks as effect
use Rattle.aud_code.specs.Places.{Spot}
use Rattle.aud_code.specs.Flat.{Flat, Does, end_at, flat_controls}
use Rattle.aud_code.specs.Frames.{Found, OpensAccept}
use Rattle.aud_code.specs.Instruction.{Accept}
use Rattle.aud_code.specs.Seen.{IsSeen}
use Rattle.aud_code.specs.Sound.{Counts, IsSound}
use Rattle.aud_framed.specs.Held.{StandsAt}
use Rattle.aud_framed.specs.Waiting.{AllOfTasks, EachOffered}
use Rattle.aud_framed.specs.Calls.{objects_in}
use Rattle.aud_framed.specs.Ways.{StandsAtStep}
use Rattle.aud_framed.specs.Stepping.{HasWays}
use Rattle.aud_framed.proofs.Offers.{accept_offers}
use Rattle.aud_framed.proofs.Stepping.Delays.{running_outside}
use Rattle.aud_framed.proofs.Stepping.Ending.{Good}
use Rattle.aud_framed.proofs.Stepping.Lone.{at_step}
use Rattle.aud_framed.proofs.Stepping.Parts.{Follows}
use Rattle.aud_framed.proofs.Stepping.Refusing.{orders}
use Rattle.aud_framed.proofs.Stepping.Tasks.{task_good}

-- in no object's body, it serves nothing and waits for no call
pub waits_outside : (plan : Plan) (c : All Spot) (n : ℕ) (own : Own) (at : Pos) (waits : WaitsAt) → own.status ≡ Running → own.again ≡ None → own.serving ≡ None → objects_in own.opened ≡ [] → Follows plan c n own (blocks Accepting at waits own)
waits_outside plan c n own at waits running still free outside = record {
  live = λ h. ap is_over running;
  waits = λ id live its h. absurd (running_outside _ own running outside h.1);
  serves = λ live s. record {
    opened = s.opened;
    calls = s.calls;
    objects = s.objects;
    serving = λ x e. let wrong : None ≡ Some x = sym free ∙ e in absurd cc;
    again = λ x e. let wrong : None ≡ Some x = sym still ∙ e in absurd cc;
    restart = λ x e. let y = s.restart x e in record { served = y.served; form = y.form; entry = y.entry; outside = y.outside; apart = (y.apart.0, λ q. absurd cc) };
    withdraw = λ o e. let h = (s.withdraw o e).0 in absurd (running_outside h.0 own running outside h.1);
  };
  abnormal = λ h. h;
}

module _ (plan : Plan) (code : Flat) (table : List Counts) (tasks barriers seen : List ℕ) (sound : IsSound code) (fits : IsSeen code table tasks barriers seen) (ways : HasWays code) where
  abbrev pub Kept : All Spot → Type 0
  Kept c = Good plan code table tasks barriers seen sound fits ways c

  pub accept_waits : (a : OpenAccept) (n : ℕ) (c : All Spot) (t : TaskAt Spot) → Kept c → slice_get c.tasks n ≡ Some t → t.own.status ≡ Running → t.own.pending ≡ None → t.own.again ≡ None → t.own.serving ≡ None → objects_in t.own.opened ≡ [] → AllOfTasks plan (a ∷ []) → (end_at code t.control.place).last ≡ Does (Accept a.entry a.region) → a.alternative ≡ 0 → queue n a.entry c.shared.calls ≡ [] → Kept (effect.accepts_call (orders plan code table tasks barriers seen sound fits ways) plan (flat_controls plan code).barrier a n c)
  accept_waits a n c t w is running none still free outside its line only empty =
      subst (λ ws. Kept (effect.accepts_oldest (orders plan code table tasks barriers seen sound fits ways) plan (flat_controls plan code).barrier a ws n c)) (sym empty)
      (task_good plan code table tasks barriers seen sound fits ways n (λ u. record u { own = blocks Accepting a.at ws u.own }) c t is (
        subst (λ p. StandsAt code.lines seen p t.control t.own.display t.own.opened) (sym none) s.stands,
        (
          none,
          (
            subst (λ x. Found x (λ l. OpensAccept l.last × EachOffered code.lines seen l t.control.place (length t.own.display) (a ∷ []))) (sym s.is) (
              subst (λ last. OpensAccept last) (sym line) tt,
              (accept_offers code table tasks barriers seen sound fits t.control.place t.control.returns t.own.display t.own.opened (end_at code t.control.place) s a only line, tt),
            ),
            (its, outside),
          ),
        ),
      )
      (waits_outside plan c n t.own a.at ws running still free outside) (λ u h. h) w)
    where
      ws : WaitsAt
      ws = record { accepts = a ∷ []; delays = []; terminate = false }

      s : StandsAtStep code seen t.control.place (end_at code t.control.place) t.control.returns t.own.display t.own.opened
      s = at_step plan code seen n c t w.spots is running none w.framed
