-- Activation: tasks that are created begin, and their activator waits.
use Rattle.std.proofs.Common.{◌≡◌, ℕ, zero, suc, ◌≤◌, pos, List, [], ◌∷◌, ◌++◌, length, Option, Some, None, Bool, true, false, refl, sym, ap, ◌∙◌, subst, inl, inr, if◌then◌else◌, slice_get, arith}
use Rattle.std.proofs.lemmas.Bool.{and_parts, false≢true}
use Rattle.std.specs.Prelude.{◌&&◌, nat_eq}
use Rattle.aud_text.specs.declared.place.Pos.{Pos}
use Rattle.aud_typed.specs.Tree.{Plan}
use Rattle.aud_meaning.specs.declared.state.Owner.{Owner}
use Rattle.aud_meaning.specs.declared.state.Status.{Status}
use Rattle.aud_meaning.specs.declared.state.Status.TheVariants.{Created, Running, Activating, Accepting, Delaying, Calling, Completed, Terminated}
use Rattle.aud_meaning.specs.Configuration.{for_body, Opened, Own, TaskAt, All, Acting}
use Rattle.aud_meaning.specs.Control.{here, takes_part}
use Rattle.aud_meaning.specs.Effects as effects
use Rattle.aud_meaning.specs.Effects.{innermost}
use Rattle.aud_meaning.specs.Parts.{acting, alone, alone_by, blocks, changed, is_created, is_over, no_waits, numbers, on_control, on_task, own_of, unit_of}
use Rattle.aud_meaning.specs.Tasks as effect
use Rattle.aud_meaning.proofs.Limits.Frames.{nth}
use Rattle.aud_code.specs.Places.{Spot}
use Rattle.aud_code.specs.Flat.{Flat, Does, end_at, flat_controls}
use Rattle.aud_code.specs.Frames.{Found}
use Rattle.aud_code.specs.Instruction.{Activate}
use Rattle.aud_code.specs.Seen.{IsSeen}
use Rattle.aud_code.specs.Sound.{Counts, IsSound}
use Rattle.aud_code.specs.Starts.{AreSpots, IsSpot}
use Rattle.aud_code.proofs.Starts.{moved_kept}
use Rattle.aud_framed.specs.Held.{StandsAt}
use Rattle.aud_framed.specs.Waiting.{IsCreated, TaskFramed}
use Rattle.aud_framed.specs.Calls.{AreApart, RequeueFits, ServesIn, Waits, calls_in, objects_in, with_restarted, with_served}
use Rattle.aud_framed.specs.Framed.{HasLevels}
use Rattle.aud_framed.specs.Ways.{StandsAtStep}
use Rattle.aud_framed.specs.Stepping.{DoesPlain, HasWays}
use Rattle.aud_framed.proofs.Bodies.{begins_framed}
use Rattle.aud_framed.proofs.Stepping.Closing.{FoundOwn, owns_found}
use Rattle.aud_framed.proofs.Stepping.Ending.{Good, got_there}
use Rattle.aud_framed.proofs.Stepping.Going.{one_longer, part_goes}
use Rattle.aud_framed.proofs.Stepping.Lone.{at_step, spot_of}
use Rattle.aud_framed.proofs.Stepping.Parts.{Follows, follows, framed_at, like_framed, like_frames, own_got, task_framed}
use Rattle.aud_framed.proofs.Stepping.Refusing.{RiseFrom, Rests, orders, rest_waits, rises}
use Rattle.aud_framed.proofs.Stepping.Tasks.{fused, spots_at, task_good}

pub task_changed : (n : ℕ) (f : TaskAt Spot → TaskAt Spot) (ts : List (TaskAt Spot)) (t : TaskAt Spot) → slice_get ts n ≡ Some t → slice_get (changed n f ts) n ≡ Some (f t)
task_changed n f [] t e = absurd cc
task_changed zero f (x ∷ xs) t e = ap (λ o. mapped o) e
  where
    mapped : Option (TaskAt Spot) → Option (TaskAt Spot)
    mapped None = None
    mapped (Some y) = Some (f y)
task_changed (suc n) f (x ∷ xs) t e = task_changed n f xs t e

pub other_own : (n m : ℕ) (f : TaskAt Spot → TaskAt Spot) (ts : List (TaskAt Spot)) → (n ≡ m → ⊥) → nth m (changed n f ts) ≡ nth m ts
other_own n m f [] differs = refl
other_own zero zero f (t ∷ ts) differs = absurd (differs refl)
other_own zero (suc m) f (t ∷ ts) differs = refl
other_own (suc n) zero f (t ∷ ts) differs = refl
other_own (suc n) (suc m) f (t ∷ ts) differs = other_own n m f ts (λ e. differs (ap suc e))

-- Those that are created.

is_it_created : (s : Status) → is_created s ≡ true → s ≡ Created
is_it_created Created h = refl
is_it_created Running h = absurd (false≢true h)
is_it_created Activating h = absurd (false≢true h)
is_it_created Accepting h = absurd (false≢true h)
is_it_created Delaying h = absurd (false≢true h)
is_it_created Calling h = absurd (false≢true h)
is_it_created Completed h = absurd (false≢true h)
is_it_created Terminated h = absurd (false≢true h)

abbrev pub AllCreated : (ℕ → Own) → List ℕ → Type 0
AllCreated look [] = Unit {0}
AllCreated look (n ∷ ns) = ((look n).status ≡ Created) × AllCreated look ns

all_created : (p : TaskAt Spot → Bool) (m : ℕ) (ts : List (TaskAt Spot)) (look : ℕ → Own) → FoundOwn m ts look → AllCreated look (numbers (λ (t : TaskAt Spot). is_created t.own.status && p t) m ts)
all_created p m [] look f = tt
all_created p m (t ∷ ts) look f = by (is_created t.own.status && p t) refl (all_created p (suc m) ts look f.1)
  where
    by : (b : Bool) → is_created t.own.status && p t ≡ b → AllCreated look (numbers (λ (t : TaskAt Spot). is_created t.own.status && p t) (suc m) ts) → AllCreated look (if b then m ∷ numbers (λ (t : TaskAt Spot). is_created t.own.status && p t) (suc m) ts else numbers (λ (t : TaskAt Spot). is_created t.own.status && p t) (suc m) ts)
    by true e r = (ap (λ (o : Own). o.status) f.0 ∙ is_it_created t.own.status (and_parts (is_created t.own.status) (p t) e).0, r)
    by false e r = r

-- others stay so
created_on : (look after : ℕ → Own) (m : ℕ) (ns : List ℕ) → RiseFrom m ns → ((k : ℕ) → m ≤ k → (look k).status ≡ Created → (after k).status ≡ Created) → AllCreated look ns → AllCreated after ns
created_on look after m [] r same h = tt
created_on look after m (n ∷ ns) r same h =
    let a = r.0 in
    (same n a h.0, created_on look after (suc n) ns r.1 (λ k less. let more : m ≤ k = omega (arith, a, less) in same k more) h.1)

module _ (plan : Plan) (code : Flat) (table : List Counts) (tasks barriers seen : List ℕ) (sound : IsSound code) (fits : IsSeen code table tasks barriers seen) (ways : HasWays code) where
  abbrev pub Kept : All Spot → Type 0
  Kept c = Good plan code table tasks barriers seen sound fits ways c

  -- how the others stand
  pub record Begun (n : ℕ) (c d : All Spot) : Type 0 where
    pub good : Kept d
    pub others : (m : ℕ) → (n ≡ m → ⊥) → own_of m d ≡ own_of m c

  -- a task changes, and then by what it does alone
  pub then_alone : (f : Acting Spot → Acting Spot) (g : TaskAt Spot → TaskAt Spot) (n : ℕ) (c : All Spot) (t : TaskAt Spot) → Kept c → slice_get c.tasks n ≡ Some t → (f (acting (g t) c.shared)).shared.calls ≡ c.shared.calls → (f (acting (g t) c.shared)).shared.objects ≡ c.shared.objects → TaskFramed plan code seen (f (acting (g t) c.shared)).own.status (record { control = (f (acting (g t) c.shared)).control; own = (f (acting (g t) c.shared)).own }) → Follows plan c n t.own (f (acting (g t) c.shared)).own → IsSpot code.lines (f (acting (g t) c.shared)).control → Begun n c (alone f n (on_task n g c))
  then_alone f g n c t w is calls objects framed kept spot =
      subst (λ o. Begun n c (alone_by f o n (on_task n g c))) (sym (task_changed n g c.tasks t is)) (record {
        good = record {
          framed =
              like_framed plan code seen (on_task n put c) (alone_by f (Some (g t)) n (on_task n g c)) (sym (fused n put g c.tasks)) (sym calls) (sym objects)
              (task_framed plan code seen n put c t is framed kept w.framed);
          spots = subst (λ ts. AreSpots code.lines ts) (sym (fused n put g c.tasks)) (spots_at code n put c.tasks (λ x e h. spot) w.spots);
        };
        others = λ m differs. other_own n m put (changed n g c.tasks) differs ∙ other_own n m g c.tasks differs;
      })
    where
      put : TaskAt Spot → TaskAt Spot
      put old = record { control = (f (acting (g t) c.shared)).control; own = (f (acting (g t) c.shared)).own }

  -- A task that is created begins.

  began : (c : All Spot) (n frame : ℕ) (own : Own) (o : Opened) (display : List ℕ) (activator : Option ℕ) → own.status ≡ Created → own.opened ≡ [] → o.purpose ≡ for_body → Follows plan c n own (record own { status = Running; activator = activator; display = display; opened = o ∷ own.opened })
  began c n frame own o display activator created nothing body = record {
    live = λ h. ap is_over created;
    waits = λ id live its h. absurd (rest_waits _ own rests h.1);
    serves = λ live s. record {
      opened = subst (λ p. ServesIn plan c n (record o { purpose = p } ∷ own.opened)) (sym body) (tt, s.opened);
      calls = subst (λ p. AreApart (with_restarted own.restart (calls_in (record o { purpose = p } ∷ own.opened)))) (sym body) s.calls;
      objects = subst (λ p. AreApart (with_served own.serving (objects_in (record o { purpose = p } ∷ own.opened)))) (sym body) s.objects;
      serving = λ x e. ((s.serving x e).0, inl refl);
      again = λ x e. absurd (subst (λ os. RequeueFits plan c x os) nothing (s.again x e).0);
      restart = λ x e.
          let y = s.restart x e in
          record { served = y.served; form = y.form; entry = y.entry; outside = ap (λ p. objects_in (record o { purpose = p } ∷ own.opened)) body ∙ y.outside; apart = (y.apart.0, λ q. absurd cc) };
      withdraw = λ x e. let h = (s.withdraw x e).0 in absurd (rest_waits h.0 own rests h.1);
    };
    abnormal = λ h. h;
  }
    where
      rests : Rests own.status
      rests = subst (λ s. Rests s) (sym created) tt

  begins_good : HasLevels plan code tasks seen → (activator n : ℕ) (c : All Spot) → Kept c → (own_of n c).status ≡ Created → Begun n c (effect.begins (orders plan code table tasks barriers seen sound fits ways) plan (flat_controls plan code).barrier activator n c)
  begins_good levels activator n c w created = there (got_there n c.tasks (λ e. let wrong : Created ≡ Terminated = sym created ∙ e in absurd cc))
    where
      g : TaskAt Spot → TaskAt Spot
      g u = record u { own = record u.own { status = Running; activator = Some activator } }

      by_own : Own → All Spot
      by_own own = effect.opens_for (orders plan code table tasks barriers seen sound fits ways) plan (flat_controls plan code).barrier for_body own.unit (unit_of plan own.unit).at own.display (pos n ∷ []) n (on_task n g c)

      there : (t : TaskAt Spot) × (slice_get c.tasks n ≡ Some t) → Begun n c (by_own (own_of n c))
      there x = subst (λ own. Begun n c (by_own own)) (sym own_is) (begun_by h)
        where
          t : TaskAt Spot
          t = x.0

          own_is : own_of n c ≡ x.0.own
          own_is = own_got n c.tasks x.0 x.1

          is_created_now : x.0.own.status ≡ Created
          is_created_now = ap (λ (o : Own). o.status) (sym own_is) ∙ created

          h : IsCreated plan code seen x.0
          h = subst (λ st. TaskFramed plan code seen st x.0) is_created_now (framed_at plan code seen n c.tasks x.0 x.1 w.framed.tasks)

          o : Opened
          o = record { frame = length c.shared.frames; region = (unit_of plan x.0.own.unit).region; elaborated = 1; handling = None; saved = x.0.own.display; at = (unit_of plan x.0.own.unit).at; purpose = for_body }

          begun_by : IsCreated plan code seen x.0 → Begun n c (by_own x.0.own)
          begun_by h =
              then_alone (λ a. effects.opens for_body (unit_of plan x.0.own.unit).region (unit_of plan x.0.own.unit).at x.0.own.display (pos n ∷ []) 1 a) g n c x.0 w x.1 refl refl
              (subst (λ p. StandsAt code.lines seen p x.0.control (x.0.own.display ++ length c.shared.frames ∷ []) (o ∷ x.0.own.opened)) (sym h.none)
              (subst (λ os. StandsAt code.lines seen None x.0.control (x.0.own.display ++ length c.shared.frames ∷ []) (o ∷ os)) (sym h.opened)
              (subst (λ s. StandsAt code.lines seen None s (x.0.own.display ++ length c.shared.frames ∷ []) (o ∷ [])) (sym h.place)
              (begins_framed code table tasks barriers seen sound fits x.0.own.unit (unit_of plan x.0.own.unit).level (x.0.own.display ++ length c.shared.frames ∷ []) o (levels.bodies x.0.own.unit) (one_longer x.0.own.display (length c.shared.frames) ∙ ap suc h.display) refl))))
              (began c n (length c.shared.frames) x.0.own o (x.0.own.display ++ length c.shared.frames ∷ []) (Some activator) is_created_now h.opened refl)
              (spot_of code.lines n c.tasks x.0 x.1 w.spots)

  begin_all_good : HasLevels plan code tasks seen → (activator m : ℕ) (ns : List ℕ) (c : All Spot) → Kept c → RiseFrom m ns → AllCreated (λ i. own_of i c) ns → Kept (effect.begin_all (orders plan code table tasks barriers seen sound fits ways) plan (flat_controls plan code).barrier activator ns c)
  begin_all_good levels activator m [] c w r h = w
  begin_all_good levels activator m (n ∷ ns) c w r h =
      let d : All Spot = effect.begins (orders plan code table tasks barriers seen sound fits ways) plan (flat_controls plan code).barrier activator n c in
      let once : Begun n c d = begins_good levels activator n c w h.0 in
      begin_all_good levels activator (suc n) ns d once.good r.1
      (created_on (λ i. own_of i c) (λ i. own_of i d) (suc n) ns r.1 (λ k less e. ap (λ (x : Own). x.status) (once.others k (λ q. absurd (omega (arith, q, less)))) ∙ e) h.1)

  -- Its activator waits.

  activating : (c : All Spot) (n : ℕ) (own : Own) (at : Pos) → own.status ≡ Running → own.again ≡ None → own.serving ≡ None → Follows plan c n own (record (blocks Activating at no_waits own) { failed = false })
  activating c n own at running still free = record {
    live = λ h. ap is_over running;
    waits = λ id live its h. (h.0, waits_on _ h.1);
    serves = λ live s. record {
      opened = s.opened;
      calls = s.calls;
      objects = s.objects;
      serving = λ x e. let wrong : None ≡ Some x = sym free ∙ e in absurd cc;
      again = λ x e. let wrong : None ≡ Some x = sym still ∙ e in absurd cc;
      restart = λ x e. let y = s.restart x e in record { served = y.served; form = y.form; entry = y.entry; outside = y.outside; apart = (y.apart.0, λ q. absurd cc) };
      withdraw = λ o e. let h = s.withdraw o e in ((h.0.0, waits_on h.0.0 h.0.1), h.1);
    };
    abnormal = λ h. h;
  }
    where
      waits_on : (o : Owner) → Waits o own → Waits o (record (blocks Activating at no_waits own) { failed = false })
      waits_on o (inl h) = let wrong : Running ≡ Calling = sym running ∙ h in absurd cc
      waits_on o (inr h) = inr (inr refl, h.1)

  -- a step of which one part follows, with no frame
  pub goes_on_good : (part n : ℕ) (c : All Spot) (t : TaskAt Spot) → Kept c → slice_get c.tasks n ≡ Some t → t.own.status ≡ Running → t.own.pending ≡ None → t.own.again ≡ None → DoesPlain (end_at code t.control.place).last → Kept (on_control n ((orders plan code table tasks barriers seen sound fits ways).takes part) c)
  goes_on_good part n c t w is running none still plain =
      let s : StandsAtStep code seen t.control.place (end_at code t.control.place) t.control.returns t.own.display t.own.opened = at_step plan code seen n c t w.spots is running none w.framed in
      task_good plan code table tasks barriers seen sound fits ways n (λ u. record u { control = (orders plan code table tasks barriers seen sound fits ways).takes part u.control }) c t is
      (subst (λ st. TaskFramed plan code seen st (record t { control = (orders plan code table tasks barriers seen sound fits ways).takes part t.control })) (sym running)
      (subst (λ p. StandsAt code.lines seen p ((orders plan code table tasks barriers seen sound fits ways).takes part t.control) t.own.display t.own.opened) (sym none)
      (part_goes code table tasks barriers seen sound fits ways t.control.place t.control.returns t.own.display t.own.opened (end_at code t.control.place) s part plain)))
      (follows plan c n t.own t.own refl (λ r e. let wrong : None ≡ Some r = sym still ∙ e in absurd cc) (like_frames plan c n t.own.opened))
      (λ u h. moved_kept code sound plan (takes_part part here) u.control h) w

  pub activates_good : HasLevels plan code tasks seen → (at : Pos) (n : ℕ) (c : All Spot) (t : TaskAt Spot) → Kept c → slice_get c.tasks n ≡ Some t → t.own.status ≡ Running → t.own.pending ≡ None → t.own.again ≡ None → t.own.serving ≡ None → (end_at code t.control.place).last ≡ Does Activate → Kept (effect.activates (orders plan code table tasks barriers seen sound fits ways) plan (flat_controls plan code).barrier at n (effect.not_activated (orders plan code table tasks barriers seen sound fits ways) plan (flat_controls plan code).barrier (innermost (own_of n c).opened) c) c)
  activates_good levels at n c t w is running none still free line =
      by (effect.not_activated (orders plan code table tasks barriers seen sound fits ways) plan (flat_controls plan code).barrier (innermost (own_of n c).opened) c)
      (rises (λ (u : TaskAt Spot). is_created u.own.status && nat_eq u.own.part (innermost (own_of n c).opened)) 0 c.tasks)
      (all_created (λ (u : TaskAt Spot). nat_eq u.own.part (innermost (own_of n c).opened)) 0 c.tasks (λ i. own_of i c) (owns_found c.tasks))
    where
      s : StandsAtStep code seen t.control.place (end_at code t.control.place) t.control.returns t.own.display t.own.opened
      s = at_step plan code seen n c t w.spots is running none w.framed

      waiting : TaskAt Spot → TaskAt Spot
      waiting u = record u { own = record (blocks Activating at no_waits u.own) { failed = false } }

      waits : Kept (on_task n waiting c)
      waits =
          task_good plan code table tasks barriers seen sound fits ways n waiting c t is
          (subst (λ p. StandsAt code.lines seen p t.control t.own.display t.own.opened) (sym none) s.stands, none, subst (λ x. Found x (λ l. l.last ≡ Does Activate)) (sym s.is) line)
          (activating c n t.own at running still free) (λ u h. h) w

      others : (k : ℕ) → (own_of k c).status ≡ Created → n ≡ k → ⊥
      others k e q =
          let wrong : Running ≡ Created = sym running ∙ (ap (λ (o : Own). o.status) (sym (own_got n c.tasks t is)) ∙ (ap (λ i. (own_of i c).status) q ∙ e)) in absurd cc

      by : (ns : List ℕ) → RiseFrom 0 ns → AllCreated (λ i. own_of i c) ns → Kept (effect.activates (orders plan code table tasks barriers seen sound fits ways) plan (flat_controls plan code).barrier at n ns c)
      by [] r h = goes_on_good 0 n c t w is running none still (Activate, (line, tt))
      by (m ∷ ms) r h =
          begin_all_good levels n 0 (m ∷ ms) (on_task n waiting c) waits r
          (created_on (λ i. own_of i c) (λ i. own_of i (on_task n waiting c)) 0 (m ∷ ms) r (λ k less e. ap (λ (x : Own). x.status) (other_own n k waiting c.tasks (others k e)) ∙ e) h)
