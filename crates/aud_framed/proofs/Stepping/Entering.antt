-- Bodies of operations and entries that are entered.
use Rattle.std.proofs.Common.{◌≡◌, ◌⊎◌, ◌<◌, ℕ, zero, suc, List, [], ◌∷◌, ◌++◌, length, Option, Some, None, Bool, true, false, refl, sym, ap, ◌∙◌, subst, inl, inr, if◌then◌else◌, slice_get, arith}
use Rattle.std.proofs.lemmas.Bool.{eq-eqb}
use Rattle.std.specs.Prelude.{◌&&◌, ◌||◌, nat_eq, not}
use Rattle.aud_text.specs.declared.place.Pos.{Pos}
use Rattle.aud_text.specs.declared.raise.Raise.TheVariants.{Program, Storage}
use Rattle.aud_typed.specs.declared.program.Exception.TheVariants.{Predefined}
use Rattle.aud_typed.specs.declared.program.Variable.{Variable}
use Rattle.aud_typed.specs.Tree.{Plan}
use Rattle.aud_meaning.specs.declared.state.Action.{Action}
use Rattle.aud_meaning.specs.declared.state.CallState.TheVariants.{Selected}
use Rattle.aud_meaning.specs.declared.state.Owner.{Owner}
use Rattle.aud_meaning.specs.declared.state.Owner.TheVariants as owner
use Rattle.aud_meaning.specs.declared.state.Resumed.{Resumed}
use Rattle.aud_meaning.specs.declared.state.Status.TheVariants.{Running, Calling}
use Rattle.aud_meaning.specs.Configuration.{for_entry, for_operation, Opened, Own, Object, Call, Returning, Target, TaskAt, All, Acting}
use Rattle.aud_meaning.specs.Control.{enters_body, here}
use Rattle.aud_meaning.specs.Effects.{has_room, opens}
use Rattle.aud_meaning.specs.Evaluation.{Passed}
use Rattle.aud_meaning.specs.Parts.{acting, acts_on, alone, alone_by, any, begin_action, call_of, changed, contains, entry_plan, in_the_way, is_over, object_of, on_call, on_control, on_task, own_of, put_back, unit_of}
use Rattle.aud_meaning.specs.Tasks as effect
use Rattle.aud_meaning.proofs.Open.Tasks.{call_at}
use Rattle.aud_code.specs.Places.{Spot}
use Rattle.aud_code.specs.Flat.{Does, Flat, end_at, flat_controls, start_at}
use Rattle.aud_code.specs.Instruction.{Operation}
use Rattle.aud_code.specs.Seen.{IsSeen}
use Rattle.aud_code.specs.Sound.{Counts, IsSound, IsStatement}
use Rattle.aud_code.specs.Starts.{IsSpot}
use Rattle.aud_code.proofs.Starts.{moved_kept}
use Rattle.aud_framed.specs.Held.{GoesBack, StandsAt}
use Rattle.aud_framed.specs.Waiting.{TaskFramed}
use Rattle.aud_framed.specs.Calls.{AreApart, CallsOn, IsServed, ServesIn, Waits, calls_in, changes, objects_in, with_restarted, with_served}
use Rattle.aud_framed.specs.Framed.{HasLevels}
use Rattle.aud_framed.specs.Ways.{StandsAtStep}
use Rattle.aud_framed.specs.Stepping.{HasWays}
use Rattle.aud_framed.proofs.Bodies.{enters_framed, serves_framed}
use Rattle.aud_framed.proofs.Stepping.Actions.{action_begun, object_at}
use Rattle.aud_framed.proofs.Stepping.Blocks.{raised_good}
use Rattle.aud_framed.proofs.Stepping.Ending.{Good}
use Rattle.aud_framed.proofs.Stepping.Going.{one_longer}
use Rattle.aud_framed.proofs.Stepping.Holding.{not_inside}
use Rattle.aud_framed.proofs.Stepping.Leaving.{got_changed}
use Rattle.aud_framed.proofs.Stepping.Lone.{at_step, spot_of}
use Rattle.aud_framed.proofs.Stepping.Parts.{Follows, framed_at, like_framed, own_got}
use Rattle.aud_framed.proofs.Stepping.Refusing.{orders}
use Rattle.aud_framed.proofs.Stepping.Serving.{inner_apart}
use Rattle.aud_framed.proofs.Stepping.Tasks.{fused, task_good}

-- A task that does something by itself behind a change.
pub alone_after : (f : Acting Spot → Acting Spot) (n : ℕ) (g : TaskAt Spot → TaskAt Spot) (c : All Spot) (t : TaskAt Spot) → slice_get c.tasks n ≡ Some t → alone f n (on_task n g c) ≡ put_back n (f (acting (g t) c.shared)) c
alone_after f n g c t is =
    let u : Acting Spot = f (acting (g t) c.shared) in
    ap (λ o. alone_by f o n (on_task n g c)) (got_changed n g c.tasks t is)
    ∙ ap (λ ts. record c { tasks = ts; shared = u.shared }) (fused n (λ (old : TaskAt Spot). record { control = u.control; own = u.own }) g c.tasks)

-- What an action that has begun tells.

any_last : (p : Action → Bool) (xs : List Action) (a : Action) → p a ≡ true → any p (xs ++ a ∷ []) ≡ true
any_last p [] a h = ap (λ b. b || false) h
any_last p (x ∷ xs) a h = by (p x) (any_last p xs a h)
  where
    by : (b : Bool) → any p (xs ++ a ∷ []) ≡ true → b || any p (xs ++ a ∷ []) ≡ true
    by true k = refl
    by false k = k

pub changed_there : (P : Object → Type 0) (n : ℕ) (f : Object → Object) (os : List Object) → n < length os → ((o : Object) → P (f o)) → P (object_at n (changed n f os))
changed_there P n f [] less h = absurd (omega (arith, less))
changed_there P zero f (o ∷ os) less h = h o
changed_there P (suc n) f (o ∷ os) less h = let fewer : n < length os = omega (arith, less) in changed_there P n f os fewer h

pub begun_acts : (n object : ℕ) (reading : Bool) (c : All Spot) → object < length c.shared.objects → acts_on n (object_of object (begin_action n object reading c)) ≡ true
begun_acts n object reading c less =
    changed_there (λ o. acts_on n o ≡ true) object _ c.shared.objects less (λ o. any_last (λ (a : Action). nat_eq a.task n) o.actions (record { task = n; reading = reading }) (eq-eqb n n refl))

pub begun_changes : (plan : Plan) (n object : ℕ) (reading : Bool) (c : All Spot) → object < length c.shared.objects → reading ≡ false → changes plan (begin_action n object reading c) n object ≡ true
begun_changes plan n object reading c less e =
    changed_there (λ o. any (λ (a : Action). nat_eq a.task n && not a.reading) o.actions ≡ true) object _ c.shared.objects less
    (λ o. any_last (λ (a : Action). nat_eq a.task n && not a.reading) o.actions (record { task = n; reading = reading }) (ap (λ b. b && not reading) (eq-eqb n n refl) ∙ ap (λ b. not b) e))

-- A call that is selected already.
pub selected_already : (id : ℕ) (calls : List Call) → (call_at id calls).state ≡ Selected → changed id (λ (a : Call). record a { state = Selected }) calls ≡ calls
selected_already id [] h = refl
selected_already zero (a ∷ more) h = ap (λ s. record a { state = s } ∷ more) (sym h)
selected_already (suc id) (a ∷ more) h = ap (λ cs. a ∷ cs) (selected_already id more h)

module _ (plan : Plan) (code : Flat) (table : List Counts) (tasks barriers seen : List ℕ) (sound : IsSound code) (fits : IsSeen code table tasks barriers seen) (ways : HasWays code) where
  abbrev pub Kept : All Spot → Type 0
  Kept c = Good plan code table tasks barriers seen sound fits ways c

  either_kept : (b : Bool) (x y : All Spot) → (b ≡ true → Kept x) → (b ≡ false → Kept y) → Kept (if b then x else y)
  either_kept true x y h k = h refl
  either_kept false x y h k = k refl

  -- a task and the frames of all that have changed
  pub put_good : (n : ℕ) (u : Acting Spot) (c : All Spot) (t : TaskAt Spot) → Kept c → slice_get c.tasks n ≡ Some t → u.shared.calls ≡ c.shared.calls → u.shared.objects ≡ c.shared.objects → TaskFramed plan code seen u.own.status (record { control = u.control; own = u.own }) → Follows plan c n t.own u.own → IsSpot code.lines u.control → Kept (put_back n u c)
  put_good n u c t w is calls objects framed follows spot =
      let d : All Spot = on_task n (λ old. record { control = u.control; own = u.own }) c in
      let good : Kept d = task_good plan code table tasks barriers seen sound fits ways n (λ old. record { control = u.control; own = u.own }) c t is framed follows (λ x h. spot) w in
      record { framed = like_framed plan code seen d (put_back n u c) refl (sym calls) (sym objects) good.framed; spots = good.spots }

  entered_spot : (unit : ℕ) (n : ℕ) (c : All Spot) (t : TaskAt Spot) → Kept c → slice_get c.tasks n ≡ Some t → IsSpot code.lines ((orders plan code table tasks barriers seen sound fits ways).enters unit t.control)
  entered_spot unit n c t w is = moved_kept code sound plan (enters_body unit here) t.control (spot_of code.lines n c.tasks t is w.spots)

  -- An operation.

  module _ (levels : HasLevels plan code tasks seen) (at : Pos) (object unit : ℕ) (p : Passed) (into : Option Target) (v : Variable) (n : ℕ) (c : All Spot) (t : TaskAt Spot) (w : Kept c) (is : slice_get c.tasks n ≡ Some t) (running : t.own.status ≡ Running) (none : t.own.pending ≡ None) (still : t.own.again ≡ None) (unserving : t.own.serving ≡ None) (unmade : t.own.restart ≡ None) (line : (end_at code t.control.place).last ≡ Does (Operation v unit)) (there : object < length c.shared.objects) (level : (unit_of plan unit).level ≡ length (object_of object c).display) (free : in_the_way n (unit_of plan unit).is_function (object_of object c) ≡ false) where
    abbrev r : Returning
    r = record { is_function = (unit_of plan unit).is_function; backs = p.backs; into = into; value = None }

    abbrev o : Opened
    o = record { frame = length c.shared.frames; region = (unit_of plan unit).region; elaborated = length p.values; handling = None; saved = t.own.display; at = at; purpose = for_operation object r }

    abbrev more : List ℕ
    more = (object_of object c).display ++ length c.shared.frames ∷ []

    abbrev acted : All Spot
    acted = begin_action n object (unit_of plan unit).is_function c

    abbrev new : Own
    new = record t.own { display = more; opened = o ∷ t.own.opened }

    acted_good : acts_on n (object_of object c) ≡ false → Kept acted
    acted_good alone = record { framed = action_begun plan code seen n object (unit_of plan unit).is_function c free (λ e. alone) w.framed; spots = w.spots }

    s : StandsAtStep code seen t.control.place (end_at code t.control.place) t.control.returns t.own.display t.own.opened
    s = at_step plan code seen n c t w.spots is running none w.framed

    framed : TaskFramed plan code seen t.own.status (record { control = record { place = start_at code unit; returns = t.control.place ∷ t.control.returns }; own = new })
    framed =
        subst (λ st. TaskFramed plan code seen st (record { control = record { place = start_at code unit; returns = t.control.place ∷ t.control.returns }; own = new })) (sym running)
        (subst (λ q. StandsAt code.lines seen q (record { place = start_at code unit; returns = t.control.place ∷ t.control.returns }) more (o ∷ t.own.opened)) (sym none)
        (enters_framed code table tasks barriers seen sound fits t.control.place (unit_of plan unit).level unit t.control.returns t.own.display more o t.own.opened (end_at code t.control.place) s
        (subst (λ l. IsStatement l) (sym line) tt) (levels.bodies unit) (one_longer (object_of object c).display (length c.shared.frames) ∙ ap suc (sym level)) tt refl))

    inside_not : acts_on n (object_of object c) ≡ false → contains object (objects_in t.own.opened) ≡ false
    inside_not alone =
        let alive : is_over (own_of n c).status ≡ false = ap (λ (x : Own). is_over x.status) (own_got n c.tasks t is) ∙ ap is_over running in
        not_inside plan c n object t.own.opened alone (subst (λ (x : Own). ServesIn plan c n x.opened) (own_got n c.tasks t is) (w.framed.serves n alive).opened)

    goes : acts_on n (object_of object c) ≡ false → Follows plan acted n t.own new
    goes alone = record {
      live = λ h. ap is_over running;
      waits = λ id live mine h. (h.0, waits_still _ h.1);
      serves = λ live x. record {
        opened = ((begun_acts n object (unit_of plan unit).is_function c there, begun_changes plan n object (unit_of plan unit).is_function c there), x.opened);
        calls = x.calls;
        objects = subst (λ q. AreApart (with_served q (object ∷ objects_in t.own.opened))) (sym unserving) (inside_not alone, inner_apart t.own.serving (objects_in t.own.opened) x.objects);
        serving = λ y e. let wrong : None ≡ Some y = sym unserving ∙ e in absurd cc;
        again = λ y e. let wrong : None ≡ Some y = sym still ∙ e in absurd cc;
        restart = λ y e. let wrong : None ≡ Some y = sym unmade ∙ e in absurd cc;
        withdraw = λ y e. let h = x.withdraw y e in ((h.0.0, waits_still h.0.0 h.0.1), h.1);
      };
      abnormal = λ h. h;
    }
      where
        waits_still : (q : Owner) → Waits q t.own → Waits q new
        waits_still q (inl h) = inl h
        waits_still q (inr h) = inr h

    begun : acts_on n (object_of object c) ≡ false → Kept (begin_action n object (unit_of plan unit).is_function (effect.opens_for (orders plan code table tasks barriers seen sound fits ways) plan (flat_controls plan code).barrier (for_operation object r) unit at (object_of object c).display p.values n (on_control n ((orders plan code table tasks barriers seen sound fits ways).enters unit) c)))
    begun alone_on =
        let f : Acting Spot → Acting Spot = (λ (x : Acting Spot). opens (for_operation object r) (unit_of plan unit).region at (object_of object c).display p.values (length p.values) x) in
        let g : TaskAt Spot → TaskAt Spot = (λ (x : TaskAt Spot). record x { control = (orders plan code table tasks barriers seen sound fits ways).enters unit x.control }) in
        subst (λ d. Kept (begin_action n object (unit_of plan unit).is_function d)) (sym (alone_after f n g c t is))
        (put_good n (f (acting (g t) acted.shared)) acted t (acted_good alone_on) is refl refl framed (goes alone_on) (entered_spot unit n c t w is))

    pub operation_begun : Kept (effect.calls_operation (orders plan code table tasks barriers seen sound fits ways) plan (flat_controls plan code).barrier at object unit p into n c)
    operation_begun =
        either_kept (acts_on n (object_of object c)) _ _ (λ e. raised_good plan code table tasks barriers seen sound fits ways (Predefined Program) at n c t w is running none still (Operation v unit, line))
        (λ alone. either_kept (has_room (own_of n c)) _ _ (λ e. begun alone) (λ e. raised_good plan code table tasks barriers seen sound fits ways (Predefined Storage) at n c t w is running none still (Operation v unit, line)))

  -- An entry's body.

  module _ (levels : HasLevels plan code tasks seen) (served : Bool) (at : Pos) (object id n : ℕ) (c : All Spot) (t : TaskAt Spot) (w : Kept (on_call id (λ (a : Call). record a { state = Selected }) c)) (is : slice_get c.tasks n ≡ Some t) (may : (t.own.status ≡ Running) ⊎ ((t.own.status ≡ Calling) × CallsOn plan (on_call id (λ (a : Call). record a { state = Selected }) c) n object)) (unmade : t.own.restart ≡ None) (still : t.own.again ≡ None) (acts : changes plan c n object ≡ true) (outside : contains object (objects_in t.own.opened) ≡ false) (unserved : contains id (calls_in t.own.opened) ≡ false) (its : IsServed plan (on_call id (λ (a : Call). record a { state = Selected }) c) id (owner.Object object)) (level : (unit_of plan (entry_plan plan (call_of id c).entry).unit).level ≡ length (object_of object c).display) where
    abbrev chosen : All Spot
    chosen = on_call id (λ (a : Call). record a { state = Selected }) c

    abbrev entry_unit : ℕ
    entry_unit = (entry_plan plan (call_of id c).entry).unit

    abbrev back : Resumed
    back = record { status = (own_of n c).status; pending = (own_of n c).pending }

    abbrev body : Opened
    body = record { frame = length c.shared.frames; region = (unit_of plan entry_unit).region; elaborated = length (call_of id c).values; handling = None; saved = t.own.display; at = at; purpose = for_entry object id served back }

    abbrev seen_there : List ℕ
    seen_there = (object_of object c).display ++ length c.shared.frames ∷ []

    abbrev doing : Own
    doing = record t.own { status = Running; pending = None; serving = None; display = seen_there; opened = body ∷ t.own.opened }

    own_is : own_of n c ≡ t.own
    own_is = own_got n c.tasks t is

    stands_still : StandsAt code.lines seen t.own.pending t.control t.own.display t.own.opened
    stands_still = by may
      where
        by : (t.own.status ≡ Running) ⊎ ((t.own.status ≡ Calling) × CallsOn plan (on_call id (λ (a : Call). record a { state = Selected }) c) n object) → StandsAt code.lines seen t.own.pending t.control t.own.display t.own.opened
        by (inl e) = subst (λ st. TaskFramed plan code seen st t) e (framed_at plan code seen n c.tasks t is w.framed.tasks)
        by (inr h) = calling (subst (λ st. TaskFramed plan code seen st t) h.0 (framed_at plan code seen n c.tasks t is w.framed.tasks))
          where
            calling : TaskFramed plan code seen Calling t → StandsAt code.lines seen t.own.pending t.control t.own.display t.own.opened
            calling k = k.0

    goes_back : GoesBack code.lines (record { status = t.own.status; pending = t.own.pending }) (t.control.place ∷ t.control.returns)
    goes_back = by may
      where
        by : (t.own.status ≡ Running) ⊎ ((t.own.status ≡ Calling) × CallsOn plan (on_call id (λ (a : Call). record a { state = Selected }) c) n object) → GoesBack code.lines (record { status = t.own.status; pending = t.own.pending }) (t.control.place ∷ t.control.returns)
        by (inl e) = inl e
        by (inr h) = calling (subst (λ st. TaskFramed plan code seen st t) h.0 (framed_at plan code seen n c.tasks t is w.framed.tasks))
          where
            calling : TaskFramed plan code seen Calling t → GoesBack code.lines (record { status = t.own.status; pending = t.own.pending }) (t.control.place ∷ t.control.returns)
            calling k = inr (h.0, k.1, k.2)

    body_framed : StandsAt code.lines seen None (record { place = start_at code entry_unit; returns = t.control.place ∷ t.control.returns }) seen_there (body ∷ t.own.opened)
    body_framed =
        serves_framed code table tasks barriers seen sound fits t.control.place (unit_of plan entry_unit).level entry_unit object id served back t.control.returns t.own.display seen_there body t.own.opened
        (subst (λ (x : Own). StandsAt code.lines seen x.pending t.control t.own.display t.own.opened) (sym own_is) stands_still)
        (subst (λ (x : Own). GoesBack code.lines (record { status = x.status; pending = x.pending }) (t.control.place ∷ t.control.returns)) (sym own_is) goes_back)
        (levels.bodies entry_unit) (one_longer (object_of object c).display (length c.shared.frames) ∙ ap suc (sym level)) refl refl

    alive : is_over t.own.status ≡ false
    alive = by may
      where
        by : (t.own.status ≡ Running) ⊎ ((t.own.status ≡ Calling) × CallsOn plan (on_call id (λ (a : Call). record a { state = Selected }) c) n object) → is_over t.own.status ≡ false
        by (inl e) = ap is_over e
        by (inr h) = ap is_over h.0

    calls_back : (own_of n c).status ≡ Calling → CallsOn plan (on_call id (λ (a : Call). record a { state = Selected }) c) n object
    calls_back e = by may
      where
        by : (t.own.status ≡ Running) ⊎ ((t.own.status ≡ Calling) × CallsOn plan (on_call id (λ (a : Call). record a { state = Selected }) c) n object) → CallsOn plan (on_call id (λ (a : Call). record a { state = Selected }) c) n object
        by (inl q) = let wrong : Running ≡ Calling = sym q ∙ (ap (λ (x : Own). x.status) (sym own_is) ∙ e) in absurd cc
        by (inr h) = h.1

    waits_within : (q : Owner) → (t.own.status ≡ Calling → q ≡ owner.Object object) → Waits q t.own → Waits q doing
    waits_within q same (inl h) = inr (inl refl, inl (same h, ap (λ (x : Own). x.status) own_is ∙ h))
    waits_within q same (inr h) = inr (inl refl, inr h.1)

    some_waits : (q : Owner) → Waits q t.own → (p : Owner) × Waits p doing
    some_waits q (inl h) = (owner.Object object, inr (inl refl, inl (refl, ap (λ (x : Own). x.status) own_is ∙ h)))
    some_waits q (inr h) = (q, inr (inl refl, inr h.1))

    body_goes : Follows plan (on_call id (λ (a : Call). record a { state = Selected }) c) n t.own doing
    body_goes = record {
      live = λ h. alive;
      waits = λ i live mine h. (h.0, waits_within (call_of i chosen).owner (λ e. calls_back (ap (λ (x : Own). x.status) own_is ∙ e) i live mine) h.1);
      serves = λ live x. record {
        opened = ((its, (acts, calls_back)), x.opened);
        calls = subst (λ q. AreApart (with_restarted q (id ∷ calls_in t.own.opened))) (sym unmade) (unserved, subst (λ q. AreApart (with_restarted q (calls_in t.own.opened))) unmade x.calls);
        objects = (outside, inner_apart t.own.serving (objects_in t.own.opened) x.objects);
        serving = λ y e. absurd cc;
        again = λ y e. let wrong : None ≡ Some y = sym still ∙ e in absurd cc;
        restart = λ y e. let wrong : None ≡ Some y = sym unmade ∙ e in absurd cc;
        withdraw = λ y e. let h = x.withdraw y e in (some_waits h.0.0 h.0.1, h.1);
      };
      abnormal = λ h. h;
    }

    pub entry_entered : Kept (effect.enters_entry (orders plan code table tasks barriers seen sound fits ways) plan (flat_controls plan code).barrier served at object id n c)
    entry_entered =
        let f : Acting Spot → Acting Spot = (λ (x : Acting Spot). opens (for_entry object id served back) (unit_of plan entry_unit).region at (object_of object c).display (call_of id c).values (length (call_of id c).values) x) in
        let g : TaskAt Spot → TaskAt Spot = (λ (x : TaskAt Spot). record { control = (orders plan code table tasks barriers seen sound fits ways).enters entry_unit x.control; own = record x.own { status = Running; pending = None; serving = None } }) in
        subst (λ d. Kept (on_call id (λ (a : Call). record a { state = Selected }) d)) (sym (alone_after f n g c t is))
        (put_good n (f (acting (g t) chosen.shared)) chosen t w is refl refl body_framed body_goes (entered_spot entry_unit n chosen t w is))

  -- for a call that is selected already
  pub entry_at_once : HasLevels plan code tasks seen → (served : Bool) (at : Pos) (object id n : ℕ) (c : All Spot) (t : TaskAt Spot) → Kept c → slice_get c.tasks n ≡ Some t → (t.own.status ≡ Running) ⊎ ((t.own.status ≡ Calling) × CallsOn plan c n object) → t.own.restart ≡ None → t.own.again ≡ None → changes plan c n object ≡ true → contains object (objects_in t.own.opened) ≡ false → contains id (calls_in t.own.opened) ≡ false → IsServed plan c id (owner.Object object) → (unit_of plan (entry_plan plan (call_of id c).entry).unit).level ≡ length (object_of object c).display → Kept (effect.enters_entry (orders plan code table tasks barriers seen sound fits ways) plan (flat_controls plan code).barrier served at object id n c)
  entry_at_once levels served at object id n c t w is may unmade still acts outside unserved its level =
      let same : c.shared.calls ≡ changed id (λ (a : Call). record a { state = Selected }) c.shared.calls = sym (selected_already id c.shared.calls its.0) in
      entry_entered levels served at object id n c t (subst (λ cs. Kept (record c { shared = record c.shared { calls = cs } })) same w) is
      (subst (λ cs. (t.own.status ≡ Running) ⊎ ((t.own.status ≡ Calling) × CallsOn plan (record c { shared = record c.shared { calls = cs } }) n object)) same may) unmade still acts outside unserved
      (subst (λ cs. IsServed plan (record c { shared = record c.shared { calls = cs } }) id (owner.Object object)) same its) level
