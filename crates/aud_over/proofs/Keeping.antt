-- Each kind of step keeps those frames open that are seen.
use Rattle.std.proofs.Common.{◌≡◌, ℕ, zero, suc, ℤ, List, [], ◌∷◌, ◌++◌, length, slice_index_or, Option, Some, None, Bool, true, false, ◌||◌, refl, sym, ap, ◌∙◌, subst, inl, inr}
use Rattle.std.specs.Prelude.{◌⊎◌, if◌then◌else◌, take, nat_eq, nat_le, nat_lt, int_le, slice_set, Result, ◌+ℤ◌}
use Rattle.std.proofs.Math.ListN.{length-set}
use Rattle.std.proofs.lemmas.Bool.{eq-eqb}
use Rattle.aud_text.specs.declared.place.Pos.{Pos}
use Rattle.aud_text.specs.declared.raise.Raise.{Raise}
use Rattle.aud_text.specs.declared.raise.Raise.TheVariants.{Storage}
use Rattle.aud_text.specs.declared.limits.TheConstants.{OUTPUT}
use Rattle.aud_typed.specs.declared.program.Exception.{Exception}
use Rattle.aud_typed.specs.declared.program.Exception.TheVariants.{Predefined}
use Rattle.aud_typed.specs.Tree.{Plan, For}
use Rattle.aud_meaning.specs.Orders.{noted}
use Rattle.aud_meaning.specs.declared.state.Pending.{Pending}
use Rattle.aud_meaning.specs.Configuration.{Frame, Target, Purpose, for_body, for_block, for_loop, for_procedure, for_operation, for_entry, for_accept, Opened, Own, Object, TaskAt, All, Acting}
use Rattle.aud_meaning.specs.Evaluation.{Sight}
use Rattle.aud_meaning.specs.Control.{Moved, takes_part}
use Rattle.aud_meaning.specs.Effects as own
use Rattle.aud_meaning.specs.Effects.{opens, declares, innermost, assigned, closed, changed_first, sets_value, with_value_in, is_inner}
use Rattle.aud_meaning.specs.Step as step
use Rattle.aud_meaning.specs.Step.{for_first, for_step, has_next}
use Rattle.aud_meaning.specs.Parts.{any, acting, put_back, alone, contains, is_created, is_terminated, no_object, object_of, owns}
use Rattle.aud_over.specs.Over.{object_names}
use Rattle.aud_over.specs.Standing.{AreKept, IsPinned, around, at, bone, bones, back_of, Contains, IsFrame, MaySee, EachIs, GoesBack, LeavesNoMaster}
use Rattle.aud_over.proofs.Calls.{true_is_not_false}
use Rattle.aud_over.proofs.Bones.{or_any}
use Rattle.aud_over.proofs.Taming.{IsTame, stands_tamed}
use Rattle.aud_over.proofs.Holding.{Holds, own_at, bones_at}
use Rattle.aud_over.proofs.Leaving.{LeftBy, LeftKept, NoMaster, AnyMaster, out_of_any, put_kept, Left, LeftAs, out_left, out_of_left, alone_cases, Opens, put_opens, put_left, seen_may, longer}
use Rattle.aud_meaning.specs.declared.state.Again.{Again}

module _ (pins : List ℕ) where
  abbrev pub none : List ℕ → Bool
  none masters = false

  abbrev pub Held : All Moved → Type 0
  Held c = Holds pins none c

  -- it is neither created nor terminated
  abbrev pub IsLive : ℕ → All Moved → Type 0
  IsLive n c = (is_terminated (own_at pins c n).status ≡ false) × (is_created (own_at pins c n).status ≡ false)

  pub held_tame : (c d : All Moved) → IsTame c d → Held c → Held d
  held_tame c d t s = stands_tamed pins none c d t s

  -- The task by itself, with no frame opened or left.

  pub record Still (u v : Acting Moved) : Type 0 where
    pub masters : v.own.masters ≡ u.own.masters
    pub display : v.own.display ≡ u.own.display
    pub opened : bones v.own.opened ≡ bones u.own.opened
    pub status : v.own.status ≡ u.own.status
    pub objects : v.shared.objects ≡ u.shared.objects
    pub frames : length v.shared.frames ≡ length u.shared.frames

  pub put_still : (n : ℕ) (c : All Moved) (t : TaskAt Moved) (v : Acting Moved) → own_at pins c n ≡ t.own → Still (acting t c.shared) v → Held c → Held (put_back n v c)
  put_still n c t v e h s =
      put_left pins none n v c
      (subst (λ o. LeftAs pins o v.own) (sym e) (record { count = 0; left = (h.display, h.opened); masters = h.masters; status = h.status }))
      h.objects h.frames s

  pub alone_still : (f : Acting Moved → Acting Moved) (n : ℕ) (c : All Moved) → ((u : Acting Moved) → Still u (f u)) → Held c → Held (alone f n c)
  alone_still f n c h s = alone_cases pins Held f n c s (λ t e. put_still n c t (f (acting t c.shared)) e (h (acting t c.shared)) s)

  bones_first : (f : Opened → Opened) (os : List Opened) → ((o : Opened) → bone (f o) ≡ bone o) → bones (changed_first f os) ≡ bones os
  bones_first f [] h = refl
  bones_first f (o ∷ os) h = ap (λ b. b ∷ bones os) (h o)

  same_bone : (z : ℤ) (o : Opened) → bone (record o { purpose = with_value_in z o.purpose }) ≡ bone o
  same_bone z o = by o.purpose
    where
      by : (q : Purpose) → bone (record o { purpose = with_value_in z q }) ≡ bone (record o { purpose = q })
      by for_body = refl
      by for_block = refl
      by for_loop = refl
      by (for_procedure r) = refl
      by (for_operation n r) = refl
      by (for_entry n i s b) = refl
      by (for_accept i) = refl

  bones_value : (z : ℤ) (os : List Opened) → bones (sets_value z os) ≡ bones os
  bones_value z [] = refl
  bones_value z (o ∷ os) = by (is_inner o.purpose) (bones_value z os)
    where
      by : (b : Bool) → bones (sets_value z os) ≡ bones os → bones (if b then o ∷ sets_value z os else record o { purpose = with_value_in z o.purpose } ∷ os) ≡ bones (o ∷ os)
      by true e = ap (λ bs. bone o ∷ bs) e
      by false e = ap (λ b. b ∷ bones os) (same_bone z o)

  pub declares_still : (cells : List ℤ) (u : Acting Moved) → Still u (declares cells u)
  declares_still cells u = record {
    masters = refl;
    display = refl;
    opened = bones_first (λ o. record o { elaborated = suc o.elaborated }) u.own.opened (λ o. refl);
    status = refl;
    objects = refl;
    frames = length-set u.shared.frames (innermost u.own.opened) (slice_index_or u.shared.frames (innermost u.own.opened) [] ++ cells);
  }

  control_still : (f : Moved → Moved) (u v : Acting Moved) → Still u v → Still u (record v { control = f v.control })
  control_still f u v s = record { masters = s.masters; display = s.display; opened = s.opened; status = s.status; objects = s.objects; frames = s.frames }

  frames_still : (fs : List Frame) (u : Acting Moved) → length fs ≡ length u.shared.frames → Still u (record u { shared = record u.shared { frames = fs } })
  frames_still fs u e = record { masters = refl; display = refl; opened = refl; status = refl; objects = refl; frames = e }

  same_still : (u : Acting Moved) → Still u u
  same_still u = record { masters = refl; display = refl; opened = refl; status = refl; objects = refl; frames = refl }

  pub raises_still : (x : Exception) (at : Pos) (u : Acting Moved) → Still u (own.raises x at u)
  raises_still x at u = record { masters = refl; display = refl; opened = refl; status = refl; objects = refl; frames = refl }

  -- A frame is opened.

  opens_own : (purpose : Purpose) (region : ℕ) (at : Pos) (display : List ℕ) (cells : List ℤ) (elaborated : ℕ) (c : All Moved) (n : ℕ) (u : Acting Moved) → own_at pins c n ≡ u.own → u.shared.objects ≡ c.shared.objects → length u.shared.frames ≡ length c.shared.frames → GoesBack (back_of purpose) → (is_terminated u.own.status ≡ false) × (is_created u.own.status ≡ false) → EachIs (λ f. IsFrame f (bones_at pins c n) ⊎ MaySee (owns c.tasks) (around pins c.shared.objects) (own_at pins c n).masters f) display → Opens pins c.shared.objects (owns c.tasks) (length c.shared.frames) (own_at pins c n) (opens purpose region at display cells elaborated u)
  opens_own purpose region at display cells elaborated c n u e same many back live may = record {
    bone = bone (record { frame = length u.shared.frames; region = region; elaborated = elaborated; handling = None; saved = u.own.display; at = at; purpose = purpose });
    display = display;
    new = many;
    saved = ap (λ (o : Own). o.display) (sym e);
    goes_back = back;
    now = ap (λ (o : Own). bone (record { frame = length u.shared.frames; region = region; elaborated = elaborated; handling = None; saved = u.own.display; at = at; purpose = purpose }) ∷ bones o.opened) (sym e);
    seen = ap (λ k. display ++ k ∷ []) many;
    masters = ap (λ (o : Own). o.masters) (sym e);
    alive = live.0;
    begun = live.1;
    may = may;
    objects_are = same;
    more = longer pins cells u.shared.frames ∙ ap suc many;
  }

  -- its display may be seen
  pub sees_its : (c : All Moved) (n : ℕ) → Held c → EachIs (λ f. IsFrame f (bones_at pins c n) ⊎ MaySee (owns c.tasks) (around pins c.shared.objects) (own_at pins c n).masters f) (own_at pins c n).display
  sees_its c n s = seen_may pins (MaySee (owns c.tasks) (around pins c.shared.objects) (own_at pins c n).masters) (own_at pins c n).display (bones_at pins c n) (s.sees n refl)

  pub each_front : (p : ℕ → Type 0) (k : ℕ) (ns : List ℕ) → EachIs p ns → EachIs p (take k ns)
  each_front p zero ns h = tt
  each_front p (suc k) [] h = tt
  each_front p (suc k) (n ∷ ns) h = (h.0, each_front p k ns h.1)

  -- what an object's bodies see is pinned
  pinned_each : (ds : List ℕ) (p : ℕ → Type 0) → ((f : ℕ) → Contains f ds → p f) → EachIs p ds
  pinned_each [] p h = tt
  pinned_each (d ∷ ds) p h = (h d (or_first (nat_eq d d) (contains d ds) (eq-eqb d d refl)), pinned_each ds p (λ f g. h f (or_second (nat_eq f d) (contains f ds) g)))
    where
      or_first : (x y : Bool) → x ≡ true → (x || y) ≡ true
      or_first true y g = refl
      or_first false y g = true_is_not_false (sym g)

      or_second : (x y : Bool) → y ≡ true → (x || y) ≡ true
      or_second true y g = refl
      or_second false y g = g

  object_pins : (os : List Object) (n f : ℕ) → Contains f (slice_index_or os n no_object).display → any (object_names f) os ≡ true
  object_pins [] n f h = true_is_not_false (sym h)
  object_pins (o ∷ os) zero f h = by (contains f o.display) h
    where
      by : (b : Bool) → b ≡ true → (b || any (object_names f) os) ≡ true
      by true g = refl
      by false g = true_is_not_false (sym g)
  object_pins (o ∷ os) (suc n) f h = by (contains f o.display) (object_pins os n f h)
    where
      by : (b : Bool) → any (object_names f) os ≡ true → (b || any (object_names f) os) ≡ true
      by true g = refl
      by false g = g

  pub sees_object : (c : All Moved) (n object : ℕ) → EachIs (λ f. IsFrame f (bones_at pins c n) ⊎ MaySee (owns c.tasks) (around pins c.shared.objects) (own_at pins c n).masters f) (object_of object c).display
  sees_object c n object = pinned_each (object_of object c).display (λ f. IsFrame f (bones_at pins c n) ⊎ MaySee (owns c.tasks) (around pins c.shared.objects) (own_at pins c n).masters f) (λ f h. inr (inl (inr (or_any f c.shared.objects (record no_object { display = pins } ∷ []) (object_pins c.shared.objects object f h)))))

  pub alone_opens : (purpose : Purpose) (region : ℕ) (at : Pos) (display : List ℕ) (cells : List ℤ) (elaborated n : ℕ) (c : All Moved) → GoesBack (back_of purpose) → IsLive n c → EachIs (λ f. IsFrame f (bones_at pins c n) ⊎ MaySee (owns c.tasks) (around pins c.shared.objects) (own_at pins c n).masters f) display → Held c → Held (alone (λ t. opens purpose region at display cells elaborated t) n c)
  alone_opens purpose region at display cells elaborated n c back live may s =
      alone_cases pins Held (λ t. opens purpose region at display cells elaborated t) n c s (λ t e.
      put_opens pins none n (opens purpose region at display cells elaborated (acting t c.shared)) c
      (opens_own purpose region at display cells elaborated c n (acting t c.shared) e refl refl back (subst (λ (o : Own). (is_terminated o.status ≡ false) × (is_created o.status ≡ false)) e live) may) s)

  -- behind what it sees now
  pub alone_opens_here : (purpose : Purpose) (region : ℕ) (at : Pos) (cells : List ℤ) (elaborated n : ℕ) (c : All Moved) → GoesBack (back_of purpose) → IsLive n c → Held c → Held (alone (λ t. opens purpose region at t.own.display cells elaborated t) n c)
  alone_opens_here purpose region at cells elaborated n c back live s =
      alone_cases pins Held (λ t. opens purpose region at t.own.display cells elaborated t) n c s (λ t e.
      put_opens pins none n (opens purpose region at t.own.display cells elaborated (acting t c.shared)) c
      (opens_own purpose region at t.own.display cells elaborated c n (acting t c.shared) e refl refl back (subst (λ (o : Own). (is_terminated o.status ≡ false) × (is_created o.status ≡ false)) e live)
      (subst (λ (o : Own). EachIs (λ f. IsFrame f (bones_at pins c n) ⊎ MaySee (owns c.tasks) (around pins c.shared.objects) (own_at pins c n).masters f) o.display) e (sees_its c n s))) s)

  module _ (plan : Plan) (barrier : ℕ → Sight → Result Bool Raise) where
    -- with room for it, and then it moves on
    room_opens : (purpose : Purpose) (region : ℕ) (at : Pos) (cells : List ℤ) (elaborated part n : ℕ) (c : All Moved) → GoesBack (back_of purpose) → IsLive n c → Held c → Held (alone (λ t. step.if_room noted plan barrier at t (step.moves_on noted plan barrier part (opens purpose region at t.own.display cells elaborated t))) n c)
    room_opens purpose region at cells elaborated part n c back live s =
        alone_cases pins Held (λ t. step.if_room noted plan barrier at t (step.moves_on noted plan barrier part (opens purpose region at t.own.display cells elaborated t))) n c s (λ t e. by t e (own.has_room t.own))
      where
        by : (t : TaskAt Moved) → own_at pins c n ≡ t.own → (b : Bool) → Held (put_back n (if b then step.moves_on noted plan barrier part (opens purpose region at t.own.display cells elaborated (acting t c.shared)) else own.raises (Predefined Storage) at (acting t c.shared)) c)
        by t e true =
            let o = opens_own purpose region at t.own.display cells elaborated c n (acting t c.shared) e refl refl back (subst (λ (o : Own). (is_terminated o.status ≡ false) × (is_created o.status ≡ false)) e live)
            (subst (λ (o : Own). EachIs (λ f. IsFrame f (bones_at pins c n) ⊎ MaySee (owns c.tasks) (around pins c.shared.objects) (own_at pins c n).masters f) o.display) e (sees_its c n s)) in
            put_opens pins none n (step.moves_on noted plan barrier part (opens purpose region at t.own.display cells elaborated (acting t c.shared))) c
            (record { bone = o.bone; display = o.display; new = o.new; saved = o.saved; goes_back = o.goes_back; now = o.now; seen = o.seen; masters = o.masters; alive = o.alive; begun = o.begun; may = o.may; objects_are = o.objects_are; more = o.more }) s
        by t e false = put_still n c t (own.raises (Predefined Storage) at (acting t c.shared)) e (raises_still (Predefined Storage) at (acting t c.shared)) s

    pub block_held : (at : Pos) (region n : ℕ) (c : All Moved) → IsLive n c → Held c → Held (alone (λ t. step.if_room noted plan barrier at t (step.moves_on noted plan barrier 1 (opens for_block region at t.own.display [] 0 t))) n c)
    block_held at region n c live s = room_opens for_block region at [] 0 1 n c tt live s

    pub loop_entered_held : (f : For) (a b : ℤ) (n : ℕ) (c : All Moved) → IsLive n c → Held c → Held (alone (step.loop_entered noted plan barrier f a b) n c)
    loop_entered_held f a b n c live s = by (int_le a b)
      where
        by : (x : Bool) → Held (alone (λ t. if x then step.if_room noted plan barrier f.at t (step.moves_on noted plan barrier 1 (opens for_loop f.region f.at t.own.display (for_first f.backward a b ∷ for_first f.backward b a ∷ []) 1 t)) else step.moves_on noted plan barrier 0 t) n c)
        by true = room_opens for_loop f.region f.at (for_first f.backward a b ∷ for_first f.backward b a ∷ []) 1 1 n c tt live s
        by false = alone_still (step.moves_on noted plan barrier 0) n c (λ u. control_still (takes_part 0) u u (same_still u)) s

    pub loop_continued_held : (f : For) (n : ℕ) (c : All Moved) → LeavesNoMaster 1 (bones_at pins c n) ⊎ AreKept (IsPinned (around pins c.shared.objects)) (own_at pins c n) → Held c → Held (alone (step.loop_continued noted plan barrier f) n c)
    loop_continued_held f n c h s = alone_cases pins Held (step.loop_continued noted plan barrier f) n c s (λ t e.
        let value = step.loop_cell noted plan barrier 0 (acting t c.shared) in
        by t e value (has_next f.backward value (step.loop_cell noted plan barrier 1 (acting t c.shared))))
      where
        by : (t : TaskAt Moved) → own_at pins c n ≡ t.own → (value : ℤ) (b : Bool) → Held (put_back n (if b then step.moves_on noted plan barrier 1 (record (acting t c.shared) { shared = record c.shared { frames = assigned (innermost t.own.opened) 0 (value +ℤ for_step f.backward) c.shared.frames } }) else step.moves_on noted plan barrier 0 (record (acting t c.shared) { own = closed t.own })) c)
        by t e value true =
            let u : Acting Moved = acting t c.shared in
            let fs = assigned (innermost t.own.opened) 0 (value +ℤ for_step f.backward) c.shared.frames in
            put_still n c t (step.moves_on noted plan barrier 1 (record u { shared = record c.shared { frames = fs } })) e
            (control_still (takes_part 1) u (record u { shared = record c.shared { frames = fs } }) (frames_still fs u (length-set c.shared.frames (innermost t.own.opened) (slice_set (slice_index_or c.shared.frames (innermost t.own.opened) []) 0 (value +ℤ for_step f.backward))))) s
        by t e value false = left h
          where
            left : LeavesNoMaster 1 (bones_at pins c n) ⊎ AreKept (IsPinned (around pins c.shared.objects)) (own_at pins c n) → Held (put_back n (step.moves_on noted plan barrier 0 (record (acting t c.shared) { own = closed t.own })) c)
            left (inl g) =
                put_left pins none n (step.moves_on noted plan barrier 0 (record (acting t c.shared) { own = closed t.own })) c
                (subst (λ o. LeftAs pins o (closed t.own)) (sym e) (out_of_left pins 1 t.own (subst (λ (o : Own). LeavesNoMaster 1 (bones o.opened)) e g))) refl refl s
            left (inr g) =
                put_kept pins none n (step.moves_on noted plan barrier 0 (record (acting t c.shared) { own = closed t.own })) c
                (subst (λ o. LeftKept pins o (closed t.own)) (sym e) (out_of_any pins 1 t.own)) g refl refl s

    value_bones : (value : Option ℤ) (u : Acting Moved) → Still u (step.with_function_value noted plan barrier value u)
    value_bones None u = same_still u
    value_bones (Some z) u = record { masters = refl; display = refl; opened = bones_value z u.own.opened; status = refl; objects = refl; frames = refl }

    -- from where the same is seen and open
    from_still : (ok : Bool → Type 0) (u v : Acting Moved) (x : Own) → Still u v → LeftBy pins ok v.own x → LeftBy pins ok u.own x
    from_still ok u v x same l = record {
      count = l.count;
      left = subst (λ ds. Left pins ok l.count ds (bones u.own.opened) x.display (bones x.opened)) same.display (subst (λ bs. Left pins ok l.count v.own.display bs x.display (bones x.opened)) same.opened l.left);
      masters = l.masters ∙ same.masters;
      status = l.status ∙ same.status;
    }

    pub goes_out_held : (loops : ℕ) (value : Option ℤ) (n : ℕ) (c : All Moved) → LeavesNoMaster loops (bones_at pins c n) ⊎ AreKept (IsPinned (around pins c.shared.objects)) (own_at pins c n) → Held c → Held (alone (λ t. step.out_of_loops noted plan barrier loops (step.with_function_value noted plan barrier value t)) n c)
    goes_out_held loops value n c h s = alone_cases pins Held (λ t. step.out_of_loops noted plan barrier loops (step.with_function_value noted plan barrier value t)) n c s (λ t e. by t e h)
      where
        by : (t : TaskAt Moved) → own_at pins c n ≡ t.own → LeavesNoMaster loops (bones_at pins c n) ⊎ AreKept (IsPinned (around pins c.shared.objects)) (own_at pins c n) → Held (put_back n (step.out_of_loops noted plan barrier loops (step.with_function_value noted plan barrier value (acting t c.shared))) c)
        by t e (inl g) =
            let u : Acting Moved = acting t c.shared in
            let v : Acting Moved = step.with_function_value noted plan barrier value u in
            let same : Still u v = value_bones value u in
            put_left pins none n (step.out_of_loops noted plan barrier loops v) c
            (subst (λ o. LeftAs pins o (own.out_of loops v.own)) (sym e)
            (from_still (NoMaster pins) u v (own.out_of loops v.own) same (out_of_left pins loops v.own (subst (LeavesNoMaster loops) (sym same.opened) (subst (λ (o : Own). LeavesNoMaster loops (bones o.opened)) e g)))))
            same.objects same.frames s
        by t e (inr g) =
            let u : Acting Moved = acting t c.shared in
            let v : Acting Moved = step.with_function_value noted plan barrier value u in
            let same : Still u v = value_bones value u in
            put_kept pins none n (step.out_of_loops noted plan barrier loops v) c
            (subst (λ o. LeftKept pins o (own.out_of loops v.own)) (sym e) (from_still (AnyMaster pins) u v (own.out_of loops v.own) same (out_of_any pins loops v.own)))
            g same.objects same.frames s

    requeued_still : (r : Again) (u : Acting Moved) → Still u (step.requeued noted plan barrier r u)
    requeued_still r u = record { masters = refl; display = refl; opened = refl; status = refl; objects = refl; frames = refl }

    pub requeue_held : (loops : ℕ) (r : Again) (n : ℕ) (c : All Moved) → LeavesNoMaster loops (bones_at pins c n) ⊎ AreKept (IsPinned (around pins c.shared.objects)) (own_at pins c n) → Held c → Held (alone (λ t. step.out_of_loops noted plan barrier loops (step.requeued noted plan barrier r t)) n c)
    requeue_held loops r n c h s = alone_cases pins Held (λ t. step.out_of_loops noted plan barrier loops (step.requeued noted plan barrier r t)) n c s (λ t e. by t e h)
      where
        by : (t : TaskAt Moved) → own_at pins c n ≡ t.own → LeavesNoMaster loops (bones_at pins c n) ⊎ AreKept (IsPinned (around pins c.shared.objects)) (own_at pins c n) → Held (put_back n (step.out_of_loops noted plan barrier loops (step.requeued noted plan barrier r (acting t c.shared))) c)
        by t e (inl g) =
            let u : Acting Moved = acting t c.shared in
            let v : Acting Moved = step.requeued noted plan barrier r u in
            let same : Still u v = requeued_still r u in
            put_left pins none n (step.out_of_loops noted plan barrier loops v) c
            (subst (λ o. LeftAs pins o (own.out_of loops v.own)) (sym e)
            (from_still (NoMaster pins) u v (own.out_of loops v.own) same (out_of_left pins loops v.own (subst (λ (o : Own). LeavesNoMaster loops (bones o.opened)) e g))))
            same.objects same.frames s
        by t e (inr g) =
            let u : Acting Moved = acting t c.shared in
            let v : Acting Moved = step.requeued noted plan barrier r u in
            let same : Still u v = requeued_still r u in
            put_kept pins none n (step.out_of_loops noted plan barrier loops v) c
            (subst (λ o. LeftKept pins o (own.out_of loops v.own)) (sym e) (from_still (AnyMaster pins) u v (own.out_of loops v.own) same (out_of_any pins loops v.own)))
            g same.objects same.frames s

    pub variable_held : (up_to : ℕ) (z : ℤ) (n : ℕ) (c : All Moved) → Held c → Held (alone (step.variable_declared noted plan barrier up_to z) n c)
    variable_held up_to z n c s = alone_still (step.variable_declared noted plan barrier up_to z) n c (λ u.
        control_still (takes_part (if nat_lt (own.elaborated_in (declares (z ∷ []) u).own.opened) up_to then 1 else 0)) u (declares (z ∷ []) u) (declares_still (z ∷ []) u)) s

    pub declared_held : (cells : List ℤ) (n : ℕ) (c : All Moved) → Held c → Held (alone (λ t. step.moves_on noted plan barrier 0 (declares cells t)) n c)
    declared_held cells n c s = alone_still (λ t. step.moves_on noted plan barrier 0 (declares cells t)) n c (λ u. control_still (takes_part 0) u (declares cells u) (declares_still cells u)) s

    pub assigns_held : (a : Target) (z : ℤ) (n : ℕ) (c : All Moved) → Held c → Held (alone (λ t. step.moves_on noted plan barrier 0 (step.stored_at noted plan barrier a z t)) n c)
    assigns_held a z n c s = alone_still (λ t. step.moves_on noted plan barrier 0 (step.stored_at noted plan barrier a z t)) n c (λ u.
        let fs = assigned a.frame a.index z u.shared.frames in
        control_still (takes_part 0) u (record u { shared = record u.shared { frames = fs } }) (frames_still fs u (length-set u.shared.frames a.frame (slice_set (slice_index_or u.shared.frames a.frame []) a.index z)))) s

    cut_still : (b : Bool) (text : List ℕ) (u : Acting Moved) → Still u (record u { shared = if b then record u.shared { output = u.shared.output ++ text } else record u.shared { output = take OUTPUT (u.shared.output ++ text); cut = true } })
    cut_still true text u = record { masters = refl; display = refl; opened = refl; status = refl; objects = refl; frames = refl }
    cut_still false text u = record { masters = refl; display = refl; opened = refl; status = refl; objects = refl; frames = refl }

    pub puts_held : (text : List ℕ) (n : ℕ) (c : All Moved) → Held c → Held (alone (λ t. step.moves_on noted plan barrier 0 (own.puts text t)) n c)
    puts_held text n c s = alone_still (λ t. step.moves_on noted plan barrier 0 (own.puts text t)) n c (λ u.
        control_still (takes_part 0) u (own.puts text u) (cut_still (nat_le (length (u.shared.output ++ text)) OUTPUT) text u)) s

  pub handles_left : (x : Pending) (o : Own) → LeftAs pins o (own.handles x o)
  handles_left x o =
      let l : LeftAs pins o (own.out_of_loops o) = out_left pins o in
      record {
        count = l.count;
        left = subst (λ bs. Left pins (NoMaster pins) l.count o.display (bones o.opened) (own.out_of_loops o).display bs) (sym (bones_first (λ f. record f { handling = Some x.exception }) (own.out_of_loops o).opened (λ f. refl))) l.left;
        masters = l.masters;
        status = l.status;
      }
