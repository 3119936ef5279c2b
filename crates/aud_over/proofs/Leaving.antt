-- Frames that are left, and that are opened.
use Rattle.std.proofs.Common.{◌≡◌, ℕ, zero, suc, List, [], ◌∷◌, ◌++◌, length, slice_get, Option, Some, None, Bool, true, false, refl, sym, ap, ◌∙◌, subst, arith, inl, inr, length-append}
use Rattle.std.specs.Prelude.{◌⊎◌, if◌then◌else◌}
use Rattle.aud_meaning.specs.declared.state.Status.{Status}
use Rattle.aud_meaning.specs.Configuration.{Purpose, for_body, for_block, for_loop, for_procedure, for_operation, for_entry, for_accept, Opened, Own, Object, TaskAt, All, Acting}
use Rattle.aud_meaning.specs.Control.{Moved}
use Rattle.aud_meaning.specs.Effects.{closed_by, closed, out_of_loops_by, out_of_loops, out_of, is_loop}
use Rattle.aud_meaning.specs.Parts.{owns, acting, put_back, alone_by, alone, on_own, is_created, is_terminated, is_master}
use Rattle.aud_over.specs.Standing.{AreKept, IsPinned, LastIsMaster, around, at, Bone, bones, IsFrame, outermost, IsHeld, MaySee, EachIs, Sees, GoesBack, AreStacked, IsEmpty, StandsBut, LeavesNoMaster}
use Rattle.aud_over.proofs.Calls.{true_is_not_false}
use Rattle.aud_over.proofs.Bones.{each_map, sees_map, OneOther, held_frame, Lessens, tame_same, tame_lessens, lessened, opened}
use Rattle.aud_over.proofs.Holding.{Holds, own_at, one_changed, got_own, own_changed}

module _ (pins : List ℕ) where
  -- From what is seen and open, frames are left for which this holds by whether they are a master's, up to so many, and then this is
  -- seen and open.
  abbrev pub Left : (Bool → Type 0) → ℕ → List ℕ → List Bone → List ℕ → List Bone → Type 0
  Left ok zero ds cs es bs = (es ≡ ds) × (bs ≡ cs)
  Left ok (suc k) ds [] es bs = (es ≡ ds) × (bs ≡ [])
  Left ok (suc k) ds (c ∷ cs) es bs = ok c.master × Left ok k c.saved cs es bs

  -- of no master, or of any
  abbrev pub NoMaster : Bool → Type 0
  NoMaster b = b ≡ false

  abbrev pub AnyMaster : Bool → Type 0
  AnyMaster b = Unit {0}

  pub left_frame : (ok : Bool → Type 0) (k : ℕ) (ds : List ℕ) (cs : List Bone) (es : List ℕ) (bs : List Bone) → Left ok k ds cs es bs → (f : ℕ) → IsFrame f bs → IsFrame f cs
  left_frame ok zero ds cs es bs h f g = subst (IsFrame f) h.1 g
  left_frame ok (suc k) ds [] es bs h f g = subst (IsFrame f) h.1 g
  left_frame ok (suc k) ds (c ∷ cs) es bs h f g = inr (left_frame ok k c.saved cs es bs h.1 f g)

  left_held : (k : ℕ) (ds : List ℕ) (cs : List Bone) (es : List ℕ) (bs : List Bone) → Left NoMaster k ds cs es bs → (ms : List ℕ) (f : ℕ) → IsHeld ms f cs → IsHeld ms f bs
  left_held zero ds cs es bs h ms f g = subst (IsHeld ms f) (sym h.1) g
  left_held (suc k) ds [] es bs h ms f g = absurd g
  left_held (suc k) ds (c ∷ cs) es bs h ms f (inl g) = true_is_not_false (sym g.0 ∙ h.0)
  left_held (suc k) ds (c ∷ cs) es bs h ms f (inr g) = left_held k c.saved cs es bs h.1 ms f g

  left_sees : (ok : Bool → Type 0) (k : ℕ) (ds : List ℕ) (cs : List Bone) (es : List ℕ) (bs : List Bone) → Left ok k ds cs es bs → (p : ℕ → Type 0) → Sees p ds cs → Sees p es bs
  left_sees ok zero ds cs es bs h p g = subst (λ xs. Sees p xs bs) (sym h.0) (subst (Sees p ds) (sym h.1) g)
  left_sees ok (suc k) ds [] es bs h p g = subst (λ xs. Sees p xs bs) (sym h.0) (subst (Sees p ds) (sym h.1) g)
  left_sees ok (suc k) ds (c ∷ cs) es bs h p g = left_sees ok k c.saved cs es bs h.1 p g.1

  left_back : (ok : Bool → Type 0) (k : ℕ) (ds : List ℕ) (cs : List Bone) (es : List ℕ) (bs : List Bone) → Left ok k ds cs es bs → AreStacked cs → AreStacked bs
  left_back ok zero ds cs es bs h g = subst AreStacked (sym h.1) g
  left_back ok (suc k) ds [] es bs h g = subst AreStacked (sym h.1) g
  left_back ok (suc k) ds (c ∷ cs) es bs h g = left_back ok k c.saved cs es bs h.1 g.1

  left_last : (ok : Bool → Type 0) (k : ℕ) (ds : List ℕ) (cs : List Bone) (es : List ℕ) (bs : List Bone) → Left ok k ds cs es bs → (bs ≡ []) ⊎ ((outermost bs ≡ outermost cs) × (LastIsMaster bs → LastIsMaster cs))
  left_last ok zero ds cs es bs h = inr (ap outermost h.1, λ g. subst LastIsMaster h.1 g)
  left_last ok (suc k) ds [] es bs h = inl h.1
  left_last ok (suc k) ds (c ∷ cs) es bs h = by cs (left_last ok k c.saved cs es bs h.1) (left_frame ok k c.saved cs es bs h.1)
    where
      none : (xs : List Bone) → ((f : ℕ) → IsFrame f xs → ⊥) → xs ≡ []
      none [] g = refl
      none (x ∷ xs) g = absurd (g x.frame (inl refl))

      by : (xs : List Bone) → (bs ≡ []) ⊎ ((outermost bs ≡ outermost xs) × (LastIsMaster bs → LastIsMaster xs)) → ((f : ℕ) → IsFrame f bs → IsFrame f xs) → (bs ≡ []) ⊎ ((outermost bs ≡ outermost (c ∷ xs)) × (LastIsMaster bs → LastIsMaster (c ∷ xs)))
      by xs (inl e) fewer = inl e
      by [] (inr e) fewer = inl (none bs fewer)
      by (x ∷ xs) (inr e) fewer = inr e

  left_empty : (ok : Bool → Type 0) (k : ℕ) (ds : List ℕ) (cs : List Bone) (es : List ℕ) (bs : List Bone) → Left ok k ds cs es bs → ds ≡ [] → cs ≡ [] → (es ≡ []) × (bs ≡ [])
  left_empty ok zero ds cs es bs h d c = (h.0 ∙ d, h.1 ∙ c)
  left_empty ok (suc k) ds [] es bs h d c = (h.0 ∙ d, h.1)
  left_empty ok (suc k) ds (x ∷ cs) es bs h d c = absurd (subst (IsFrame x.frame) c (inl refl))

  -- its status is the same, or another one that is neither created nor terminated
  abbrev pub IsStatus : Status → Status → Type 0
  IsStatus old new = (new ≡ old) ⊎ ((is_created new ≡ false) × (is_terminated new ≡ false))

  module _ (ends : List ℕ → Bool) (n : ℕ) (x : Own) (os xs : List Own) (objects : List Object) (frames : ℕ) (one : OneOther n x os xs) where
    pub left_by_holds : (ok : Bool → Type 0) (k : ℕ) → Left ok k (at os n).display (bones (at os n).opened) x.display (bones x.opened) → ((ms : List ℕ) (f : ℕ) → IsHeld ms f (bones (at os n).opened) → IsPinned objects f ⊎ IsHeld ms f (bones x.opened)) → x.masters ≡ (at os n).masters → IsStatus (at os n).status x.status → StandsBut ends os objects frames → StandsBut ends xs objects frames
    left_by_holds ok k l hold same status s = lessened ends os xs objects frames (λ m. less_at m (one m)) (λ m e. sees_at m (one m) e) s
      where
        ds : List ℕ
        ds = (at os n).display

        cs : List Bone
        cs = bones (at os n).opened

        ended : IsStatus (at os n).status x.status → (is_terminated (at os n).status ≡ true → IsEmpty (at os n)) → is_terminated x.status ≡ true → IsEmpty x
        ended (inl z) h e = let g = h (subst (λ w. is_terminated w ≡ true) z e) in let r = left_empty ok k (at os n).display (bones (at os n).opened) x.display (bones x.opened) l g.display g.opened in record { display = r.0; opened = r.1 }
        ended (inr z) h e = true_is_not_false (sym e ∙ z.1)

        created : IsStatus (at os n).status x.status → (is_created (at os n).status ≡ true → bones (at os n).opened ≡ []) → is_created x.status ≡ true → bones x.opened ≡ []
        created (inl z) h e = none (bones x.opened) (λ f g. subst (IsFrame f) (h (subst (λ w. is_created w ≡ true) z e)) (left_frame ok k (at os n).display (bones (at os n).opened) x.display (bones x.opened) l f g))
          where
            none : (ys : List Bone) → ((f : ℕ) → IsFrame f ys → ⊥) → ys ≡ []
            none [] g = refl
            none (y ∷ ys) g = absurd (g y.frame (inl refl))
        created (inr z) h e = true_is_not_false (sym e ∙ z.0)

        less : Lessens (at os n) x
        less = record {
          masters = same;
          fewer = left_frame ok k (at os n).display (bones (at os n).opened) x.display (bones x.opened) l;
          last = left_last ok k (at os n).display (bones (at os n).opened) x.display (bones x.opened) l;
          ended = ended status;
          created = created status;
          back = left_back ok k (at os n).display (bones (at os n).opened) x.display (bones x.opened) l;
        }

        less_at : (m : ℕ) → (at xs m ≡ at os m) ⊎ ((m ≡ n) × (at xs m ≡ x)) → Lessens (at os m) (at xs m)
        less_at m (inl e) = subst (Lessens (at os m)) (sym e) (tame_lessens (at os m) (at os m) (tame_same (at os m)))
        less_at m (inr e) = subst (Lessens (at os m)) (sym e.1) (subst (λ j. Lessens (at os j) x) (sym e.0) less)

        held_at : (ms : List ℕ) (f j : ℕ) → IsHeld ms f (bones (at os j).opened) → (at xs j ≡ at os j) ⊎ ((j ≡ n) × (at xs j ≡ x)) → IsPinned objects f ⊎ IsHeld ms f (bones (at xs j).opened)
        held_at ms f j h (inl z) = inr (subst (λ o. IsHeld ms f (bones o.opened)) (sym z) h)
        held_at ms f j h (inr z) = by (hold ms f (subst (λ i. IsHeld ms f (bones (at os i).opened)) z.0 h))
          where
            by : IsPinned objects f ⊎ IsHeld ms f (bones x.opened) → IsPinned objects f ⊎ IsHeld ms f (bones (at xs j).opened)
            by (inl e) = inl e
            by (inr e) = inr (subst (λ o. IsHeld ms f (bones o.opened)) (sym z.1) e)

        held : (ms : List ℕ) (f : ℕ) → MaySee os objects ms f → MaySee xs objects ms f
        held ms f (inl h) = inl h
        held ms f (inr h) = by (held_at ms f h.0 h.1 (one h.0))
          where
            by : IsPinned objects f ⊎ IsHeld ms f (bones (at xs h.0).opened) → MaySee xs objects ms f
            by (inl e) = inl e
            by (inr e) = inr (h.0, e)

        sees_at : (m : ℕ) → (at xs m ≡ at os m) ⊎ ((m ≡ n) × (at xs m ≡ x)) → ends (at xs m).masters ≡ false → Sees (MaySee xs objects (at xs m).masters) (at xs m).display (bones (at xs m).opened)
        sees_at m (inl z) e =
            let ms = (at os m).masters in
            subst (λ o. Sees (MaySee xs objects o.masters) o.display (bones o.opened)) (sym z)
            (sees_map (MaySee os objects ms) (MaySee xs objects ms) (at os m).display (bones (at os m).opened) (held ms) (s.sees m (subst (λ o. ends o.masters ≡ false) z e)))
        sees_at m (inr z) e =
            let ms = (at os n).masters in
            let e' : ends ms ≡ false = subst (λ ys. ends ys ≡ false) same (subst (λ o. ends o.masters ≡ false) z.1 e) in
            subst (λ o. Sees (MaySee xs objects o.masters) o.display (bones o.opened)) (sym z.1)
            (subst (λ ys. Sees (MaySee xs objects ys) x.display (bones x.opened)) (sym same)
            (sees_map (MaySee os objects ms) (MaySee xs objects ms) x.display (bones x.opened) (held ms)
            (left_sees ok k (at os n).display (bones (at os n).opened) x.display (bones x.opened) l (MaySee os objects ms) (s.sees n e'))))

    -- no master's
    pub left_holds : (k : ℕ) → Left NoMaster k (at os n).display (bones (at os n).opened) x.display (bones x.opened) → x.masters ≡ (at os n).masters → IsStatus (at os n).status x.status → StandsBut ends os objects frames → StandsBut ends xs objects frames
    left_holds k l same status s = left_by_holds NoMaster k l (λ ms f h. inr (left_held k (at os n).display (bones (at os n).opened) x.display (bones x.opened) l ms f h)) same status s

    -- such as are kept
    pub kept_holds : (k : ℕ) → Left AnyMaster k (at os n).display (bones (at os n).opened) x.display (bones x.opened) → ((f : ℕ) → IsFrame f (bones (at os n).opened) → IsPinned objects f) → x.masters ≡ (at os n).masters → IsStatus (at os n).status x.status → StandsBut ends os objects frames → StandsBut ends xs objects frames
    kept_holds k l kept same status s = left_by_holds AnyMaster k l (λ ms f h. inl (kept f (held_frame ms f (bones (at os n).opened) h))) same status s

  -- What leaves frames.

  pub record LeftBy (ok : Bool → Type 0) (o x : Own) : Type 0 where
    pub count : ℕ
    pub left : Left ok count o.display (bones o.opened) x.display (bones x.opened)
    pub masters : x.masters ≡ o.masters
    pub status : x.status ≡ o.status

  abbrev pub LeftAs : Own → Own → Type 0
  LeftAs o x = LeftBy NoMaster o x

  abbrev pub LeftKept : Own → Own → Type 0
  LeftKept o x = LeftBy AnyMaster o x

  no_loop_master : (o : Opened) → is_loop o.purpose ≡ true → is_master o ≡ false
  no_loop_master o h = by o.purpose h
    where
      by : (q : Purpose) → is_loop q ≡ true → is_master (record o { purpose = q }) ≡ false
      by for_body e = sym e
      by for_block e = sym e
      by for_loop e = refl
      by (for_procedure r) e = sym e
      by (for_operation n r) e = refl
      by (for_entry n i s b) e = refl
      by (for_accept i) e = refl

  loops_left : (ps : List Opened) (o : Own) → o.opened ≡ ps → LeftAs o (out_of_loops_by ps o)
  loops_left [] o is = record { count = 0; left = (refl, refl); masters = refl; status = refl }
  loops_left (q ∷ ps) o is = by (is_loop q.purpose) refl (loops_left ps (record o { display = q.saved; opened = ps }) refl)
    where
      inner : Own
      inner = record o { display = q.saved; opened = ps }

      by : (b : Bool) → is_loop q.purpose ≡ b → LeftAs (record o { display = q.saved; opened = ps }) (out_of_loops_by ps (record o { display = q.saved; opened = ps })) → LeftAs o (if b then out_of_loops_by ps (record o { display = q.saved; opened = ps }) else o)
      by true e r = record {
        count = suc r.count;
        left = subst (λ ys. Left NoMaster (suc r.count) o.display (bones ys) (out_of_loops_by ps (record o { display = q.saved; opened = ps })).display (bones (out_of_loops_by ps (record o { display = q.saved; opened = ps })).opened)) (sym is) (no_loop_master q e, r.left);
        masters = r.masters;
        status = r.status;
      }
      by false e r = record { count = 0; left = (refl, refl); masters = refl; status = refl }

  pub out_left : (o : Own) → LeftAs o (out_of_loops o)
  out_left o = loops_left o.opened o refl

  closed_masters : (os : List Opened) (o : Own) → (closed_by os o).masters ≡ o.masters
  closed_masters [] o = refl
  closed_masters (x ∷ xs) o = refl

  closed_status : (os : List Opened) (o : Own) → (closed_by os o).status ≡ o.status
  closed_status [] o = refl
  closed_status (x ∷ xs) o = refl

  out_of_masters : (k : ℕ) (o : Own) → (out_of k o).masters ≡ o.masters
  out_of_masters zero o = refl
  out_of_masters (suc k) o = out_of_masters k (closed o) ∙ closed_masters o.opened o

  out_of_status : (k : ℕ) (o : Own) → (out_of k o).status ≡ o.status
  out_of_status zero o = refl
  out_of_status (suc k) o = out_of_status k (closed o) ∙ closed_status o.opened o

  out_nothing : (k : ℕ) (o : Own) → o.opened ≡ [] → ((out_of k o).display ≡ o.display) × (bones (out_of k o).opened ≡ [])
  out_nothing zero o e = (refl, ap bones e)
  out_nothing (suc k) o e =
      let same : closed o ≡ o = ap (λ os. closed_by os o) e in
      let r = out_nothing k (closed o) (ap (λ (x : Own). x.opened) same ∙ e) in
      (r.0 ∙ ap (λ (x : Own). x.display) same, r.1)

  -- so many innermost frames
  abbrev pub First : (Bool → Type 0) → ℕ → List Bone → Type 0
  First ok zero bs = Unit {0}
  First ok (suc n) [] = Unit {0}
  First ok (suc n) (b ∷ bs) = ok b.master × First ok n bs

  first_no_master : (k : ℕ) (bs : List Bone) → LeavesNoMaster k bs → First NoMaster k bs
  first_no_master zero bs h = tt
  first_no_master (suc k) [] h = tt
  first_no_master (suc k) (b ∷ bs) h = (h.0, first_no_master k bs h.1)

  first_any : (k : ℕ) (bs : List Bone) → First AnyMaster k bs
  first_any zero bs = tt
  first_any (suc k) [] = tt
  first_any (suc k) (b ∷ bs) = (tt, first_any k bs)

  out_of_by : (ok : Bool → Type 0) (k : ℕ) (os : List Opened) (o : Own) → o.opened ≡ os → First ok k (bones os) → Left ok k o.display (bones os) (out_of k o).display (bones (out_of k o).opened)
  out_of_by ok zero os o e h = (refl, ap bones e)
  out_of_by ok (suc k) [] o e h = out_nothing (suc k) o e
  out_of_by ok (suc k) (q ∷ os) o e h =
      let same : closed o ≡ record o { display = q.saved; opened = os } = ap (λ ys. closed_by ys o) e in
      (h.0, subst (λ (x : Own). Left ok k q.saved (bones os) (out_of k x).display (bones (out_of k x).opened)) (sym same) (out_of_by ok k os (record o { display = q.saved; opened = os }) refl h.1))

  pub out_of_left : (k : ℕ) (o : Own) → LeavesNoMaster k (bones o.opened) → LeftAs o (out_of k o)
  out_of_left k o h = record { count = k; left = out_of_by NoMaster k o.opened o refl (first_no_master k (bones o.opened) h); masters = out_of_masters k o; status = out_of_status k o }

  pub out_of_any : (k : ℕ) (o : Own) → LeftKept o (out_of k o)
  out_of_any k o = record { count = k; left = out_of_by AnyMaster k o.opened o refl (first_any k (bones o.opened)); masters = out_of_masters k o; status = out_of_status k o }

  pub own_left : (ends : List ℕ → Bool) (n : ℕ) (f : Own → Own) (c : All Moved) → LeftAs (own_at pins c n) (f (own_at pins c n)) → Holds pins ends c → Holds pins ends (on_own n f c)
  own_left ends n f c l s =
      left_holds ends n (f (own_at pins c n)) (owns c.tasks) (owns (on_own n f c).tasks) (around pins c.shared.objects) (length c.shared.frames) (own_changed pins n f c) l.count l.left l.masters (inl l.status) s

  -- frames that are kept, or none of them a master's
  pub own_left_or_kept : (ends : List ℕ → Bool) (n : ℕ) (f : Own → Own) (c : All Moved) → LeftAs (own_at pins c n) (f (own_at pins c n)) ⊎ (LeftKept (own_at pins c n) (f (own_at pins c n)) × AreKept (IsPinned (around pins c.shared.objects)) (own_at pins c n)) → Holds pins ends c → Holds pins ends (on_own n f c)
  own_left_or_kept ends n f c (inl l) s = own_left ends n f c l s
  own_left_or_kept ends n f c (inr l) s =
      kept_holds ends n (f (own_at pins c n)) (owns c.tasks) (owns (on_own n f c).tasks) (around pins c.shared.objects) (length c.shared.frames) (own_changed pins n f c) l.0.count l.0.left l.1 l.0.masters (inl l.0.status) s

  -- A frame is opened.

  put_own : (n : ℕ) (v : Acting Moved) (c : All Moved) → OneOther n v.own (owns c.tasks) (owns (put_back n v c).tasks)
  put_own n v c = one_changed pins c.tasks n (λ old. record { control = v.control; own = v.own }) v.own (λ t e. refl)

  -- alone, in each case
  pub alone_cases : (P : All Moved → Type 0) (f : Acting Moved → Acting Moved) (n : ℕ) (c : All Moved) → P c → ((t : TaskAt Moved) → own_at pins c n ≡ t.own → P (put_back n (f (acting t c.shared)) c)) → P (alone f n c)
  alone_cases P f n c none some = by (slice_get c.tasks n) refl
    where
      by : (o : Option (TaskAt Moved)) → slice_get c.tasks n ≡ o → P (alone_by f o n c)
      by None e = none
      by (Some t) e = some t (got_own pins c.tasks n t e)

  -- what a step does to its own task, and to the frames
  pub record Opens (objects : List Object) (os : List Own) (frames : ℕ) (o : Own) (v : Acting Moved) : Type 0 where
    pub bone : Bone
    pub display : List ℕ
    pub new : bone.frame ≡ frames
    pub saved : bone.saved ≡ o.display
    pub goes_back : GoesBack bone.back
    pub now : bones v.own.opened ≡ bone ∷ bones o.opened
    pub seen : v.own.display ≡ (display ++ frames ∷ [])
    pub masters : v.own.masters ≡ o.masters
    pub alive : is_terminated v.own.status ≡ false
    pub begun : is_created v.own.status ≡ false
    pub may : EachIs (λ f. IsFrame f (bones o.opened) ⊎ MaySee os (around pins objects) o.masters f) display
    pub objects_are : v.shared.objects ≡ objects
    pub more : length v.shared.frames ≡ suc frames

  pub put_opens : (ends : List ℕ → Bool) (n : ℕ) (v : Acting Moved) (c : All Moved) → Opens c.shared.objects (owns c.tasks) (length c.shared.frames) (own_at pins c n) v → Holds pins ends c → Holds pins ends (put_back n v c)
  put_opens ends n v c o s =
      subst (λ k. StandsBut ends (owns (put_back n v c).tasks) (around pins v.shared.objects) k) (sym o.more)
      (subst (λ objects. StandsBut ends (owns (put_back n v c).tasks) (around pins objects) (suc (length c.shared.frames))) (sym o.objects_are)
      (opened ends ends n v.own (owns c.tasks) (owns (put_back n v c).tasks) (around pins c.shared.objects) (length c.shared.frames) (put_own n v c) o.bone o.display o.new o.saved ((o.goes_back, λ f h. absurd h), tt) o.now o.seen o.masters o.alive o.begun o.may s))

  -- nothing is opened, and frames are left
  pub put_left : (ends : List ℕ → Bool) (n : ℕ) (v : Acting Moved) (c : All Moved) → LeftAs (own_at pins c n) v.own → v.shared.objects ≡ c.shared.objects → length v.shared.frames ≡ length c.shared.frames → Holds pins ends c → Holds pins ends (put_back n v c)
  put_left ends n v c l same many s =
      subst (λ k. StandsBut ends (owns (put_back n v c).tasks) (around pins v.shared.objects) k) (sym many)
      (subst (λ objects. StandsBut ends (owns (put_back n v c).tasks) (around pins objects) (length c.shared.frames)) (sym same)
      (left_holds ends n v.own (owns c.tasks) (owns (put_back n v c).tasks) (around pins c.shared.objects) (length c.shared.frames) (put_own n v c) l.count l.left l.masters (inl l.status) s))

  pub put_kept : (ends : List ℕ → Bool) (n : ℕ) (v : Acting Moved) (c : All Moved) → LeftKept (own_at pins c n) v.own → AreKept (IsPinned (around pins c.shared.objects)) (own_at pins c n) → v.shared.objects ≡ c.shared.objects → length v.shared.frames ≡ length c.shared.frames → Holds pins ends c → Holds pins ends (put_back n v c)
  put_kept ends n v c l kept same many s =
      subst (λ k. StandsBut ends (owns (put_back n v c).tasks) (around pins v.shared.objects) k) (sym many)
      (subst (λ objects. StandsBut ends (owns (put_back n v c).tasks) (around pins objects) (length c.shared.frames)) (sym same)
      (kept_holds ends n v.own (owns c.tasks) (owns (put_back n v c).tasks) (around pins c.shared.objects) (length c.shared.frames) (put_own n v c) l.count l.left kept l.masters (inl l.status) s))

  -- what is seen now may be seen from a new frame
  pub seen_may : (p : ℕ → Type 0) (ds : List ℕ) (bs : List Bone) → Sees p ds bs → EachIs (λ f. IsFrame f bs ⊎ p f) ds
  seen_may p ds [] h = each_map p (λ f. IsFrame f [] ⊎ p f) ds (λ f g. inr g) h
  seen_may p ds (b ∷ bs) h = h.0

  abbrev one_longer : {A : Type 0} → A → List A → List A
  one_longer x xs = xs ++ x ∷ []

  pub longer : {A : Type 0} (x : A) (xs : List A) → length (xs ++ x ∷ []) ≡ suc (length xs)
  longer x xs = simp length-append (omega arith)
