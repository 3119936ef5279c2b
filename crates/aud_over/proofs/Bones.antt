-- Tasks whose frames are held open as long as they are seen.
use Rattle.std.proofs.Common.{◌≡◌, ◌<◌, ℕ, zero, suc, List, [], ◌∷◌, ◌++◌, Bool, true, false, ◌||◌, refl, sym, ap, ◌∙◌, subst, arith, inl, inr}
use Rattle.std.specs.Prelude.{◌⊎◌}
use Rattle.aud_meaning.specs.Configuration.{Own, Object}
use Rattle.aud_meaning.specs.Parts.{any, nobody, is_created, is_terminated}
use Rattle.aud_over.specs.Over.{object_names}
use Rattle.aud_over.specs.Standing.{at, Bone, bones, Contains, IsFrame, outermost, LastIsMaster, IsHeld, IsPinned, MaySee, EachIs, Sees, AreStacked, IsEmpty, StandsBut}
use Rattle.aud_over.proofs.Calls.{true_is_not_false}

-- Lists.

pub each_map : (p q : ℕ → Type 0) (ns : List ℕ) → ((n : ℕ) → p n → q n) → EachIs p ns → EachIs q ns
each_map p q [] f h = tt
each_map p q (n ∷ ns) f h = (f n h.0, each_map p q ns f h.1)

pub sees_map : (p q : ℕ → Type 0) (ds : List ℕ) (bs : List Bone) → ((n : ℕ) → p n → q n) → Sees p ds bs → Sees q ds bs
sees_map p q ds [] f h = each_map p q ds f h
sees_map p q ds (b ∷ bs) f h = (each_map (λ n. IsFrame n (b ∷ bs) ⊎ p n) (λ n. IsFrame n (b ∷ bs) ⊎ q n) ds (λ n. by n) h.0, sees_map p q b.saved bs f h.1)
  where
    by : (n : ℕ) → (IsFrame n (b ∷ bs) ⊎ p n) → IsFrame n (b ∷ bs) ⊎ q n
    by n (inl x) = inl x
    by n (inr x) = inr (f n x)

-- a frame that is held is one of them, with a master that is one of them
pub held_master : (ms : List ℕ) (f : ℕ) (bs : List Bone) → IsHeld ms f bs → (m : ℕ) × IsFrame m bs × Contains m ms
held_master ms f [] h = absurd h
held_master ms f (b ∷ bs) (inl h) = (b.frame, inl refl, h.1)
held_master ms f (b ∷ bs) (inr h) = let r = held_master ms f bs h in (r.0, inr r.1, r.2)

pub held_frame : (ms : List ℕ) (f : ℕ) (bs : List Bone) → IsHeld ms f bs → IsFrame f bs
held_frame ms f [] h = absurd h
held_frame ms f (b ∷ bs) (inl h) = h.2
held_frame ms f (b ∷ bs) (inr h) = inr (held_frame ms f bs h)

pub held_more : (ms ns : List ℕ) (f : ℕ) (bs : List Bone) → ((m : ℕ) → Contains m ms → Contains m ns) → IsHeld ms f bs → IsHeld ns f bs
held_more ms ns f [] more h = absurd h
held_more ms ns f (b ∷ bs) more (inl h) = inl (h.0, more b.frame h.1, h.2)
held_more ms ns f (b ∷ bs) more (inr h) = inr (held_more ms ns f bs more h)

-- What becomes of a task: it is as it was, or has fewer frames.

pub record Lessens (o x : Own) : Type 0 where
  pub masters : x.masters ≡ o.masters
  pub fewer : (f : ℕ) → IsFrame f (bones x.opened) → IsFrame f (bones o.opened)
  pub last : (bones x.opened ≡ []) ⊎ ((outermost (bones x.opened) ≡ outermost (bones o.opened)) × (LastIsMaster (bones x.opened) → LastIsMaster (bones o.opened)))
  pub ended : (is_terminated o.status ≡ true → IsEmpty o) → is_terminated x.status ≡ true → IsEmpty x
  pub created : (is_created o.status ≡ true → bones o.opened ≡ []) → is_created x.status ≡ true → bones x.opened ≡ []
  pub back : AreStacked (bones o.opened) → AreStacked (bones x.opened)

-- nothing of this has changed
pub record Tame (o x : Own) : Type 0 where
  pub masters : x.masters ≡ o.masters
  pub display : x.display ≡ o.display
  pub opened : bones x.opened ≡ bones o.opened
  pub ended : is_terminated x.status ≡ true → is_terminated o.status ≡ true
  pub created : is_created x.status ≡ true → is_created o.status ≡ true

pub tame_same : (o : Own) → Tame o o
tame_same o = record { masters = refl; display = refl; opened = refl; ended = λ h. h; created = λ h. h }

pub tame_lessens : (o x : Own) → Tame o x → Lessens o x
tame_lessens o x t = record {
  masters = t.masters;
  fewer = λ f h. subst (IsFrame f) t.opened h;
  last = inr (ap outermost t.opened, λ h. subst LastIsMaster t.opened h);
  ended = λ h e. let g = h (t.ended e) in record { display = t.display ∙ g.display; opened = t.opened ∙ g.opened };
  created = λ h e. t.opened ∙ h (t.created e);
  back = λ h. subst AreStacked (sym t.opened) h;
}

pub tame_then : (o x y : Own) → Tame o x → Tame x y → Tame o y
tame_then o x y s t = record { masters = t.masters ∙ s.masters; display = t.display ∙ s.display; opened = t.opened ∙ s.opened; ended = λ h. s.ended (t.ended h); created = λ h. s.created (t.created h) }

module _ (ends : List ℕ → Bool) (os xs : List Own) (objects : List Object) (frames : ℕ) where
  -- all but what is seen follows from this
  pub lessened : ((n : ℕ) → Lessens (at os n) (at xs n)) → ((n : ℕ) → ends (at xs n).masters ≡ false → Sees (MaySee xs objects (at xs n).masters) (at xs n).display (bones (at xs n).opened)) → StandsBut ends os objects frames → StandsBut ends xs objects frames
  lessened less sees s = record {
    sees = sees;
    made = λ n f h. s.made n f ((less n).fewer f h);
    made_masters = λ n f h. s.made_masters n f (subst (Contains f) (less n).masters h);
    ended = λ n. (less n).ended (s.ended n);
    created = λ n. (less n).created (s.created n);
    back = λ n. (less n).back (s.back n);
    apart = λ n m f h g. s.apart n m f ((less n).fewer f h) ((less m).fewer f g);
    through = λ n m f g h k l. subst (Contains g) (sym (less m).masters) (s.through n m f g ((less n).fewer f h) (subst (Contains f) (less m).masters k) (subst (Contains g) (less n).masters l));
    bodies = λ n m f h k g. by n m f h g (λ w. s.bodies n m f ((less n).fewer f h) (subst (Contains f) (less m).masters k) w) (less n).last;
  }
    where
      by : (n m f : ℕ) → IsFrame f (bones (at xs n).opened) → LastIsMaster (bones (at xs n).opened) → (LastIsMaster (bones (at os n).opened) → Contains (outermost (bones (at os n).opened)) (at os m).masters) → (bones (at xs n).opened ≡ []) ⊎ ((outermost (bones (at xs n).opened) ≡ outermost (bones (at os n).opened)) × (LastIsMaster (bones (at xs n).opened) → LastIsMaster (bones (at os n).opened))) → Contains (outermost (bones (at xs n).opened)) (at xs m).masters
      by n m f h g k (inl e) = absurd (subst (IsFrame f) e h)
      by n m f h g k (inr e) = subst (λ ms. Contains (outermost (bones (at xs n).opened)) ms) (sym (less m).masters) (subst (λ x. Contains x (at os m).masters) (sym e.0) (k (e.1 g)))

  -- where no task is another one
  pub tamed : ((n : ℕ) → Tame (at os n) (at xs n)) → StandsBut ends os objects frames → StandsBut ends xs objects frames
  tamed tame s = lessened (λ n. tame_lessens (at os n) (at xs n) (tame n)) sees s
    where
      held : (ms : List ℕ) (f : ℕ) → MaySee os objects ms f → MaySee xs objects ms f
      held ms f (inl h) = inl h
      held ms f (inr h) = inr (h.0, subst (IsHeld ms f) (sym (tame h.0).opened) h.1)

      sees : (n : ℕ) → ends (at xs n).masters ≡ false → Sees (MaySee xs objects (at xs n).masters) (at xs n).display (bones (at xs n).opened)
      sees n e =
          let was : ends (at os n).masters ≡ false = subst (λ ms. ends ms ≡ false) (tame n).masters e in
          subst (λ ms. Sees (MaySee xs objects ms) (at xs n).display (bones (at xs n).opened)) (sym (tame n).masters)
          (subst (λ ds. Sees (MaySee xs objects (at os n).masters) ds (bones (at xs n).opened)) (sym (tame n).display)
          (subst (λ bs. Sees (MaySee xs objects (at os n).masters) (at os n).display bs) (sym (tame n).opened)
          (sees_map (MaySee os objects (at os n).masters) (MaySee xs objects (at os n).masters) (at os n).display (bones (at os n).opened) (held (at os n).masters) (s.sees n was))))

-- One task is another one.

abbrev pub OneOther : ℕ → Own → List Own → List Own → Type 0
OneOther n x os xs = (m : ℕ) → (at xs m ≡ at os m) ⊎ ((m ≡ n) × (at xs m ≡ x))

is_false : (b : Bool) → ¬ (b ≡ true) → b ≡ false
is_false true h = absurd (h refl)
is_false false h = refl

pub sees_nothing : (p : ℕ → Type 0) (o : Own) → IsEmpty o → Sees p o.display (bones o.opened)
sees_nothing p o e = subst (λ ds. Sees p ds (bones o.opened)) (sym e.display) (subst (λ bs. Sees p [] bs) (sym e.opened) tt)

module _ (ends ends' : List ℕ → Bool) (n : ℕ) (x : Own) (os xs : List Own) (objects : List Object) (frames : ℕ) (one : OneOther n x os xs) where
  less_each : Lessens (at os n) x → (m : ℕ) → Lessens (at os m) (at xs m)
  less_each less m = by (one m)
    where
      by : (at xs m ≡ at os m) ⊎ ((m ≡ n) × (at xs m ≡ x)) → Lessens (at os m) (at xs m)
      by (inl e) = subst (Lessens (at os m)) (sym e) (tame_lessens (at os m) (at os m) (tame_same (at os m)))
      by (inr e) = subst (Lessens (at os m)) (sym e.1) (subst (λ k. Lessens (at os k) x) (sym e.0) less)

  -- the innermost frame is left: no master's, or everything that depends on it ends
  pub popped : (b : Bone) (bs : List Bone) → bones (at os n).opened ≡ b ∷ bs → bones x.opened ≡ bs → x.display ≡ b.saved → x.masters ≡ (at os n).masters → ((is_terminated x.status ≡ true → is_terminated (at os n).status ≡ true) × (is_created x.status ≡ true → is_created (at os n).status ≡ true)) ⊎ ((is_created x.status ≡ false) × (is_terminated x.status ≡ false)) → ((ms : List ℕ) → ends' ms ≡ false → (ends ms ≡ false) × (b.master ≡ true → ¬ Contains b.frame ms)) → StandsBut ends os objects frames → StandsBut ends' xs objects frames
  popped b bs is now seen same status fit s =
      let t = lessened (λ ms. true) os xs objects frames (less_each less) (λ m e. true_is_not_false e)
      (record { sees = λ m e. true_is_not_false e; made = s.made; made_masters = s.made_masters; ended = s.ended; created = s.created; back = s.back; apart = s.apart; through = s.through; bodies = s.bodies }) in
      record { sees = sees; made = t.made; made_masters = t.made_masters; ended = t.ended; created = t.created; back = t.back; apart = t.apart; through = t.through; bodies = t.bodies }
    where
      less : Lessens (at os n) x
      less = record {
        masters = same;
        fewer = λ f h. subst (IsFrame f) (sym is) (inr (subst (IsFrame f) now h));
        last = last_of bs now is;
        ended = λ h e. ended_of h e status;
        created = λ h e. created_of h e status;
        back = λ h. let g : AreStacked (b ∷ bs) = subst AreStacked is h in subst AreStacked (sym now) g.1;
      }
        where
          last_of : (cs : List Bone) → bones x.opened ≡ cs → bones (at os n).opened ≡ b ∷ cs → (bones x.opened ≡ []) ⊎ ((outermost (bones x.opened) ≡ outermost (bones (at os n).opened)) × (LastIsMaster (bones x.opened) → LastIsMaster (bones (at os n).opened)))
          last_of [] e f = inl e
          last_of (c ∷ cs) e f = inr (ap outermost e ∙ sym (ap outermost f), λ h. subst LastIsMaster (sym f) (subst LastIsMaster e h))

          no_bones : IsEmpty (at os n) → ⊥
          no_bones e = subst (IsFrame b.frame) (sym is ∙ e.opened) (inl refl)

          ended_of : (is_terminated (at os n).status ≡ true → IsEmpty (at os n)) → is_terminated x.status ≡ true → ((is_terminated x.status ≡ true → is_terminated (at os n).status ≡ true) × (is_created x.status ≡ true → is_created (at os n).status ≡ true)) ⊎ ((is_created x.status ≡ false) × (is_terminated x.status ≡ false)) → IsEmpty x
          ended_of h e (inl k) = absurd (no_bones (h (k.0 e)))
          ended_of h e (inr k) = true_is_not_false (sym e ∙ k.1)

          created_of : (is_created (at os n).status ≡ true → bones (at os n).opened ≡ []) → is_created x.status ≡ true → ((is_terminated x.status ≡ true → is_terminated (at os n).status ≡ true) × (is_created x.status ≡ true → is_created (at os n).status ≡ true)) ⊎ ((is_created x.status ≡ false) × (is_terminated x.status ≡ false)) → bones x.opened ≡ []
          created_of h e (inl k) = absurd (subst (IsFrame b.frame) (sym is ∙ h (k.1 e)) (inl refl))
          created_of h e (inr k) = true_is_not_false (sym e ∙ k.0)

      head_kept : (ms : List ℕ) (f : ℕ) → ends' ms ≡ false → IsHeld ms f (b ∷ bs) → IsHeld ms f bs
      head_kept ms f e (inl h) = absurd ((fit ms e).1 h.0 h.1)
      head_kept ms f e (inr h) = h

      held_at : (ms : List ℕ) (f k : ℕ) → ends' ms ≡ false → IsHeld ms f (bones (at os k).opened) → (at xs k ≡ at os k) ⊎ ((k ≡ n) × (at xs k ≡ x)) → IsHeld ms f (bones (at xs k).opened)
      held_at ms f k e h (inl z) = subst (λ o. IsHeld ms f (bones o.opened)) (sym z) h
      held_at ms f k e h (inr z) =
          let h' : IsHeld ms f (b ∷ bs) = subst (IsHeld ms f) (ap (λ j. bones (at os j).opened) z.0 ∙ is) h in
          subst (λ o. IsHeld ms f (bones o.opened)) (sym z.1) (subst (IsHeld ms f) (sym now) (head_kept ms f e h'))

      held : (ms : List ℕ) (f : ℕ) → ends' ms ≡ false → MaySee os objects ms f → MaySee xs objects ms f
      held ms f e (inl h) = inl h
      held ms f e (inr h) = inr (h.0, held_at ms f h.0 e h.1 (one h.0))

      sees_at : (m : ℕ) → (at xs m ≡ at os m) ⊎ ((m ≡ n) × (at xs m ≡ x)) → ends' (at xs m).masters ≡ false → Sees (MaySee xs objects (at xs m).masters) (at xs m).display (bones (at xs m).opened)
      sees_at m (inl z) e =
          let ms = (at os m).masters in
          let e' : ends' ms ≡ false = subst (λ o. ends' o.masters ≡ false) z e in
          subst (λ o. Sees (MaySee xs objects o.masters) o.display (bones o.opened)) (sym z)
          (sees_map (MaySee os objects ms) (MaySee xs objects ms) (at os m).display (bones (at os m).opened) (λ f. held ms f e') (s.sees m (fit ms e').0))
      sees_at m (inr z) e =
          let ms = (at os n).masters in
          let e' : ends' ms ≡ false = subst (λ ys. ends' ys ≡ false) same (subst (λ o. ends' o.masters ≡ false) z.1 e) in
          let was : Sees (MaySee os objects ms) (at os n).display (b ∷ bs) = subst (Sees (MaySee os objects ms) (at os n).display) is (s.sees n (fit ms e').0) in
          subst (λ o. Sees (MaySee xs objects o.masters) o.display (bones o.opened)) (sym z.1)
          (subst (λ ys. Sees (MaySee xs objects ys) x.display (bones x.opened)) (sym same)
          (subst (λ ds. Sees (MaySee xs objects ms) ds (bones x.opened)) (sym seen)
          (subst (λ cs. Sees (MaySee xs objects ms) b.saved cs) (sym now)
          (sees_map (MaySee os objects ms) (MaySee xs objects ms) b.saved bs (λ f. held ms f e') was.1))))

      sees : (m : ℕ) → ends' (at xs m).masters ≡ false → Sees (MaySee xs objects (at xs m).masters) (at xs m).display (bones (at xs m).opened)
      sees m e = sees_at m (one m) e

  -- the task loses its frames: nothing depends on one of them that sees anything
  -- or all of its frames are kept
  abbrev pub IsKept : Type 0
  IsKept = (f : ℕ) → IsFrame f (bones (at os n).opened) → IsPinned objects f

  pub emptied : IsEmpty x → x.masters ≡ (at os n).masters → is_created x.status ≡ false → ((m : ℕ) → ends (at os m).masters ≡ false → IsEmpty (at os m) ⊎ ((f : ℕ) → IsFrame f (bones (at os n).opened) → (¬ Contains f (at os m).masters) ⊎ IsKept)) → StandsBut ends os objects frames → StandsBut ends xs objects frames
  emptied gone same status free s = lessened ends os xs objects frames (less_each less) sees s
    where
      less : Lessens (at os n) x
      less = record {
        masters = same;
        fewer = λ f h. absurd (subst (IsFrame f) gone.opened h);
        last = inl gone.opened;
        ended = λ h e. gone;
        created = λ h e. true_is_not_false (sym e ∙ status);
        back = λ h. subst AreStacked (sym gone.opened) tt;
      }

      held_at : (ms : List ℕ) (f k : ℕ) → ((g : ℕ) → IsFrame g (bones (at os n).opened) → (¬ Contains g ms) ⊎ IsKept) → IsHeld ms f (bones (at os k).opened) → (at xs k ≡ at os k) ⊎ ((k ≡ n) × (at xs k ≡ x)) → IsPinned objects f ⊎ IsHeld ms f (bones (at xs k).opened)
      held_at ms f k none h (inl z) = inr (subst (λ o. IsHeld ms f (bones o.opened)) (sym z) h)
      held_at ms f k none h (inr z) = by (none r.0 r.1)
        where
          g : IsHeld ms f (bones (at os n).opened)
          g = subst (λ j. IsHeld ms f (bones (at os j).opened)) z.0 h

          r : (m : ℕ) × IsFrame m (bones (at os n).opened) × Contains m ms
          r = held_master ms f (bones (at os n).opened) (subst (λ j. IsHeld ms f (bones (at os j).opened)) z.0 h)

          by : (¬ Contains r.0 ms) ⊎ IsKept → IsPinned objects f ⊎ IsHeld ms f (bones (at xs k).opened)
          by (inl e) = absurd (e r.2)
          by (inr e) = inl (e f (held_frame ms f (bones (at os n).opened) g))

      held : (ms : List ℕ) (f : ℕ) → ((g : ℕ) → IsFrame g (bones (at os n).opened) → (¬ Contains g ms) ⊎ IsKept) → MaySee os objects ms f → MaySee xs objects ms f
      held ms f none (inl h) = inl h
      held ms f none (inr h) = by (held_at ms f h.0 none h.1 (one h.0))
        where
          by : IsPinned objects f ⊎ IsHeld ms f (bones (at xs h.0).opened) → MaySee xs objects ms f
          by (inl e) = inl e
          by (inr e) = inr (h.0, e)

      sees_by : (m : ℕ) → ends (at os m).masters ≡ false → IsEmpty (at os m) ⊎ ((f : ℕ) → IsFrame f (bones (at os n).opened) → (¬ Contains f (at os m).masters) ⊎ IsKept) → Sees (MaySee xs objects (at os m).masters) (at os m).display (bones (at os m).opened)
      sees_by m e (inl z) = sees_nothing (MaySee xs objects (at os m).masters) (at os m) z
      sees_by m e (inr none) = sees_map (MaySee os objects (at os m).masters) (MaySee xs objects (at os m).masters) (at os m).display (bones (at os m).opened) (λ f. held (at os m).masters f none) (s.sees m e)

      sees_at : (m : ℕ) → (at xs m ≡ at os m) ⊎ ((m ≡ n) × (at xs m ≡ x)) → ends (at xs m).masters ≡ false → Sees (MaySee xs objects (at xs m).masters) (at xs m).display (bones (at xs m).opened)
      sees_at m (inl z) e =
          let e' : ends (at os m).masters ≡ false = subst (λ o. ends o.masters ≡ false) z e in
          subst (λ o. Sees (MaySee xs objects o.masters) o.display (bones o.opened)) (sym z) (sees_by m e' (free m e'))
      sees_at m (inr z) e = subst (λ o. Sees (MaySee xs objects o.masters) o.display (bones o.opened)) (sym z.1) (sees_nothing (MaySee xs objects x.masters) x gone)

      sees : (m : ℕ) → ends (at xs m).masters ≡ false → Sees (MaySee xs objects (at xs m).masters) (at xs m).display (bones (at xs m).opened)
      sees m e = sees_at m (one m) e

  -- a new frame is opened, seen behind those of a display that may be seen
  pub opened : (b : Bone) (display : List ℕ) → b.frame ≡ frames → b.saved ≡ (at os n).display → AreStacked (b ∷ []) → bones x.opened ≡ b ∷ bones (at os n).opened → x.display ≡ (display ++ frames ∷ []) → x.masters ≡ (at os n).masters → is_terminated x.status ≡ false → is_created x.status ≡ false → EachIs (λ f. IsFrame f (bones (at os n).opened) ⊎ MaySee os objects (at os n).masters f) display → StandsBut ends os objects frames → StandsBut ends xs objects (suc frames)
  opened b display new saved goes now seen same alive begun may s = record {
    sees = λ m e. sees_at m (one m) e;
    made = λ m f h. made_at m f h (one m);
    made_masters = λ m f h. let g : f < frames = s.made_masters m f (masters_at m f h (one m)) in omega (arith, g);
    ended = λ m e. ended_at m e (one m);
    created = λ m e. created_at m e (one m);
    back = λ m. back_at m (one m);
    apart = λ k m f h g. apart_by k m f (frame_at k f h (one k)) (frame_at m f g (one m));
    through = λ k m f g h c d. through_by k m f g (frame_at k f h (one k)) (masters_at m f c (one m)) (masters_at k g d (one k)) (one m);
    bodies = λ k m f h c w. bodies_by k m f h w (frame_at k f h (one k)) (masters_at m f c (one m)) (one m) (one k);
  }
    where
      masters_at : (m f : ℕ) → Contains f (at xs m).masters → (at xs m ≡ at os m) ⊎ ((m ≡ n) × (at xs m ≡ x)) → Contains f (at os m).masters
      masters_at m f h (inl z) = subst (λ o. Contains f o.masters) z h
      masters_at m f h (inr z) = subst (λ k. Contains f (at os k).masters) (sym z.0) (subst (Contains f) same (subst (λ o. Contains f o.masters) z.1 h))

      masters_back : (m f : ℕ) → Contains f (at os m).masters → (at xs m ≡ at os m) ⊎ ((m ≡ n) × (at xs m ≡ x)) → Contains f (at xs m).masters
      masters_back m f h (inl z) = subst (λ o. Contains f o.masters) (sym z) h
      masters_back m f h (inr z) = subst (λ o. Contains f o.masters) (sym z.1) (subst (Contains f) (sym same) (subst (λ k. Contains f (at os k).masters) z.0 h))

      -- a frame of the task is the new one, or was there
      frame_at : (m f : ℕ) → IsFrame f (bones (at xs m).opened) → (at xs m ≡ at os m) ⊎ ((m ≡ n) × (at xs m ≡ x)) → ((m ≡ n) × (f ≡ frames)) ⊎ IsFrame f (bones (at os m).opened)
      frame_at m f h (inl z) = inr (subst (λ o. IsFrame f (bones o.opened)) z h)
      frame_at m f h (inr z) = by (subst (IsFrame f) now (subst (λ o. IsFrame f (bones o.opened)) z.1 h))
        where
          by : IsFrame f (b ∷ bones (at os n).opened) → ((m ≡ n) × (f ≡ frames)) ⊎ IsFrame f (bones (at os m).opened)
          by (inl e) = inl (z.0, e ∙ new)
          by (inr g) = inr (subst (λ k. IsFrame f (bones (at os k).opened)) (sym z.0) g)

      made_at : (m f : ℕ) → IsFrame f (bones (at xs m).opened) → (at xs m ≡ at os m) ⊎ ((m ≡ n) × (at xs m ≡ x)) → f < suc frames
      made_at m f h z = by (frame_at m f h z)
        where
          by : ((m ≡ n) × (f ≡ frames)) ⊎ IsFrame f (bones (at os m).opened) → f < suc frames
          by (inl e) = let q : f ≡ frames = e.1 in omega (arith, q)
          by (inr g) = let q : f < frames = s.made m f g in omega (arith, q)

      ended_at : (m : ℕ) → is_terminated (at xs m).status ≡ true → (at xs m ≡ at os m) ⊎ ((m ≡ n) × (at xs m ≡ x)) → IsEmpty (at xs m)
      ended_at m e (inl z) = subst IsEmpty (sym z) (s.ended m (subst (λ o. is_terminated o.status ≡ true) z e))
      ended_at m e (inr z) = true_is_not_false (sym (subst (λ o. is_terminated o.status ≡ true) z.1 e) ∙ alive)

      created_at : (m : ℕ) → is_created (at xs m).status ≡ true → (at xs m ≡ at os m) ⊎ ((m ≡ n) × (at xs m ≡ x)) → bones (at xs m).opened ≡ []
      created_at m e (inl z) = subst (λ o. bones o.opened ≡ []) (sym z) (s.created m (subst (λ o. is_created o.status ≡ true) z e))
      created_at m e (inr z) = true_is_not_false (sym (subst (λ o. is_created o.status ≡ true) z.1 e) ∙ begun)

      back_at : (m : ℕ) → (at xs m ≡ at os m) ⊎ ((m ≡ n) × (at xs m ≡ x)) → AreStacked (bones (at xs m).opened)
      back_at m (inl z) = subst (λ o. AreStacked (bones o.opened)) (sym z) (s.back m)
      back_at m (inr z) = subst (λ o. AreStacked (bones o.opened)) (sym z.1) (subst AreStacked (sym now) ((goes.0.0, λ f h. subst (λ k. f < k) (sym new) (s.made n f h)), s.back n))

      too_new : (m f : ℕ) → f ≡ frames → IsFrame f (bones (at os m).opened) → ⊥
      too_new m f e h = let q : f < frames = s.made m f h in omega (arith, q, e)

      too_new_master : (m f : ℕ) → f ≡ frames → Contains f (at os m).masters → ⊥
      too_new_master m f e h = let q : f < frames = s.made_masters m f h in omega (arith, q, e)

      apart_by : (k m f : ℕ) → ((k ≡ n) × (f ≡ frames)) ⊎ IsFrame f (bones (at os k).opened) → ((m ≡ n) × (f ≡ frames)) ⊎ IsFrame f (bones (at os m).opened) → k ≡ m
      apart_by k m f (inl h) (inl g) = h.0 ∙ sym g.0
      apart_by k m f (inl h) (inr g) = absurd (too_new m f h.1 g)
      apart_by k m f (inr h) (inl g) = absurd (too_new k f g.1 h)
      apart_by k m f (inr h) (inr g) = s.apart k m f h g

      through_by : (k m f g : ℕ) → ((k ≡ n) × (f ≡ frames)) ⊎ IsFrame f (bones (at os k).opened) → Contains f (at os m).masters → Contains g (at os k).masters → (at xs m ≡ at os m) ⊎ ((m ≡ n) × (at xs m ≡ x)) → Contains g (at xs m).masters
      through_by k m f g (inl h) c d z = absurd (too_new_master m f h.1 c)
      through_by k m f g (inr h) c d z = masters_back m g (s.through k m f g h c d) z

      outer_same : (f : ℕ) (cs : List Bone) → IsFrame f cs → outermost (b ∷ cs) ≡ outermost cs
      outer_same f [] h = absurd h
      outer_same f (c ∷ cs) h = refl

      outer_at : (k f : ℕ) → IsFrame f (bones (at os k).opened) → (at xs k ≡ at os k) ⊎ ((k ≡ n) × (at xs k ≡ x)) → outermost (bones (at os k).opened) ≡ outermost (bones (at xs k).opened)
      outer_at k f h (inl z) = ap (λ (o : Own). outermost (bones o.opened)) (sym z)
      outer_at k f h (inr z) =
          ap (λ j. outermost (bones (at os j).opened)) z.0
          ∙ sym (outer_same f (bones (at os n).opened) (subst (λ j. IsFrame f (bones (at os j).opened)) z.0 h))
          ∙ ap outermost (sym now)
          ∙ ap (λ (o : Own). outermost (bones o.opened)) (sym z.1)

      last_same : (f : ℕ) (cs : List Bone) → IsFrame f cs → LastIsMaster (b ∷ cs) → LastIsMaster cs
      last_same f [] h g = absurd h
      last_same f (c ∷ cs) h g = g

      last_at : (k f : ℕ) → IsFrame f (bones (at os k).opened) → (at xs k ≡ at os k) ⊎ ((k ≡ n) × (at xs k ≡ x)) → LastIsMaster (bones (at xs k).opened) → LastIsMaster (bones (at os k).opened)
      last_at k f h (inl z) w = subst (λ o. LastIsMaster (bones o.opened)) z w
      last_at k f h (inr z) w =
          subst (λ j. LastIsMaster (bones (at os j).opened)) (sym z.0)
          (last_same f (bones (at os n).opened) (subst (λ j. IsFrame f (bones (at os j).opened)) z.0 h) (subst LastIsMaster now (subst (λ o. LastIsMaster (bones o.opened)) z.1 w)))

      bodies_by : (k m f : ℕ) → IsFrame f (bones (at xs k).opened) → LastIsMaster (bones (at xs k).opened) → ((k ≡ n) × (f ≡ frames)) ⊎ IsFrame f (bones (at os k).opened) → Contains f (at os m).masters → (at xs m ≡ at os m) ⊎ ((m ≡ n) × (at xs m ≡ x)) → (at xs k ≡ at os k) ⊎ ((k ≡ n) × (at xs k ≡ x)) → Contains (outermost (bones (at xs k).opened)) (at xs m).masters
      bodies_by k m f g l (inl h) c z w = absurd (too_new_master m f h.1 c)
      bodies_by k m f g l (inr h) c z w = masters_back m (outermost (bones (at xs k).opened)) (subst (λ y. Contains y (at os m).masters) (outer_at k f h w) (s.bodies k m f h c (last_at k f h w l))) z

      held_at : (ms : List ℕ) (f k : ℕ) → IsHeld ms f (bones (at os k).opened) → (at xs k ≡ at os k) ⊎ ((k ≡ n) × (at xs k ≡ x)) → IsHeld ms f (bones (at xs k).opened)
      held_at ms f k h (inl z) = subst (λ o. IsHeld ms f (bones o.opened)) (sym z) h
      held_at ms f k h (inr z) = subst (λ o. IsHeld ms f (bones o.opened)) (sym z.1) (subst (IsHeld ms f) (sym now) (inr (subst (λ j. IsHeld ms f (bones (at os j).opened)) z.0 h)))

      held : (ms : List ℕ) (f : ℕ) → MaySee os objects ms f → MaySee xs objects ms f
      held ms f (inl h) = inl h
      held ms f (inr h) = inr (h.0, held_at ms f h.0 h.1 (one h.0))

      each_behind : (p : ℕ → Type 0) (ds : List ℕ) (k : ℕ) → EachIs p ds → p k → EachIs p (ds ++ k ∷ [])
      each_behind p [] k h g = (g, tt)
      each_behind p (d ∷ ds) k h g = (h.0, each_behind p ds k h.1 g)

      inner : (ms : List ℕ) (f : ℕ) → IsFrame f (bones (at os n).opened) ⊎ MaySee os objects ms f → IsFrame f (b ∷ bones (at os n).opened) ⊎ MaySee xs objects ms f
      inner ms f (inl h) = inl (inr h)
      inner ms f (inr h) = inr (held ms f h)

      sees_at : (m : ℕ) → (at xs m ≡ at os m) ⊎ ((m ≡ n) × (at xs m ≡ x)) → ends (at xs m).masters ≡ false → Sees (MaySee xs objects (at xs m).masters) (at xs m).display (bones (at xs m).opened)
      sees_at m (inl z) e =
          let ms = (at os m).masters in
          subst (λ o. Sees (MaySee xs objects o.masters) o.display (bones o.opened)) (sym z)
          (sees_map (MaySee os objects ms) (MaySee xs objects ms) (at os m).display (bones (at os m).opened) (held ms) (s.sees m (subst (λ o. ends o.masters ≡ false) z e)))
      sees_at m (inr z) e =
          let ms = (at os n).masters in
          let e' : ends ms ≡ false = subst (λ ys. ends ys ≡ false) same (subst (λ o. ends o.masters ≡ false) z.1 e) in
          let p : ℕ → Type 0 = λ f. IsFrame f (b ∷ bones (at os n).opened) ⊎ MaySee xs objects ms f in
          subst (λ o. Sees (MaySee xs objects o.masters) o.display (bones o.opened)) (sym z.1)
          (subst (λ ys. Sees (MaySee xs objects ys) x.display (bones x.opened)) (sym same)
          (subst (λ ds. Sees (MaySee xs objects ms) ds (bones x.opened)) (sym seen)
          (subst (λ cs. Sees (MaySee xs objects ms) (display ++ frames ∷ []) cs) (sym now) (
            each_behind p display frames (each_map (λ f. IsFrame f (bones (at os n).opened) ⊎ MaySee os objects ms f) p display (inner ms) may) (inl (inl (sym new))),
            subst (λ ds. Sees (MaySee xs objects ms) ds (bones (at os n).opened)) (sym saved)
                (sees_map (MaySee os objects ms) (MaySee xs objects ms) (at os n).display (bones (at os n).opened) (held ms) (s.sees n e')),
          ))))

-- More tasks, which have no frames yet.

pub record IsNew (os : List Own) (objects : List Object) (frames : ℕ) (o : Own) : Type 0 where
  pub opened : bones o.opened ≡ []
  pub ended : is_terminated o.status ≡ true → IsEmpty o
  pub sees : EachIs (MaySee os objects o.masters) o.display
  pub made : (f : ℕ) → Contains f o.masters → f < frames
  pub through : (n f g : ℕ) → IsFrame f (bones (at os n).opened) → Contains f o.masters → Contains g (at os n).masters → Contains g o.masters
  pub bodies : (n f : ℕ) → IsFrame f (bones (at os n).opened) → Contains f o.masters → LastIsMaster (bones (at os n).opened) → Contains (outermost (bones (at os n).opened)) o.masters

pub nobody_new : (os : List Own) (objects : List Object) (frames : ℕ) → IsNew os objects frames nobody
nobody_new os objects frames = record { opened = refl; ended = λ h. record { display = refl; opened = refl }; sees = tt; made = λ f h. true_is_not_false (sym h); through = λ n f g h c d. true_is_not_false (sym c); bodies = λ n f h c w. true_is_not_false (sym c) }

pub at_joined : (os ds : List Own) (m : ℕ) → (at (os ++ ds) m ≡ at os m) ⊎ ((at os m ≡ nobody) × (k : ℕ) × (at (os ++ ds) m ≡ at ds k))
at_joined [] ds m = inr (refl, m, refl)
at_joined (o ∷ os) ds zero = inl refl
at_joined (o ∷ os) ds (suc m) = at_joined os ds m

module _ (ends : List ℕ → Bool) (os ds : List Own) (objects : List Object) (frames : ℕ) (news : (k : ℕ) → IsNew os objects frames (at ds k)) where
  abbrev xs : List Own
  xs = os ++ ds

  abbrev Was : ℕ → Type 0
  Was m = (at xs m ≡ at os m) ⊎ ((at os m ≡ nobody) × (k : ℕ) × (at xs m ≡ at ds k))

  pub grown : StandsBut ends os objects frames → StandsBut ends xs objects frames
  grown s = record {
    sees = λ m e. sees_at m (at_joined os ds m) e;
    made = λ m f h. s.made m f (frame_at m f h (at_joined os ds m));
    made_masters = λ m f h. made_at m f h (at_joined os ds m);
    ended = λ m e. ended_at m e (at_joined os ds m);
    created = λ m e. created_at m e (at_joined os ds m);
    back = λ m. back_at m (at_joined os ds m);
    apart = λ k m f h g. s.apart k m f (frame_at k f h (at_joined os ds k)) (frame_at m f g (at_joined os ds m));
    through = λ k m f g h c d. through_at k m f g (frame_at k f h (at_joined os ds k)) c (old_masters k f g h d (at_joined os ds k)) (at_joined os ds m);
    bodies = λ k m f h c w. subst (λ y. Contains y (at xs m).masters) (outer_at k f h (at_joined os ds k)) (bodies_at k m f (frame_at k f h (at_joined os ds k)) c (last_at k f h w (at_joined os ds k)) (at_joined os ds m));
  }
    where
      frame_at : (m f : ℕ) → IsFrame f (bones (at xs m).opened) → Was m → IsFrame f (bones (at os m).opened)
      frame_at m f h (inl z) = subst (λ o. IsFrame f (bones o.opened)) z h
      frame_at m f h (inr z) = absurd (subst (IsFrame f) ((news z.1).opened) (subst (λ o. IsFrame f (bones o.opened)) z.2 h))

      -- where the task has a frame, it was there
      old_masters : (m f g : ℕ) → IsFrame f (bones (at xs m).opened) → Contains g (at xs m).masters → Was m → Contains g (at os m).masters
      old_masters m f g h d (inl z) = subst (λ o. Contains g o.masters) z d
      old_masters m f g h d (inr z) = absurd (subst (IsFrame f) ((news z.1).opened) (subst (λ o. IsFrame f (bones o.opened)) z.2 h))

      outer_at : (m f : ℕ) → IsFrame f (bones (at xs m).opened) → Was m → outermost (bones (at os m).opened) ≡ outermost (bones (at xs m).opened)
      outer_at m f h (inl z) = ap (λ (o : Own). outermost (bones o.opened)) (sym z)
      outer_at m f h (inr z) = absurd (subst (IsFrame f) ((news z.1).opened) (subst (λ o. IsFrame f (bones o.opened)) z.2 h))

      made_at : (m f : ℕ) → Contains f (at xs m).masters → Was m → f < frames
      made_at m f h (inl z) = s.made_masters m f (subst (λ o. Contains f o.masters) z h)
      made_at m f h (inr z) = (news z.1).made f (subst (λ o. Contains f o.masters) z.2 h)

      ended_at : (m : ℕ) → is_terminated (at xs m).status ≡ true → Was m → IsEmpty (at xs m)
      ended_at m e (inl z) = subst IsEmpty (sym z) (s.ended m (subst (λ o. is_terminated o.status ≡ true) z e))
      ended_at m e (inr z) = subst IsEmpty (sym z.2) ((news z.1).ended (subst (λ o. is_terminated o.status ≡ true) z.2 e))

      created_at : (m : ℕ) → is_created (at xs m).status ≡ true → Was m → bones (at xs m).opened ≡ []
      created_at m e (inl z) = subst (λ o. bones o.opened ≡ []) (sym z) (s.created m (subst (λ o. is_created o.status ≡ true) z e))
      created_at m e (inr z) = subst (λ o. bones o.opened ≡ []) (sym z.2) (news z.1).opened

      back_at : (m : ℕ) → Was m → AreStacked (bones (at xs m).opened)
      back_at m (inl z) = subst (λ o. AreStacked (bones o.opened)) (sym z) (s.back m)
      back_at m (inr z) = subst (λ o. AreStacked (bones o.opened)) (sym z.2) (subst AreStacked (sym (news z.1).opened) tt)

      through_at : (k m f g : ℕ) → IsFrame f (bones (at os k).opened) → Contains f (at xs m).masters → Contains g (at os k).masters → Was m → Contains g (at xs m).masters
      through_at k m f g h c d (inl z) = subst (λ o. Contains g o.masters) (sym z) (s.through k m f g h (subst (λ o. Contains f o.masters) z c) d)
      through_at k m f g h c d (inr z) = subst (λ o. Contains g o.masters) (sym z.2) ((news z.1).through k f g h (subst (λ o. Contains f o.masters) z.2 c) d)

      last_at : (m f : ℕ) → IsFrame f (bones (at xs m).opened) → LastIsMaster (bones (at xs m).opened) → Was m → LastIsMaster (bones (at os m).opened)
      last_at m f h w (inl z) = subst (λ o. LastIsMaster (bones o.opened)) z w
      last_at m f h w (inr z) = absurd (subst (IsFrame f) ((news z.1).opened) (subst (λ o. IsFrame f (bones o.opened)) z.2 h))

      bodies_at : (k m f : ℕ) → IsFrame f (bones (at os k).opened) → Contains f (at xs m).masters → LastIsMaster (bones (at os k).opened) → Was m → Contains (outermost (bones (at os k).opened)) (at xs m).masters
      bodies_at k m f h c w (inl z) = subst (λ o. Contains (outermost (bones (at os k).opened)) o.masters) (sym z) (s.bodies k m f h (subst (λ o. Contains f o.masters) z c) w)
      bodies_at k m f h c w (inr z) = subst (λ o. Contains (outermost (bones (at os k).opened)) o.masters) (sym z.2) ((news z.1).bodies k f h (subst (λ o. Contains f o.masters) z.2 c) w)

      held_at : (ms : List ℕ) (f k : ℕ) → IsHeld ms f (bones (at os k).opened) → Was k → IsHeld ms f (bones (at xs k).opened)
      held_at ms f k h (inl z) = subst (λ o. IsHeld ms f (bones o.opened)) (sym z) h
      held_at ms f k h (inr z) = absurd (subst (λ o. IsHeld ms f (bones o.opened)) z.0 h)

      held : (ms : List ℕ) (f : ℕ) → MaySee os objects ms f → MaySee xs objects ms f
      held ms f (inl h) = inl h
      held ms f (inr h) = inr (h.0, held_at ms f h.0 h.1 (at_joined os ds h.0))

      sees_at : (m : ℕ) → Was m → ends (at xs m).masters ≡ false → Sees (MaySee xs objects (at xs m).masters) (at xs m).display (bones (at xs m).opened)
      sees_at m (inl z) e =
          let ms = (at os m).masters in
          subst (λ o. Sees (MaySee xs objects o.masters) o.display (bones o.opened)) (sym z)
          (sees_map (MaySee os objects ms) (MaySee xs objects ms) (at os m).display (bones (at os m).opened) (held ms) (s.sees m (subst (λ o. ends o.masters ≡ false) z e)))
      sees_at m (inr z) e =
          let o : Own = at ds z.1 in
          subst (λ o. Sees (MaySee xs objects o.masters) o.display (bones o.opened)) (sym z.2)
          (subst (λ bs. Sees (MaySee xs objects o.masters) o.display bs) (sym (news z.1).opened)
          (each_map (MaySee os objects o.masters) (MaySee xs objects o.masters) o.display (held o.masters) (news z.1).sees))

-- More frames, and more objects.

pub or_any : (f : ℕ) (os more : List Object) → any (object_names f) os ≡ true → any (object_names f) (os ++ more) ≡ true
or_any f [] more h = true_is_not_false (sym h)
or_any f (o ∷ os) more h = by (object_names f o) h (or_any f os more)
  where
    by : (b : Bool) → (b || any (object_names f) os) ≡ true → (any (object_names f) os ≡ true → any (object_names f) (os ++ more) ≡ true) → (b || any (object_names f) (os ++ more)) ≡ true
    by true g rest = refl
    by false g rest = rest g

pub objects_more : (ends : List ℕ → Bool) (os : List Own) (objects more : List Object) (frames : ℕ) → StandsBut ends os objects frames → StandsBut ends os (objects ++ more) (suc frames)
objects_more ends os objects more frames s = record {
  sees = λ n e. sees_map (MaySee os objects (at os n).masters) (MaySee os (objects ++ more) (at os n).masters) (at os n).display (bones (at os n).opened) (held (at os n).masters) (s.sees n e);
  made = λ n f h. let q : f < frames = s.made n f h in omega (arith, q);
  made_masters = λ n f h. let q : f < frames = s.made_masters n f h in omega (arith, q);
  ended = s.ended;
  created = s.created;
  back = s.back;
  apart = s.apart;
  through = s.through;
  bodies = s.bodies;
}
  where
    held : (ms : List ℕ) (f : ℕ) → MaySee os objects ms f → MaySee os (objects ++ more) ms f
    held ms f (inl (inl e)) = inl (inl e)
    held ms f (inl (inr e)) = inl (inr (or_any f objects more e))
    held ms f (inr h) = inr h

pub objects_same : (ends : List ℕ → Bool) (os : List Own) (objects others : List Object) (frames : ℕ) → ((f : ℕ) → any (object_names f) objects ≡ any (object_names f) others) → StandsBut ends os objects frames → StandsBut ends os others frames
objects_same ends os objects others frames same s = record {
  sees = λ n e. sees_map (MaySee os objects (at os n).masters) (MaySee os others (at os n).masters) (at os n).display (bones (at os n).opened) (held (at os n).masters) (s.sees n e);
  made = s.made;
  made_masters = s.made_masters;
  ended = s.ended;
  created = s.created;
  back = s.back;
  apart = s.apart;
  through = s.through;
  bodies = s.bodies;
}
  where
    held : (ms : List ℕ) (f : ℕ) → MaySee os objects ms f → MaySee os others ms f
    held ms f (inl (inl e)) = inl (inl e)
    held ms f (inl (inr e)) = inl (inr (sym (same f) ∙ e))
    held ms f (inr h) = inr h
