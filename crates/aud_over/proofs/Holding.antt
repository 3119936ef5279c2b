-- Effects that open and leave frames keep those open that are seen: tasks that end, masters that are left.
use Rattle.std.proofs.Common.{◌≡◌, ℕ, zero, suc, ◌+◌, List, [], ◌∷◌, length, slice_get, Option, Some, None, Bool, true, false, refl, sym, ap, ◌∙◌, subst, arith, inl, inr}
use Rattle.std.specs.Prelude.{◌⊎◌, if◌then◌else◌, not, ◌&&◌, Result}
use Rattle.aud_text.specs.declared.raise.Raise.{Raise}
use Rattle.aud_typed.specs.Tree.{Plan}
use Rattle.aud_meaning.specs.Orders.{noted}
use Rattle.aud_meaning.specs.declared.state.Status.TheVariants.{Terminated}
use Rattle.aud_meaning.specs.Configuration.{Own, TaskAt, All}
use Rattle.aud_meaning.specs.Evaluation.{Sight}
use Rattle.aud_meaning.specs.Control.{Moved}
use Rattle.aud_meaning.specs.Parts.{any, contains, depends, is_terminated, no_waits, nobody, numbers, on_own, owns, changed}
use Rattle.aud_meaning.specs.Tasks as effect
use Rattle.aud_over.specs.Over.{object_names}
use Rattle.aud_over.specs.Standing.{AreKept, IsPinned, around, at, Bone, bones, Contains, IsFrame, MaySee, EachIs, Sees, IsEmpty, StandsBut}
use Rattle.aud_over.proofs.Calls.{true_is_not_false}
use Rattle.aud_over.proofs.Bones.{each_map, OneOther, emptied, sees_nothing}
use Rattle.aud_over.proofs.Taming.{IsTame, stands_tamed, refuse_queues_tame}

module _ (pins : List ℕ) where
  abbrev pub Holds : (List ℕ → Bool) → All Moved → Type 0
  Holds ends c = StandsBut ends (owns c.tasks) (around pins c.shared.objects) (length c.shared.frames)

  abbrev pub own_at : All Moved → ℕ → Own
  own_at c n = at (owns c.tasks) n

  abbrev pub bones_at : All Moved → ℕ → List Bone
  bones_at c n = bones (own_at c n).opened

  pub one_changed : (ts : List (TaskAt Moved)) (n : ℕ) (f : TaskAt Moved → TaskAt Moved) (x : Own) → ((t : TaskAt Moved) → slice_get ts n ≡ Some t → (f t).own ≡ x) → OneOther n x (owns ts) (owns (changed n f ts))
  one_changed [] n f x h m = inl refl
  one_changed (t ∷ ts) zero f x h zero = inr (refl, h t refl)
  one_changed (t ∷ ts) zero f x h (suc m) = inl refl
  one_changed (t ∷ ts) (suc n) f x h zero = inl refl
  one_changed (t ∷ ts) (suc n) f x h (suc m) = by (one_changed ts n f x h m)
    where
      by : (at (owns (changed n f ts)) m ≡ at (owns ts) m) ⊎ ((m ≡ n) × (at (owns (changed n f ts)) m ≡ x)) → (at (owns (changed n f ts)) m ≡ at (owns ts) m) ⊎ ((suc m ≡ suc n) × (at (owns (changed n f ts)) m ≡ x))
      by (inl e) = inl e
      by (inr z) = inr (ap suc z.0, z.1)

  pub got_own : (ts : List (TaskAt Moved)) (n : ℕ) (t : TaskAt Moved) → slice_get ts n ≡ Some t → at (owns ts) n ≡ t.own
  got_own [] n t e = absurd (subst IsThere (sym e) tt)
    where
      IsThere : Option (TaskAt Moved) → Type 0
      IsThere None = ⊥
      IsThere (Some x) = Unit {0}
  got_own (x ∷ xs) zero t e = ap own_or e
    where
      own_or : Option (TaskAt Moved) → Own
      own_or None = x.own
      own_or (Some y) = y.own
  got_own (x ∷ xs) (suc n) t e = got_own xs n t e

  -- one own part is changed
  pub own_changed : (n : ℕ) (f : Own → Own) (c : All Moved) → OneOther n (f (own_at c n)) (owns c.tasks) (owns (on_own n f c).tasks)
  own_changed n f c = one_changed c.tasks n (λ t. record t { own = f t.own }) (f (own_at c n)) (λ t e. ap f (sym (got_own c.tasks n t e)))

  -- Numbers of tasks.

  passing : (b : Bool) (p : ℕ → Type 0) (n : ℕ) (ns : List ℕ) → (b ≡ true → p n) → EachIs p ns → EachIs p (if b then n ∷ ns else ns)
  passing true p n ns h g = (h refl, g)
  passing false p n ns h g = g

  numbers_from : (q : Own → Bool) (p : ℕ → Type 0) (k : ℕ) (ts : List (TaskAt Moved)) → ((i : ℕ) → q (at (owns ts) i) ≡ true → p (k + i)) → EachIs p (numbers (λ (t : TaskAt Moved). q t.own) k ts)
  numbers_from q p k [] h = tt
  numbers_from q p k (t ∷ ts) h =
      passing (q t.own) p k (numbers (λ (x : TaskAt Moved). q x.own) (suc k) ts) (λ e. let z : k + 0 ≡ k = omega arith in subst p z (h 0 e))
      (numbers_from q p (suc k) ts (λ i e. let z : k + suc i ≡ suc k + i = omega arith in subst p z (h (suc i) e)))

  pub numbers_pass : (q : Own → Bool) (c : All Moved) → EachIs (λ n. q (own_at c n) ≡ true) (numbers (λ (t : TaskAt Moved). q t.own) 0 c.tasks)
  numbers_pass q c = numbers_from q (λ n. q (own_at c n) ≡ true) 0 c.tasks (λ i e. let z : i ≡ 0 + i = omega arith in subst (λ j. q (own_at c j) ≡ true) z e)

  -- where each number of the list has a property, so has one that passes
  in_list : (b : Bool) (p : ℕ → Type 0) (n : ℕ) (ns : List ℕ) → EachIs p (if b then n ∷ ns else ns) → (b ≡ true → p n) × EachIs p ns
  in_list true p n ns h = (λ e. h.0, h.1)
  in_list false p n ns h = (λ e. true_is_not_false (sym e), h)

  has_from : (q : Own → Bool) (p : ℕ → Type 0) (k : ℕ) (ts : List (TaskAt Moved)) → q nobody ≡ false → EachIs p (numbers (λ (t : TaskAt Moved). q t.own) k ts) → (i : ℕ) → q (at (owns ts) i) ≡ true → p (k + i)
  has_from q p k [] none h i e = true_is_not_false (sym e ∙ none)
  has_from q p k (t ∷ ts) none h zero e = let z : k ≡ k + 0 = omega arith in subst p z ((in_list (q t.own) p k (numbers (λ (x : TaskAt Moved). q x.own) (suc k) ts) h).0 e)
  has_from q p k (t ∷ ts) none h (suc i) e = let z : suc k + i ≡ k + suc i = omega arith in subst p z (has_from q p (suc k) ts none (in_list (q t.own) p k (numbers (λ (x : TaskAt Moved). q x.own) (suc k) ts) h).1 i e)

  pub numbers_have : (q : Own → Bool) (p : ℕ → Type 0) (c : All Moved) → q nobody ≡ false → EachIs p (numbers (λ (t : TaskAt Moved). q t.own) 0 c.tasks) → (i : ℕ) → q (own_at c i) ≡ true → p i
  numbers_have q p c none h i e = let z : 0 + i ≡ i = omega arith in subst p z (has_from q p 0 c.tasks none h i e)

  -- Tasks keep their frames, or have lost them.

  pub record HaveEnded (c d : All Moved) : Type 0 where
    pub masters : (m : ℕ) → (own_at d m).masters ≡ (own_at c m).masters
    pub frames : (m : ℕ) → ((bones_at d m ≡ bones_at c m) × ((own_at d m).display ≡ (own_at c m).display)) ⊎ IsEmpty (own_at d m)
    pub objects : (f : ℕ) → any (object_names f) c.shared.objects ≡ any (object_names f) d.shared.objects

  pub none_ended : (c : All Moved) → HaveEnded c c
  none_ended c = record { masters = λ m. refl; frames = λ m. inl (refl, refl); objects = λ f. refl }

  pub ended_empty : (c d : All Moved) (m : ℕ) → HaveEnded c d → IsEmpty (own_at c m) → IsEmpty (own_at d m)
  ended_empty c d m h e = by (h.frames m)
    where
      by : ((bones_at d m ≡ bones_at c m) × ((own_at d m).display ≡ (own_at c m).display)) ⊎ IsEmpty (own_at d m) → IsEmpty (own_at d m)
      by (inl z) = record { display = z.1 ∙ e.display; opened = z.0 ∙ e.opened }
      by (inr z) = z

  pub ended_then : (c d e : All Moved) → HaveEnded c d → HaveEnded d e → HaveEnded c e
  ended_then c d e h g = record { masters = λ m. g.masters m ∙ h.masters m; frames = λ m. by m (g.frames m); objects = λ f. h.objects f ∙ g.objects f }
    where
      was : (m : ℕ) → (bones_at e m ≡ bones_at d m) × ((own_at e m).display ≡ (own_at d m).display) → ((bones_at d m ≡ bones_at c m) × ((own_at d m).display ≡ (own_at c m).display)) ⊎ IsEmpty (own_at d m) → ((bones_at e m ≡ bones_at c m) × ((own_at e m).display ≡ (own_at c m).display)) ⊎ IsEmpty (own_at e m)
      was m z (inl y) = inl (z.0 ∙ y.0, z.1 ∙ y.1)
      was m z (inr y) = inr (record { display = z.1 ∙ y.display; opened = z.0 ∙ y.opened })

      by : (m : ℕ) → ((bones_at e m ≡ bones_at d m) × ((own_at e m).display ≡ (own_at d m).display)) ⊎ IsEmpty (own_at e m) → ((bones_at e m ≡ bones_at c m) × ((own_at e m).display ≡ (own_at c m).display)) ⊎ IsEmpty (own_at e m)
      by m (inl z) = was m z (h.frames m)
      by m (inr z) = inr z

  pub tame_ended : (c d : All Moved) → IsTame c d → HaveEnded c d
  tame_ended c d t = record { masters = λ m. (t.tasks m).masters; frames = λ m. inl ((t.tasks m).opened, (t.tasks m).display); objects = t.objects }

  module _ (plan : Plan) (barrier : ℕ → Sight → Result Bool Raise) where
    abbrev without : Own → Own
    without own = record own { status = Terminated; pending = None; display = []; opened = []; waits = no_waits }

    without_ended : (n : ℕ) (c : All Moved) → HaveEnded c (on_own n without c)
    without_ended n c = record { masters = λ m. masters m (own_changed n without c m); frames = λ m. frames m (own_changed n without c m); objects = λ f. refl }
      where
        d : All Moved
        d = on_own n without c

        masters : (m : ℕ) → (own_at (on_own n without c) m ≡ own_at c m) ⊎ ((m ≡ n) × (own_at (on_own n without c) m ≡ without (own_at c n))) → (own_at (on_own n without c) m).masters ≡ (own_at c m).masters
        masters m (inl e) = ap (λ (o : Own). o.masters) e
        masters m (inr z) = ap (λ (o : Own). o.masters) z.1 ∙ ap (λ k. (own_at c k).masters) (sym z.0)

        frames : (m : ℕ) → (own_at (on_own n without c) m ≡ own_at c m) ⊎ ((m ≡ n) × (own_at (on_own n without c) m ≡ without (own_at c n))) → ((bones_at (on_own n without c) m ≡ bones_at c m) × ((own_at (on_own n without c) m).display ≡ (own_at c m).display)) ⊎ IsEmpty (own_at (on_own n without c) m)
        frames m (inl e) = inl (ap (λ (o : Own). bones o.opened) e, ap (λ (o : Own). o.display) e)
        frames m (inr z) = inr (subst IsEmpty (sym z.1) (record { display = refl; opened = refl }))

    pub terminate_ended : (n : ℕ) (c : All Moved) → HaveEnded c (effect.terminate noted plan barrier n c)
    terminate_ended n c =
        let d : All Moved = on_own n without c in
        ended_then c d (effect.refuse_queues noted plan barrier n d) (without_ended n c) (tame_ended d (effect.refuse_queues noted plan barrier n d) (refuse_queues_tame plan barrier n d))

    -- the task itself
    without_empty : (n : ℕ) (c : All Moved) → (own_at (on_own n without c) n ≡ own_at c n) ⊎ ((n ≡ n) × (own_at (on_own n without c) n ≡ without (own_at c n))) → IsEmpty (own_at (on_own n without c) n) ⊎ (own_at (on_own n without c) n ≡ own_at c n)
    without_empty n c (inl e) = inr e
    without_empty n c (inr z) = inl (subst IsEmpty (sym z.1) (record { display = refl; opened = refl }))

    -- it is out of range where it has not changed
    got_or_nobody : (ts : List (TaskAt Moved)) (n : ℕ) → (at (owns (changed n (λ t. record t { own = without t.own }) ts)) n ≡ without (at (owns ts) n)) ⊎ (at (owns (changed n (λ t. record t { own = without t.own }) ts)) n ≡ nobody)
    got_or_nobody [] n = inr refl
    got_or_nobody (t ∷ ts) zero = inl refl
    got_or_nobody (t ∷ ts) (suc n) = got_or_nobody ts n

    pub terminated_empty : (n : ℕ) (c : All Moved) → IsEmpty (own_at (effect.terminate noted plan barrier n c) n)
    terminated_empty n c =
        let d : All Moved = on_own n without c in
        ended_empty d (effect.refuse_queues noted plan barrier n d) n (tame_ended d (effect.refuse_queues noted plan barrier n d) (refuse_queues_tame plan barrier n d)) (by (got_or_nobody c.tasks n))
      where
        by : (at (owns (changed n (λ t. record t { own = without t.own }) c.tasks)) n ≡ without (at (owns c.tasks) n)) ⊎ (at (owns (changed n (λ t. record t { own = without t.own }) c.tasks)) n ≡ nobody) → IsEmpty (own_at (on_own n without c) n)
        by (inl e) = subst IsEmpty (sym e) (record { display = refl; opened = refl })
        by (inr e) = subst IsEmpty (sym e) (record { display = refl; opened = refl })

    module _ (ends : List ℕ → Bool) where
      pub terminate_holds : (n : ℕ) (c : All Moved) → ((m : ℕ) → ends (own_at c m).masters ≡ false → IsEmpty (own_at c m) ⊎ ((f : ℕ) → IsFrame f (bones_at c n) → (¬ Contains f (own_at c m).masters) ⊎ AreKept (IsPinned (around pins c.shared.objects)) (own_at c n))) → Holds ends c → Holds ends (effect.terminate noted plan barrier n c)
      terminate_holds n c free s =
          let d : All Moved = on_own n without c in
          stands_tamed pins ends d (effect.refuse_queues noted plan barrier n d) (refuse_queues_tame plan barrier n d)
          (emptied ends ends n (without (own_at c n)) (owns c.tasks) (owns d.tasks) (around pins c.shared.objects) (length c.shared.frames) (own_changed n without c) (record { display = refl; opened = refl }) refl refl free s)

      -- tasks that have no frame
      pub frameless_hold : (ns : List ℕ) (c : All Moved) → EachIs (λ n. bones_at c n ≡ []) ns → Holds ends c → Holds ends (effect.terminate_all noted plan barrier ns c)
      frameless_hold [] c h s = s
      frameless_hold (n ∷ ns) c h s =
          let d : All Moved = effect.terminate noted plan barrier n c in
          frameless_hold ns d (each_map (λ m. bones_at c m ≡ []) (λ m. bones_at d m ≡ []) ns (λ m. still d m) h.1)
          (terminate_holds n c (λ m e. inr (λ f g. inl (λ k. subst (IsFrame f) h.0 g))) s)
        where
          still : (d : All Moved) (m : ℕ) → bones_at c m ≡ [] → bones_at (effect.terminate noted plan barrier n c) m ≡ []
          still d m e = by ((terminate_ended n c).frames m)
            where
              by : ((bones_at (effect.terminate noted plan barrier n c) m ≡ bones_at c m) × ((own_at (effect.terminate noted plan barrier n c) m).display ≡ (own_at c m).display)) ⊎ IsEmpty (own_at (effect.terminate noted plan barrier n c) m) → bones_at (effect.terminate noted plan barrier n c) m ≡ []
              by (inl z) = z.0 ∙ e
              by (inr z) = z.opened

    -- A master is left.

    pub all_ended : (ns : List ℕ) (c : All Moved) → HaveEnded c (effect.terminate_all noted plan barrier ns c)
    all_ended [] c = none_ended c
    all_ended (n ∷ ns) c =
        let d : All Moved = effect.terminate noted plan barrier n c in
        ended_then c d (effect.terminate_all noted plan barrier ns d) (terminate_ended n c) (all_ended ns d)

    pub close_ended : (master : ℕ) (c : All Moved) → HaveEnded c (effect.close_master noted plan barrier master c)
    close_ended master c = all_ended (numbers (λ (t : TaskAt Moved). depends master t.own) 0 c.tasks) c

    all_empty : (ns : List ℕ) (c : All Moved) → EachIs (λ n. IsEmpty (own_at (effect.terminate_all noted plan barrier ns c) n)) ns
    all_empty [] c = tt
    all_empty (n ∷ ns) c =
        let d : All Moved = effect.terminate noted plan barrier n c in
        (ended_empty d (effect.terminate_all noted plan barrier ns d) n (all_ended ns d) (terminated_empty n c), all_empty ns d)

    module _ (master : ℕ) where
      abbrev ending : List ℕ → Bool
      ending ms = contains master ms

      dependents_hold : (ns : List ℕ) (c : All Moved) → EachIs (λ n. Contains master (own_at c n).masters) ns → Holds ending c → Holds ending (effect.terminate_all noted plan barrier ns c)
      dependents_hold [] c h s = s
      dependents_hold (n ∷ ns) c h s =
          let d : All Moved = effect.terminate noted plan barrier n c in
          dependents_hold ns d (each_map (λ m. Contains master (own_at c m).masters) (λ m. Contains master (own_at d m).masters) ns (λ m e. subst (Contains master) (sym ((terminate_ended n c).masters m)) e) h.1)
          (terminate_holds ending n c (λ m e. inr (λ f g. inl (λ k. true_is_not_false (sym (s.through n m f master g k h.0) ∙ e)))) s)

      and_second : (x y : Bool) → (x && y) ≡ true → y ≡ true
      and_second true y h = h
      and_second false y h = true_is_not_false (sym h)

      both_true : (x y : Bool) → x ≡ false → y ≡ true → (not x && y) ≡ true
      both_true true y h g = true_is_not_false h
      both_true false y h g = g

      pub close_holds : (c : All Moved) → Holds ending c → Holds (λ ms. false) (effect.close_master noted plan barrier master c)
      close_holds c s =
          let ns = numbers (λ (t : TaskAt Moved). depends master t.own) 0 c.tasks in
          let d : All Moved = effect.close_master noted plan barrier master c in
          let t : Holds ending d = dependents_hold ns c (each_map (λ n. depends master (own_at c n) ≡ true) (λ n. Contains master (own_at c n).masters) ns (λ n e. and_second (not (is_terminated (own_at c n).status)) (contains master (own_at c n).masters) e) (numbers_pass (depends master) c)) s in
          record {
            sees = λ m e. by m (contains master (own_at d m).masters) refl t;
            made = t.made;
            made_masters = t.made_masters;
            ended = t.ended;
            created = t.created;
            back = t.back;
            apart = t.apart;
            through = t.through;
            bodies = t.bodies;
          }
        where
          empty : (m : ℕ) → Contains master (own_at c m).masters → (b : Bool) → is_terminated (own_at c m).status ≡ b → IsEmpty (own_at (effect.close_master noted plan barrier master c) m)
          empty m h true e = ended_empty c (effect.close_master noted plan barrier master c) m (close_ended master c) (s.ended m e)
          empty m h false e =
              numbers_have (depends master) (λ n. IsEmpty (own_at (effect.close_master noted plan barrier master c) n)) c refl (all_empty (numbers (λ (t : TaskAt Moved). depends master t.own) 0 c.tasks) c) m
              (both_true (is_terminated (own_at c m).status) (contains master (own_at c m).masters) e h)

          by : (m : ℕ) (b : Bool) → contains master (own_at (effect.close_master noted plan barrier master c) m).masters ≡ b → Holds ending (effect.close_master noted plan barrier master c) → Sees (MaySee (owns (effect.close_master noted plan barrier master c).tasks) (around pins (effect.close_master noted plan barrier master c).shared.objects) (own_at (effect.close_master noted plan barrier master c) m).masters) (own_at (effect.close_master noted plan barrier master c) m).display (bones_at (effect.close_master noted plan barrier master c) m)
          by m true e t =
              sees_nothing (MaySee (owns (effect.close_master noted plan barrier master c).tasks) (around pins (effect.close_master noted plan barrier master c).shared.objects) (own_at (effect.close_master noted plan barrier master c) m).masters) (own_at (effect.close_master noted plan barrier master c) m)
              (empty m (subst (Contains master) ((close_ended master c).masters m) e) (is_terminated (own_at c m).status) refl)
          by m false e t = t.sees m e

      -- what depends on it is over then
      pub close_empty : (c : All Moved) → Holds ending c → (m : ℕ) → Contains master (own_at (effect.close_master noted plan barrier master c) m).masters → IsEmpty (own_at (effect.close_master noted plan barrier master c) m)
      close_empty c s m h = empty (is_terminated (own_at c m).status) refl
        where
          h' : Contains master (own_at c m).masters
          h' = subst (Contains master) ((close_ended master c).masters m) h

          empty : (b : Bool) → is_terminated (own_at c m).status ≡ b → IsEmpty (own_at (effect.close_master noted plan barrier master c) m)
          empty true e = ended_empty c (effect.close_master noted plan barrier master c) m (close_ended master c) (s.ended m e)
          empty false e =
              numbers_have (depends master) (λ n. IsEmpty (own_at (effect.close_master noted plan barrier master c) n)) c refl (all_empty (numbers (λ (t : TaskAt Moved). depends master t.own) 0 c.tasks) c) m
              (both_true (is_terminated (own_at c m).status) (contains master (own_at c m).masters) e h')
