-- Where those frames are open that are seen, a frame is named that is open or around an object, and no other one.
use Rattle.std.proofs.Common.{◌≡◌, ◌<◌, ℕ, zero, suc, List, [], ◌∷◌, length, Bool, true, false, ◌||◌, refl, sym, ap, ◌∙◌, subst, arith, inl, inr}
use Rattle.std.specs.Prelude.{◌⊎◌, nat_eq}
use Rattle.std.proofs.Math.Path.{fun_ext}
use Rattle.std.proofs.lemmas.Bool.{eqb-true, eq-eqb}
use Rattle.aud_meaning.specs.Configuration.{Opened, Own, Object, All}
use Rattle.aud_meaning.specs.Parts.{any, contains, nobody, no_object, owns}
use Rattle.aud_over.specs.Over.{own_names, object_names, is_named, is_served, frames_left, calls_left, with_kept, forgotten}
use Rattle.aud_meaning.specs.Ties.Named.{opened_name}
use Rattle.aud_over.specs.Standing.{AreStacked, around, at, Bone, bones, IsFrame, IsHeld, MaySee, EachIs, Sees, StandsBut, Stands, opens_it, is_open, with_open}
use Rattle.aud_over.proofs.Bones.{or_any}
use Rattle.aud_over.proofs.Calls.{true_is_not_false}

or_first : (x y : Bool) → x ≡ true → (x || y) ≡ true
or_first true y h = refl
or_first false y h = true_is_not_false (sym h)

or_second : (x y : Bool) → y ≡ true → (x || y) ≡ true
or_second true y h = refl
or_second false y h = h

or_either : (x y : Bool) → (x || y) ≡ true → (x ≡ true) ⊎ (y ≡ true)
or_either true y h = inl refl
or_either false y h = inr h

both_ways : (x y : Bool) → (x ≡ true → y ≡ true) → (y ≡ true → x ≡ true) → x ≡ y
both_ways true true h g = refl
both_ways false false h g = refl
both_ways true false h g = sym (h refl)
both_ways false true h g = g refl

any_at : (test : Own → Bool) (os : List Own) → any test os ≡ true → (n : ℕ) × (test (at os n) ≡ true)
any_at test [] h = true_is_not_false (sym h)
any_at test (o ∷ os) h = by (or_either (test o) (any test os) h) (any_at test os)
  where
    by : (test o ≡ true) ⊎ (any test os ≡ true) → (any test os ≡ true → (n : ℕ) × (test (at os n) ≡ true)) → (n : ℕ) × (test (at (o ∷ os) n) ≡ true)
    by (inl e) rest = (0, e)
    by (inr e) rest = let r = rest e in (suc r.0, r.1)

at_any : (test : Own → Bool) (os : List Own) (n : ℕ) → test nobody ≡ false → test (at os n) ≡ true → any test os ≡ true
at_any test [] n none h = true_is_not_false (sym h ∙ none)
at_any test (o ∷ os) zero none h = or_first (test o) (any test os) h
at_any test (o ∷ os) (suc n) none h = or_second (test o) (any test os) (at_any test os n none h)

-- a frame that is open
frame_opens : (f : ℕ) (ys : List Opened) → IsFrame f (bones ys) → any (λ (o : Opened). nat_eq f o.frame) ys ≡ true
frame_opens f [] h = absurd h
frame_opens f (o ∷ ys) (inl e) = or_first (nat_eq f o.frame) (any (λ (x : Opened). nat_eq f x.frame) ys) (eq-eqb f o.frame e)
frame_opens f (o ∷ ys) (inr h) = or_second (nat_eq f o.frame) (any (λ (x : Opened). nat_eq f x.frame) ys) (frame_opens f ys h)

opens_names : (f : ℕ) (ys : List Opened) → any (λ (o : Opened). nat_eq f o.frame) ys ≡ true → opened_name f ys ≡ true
opens_names f [] h = h
opens_names f (o ∷ ys) h = by (or_either (nat_eq f o.frame) (any (λ (x : Opened). nat_eq f x.frame) ys) h) (opens_names f ys)
  where
    by : (nat_eq f o.frame ≡ true) ⊎ (any (λ (x : Opened). nat_eq f x.frame) ys ≡ true) → (any (λ (x : Opened). nat_eq f x.frame) ys ≡ true → opened_name f ys ≡ true) → opened_name f (o ∷ ys) ≡ true
    by (inl e) rest = or_first (nat_eq f o.frame) (contains f o.saved || opened_name f ys) e
    by (inr e) rest = or_second (nat_eq f o.frame) (contains f o.saved || opened_name f ys) (or_second (contains f o.saved) (opened_name f ys) (rest e))

held_frame : (ms : List ℕ) (f : ℕ) (bs : List Bone) → IsHeld ms f bs → IsFrame f bs
held_frame ms f [] h = absurd h
held_frame ms f (b ∷ bs) (inl h) = h.2
held_frame ms f (b ∷ bs) (inr h) = inr (held_frame ms f bs h)

each_contains : (p : ℕ → Type 0) (ds : List ℕ) → EachIs p ds → (f : ℕ) → contains f ds ≡ true → p f
each_contains p [] h f e = true_is_not_false (sym e)
each_contains p (d ∷ ds) h f e = by (or_either (nat_eq f d) (contains f ds) e) (each_contains p ds h.1 f)
  where
    by : (nat_eq f d ≡ true) ⊎ (contains f ds ≡ true) → (contains f ds ≡ true → p f) → p f
    by (inl z) rest = subst p (sym (eqb-true f d z)) h.0
    by (inr z) rest = rest z

-- what is seen now or was seen before is open, or may be seen
sees_now : (p q : ℕ → Type 0) (ds : List ℕ) (ys : List Opened) → Sees p ds (bones ys) → ((f : ℕ) → IsFrame f (bones ys) → q f) → ((f : ℕ) → p f → q f) → (f : ℕ) → contains f ds ≡ true → q f
sees_now p q ds [] h here there f e = there f (each_contains p ds h f e)
sees_now p q ds (o ∷ ys) h here there f e = by (each_contains (λ g. IsFrame g (bones (o ∷ ys)) ⊎ p g) ds h.0 f e)
  where
    by : IsFrame f (bones (o ∷ ys)) ⊎ p f → q f
    by (inl x) = here f x
    by (inr x) = there f x

sees_before : (p q : ℕ → Type 0) (ds : List ℕ) (ys : List Opened) → Sees p ds (bones ys) → ((f : ℕ) → IsFrame f (bones ys) → q f) → ((f : ℕ) → p f → q f) → (f : ℕ) → opened_name f ys ≡ true → q f
sees_before p q ds [] h here there f e = true_is_not_false (sym e)
sees_before p q ds (o ∷ ys) h here there f e = by (or_either (nat_eq f o.frame) (contains f o.saved || opened_name f ys) e) (sees_before p q o.saved ys h.1 (λ g z. here g (inr z)) there f)
  where
    later : (contains f o.saved ≡ true) ⊎ (opened_name f ys ≡ true) → (opened_name f ys ≡ true → q f) → q f
    later (inl z) rest = sees_now p q o.saved ys h.1 (λ g w. here g (inr w)) there f z
    later (inr z) rest = rest z

    by : (nat_eq f o.frame ≡ true) ⊎ ((contains f o.saved || opened_name f ys) ≡ true) → (opened_name f ys ≡ true → q f) → q f
    by (inl z) rest = here f (inl (eqb-true f o.frame z))
    by (inr z) rest = later (or_either (contains f o.saved) (opened_name f ys) z) rest

module _ (os : List Own) (objects : List Object) (frames : ℕ) (s : StandsBut (λ masters. false) os objects frames) where
  abbrev Open : ℕ → Type 0
  Open f = is_open os objects f ≡ true

  opens_open : (f : ℕ) → any (opens_it f) os ≡ true → Open f
  opens_open f h = or_second (nat_eq f 0) (any (opens_it f) os || any (object_names f) objects) (or_first (any (opens_it f) os) (any (object_names f) objects) h)

  frame_open : (n f : ℕ) → IsFrame f (bones (at os n).opened) → Open f
  frame_open n f h = opens_open f (at_any (opens_it f) os n refl (frame_opens f (at os n).opened h))

  object_open : (f : ℕ) → any (object_names f) objects ≡ true → Open f
  object_open f h = or_second (nat_eq f 0) (any (opens_it f) os || any (object_names f) objects) (or_second (any (opens_it f) os) (any (object_names f) objects) h)

  may_open : (ms : List ℕ) (f : ℕ) → MaySee os objects ms f → Open f
  may_open ms f (inl (inl e)) = or_first (nat_eq f 0) (any (opens_it f) os || any (object_names f) objects) (eq-eqb f 0 e)
  may_open ms f (inl (inr e)) = object_open f e
  may_open ms f (inr h) = frame_open h.0 f (held_frame ms f (bones (at os h.0).opened) h.1)

  own_open : (n f : ℕ) → own_names f (at os n) ≡ true → Open f
  own_open n f h = by (or_either (contains f (at os n).display) (opened_name f (at os n).opened) h)
    where
      p : ℕ → Type 0
      p = MaySee os objects (at os n).masters

      by : (contains f (at os n).display ≡ true) ⊎ (opened_name f (at os n).opened ≡ true) → Open f
      by (inl e) = sees_now (MaySee os objects (at os n).masters) Open (at os n).display (at os n).opened (s.sees n refl) (frame_open n) (may_open (at os n).masters) f e
      by (inr e) = sees_before (MaySee os objects (at os n).masters) Open (at os n).display (at os n).opened (s.sees n refl) (frame_open n) (may_open (at os n).masters) f e

  named_open : (f : ℕ) → is_named os objects f ≡ true → Open f
  named_open f h = by (or_either (nat_eq f 0) (any (own_names f) os || any (object_names f) objects) h)
    where
      later : (any (own_names f) os ≡ true) ⊎ (any (object_names f) objects ≡ true) → Open f
      later (inl e) = let r = any_at (own_names f) os e in own_open r.0 f r.1
      later (inr e) = object_open f e

      by : (nat_eq f 0 ≡ true) ⊎ ((any (own_names f) os || any (object_names f) objects) ≡ true) → Open f
      by (inl e) = or_first (nat_eq f 0) (any (opens_it f) os || any (object_names f) objects) e
      by (inr e) = later (or_either (any (own_names f) os) (any (object_names f) objects) e)

  open_named : (f : ℕ) → Open f → is_named os objects f ≡ true
  open_named f h = by (or_either (nat_eq f 0) (any (opens_it f) os || any (object_names f) objects) h)
    where
      own : (any (opens_it f) os ≡ true) → any (own_names f) os ≡ true
      own e = let r = any_at (opens_it f) os e in
          at_any (own_names f) os r.0 refl (or_second (contains f (at os r.0).display) (opened_name f (at os r.0).opened) (opens_names f (at os r.0).opened r.1))

      later : (any (opens_it f) os ≡ true) ⊎ (any (object_names f) objects ≡ true) → is_named os objects f ≡ true
      later (inl e) = or_second (nat_eq f 0) (any (own_names f) os || any (object_names f) objects) (or_first (any (own_names f) os) (any (object_names f) objects) (own e))
      later (inr e) = or_second (nat_eq f 0) (any (own_names f) os || any (object_names f) objects) (or_second (any (own_names f) os) (any (object_names f) objects) e)

      by : (nat_eq f 0 ≡ true) ⊎ ((any (opens_it f) os || any (object_names f) objects) ≡ true) → is_named os objects f ≡ true
      by (inl e) = or_first (nat_eq f 0) (any (own_names f) os || any (object_names f) objects) e
      by (inr e) = later (or_either (any (opens_it f) os) (any (object_names f) objects) e)

  pub same_frames : is_named os objects ≡ is_open os objects
  same_frames = fun_ext (λ f. both_ways (is_named os objects f) (is_open os objects f) (named_open f) (open_named f))

pub named_is_open : {C : Type 0} (pins : List ℕ) (c : All C) (f : ℕ) → Stands pins c → is_named (owns c.tasks) c.shared.objects f ≡ true → is_open (owns c.tasks) (around pins c.shared.objects) f ≡ true
named_is_open pins c f s h = named_open (owns c.tasks) (around pins c.shared.objects) (length c.shared.frames) s f (more (or_either (nat_eq f 0) (any (own_names f) (owns c.tasks) || any (object_names f) c.shared.objects) h))
  where
    os : List Own
    os = owns c.tasks

    around_any : any (object_names f) c.shared.objects ≡ true → any (object_names f) (around pins c.shared.objects) ≡ true
    around_any e = or_any f c.shared.objects (record no_object { display = pins } ∷ []) e

    later : (any (own_names f) (owns c.tasks) ≡ true) ⊎ (any (object_names f) c.shared.objects ≡ true) → is_named (owns c.tasks) (around pins c.shared.objects) f ≡ true
    later (inl e) = or_second (nat_eq f 0) (any (own_names f) (owns c.tasks) || any (object_names f) (around pins c.shared.objects)) (or_first (any (own_names f) (owns c.tasks)) (any (object_names f) (around pins c.shared.objects)) e)
    later (inr e) = or_second (nat_eq f 0) (any (own_names f) (owns c.tasks) || any (object_names f) (around pins c.shared.objects)) (or_second (any (own_names f) (owns c.tasks)) (any (object_names f) (around pins c.shared.objects)) (around_any e))

    more : (nat_eq f 0 ≡ true) ⊎ ((any (own_names f) (owns c.tasks) || any (object_names f) c.shared.objects) ≡ true) → is_named (owns c.tasks) (around pins c.shared.objects) f ≡ true
    more (inl e) = or_first (nat_eq f 0) (any (own_names f) (owns c.tasks) || any (object_names f) (around pins c.shared.objects)) e
    more (inr e) = later (or_either (any (own_names f) (owns c.tasks)) (any (object_names f) c.shared.objects) e)

-- an object that names no frame
nothing_more : (f : ℕ) (objects : List Object) → any (object_names f) (around [] objects) ≡ any (object_names f) objects
nothing_more f [] = refl
nothing_more f (o ∷ objects) = ap (λ b. object_names f o || b) (nothing_more f objects)

pub open_left : {C : Type 0} (c : All C) → Stands [] c → forgotten c ≡ with_open [] c
open_left c s =
    ap (λ (test : ℕ → Bool). with_kept (frames_left test 0 c.shared.frames) (calls_left (is_served (owns c.tasks)) 0 c.shared.calls) c)
    (fun_ext (λ f. ap (λ b. nat_eq f 0 || (any (own_names f) (owns c.tasks) || b)) (sym (nothing_more f c.shared.objects)))
    ∙ same_frames (owns c.tasks) (around [] c.shared.objects) (length c.shared.frames) s)

-- The innermost frame of a task.

pub innermost_alone : {C : Type 0} (pins : List ℕ) (c : All C) (n : ℕ) (o : Opened) (os : List Opened) → Stands pins c → (at (owns c.tasks) n).opened ≡ o ∷ os → (¬ IsFrame o.frame (bones os)) × ((m : ℕ) → ¬ (m ≡ n) → ¬ IsFrame o.frame (bones (at (owns c.tasks) m).opened))
innermost_alone pins c n o os s e = (
  λ h. let q : o.frame < o.frame = (subst (λ ys. AreStacked (bones ys)) e (s.back n)).0.1 o.frame h in omega (arith, q),
  λ m other h. other (s.apart m n o.frame h (subst (λ ys. IsFrame o.frame (bones ys)) (sym e) (inl refl))),
)
