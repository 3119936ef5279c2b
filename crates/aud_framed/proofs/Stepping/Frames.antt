-- What is said of open frames depends on what they were opened for, and on the frames that were seen then.
use Rattle.std.proofs.Common.{◌≡◌, ℕ, zero, suc, ℤ, List, [], ◌∷◌, length, Option, Some, None, Bool, true, false, refl, sym, subst, inl, inr}
use Rattle.aud_typed.specs.Tree.{Plan}
use Rattle.aud_meaning.specs.declared.state.Again.{Again}
use Rattle.aud_meaning.specs.declared.state.Pending.{Pending}
use Rattle.aud_meaning.specs.Configuration.{Purpose, for_body, for_block, for_loop, for_procedure, for_operation, for_entry, for_accept, Opened, Own, All}
use Rattle.aud_meaning.specs.Effects.{changed_first, closed_by, out_of, sets_value}
use Rattle.aud_code.specs.Places.{Spot}
use Rattle.aud_code.specs.Flat.{FlatLine, EndLine, Last}
use Rattle.aud_code.specs.Frames.{found, opener, Found, OpensLoop, OutOfLoops}
use Rattle.aud_code.specs.Sound.{IsStart}
use Rattle.aud_framed.specs.Held.{has_left, Holds, IsOpenAt, MayPend, OpenedBy, Entered, StandsAt, StandsBy}
use Rattle.aud_framed.specs.Calls.{RequeueFits}
use Rattle.aud_framed.proofs.Stepping.Parts.{Likens, like_frames, then_frames}

found_as : (P Q : EndLine → Type 0) → ((l : EndLine) → P l → Q l) → (x : Option EndLine) → Found x P → Found x Q
found_as P Q f None h = h
found_as P Q f (Some l) h = f l h

module _ (lines : List FlatLine) (seen : List ℕ) where
  by_as : (go on : Option ℕ → Type 0) → ((w : Option ℕ) → go w → on w) → (gone : Bool) (l : EndLine) (place : ℕ) (display : List ℕ) → StandsBy lines seen go gone l place display → StandsBy lines seen on gone l place display
  by_as go on f false l place display h = (h.0, f l.within h.1)
  by_as go on f true l place display h = (h.0, found_as (λ o. go o.within) (λ o. on o.within) (λ o. f o.within) (opener lines l.within) h.1)

  -- other frames stand around the same place
  pub stands_as : (os ps : List Opened) (pending : Option Pending) (s : Spot) (display : List ℕ) → ((w : Option ℕ) → Holds lines seen w s.returns os → Holds lines seen w s.returns ps) → StandsAt lines seen pending s display os → StandsAt lines seen pending s display ps
  stands_as os ps pending s display f h =
      let go : Option ℕ → Type 0 = (λ w. Holds lines seen w s.returns os) in
      let on : Option ℕ → Type 0 = (λ w. Holds lines seen w s.returns ps) in
      found_as (λ l. MayPend pending l.last × StandsBy lines seen go (has_left pending l.last) l s.place display) (λ l. MayPend pending l.last × StandsBy lines seen on (has_left pending l.last) l s.place display)
      (λ l k. (k.0, by_as go on f (has_left pending l.last) l s.place display k.1)) (found lines s.place) h

  -- The innermost frame changes, but for what it was opened for.

  first_holds : (f : Opened → Opened) → ((o : Opened) → (f o).purpose ≡ o.purpose) → ((o : Opened) → (f o).saved ≡ o.saved) → (w : Option ℕ) (rs : List ℕ) (os : List Opened) → Holds lines seen w rs os → Holds lines seen w rs (changed_first f os)
  first_holds f p s w rs [] h = h
  first_holds f p s None rs (o ∷ os) h =
      subst (λ d. Entered lines seen (λ w rs. Holds lines seen w rs os) (f o).purpose rs d os) (sym (s o))
      (subst (λ q. Entered lines seen (λ w rs. Holds lines seen w rs os) q rs o.saved os) (sym (p o)) h)
  first_holds f p s (Some m) rs (o ∷ os) h =
      subst (λ (d : List ℕ). Found (found lines m) (λ l. OpenedBy l.last (f o).purpose × (IsOpenAt lines seen m (length d) × Holds lines seen l.within rs os × IsStart lines m))) (sym (s o))
      (subst (λ q. Found (found lines m) (λ l. OpenedBy l.last q × (IsOpenAt lines seen m (length o.saved) × Holds lines seen l.within rs os × IsStart lines m))) (sym (p o)) h)

  -- A function's value waits.

  valued_holds : (z : ℤ) (w : Option ℕ) (rs : List ℕ) (os : List Opened) → Holds lines seen w rs os → Holds lines seen w rs (sets_value z os)
  valued_holds z w rs [] h = h
  valued_holds z w rs (o ∷ os) h = by w o.purpose h (λ v. valued_holds z v rs os)
    where
      by : (w : Option ℕ) (p : Purpose) → Holds lines seen w rs (record o { purpose = p } ∷ os) → ((v : Option ℕ) → Holds lines seen v rs os → Holds lines seen v rs (sets_value z os)) → Holds lines seen w rs (sets_value z (record o { purpose = p } ∷ os))
      by None for_body h on = h
      by None for_block h on = absurd h
      by None for_loop h on = absurd h
      by None (for_procedure r) h on = h
      by None (for_operation n r) h on = h
      by None (for_entry n id served back) h on = h
      by None (for_accept id) h on = absurd h
      by (Some m) for_body h on = h
      by (Some m) for_block h on =
          found_as (λ l. OpenedBy l.last for_block × (IsOpenAt lines seen m (length o.saved) × Holds lines seen l.within rs os × IsStart lines m))
          (λ l. OpenedBy l.last for_block × (IsOpenAt lines seen m (length o.saved) × Holds lines seen l.within rs (sets_value z os) × IsStart lines m))
          (λ l k. (k.0, (k.1.0, on l.within k.1.1, k.1.2))) (found lines m) h
      by (Some m) for_loop h on =
          found_as (λ l. OpenedBy l.last for_loop × (IsOpenAt lines seen m (length o.saved) × Holds lines seen l.within rs os × IsStart lines m))
          (λ l. OpenedBy l.last for_loop × (IsOpenAt lines seen m (length o.saved) × Holds lines seen l.within rs (sets_value z os) × IsStart lines m))
          (λ l k. (k.0, (k.1.0, on l.within k.1.1, k.1.2))) (found lines m) h
      by (Some m) (for_procedure r) h on = h
      by (Some m) (for_operation n r) h on = h
      by (Some m) (for_entry n id served back) h on = h
      by (Some m) (for_accept id) h on = h

-- What counts for calls and objects.

module _ (plan : Plan) (c : All Spot) (n : ℕ) where
  first_likens : (f : Opened → Opened) → ((o : Opened) → (f o).purpose ≡ o.purpose) → (os : List Opened) → Likens plan c n os (changed_first f os)
  first_likens f p [] = like_frames plan c n []
  first_likens f p (o ∷ os) = subst (λ q. Likens plan c n (o ∷ os) (record (f o) { purpose = q } ∷ os)) (sym (p o)) (by o.purpose)
    where
      by : (q : Purpose) → Likens plan c n (record o { purpose = q } ∷ os) (record (f o) { purpose = q } ∷ os)
      by q = record { within = λ w h. h; serves = λ h. h; calls = refl; objects = refl }

  valued_likens : (z : ℤ) (os : List Opened) → Likens plan c n os (sets_value z os)
  valued_likens z [] = like_frames plan c n []
  valued_likens z (o ∷ os) = by o.purpose (valued_likens z os)
    where
      by : (p : Purpose) → Likens plan c n os (sets_value z os) → Likens plan c n (record o { purpose = p } ∷ os) (sets_value z (record o { purpose = p } ∷ os))
      by for_body k = record { within = λ w h. h; serves = λ h. h; calls = refl; objects = refl }
      by for_block k = record { within = k.within; serves = λ h. (tt, k.serves h.1); calls = k.calls; objects = k.objects }
      by for_loop k = record { within = k.within; serves = λ h. (tt, k.serves h.1); calls = k.calls; objects = k.objects }
      by (for_procedure r) k = record { within = λ w h. h; serves = λ h. h; calls = refl; objects = refl }
      by (for_operation m r) k = record { within = λ w h. h; serves = λ h. h; calls = refl; objects = refl }
      by (for_entry m id served back) k = record { within = λ w h. h; serves = λ h. h; calls = refl; objects = refl }
      by (for_accept id) k = record { within = λ w h. h; serves = λ h. h; calls = refl; objects = refl }

-- What changes of one list of frames to another keeps all of this.
pub record Alike (plan : Plan) (lines : List FlatLine) (seen : List ℕ) (c : All Spot) (n : ℕ) (os ps : List Opened) : Type 0 where
  pub holds : (w : Option ℕ) (rs : List ℕ) → Holds lines seen w rs os → Holds lines seen w rs ps
  pub likens : Likens plan c n os ps

module _ (plan : Plan) (lines : List FlatLine) (seen : List ℕ) (c : All Spot) (n : ℕ) where
  pub same_frames : (os : List Opened) → Alike plan lines seen c n os os
  same_frames os = record { holds = λ w rs h. h; likens = like_frames plan c n os }

  pub first_frames : (f : Opened → Opened) → ((o : Opened) → (f o).purpose ≡ o.purpose) → ((o : Opened) → (f o).saved ≡ o.saved) → (os : List Opened) → Alike plan lines seen c n os (changed_first f os)
  first_frames f p s os = record { holds = λ w rs h. first_holds lines seen f p s w rs os h; likens = first_likens plan c n f p os }

  pub valued_frames : (z : ℤ) (os : List Opened) → Alike plan lines seen c n os (sets_value z os)
  valued_frames z os = record { holds = λ w rs h. valued_holds lines seen z w rs os h; likens = valued_likens plan c n z os }

-- Out of loops.

abbrev pub AreLoops : ℕ → List Opened → Type 0
AreLoops zero os = Unit {0}
AreLoops (suc n) [] = ⊥
AreLoops (suc n) (o ∷ os) = (o.purpose ≡ for_loop) × AreLoops n os

loop_opened : (last : Last) (p : Purpose) → OpensLoop last → OpenedBy last p → p ≡ for_loop
loop_opened last for_body l h = absurd h
loop_opened last for_block l h = absurd (subst OpensLoop h.1 l)
loop_opened last for_loop l h = refl
loop_opened last (for_procedure r) l h = absurd h
loop_opened last (for_operation n r) l h = absurd h
loop_opened last (for_entry n id served back) l h = absurd h
loop_opened last (for_accept id) l (inl h) = absurd (subst OpensLoop h.2 l)
loop_opened last (for_accept id) l (inr h) = absurd (subst OpensLoop h.1 l)

pub loops_left : (lines : List FlatLine) (seen : List ℕ) (go : Option ℕ → Type 0) (n : ℕ) (w : Option ℕ) (rs : List ℕ) (os : List Opened) → Holds lines seen w rs os → OutOfLoops lines n w go → AreLoops n os
loops_left lines seen go zero w rs os h g = tt
loops_left lines seen go (suc n) w rs [] h g = absurd h
loops_left lines seen go (suc n) None rs (o ∷ os) h g = absurd g
loops_left lines seen go (suc n) (Some m) rs (o ∷ os) h g = by (found lines m) h g (λ v. loops_left lines seen go n v rs os)
  where
    by : (x : Option EndLine) → Found x (λ l. OpenedBy l.last o.purpose × (IsOpenAt lines seen m (length o.saved) × Holds lines seen l.within rs os × IsStart lines m)) → Found x (λ l. OpensLoop l.last × OutOfLoops lines n l.within go) → ((v : Option ℕ) → Holds lines seen v rs os → OutOfLoops lines n v go → AreLoops n os) → (o.purpose ≡ for_loop) × AreLoops n os
    by None h g on = absurd h
    by (Some l) h g on = (loop_opened l.last o.purpose g.0 h.0, on l.within h.1.1 g.1)

module _ (plan : Plan) (c : All Spot) (n : ℕ) where
  pub loop_likens : (o : Opened) (os : List Opened) → o.purpose ≡ for_loop → Likens plan c n (o ∷ os) os
  loop_likens o os e = subst (λ p. Likens plan c n (record o { purpose = p } ∷ os) os) (sym e) (record { within = λ w h. h; serves = λ h. h.1; calls = refl; objects = refl })

  pub out_likens : (k : ℕ) (own : Own) → AreLoops k own.opened → Likens plan c n own.opened (out_of k own).opened
  out_likens zero own l = like_frames plan c n own.opened
  out_likens (suc k) own l = by own.opened l (out_likens k)
    where
      by : (os : List Opened) → AreLoops (suc k) os → ((x : Own) → AreLoops k x.opened → Likens plan c n x.opened (out_of k x).opened) → Likens plan c n os (out_of k (closed_by os own)).opened
      by [] l on = absurd l
      by (o ∷ os) l on =
          then_frames plan c n (o ∷ os) os (out_of k (record own { display = o.saved; opened = os })).opened (loop_likens o os l.0) (on (record own { display = o.saved; opened = os }) l.1)

  -- where the innermost accept or entry body makes its call again
  pub out_requeues : (r : Again) (k : ℕ) (own : Own) → AreLoops k own.opened → RequeueFits plan c r own.opened → RequeueFits plan c r (out_of k own).opened
  out_requeues r zero own l h = h
  out_requeues r (suc k) own l h = by own.opened l h (out_requeues r k)
    where
      popped : (o : Opened) (os : List Opened) (p : Purpose) → p ≡ for_loop → RequeueFits plan c r (record o { purpose = p } ∷ os) → RequeueFits plan c r os
      popped o os p e h = subst (λ q. RequeueFits plan c r (record o { purpose = q } ∷ os)) e h

      by : (os : List Opened) → AreLoops (suc k) os → RequeueFits plan c r os → ((x : Own) → AreLoops k x.opened → RequeueFits plan c r x.opened → RequeueFits plan c r (out_of k x).opened) → RequeueFits plan c r (out_of k (closed_by os own)).opened
      by [] l h on = absurd l
      by (o ∷ os) l h on = on (record own { display = o.saved; opened = os }) l.1 (popped o os o.purpose l.0 h)
