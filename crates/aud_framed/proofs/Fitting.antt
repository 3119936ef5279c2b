-- What a step asks fits the frames that a task holds.
use Rattle.std.proofs.Common.{◌≡◌, ℕ, zero, suc, List, [], ◌∷◌, length, Option, None, Some, Bool, true, false, refl, ap, subst, slice_get, inl, inr}
use Rattle.aud_meaning.specs.declared.state.Pending.{Pending}
use Rattle.aud_meaning.specs.Configuration.{Purpose, for_body, for_block, for_loop, for_procedure, for_operation, for_entry, for_accept, Opened}
use Rattle.aud_meaning.specs.Parts.{is_master}
use Rattle.aud_code.specs.Flat.{Flat, EndLine, Last}
use Rattle.aud_code.specs.Frames.{found, opener, Found, At, LoopAround, OpensLoop, OutOfLoops, WaysAt}
use Rattle.aud_code.specs.Sound.{IsStart}
use Rattle.aud_over.specs.Standing.{bones, LastIsMaster, LeavesNoMaster}
use Rattle.aud_framed.specs.Held.{has_left, MayPend, OpenedBy, StandsBy, CallerStands, Entered, Holds}
use Rattle.aud_framed.specs.Ways.{FitsHeld}

module _ (code : Flat) (seen : List ℕ) where
  -- a loop's frame is no master's
  no_master : (o : Opened) (last : Last) → OpensLoop last → OpenedBy last o.purpose → is_master o ≡ false
  no_master o last loop by = at o.purpose refl by
    where
      at : (p : Purpose) → o.purpose ≡ p → OpenedBy last p → is_master o ≡ false
      at for_body e h = absurd h
      at for_block e h = absurd (subst OpensLoop h.1 loop)
      at for_loop e h = ap (λ p. is_master (record o { purpose = p })) e
      at (for_procedure r) e h = absurd h
      at (for_operation n r) e h = absurd h
      at (for_entry n id s b) e h = absurd h
      at (for_accept id) e (inl h) = absurd (subst OpensLoop h.2 loop)
      at (for_accept id) e (inr h) = absurd (subst OpensLoop h.1 loop)

  way_fits : (loops to : ℕ) (w : Option ℕ) (returns : List ℕ) (os : List Opened) → Holds code.lines seen w returns os → OutOfLoops code.lines loops w (At code.lines to) → LeavesNoMaster loops (bones os)
  way_fits zero to w returns os h g = tt
  way_fits (suc n) to w returns [] h g = absurd h
  way_fits (suc n) to None returns (o ∷ os) h g = absurd g
  way_fits (suc n) to (Some m) returns (o ∷ os) h g = by (found code.lines m) h g (λ v. way_fits n to v returns os)
    where
      by : (x : Option EndLine) → Found x (λ l. OpenedBy l.last o.purpose × ((slice_get seen m ≡ Some (length o.saved)) × Holds code.lines seen l.within returns os × IsStart code.lines m)) → Found x (λ l. OpensLoop l.last × OutOfLoops code.lines n l.within (At code.lines to)) → ((v : Option ℕ) → Holds code.lines seen v returns os → OutOfLoops code.lines n v (At code.lines to) → LeavesNoMaster n (bones os)) → LeavesNoMaster (suc n) (bones (o ∷ os))
      by None h g on = absurd h
      by (Some l) h g on = (no_master o l.last g.0 h.0, on l.within h.1.1 g.1)

  turn_fits : (w : Option ℕ) (returns : List ℕ) (os : List Opened) → Holds code.lines seen w returns os → (go : Option ℕ → Type 0) → LoopAround code.lines w go → LeavesNoMaster 1 (bones os)
  turn_fits w returns [] h go g = absurd h
  turn_fits None returns (o ∷ os) h go g = absurd g
  turn_fits (Some m) returns (o ∷ os) h go g = by (found code.lines m) h g
    where
      by : (x : Option EndLine) → Found x (λ l. OpenedBy l.last o.purpose × ((slice_get seen m ≡ Some (length o.saved)) × Holds code.lines seen l.within returns os × IsStart code.lines m)) → Found x (λ l. OpensLoop l.last × go l.within) → LeavesNoMaster 1 (bones (o ∷ os))
      by None h g = absurd h
      by (Some l) h g = (no_master o l.last g.0 h.0, tt)

  -- whatever holds around the caller's place holds
  caller_holds : (R : Type 0) (go : Option ℕ → List ℕ → Type 0) (pending : Option Pending) (returns saved : List ℕ) → ((w : Option ℕ) (rs : List ℕ) → go w rs → R) → CallerStands code.lines seen go pending returns saved → R
  caller_holds R go pending [] saved f h = absurd h
  caller_holds R go pending (r ∷ rs) saved f h = by (found code.lines r) h
    where
      around : (x : Option EndLine) → Found x (λ o. go o.within rs) → R
      around None h = absurd h
      around (Some o) h = f o.within rs h

      at : (gone : Bool) (l : EndLine) → StandsBy code.lines seen (λ w. go w rs) gone l r saved → R
      at false l h = f l.within rs h.1
      at true l h = around (opener code.lines l.within) h.1

      by : (x : Option EndLine) → Found x (λ l. MayPend pending l.last × StandsBy code.lines seen (λ w. go w rs) (has_left pending l.last) l r saved) → R
      by None h = absurd h
      by (Some l) h = at (has_left pending l.last) l h.1

  last_fits : (w : Option ℕ) (returns : List ℕ) (os : List Opened) → Holds code.lines seen w returns os → LastIsMaster (bones os)
  last_fits w returns [] h = absurd h
  last_fits w returns (o ∷ []) h = by w h
    where
      alone : (p : Purpose) → o.purpose ≡ p → Entered code.lines seen (λ w rs. Holds code.lines seen w rs []) p returns o.saved [] → is_master o ≡ true
      alone for_body e h = ap (λ p. is_master (record o { purpose = p })) e
      alone for_block e h = absurd h
      alone for_loop e h = absurd h
      alone (for_procedure r) e h = ap (λ p. is_master (record o { purpose = p })) e
      alone (for_operation n r) e h = caller_holds (is_master o ≡ true) (λ w rs. Holds code.lines seen w rs []) None returns o.saved (λ w rs x. absurd x) h.1
      alone (for_entry n id s b) e h = caller_holds (is_master o ≡ true) (λ w rs. Holds code.lines seen w rs []) b.pending returns o.saved (λ w rs x. absurd x) h.1
      alone (for_accept id) e h = absurd h

      none : (x : Option EndLine) (m : ℕ) → Found x (λ l. OpenedBy l.last o.purpose × ((slice_get seen m ≡ Some (length o.saved)) × Holds code.lines seen l.within returns [] × IsStart code.lines m)) → is_master o ≡ true
      none None m h = absurd h
      none (Some l) m h = absurd (h.1.1)

      by : (w : Option ℕ) → Holds code.lines seen w returns (o ∷ []) → is_master o ≡ true
      by None h = alone o.purpose refl h
      by (Some m) h = none (found code.lines m) m h
  last_fits w returns (o ∷ p ∷ os) h = by w h (λ v rs. last_fits v rs (p ∷ os))
    where
      entered : ((v : Option ℕ) (rs : List ℕ) → Holds code.lines seen v rs (p ∷ os) → LastIsMaster (bones (p ∷ os))) → (q : Purpose) → Entered code.lines seen (λ v rs. Holds code.lines seen v rs (p ∷ os)) q returns o.saved (p ∷ os) → LastIsMaster (bones (p ∷ os))
      entered on for_body h = outermost returns h
        where
          outermost : (rs : List ℕ) → Entered code.lines seen (λ v rs. Holds code.lines seen v rs (p ∷ os)) for_body rs o.saved (p ∷ os) → LastIsMaster (bones (p ∷ os))
          outermost [] h = absurd h
          outermost (r ∷ rs) h = absurd h
      entered on for_block h = absurd h
      entered on for_loop h = absurd h
      entered on (for_procedure r) h = caller_holds (LastIsMaster (bones (p ∷ os))) (λ v rs. Holds code.lines seen v rs (p ∷ os)) None returns o.saved on h.1
      entered on (for_operation n r) h = caller_holds (LastIsMaster (bones (p ∷ os))) (λ v rs. Holds code.lines seen v rs (p ∷ os)) None returns o.saved on h.1
      entered on (for_entry n id s b) h = caller_holds (LastIsMaster (bones (p ∷ os))) (λ v rs. Holds code.lines seen v rs (p ∷ os)) b.pending returns o.saved on h.1
      entered on (for_accept id) h = absurd h

      opened : (x : Option EndLine) (m : ℕ) → Found x (λ l. OpenedBy l.last o.purpose × ((slice_get seen m ≡ Some (length o.saved)) × Holds code.lines seen l.within returns (p ∷ os) × IsStart code.lines m)) → ((v : Option ℕ) (rs : List ℕ) → Holds code.lines seen v rs (p ∷ os) → LastIsMaster (bones (p ∷ os))) → LastIsMaster (bones (p ∷ os))
      opened None m h on = absurd h
      opened (Some l) m h on = on l.within returns h.1.1

      by : (w : Option ℕ) → Holds code.lines seen w returns (o ∷ p ∷ os) → ((v : Option ℕ) (rs : List ℕ) → Holds code.lines seen v rs (p ∷ os) → LastIsMaster (bones (p ∷ os))) → LastIsMaster (bones (o ∷ p ∷ os))
      by None h on = entered on o.purpose h
      by (Some m) h on = opened (found code.lines m) m h on

pub held_fits : (code : Flat) (seen : List ℕ) (w : Option ℕ) (returns : List ℕ) (os : List Opened) → Holds code.lines seen w returns os → FitsHeld code seen w returns os
held_fits code seen w returns os h = record {
  way = λ loops to g. way_fits code seen loops to w returns os h g;
  turn = λ ways g. turn_fits code seen w returns os h (λ v. WaysAt code.lines v w ways) g;
  last = last_fits code seen w returns os h;
}
