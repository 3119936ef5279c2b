-- What a task's place tells of the frames that it holds.
use Rattle.std.proofs.Common.{◌≡◌, ◌⊎◌, ℕ, List, [], ◌∷◌, length, Option, Some, None, Bool, true, false, sym, ◌∙◌, inl, inr}
use Rattle.aud_typed.specs.Tree.{Plan}
use Rattle.aud_meaning.specs.declared.state.Pending.{Pending}
use Rattle.aud_meaning.specs.declared.state.Status.{Status}
use Rattle.aud_meaning.specs.declared.state.Status.TheVariants.{Created, Running, Activating, Accepting, Delaying, Calling, Completed, Terminated}
use Rattle.aud_meaning.specs.Configuration.{Purpose, for_body, for_block, for_loop, for_procedure, for_operation, for_entry, for_accept, Opened, TaskAt}
use Rattle.aud_code.specs.Places.{Spot}
use Rattle.aud_code.specs.Flat.{EndLine, Flat, FlatLine, Last}
use Rattle.aud_code.specs.Frames.{found, opener, Found}
use Rattle.aud_code.specs.Sound.{IsStart}
use Rattle.aud_framed.specs.Held.{CallerStands, Entered, GoesBack, Holds, IsOpenAt, MayPend, OpenedBy, StandsAt, StandsBy, has_left}
use Rattle.aud_framed.specs.Waiting.{TaskFramed}
use Rattle.aud_framed.proofs.Running.Closed.{not_calling, not_running}
use Rattle.aud_framed.proofs.Running.Turns.{IsUnderWay}

-- Frames that a task holds.

-- what holds of each frame that goes back from an entry's body
abbrev pub BacksGo : Purpose → Type 0
BacksGo for_body = Unit {0}
BacksGo for_block = Unit {0}
BacksGo for_loop = Unit {0}
BacksGo (for_procedure r) = Unit {0}
BacksGo (for_operation n r) = Unit {0}
BacksGo (for_entry n id served back) = back.status ≡ Completed → ⊥
BacksGo (for_accept id) = Unit {0}

abbrev pub AllGo : List Opened → Type 0
AllGo [] = Unit {0}
AllGo (o ∷ os) = BacksGo o.purpose × AllGo os

module _ (lines : List FlatLine) (seen : List ℕ) where
  -- what holds around a place where a task stands
  pub around : (R : Type 0) (go : Option ℕ → Type 0) (gone : Bool) (l : EndLine) (place : ℕ) (display : List ℕ) → ((w : Option ℕ) → go w → R) → StandsBy lines seen go gone l place display → R
  around R go false l place display f h = f l.within h.1
  around R go true l place display f h = by (opener lines l.within) h.1
    where
      by : (x : Option EndLine) → Found x (λ o. go o.within) → R
      by None h = absurd h
      by (Some o) h = f o.within h

  pub stands_holds : (R : Type 0) (pending : Option Pending) (s : Spot) (display : List ℕ) (os : List Opened) → ((w : Option ℕ) → Holds lines seen w s.returns os → R) → StandsAt lines seen pending s display os → R
  stands_holds R pending s display os f h = by (found lines s.place) h
    where
      by : (x : Option EndLine) → Found x (λ l. MayPend pending l.last × StandsBy lines seen (λ w. Holds lines seen w s.returns os) (has_left pending l.last) l s.place display) → R
      by None h = absurd h
      by (Some l) h = around R (λ w. Holds lines seen w s.returns os) (has_left pending l.last) l s.place display f h.1

  caller_holds : (R : Type 0) (os : List Opened) (pending : Option Pending) (returns saved : List ℕ) → ((w : Option ℕ) (rs : List ℕ) → Holds lines seen w rs os → R) → CallerStands lines seen (λ w rs. Holds lines seen w rs os) pending returns saved → R
  caller_holds R os pending [] saved f h = absurd h
  caller_holds R os pending (r ∷ rs) saved f h = stands_holds R pending (record { place = r; returns = rs }) saved os (λ w x. f w rs x) h

  back_goes : (status : Status) → (status ≡ Running) ⊎ (status ≡ Calling) → status ≡ Completed → ⊥
  back_goes status (inl e) done = not_running (sym e ∙ done)
  back_goes status (inr e) done = not_calling (sym e ∙ done)

  pub holds_go : (w : Option ℕ) (returns : List ℕ) (os : List Opened) → Holds lines seen w returns os → AllGo os
  holds_go w returns [] h = tt
  holds_go w returns (o ∷ os) h = by w h (λ v rs. holds_go v rs os)
    where
      inner : (last : Last) (p : Purpose) → OpenedBy last p → BacksGo p
      inner last for_body h = tt
      inner last for_block h = tt
      inner last for_loop h = tt
      inner last (for_procedure r) h = tt
      inner last (for_operation n r) h = tt
      inner last (for_entry n id served back) h = absurd h
      inner last (for_accept id) h = tt

      outermost : (rs : List ℕ) (ps : List Opened) → Entered lines seen (λ v us. Holds lines seen v us ps) for_body rs o.saved ps → AllGo ps
      outermost [] [] h = tt
      outermost [] (p ∷ ps) h = absurd h
      outermost (r ∷ rs) ps h = absurd h

      entered : (p : Purpose) → Entered lines seen (λ v rs. Holds lines seen v rs os) p returns o.saved os → ((v : Option ℕ) (rs : List ℕ) → Holds lines seen v rs os → AllGo os) → BacksGo p × AllGo os
      entered for_body h on = (tt, outermost returns os h)
      entered for_block h on = absurd h
      entered for_loop h on = absurd h
      entered (for_procedure r) h on = (tt, caller_holds (AllGo os) os None returns o.saved on h.1)
      entered (for_operation n r) h on = (tt, caller_holds (AllGo os) os None returns o.saved on h.1)
      entered (for_entry n id served back) h on = (back_goes back.status (goes h.0), caller_holds (AllGo os) os back.pending returns o.saved on h.1)
        where
          goes : GoesBack lines back returns → (back.status ≡ Running) ⊎ (back.status ≡ Calling)
          goes (inl e) = inl e
          goes (inr e) = inr e.0
      entered (for_accept id) h on = absurd h

      opened : (x : Option EndLine) (m : ℕ) → Found x (λ l. OpenedBy l.last o.purpose × (IsOpenAt lines seen m (length o.saved) × Holds lines seen l.within returns os × IsStart lines m)) → ((v : Option ℕ) (rs : List ℕ) → Holds lines seen v rs os → AllGo os) → AllGo (o ∷ os)
      opened None m h on = absurd h
      opened (Some l) m h on = (inner l.last o.purpose h.0, on l.within returns h.1.1)

      by : (w : Option ℕ) → Holds lines seen w returns (o ∷ os) → ((v : Option ℕ) (rs : List ℕ) → Holds lines seen v rs os → AllGo os) → AllGo (o ∷ os)
      by None h on = entered o.purpose h on
      by (Some m) h on = opened (found lines m) m h on

-- the frames of a task under way
pub under_way_stands : (plan : Plan) (code : Flat) (seen : List ℕ) (status : Status) (t : TaskAt Spot) → IsUnderWay status → TaskFramed plan code seen status t → StandsAt code.lines seen t.own.pending t.control t.own.display t.own.opened
under_way_stands plan code seen Created t u h = absurd u
under_way_stands plan code seen Running t u h = h
under_way_stands plan code seen Activating t u h = h.0
under_way_stands plan code seen Accepting t u h = h.0
under_way_stands plan code seen Delaying t u h = h.0
under_way_stands plan code seen Calling t u h = h.0
under_way_stands plan code seen Completed t u h = absurd u
under_way_stands plan code seen Terminated t u h = absurd u
