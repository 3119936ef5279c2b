-- Bodies and accepts that are begun, and ends of constructs.
use Rattle.std.proofs.Common.{◌≡◌, ℕ, suc, List, [], ◌∷◌, length, Option, None, Some, Bool, false, refl, sym, ap, ◌∙◌, subst, slice_get, inl, inr}
use Rattle.aud_meaning.specs.declared.state.Construct.{Construct}
use Rattle.aud_meaning.specs.declared.state.Construct.TheVariants as construct
use Rattle.aud_meaning.specs.declared.state.OpenAccept.{OpenAccept}
use Rattle.aud_meaning.specs.declared.state.Pending.{Pending}
use Rattle.aud_meaning.specs.declared.state.Resumed.{Resumed}
use Rattle.aud_meaning.specs.Configuration.{Purpose, for_body, for_block, for_loop, for_procedure, for_operation, for_entry, for_accept, Opened}
use Rattle.aud_code.specs.Instruction.{Accept, Select}
use Rattle.aud_code.specs.Flat.{Flat, EndLine, Last, Does, Continues, Guards, Ends, Leaves, back_to, ended_in, start_at}
use Rattle.aud_code.specs.Places.{Spot}
use Rattle.aud_code.specs.Frames.{found, opener, Found, IsWritten, BodyAt, LastFits, OpensBlock, OpensAccept, Behind}
use Rattle.aud_code.specs.Seen.{IsSeen, DoingSees}
use Rattle.aud_code.specs.Sound.{Counts, IsSound, IsStart, IsStatement}
use Rattle.aud_framed.specs.Held.{has_left, MayPend, OpenedBy, IsOpenAt, StandsBy, CallerStands, AtStatement, GoesBack, Entered, Holds, StandsAt}
use Rattle.aud_framed.specs.Waiting.{IsOffered}
use Rattle.aud_framed.specs.Ways.{StandsAtStep, IsCalled, LeadsTo}
use Rattle.aud_framed.proofs.Steps.{stood, framed_start, leads_on, as_many, here, led, block_framed, accept_framed}

module _ (code : Flat) (table : List Counts) (tasks barriers seen : List ℕ) (sound : IsSound code) (fits : IsSeen code table tasks barriers seen) where
  -- a body is begun, with what is said of its caller
  begun : (unit level : ℕ) (returns more : List ℕ) (o : Opened) (os : List Opened) → slice_get seen (start_at code unit) ≡ Some (suc level) → length more ≡ suc level → (p : Purpose) → o.purpose ≡ p → Entered code.lines seen (λ w rs. Holds code.lines seen w rs os) p returns o.saved os → StandsAt code.lines seen None (record { place = start_at code unit; returns = returns }) more (o ∷ os)
  begun unit level returns more o os written longer p is entered =
      stood code.lines seen (start_at code unit) (suc level) None (found code.lines (start_at code unit)) (framed_start code table tasks barriers seen sound fits unit) written (λ w. Holds code.lines seen w returns (o ∷ os))
      (subst (λ q. Entered code.lines seen (λ w rs. Holds code.lines seen w rs os) q returns o.saved os) (sym is) entered) more longer

  pub begins_framed : (unit level : ℕ) (more : List ℕ) (o : Opened) → slice_get seen (start_at code unit) ≡ Some (suc level) → length more ≡ suc level → o.purpose ≡ for_body → StandsAt code.lines seen None (record { place = start_at code unit; returns = [] }) more (o ∷ [])
  begins_framed unit level more o written longer is = begun unit level [] more o [] written longer for_body is (tt {0})

  pub enters_framed : (place level unit : ℕ) (returns display more : List ℕ) (o : Opened) (os : List Opened) (l : EndLine) → StandsAtStep code seen place l returns display os → IsStatement l.last → slice_get seen (start_at code unit) ≡ Some (suc level) → length more ≡ suc level → IsCalled o.purpose → o.saved ≡ display → StandsAt code.lines seen None (record { place = start_at code unit; returns = place ∷ returns }) more (o ∷ os)
  enters_framed place level unit returns display more o os l s statement written longer called saved = by o.purpose refl called
    where
      caller : AtStatement code.lines (place ∷ returns) × CallerStands code.lines seen (λ w rs. Holds code.lines seen w rs os) None (place ∷ returns) o.saved
      caller = (
        subst (λ x. Found x (λ b. IsStatement b.last)) (sym s.is) statement,
        subst (λ d. CallerStands code.lines seen (λ w rs. Holds code.lines seen w rs os) None (place ∷ returns) d) (sym saved) s.stands,
      )

      by : (p : Purpose) → o.purpose ≡ p → IsCalled p → StandsAt code.lines seen None (record { place = start_at code unit; returns = place ∷ returns }) more (o ∷ os)
      by for_body is h = absurd h
      by for_block is h = absurd h
      by for_loop is h = absurd h
      by (for_procedure r) is h = begun unit level (place ∷ returns) more o os written longer (for_procedure r) is caller
      by (for_operation n r) is h = begun unit level (place ∷ returns) more o os written longer (for_operation n r) is caller
      by (for_entry n id served back) is h = absurd h
      by (for_accept id) is h = absurd h

  pub serves_framed : (place level unit object id : ℕ) (served : Bool) (back : Resumed) (returns display more : List ℕ) (o : Opened) (os : List Opened) → StandsAt code.lines seen back.pending (record { place = place; returns = returns }) display os → GoesBack code.lines back (place ∷ returns) → slice_get seen (start_at code unit) ≡ Some (suc level) → length more ≡ suc level → o.purpose ≡ for_entry object id served back → o.saved ≡ display → StandsAt code.lines seen None (record { place = start_at code unit; returns = place ∷ returns }) more (o ∷ os)
  serves_framed place level unit object id served back returns display more o os stands goes written longer is saved =
      begun unit level (place ∷ returns) more o os written longer (for_entry object id served back) is (
        goes,
        subst (λ d. CallerStands code.lines seen (λ w rs. Holds code.lines seen w rs os) back.pending (place ∷ returns) d) (sym saved) stands,
      )

  -- What an accept does.

  opened_accept : (last : Last) (id : ℕ) → OpensAccept last → OpenedBy last (for_accept id)
  opened_accept (Does (Accept entry region)) id h = inl (entry, region, refl)
  opened_accept (Does (Select has_else)) id h = inr (has_else, refl)
  opened_accept (Continues f) id h = absurd h
  opened_accept (Guards gs) id h = absurd h
  opened_accept (Ends c next) id h = absurd h
  opened_accept (Leaves loops to) id h = absurd h
  opened_accept (Does e) id h = absurd h

  pub accepts_framed : (place b region id : ℕ) (returns display more : List ℕ) (a : OpenAccept) (o : Opened) (os : List Opened) (l : EndLine) → StandsAtStep code seen place l returns display os → OpensAccept l.last → IsOffered code.lines seen l place (length display) a → a.region ≡ Some region → slice_get l.bodies a.alternative ≡ Some b → o.purpose ≡ for_accept id → o.saved ≡ display → length more ≡ suc (length display) → StandsAt code.lines seen None (record { place = b; returns = returns }) more (o ∷ os)
  accepts_framed place b region id returns display more a o os l s opens offered does body is saved longer =
      let n = length display in
      let g = subst (λ x. IsWritten x (λ y. BodyAt code.lines a.region l.within place y × DoingSees seen a.region n y)) body offered in
      let h = subst (λ x. BodyAt code.lines x l.within place b × DoingSees seen x n b) does g in
      leads_on code table tasks barriers seen sound fits b (suc n) (Some place) returns more (o ∷ os) (record { at = h.0; many = as_many code table tasks barriers seen sound fits (slice_get seen b) (suc n) h.1 }) longer
      (subst (λ x. Found x (λ k. OpenedBy k.last o.purpose × (IsOpenAt code.lines seen place (length o.saved) × Holds code.lines seen k.within returns os × IsStart code.lines place))) (sym s.is) (
        subst (λ p. OpenedBy l.last p) (sym is) (opened_accept l.last id opens),
        ((here code table tasks barriers seen sound fits place returns display os l s).0 ∙ ap (λ (d : List ℕ). Some (length d)) (sym saved), (here code table tasks barriers seen sound fits place returns display os l s).1, s.begins),
      ))

  -- Behind ends.

  pub statement_stays : (pending : Option Pending) (last : Last) → IsStatement last → MayPend pending last × (has_left pending last ≡ false)
  statement_stays None (Does e) h = (tt {0}, refl)
  statement_stays (Some p) (Does e) h = (tt {0}, refl)
  statement_stays pending (Continues f) h = absurd h
  statement_stays pending (Guards gs) h = absurd h
  statement_stays pending (Ends c next) h = absurd h
  statement_stays pending (Leaves n next) h = absurd h

  back_framed : (pending : Option Pending) (returns saved : List ℕ) (os : List Opened) → AtStatement code.lines returns → CallerStands code.lines seen (λ w rs. Holds code.lines seen w rs os) None returns saved → StandsAt code.lines seen pending (back_to code returns) saved os
  back_framed pending [] saved os h s = absurd h
  back_framed pending (r ∷ rs) saved os h s = by (found code.lines r) h s
    where
      by : (x : Option EndLine) → Found x (λ b. IsStatement b.last) → Found x (λ b. MayPend None b.last × StandsBy code.lines seen (λ w. Holds code.lines seen w rs os) (has_left None b.last) b r saved) → Found x (λ b. MayPend pending b.last × StandsBy code.lines seen (λ w. Holds code.lines seen w rs os) (has_left pending b.last) b r saved)
      by None h s = absurd h
      by (Some b) h s = let t = statement_stays pending b.last h in (t.0, subst (λ gone. StandsBy code.lines seen (λ w. Holds code.lines seen w rs os) gone b r saved) (sym t.1) s.1)

  goes_back : (back : Resumed) (returns saved : List ℕ) (os : List Opened) → GoesBack code.lines back returns → CallerStands code.lines seen (λ w rs. Holds code.lines seen w rs os) back.pending returns saved → GoesBack code.lines back ((back_to code returns).place ∷ []) × StandsAt code.lines seen back.pending (back_to code returns) saved os
  goes_back back [] saved os h s = absurd s
  goes_back back (r ∷ rs) saved os (inl h) s = (inl h, s)
  goes_back back (r ∷ rs) saved os (inr h) s = (inr h, s)

  -- behind a body that was entered for this
  pub behind_body : (around : Type 0) (p : Purpose) (returns saved : List ℕ) (os : List Opened) → Entered code.lines seen (λ w rs. Holds code.lines seen w rs os) p returns saved os → LeadsTo code seen around p (back_to code returns) saved os
  behind_body around for_body returns saved os h = tt {0}
  behind_body around for_block returns saved os h = absurd h
  behind_body around for_loop returns saved os h = absurd h
  behind_body around (for_procedure r) returns saved os h = λ p. back_framed p returns saved os h.0 h.1
  behind_body around (for_operation n r) returns saved os h = λ p. back_framed p returns saved os h.0 h.1
  behind_body around (for_entry n id served back) returns saved os h = goes_back back returns saved os h.0 h.1
  behind_body around (for_accept id) returns saved os h = absurd h

  -- a block or an accept opened no loop's frame
  pub behind_block : (around : Type 0) (last : Last) (p : Purpose) (s : Spot) (saved : List ℕ) (os : List Opened) → OpensBlock last → OpenedBy last p → around → LeadsTo code seen around p s saved os
  behind_block around last for_body s saved os b h a = absurd h
  behind_block around last for_block s saved os b h a = a
  behind_block around last for_loop s saved os b h a = absurd (subst OpensBlock h.1 b)
  behind_block around last (for_procedure r) s saved os b h a = absurd h
  behind_block around last (for_operation n r) s saved os b h a = absurd h
  behind_block around last (for_entry n id served back) s saved os b h a = absurd h
  behind_block around last (for_accept id) s saved os b h a = a

  pub behind_accept : (around : Type 0) (last : Last) (p : Purpose) (s : Spot) (saved : List ℕ) (os : List Opened) → OpensAccept last → OpenedBy last p → around → LeadsTo code seen around p s saved os
  behind_accept around last for_body s saved os b h a = absurd h
  behind_accept around last for_block s saved os b h a = a
  behind_accept around last for_loop s saved os b h a = absurd (subst OpensAccept h.1 b)
  behind_accept around last (for_procedure r) s saved os b h a = absurd h
  behind_accept around last (for_operation n r) s saved os b h a = absurd h
  behind_accept around last (for_entry n id served back) s saved os b h a = absurd h
  behind_accept around last (for_accept id) s saved os b h a = a

  module _ (place next : ℕ) (returns display : List ℕ) (o : Opened) (os : List Opened) (l : EndLine) (s : StandsAtStep code seen place l returns display (o ∷ os)) where
    held : Holds code.lines seen l.within returns (o ∷ os)
    held = (here code table tasks barriers seen sound fits place returns display (o ∷ os) l s).1

    fit : LastFits code.lines l.last place l
    fit = led code table tasks barriers seen sound fits place returns display (o ∷ os) l s

    -- the step that opened the innermost frame
    by_opener : (P : EndLine → Type 0) (R : Type 0) (w : Option ℕ) → Found (opener code.lines w) P → Holds code.lines seen w returns (o ∷ os) → ((b : EndLine) → P b → OpenedBy b.last o.purpose → R) → R
    by_opener P R None f h go = absurd f
    by_opener P R (Some m) f h go = by (found code.lines m) f h
      where
        by : (x : Option EndLine) → Found x P → Found x (λ b. OpenedBy b.last o.purpose × (IsOpenAt code.lines seen m (length o.saved) × Holds code.lines seen b.within returns os × IsStart code.lines m)) → R
        by None f h = absurd f
        by (Some b) f h = go b f h.0

    at_end : (c : Construct) → l.last ≡ Ends c next → LeadsTo code seen (StandsAt code.lines seen None (ended_in code (Ends c next) (record { place = place; returns = returns })) o.saved os) o.purpose (ended_in code (Ends c next) (record { place = place; returns = returns })) o.saved os
    at_end construct.Unit ends =
        let outside : l.within ≡ None = subst (λ last. LastFits code.lines last place l) ends fit in
        behind_body (StandsAt code.lines seen None (back_to code returns) o.saved os) o.purpose returns o.saved os (subst (λ w. Holds code.lines seen w returns (o ∷ os)) outside held)
    at_end construct.Block ends =
        let t : Spot = record { place = next; returns = returns } in
        by_opener (λ b. OpensBlock b.last × Behind code.lines next l.out b.within) (LeadsTo code seen (StandsAt code.lines seen None t o.saved os) o.purpose t o.saved os) l.within (subst (λ last. LastFits code.lines last place l) ends fit) held
        (λ b f by. behind_block (StandsAt code.lines seen None t o.saved os) b.last o.purpose t o.saved os f.0 by (block_framed code table tasks barriers seen sound fits place next returns display o os l s ends))
    at_end construct.Accept ends =
        let t : Spot = record { place = next; returns = returns } in
        by_opener (λ b. OpensAccept b.last × Behind code.lines next l.out b.within) (LeadsTo code seen (StandsAt code.lines seen None t o.saved os) o.purpose t o.saved os) l.within (subst (λ last. LastFits code.lines last place l) ends fit) held
        (λ b f by. behind_accept (StandsAt code.lines seen None t o.saved os) b.last o.purpose t o.saved os f.0 by (accept_framed code table tasks barriers seen sound fits place next returns display o os l s ends))

    pub ends_framed : (c : Construct) → l.last ≡ Ends c next → LeadsTo code seen (StandsAt code.lines seen None (ended_in code l.last (record { place = place; returns = returns })) o.saved os) o.purpose (ended_in code l.last (record { place = place; returns = returns })) o.saved os
    ends_framed c ends = subst (λ last. LeadsTo code seen (StandsAt code.lines seen None (ended_in code last (record { place = place; returns = returns })) o.saved os) o.purpose (ended_in code last (record { place = place; returns = returns })) o.saved os) (sym ends) (at_end c ends)
