-- Where a task stands behind what it does alone.
use Rattle.std.proofs.Common.{◌≡◌, ◌≤◌, ℕ, zero, suc, List, [], ◌∷◌, ◌++◌, take, length, length-append, Option, Some, None, refl, sym, ap, ◌∙◌, subst, slice_get, arith}
use Rattle.std.proofs.lemmas.Option.{same_Some}
use Rattle.aud_typed.specs.Tree.{For, Plan}
use Rattle.aud_meaning.specs.declared.state.Pending.{Pending}
use Rattle.aud_meaning.specs.Configuration.{for_block, for_loop, for_procedure, Returning, Opened, Own}
use Rattle.aud_meaning.specs.Effects.{out_of}
use Rattle.aud_meaning.specs.Parts.{unit_of}
use Rattle.aud_code.specs.Places.{Spot, Way, Guard, goes_there, goes_way, loops_of}
use Rattle.aud_code.specs.Instruction.{Ending, Loop, Block, Proc}
use Rattle.aud_code.specs.Flat.{Flat, EndLine, Last, Does, Continues, Guards, start_at}
use Rattle.aud_code.specs.Frames.{found, Found, IsWritten, At, frame_inside, WaysAt, WayFits, LastFits}
use Rattle.aud_code.specs.Seen.{IsSeen, WaysSee, LastSees, inside}
use Rattle.aud_code.specs.Sound.{Counts, IsSound, IsStatement}
use Rattle.aud_framed.specs.Held.{CallerStands, Entered, has_left, Holds, MayPend, OpenedBy, StandsAt, StandsBy}
use Rattle.aud_framed.specs.Framed.{HasLevels}
use Rattle.aud_framed.specs.Ways.{StandsAtStep}
use Rattle.aud_framed.specs.Stepping.{AtLeastTwo, DoesPlain, DoesSome, HasWays, LeadsWhere, OpensNone}
use Rattle.aud_framed.proofs.Steps.{Leads, as_many, framed_start, here, inside_framed, led, leads_on, part_framed, sees, stood, turn_framed, way_framed}
use Rattle.aud_framed.proofs.Stepping.Asked.{line_of}
use Rattle.aud_framed.proofs.Stepping.Frames.{AreLoops, loops_left}

none_within : (e : Ending) → OpensNone e → (place : ℕ) (w : Option ℕ) → frame_inside e place w ≡ w
none_within (Loop f) h place w = absurd h
none_within (Block region) h place w = absurd h
none_within e h place w = refl

none_inside : (e : Ending) → OpensNone e → (n : ℕ) → inside e n ≡ n
none_inside (Loop f) h n = absurd h
none_inside (Block region) h n = absurd h
none_inside e h n = refl

pub one_longer : (ns : List ℕ) (n : ℕ) → length (ns ++ n ∷ []) ≡ suc (length ns)
one_longer ns n = let l = length-append ns (n ∷ []) in omega (arith, l)

pub taken : (n : ℕ) (ns : List ℕ) → n ≤ length ns → length (take n ns) ≡ n
taken zero [] h = refl
taken zero (x ∷ xs) h = refl
taken (suc n) [] h = absurd (omega (arith, h))
taken (suc n) (x ∷ xs) h = let less : n ≤ length xs = omega (arith, h) in ap suc (taken n xs less)

second : (ns : List ℕ) → AtLeastTwo ns → (n : ℕ) × (slice_get ns 1 ≡ Some n)
second [] h = absurd h
second (n ∷ []) h = absurd h
second (n ∷ m ∷ ns) h = (m, refl)

first : (ns : List ℕ) → AtLeastTwo ns → (n : ℕ) × (slice_get ns 0 ≡ Some n)
first [] h = absurd h
first (n ∷ []) h = absurd h
first (n ∷ m ∷ ns) h = (n, refl)

some_statement : (last : Last) → DoesSome last → IsStatement last
some_statement last d = subst IsStatement (sym d.1) tt

module _ (code : Flat) (table : List Counts) (tasks barriers seen : List ℕ) (sound : IsSound code) (fits : IsSeen code table tasks barriers seen) (ways : HasWays code) where
  first_of : (next n m : ℕ) (v w : Option ℕ) (ns : List ℕ) → slice_get ns 0 ≡ Some next → WaysAt code.lines v w ns → WaysSee seen 0 n m ns → Leads code table tasks barriers seen sound fits next n v
  first_of next n m v w [] e h k = absurd cc
  first_of next n m v w (x ∷ xs) e h k = subst (λ y. Leads code table tasks barriers seen sound fits y n v) (same_Some x next e) (record { at = h.0; many = as_many code table tasks barriers seen sound fits (slice_get seen x) n k.0 })

  module _ (place : ℕ) (returns display : List ℕ) (os : List Opened) (l : EndLine) (s : StandsAtStep code seen place l returns display os) where
    abbrev pub spot : Spot
    spot = record { place = place; returns = returns }

    leads_where : LeadsWhere l.last l.ways
    leads_where = let k = line_of place code.lines l s.is in ways k.0 l k.1

    -- an exception is pending there
    pub pends_there : (p : Pending) → DoesSome l.last → StandsAt code.lines seen (Some p) spot display os
    pends_there p d =
        subst (λ x. Found x (λ b. MayPend (Some p) b.last × StandsBy code.lines seen (λ w. Holds code.lines seen w returns os) (has_left (Some p) b.last) b place display)) (sym s.is)
        (subst (λ last. MayPend (Some p) last × StandsBy code.lines seen (λ w. Holds code.lines seen w returns os) (has_left (Some p) last) l place display) (sym d.1)
        (tt, here code table tasks barriers seen sound fits place returns display os l s))

    -- any part of a step that opens no frame
    pub part_goes : (part : ℕ) → DoesPlain l.last → StandsAt code.lines seen None (goes_there (slice_get l.ways part) spot) display os
    part_goes part d = by (slice_get l.ways part) refl
      where
        by : (o : Option ℕ) → slice_get l.ways part ≡ o → StandsAt code.lines seen None (goes_there o spot) display os
        by None e = s.stands
        by (Some next) e = part_framed code table tasks barriers seen sound fits place returns display os l s part next d.0 d.1.0 (none_within d.0 d.1.1 place) (none_inside d.0 d.1.1) e

    -- what follows any step
    pub first_goes : DoesSome l.last → StandsAt code.lines seen None (goes_there (slice_get l.ways 0) spot) display os
    first_goes d = by (slice_get l.ways 0) refl
      where
        by : (o : Option ℕ) → slice_get l.ways 0 ≡ o → StandsAt code.lines seen None (goes_there o spot) display os
        by None e = s.stands
        by (Some next) e =
            let n = length display in
            let f = subst (λ last. LastFits code.lines last place l) d.1 (led code table tasks barriers seen sound fits place returns display os l s) in
            let g = subst (λ last. LastSees code tasks barriers seen last n l) d.1 (sees code table tasks barriers seen sound fits place returns display os l s).last in
            leads_on code table tasks barriers seen sound fits next n l.within returns display os
            (first_of next n (inside d.0 n) l.within (frame_inside d.0 place l.within) l.ways e f.0 g.1.0) refl
            (here code table tasks barriers seen sound fits place returns display os l s).1

    -- what guards statements leads nowhere
    pub guards_stay : (part : ℕ) (gs : List Guard) → l.last ≡ Guards gs → StandsAt code.lines seen None (goes_there (slice_get l.ways part) spot) display os
    guards_stay part gs e = subst (λ ns. StandsAt code.lines seen None (goes_there (slice_get ns part) spot) display os) (sym (subst (λ last. LeadsWhere last l.ways) e leads_where)) s.stands

    -- into a loop or block
    pub loop_goes : (f : For) (o : Opened) (more : List ℕ) → l.last ≡ Does (Loop f) → o.purpose ≡ for_loop → o.saved ≡ display → length more ≡ suc (length display) → StandsAt code.lines seen None (goes_there (slice_get l.ways 1) spot) more (o ∷ os)
    loop_goes f o more e p saved longer =
        let n = second l.ways (subst (λ last. LeadsWhere last l.ways) e leads_where) in
        subst (λ x. StandsAt code.lines seen None (goes_there x spot) more (o ∷ os)) (sym n.1)
        (inside_framed code table tasks barriers seen sound fits place returns display os l s 0 n.0 more o (Loop f) e refl (λ m. refl) n.1
        (subst (λ q. OpenedBy (Does (Loop f)) q) (sym p) (f, refl)) saved longer)

    pub block_goes : (region : ℕ) (o : Opened) (more : List ℕ) → l.last ≡ Does (Block region) → o.purpose ≡ for_block → o.saved ≡ display → length more ≡ suc (length display) → StandsAt code.lines seen None (goes_there (slice_get l.ways 1) spot) more (o ∷ os)
    block_goes region o more e p saved longer =
        let n = second l.ways (subst (λ last. LeadsWhere last l.ways) e leads_where) in
        subst (λ x. StandsAt code.lines seen None (goes_there x spot) more (o ∷ os)) (sym n.1)
        (inside_framed code table tasks barriers seen sound fits place returns display os l s 0 n.0 more o (Block region) e refl (λ m. refl) n.1
        (subst (λ q. OpenedBy (Does (Block region)) q) (sym p) (region, refl)) saved longer)

    -- a body sees no more frames than are open, besides its own
    pub levels_fit : (plan : Plan) (unit : ℕ) → HasLevels plan code tasks seen → l.last ≡ Does (Proc unit) → (unit_of plan unit).level ≤ length display
    levels_fit plan unit levels e =
        let n = length display in
        let g = subst (λ last. LastSees code tasks barriers seen last n l) e (sees code table tasks barriers seen sound fits place returns display os l s).last in
        let h : (1 ≤ suc (unit_of plan unit).level) × (suc (unit_of plan unit).level ≤ suc n) = subst (λ o. IsWritten o (λ m. (1 ≤ m) × (m ≤ suc n))) (levels.bodies unit) g.0 in
        let most = h.1 in omega (arith, most)

    -- into a procedure's body
    pub procedure_goes : (plan : Plan) (unit frame : ℕ) (o : Opened) (r : Returning) → HasLevels plan code tasks seen → l.last ≡ Does (Proc unit) → o.purpose ≡ for_procedure r → o.saved ≡ display → StandsAt code.lines seen None (record { place = start_at code unit; returns = place ∷ returns }) (take (unit_of plan unit).level display ++ frame ∷ []) (o ∷ os)
    procedure_goes plan unit frame o r levels e p saved =
        let level = (unit_of plan unit).level in
        stood code.lines seen (start_at code unit) (suc level) None (found code.lines (start_at code unit)) (framed_start code table tasks barriers seen sound fits unit) (levels.bodies unit) (λ w. Holds code.lines seen w (place ∷ returns) (o ∷ os))
        (subst (λ q. Entered code.lines seen (λ w rs. Holds code.lines seen w rs os) q (place ∷ returns) o.saved os) (sym p) (
          subst (λ x. Found x (λ b. IsStatement b.last)) (sym s.is) (some_statement l.last (Proc unit, e)),
          subst (λ d. CallerStands code.lines seen (λ w rs. Holds code.lines seen w rs os) None (place ∷ returns) d) (sym saved) s.stands,
        )) (take level display ++ frame ∷ []) (one_longer (take level display) frame ∙ ap suc (taken level display (levels_fit plan unit levels e)))

  -- out of loops by exit, return or requeue
  pub way_goes : (place : ℕ) (returns : List ℕ) (own : Own) (l : EndLine) → StandsAtStep code seen place l returns own.display own.opened → DoesSome l.last → StandsAt code.lines seen None (goes_way l.exit (record { place = place; returns = returns })) (out_of (loops_of l.exit) own).display (out_of (loops_of l.exit) own).opened
  way_goes place returns own l s d = by l.exit refl
    where
      by : (o : Option Way) → l.exit ≡ o → StandsAt code.lines seen None (goes_way o (record { place = place; returns = returns })) (out_of (loops_of o) own).display (out_of (loops_of o) own).opened
      by None e = s.stands
      by (Some w) e = way_framed code table tasks barriers seen sound fits place returns own d.0 w l s d.1 e

  -- what is left are loops
  pub way_loops : (place : ℕ) (returns : List ℕ) (own : Own) (l : EndLine) → StandsAtStep code seen place l returns own.display own.opened → DoesSome l.last → AreLoops (loops_of l.exit) own.opened
  way_loops place returns own l s d = by l.exit f.1.1.0
    where
      f : LastFits code.lines (Does d.0) place l
      f = subst (λ last. LastFits code.lines last place l) d.1 (led code table tasks barriers seen sound fits place returns own.display own.opened l s)

      by : (o : Option Way) → WayFits code.lines l.within o → AreLoops (loops_of o) own.opened
      by None h = tt
      by (Some w) h = loops_left code.lines seen (At code.lines w.to) w.loops l.within returns own.opened (here code table tasks barriers seen sound fits place returns own.display own.opened l s).1 h

  -- The turns of a loop.

  module _ (place : ℕ) (returns display : List ℕ) (o : Opened) (os : List Opened) (f : For) (l : EndLine) (s : StandsAtStep code seen place l returns display (o ∷ os)) (continues : l.last ≡ Continues f) where
    turns : AtLeastTwo l.ways
    turns = subst (λ last. LeadsWhere last l.ways) continues (leads_where place returns display (o ∷ os) l s)

    pub turn_goes : StandsAt code.lines seen None (goes_there (slice_get l.ways 1) (record { place = place; returns = returns })) display (o ∷ os)
    turn_goes =
        let n = second l.ways turns in
        subst (λ x. StandsAt code.lines seen None (goes_there x (record { place = place; returns = returns })) display (o ∷ os)) (sym n.1)
        ((turn_framed code table tasks barriers seen sound fits place 0 n.0 returns display o os f l s continues).0 n.1)

    pub loop_left : StandsAt code.lines seen None (goes_there (slice_get l.ways 0) (record { place = place; returns = returns })) o.saved os
    loop_left =
        let n = first l.ways turns in
        subst (λ x. StandsAt code.lines seen None (goes_there x (record { place = place; returns = returns })) o.saved os) (sym n.1)
        ((turn_framed code table tasks barriers seen sound fits place 0 n.0 returns display o os f l s continues).1 n.1)

    -- the frame is a loop's
    pub turn_loop : o.purpose ≡ for_loop
    turn_loop =
        let h = subst (λ last. LastFits code.lines last place l) continues (led code table tasks barriers seen sound fits place returns display (o ∷ os) l s) in
        (loops_left code.lines seen (λ v. WaysAt code.lines v l.within l.ways) 1 l.within returns (o ∷ os) (here code table tasks barriers seen sound fits place returns display (o ∷ os) l s).1 h).0
