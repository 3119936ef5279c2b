-- Where exceptions go that are pending.
use Rattle.std.proofs.Common.{◌≡◌, ◌≤◌, ℕ, suc, ◌+◌, List, [], ◌∷◌, drop, length, Option, None, Some, Bool, true, false, refl, sym, ap, ◌∙◌, subst, slice_get, arith, inl, inr, ◌||◌}
use Rattle.std.specs.Prelude.{if◌then◌else◌}
use Rattle.std.proofs.lemmas.Option.{same_Some}
use Rattle.aud_typed.specs.Tree.{For}
use Rattle.aud_typed.specs.declared.program.Exception.{Exception}
use Rattle.aud_meaning.specs.declared.state.Construct.TheVariants as construct
use Rattle.aud_meaning.specs.declared.state.Pending.{Pending}
use Rattle.aud_meaning.specs.Items.{names_it}
use Rattle.aud_meaning.specs.Configuration.{Purpose, for_body, for_block, for_loop, for_procedure, for_operation, for_entry, for_accept, Opened, Own}
use Rattle.aud_meaning.specs.Effects.{is_loop, out_of_loops, out_of_loops_by}
use Rattle.aud_code.specs.Places.{Spot, Guard, guarded}
use Rattle.aud_code.specs.Instruction.{Loop}
use Rattle.aud_code.specs.Flat.{Flat, FlatLine, instructs, end, EndLine, Last, Does, Continues, Guards, Ends, Leaves, back_to, end_at, end_by, end_from, left_by, out_of_end}
use Rattle.aud_code.specs.Frames.{found_from, found, opener, Found, IsWritten, LastFits, FitsBy, OpensBlock, OpensAccept, GoTo, OutFits, OutOf, TakesExceptions, IsEnd, GuardsAt, Behind}
use Rattle.aud_code.specs.Seen.{IsSeen, Fewer, WithinSees, OutSees, GuardsSee, LastSees}
use Rattle.aud_code.specs.Sound.{Counts, IsSound, IsStart}
use Rattle.aud_framed.specs.Held.{has_left, MayPend, OpenedBy, IsOpenAt, StandsBy, Entered, Holds, StandsAt}
use Rattle.aud_framed.specs.Ways.{Pends, LeadsTo, LeavesConstruct}
use Rattle.aud_framed.proofs.Steps.{Leads, leads_on, as_many, less_one, less_many, end_sees, led_from}
use Rattle.aud_framed.proofs.Bodies.{behind_body, behind_block, behind_accept}

module _ (code : Flat) (table : List Counts) (tasks barriers seen : List ℕ) (sound : IsSound code) (fits : IsSeen code table tasks barriers seen) where
  record Reached (out : ℕ) (returns : List ℕ) (own : Own) : Type 0 where
    within : Option ℕ
    at : GoTo code.lines within out
    many : slice_get seen out ≡ Some (length own.display)
    holds : Holds code.lines seen within returns own.opened

  no_loop : (go : Option ℕ → List ℕ → Type 0) (p : Purpose) (returns saved : List ℕ) (os : List Opened) → Entered code.lines seen go p returns saved os → is_loop p ≡ false
  no_loop go for_body returns saved os h = refl
  no_loop go for_block returns saved os h = absurd h
  no_loop go for_loop returns saved os h = absurd h
  no_loop go (for_procedure r) returns saved os h = refl
  no_loop go (for_operation n r) returns saved os h = refl
  no_loop go (for_entry n id served back) returns saved os h = refl
  no_loop go (for_accept id) returns saved os h = absurd h

  -- the line that takes exceptions within a frame has as many
  out_many : (out n m : ℕ) → GoTo code.lines (Some m) out → IsWritten (slice_get seen out) (λ k. k ≤ n) → Fewer seen 1 n m → slice_get seen out ≡ Some n
  out_many out n m goes sees one = by (found code.lines out) refl (slice_get seen out) refl goes sees
    where
      same : (o : Option ℕ) (k : ℕ) → IsWritten o (λ j. j + 1 ≡ k) → IsWritten o (λ j. j + 1 ≡ n) → k ≡ n
      same None k h g = absurd h
      same (Some j) k h g = omega (arith, h, g)

      by : (x : Option EndLine) → found code.lines out ≡ x → (o : Option ℕ) → slice_get seen out ≡ o → Found x (λ g. TakesExceptions g.last × (g.within ≡ Some m)) → IsWritten o (λ k. k ≤ n) → o ≡ Some n
      by None e o d h w = absurd h
      by (Some g) e None d h w = absurd w
      by (Some g) e (Some k) d h w =
          let s = subst (λ v. WithinSees seen v k) h.1 (end_sees code table tasks barriers seen sound fits out k (drop out code.lines) g refl e d).within in
          ap (λ j. Some j) (same (slice_get seen m) k s one)

  reaches : (os : List Opened) (own : Own) (w : Option ℕ) (n out : ℕ) (returns : List ℕ) → own.opened ≡ os → OutFits code.lines w out → OutSees seen w n out → WithinSees seen w n → Holds code.lines seen w returns os → length own.display ≡ n → Reached out returns (out_of_loops_by os own)
  reaches [] own w n out returns is leads sees one holds many = absurd holds
  reaches (o ∷ os) own None n out returns is leads sees one holds many =
      subst (λ b. Reached out returns (if b then out_of_loops_by os (record own { display = o.saved; opened = os }) else own)) (sym (no_loop (λ w rs. Holds code.lines seen w rs os) o.purpose returns o.saved os holds))
      (record { within = None; at = leads; many = as_many code table tasks barriers seen sound fits (slice_get seen out) n sees ∙ ap (λ k. Some k) (sym many); holds = subst (λ xs. Holds code.lines seen None returns xs) (sym is) holds })
  reaches (o ∷ os) own (Some m) n out returns is leads sees one holds many = at (found code.lines m) refl leads holds (reaches os (record own { display = o.saved; opened = os }))
    where
      stays : GoTo code.lines (Some m) out → Reached out returns own
      stays goes = record { within = Some m; at = goes; many = out_many out n m goes sees one ∙ ap (λ k. Some k) (sym many); holds = subst (λ xs. Holds code.lines seen (Some m) returns xs) (sym is) holds }

      at : (x : Option EndLine) → found code.lines m ≡ x → Found x (λ b. OutOf code.lines b.last m b.out out) → Found x (λ b. OpenedBy b.last o.purpose × (IsOpenAt code.lines seen m (length o.saved) × Holds code.lines seen b.within returns os × IsStart code.lines m)) → ((w : Option ℕ) (n out : ℕ) (returns : List ℕ) → os ≡ os → OutFits code.lines w out → OutSees seen w n out → WithinSees seen w n → Holds code.lines seen w returns os → length o.saved ≡ n → Reached out returns (out_of_loops_by os (record own { display = o.saved; opened = os }))) → Reached out returns (out_of_loops_by (o ∷ os) own)
      at None e f h on = absurd f
      at (Some b) e f h on = by o.purpose refl h.0
        where
          around : (loop : For) → b.last ≡ Does (Loop loop) → Reached out returns (out_of_loops_by os (record own { display = o.saved; opened = os }))
          around loop does =
              let same = subst (λ last. OutOf code.lines last m b.out out) does f in
              let led = subst (λ last. LastFits code.lines last m b) does (subst (λ y. FitsBy code.lines y m) e (sound.frames m h.1.2)) in
              let x = end_sees code table tasks barriers seen sound fits m (length o.saved) (drop m code.lines) b refl e h.1.0 in
              let g = subst (λ last. LastSees code tasks barriers seen last (length o.saved) b) does x.last in
              on b.within (length o.saved) out returns refl
              (subst (λ k. OutFits code.lines b.within k) same led.1.1.1)
              (subst (λ k. OutSees seen b.within (length o.saved) k) same g.1.1.1.1) x.within h.1.1 refl

          by : (p : Purpose) → o.purpose ≡ p → OpenedBy b.last p → Reached out returns (if is_loop o.purpose then out_of_loops_by os (record own { display = o.saved; opened = os }) else own)
          by for_body q k = absurd k
          by for_block q k = subst (λ p. Reached out returns (if is_loop p then out_of_loops_by os (record own { display = o.saved; opened = os }) else own)) (sym q) (stays (subst (λ last. OutOf code.lines last m b.out out) k.1 f))
          by for_loop q k = subst (λ p. Reached out returns (if is_loop p then out_of_loops_by os (record own { display = o.saved; opened = os }) else own)) (sym q) (around k.0 k.1)
          by (for_procedure r) q k = absurd k
          by (for_operation i r) q k = absurd k
          by (for_entry i id served back) q k = absurd k
          by (for_accept id) q (inl k) = subst (λ p. Reached out returns (if is_loop p then out_of_loops_by os (record own { display = o.saved; opened = os }) else own)) (sym q) (stays (subst (λ last. OutOf code.lines last m b.out out) k.2 f))
          by (for_accept id) q (inr k) = subst (λ p. Reached out returns (if is_loop p then out_of_loops_by os (record own { display = o.saved; opened = os }) else own)) (sym q) (stays (subst (λ last. OutOf code.lines last m b.out out) k.1 f))

  fits_at : (place : ℕ) (l : EndLine) → IsStart code.lines place → found code.lines place ≡ Some l → LastFits code.lines l.last place l
  fits_at place l begins is = subst (λ o. FitsBy code.lines o place) is (sound.frames place begins)

  -- the frame of the construct is gone at whose end the exception is pending
  gone_reaches : (X : Last → Type 0) (next n out : ℕ) (w : Option ℕ) (returns : List ℕ) (own : Own) → Found (opener code.lines w) (λ b. X b.last × Behind code.lines next out b.within) → Found (opener code.lines w) (λ b. OutSees seen b.within n out) → WithinSees seen w (suc n) → Found (opener code.lines w) (λ b. Holds code.lines seen b.within returns own.opened) → length own.display ≡ n → Reached out returns (out_of_loops own)
  gone_reaches X next n out None returns own f g t h many = absurd f
  gone_reaches X next n out (Some m) returns own f g t h many = by (found code.lines m) refl f g h
    where
      by : (x : Option EndLine) → found code.lines m ≡ x → Found x (λ b. X b.last × Behind code.lines next out b.within) → Found x (λ b. OutSees seen b.within n out) → Found x (λ b. Holds code.lines seen b.within returns own.opened) → Reached out returns (out_of_loops own)
      by None e f g h = absurd f
      by (Some b) e f g h =
          let here = less_many code table tasks barriers seen sound fits (slice_get seen m) (suc n) n t refl in
          reaches own.opened own b.within n out returns refl f.1.1 g (end_sees code table tasks barriers seen sound fits m n (drop m code.lines) b refl e here).within h many

  pends_reached : (place : ℕ) (returns : List ℕ) (own : Own) (l : EndLine) (p : Pending) → Pends code seen place l returns own.display own.opened p → Reached l.out returns (out_of_loops own)
  pends_reached place returns own l p s = by l.last refl (subst (λ x. Found x (λ b. MayPend (Some p) b.last × StandsBy code.lines seen (λ w. Holds code.lines seen w returns own.opened) (has_left (Some p) b.last) b place own.display)) s.is s.stands)
    where
      n : ℕ
      n = length own.display

      f : LastFits code.lines l.last place l
      f = fits_at place l s.begins s.is

      by : (last : Last) → l.last ≡ last → MayPend (Some p) last × StandsBy code.lines seen (λ w. Holds code.lines seen w returns own.opened) (has_left (Some p) last) l place own.display → Reached l.out returns (out_of_loops own)
      by (Does e) q h =
          let g = subst (λ last. LastFits code.lines last place l) q f in
          let t = end_sees code table tasks barriers seen sound fits place n (drop place code.lines) l refl s.is h.1.0 in
          let k = subst (λ last. LastSees code tasks barriers seen last n l) q t.last in
          reaches own.opened own l.within n l.out returns refl g.1.1.1 k.1.1.1.1 t.within h.1.1 refl
      by (Continues x) q h = absurd h.0
      by (Guards gs) q h = absurd h.0
      by (Leaves loops to) q h = absurd h.0
      by (Ends construct.Unit next) q h = absurd h.0
      by (Ends construct.Block next) q h =
          let t = end_sees code table tasks barriers seen sound fits place (suc n) (drop place code.lines) l refl s.is h.1.0 in
          let k = subst (λ last. LastSees code tasks barriers seen last (suc n) l) q t.last in
          gone_reaches OpensBlock next n l.out l.within returns own (subst (λ last. LastFits code.lines last place l) q f) k.1 t.within h.1.1 refl
      by (Ends construct.Accept next) q h =
          let t = end_sees code table tasks barriers seen sound fits place (suc n) (drop place code.lines) l refl s.is h.1.0 in
          let k = subst (λ last. LastSees code tasks barriers seen last (suc n) l) q t.last in
          gone_reaches OpensAccept next n l.out l.within returns own (subst (λ last. LastFits code.lines last place l) q f) k.1 t.within h.1.1 refl

  guard_leads : (x : Exception) (gs : List Guard) (next n : ℕ) (w : Option ℕ) → guarded x gs ≡ Some next → GuardsAt code.lines w gs → GuardsSee seen n gs → Leads code table tasks barriers seen sound fits next n w
  guard_leads x [] next n w e h s = absurd cc
  guard_leads x (g ∷ gs) next n w e h s = by (g.others || names_it x g.choices) e (λ later. guard_leads x gs next n w later h.1 s.1)
    where
      by : (b : Bool) → (if b then Some g.to else guarded x gs) ≡ Some next → (guarded x gs ≡ Some next → Leads code table tasks barriers seen sound fits next n w) → Leads code table tasks barriers seen sound fits next n w
      by true e later = subst (λ y. Leads code table tasks barriers seen sound fits y n w) (same_Some g.to next e) (record { at = h.0; many = as_many code table tasks barriers seen sound fits (slice_get seen g.to) n s.0 })
      by false e later = later e

  pub handled_framed : (place next : ℕ) (returns : List ℕ) (own : Own) (l guard : EndLine) (gs : List Guard) (x : Exception) (p : Pending) → Pends code seen place l returns own.display own.opened p → found code.lines l.out ≡ Some guard → guard.last ≡ Guards gs → guarded x gs ≡ Some next → StandsAt code.lines seen None (record { place = next; returns = returns }) (out_of_loops own).display (out_of_loops own).opened
  handled_framed place next returns own l guard gs x p s is guards choice =
      let r = pends_reached place returns own l p s in
      let d = length (out_of_loops own).display in
      let w = (subst (λ y. Found y (λ q. TakesExceptions q.last × (q.within ≡ r.within))) is r.at).1 in
      let begins : IsStart code.lines l.out = (led_from code table tasks barriers seen sound fits place (drop place code.lines) l refl s.is).out in
      let h = subst (λ last. LastFits code.lines last l.out guard) guards (fits_at l.out guard begins is) in
      let k = subst (λ last. LastSees code tasks barriers seen last d guard) guards (end_sees code table tasks barriers seen sound fits l.out d (drop l.out code.lines) guard refl is r.many).last in
      leads_on code table tasks barriers seen sound fits next d r.within returns (out_of_loops own).display (out_of_loops own).opened
      (guard_leads x gs next d r.within choice (subst (λ v. GuardsAt code.lines v gs) w h.0) k.0) refl r.holds

  -- Out of the innermost construct.

  found_is : (ls : List FlatLine) (n : ℕ) (l : EndLine) → found_from ls ≡ Some l → end_from ls n ≡ l
  found_is [] n l e = absurd cc
  found_is (instructs i ∷ ls) n l e = found_is ls n l e
  found_is (end x ∷ ls) n l e = same_Some x l e

  record Ended (place : ℕ) (returns : List ℕ) (own : Own) : Type 0 where
    line : EndLine
    is : found code.lines place ≡ Some line
    ends : IsEnd line.last
    begins : IsStart code.lines place
    reached : Reached place returns own

  takes : (last : Last) → IsEnd last → TakesExceptions last
  takes (Does e) h = absurd h
  takes (Continues f) h = absurd h
  takes (Guards gs) h = absurd h
  takes (Ends c next) h = h
  takes (Leaves loops to) h = absurd h

  ended : (out : ℕ) (returns : List ℕ) (own : Own) (g : EndLine) → IsStart code.lines out → found code.lines out ≡ Some g → Reached out returns own → Ended (end_by code g.last out) returns own
  ended out returns own g begins is r = by g.last refl (subst (λ x. Found x (λ b. TakesExceptions b.last × (b.within ≡ r.within))) is r.at)
    where
      beyond : (gs : List Guard) → g.last ≡ Guards gs → g.within ≡ r.within → (x : Option EndLine) → found code.lines g.out ≡ x → Found x (λ o. IsEnd o.last × (o.within ≡ g.within)) → Ended g.out returns own
      beyond gs q same None e k = absurd k
      beyond gs q same (Some o) e k =
          let n = length own.display in
          let t = subst (λ last. LastSees code tasks barriers seen last n g) q (end_sees code table tasks barriers seen sound fits out n (drop out code.lines) g refl is r.many).last in
          record {
            line = o;
            is = e;
            ends = k.0;
            begins = (led_from code table tasks barriers seen sound fits out (drop out code.lines) g refl is).out;
            reached = record {
              within = r.within;
              at = subst (λ x. Found x (λ b. TakesExceptions b.last × (b.within ≡ r.within))) (sym e) (takes o.last k.0, k.1 ∙ same);
              many = as_many code table tasks barriers seen sound fits (slice_get seen g.out) n t.1;
              holds = r.holds;
            };
          }

      by : (last : Last) → g.last ≡ last → TakesExceptions last × (g.within ≡ r.within) → Ended (end_by code last out) returns own
      by (Does e) q h = absurd h.0
      by (Continues f) q h = absurd h.0
      by (Leaves loops to) q h = absurd h.0
      by (Ends c next) q h = record { line = g; is = is; ends = subst IsEnd (sym q) (tt {0}); begins = begins; reached = r }
      by (Guards gs) q h =
          let f = subst (λ last. LastFits code.lines last out g) q (fits_at out g begins is) in
          subst (λ (x : EndLine). Ended x.out returns own) (sym (found_is (drop out code.lines) out g is)) (beyond gs q h.1 (found code.lines g.out) refl f.1)

  -- the frame of the construct is gone at its end
  gone : (X : Last → Type 0) (next e n out : ℕ) (w : Option ℕ) (returns : List ℕ) (o : Opened) (os : List Opened) (R : Type 0) → Found (opener code.lines w) (λ b. X b.last × Behind code.lines next out b.within) → WithinSees seen w n → slice_get seen e ≡ Some n → Holds code.lines seen w returns (o ∷ os) → ((b : EndLine) → X b.last → OpenedBy b.last o.purpose → IsOpenAt code.lines seen e (suc (length o.saved)) × Found (opener code.lines w) (λ b. Holds code.lines seen b.within returns os) → R) → R
  gone X next e n out None returns o os R f t many h go = absurd f
  gone X next e n out (Some m) returns o os R f t many h go = by (found code.lines m) f h (λ b x y z. go b x y z)
    where
      by : (x : Option EndLine) → Found x (λ b. X b.last × Behind code.lines next out b.within) → Found x (λ b. OpenedBy b.last o.purpose × (IsOpenAt code.lines seen m (length o.saved) × Holds code.lines seen b.within returns os × IsStart code.lines m)) → ((b : EndLine) → X b.last → OpenedBy b.last o.purpose → IsOpenAt code.lines seen e (suc (length o.saved)) × Found x (λ b. Holds code.lines seen b.within returns os) → R) → R
      by None f h go = absurd f
      by (Some b) f h go = go b f.0 h.0 (many ∙ ap (λ k. Some k) (sym (less_one code table tasks barriers seen sound fits (slice_get seen m) n (length o.saved) t h.1.0)), h.1.1)

  left_at : (e place : ℕ) (returns : List ℕ) (own : Own) (d : Ended e returns (out_of_loops own)) → LeavesConstruct code seen (out_of_end code d.line.last e (record { place = place; returns = returns })) own
  left_at e place returns own d = at d.line.last refl d.ends (out_of_loops own).opened refl (subst (λ w. Holds code.lines seen w returns (out_of_loops own).opened) (sym within) d.reached.holds)
    where
      n : ℕ
      n = length (out_of_loops own).display

      within : d.line.within ≡ d.reached.within
      within = (subst (λ x. Found x (λ b. TakesExceptions b.last × (b.within ≡ d.reached.within))) d.is d.reached.at).1

      fit : LastFits code.lines d.line.last e d.line
      fit = fits_at e d.line d.begins d.is

      sees : WithinSees seen d.line.within n
      sees = (end_sees code table tasks barriers seen sound fits e n (drop e code.lines) d.line refl d.is d.reached.many).within

      Stood : List ℕ → List Opened → Last → Type 0
      Stood saved os last = (q : Pending) → MayPend (Some q) last × StandsBy code.lines seen (λ w. Holds code.lines seen w returns os) (has_left (Some q) last) d.line e saved

      stood : (saved : List ℕ) (os : List Opened) (last : Last) → d.line.last ≡ last → Stood saved os last → (q : Pending) → StandsAt code.lines seen (Some q) (record { place = e; returns = returns }) saved os
      stood saved os last q h p = subst (λ x. Found x (λ l. MayPend (Some p) l.last × StandsBy code.lines seen (λ w. Holds code.lines seen w returns os) (has_left (Some p) l.last) l e saved)) (sym d.is) (subst (Stood saved os) (sym q) h p)

      at : (last : Last) → d.line.last ≡ last → IsEnd last → (os : List Opened) → (out_of_loops own).opened ≡ os → Holds code.lines seen d.line.within returns os → LeavesConstruct code seen (out_of_end code last e (record { place = place; returns = returns })) own
      at last q k [] is h = absurd h
      at (Does x) q k (o ∷ os) is h = absurd k
      at (Continues f) q k (o ∷ os) is h = absurd k
      at (Guards gs) q k (o ∷ os) is h = absurd k
      at (Leaves loops to) q k (o ∷ os) is h = absurd k
      at (Ends construct.Unit next) q k (o ∷ os) is h =
          let outside : d.line.within ≡ None = subst (λ last. LastFits code.lines last e d.line) q fit in
          record {
            o = o;
            os = os;
            opened = is;
            leads = behind_body code table tasks barriers seen sound fits ((p : Pending) → StandsAt code.lines seen (Some p) (back_to code returns) o.saved os) o.purpose returns o.saved os (subst (λ w. Holds code.lines seen w returns (o ∷ os)) outside h);
          }
      at (Ends construct.Block next) q k (o ∷ os) is h =
          let s : Spot = record { place = e; returns = returns } in
          let Around : Type 0 = (p : Pending) → StandsAt code.lines seen (Some p) s o.saved os in
          record {
            o = o;
            os = os;
            opened = is;
            leads = gone OpensBlock next e n d.line.out d.line.within returns o os (LeadsTo code seen Around o.purpose s o.saved os) (subst (λ last. LastFits code.lines last e d.line) q fit) sees d.reached.many h (
                λ b x y z. behind_block code table tasks barriers seen sound fits Around b.last o.purpose s o.saved os x y (stood o.saved os (Ends construct.Block next) q (λ p. (tt {0}, z))));
          }
      at (Ends construct.Accept next) q k (o ∷ os) is h =
          let s : Spot = record { place = e; returns = returns } in
          let Around : Type 0 = (p : Pending) → StandsAt code.lines seen (Some p) s o.saved os in
          record {
            o = o;
            os = os;
            opened = is;
            leads = gone OpensAccept next e n d.line.out d.line.within returns o os (LeadsTo code seen Around o.purpose s o.saved os) (subst (λ last. LastFits code.lines last e d.line) q fit) sees d.reached.many h (
                λ b x y z. behind_accept code table tasks barriers seen sound fits Around b.last o.purpose s o.saved os x y (stood o.saved os (Ends construct.Accept next) q (λ p. (tt {0}, z))));
          }

  pub left_framed : (place : ℕ) (returns : List ℕ) (own : Own) (l : EndLine) (p : Pending) → Pends code seen place l returns own.display own.opened p → LeavesConstruct code seen (left_by code l.out (record { place = place; returns = returns })) own
  left_framed place returns own l p s = by (found code.lines l.out) refl (pends_reached place returns own l p s).at
    where
      spot : Spot
      spot = record { place = place; returns = returns }

      by : (x : Option EndLine) → found code.lines l.out ≡ x → Found x (λ b. TakesExceptions b.last × (b.within ≡ (pends_reached place returns own l p s).within)) → LeavesConstruct code seen (left_by code l.out spot) own
      by None e h = absurd h
      by (Some g) e h =
          let begins : IsStart code.lines l.out = (led_from code table tasks barriers seen sound fits place (drop place code.lines) l refl s.is).out in
          let d = ended l.out returns (out_of_loops own) g begins e (pends_reached place returns own l p s) in
          let to = end_by code g.last l.out in
          subst (λ (x : EndLine). LeavesConstruct code seen (out_of_end code (end_at code (end_by code x.last l.out)).last (end_by code x.last l.out) spot) own) (sym (found_is (drop l.out code.lines) l.out g e))
          (subst (λ (x : EndLine). LeavesConstruct code seen (out_of_end code x.last to spot) own) (sym (found_is (drop to code.lines) to d.line d.is)) (left_at to place returns own d))
