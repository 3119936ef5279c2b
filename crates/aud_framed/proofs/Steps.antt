-- Where a step of one task leads, its frames are those that are open there.
use Rattle.std.proofs.Common.{◌≡◌, ◌<◌, ◌≤◌, ℕ, zero, suc, ◌+◌, List, [], ◌∷◌, drop, length, Option, None, Some, false, refl, sym, ap, ◌∙◌, subst, slice_get, slice_index_or, arith}
use Rattle.std.proofs.lemmas.Option.{same_Some}
use Rattle.aud_typed.specs.Tree.{For}
use Rattle.aud_meaning.specs.declared.state.Construct.TheVariants as construct
use Rattle.aud_meaning.specs.Configuration.{Opened, Own}
use Rattle.aud_meaning.specs.Effects.{closed_by, out_of}
use Rattle.aud_code.specs.Places.{Way}
use Rattle.aud_code.specs.Instruction.{Ending}
use Rattle.aud_code.specs.Flat.{Flat, FlatLine, instructs, end, EndLine, Does, Continues, Ends, start_at}
use Rattle.aud_code.specs.Frames.{found_from, found, opener, Found, IsWritten, At, EachAt, frame_inside, WaysAt, LastFits, FitsBy, OpensLoop, OpensBlock, OpensAccept, OutOfLoops, WayFits, LoopAround, BlockAround, AcceptAround, Behind}
use Rattle.aud_code.specs.Seen.{IsSeen, Fewer, EachSame, WaysSee, WithinSees, BehindSees, WaySees, LastSees, LineSees, inside}
use Rattle.aud_code.specs.Sound.{Counts, IsSound, IsStart, Leads as IsLed}
use Rattle.aud_framed.specs.Held.{has_left, MayPend, OpenedBy, IsOpenAt, StandsBy, Holds, StandsAt}
use Rattle.aud_framed.specs.Ways.{StandsAtStep}

-- a body without outer frames sees its own alone
pub one_seen : (o : Option ℕ) → IsWritten o (λ m. (1 ≤ m) × (m ≤ 1)) → o ≡ Some 1
one_seen None h = absurd h
one_seen (Some m) h = let least = h.0 in let most = h.1 in let is : m ≡ 1 = omega (arith, least, most) in ap (λ n. Some n) is

-- Where a task stands, its frames are those that are written there.
pub stood : (lines : List FlatLine) (seen : List ℕ) (place n : ℕ) (w : Option ℕ) (o : Option EndLine) → Found o (λ l. l.within ≡ w) → slice_get seen place ≡ Some n → (go : Option ℕ → Type 0) → go w → (display : List ℕ) → length display ≡ n → Found o (λ l. MayPend None l.last × StandsBy lines seen go false l place display)
stood lines seen place n w None h is go g display e = absurd h
stood lines seen place n w (Some l) h is go g display e = (tt, (is ∙ ap (λ k. Some k) (sym e), subst go (sym h) g))

module _ (code : Flat) (table : List Counts) (tasks barriers seen : List ℕ) (sound : IsSound code) (fits : IsSeen code table tasks barriers seen) where
  pub framed_start : (n : ℕ) → At code.lines (start_at code n) None
  framed_start n = by n code.starts sound.framed.0
    where
      by : (n : ℕ) (ns : List ℕ) → EachAt code.lines ns None → At code.lines (slice_index_or ns n code.spare) None
      by n [] h = sound.framed.1
      by zero (m ∷ ms) h = h.0
      by (suc n) (m ∷ ms) h = by n ms h.1

  -- The table, line by line.

  abbrev first : List FlatLine → Option FlatLine
  first [] = None
  first (x ∷ xs) = Some x

  abbrev rest : List FlatLine → List FlatLine
  rest [] = []
  rest (x ∷ xs) = xs

  -- the line at a place, and those behind it
  pub record Line (ls : List FlatLine) (p : ℕ) (x : FlatLine) (xs : List FlatLine) : Type 0 where
    pub at : slice_get ls p ≡ Some x
    pub within : p < length ls
    pub behind : drop (suc p) ls ≡ xs

  pub line_at : (p : ℕ) (ls : List FlatLine) (x : FlatLine) (xs : List FlatLine) → drop p ls ≡ x ∷ xs → Line ls p x xs
  line_at zero [] x xs e = absurd cc
  line_at zero (y ∷ ys) x xs e = record { at = ap first e; within = (let z : 0 < suc (length ys) = omega arith in z); behind = ap rest e }
  line_at (suc p) [] x xs e = absurd cc
  line_at (suc p) (y ∷ ys) x xs e =
      let r = line_at p ys x xs e in
      let w : p < length ys = r.within in
      record { at = r.at; within = (let z : suc p < suc (length ys) = omega (arith, w) in z); behind = r.behind }

  same_many : (o : Option ℕ) (n k : ℕ) → IsWritten o (λ m. m + k ≡ n) → IsWritten o (λ m. (o ≡ Some m) × (m + k ≡ n))
  same_many None n k h = h
  same_many (Some m) n k h = (refl, h)

  pub as_many : (o : Option ℕ) (n : ℕ) → IsWritten o (λ m. m + 0 ≡ n) → o ≡ Some n
  as_many None n h = absurd h
  as_many (Some m) n h = let is : m ≡ n = omega (arith, h) in ap (λ k. Some k) is

  pub record End (l : EndLine) (n : ℕ) : Type 0 where
    pub within : WithinSees seen l.within n
    pub last : LastSees code tasks barriers seen l.last n l

  pub end_sees : (p n : ℕ) (ls : List FlatLine) (l : EndLine) → drop p code.lines ≡ ls → found_from ls ≡ Some l → slice_get seen p ≡ Some n → End l n
  end_sees p n [] l d f s = absurd cc
  end_sees p n (instructs i ∷ ls) l d f s =
      let g = line_at p code.lines (instructs i) ls d in
      let h = subst (λ o. IsWritten o (LineSees code table tasks barriers seen (slice_get code.lines p) p)) s (fits.each p g.within) in
      let k = subst (λ o. LineSees code table tasks barriers seen o p n) g.at h in
      end_sees (suc p) n ls l g.behind f (as_many (slice_get seen (suc p)) n k.1.0)
  end_sees p n (end x ∷ ls) l d f s =
      let g = line_at p code.lines (end x) ls d in
      let h = subst (λ o. IsWritten o (LineSees code table tasks barriers seen (slice_get code.lines p) p)) s (fits.each p g.within) in
      let k = subst (λ o. LineSees code table tasks barriers seen o p n) g.at h in
      subst (λ y. End y n) (same_Some x l f) (record { within = k.0; last = k.1 })

  -- the ending of a step leads to steps
  pub led_from : (p : ℕ) (ls : List FlatLine) (l : EndLine) → drop p code.lines ≡ ls → found_from ls ≡ Some l → IsLed code.lines l
  led_from p [] l d f = absurd cc
  led_from p (instructs i ∷ ls) l d f = led_from (suc p) ls l (line_at p code.lines (instructs i) ls d).behind f
  led_from p (end x ∷ ls) l d f = subst (λ y. IsLed code.lines y) (same_Some x l f) (sound.leads p x (line_at p code.lines (end x) ls d).at)

  -- Where a step leads.

  pub record Leads (next n : ℕ) (w : Option ℕ) : Type 0 where
    pub at : At code.lines next w
    pub many : slice_get seen next ≡ Some n

  pub each_leads : (part next n : ℕ) (w : Option ℕ) (ways : List ℕ) → slice_get ways part ≡ Some next → EachAt code.lines ways w → EachSame seen n ways → Leads next n w
  each_leads part next n w [] e h s = absurd cc
  each_leads zero next n w (x ∷ xs) e h s = subst (λ y. Leads y n w) (same_Some x next e) (record { at = h.0; many = as_many (slice_get seen x) n s.0 })
  each_leads (suc part) next n w (x ∷ xs) e h s = each_leads part next n w xs e h.1 s.1

  way_leads : (part next n : ℕ) (w : Option ℕ) (ways : List ℕ) → slice_get ways part ≡ Some next → WaysAt code.lines w w ways → WaysSee seen 0 n n ways → Leads next n w
  way_leads part next n w [] e h s = absurd cc
  way_leads zero next n w (x ∷ xs) e h s = subst (λ y. Leads y n w) (same_Some x next e) (record { at = h.0; many = as_many (slice_get seen x) n s.0 })
  way_leads (suc part) next n w (x ∷ xs) e h s = each_leads part next n w xs e h.1 s.1

  pub inside_leads : (k part next n m : ℕ) (v w : Option ℕ) (ways : List ℕ) → slice_get ways (suc part) ≡ Some next → WaysAt code.lines v w ways → WaysSee seen k n m ways → Leads next m w
  inside_leads k part next n m v w [] e h s = absurd cc
  inside_leads k part next n m v w (x ∷ xs) e h s = each_leads part next m w xs e h.1 s.1

  pub leads_on : (next n : ℕ) (w : Option ℕ) (returns display : List ℕ) (os : List Opened) → Leads next n w → length display ≡ n → Holds code.lines seen w returns os → StandsAt code.lines seen None (record { place = next; returns = returns }) display os
  leads_on next n w returns display os l e h = stood code.lines seen next n w (found code.lines next) l.at l.many (λ v. Holds code.lines seen v returns os) h display e

  module _ (place : ℕ) (returns display : List ℕ) (os : List Opened) (l : EndLine) (s : StandsAtStep code seen place l returns display os) where
    pub here : StandsBy code.lines seen (λ w. Holds code.lines seen w returns os) false l place display
    here = (subst (λ o. Found o (λ l. MayPend None l.last × StandsBy code.lines seen (λ w. Holds code.lines seen w returns os) (has_left None l.last) l place display)) s.is s.stands).1

    pub sees : End l (length display)
    sees = end_sees place (length display) (drop place code.lines) l refl s.is here.0

    pub led : LastFits code.lines l.last place l
    led = subst (λ o. FitsBy code.lines o place) s.is (sound.frames place s.begins)

    pub part_framed : (part next : ℕ) (e : Ending) → l.last ≡ Does e → ((w : Option ℕ) → frame_inside e place w ≡ w) → ((n : ℕ) → inside e n ≡ n) → slice_get l.ways part ≡ Some next → StandsAt code.lines seen None (record { place = next; returns = returns }) display os
    part_framed part next e does frame many way =
        let n = length display in
        let f = subst (λ last. LastFits code.lines last place l) does led in
        let g = subst (λ last. LastSees code tasks barriers seen last n l) does sees.last in
        leads_on next n l.within returns display os
        (way_leads part next n l.within l.ways way
        (subst (λ w. WaysAt code.lines l.within w l.ways) (frame l.within) f.0)
        (subst (λ m. WaysSee seen 0 n m l.ways) (many n) g.1.0)) refl here.1

    pub inside_framed : (part next : ℕ) (more : List ℕ) (o : Opened) (e : Ending) → l.last ≡ Does e → frame_inside e place l.within ≡ Some place → ((n : ℕ) → inside e n ≡ suc n) → slice_get l.ways (suc part) ≡ Some next → OpenedBy (Does e) o.purpose → o.saved ≡ display → length more ≡ suc (length display) → StandsAt code.lines seen None (record { place = next; returns = returns }) more (o ∷ os)
    inside_framed part next more o e does frame many way by saved longer =
        let n = length display in
        let f = subst (λ last. LastFits code.lines last place l) does led in
        let g = subst (λ last. LastSees code tasks barriers seen last n l) does sees.last in
        leads_on next (suc n) (Some place) returns more (o ∷ os)
        (inside_leads 0 part next n (suc n) l.within (Some place) l.ways way
        (subst (λ w. WaysAt code.lines l.within w l.ways) frame f.0)
        (subst (λ m. WaysSee seen 0 n m l.ways) (many n) g.1.0)) longer
        (subst (λ x. Found x (λ k. OpenedBy k.last o.purpose × (IsOpenAt code.lines seen place (length o.saved) × Holds code.lines seen k.within returns os × IsStart code.lines place))) (sym s.is)
        (subst (λ last. OpenedBy last o.purpose) (sym does) by, (here.0 ∙ ap (λ (d : List ℕ). Some (length d)) (sym saved), here.1, s.begins)))

  -- Where a frame is left.

  pub less_many : (o : Option ℕ) (n k : ℕ) → IsWritten o (λ m. m + 1 ≡ n) → suc k ≡ n → o ≡ Some k
  less_many None n k h e = absurd h
  less_many (Some m) n k h e = let is : m ≡ k = omega (arith, h, e) in ap (λ j. Some j) is

  -- what is around a construct whose step opened its frame
  pub record Around (next : ℕ) (returns saved : List ℕ) (os : List Opened) : Type 0 where
    pub within : Option ℕ
    pub leads : Leads next (length saved) within
    pub holds : Holds code.lines seen within returns os

  pub less_one : (o : Option ℕ) (n k : ℕ) → IsWritten o (λ m. m + 1 ≡ n) → o ≡ Some k → suc k ≡ n
  less_one None n k h e = absurd cc
  less_one (Some m) n k h e = let is : m ≡ k = same_Some m k e in (let z : suc k ≡ n = omega (arith, h, is) in z)

  pub left_block : (next n out : ℕ) (w : Option ℕ) (returns : List ℕ) (o : Opened) (os : List Opened) → BlockAround code.lines w (λ v. Behind code.lines next out v) → WithinSees seen w n → Fewer seen 1 n next → Holds code.lines seen w returns (o ∷ os) → Around next returns o.saved os
  left_block next n out None returns o os h s f holds = absurd h
  left_block next n out (Some m) returns o os h s f holds = by (found code.lines m) h holds
    where
      by : (x : Option EndLine) → Found x (λ b. OpensBlock b.last × Behind code.lines next out b.within) → Found x (λ b. OpenedBy b.last o.purpose × (IsOpenAt code.lines seen m (length o.saved) × Holds code.lines seen b.within returns os × IsStart code.lines m)) → Around next returns o.saved os
      by None h g = absurd h
      by (Some b) h g =
          let here = less_one (slice_get seen m) n (length o.saved) s g.1.0 in
          record { within = b.within; leads = record { at = h.1.0; many = less_many (slice_get seen next) n (length o.saved) f here }; holds = g.1.1 }

  pub left_accept : (next n out : ℕ) (w : Option ℕ) (returns : List ℕ) (o : Opened) (os : List Opened) → AcceptAround code.lines w (λ v. Behind code.lines next out v) → WithinSees seen w n → Fewer seen 1 n next → Holds code.lines seen w returns (o ∷ os) → Around next returns o.saved os
  left_accept next n out None returns o os h s f holds = absurd h
  left_accept next n out (Some m) returns o os h s f holds = by (found code.lines m) h holds
    where
      by : (x : Option EndLine) → Found x (λ b. OpensAccept b.last × Behind code.lines next out b.within) → Found x (λ b. OpenedBy b.last o.purpose × (IsOpenAt code.lines seen m (length o.saved) × Holds code.lines seen b.within returns os × IsStart code.lines m)) → Around next returns o.saved os
      by None h g = absurd h
      by (Some b) h g =
          let here = less_one (slice_get seen m) n (length o.saved) s g.1.0 in
          record { within = b.within; leads = record { at = h.1.0; many = less_many (slice_get seen next) n (length o.saved) f here }; holds = g.1.1 }

  pub one_fewer : (n next : ℕ) (l : EndLine) → BehindSees code tasks barriers seen n l next → Fewer seen 1 n next
  one_fewer zero next l h = absurd h
  one_fewer (suc n) next l h = by (slice_get seen next) h.0
    where
      by : (o : Option ℕ) → IsWritten o (λ m. m + 0 ≡ n) → IsWritten o (λ m. m + 1 ≡ suc n)
      by None h = h
      by (Some m) h = omega (arith, h)

  module _ (place next : ℕ) (returns display : List ℕ) (o : Opened) (os : List Opened) (l : EndLine) (s : StandsAtStep code seen place l returns display (o ∷ os)) where
    pub goes_on : Around next returns o.saved os → StandsAt code.lines seen None (record { place = next; returns = returns }) o.saved os
    goes_on a = leads_on next (length o.saved) a.within returns o.saved os a.leads refl a.holds

    pub block_framed : l.last ≡ Ends construct.Block next → StandsAt code.lines seen None (record { place = next; returns = returns }) o.saved os
    block_framed ends =
        let n = length display in
        let f = subst (λ last. LastFits code.lines last place l) ends (led place returns display (o ∷ os) l s) in
        let e = sees place returns display (o ∷ os) l s in
        let g = subst (λ last. LastSees code tasks barriers seen last n l) ends e.last in
        goes_on (left_block next n l.out l.within returns o os f e.within (one_fewer n next l g) (here place returns display (o ∷ os) l s).1)

    pub accept_framed : l.last ≡ Ends construct.Accept next → StandsAt code.lines seen None (record { place = next; returns = returns }) o.saved os
    accept_framed ends =
        let n = length display in
        let f = subst (λ last. LastFits code.lines last place l) ends (led place returns display (o ∷ os) l s) in
        let e = sees place returns display (o ∷ os) l s in
        let g = subst (λ last. LastSees code tasks barriers seen last n l) ends e.last in
        goes_on (left_accept next n l.out l.within returns o os f e.within (one_fewer n next l g) (here place returns display (o ∷ os) l s).1)

  -- Out of loops.

  pub fewer_one : (o : Option ℕ) (k n j : ℕ) → IsWritten o (λ m. m + suc k ≡ n) → suc j ≡ n → IsWritten o (λ m. m + k ≡ j)
  fewer_one None k n j h e = absurd h
  fewer_one (Some m) k n j h e = omega (arith, h, e)

  pub loops_out : (k to : ℕ) (returns : List ℕ) (w : Option ℕ) (own : Own) → OutOfLoops code.lines k w (At code.lines to) → WithinSees seen w (length own.display) → Fewer seen k (length own.display) to → Holds code.lines seen w returns own.opened → StandsAt code.lines seen None (record { place = to; returns = returns }) (out_of k own).display (out_of k own).opened
  loops_out zero to returns w own h s f holds = leads_on to (length own.display) w returns own.display own.opened (record { at = h; many = as_many (slice_get seen to) (length own.display) f }) refl holds
  loops_out (suc k) to returns None own h s f holds = absurd h
  loops_out (suc k) to returns (Some m) own h s f holds = by (loops_out k) own.opened holds
    where
      by : ((to : ℕ) (returns : List ℕ) (w : Option ℕ) (x : Own) → OutOfLoops code.lines k w (At code.lines to) → WithinSees seen w (length x.display) → Fewer seen k (length x.display) to → Holds code.lines seen w returns x.opened → StandsAt code.lines seen None (record { place = to; returns = returns }) (out_of k x).display (out_of k x).opened) → (os : List Opened) → Holds code.lines seen (Some m) returns os → StandsAt code.lines seen None (record { place = to; returns = returns }) (out_of k (closed_by os own)).display (out_of k (closed_by os own)).opened
      by on [] g = absurd g
      by on (o ∷ os) g = at (found code.lines m) refl h g
        where
          at : (x : Option EndLine) → found code.lines m ≡ x → Found x (λ b. OpensLoop b.last × OutOfLoops code.lines k b.within (At code.lines to)) → Found x (λ b. OpenedBy b.last o.purpose × (IsOpenAt code.lines seen m (length o.saved) × Holds code.lines seen b.within returns os × IsStart code.lines m)) → StandsAt code.lines seen None (record { place = to; returns = returns }) (out_of k (closed_by (o ∷ os) own)).display (out_of k (closed_by (o ∷ os) own)).opened
          at None e h g = absurd h
          at (Some b) e h g =
              let many = less_one (slice_get seen m) (length own.display) (length o.saved) s g.1.0 in
              on to returns b.within (record own { display = o.saved; opened = os }) h.1
              (end_sees m (length o.saved) (drop m code.lines) b refl e g.1.0).within
              (fewer_one (slice_get seen to) k (length own.display) (length o.saved) f many) g.1.1

  pub way_framed : (place : ℕ) (returns : List ℕ) (own : Own) (e : Ending) (w : Way) (l : EndLine) → StandsAtStep code seen place l returns own.display own.opened → l.last ≡ Does e → l.exit ≡ Some w → StandsAt code.lines seen None (record { place = w.to; returns = returns }) (out_of w.loops own).display (out_of w.loops own).opened
  way_framed place returns own e w l s does exit =
      let n = length own.display in
      let f = subst (λ last. LastFits code.lines last place l) does (led place returns own.display own.opened l s) in
      let x = sees place returns own.display own.opened l s in
      let g = subst (λ last. LastSees code tasks barriers seen last n l) does x.last in
      loops_out w.loops w.to returns l.within own
      (subst (λ o. WayFits code.lines l.within o) exit f.1.1.0) x.within
      (subst (λ o. WaySees seen n o) exit g.1.1.1.0) (here place returns own.display own.opened l s).1

  -- The turns of a loop.

  turn_inside : (part next n : ℕ) (w : Option ℕ) (returns : List ℕ) (os : List Opened) (ways : List ℕ) → LoopAround code.lines w (λ v. WaysAt code.lines v w ways) → WaysSee seen 1 n n ways → slice_get ways (suc part) ≡ Some next → Leads next n w
  turn_inside part next n w returns os ways h s e = by (opener code.lines w) h
    where
      by : (x : Option EndLine) → Found x (λ b. OpensLoop b.last × WaysAt code.lines b.within w ways) → Leads next n w
      by None h = absurd h
      by (Some b) h = inside_leads 1 part next n n b.within w ways e h.1 s

  first_leads : (next n : ℕ) (v w : Option ℕ) (ways : List ℕ) → slice_get ways 0 ≡ Some next → WaysAt code.lines v w ways → WaysSee seen 1 n n ways → At code.lines next v × Fewer seen 1 n next
  first_leads next n v w [] e h s = absurd cc
  first_leads next n v w (x ∷ xs) e h s = subst (λ y. At code.lines y v × Fewer seen 1 n y) (same_Some x next e) (h.0, s.0)

  turn_behind : (next n : ℕ) (w : Option ℕ) (returns : List ℕ) (o : Opened) (os : List Opened) (ways : List ℕ) → LoopAround code.lines w (λ v. WaysAt code.lines v w ways) → WaysSee seen 1 n n ways → WithinSees seen w n → slice_get ways 0 ≡ Some next → Holds code.lines seen w returns (o ∷ os) → Around next returns o.saved os
  turn_behind next n None returns o os ways h s t e holds = absurd h
  turn_behind next n (Some m) returns o os ways h s t e holds = by (found code.lines m) h holds
    where
      by : (x : Option EndLine) → Found x (λ b. OpensLoop b.last × WaysAt code.lines b.within (Some m) ways) → Found x (λ b. OpenedBy b.last o.purpose × (IsOpenAt code.lines seen m (length o.saved) × Holds code.lines seen b.within returns os × IsStart code.lines m)) → Around next returns o.saved os
      by None h g = absurd h
      by (Some b) h g =
          let here = less_one (slice_get seen m) n (length o.saved) t g.1.0 in
          let l = first_leads next n b.within (Some m) ways e h.1 s in
          record { within = b.within; leads = record { at = l.0; many = less_many (slice_get seen next) n (length o.saved) l.1 here }; holds = g.1.1 }

  pub turn_framed : (place part next : ℕ) (returns display : List ℕ) (o : Opened) (os : List Opened) (f : For) (l : EndLine) → StandsAtStep code seen place l returns display (o ∷ os) → l.last ≡ Continues f → (slice_get l.ways (suc part) ≡ Some next → StandsAt code.lines seen None (record { place = next; returns = returns }) display (o ∷ os)) × (slice_get l.ways 0 ≡ Some next → StandsAt code.lines seen None (record { place = next; returns = returns }) o.saved os)
  turn_framed place part next returns display o os f l s continues =
      let n = length display in
      let h = subst (λ last. LastFits code.lines last place l) continues (led place returns display (o ∷ os) l s) in
      let x = sees place returns display (o ∷ os) l s in
      let g = subst (λ last. LastSees code tasks barriers seen last n l) continues x.last in
      let holds = (here place returns display (o ∷ os) l s).1 in (
        λ way. leads_on next n l.within returns display (o ∷ os) (turn_inside part next n l.within returns os l.ways h g way) refl holds,
        λ way. goes_on place next returns display o os l s (turn_behind next n l.within returns o os l.ways h g x.within way holds),
      )
