-- Lines of the layout with what the table of frames has there, and where their parts begin.
use Rattle.std.proofs.Common.{◌≡◌, ◌⊎◌, inl, inr, ℕ, zero, suc, ◌+◌, ◌≤◌, ◌<◌, List, [], ◌∷◌, ◌++◌, length, map, slice_get, slice_index_or, Option, Some, None, refl, ap, subst, arith}
use Rattle.std.proofs.lemmas.Option.{get_or_from_slice_get}
use Rattle.aud_text.specs.declared.place.Pos.{Pos}
use Rattle.aud_typed.specs.Tree.{Statement, sequence, plain_loop, Part, nothing, some, Handlers, no_handlers, handler, Body, body, Doing, without_do, with_do, Alternatives, no_alternatives, accepting, delaying, terminating, Program}
use Rattle.aud_meaning.specs.declared.state.Construct.{Construct}
use Rattle.aud_meaning.specs.declared.state.Construct.TheVariants as construct
use Rattle.aud_meaning.specs.Statements.{region_of}
use Rattle.aud_code.specs.Places.{Way}
use Rattle.aud_code.specs.Seen.{Fewer, EachSame, DoingSees, EitherSee, WithinSees, OutSees, GuardsSee}
use Rattle.aud_layout.specs.Layout.{Line, Around, one_more, in_loop, in_for, in_call, around_out, ways_count, statement_size, part_size, handlers_size, doing_size, main_size, end_place, stubs, stub_ways, guards_of, guard_line, end_line, part_place, doing_place, parts_from, bodies_from, statement_code, part_code, handlers_code, body_code, doing_code, offered_code, code_of}
use Rattle.aud_layout.specs.Assembly.{instructions_by, offset, guard_moved, within_moved}
use Rattle.aud_layout.specs.Opened.{opened_in, IsBefore}
use Rattle.aud_layout.specs.Shows.{HasAt}
use Rattle.aud_layout.proofs.Standing.Places.{has_front, has_back, has_tail, length-statement, length-part, length-handlers, length-doing}
use Rattle.aud_layout.proofs.Flat.Numbers.{same_there, one_there, one_out, out_same, out_more}
use Rattle.aud_layout.proofs.Flat.Opening.{EachDoes}

pub before_later : (w : Option ℕ) (at to : ℕ) → at ≤ to → IsBefore w at → IsBefore w to
before_later None at to h k = tt
before_later (Some opened) at to h k = omega (arith, h, k)

module _ (program : Program) (tasks seen : List ℕ) (base : ℕ) where
  abbrev pub lines : List Line
  lines = (code_of program).lines

  abbrev pub F : ℕ → ℕ
  F = offset (code_of program).lines

  abbrev pub M : Option ℕ → Option ℕ
  M = within_moved (offset (code_of program).lines)

  -- a line that stands at a place has this number, through all of its step
  abbrev pub Written : ℕ → Line → ℕ → Type 0
  Written at l n = (j : ℕ) → j ≤ length (instructions_by l.what) → slice_get seen (F at + j) ≡ Some n

  abbrev pub LineCounts : ℕ → Line → Type 0
  LineCounts at l = IsBefore l.within at → Written at l (opened_in seen base (M l.within))

  abbrev pub EachCounts : ℕ → List Line → Type 0
  EachCounts at [] = Unit {0}
  EachCounts at (l ∷ ls) = LineCounts at l × EachCounts (suc at) ls

  counts_front : (a b : List Line) (at : ℕ) → EachCounts at (a ++ b) → EachCounts at a
  counts_front [] b at h = tt
  counts_front (l ∷ ls) b at h = (h.0, counts_front ls b (suc at) h.1)

  counts_back : (a b : List Line) (at n : ℕ) → length a ≡ n → EachCounts at (a ++ b) → EachCounts (at + n) b
  counts_back [] b at n e h = let same : at ≡ at + n = omega (arith, e) in subst (λ m. EachCounts m b) same h
  counts_back (l ∷ ls) b at n e h =
      let same : suc at + length ls ≡ at + n = omega (arith, e) in
      subst (λ m. EachCounts m b) same (counts_back ls b (suc at) (length ls) refl h.1)

  pub record Stands (at : ℕ) (ls : List Line) : Type 0 where
    pub has : HasAt lines at ls
    pub counts : EachCounts at ls

  pub front : (a b : List Line) (at : ℕ) → Stands at (a ++ b) → Stands at a
  front a b at s = record { has = has_front lines at a b s.has; counts = counts_front a b at s.counts }

  pub back : (a b : List Line) (at n : ℕ) → length a ≡ n → Stands at (a ++ b) → Stands (at + n) b
  back a b at n e s = record { has = has_back lines at n a b e s.has; counts = counts_back a b at n e s.counts }

  pub tail : (l : Line) (b : List Line) (at : ℕ) → Stands at (l ∷ b) → Stands (suc at) b
  tail l b at s = record { has = has_tail lines at l b s.has; counts = s.counts.1 }

  pub stands_moved : (p q : ℕ) (b : List Line) → p ≡ q → Stands p b → Stands q b
  stands_moved p q b e s = subst (λ m. Stands m b) e s

  -- Where a statement stands: the frame that is innermost there, and how many are open.
  pub record Here (w : Option ℕ) (at n : ℕ) : Type 0 where
    pub before : IsBefore w at
    pub number : opened_in seen base (M w) ≡ n
    pub within : WithinSees seen (M w) n

  pub here_on : (w : Option ℕ) (at to n : ℕ) → at ≤ to → Here w at n → Here w to n
  here_on w at to n h here = record { before = before_later w at to h here.before; number = here.number; within = here.within }

  pub all_written : (l : Line) (b : List Line) (at n : ℕ) → Stands at (l ∷ b) → Here l.within at n → Written at l n
  all_written l b at n s here = subst (Written at l) here.number (s.counts.0 here.before)

  pub first_written : (l : Line) (b : List Line) (at n : ℕ) → Stands at (l ∷ b) → Here l.within at n → slice_get seen (F at) ≡ Some n
  first_written l b at n s here =
      let same : F at + 0 ≡ F at = omega arith in
      subst (λ p. slice_get seen p ≡ Some n) same (all_written l b at n s here 0 (omega arith))

  -- within the frame that a step opens
  pub here_inside : (at to n : ℕ) → at < to → slice_get seen (F at) ≡ Some n → Here (Some at) to (suc n)
  here_inside at to n h is = record {
    before = h;
    number = ap suc (get_or_from_slice_get seen (F at) n 0 is);
    within = one_there seen (F at) n is;
  }

  -- Where parts begin.

  pub statement_begins : (s : Statement) (at next : ℕ) (a : Around) (n : ℕ) → Stands at (statement_code s at next a) → Here a.within at n → slice_get seen (F at) ≡ Some n
  statement_begins (sequence x y) at next a n s here = statement_begins x at (at + statement_size x (ways_count a)) a n (front _ _ at s) here
  statement_begins (plain_loop x) at next a n s here = statement_begins x at at (in_loop next a) n s here
  statement_begins x at next a n s here = first_written _ _ at n s here

  pub part_begins : (p : Part) (at next : ℕ) (a : Around) (n : ℕ) → Stands at (part_code p at next a) → Here a.within at n → Fewer seen 0 n (F next) → Fewer seen 0 n (F (part_place p at next))
  part_begins nothing at next a n s here k = k
  part_begins (some x) at next a n s here k = same_there seen (F at) n (statement_begins x at next a n s here)

  pub guards_see : (hs : Handlers) (at next : ℕ) (a : Around) (n : ℕ) → Stands at (handlers_code hs at next a) → Here a.within at n → GuardsSee seen n (map (guard_moved F) (guards_of hs at (ways_count a)))
  guards_see no_handlers at next a n s here = tt
  guards_see (handler others choices x more) at next a n s here =
      let size = statement_size x (ways_count a) in (
        same_there seen (F at) n (statement_begins x at next a n (front _ _ at s) here),
        guards_see more (at + size) next a n (back _ _ at size (length-statement x at next a) s) (here_on a.within at (at + size) n (omega arith) here),
      )

  -- the parts of a construct, each where it stands
  pub record BodyStands (c : Construct) (d : Part) (x : Statement) (hs : Handlers) (end : Pos) (at next out : ℕ) (a : Around) (first guard last : ℕ) : Type 0 where
    pub declarations : Stands at (part_code d at first (around_out last a))
    pub statements : Stands first (statement_code x first last (around_out guard a))
    pub guarding : Stands guard (guard_line hs end (suc guard) last (ways_count a) a.within ∷ (handlers_code hs (suc guard) last (around_out last a) ++ end_line c end next out a.within ∷ []))
    pub handlers : Stands (suc guard) (handlers_code hs (suc guard) last (around_out last a))
    pub ended : Stands last (end_line c end next out a.within ∷ [])

  pub body_stands : (c : Construct) (d : Part) (begin : Pos) (x : Statement) (hs : Handlers) (end : Pos) (at next out : ℕ) (a : Around) → let e = ways_count a in let first = at + part_size d e in Stands at (body_code c (body d begin x hs end) at next out a) → BodyStands c d x hs end at next out a first (first + statement_size x e) (first + main_size x hs e)
  body_stands c d begin x hs end at next out a s =
      let e = ways_count a in
      let first = at + part_size d e in
      let guard = first + statement_size x e in
      let last = first + main_size x hs e in
      let stated = back (part_code d at first (around_out last a)) _ at (part_size d e) (length-part d at first (around_out last a)) s in
      let guarded = back (statement_code x first last (around_out guard a)) _ first (statement_size x e) (length-statement x first last (around_out guard a)) stated in
      let handled = tail _ _ guard guarded in
      let same : suc guard + handlers_size hs e ≡ last = omega arith in
      record {
        declarations = front (part_code d at first (around_out last a)) _ at s;
        statements = front (statement_code x first last (around_out guard a)) _ first stated;
        guarding = guarded;
        handlers = front (handlers_code hs (suc guard) last (around_out last a)) _ (suc guard) handled;
        ended = stands_moved _ last _ same (back (handlers_code hs (suc guard) last (around_out last a)) _ (suc guard) (handlers_size hs e) (length-handlers hs (suc guard) last (around_out last a)) handled);
      }

  pub body_begins : (c : Construct) (b : Body) (at next out : ℕ) (a : Around) (n : ℕ) → Stands at (body_code c b at next out a) → Here a.within at n → slice_get seen (F at) ≡ Some n
  body_begins c (body nothing begin x hs end) at next out a n s here =
      let first = at + 0 in
      let guard = first + statement_size x (ways_count a) in
      let last = first + main_size x hs (ways_count a) in
      let it = body_stands c nothing begin x hs end at next out a s in
      let same : at + 0 ≡ at = omega arith in
      subst (λ p. slice_get seen (F p) ≡ Some n) same (statement_begins x first last (around_out guard a) n it.statements (here_on a.within at first n (omega arith) here))
  body_begins c (body (some d) begin x hs end) at next out a n s here =
      let first = at + statement_size d (ways_count a) in
      let last = first + main_size x hs (ways_count a) in
      let it = body_stands c (some d) begin x hs end at next out a s in
      statement_begins d at first (around_out last a) n it.declarations here

  pub body_ends : (c : Construct) (b : Body) (at next out : ℕ) (a : Around) (n : ℕ) → Stands at (body_code c b at next out a) → Here a.within at n → slice_get seen (F (end_place b at (ways_count a))) ≡ Some n
  body_ends c (body d begin x hs end) at next out a n s here =
      let it = body_stands c d begin x hs end at next out a s in
      first_written _ _ _ n it.ended (here_on a.within at (end_place (body d begin x hs end) at (ways_count a)) n (omega arith) here)

  -- What an accept does, whose step stands at the place opener, where n are open.

  pub doing_begins : (d : Doing) (opener at next out n : ℕ) → Stands at (doing_code d opener at next out) → opener < at → slice_get seen (F opener) ≡ Some n → Fewer seen 0 n (F next) → DoingSees seen (region_of d) n (F (doing_place d at next))
  doing_begins without_do opener at next out n s before own k = k
  doing_begins (with_do m b) opener at next out n s before own k =
      same_there seen (F at) (suc n) (body_begins construct.Accept b at next out (in_call (Some opener) (end_place b at 1)) (suc n) s (here_inside opener at n before own))

  is_either : (region : Option ℕ) (n p : ℕ) → DoingSees seen region n p → Fewer seen 0 n p ⊎ Fewer seen 0 (suc n) p
  is_either None n p h = inl h
  is_either (Some region) n p h = inr h

  -- of a select, what follows it, and the other alternatives
  pub record OfferStands (d : Doing) (p : Part) (more : Alternatives) (opener at next : ℕ) (a : Around) : Type 0 where
    pub doing : Stands at (doing_code d opener at (part_place p (at + doing_size d) next) a.out)
    pub part : Stands (at + doing_size d) (part_code p (at + doing_size d) next a)
    pub others : Stands (at + doing_size d + part_size p (ways_count a)) (offered_code more opener (at + doing_size d + part_size p (ways_count a)) next a)

  pub offer_stands : (d : Doing) (p : Part) (more : Alternatives) (opener at next : ℕ) (a : Around) → let after = at + doing_size d in Stands at (doing_code d opener at (part_place p after next) a.out ++ (part_code p after next a ++ offered_code more opener (after + part_size p (ways_count a)) next a)) → OfferStands d p more opener at next a
  offer_stands d p more opener at next a s =
      let after = at + doing_size d in
      let cd = doing_code d opener at (part_place p after next) a.out in
      let cp = part_code p after next a in
      let cm = offered_code more opener (after + part_size p (ways_count a)) next a in
      let rest = back cd (cp ++ cm) at (doing_size d) (length-doing d opener at (part_place p after next) a.out) s in
      record {
        doing = front cd (cp ++ cm) at s;
        part = front cp cm after rest;
        others = back cp cm after (part_size p (ways_count a)) (length-part p after next a) rest;
      }

  -- what follows the alternatives of a select, and what their accepts do
  pub record OffersBegin (o : Alternatives) (at next : ℕ) (a : Around) (n : ℕ) : Type 0 where
    pub parts : EachSame seen n (map F (parts_from o at next (ways_count a)))
    pub bodies : EitherSee seen n (map F (bodies_from o at next (ways_count a)))
    pub does : EachDoes F (λ region p. DoingSees seen region n p) o at next (ways_count a)

  pub offers_begin : (o : Alternatives) (opener at next : ℕ) (a : Around) (n : ℕ) → Stands at (offered_code o opener at next a) → Here a.within at n → opener < at → slice_get seen (F opener) ≡ Some n → Fewer seen 0 n (F next) → OffersBegin o at next a n
  offers_begin no_alternatives opener at next a n s here before own k = record { parts = tt; bodies = tt; does = tt }
  offers_begin (accepting g pos m d p more) opener at next a n s here before own k =
      let after = at + doing_size d in
      let later = after + part_size p (ways_count a) in
      let it = offer_stands d p more opener at next a s in
      let to = part_begins p after next a n it.part (here_on a.within at after n (omega arith) here) k in
      let rest = offers_begin more opener later next a n it.others (here_on a.within at later n (omega arith) here) (omega (arith, before)) own k in
      let place = doing_place d at (part_place p after next) in
      let does = doing_begins d opener at (part_place p after next) a.out n it.doing before own to in
      record { parts = (to, rest.parts); bodies = (is_either (region_of d) n (F place) does, rest.bodies); does = (does, rest.does) }
  offers_begin (delaying g x p more) opener at next a n s here before own k =
      let later = at + part_size p (ways_count a) in
      let to = part_begins p at next a n (front _ _ at s) here k in
      let rest = offers_begin more opener later next a n (back _ _ at (part_size p (ways_count a)) (length-part p at next a) s) (here_on a.within at later n (omega arith) here) (omega (arith, before)) own k in
      record { parts = (to, rest.parts); bodies = (inl to, rest.bodies); does = rest.does }
  offers_begin (terminating g more) opener at next a n s here before own k =
      let rest = offers_begin more opener at next a n s here before own k in
      record { parts = (k, rest.parts); bodies = (inl k, rest.bodies); does = rest.does }

  -- What surrounds a statement: where ways lead out of it, and where exceptions go.

  abbrev pub WaysOut : ℕ → List Way → Type 0
  WaysOut n [] = Unit {0}
  WaysOut n (w ∷ ws) = Fewer seen w.loops n (F w.to) × WaysOut n ws

  pub record AroundSees (a : Around) (n : ℕ) : Type 0 where
    pub exits : WaysOut n a.exits
    pub back : Fewer seen a.back.loops n (F a.back.to)
    pub out : OutSees seen (M a.within) n (F a.out)

  -- there exceptions go to a line with as many
  pub record InsideSees (a : Around) (n : ℕ) : Type 0 where
    pub exits : WaysOut n a.exits
    pub back : Fewer seen a.back.loops n (F a.back.to)

  pub within_inside : (place : ℕ) (a : Around) (n : ℕ) → InsideSees a n → slice_get seen (F place) ≡ Some n → AroundSees (around_out place a) n
  within_inside place a n i is = record { exits = i.exits; back = i.back; out = out_same seen (M a.within) n (F place) (same_there seen (F place) n is) }

  pub exit_sees : (ws : List Way) (k next n : ℕ) → WaysOut n ws → Fewer seen 0 n (F next) → let w = slice_index_or ws k (record { to = next; loops = 0 }) in Fewer seen w.loops n (F w.to)
  exit_sees [] zero next n h k = k
  exit_sees [] (suc m) next n h k = k
  exit_sees (w ∷ ws) zero next n h k = h.0
  exit_sees (w ∷ ws) (suc m) next n h k = exit_sees ws m next n h.1 k

  pub loop_sees : (next : ℕ) (a : Around) (n : ℕ) → Fewer seen 0 n (F next) → AroundSees a n → AroundSees (in_loop next a) n
  loop_sees next a n k i = record { exits = (k, i.exits); back = i.back; out = i.out }

  all_out : (ws : List Way) (n : ℕ) → WaysOut n ws → WaysOut (suc n) (map one_more ws)
  all_out [] n h = tt
  all_out (w ∷ ws) n h = (one_out seen w.loops n (F w.to) h.0, all_out ws n h.1)

  pub for_sees : (at next : ℕ) (a : Around) (n : ℕ) → Fewer seen 0 n (F next) → AroundSees a n → AroundSees (in_for at next a) (suc n)
  for_sees at next a n k i = record {
    exits = (one_out seen 0 n (F next) k, all_out a.exits n i.exits);
    back = one_out seen a.back.loops n (F a.back.to) i.back;
    out = out_more seen (M a.within) (F at) n (F a.out) i.out;
  }

  -- the ways out of a block, within whose frame n are open
  pub stubs_see : (ws : List Way) (x : Way) (end : Pos) (w : Option ℕ) (at n : ℕ) → Stands at (stubs (ws ++ x ∷ []) end w at) → Here w at n → WaysOut n (stub_ways ws at) × Fewer seen 0 n (F (at + length ws))
  stubs_see [] x end w at n s here =
      let same : at ≡ at + 0 = omega arith in
      (tt, subst (λ p. Fewer seen 0 n (F p)) same (same_there seen (F at) n (first_written _ _ at n s here)))
  stubs_see (y ∷ ws) x end w at n s here =
      let rest = stubs_see ws x end w (suc at) n (tail _ _ at s) (here_on w at (suc at) n (omega arith) here) in
      let same : suc at + length ws ≡ at + suc (length ws) = omega arith in
      ((same_there seen (F at) n (first_written _ _ at n s here), rest.0), subst (λ p. Fewer seen 0 n (F p)) same rest.1)
