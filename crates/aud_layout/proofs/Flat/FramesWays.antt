-- Where ways lead, the frames are open that are open there.
use Rattle.std.proofs.Common.{◌≡◌, ◌⊎◌, inl, inr, ℕ, zero, suc, ◌+◌, List, [], ◌∷◌, ◌++◌, length, map, slice_index_or, Option, Some, None, sym, subst, arith}
use Rattle.aud_text.specs.declared.place.Pos.{Pos}
use Rattle.aud_typed.specs.Tree.{Statement, sequence, plain_loop, Part, nothing, some, Handlers, no_handlers, handler, Body, body, Doing, without_do, with_do, Alternatives, no_alternatives, accepting, delaying, terminating}
use Rattle.aud_meaning.specs.declared.state.Construct.{Construct}
use Rattle.aud_meaning.specs.declared.state.Construct.TheVariants as construct
use Rattle.aud_meaning.specs.Statements.{region_of}
use Rattle.aud_code.specs.Places.{Way}
use Rattle.aud_code.specs.Flat.{FlatLine}
use Rattle.aud_code.specs.Frames.{OpensLoop, OpensBlock, At, EachAt, OutOfLoops, GoTo, OutFits, BodyAt, EitherAt, GuardsAt}
use Rattle.aud_layout.specs.Layout.{Line, Around, one_more, in_loop, in_for, in_block, in_call, around_out, ways_count, statement_size, part_size, doing_size, main_size, end_place, stubs, stub_ways, stubs_of, guards_of, part_place, doing_place, parts_from, bodies_from, statement_code, part_code, handlers_code, body_code, doing_code, offered_code}
use Rattle.aud_layout.specs.Assembly.{offset, guard_moved, last_by, within_moved, assembled_from}
use Rattle.aud_layout.specs.Shows.{HasAt}
use Rattle.aud_layout.proofs.Standing.Places.{has_front, has_tail, has_all, body_at, offer_has, length-statement, length-part}
use Rattle.aud_layout.proofs.Flat.Frames.{found_is, at_line, WayOut, WaysOut, AroundFits, InsideFits, EachFits, no_lines, one_and, split, block_out}
use Rattle.aud_layout.proofs.Flat.Opening.{EachDoes}

module _ (lines : List Line) where
  abbrev F : ℕ → ℕ
  F = offset lines

  abbrev X : List FlatLine
  X = assembled_from (offset lines) lines

  abbrev M : Option ℕ → Option ℕ
  M = within_moved (offset lines)

  -- Where parts begin.

  pub statement_begins : (s : Statement) (at next : ℕ) (a : Around) → HasAt lines at (statement_code s at next a) → At X (F at) (M a.within)
  statement_begins (sequence x y) at next a h = statement_begins x at (at + statement_size x (ways_count a)) a (has_front lines at _ _ h)
  statement_begins (plain_loop x) at next a h = statement_begins x at at (in_loop next a) h
  statement_begins s at next a h = at_line lines at _ _ h

  pub part_begins : (p : Part) (at next : ℕ) (a : Around) → HasAt lines at (part_code p at next a) → At X (F next) (M a.within) → At X (F (part_place p at next)) (M a.within)
  part_begins nothing at next a h k = k
  part_begins (some s) at next a h k = statement_begins s at next a h

  pub body_begins : (c : Construct) (b : Body) (at next out : ℕ) (a : Around) → HasAt lines at (body_code c b at next out a) → At X (F at) (M a.within)
  body_begins c (body nothing begin s hs end) at next out a h =
      let first = at + 0 in
      let guard = first + statement_size s (ways_count a) in
      let last = first + main_size s hs (ways_count a) in
      let it = body_at lines c nothing begin s hs end at next out a [] (has_all lines at _ h) in
      let same : at + 0 ≡ at = omega arith in
      subst (λ n. At X (F n) (M a.within)) same (statement_begins s first last (around_out guard a) it.main.statements)
  body_begins c (body (some d) begin s hs end) at next out a h =
      let first = at + statement_size d (ways_count a) in
      let last = first + main_size s hs (ways_count a) in
      let it = body_at lines c (some d) begin s hs end at next out a [] (has_all lines at _ h) in
      statement_begins d at first (around_out last a) it.declarations

  pub body_ends : (c : Construct) (b : Body) (at next out : ℕ) (a : Around) → HasAt lines at (body_code c b at next out a) → At X (F (end_place b at (ways_count a))) (M a.within)
  body_ends c (body d begin s hs end) at next out a h =
      let it = body_at lines c d begin s hs end at next out a [] (has_all lines at _ h) in
      at_line lines _ _ _ it.main.ended

  -- what an accept does
  pub doing_begins : (d : Doing) (opener at next out : ℕ) (w : Option ℕ) → HasAt lines at (doing_code d opener at next out) → At X (F next) w → BodyAt X (region_of d) w (F opener) (F (doing_place d at next))
  doing_begins without_do opener at next out w h k = k
  doing_begins (with_do n b) opener at next out w h k = body_begins construct.Accept b at next out (in_call (Some opener) (end_place b at 1)) h

  is_either : (region : Option ℕ) (w : Option ℕ) (opener b : ℕ) → BodyAt X region w opener b → At X b w ⊎ At X b (Some opener)
  is_either None w opener b h = inl h
  is_either (Some region) w opener b h = inr h

  pub guards_fit : (hs : Handlers) (at next : ℕ) (a : Around) → HasAt lines at (handlers_code hs at next a) → GuardsAt X (M a.within) (map (guard_moved F) (guards_of hs at (ways_count a)))
  guards_fit no_handlers at next a h = tt
  guards_fit (handler others choices s more) at next a h =
      let it = split lines _ _ at _ (length-statement s at next a) h in
      (statement_begins s at next a it.front, guards_fit more (at + statement_size s (ways_count a)) next a it.back)

  -- what follows the alternatives of a selective accept, and what their accepts do
  pub record OffersFit (o : Alternatives) (opener at next : ℕ) (a : Around) : Type 0 where
    pub parts : EachAt X (map F (parts_from o at next (ways_count a))) (M a.within)
    pub bodies : EitherAt X (M a.within) (F opener) (map F (bodies_from o at next (ways_count a)))
    pub does : EachDoes F (λ region b. BodyAt X region (M a.within) (F opener) b) o at next (ways_count a)

  pub offers_fit : (o : Alternatives) (opener at next : ℕ) (a : Around) → HasAt lines at (offered_code o opener at next a) → At X (F next) (M a.within) → OffersFit o opener at next a
  offers_fit no_alternatives opener at next a h k = record { parts = tt; bodies = tt; does = tt }
  offers_fit (accepting g pos n d p more) opener at next a h k =
      let after = at + doing_size d in
      let it = offer_has lines d p more opener at next a h in
      let to = part_begins p after next a it.part k in
      let rest = offers_fit more opener (after + part_size p (ways_count a)) next a it.others k in
      let place = doing_place d at (part_place p after next) in
      let does = doing_begins d opener at (part_place p after next) a.out (M a.within) it.doing to in
      record { parts = (to, rest.parts); bodies = (is_either (region_of d) (M a.within) (F opener) (F place) does, rest.bodies); does = (does, rest.does) }
  offers_fit (delaying g x p more) opener at next a h k =
      let it = split lines _ _ at _ (length-part p at next a) h in
      let to = part_begins p at next a it.front k in
      let rest = offers_fit more opener (at + part_size p (ways_count a)) next a it.back k in
      record { parts = (to, rest.parts); bodies = (inl to, rest.bodies); does = rest.does }
  offers_fit (terminating g more) opener at next a h k =
      let rest = offers_fit more opener at next a h k in
      record { parts = (k, rest.parts); bodies = (inl k, rest.bodies); does = rest.does }

  -- Loops.

  pub exit_fits : (w : Option ℕ) (ws : List Way) (n next : ℕ) → WaysOut lines w ws → At X (F next) w → WayOut lines w (slice_index_or ws n (record { to = next; loops = 0 }))
  exit_fits w [] zero next h k = k
  exit_fits w [] (suc n) next h k = k
  exit_fits w (x ∷ ws) zero next h k = h.0
  exit_fits w (x ∷ ws) (suc n) next h k = exit_fits w ws n next h.1 k

  pub loop_fits : (next : ℕ) (a : Around) → At X (F next) (M a.within) → AroundFits lines a → AroundFits lines (in_loop next a)
  loop_fits next a k i = record { exits = (k, i.exits); back = i.back; out = i.out }

  -- the step of a for loop
  module _ (at : ℕ) (l : Line) (b : List Line) (h : HasAt lines at (l ∷ b)) (opens : OpensLoop (last_by F l.what)) where
    more_out : (x : Way) → WayOut lines (M l.within) x → WayOut lines (Some (F at)) (one_more x)
    more_out x k = found_is lines at l b (λ e. OpensLoop e.last × OutOfLoops X x.loops e.within (At X (F x.to))) h (opens, k)

    all_more_out : (ws : List Way) → WaysOut lines (M l.within) ws → WaysOut lines (Some (F at)) (map one_more ws)
    all_more_out [] k = tt
    all_more_out (x ∷ ws) k = (more_out x k.0, all_more_out ws k.1)

    pub for_fits : (next : ℕ) (a : Around) → l.within ≡ a.within → OutFits X (Some (F at)) (F a.out) → At X (F next) (M a.within) → AroundFits lines a → AroundFits lines (in_for at next a)
    for_fits next a e o k i = record {
      exits = (more_out (record { to = next; loops = 0 }) (inside (λ w. WayOut lines w (record { to = next; loops = 0 })) k), all_more_out a.exits (inside (λ w. WaysOut lines w a.exits) i.exits));
      back = more_out a.back (inside (λ w. WayOut lines w a.back) i.back);
      out = o;
    }
      where
        inside : (P : Option ℕ → Type 0) → P (M a.within) → P (M l.within)
        inside P p = subst (λ w. P (M w)) (sym e) p

  -- Blocks: the ways out of them.

  stub_ways_fit : (ws : List Way) (x : Way) (end : Pos) (w : Option ℕ) (at : ℕ) → HasAt lines at (stubs (ws ++ x ∷ []) end w at) → WaysOut lines (M w) (stub_ways ws at) × At X (F (at + length ws)) (M w)
  stub_ways_fit [] x end w at h = let same : at ≡ at + 0 = omega arith in (tt, subst (λ n. At X (F n) (M w)) same (at_line lines at _ _ h))
  stub_ways_fit (y ∷ ws) x end w at h =
      let rest = stub_ways_fit ws x end w (suc at) (has_tail lines at _ _ h) in
      let same : suc at + length ws ≡ at + suc (length ws) = omega arith in
      ((at_line lines at _ _ h, rest.0), subst (λ n. At X (F n) (M w)) same rest.1)

  and_back : (w : Option ℕ) (ws : List Way) (x : Way) → WaysOut lines w ws → WayOut lines w x → WaysOut lines w (ws ++ x ∷ [])
  and_back w [] x h k = (k, tt)
  and_back w (y ∷ ws) x h k = (h.0, and_back w ws x h.1 k)

  -- the step of a block
  module _ (at : ℕ) (l : Line) (b : List Line) (h : HasAt lines at (l ∷ b)) (opens : OpensBlock (last_by F l.what)) where
    stubs_fit : (ws : List Way) (end : Pos) (n place : ℕ) → WaysOut lines (M l.within) ws → EachFits lines n (stubs ws end (Some at) place)
    stubs_fit [] end n place k = no_lines
    stubs_fit (x ∷ ws) end n place k =
        one_and (record { is = found_is lines at l b (λ e. OpensBlock e.last × OutOfLoops X x.loops e.within (At X (F x.to))) h (opens, k.0) }) (stubs_fit ws end (suc n) (suc place) k.1)

    pub all_stubs_fit : (x : Body) (a : Around) (n place : ℕ) → WaysOut lines (M l.within) a.exits → WayOut lines (M l.within) a.back → EachFits lines n (stubs_of x (a.exits ++ a.back ∷ []) (Some at) place)
    all_stubs_fit (body d begin s hs end) a n place k j = stubs_fit (a.exits ++ a.back ∷ []) end n place (and_back (M l.within) a.exits a.back k j)

    pub block_fits : (x : Body) (last : ℕ) (a : Around) → HasAt lines (suc last) (stubs_of x (a.exits ++ a.back ∷ []) (Some at) (suc last)) → InsideFits lines (in_block at last a)
    block_fits (body d begin s hs end) last a k =
        let ways = stub_ways_fit a.exits a.back end (Some at) (suc last) k in
        record { exits = ways.0; back = ways.1; goes = block_out lines at l b h opens }

  -- what a body within no construct, or within a rendezvous, surrounds
  pub call_fits : (c : Construct) (b : Body) (at next out : ℕ) (w : Option ℕ) → HasAt lines at (body_code c b at next out (in_call w (end_place b at 1))) → ((n : ℕ) → GoTo X (M w) n → OutFits X (M w) n) → InsideFits lines (in_call w (end_place b at 1))
  call_fits c b at next out w h goes = record { exits = tt; back = body_ends c b at next out (in_call w (end_place b at 1)) h; goes = goes }
