-- Each place in the layout's lines is at most the number of lines, and the place in the text at a statement's line is the statement's.
use Rattle.std.proofs.Common.{◌≡◌, ℕ, zero, suc, ◌+◌, ◌≤◌, List, [], ◌∷◌, ◌++◌, length, map, get_or, Option, Some, None, refl, ap, arith}
use Rattle.aud_text.specs.declared.place.Pos.{Pos}
use Rattle.aud_typed.specs.Tree.{Statement, sequence, declare, if_then, plain_loop, while_loop, for_loop, exit, return, return_value, block, entry_call, accept, select, Part, nothing, some, Handlers, no_handlers, handler, Body, body, Doing, without_do, with_do, Alternatives, no_alternatives, accepting, delaying, terminating, requeue}
use Rattle.aud_meaning.specs.declared.state.Construct.{Construct}
use Rattle.aud_meaning.specs.declared.state.Construct.TheVariants as construct
use Rattle.std.proofs.Common.{slice_index_or}
use Rattle.aud_meaning.specs.Items.{statement_at}
use Rattle.aud_layout.specs.Layout.{one_line, no_line, What, does, continues, guards, ends, leaves, Line, Around, one_more, in_loop, in_for, in_block, in_call, around_out, ways_count, statement_size, part_size, handlers_size, body_size, doing_size, offered_size, main_size, end_place, stub_ways, stubs, stubs_of, guards_of, line, statement_code, part_code, part_place, doing_place, parts_from, bodies_from, handlers_code, body_code, doing_code, offered_code}
use Rattle.aud_code.specs.Places.{Way, Guard}
use Rattle.aud_layout.proofs.Standing.Sizes.{count-block, count-for}
use Rattle.aud_layout.proofs.Standing.Sizes.{last_is}

abbrev pub AtIs : What → Pos → Type 0
AtIs (does a) at = at ≡ statement_at a
AtIs (continues f) at = Unit {0}
AtIs (guards gs) at = Unit {0}
AtIs (ends c next) at = Unit {0}
AtIs (leaves n next) at = Unit {0}

module _ (T : ℕ) where
  abbrev pub PlacesIn : List ℕ → Type 0
  PlacesIn [] = Unit {0}
  PlacesIn (n ∷ ns) = (n ≤ T) × PlacesIn ns

  abbrev pub WaysIn : List Way → Type 0
  WaysIn [] = Unit {0}
  WaysIn (w ∷ ws) = (w.to ≤ T) × WaysIn ws

  abbrev pub WayIn : Option Way → Type 0
  WayIn None = Unit {0}
  WayIn (Some w) = w.to ≤ T

  abbrev pub GuardsIn : List Guard → Type 0
  GuardsIn [] = Unit {0}
  GuardsIn (g ∷ gs) = (g.to ≤ T) × GuardsIn gs

  abbrev pub WhatIn : What → Type 0
  WhatIn (does a) = Unit {0}
  WhatIn (continues f) = Unit {0}
  WhatIn (guards gs) = GuardsIn gs
  WhatIn (ends c next) = next ≤ T
  WhatIn (leaves n next) = next ≤ T

  pub record LineIn (l : Line) : Type 0 where
    pub out : l.out ≤ T
    pub ways : PlacesIn l.ways
    pub bodies : PlacesIn l.bodies
    pub exit : WayIn l.exit
    pub what : WhatIn l.what
    pub at : AtIs l.what l.at

  pub data LinesIn : List Line → Type 0 where
    no_lines : LinesIn []
    one_and : {l : Line} {ls : List Line} → LineIn l → LinesIn ls → LinesIn (l ∷ ls)

  pub record AroundIn (a : Around) : Type 0 where
    pub out : a.out ≤ T
    pub exits : WaysIn a.exits
    pub back : a.back.to ≤ T

  pub both : {a b : List Line} → LinesIn a → LinesIn b → LinesIn (a ++ b)
  both no_lines k = k
  both (one_and h hs) k = one_and h (both hs k)

  pub at_is : (ls : List Line) (n k : ℕ) → LinesIn ls → AtIs (get_or ls n (no_line k)).what (get_or ls n (no_line k)).at
  at_is [] zero k h = tt
  at_is [] (suc n) k h = tt
  at_is (l ∷ ls) zero k (one_and h hs) = h.at
  at_is (l ∷ ls) (suc n) k (one_and h hs) = at_is ls n k hs

  more_in : (ws : List Way) → WaysIn ws → WaysIn (map one_more ws)
  more_in [] h = tt
  more_in (w ∷ ws) h = (h.0, more_in ws h.1)

  loop_in : (next : ℕ) (a : Around) → next ≤ T → AroundIn a → AroundIn (in_loop next a)
  loop_in next a n h = record { out = h.out; exits = (n, h.exits); back = h.back }

  for_in : (place next : ℕ) (a : Around) → next ≤ T → AroundIn a → AroundIn (in_for place next a)
  for_in place next a n h = record { out = h.out; exits = (n, more_in a.exits h.exits); back = h.back }

  stub_ways_in : (ws : List Way) (at : ℕ) → at + length ws ≤ T → WaysIn (stub_ways ws at)
  stub_ways_in [] at h = tt
  stub_ways_in (w ∷ ws) at h = (omega (arith, h), stub_ways_in ws (suc at) (omega (arith, h)))

  block_in : (place last : ℕ) (a : Around) → suc last + length a.exits ≤ T → AroundIn (in_block place last a)
  block_in place last a h = record { out = omega (arith, h); exits = stub_ways_in a.exits (suc last) h; back = h }

  pub call_in : (within : Option ℕ) (last : ℕ) → last ≤ T → AroundIn (in_call within last)
  call_in within last h = record { out = h; exits = tt; back = h }

  out_in : (n : ℕ) (a : Around) → n ≤ T → AroundIn a → AroundIn (around_out n a)
  out_in n a h k = record { out = h; exits = k.exits; back = k.back }

  exit_in : (ws : List Way) (n next : ℕ) → WaysIn ws → next ≤ T → (slice_index_or ws n (record { to = next; loops = 0 })).to ≤ T
  exit_in [] zero next h k = k
  exit_in [] (suc n) next h k = k
  exit_in (w ∷ ws) zero next h k = h.0
  exit_in (w ∷ ws) (suc n) next h k = exit_in ws n next h.1 k

  stubs_in : (ws : List Way) (w : Way) (end : Pos) (within : Option ℕ) (at : ℕ) → WaysIn ws → w.to ≤ T → at + length ws ≤ T → LinesIn (stubs (ws ++ w ∷ []) end within at)
  stubs_in [] w end within at h k l = one_and (record { out = omega (arith, l); ways = tt; bodies = tt; exit = tt; what = k; at = tt }) no_lines
  stubs_in (x ∷ ws) w end within at h k l = one_and (record { out = omega (arith, l); ways = tt; bodies = tt; exit = tt; what = h.0; at = tt }) (stubs_in ws w end within (suc at) h.1 k (omega (arith, l)))

  part_place_in : (p : Part) (at next : ℕ) → at ≤ T → next ≤ T → part_place p at next ≤ T
  part_place_in nothing at next h k = k
  part_place_in (some s) at next h k = h

  doing_place_in : (d : Doing) (at next : ℕ) → at ≤ T → next ≤ T → doing_place d at next ≤ T
  doing_place_in without_do at next h k = k
  doing_place_in (with_do n b) at next h k = h

  stubs_of_in : (b : Body) (ws : List Way) (w : Way) (within : Option ℕ) (at : ℕ) → WaysIn ws → w.to ≤ T → at + length ws ≤ T → LinesIn (stubs_of b (ws ++ w ∷ []) within at)
  stubs_of_in (body d begin s hs end) ws w within at h k l = stubs_in ws w end within at h k l

  guards_in : (h : Handlers) (at e : ℕ) → at + handlers_size h e ≤ T → GuardsIn (guards_of h at e)
  guards_in no_handlers at e k = tt
  guards_in (handler others choices s more) at e k = (omega (arith, k), guards_in more (at + statement_size s e) e (omega (arith, k)))

  offers_in : (o : Alternatives) (at next e : ℕ) → at + offered_size o e ≤ T → next ≤ T → PlacesIn (parts_from o at next e) × PlacesIn (bodies_from o at next e)
  offers_in no_alternatives at next e h k = (tt, tt)
  offers_in (accepting g pos n d p more) at next e h k =
      let part = part_place_in p (at + doing_size d) next (omega (arith, h)) k in
      let rest = offers_in more (at + doing_size d + part_size p e) next e (omega (arith, h)) k in
      ((part, rest.0), (doing_place_in d at (part_place p (at + doing_size d) next) (omega (arith, h)) part, rest.1))
  offers_in (delaying g x p more) at next e h k =
      let part = part_place_in p at next (omega (arith, h)) k in
      let rest = offers_in more (at + part_size p e) next e (omega (arith, h)) k in
      ((part, rest.0), (part, rest.1))
  offers_in (terminating g more) at next e h k = let rest = offers_in more at next e h k in ((k, rest.0), (k, rest.1))

  plain_line : (s : Statement) (ways bodies : List ℕ) (a : Around) → AroundIn a → PlacesIn ways → PlacesIn bodies → LineIn (line s ways bodies None a)
  plain_line s ways bodies a h w b = record { out = h.out; ways = w; bodies = b; exit = tt; what = tt; at = refl }

  -- a statement that leads out
  way_line : (s : Statement) (next : ℕ) (w : Way) (a : Around) → next ≤ T → w.to ≤ T → AroundIn a → LinesIn (line s (next ∷ []) [] (Some w) a ∷ [])
  way_line s next w a k h i = one_and (record { out = i.out; ways = (k, tt); bodies = tt; exit = h; what = tt; at = refl }) no_lines

  mutual
    pub statement_in : (s : Statement) (at next : ℕ) (a : Around) → at + statement_size s (ways_count a) ≤ T → next ≤ T → AroundIn a → LinesIn (statement_code s at next a)
    statement_in (sequence x y) at next a h k i =
        let middle = at + statement_size x (ways_count a) in
        both (statement_in x at middle a (omega (arith, h)) (omega (arith, h)) i) (statement_in y middle next a (omega (arith, h)) k i)
    statement_in (plain_loop x) at next a h k i = statement_in x at at (in_loop next a) h (omega (arith, h)) (loop_in next a k i)
    statement_in (declare pos n e) at next a h k i = one_and (plain_line (declare pos n e) (next ∷ at ∷ []) [] a i (k, (omega (arith, h), tt)) tt) no_lines
    statement_in (if_then pos c x p) at next a h k i =
        let second = suc at + statement_size x (ways_count a) in
        one_and (plain_line (if_then pos c x p) (part_place p second next ∷ suc at ∷ []) [] a i (part_place_in p second next (omega (arith, h)) k, (omega (arith, h), tt)) tt)
        (both (statement_in x (suc at) next a (omega (arith, h)) k i) (part_in p second next a (omega (arith, h)) k i))
    statement_in (while_loop pos c x) at next a h k i =
        one_and (plain_line (while_loop pos c x) (next ∷ suc at ∷ []) [] a i (k, (omega (arith, h), tt)) tt) (statement_in x (suc at) at (in_loop next a) (omega (arith, h)) (omega (arith, h)) (loop_in next a k i))
    statement_in (for_loop f x y s) at next a h k i =
        let n = ap (statement_size s) (count-for at next a) in
        one_and (plain_line (for_loop f x y s) (next ∷ suc (suc at) ∷ []) [] a i (k, (omega (arith, h), tt)) tt)
        (one_and (record { out = i.out; ways = (k, (omega (arith, h), tt)); bodies = tt; exit = tt; what = tt; at = tt })
        (statement_in s (suc (suc at)) (suc at) (in_for at next a) (omega (arith, h, n)) (omega (arith, h)) (for_in at next a k i)))
    statement_in (block pos n b) at next a h k i =
        let e = ways_count a in
        let fits = last_is one_line b (suc at) e in
        let last = end_place b (suc at) e in
        let size = ap (body_size b) (count-block at last a) in
        one_and (plain_line (block pos n b) (next ∷ suc at ∷ []) [] a i (k, (omega (arith, h), tt)) tt)
        (both (body_in construct.Block b (suc at) next a.out (in_block at last a) (omega (arith, h, size)) k i.out (block_in at last a (omega (arith, h, fits))))
        (stubs_of_in b a.exits a.back (Some at) (suc last) i.exits i.back (omega (arith, h, fits))))
    statement_in (entry_call pos c p q) at next a h k i =
        let second = suc at + part_size p (ways_count a) in
        one_and (plain_line (entry_call pos c p q) (part_place p (suc at) next ∷ part_place q second next ∷ []) [] a i (part_place_in p (suc at) next (omega (arith, h)) k, (part_place_in q second next (omega (arith, h)) k, tt)) tt)
        (both (part_in p (suc at) next a (omega (arith, h)) k i) (part_in q second next a (omega (arith, h)) k i))
    statement_in (accept pos n d) at next a h k i =
        one_and (plain_line (accept pos n d) (next ∷ []) (doing_place d (suc at) next ∷ []) a i (k, tt) (doing_place_in d (suc at) next (omega (arith, h)) k, tt)) (doing_in d at (suc at) next a.out (omega (arith, h)) k i.out)
    statement_in (select pos offered p) at next a h k i =
        let e = ways_count a in
        let second = suc at + offered_size offered e in
        let places = offers_in offered (suc at) next e (omega (arith, h)) k in
        one_and (plain_line (select pos offered p) (part_place p second next ∷ parts_from offered (suc at) next e) (at ∷ bodies_from offered (suc at) next e) a i (part_place_in p second next (omega (arith, h)) k, places.0) (omega (arith, h), places.1))
        (both (offered_in offered at (suc at) next a (omega (arith, h)) k i) (part_in p second next a (omega (arith, h)) k i))
    statement_in (exit pos n c) at next a h k i = way_line (exit pos n c) next _ a k (exit_in a.exits n next i.exits k) i
    statement_in (return pos) at next a h k i = way_line (return pos) next a.back a k i.back i
    statement_in (return_value pos e) at next a h k i = way_line (return_value pos e) next a.back a k i.back i
    statement_in (requeue pos r) at next a h k i = way_line (requeue pos r) next a.back a k i.back i
    statement_in s at next a h k i = one_and (plain_line s (next ∷ []) [] a i (k, tt) tt) no_lines

    part_in : (p : Part) (at next : ℕ) (a : Around) → at + part_size p (ways_count a) ≤ T → next ≤ T → AroundIn a → LinesIn (part_code p at next a)
    part_in nothing at next a h k i = no_lines
    part_in (some s) at next a h k i = statement_in s at next a h k i

    handlers_in : (hs : Handlers) (at next : ℕ) (a : Around) → at + handlers_size hs (ways_count a) ≤ T → next ≤ T → AroundIn a → LinesIn (handlers_code hs at next a)
    handlers_in no_handlers at next a h k i = no_lines
    handlers_in (handler others choices s more) at next a h k i =
        both (statement_in s at next a (omega (arith, h)) k i) (handlers_in more (at + statement_size s (ways_count a)) next a (omega (arith, h)) k i)

    pub body_in : (c : Construct) (b : Body) (at next out : ℕ) (a : Around) → at + body_size b (ways_count a) ≤ T → next ≤ T → out ≤ T → AroundIn a → LinesIn (body_code c b at next out a)
    body_in c (body d begin s hs end) at next out a h k o i =
        let e = ways_count a in
        let first = at + part_size d e in
        let guard = first + statement_size s e in
        let last = first + main_size s hs e in
        let last_in : last ≤ T = omega (arith, h) in
        both (part_in d at first (around_out last a) (omega (arith, h)) (omega (arith, h)) (out_in last a last_in i))
        (both (statement_in s first last (around_out guard a) (omega (arith, h)) last_in (out_in guard a (omega (arith, h)) i))
        (one_and (record { out = last_in; ways = tt; bodies = tt; exit = tt; what = guards_in hs (suc guard) e (omega (arith, h)); at = tt })
        (both (handlers_in hs (suc guard) last (around_out last a) (omega (arith, h)) last_in (out_in last a last_in i)) (one_and (record { out = o; ways = tt; bodies = tt; exit = tt; what = k; at = tt }) no_lines))))

    doing_in : (d : Doing) (opener at next out : ℕ) → at + doing_size d ≤ T → next ≤ T → out ≤ T → LinesIn (doing_code d opener at next out)
    doing_in without_do opener at next out h k o = no_lines
    doing_in (with_do n b) opener at next out h k o =
        let fits = last_is one_line b at 1 in
        body_in construct.Accept b at next out (in_call (Some opener) (end_place b at 1)) h k o (call_in (Some opener) (end_place b at 1) (omega (arith, h, fits)))

    offered_in : (x : Alternatives) (opener at next : ℕ) (a : Around) → at + offered_size x (ways_count a) ≤ T → next ≤ T → AroundIn a → LinesIn (offered_code x opener at next a)
    offered_in no_alternatives opener at next a h k i = no_lines
    offered_in (accepting g pos n d p more) opener at next a h k i =
        let after = at + doing_size d in
        both (doing_in d opener at (part_place p after next) a.out (omega (arith, h)) (part_place_in p after next (omega (arith, h)) k) i.out)
        (both (part_in p after next a (omega (arith, h)) k i) (offered_in more opener (after + part_size p (ways_count a)) next a (omega (arith, h)) k i))
    offered_in (delaying g x p more) opener at next a h k i =
        both (part_in p at next a (omega (arith, h)) k i) (offered_in more opener (at + part_size p (ways_count a)) next a (omega (arith, h)) k i)
    offered_in (terminating g more) opener at next a h k i = offered_in more opener at next a h k i
