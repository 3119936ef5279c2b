-- Lines of the layout with their places moved: what they become stands as it is.
use Rattle.std.proofs.Common.{◌≡◌, ℕ, suc, List, [], ◌∷◌, ◌++◌, map, get_or, Option, Some, None, refl, sym, ap, ◌∙◌}
use Rattle.std.proofs.lemmas.List.{map-append, map-id, length-map}
use Rattle.std.proofs.Math.ListN.{get_or-map}
use Rattle.aud_code.specs.Places.{Way, Guard}
use Rattle.aud_code.specs.Flat.{Guards, instructs, end}
use Rattle.aud_layout.specs.Layout.{What, does, continues, guards, ends, leaves, Line, Around, one_more, in_loop, in_for, around_out, ways_count}
use Rattle.aud_layout.specs.Assembly.{instructions_by, guard_moved, last_by, way_moved, within_moved, end_line, step_lines, assembled_from}

abbrev Stays : ℕ → ℕ
Stays n = n

module _ (f : ℕ → ℕ) where
  abbrev pub way_to : Way → Way
  way_to w = record w { to = f w.to }

  abbrev pub moved : Around → Around
  moved a = record { out = f a.out; within = within_moved f a.within; exits = map way_to a.exits; back = way_to a.back }

  abbrev pub what_moved : What → What
  what_moved (does a) = does a
  what_moved (continues x) = continues x
  what_moved (guards gs) = guards (map (guard_moved f) gs)
  what_moved (ends c next) = ends c (f next)
  what_moved (leaves n next) = leaves n (f next)

  abbrev pub line_moved : Line → Line
  line_moved l = record { what = what_moved l.what; at = l.at; out = f l.out; within = within_moved f l.within; ways = map f l.ways; bodies = map f l.bodies; exit = way_moved f l.exit }

  same_instructions : (w : What) → instructions_by w ≡ instructions_by (what_moved w)
  same_instructions (does a) = refl
  same_instructions (continues x) = refl
  same_instructions (guards gs) = refl
  same_instructions (ends c next) = refl
  same_instructions (leaves n next) = refl

  same_guards : (gs : List Guard) → map (guard_moved f) gs ≡ map (guard_moved Stays) (map (guard_moved f) gs)
  same_guards [] = refl
  same_guards (g ∷ gs) = ap (λ hs. guard_moved f g ∷ hs) (same_guards gs)

  same_last : (w : What) → last_by f w ≡ last_by Stays (what_moved w)
  same_last (does a) = refl
  same_last (continues x) = refl
  same_last (guards gs) = ap Guards (same_guards gs)
  same_last (ends c next) = refl
  same_last (leaves n next) = refl

  same_way : (w : Option Way) → way_moved f w ≡ way_moved Stays (way_moved f w)
  same_way None = refl
  same_way (Some w) = refl

  same_within : (w : Option ℕ) → within_moved f w ≡ within_moved Stays (within_moved f w)
  same_within None = refl
  same_within (Some n) = refl

  same_end : (l : Line) → end_line f l ≡ end_line Stays (line_moved l)
  same_end l =
      ap (λ w. record { last = w; at = l.at; out = f l.out; within = within_moved f l.within; ways = map f l.ways; bodies = map f l.bodies; exit = way_moved f l.exit }) (same_last l.what)
      ∙ ap (λ v. record { last = last_by Stays (what_moved l.what); at = l.at; out = f l.out; within = v; ways = map f l.ways; bodies = map f l.bodies; exit = way_moved f l.exit }) (same_within l.within)
      ∙ ap (λ ns. record { last = last_by Stays (what_moved l.what); at = l.at; out = f l.out; within = within_moved Stays (within_moved f l.within); ways = ns; bodies = map f l.bodies; exit = way_moved f l.exit }) (sym (map-id (map f l.ways)))
      ∙ ap (λ ns. record { last = last_by Stays (what_moved l.what); at = l.at; out = f l.out; within = within_moved Stays (within_moved f l.within); ways = map Stays (map f l.ways); bodies = ns; exit = way_moved f l.exit }) (sym (map-id (map f l.bodies)))
      ∙ ap (λ w. record { last = last_by Stays (what_moved l.what); at = l.at; out = f l.out; within = within_moved Stays (within_moved f l.within); ways = map Stays (map f l.ways); bodies = map Stays (map f l.bodies); exit = w }) (same_way l.exit)

  same_step : (l : Line) → step_lines f l ≡ step_lines Stays (line_moved l)
  same_step l =
      ap (λ is. map instructs is ++ end (end_line f l) ∷ []) (same_instructions l.what) ∙ ap (λ e. map instructs (instructions_by (what_moved l.what)) ++ end e ∷ []) (same_end l)

  pub same_lines : (ls : List Line) → assembled_from f ls ≡ assembled_from (λ n. n) (map line_moved ls)
  same_lines [] = refl
  same_lines (l ∷ ls) = ap (λ xs. xs ++ assembled_from f ls) (same_step l) ∙ ap (λ xs. step_lines Stays (line_moved l) ++ xs) (same_lines ls)

  -- What is moved, part by part.

  -- a line, and lines, with their places moved
  pub record MovesLine (l m : Line) : Type 0 where
    pub is : line_moved l ≡ m

  pub record Moves (ls ms : List Line) : Type 0 where
    pub is : map line_moved ls ≡ ms

  pub none_moved : Moves [] []
  none_moved = record { is = refl }

  pub more_moved : {l m : Line} {ls ms : List Line} → MovesLine l m → Moves ls ms → Moves (l ∷ ls) (m ∷ ms)
  more_moved {l} {m} {ls} {ms} h k = record { is = ap (λ x. x ∷ map line_moved ls) h.is ∙ ap (λ xs. m ∷ xs) k.is }

  pub both_moved : {a b c d : List Line} → Moves a c → Moves b d → Moves (a ++ b) (c ++ d)
  both_moved {a} {b} {c} {d} h k = record { is = map-append line_moved a b ∙ ap (λ ls. ls ++ map line_moved b) h.is ∙ ap (λ ls. c ++ ls) k.is }

  pub count_moved : (a b : Around) → moved a ≡ b → ways_count a ≡ ways_count b
  count_moved a b e = ap suc (sym (length-map a.exits way_to)) ∙ ap ways_count e

  pub out_moved : (n m : ℕ) (a b : Around) → f n ≡ m → moved a ≡ b → moved (around_out n a) ≡ around_out m b
  out_moved n m a b h k = ap (λ x. around_out x (moved a)) h ∙ ap (around_out m) k

  pub loop_moved : (n m : ℕ) (a b : Around) → f n ≡ m → moved a ≡ b → moved (in_loop n a) ≡ in_loop m b
  loop_moved n m a b h k = ap (λ x. in_loop x (moved a)) h ∙ ap (in_loop m) k

  ways_moved : (ws : List Way) → map way_to (map one_more ws) ≡ map one_more (map way_to ws)
  ways_moved [] = refl
  ways_moved (w ∷ ws) = ap (λ xs. one_more (way_to w) ∷ xs) (ways_moved ws)

  -- the step of the loop at the place p, and behind it the place n
  pub for_moved : (p q n m : ℕ) (a b : Around) → f p ≡ q → f n ≡ m → moved a ≡ b → moved (in_for p n a) ≡ in_for q m b
  for_moved p q n m a b e h k =
      ap (λ ws. record { out = f a.out; within = Some (f p); exits = record { to = f n; loops = 1 } ∷ ws; back = one_more (way_to a.back) }) (ways_moved a.exits)
      ∙ ap (λ x. in_for x (f n) (moved a)) e
      ∙ ap (λ x. in_for q x (moved a)) h
      ∙ ap (in_for q m) k

  pub exit_moved : (a b : Around) (k n m : ℕ) → f n ≡ m → moved a ≡ b → way_to (get_or a.exits k (record { to = n; loops = 0 })) ≡ get_or b.exits k (record { to = m; loops = 0 })
  exit_moved a b k n m h e =
      sym (get_or-map way_to a.exits k (record { to = n; loops = 0 })) ∙ ap (λ x. get_or (map way_to a.exits) k (record { to = x; loops = 0 })) h
      ∙ ap (λ c. get_or c.exits k (record { to = m; loops = 0 })) e
