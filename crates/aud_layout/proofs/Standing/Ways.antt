-- Ways out: of loops, to the end of a body, through blocks.
use Rattle.std.proofs.Common.{◌≡◌, ℕ, zero, suc, ◌+◌, List, [], ◌∷◌, ◌++◌, length, inl, refl, sym, ap, ◌∙◌, subst, arith, slice_get, unwrap_or, map, Option, Some, None}
use Rattle.std.proofs.lemmas.Option.{unwrap_or-slice_get}
use Rattle.aud_text.specs.declared.place.Pos.{Pos}
use Rattle.aud_typed.specs.Tree.{Statement, sequence, plain_loop, exit, return, return_value, no_handlers, requeue}
use Rattle.aud_meaning.specs.declared.state.Construct.{Construct}
use Rattle.aud_meaning.specs.declared.state.Construct.TheVariants as construct
use Rattle.aud_meaning.specs.Configuration.{Item, Do, InLoop, InFor, Begin, Ends, Leaving}
use Rattle.aud_meaning.specs.Items.{place, Out, one_loop_more, through_block, if_out, out_through, out_of_loop, call_through, out_of_call, exits_to, out_by, out_from, loops_out, goes_out_to}
use Rattle.aud_layout.specs.Layout.{one_more, Around, in_call, stub_line, stubs, stub_ways, statement_code, Code, line_at}
use Rattle.aud_code.specs.Places.{loops_of, goes_way, Way}
use Rattle.aud_layout.specs.Shows.{HasAt, IsStep, IsSettled, EndsAt, Stands, ShowsControl}
use Rattle.aud_layout.proofs.Standing.Places.{has_line, has_tail, line_is}
use Rattle.aud_layout.proofs.Standing.Items.{end_is, for_is}
use Rattle.aud_layout.proofs.Standing.Control.{at_place, resumes}

module _ (code : Code) (returns : List ℕ) where
  -- a way out, and what is left to do then
  abbrev pub FoundAt : Option Out → Option Way → Type 0
  FoundAt None None = Unit {0}
  FoundAt None (Some w) = ⊥
  FoundAt (Some o) None = ⊥
  FoundAt (Some o) (Some w) = (outer : Around) × (o.loops ≡ w.loops) × Stands code outer w.to returns o.to

  abbrev CallAt : Out → Way → Type 0
  CallAt o w = (outer : Around) × (o.loops ≡ w.loops) × Stands code outer w.to returns o.to

  one_loop : (ws : List Way) (n : ℕ) (o : Option Out) → FoundAt o (slice_get ws n) → FoundAt (if_out one_loop_more o) (slice_get (map one_more ws) n)
  one_loop [] n None h = tt
  one_loop [] n (Some o) h = absurd h
  one_loop (w ∷ ws) zero None h = absurd h
  one_loop (w ∷ ws) zero (Some o) h = (h.0, ap suc h.1, h.2)
  one_loop (w ∷ ws) (suc n) o h = one_loop ws n o h

  -- a block is left at one of the lines behind its end
  leaving : (o : Out) (w : Way) (end : Pos) (within : Option ℕ) (at : ℕ) → HasAt code.lines at (stub_line w.loops w.to end within at ∷ []) → CallAt o w → CallAt (through_block end o) (record { to = at; loops = 0 })
  leaving o w end within at has h =
      (in_call within at, refl, (w.to, h.0, refl, subst (λ n. HasAt code.lines at (stub_line n w.to end within at ∷ [])) (sym h.1) has, h.2))

  through : (ws more : List Way) (n : ℕ) (end : Pos) (within : Option ℕ) (at : ℕ) (o : Option Out) → HasAt code.lines at (stubs (ws ++ more) end within at) → FoundAt o (slice_get ws n) → FoundAt (if_out (through_block end) o) (slice_get (stub_ways ws at) n)
  through [] more n end within at None has h = tt
  through [] more n end within at (Some o) has h = absurd h
  through (w ∷ ws) more zero end within at None has h = absurd h
  through (w ∷ ws) more zero end within at (Some o) has h = leaving o w end within at (has_line code.lines at _ _ has) h
  through (w ∷ ws) more (suc n) end within at o has h = through ws more n end within (suc at) o (has_tail code.lines at _ _ has) h

  ends_found : (c : Construct) (end : Pos) (exits : List Way) (back : Way) (within : Option ℕ) (place n : ℕ) (rest : List Item) → EndsAt c (λ a p rs. Stands code a p rs rest) code end exits back within place returns rest → ((a : Around) (p : ℕ) → Stands code a p returns rest → FoundAt (out_of_loop n rest) (slice_get a.exits n)) → FoundAt (out_through c end (out_of_loop n rest)) (slice_get exits n)
  ends_found construct.Block end exits back within place n rest es go =
      let outer = es.1 in
      subst (λ ws. FoundAt (if_out (through_block end) (out_of_loop n rest)) (slice_get ws n)) (sym es.2)
      (through outer.exits (outer.back ∷ []) n end within (suc place) (out_of_loop n rest) (has_tail code.lines place _ _ es.4) (go outer es.0 es.5))
  ends_found construct.Accept end exits back within place n rest es go = subst (λ ws. FoundAt None (slice_get ws n)) (sym es.2) tt
  ends_found construct.Unit end exits back within place n rest es go = subst (λ ws. FoundAt None (slice_get ws n)) (sym es.0) tt

  found_in : (items : List Item) (n : ℕ) (around : Around) (place : ℕ) → Stands code around place returns items → FoundAt (out_of_loop n items) (slice_get around.exits n)
  found_in [] n around place st = subst (λ a. FoundAt None (slice_get a.exits n)) (sym st.2) tt
  found_in (Do s ∷ rest) n around place st = found_in rest n around st.0 st.2
  found_in (InLoop s ∷ rest) zero around place st =
      let h : FoundAt (Some (record { loops = 0; to = rest })) (Some (record { to = st.0; loops = 0 })) = (st.1, refl, st.4) in
      subst (λ a. FoundAt (Some (record { loops = 0; to = rest })) (slice_get a.exits zero)) (sym st.2) h
  found_in (InLoop s ∷ rest) (suc n) around place st =
      subst (λ a. FoundAt (out_of_loop n rest) (slice_get a.exits (suc n))) (sym st.2) (found_in rest n st.1 st.0 st.4)
  found_in (InFor s ∷ rest) zero around place st =
      let h : FoundAt (Some (record { loops = 1; to = rest })) (Some (record { to = st.0; loops = 1 })) = (st.1, refl, st.7) in
      subst (λ a. FoundAt (Some (record { loops = 1; to = rest })) (slice_get a.exits zero)) (sym st.4) h
  found_in (InFor s ∷ rest) (suc n) around place st =
      subst (λ a. FoundAt (if_out one_loop_more (out_of_loop n rest)) (slice_get a.exits (suc n))) (sym st.4) (one_loop st.1.exits n (out_of_loop n rest) (found_in rest n st.1 st.0 st.7))
  found_in (Begin c s h end ∷ rest) n around place st = ends_found c end around.exits around.back around.within around.out n rest st.4 (λ a p w. found_in rest n a p w)
  found_in (Ends c h end ∷ rest) n around place st = ends_found c end around.exits around.back around.within place n rest st.1 (λ a p w. found_in rest n a p w)
  found_in (Leaving m end ∷ rest) n around place st = subst (λ a. FoundAt None (slice_get a.exits n)) (sym st.2) tt

  last_stub : (ws : List Way) (w : Way) (end : Pos) (within : Option ℕ) (at : ℕ) → HasAt code.lines at (stubs (ws ++ w ∷ []) end within at) → HasAt code.lines (at + length ws) (stub_line w.loops w.to end within (at + length ws) ∷ [])
  last_stub [] w end within at has =
      let same : at ≡ at + 0 = omega arith in
      subst (λ p. HasAt code.lines p (stub_line w.loops w.to end within p ∷ [])) same has
  last_stub (v ∷ ws) w end within at has =
      let same : suc at + length ws ≡ at + suc (length ws) = omega arith in
      subst (λ p. HasAt code.lines p (stub_line w.loops w.to end within p ∷ [])) same (last_stub ws w end within (suc at) (has_tail code.lines at _ _ has))

  ends_call : (c : Construct) (end : Pos) (exits : List Way) (back : Way) (within : Option ℕ) (place : ℕ) (rest : List Item) → EndsAt c (λ a p rs. Stands code a p rs rest) code end exits back within place returns rest → ((a : Around) (p : ℕ) → Stands code a p returns rest → CallAt (out_of_call rest) a.back) → CallAt (call_through c end rest (out_of_call rest)) back
  ends_call construct.Block end exits back within place rest es go =
      let outer = es.1 in
      let stub = last_stub outer.exits outer.back end within (suc place) (has_tail code.lines place _ _ es.4) in
      subst (λ w. CallAt (through_block end (out_of_call rest)) w) (sym es.3) (leaving (out_of_call rest) outer.back end within (suc place + length outer.exits) stub (go outer es.0 es.5))
  ends_call construct.Accept end exits back within place rest es go =
      let a : Around = record { out = place; within = within; exits = exits; back = back } in
      let o : Out = record { loops = 0; to = Ends construct.Accept no_handlers end ∷ rest } in
      let h : CallAt o (record { to = place; loops = 0 }) = (a, refl, (inl (refl, refl), es)) in
      subst (λ w. CallAt o w) (sym es.3) h
  ends_call construct.Unit end exits back within place rest es go =
      let a : Around = record { out = place; within = within; exits = exits; back = back } in
      let o : Out = record { loops = 0; to = Ends construct.Unit no_handlers end ∷ rest } in
      let h : CallAt o (record { to = place; loops = 0 }) = (a, refl, (inl (refl, refl), es)) in
      subst (λ w. CallAt o w) (sym es.1) h

  call_in : (items : List Item) (around : Around) (place : ℕ) → Stands code around place returns items → CallAt (out_of_call items) around.back
  call_in [] around place st =
      let h : CallAt (record { loops = 0; to = [] }) (record { to = place; loops = 0 }) = (around, refl, st) in
      subst (λ a. CallAt (record { loops = 0; to = [] }) a.back) (sym st.2) h
  call_in (Do s ∷ rest) around place st = call_in rest around st.0 st.2
  call_in (InLoop s ∷ rest) around place st = subst (λ a. CallAt (out_of_call rest) a.back) (sym st.2) (call_in rest st.1 st.0 st.4)
  call_in (InFor s ∷ rest) around place st =
      let h = call_in rest st.1 st.0 st.7 in
      subst (λ a. CallAt (one_loop_more (out_of_call rest)) a.back) (sym st.4) (h.0, ap suc h.1, h.2)
  call_in (Begin c s h end ∷ rest) around place st = ends_call c end around.exits around.back around.within around.out rest st.4 (λ a p w. call_in rest a p w)
  call_in (Ends c h end ∷ rest) around place st = ends_call c end around.exits around.back around.within place rest st.1 (λ a p w. call_in rest a p w)
  call_in (Leaving m end ∷ rest) around place st =
      let h : CallAt (record { loops = 0; to = Leaving m end ∷ rest }) (record { to = place; loops = 0 }) = (around, refl, st) in
      subst (λ a. CallAt (record { loops = 0; to = Leaving m end ∷ rest }) a.back) (sym st.2) h

  -- an exit that has no such loop goes on behind itself
  exit_found : (o : Option Out) (w : Option Way) (around : Around) (next : ℕ) (rest : List Item) → Stands code around next returns rest → FoundAt o w → FoundAt (exits_to o rest) (Some (unwrap_or w (record { to = next; loops = 0 })))
  exit_found None None around next rest st h = (around, refl, st)
  exit_found None (Some w) around next rest st h = absurd h
  exit_found (Some o) None around next rest st h = absurd h
  exit_found (Some o) (Some w) around next rest st h = h

  out_do : (s : Statement) (around : Around) (place next : ℕ) (rest : List Item) → IsStep s → HasAt code.lines place (statement_code s place next around) → Stands code around next returns rest → FoundAt (out_by s rest) (line_at code place).exit
  out_do (sequence x y) around place next rest is has st = absurd is
  out_do (plain_loop x) around place next rest is has st = absurd is
  out_do (exit pos n e) around place next rest is has st =
      let d : Way = record { to = next; loops = 0 } in
      let h = exit_found (out_of_loop n rest) (slice_get around.exits n) around next rest st (found_in rest n around next st) in
      let h' = subst (λ w. FoundAt (exits_to (out_of_loop n rest) rest) (Some w)) (unwrap_or-slice_get around.exits n d) h in
      subst (λ l. FoundAt (exits_to (out_of_loop n rest) rest) l.exit) (sym (line_is code place _ _ has)) h'
  out_do (return pos) around place next rest is has st = subst (λ l. FoundAt (Some (out_of_call rest)) l.exit) (sym (line_is code place _ _ has)) (call_in rest around next st)
  out_do (return_value pos e) around place next rest is has st = subst (λ l. FoundAt (Some (out_of_call rest)) l.exit) (sym (line_is code place _ _ has)) (call_in rest around next st)
  out_do (requeue pos r) around place next rest is has st = subst (λ l. FoundAt (Some (out_of_call rest)) l.exit) (sym (line_is code place _ _ has)) (call_in rest around next st)
  out_do s around place next rest is has st = subst (λ l. FoundAt None l.exit) (sym (line_is code place _ _ has)) tt

  pub out_found : (items : List Item) (around : Around) (place : ℕ) → Stands code around place returns items → IsSettled items → FoundAt (out_from items) (line_at code place).exit
  out_found [] around place st is = subst (λ l. FoundAt None l.exit) (sym st.0) tt
  out_found (Do s ∷ rest) around place st is = out_do s around place st.0 rest is st.1 st.2
  out_found (InLoop s ∷ rest) around place st is = absurd is
  out_found (InFor s ∷ rest) around place st is =
      let l = for_is code s st.2 st.0 st.1 st.5 st.6 in
      subst (λ l. FoundAt None l.exit) (sym (ap (line_at code) st.3 ∙ l.1)) tt
  out_found (Begin c s h end ∷ rest) around place st is = absurd is
  out_found (Ends c h end ∷ rest) around place st is =
      let l = end_is code returns c end around.exits around.back around.within place rest st.1 in
      subst (λ l. FoundAt None l.exit) (sym l.2) tt
  out_found (Leaving m end ∷ rest) around place st is = subst (λ l. FoundAt None l.exit) (sym (line_is code place _ _ st.3)) tt

  pub out_shown : (o : Option Out) (w : Option Way) (items : List Item) (place : ℕ) → FoundAt o w → ShowsControl code (at_place code place returns) items → ShowsControl code (goes_way w (at_place code place returns)) (goes_out_to o items)
  out_shown None None items place h all = all
  out_shown None (Some w) items place h all = absurd h
  out_shown (Some o) None items place h all = absurd h
  out_shown (Some o) (Some w) items place h all = resumes code returns o.to h.0 w.to h.2

  pub reads_loops : (o : Option Out) (w : Option Way) → FoundAt o w → loops_of w ≡ loops_out o
  reads_loops None None h = refl
  reads_loops None (Some w) h = absurd h
  reads_loops (Some o) None h = absurd h
  reads_loops (Some o) (Some w) h = sym h.1
