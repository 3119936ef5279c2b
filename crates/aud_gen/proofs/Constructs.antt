-- The lines of `for` loops, blocks and bodies in memory.
use Rattle.std.proofs.Common.{◌≡◌, ℕ, suc, ◌+◌, List, [], ◌∷◌, ◌++◌, length, refl, ap, sym, ◌∙◌, arith, length-append}
use Rattle.std.specs.Prelude.{Option, Some, None, map}
use Rattle.aud_text.specs.declared.place.Pos.{Pos}
use Rattle.aud_typed.specs.declared.program.ForStatement.{ForStatement, out-ForStatement}
use Rattle.aud_typed.specs.declared.program.Handler.{Handler}
use Rattle.aud_typed.specs.Ties.View.{plain_integer, statements_in, for_in, handlers_in}
use Rattle.aud_typed.specs.Tree as tree
use Rattle.aud_typed.specs.Tree.{For, body, for_loop, block}
use Rattle.aud_meaning.specs.declared.state.Construct.{Construct}
use Rattle.aud_meaning.specs.declared.state.Construct.TheVariants as construct
use Rattle.aud_code.specs.Places.{Way, Guard}
use Rattle.aud_code.specs.Instruction.{Instruction}
use Rattle.aud_code.specs.Flat.{FlatLine, instructs}
use Rattle.aud_code.specs.declared.line.Last.TheVariants.{Does, Ends}
use Rattle.aud_code.specs.declared.line.Ending.TheVariants.{Block}
use Rattle.aud_layout.specs.Instructions.{integer_code}
use Rattle.aud_layout.specs.Layout.{Line, Around, in_for, in_block, in_call, around_out, ways_count, continues, line, end_line, stubs, stubs_of, guard_line_by, body_size_by, end_place_by, main_size_by, statement_size_by, part_size_by, statement_code_by, part_code_by, handlers_code_by, body_code_by}
use Rattle.aud_layout.specs.Assembly.{end_line as moved_end, step_lines}
use Rattle.aud_layout.specs.Written.{flat_step, written}
use Rattle.aud_layout.proofs.Flat.Assembly.{assembled_append, its_length}
use Rattle.aud_layout.proofs.Standing.Sizes.{count-block}
use Rattle.aud_layout.specs.Leading.{all_ways}
use Rattle.aud_gen.specs.Writes.{bounds, ended, statement_lines, part_lines, for_lines, stub_lines, guard_lines, handlers_lines, body_lines}
use Rattle.aud_gen.proofs.Writing.{Adds, written_more, instructions_written}
use Rattle.aud_gen.proofs.Lines.{continued, statement_length, part_written, body_written}

-- A `for`: its two steps, and its statements.

for_size : (s : ForStatement) (place again next out : ℕ) (within : Option ℕ) → length (for_lines s place again next out within) ≡ suc (suc (bounds s))
for_size s place again next out within =
    let o = out-ForStatement s in
    let f : For = record { at = o.at; next_at = o.next_at; region = o.region; backward = o.backward } in
    let x = plain_integer o.first in
    let y = plain_integer o.last in
    let one = line (for_loop f x y (tree.null o.at)) (next ∷ suc again ∷ []) [] None (in_call within out) in
    let two : Line = record { what = continues f; at = f.next_at; out = out; within = Some place; ways = next ∷ suc again ∷ []; bodies = []; exit = None } in
    omega (arith, length-append (step_lines (λ n. n) one) (step_lines (λ n. n) two ++ []), its_length (integer_code x ++ integer_code y) (moved_end (λ n. n) one), length-append (integer_code x) (integer_code y))

-- from the place of its second step on
for_whole : (s : ForStatement) (place next : ℕ) (a : Around) →
    let again = suc (place + length (integer_code (plain_integer (out-ForStatement s).first) ++ integer_code (plain_integer (out-ForStatement s).last))) in
    for_lines s place again next a.out a.within ++ statement_lines (statements_in (out-ForStatement s).statements) (suc again) again (in_for place next a) ≡ statement_lines (for_in s) place next a
for_whole s place next a =
    let o = out-ForStatement s in
    let f : For = record { at = o.at; next_at = o.next_at; region = o.region; backward = o.backward } in
    let x = plain_integer o.first in
    let y = plain_integer o.last in
    let ss = statements_in o.statements in
    let again = suc (place + length (integer_code x ++ integer_code y)) in
    let two : Line = record { what = continues f; at = f.next_at; out = a.out; within = Some place; ways = next ∷ suc again ∷ []; bodies = []; exit = None } in
    sym (assembled_append (λ n. n) (line (for_loop f x y ss) (next ∷ suc again ∷ []) [] None a ∷ two ∷ []) (statement_code_by flat_step ss (suc again) again (in_for place next a)))

for_done : (s : ForStatement) (old mid new : List FlatLine) (again next : ℕ) (a inner : Around) → again ≡ suc (length old + bounds s) → inner ≡ in_for (length old) next a → mid ≡ old ++ for_lines s (length old) again next a.out a.within →
    new ≡ mid ++ statement_lines (statements_in (out-ForStatement s).statements) (length mid) again inner → new ≡ old ++ statement_lines (for_in s) (length old) next a
for_done s old mid new again next a inner e i h k =
    let ss = statements_in (out-ForStatement s).statements in
    let is = integer_code (plain_integer (out-ForStatement s).first) ++ integer_code (plain_integer (out-ForStatement s).last) in
    let here : again ≡ suc (length old + length is) = omega (arith, e, length-append (integer_code (plain_integer (out-ForStatement s).first)) (integer_code (plain_integer (out-ForStatement s).last))) in
    let inside : length old + suc (suc (bounds s)) ≡ suc again = omega (arith, e) in
    let steps = λ (n : ℕ). for_lines s (length old) n next a.out a.within in
    continued old mid new (steps again) (λ n. statement_lines ss n again inner) (suc (suc (bounds s))) h (for_size s (length old) again next a.out a.within) k
    ∙ ap (λ n. old ++ (steps again ++ statement_lines ss n again inner)) inside
    ∙ ap (λ b. old ++ (steps again ++ statement_lines ss (suc again) again b)) i
    ∙ ap (λ n. old ++ (steps n ++ statement_lines ss (suc n) n (in_for (length old) next a))) here
    ∙ ap (λ ls. old ++ ls) (for_whole s (length old) next a)

pub whole_for : (s : ForStatement) (old mid new : List FlatLine) (place again next : ℕ) (a inner : Around) → place ≡ length old → again ≡ suc (length old + bounds s) → inner ≡ in_for place next a → mid ≡ old ++ for_lines s place again next a.out a.within →
    new ≡ mid ++ statement_lines (statements_in (out-ForStatement s).statements) (length mid) again inner → new ≡ old ++ statement_lines (for_in s) (length old) next a
whole_for s old mid new place again next a inner p e i h k = for_done s old mid new again next a inner e (i ∙ ap (λ n. in_for n next a) p) (h ∙ ap (λ n. old ++ for_lines s n again next a.out a.within) p) k

-- its steps, by what is written of them
pub whole_control : (old n1 n2 n3 new : List FlatLine) (x y : List Instruction) (one two : ℕ → List FlatLine) (inside place : ℕ) → inside ≡ place → Adds old n1 x → Adds n1 n2 y → n3 ≡ n2 ++ one inside → new ≡ n3 ++ two inside → new ≡ old ++ ((map instructs (x ++ y) ++ one place) ++ two place)
whole_control old n1 n2 n3 new x y one two inside place e h1 h2 h3 h4 =
    written_more old n3 new (map instructs (x ++ y) ++ one inside) (two inside) (written_more old n2 n3 (map instructs (x ++ y)) (one inside) (instructions_written old n1 n2 x y h1 h2) h3) h4
    ∙ ap (λ n. old ++ ((map instructs (x ++ y) ++ one n) ++ two n)) e

-- Handlers, one after the other.

abbrev pub with_handlers : List FlatLine → List Handler → (last : ℕ) → Around → List FlatLine
with_handlers now hs last a = now ++ handlers_lines (handlers_in hs) (length now) last a

pub one_handler : (h : Handler) (rest : List Handler) (now new whole : List FlatLine) (last : ℕ) (a : Around) →
    new ≡ now ++ statement_lines (statements_in h.statements) (length now) last a →
    with_handlers now (h ∷ rest) last a ≡ whole → with_handlers new rest last a ≡ whole
one_handler h rest now new whole last a e left =
    let s = statements_in h.statements in
    let first = statement_code_by flat_step s (length now) last a in
    continued now new _ (statement_lines s (length now) last a) (λ place. handlers_lines (handlers_in rest) place last a) _ e (statement_length s (length now) last a) refl
    ∙ ap (λ ls. now ++ ls) (sym (assembled_append (λ n. n) first (handlers_code_by flat_step (handlers_in rest) (length now + statement_size_by flat_step s (ways_count a)) last a)))
    ∙ left

pub guards_moved : (gs : List Guard) → map (λ (g : Guard). record g { to = g.to }) gs ≡ gs
guards_moved [] = refl
guards_moved (g ∷ gs) = ap (λ z. g ∷ z) (guards_moved gs)

-- Bodies.

-- with its end where it is, it is what the layout has
pub body_laid : (c : Construct) (b : tree.Body) (place next out : ℕ) (a : Around) → body_lines c b (end_place_by flat_step b place (ways_count a)) place next out a ≡ written (body_code_by flat_step c b place next out a)
body_laid c (body d begin s h stop) place next out a =
    let e = ways_count a in
    let first = place + part_size_by flat_step d e in
    let guard = first + statement_size_by flat_step s e in
    let last = first + main_size_by flat_step s h e in
    let cd = part_code_by flat_step d place first (around_out last a) in
    let cs = statement_code_by flat_step s first last (around_out guard a) in
    let ch = handlers_code_by flat_step h (suc guard) last (around_out last a) in
    let ce = end_line c stop next out a.within ∷ [] in
    let cg = guard_line_by flat_step h stop (suc guard) last e a.within ∷ [] in
    ap (λ z. written cd ++ (written cs ++ (written cg ++ z))) (sym (assembled_append (λ n. n) ch ce))
    ∙ ap (λ z. written cd ++ (written cs ++ z)) (sym (assembled_append (λ n. n) cg (ch ++ ce)))
    ∙ ap (λ z. written cd ++ z) (sym (assembled_append (λ n. n) cs (cg ++ (ch ++ ce))))
    ∙ sym (assembled_append (λ n. n) cd (cs ++ (cg ++ (ch ++ ce))))

-- one place behind its end
end_and_size : (b : tree.Body) (place e : ℕ) → place + body_size_by flat_step b e ≡ suc (end_place_by flat_step b place e)
end_and_size (body d begin s h stop) place e = omega arith

-- by what is written of it one after the other, its ways being those of surroundings of which only the exceptions differ
module _ (w : ℕ → Around) (within : Option ℕ) (count : ℕ) (counted : (out : ℕ) → ways_count (w out) ≡ count) where
  pub whole_body : (c : Construct) (d : tree.Part) (s : tree.Statement) (h : tree.Handlers) (at : Pos) (old n1 n2 n3 n4 new : List FlatLine) (begin guard last next out : ℕ) →
      begin ≡ length old + part_size_by flat_step d count → guard ≡ begin + statement_size_by flat_step s count →
      n1 ≡ old ++ part_lines d (length old) begin (w last) → n2 ≡ n1 ++ statement_lines s (length n1) last (w guard) →
      n3 ≡ n2 ++ guard_lines h at (length n2) last count within → n4 ≡ n3 ++ handlers_lines h (length n3) last (w last) →
      new ≡ n4 ++ ended (Ends c next) at out within →
      new ≡ old ++ (part_lines d (length old) (length old + part_size_by flat_step d count) (w last) ++ (statement_lines s (length old + part_size_by flat_step d count) last (w (length old + part_size_by flat_step d count + statement_size_by flat_step s count)) ++ (guard_lines h at (length old + part_size_by flat_step d count + statement_size_by flat_step s count) last count within ++ (handlers_lines h (suc (length old + part_size_by flat_step d count + statement_size_by flat_step s count)) last (w last) ++ written (end_line c at next out within ∷ [])))))
  whole_body c d s h at old n1 n2 n3 n4 new begin guard last next out eb eg h1 h2 h3 h4 h5 =
      let A = part_lines d (length old) begin (w last) in
      let S = statement_lines s begin last (w guard) in
      let G = guard_lines h at guard last count within in
      let H = handlers_lines h (suc guard) last (w last) in
      let E = written (end_line c at next out within ∷ []) in
      let l1 : length n1 ≡ begin = ap length h1 ∙ length-append old A ∙ ap (λ n. length old + n) (part_written d (length old) begin (w last) ∙ ap (part_size_by flat_step d) (counted last)) ∙ sym eb in
      let e2 : n2 ≡ n1 ++ S = h2 ∙ ap (λ n. n1 ++ statement_lines s n last (w guard)) l1 in
      let l2 : length n2 ≡ guard = ap length e2 ∙ length-append n1 S ∙ omega (arith, l1, eg, statement_length s begin last (w guard) ∙ ap (statement_size_by flat_step s) (counted guard)) in
      let e3 : n3 ≡ n2 ++ G = h3 ∙ ap (λ n. n2 ++ guard_lines h at n last count within) l2 in
      let l3 : length n3 ≡ suc guard = ap length e3 ∙ length-append n2 G ∙ omega (arith, l2) in
      let e4 : n4 ≡ n3 ++ H = h4 ∙ ap (λ n. n3 ++ handlers_lines h n last (w last)) l3 in
      written_more old n1 new A (S ++ (G ++ (H ++ E))) h1 (written_more n1 n2 new S (G ++ (H ++ E)) e2 (written_more n2 n3 new G (H ++ E) e3 (written_more n3 n4 new H E e4 h5)))
      ∙ ap (λ g. old ++ (A ++ (statement_lines s begin last (w g) ++ (guard_lines h at g last count within ++ (handlers_lines h (suc g) last (w last) ++ E))))) eg
      ∙ ap (λ b. old ++ (part_lines d (length old) b (w last) ++ (statement_lines s b last (w (b + statement_size_by flat_step s count)) ++ (guard_lines h at (b + statement_size_by flat_step s count) last count within ++ (handlers_lines h (suc (b + statement_size_by flat_step s count)) last (w last) ++ E))))) eb

-- A block: its step, its body, and the lines by which it is left on other ways.
module _ (at : Pos) (region : ℕ) (d : tree.Part) (begin : Pos) (s : tree.Statement) (h : tree.Handlers) (stop : Pos) where
  abbrev B : tree.Body
  B = body d begin s h stop

  abbrev enters : (inside next out : ℕ) → Option ℕ → List FlatLine
  enters inside next out within = ended (Does (Block region inside) next) at out within

  block_whole : (place inside next : ℕ) (a : Around) →
      let last = end_place_by flat_step B inside (ways_count a) in
      enters inside next a.out a.within ++ (written (body_code_by flat_step construct.Block B inside next a.out (in_block place last a)) ++ stub_lines (all_ways a) stop (Some place) (suc last))
      ≡ enters inside next a.out a.within ++ written (body_code_by flat_step construct.Block B inside next a.out (in_block place last a) ++ stubs_of B (a.exits ++ a.back ∷ []) (Some place) (suc last))
  block_whole place inside next a =
      let last = end_place_by flat_step B inside (ways_count a) in
      ap (λ ls. enters inside next a.out a.within ++ ls) (sym (assembled_append (λ n. n) (body_code_by flat_step construct.Block B inside next a.out (in_block place last a)) (stubs (a.exits ++ a.back ∷ []) stop (Some place) (suc last))))

  block_done : (old n1 n2 new : List FlatLine) (inside last next : ℕ) (a inner : Around) → inside ≡ length old + 1 → last ≡ end_place_by flat_step B inside (ways_count a) → inner ≡ in_block (length old) last a →
      n1 ≡ old ++ enters inside next a.out a.within → n2 ≡ n1 ++ body_lines construct.Block B last (length n1) next a.out inner → new ≡ n2 ++ stub_lines (all_ways a) stop (Some (length old)) (length n2) →
      new ≡ old ++ statement_lines (block at region B) (length old) next a
  block_done old n1 n2 new inside last next a inner ei el en h1 h2 h3 =
      let place = length old in
      let L = end_place_by flat_step B inside (ways_count a) in
      let laid = written (body_code_by flat_step construct.Block B inside next a.out (in_block place L a)) in
      let stubbed = λ (n : ℕ). stub_lines (all_ways a) stop (Some place) n in
      let l1 : length n1 ≡ inside = ap length h1 ∙ length-append old (enters inside next a.out a.within) ∙ sym ei in
      let e2 : n2 ≡ n1 ++ laid =
      h2 ∙ ap (λ n. n1 ++ body_lines construct.Block B last n next a.out inner) l1
      ∙ ap (λ b. n1 ++ body_lines construct.Block B last inside next a.out b) en
      ∙ ap (λ l. n1 ++ body_lines construct.Block B l inside next a.out (in_block place l a)) el
      ∙ ap (λ e. n1 ++ body_lines construct.Block B (end_place_by flat_step B inside e) inside next a.out (in_block place L a)) (sym (count-block place L a))
      ∙ ap (λ ls. n1 ++ ls) (body_laid construct.Block B inside next a.out (in_block place L a)) in
      let size : length laid ≡ body_size_by flat_step B (ways_count a) = body_written construct.Block B inside next a.out (in_block place L a) ∙ ap (body_size_by flat_step B) (count-block place L a) in
      let l2 : length n2 ≡ suc L = ap length e2 ∙ length-append n1 laid ∙ ap (λ n. n + length laid) l1 ∙ ap (λ n. inside + n) size ∙ end_and_size B inside (ways_count a) in
      let e3 : new ≡ n2 ++ stubbed (suc L) = h3 ∙ ap (λ n. n2 ++ stubbed n) l2 in
      let here : inside ≡ suc (length old + 0) = omega (arith, ei) in
      written_more old n1 new (enters inside next a.out a.within) (laid ++ stubbed (suc L)) h1 (written_more n1 n2 new laid (stubbed (suc L)) e2 e3)
      ∙ ap (λ ls. old ++ ls) (block_whole place inside next a)
      ∙ ap (λ i. old ++ (enters i next a.out a.within ++ written (body_code_by flat_step construct.Block B i next a.out (in_block place (end_place_by flat_step B i (ways_count a)) a) ++ stubs_of B (a.exits ++ a.back ∷ []) (Some place) (suc (end_place_by flat_step B i (ways_count a)))))) here

pub whole_block : (at : Pos) (region : ℕ) (b : tree.Body) (d : tree.Part) (begin : Pos) (s : tree.Statement) (h : tree.Handlers) (stop : Pos) (old n1 n2 new : List FlatLine) (place inside last next : ℕ) (a inner : Around) → b ≡ body d begin s h stop → place ≡ length old → inside ≡ length old + 1 → last ≡ end_place_by flat_step b inside (ways_count a) → inner ≡ in_block place last a →
    n1 ≡ old ++ enters at region d begin s h stop inside next a.out a.within → n2 ≡ n1 ++ body_lines construct.Block b last (length n1) next a.out inner → new ≡ n2 ++ stub_lines (all_ways a) stop (Some place) (length n2) →
    new ≡ old ++ statement_lines (block at region b) (length old) next a
whole_block at region b d begin s h stop old n1 n2 new place inside last next a inner eb p ei el en h1 h2 h3 =
    block_done at region d begin s h stop old n1 n2 new inside last next a inner ei (el ∙ ap (λ z. end_place_by flat_step z inside (ways_count a)) eb) (en ∙ ap (λ n. in_block n last a) p) h1 (h2 ∙ ap (λ z. n1 ++ body_lines construct.Block z last (length n1) next a.out inner) eb) (h3 ∙ ap (λ n. n2 ++ stub_lines (all_ways a) stop (Some n) (length n2)) p)
    ∙ ap (λ z. old ++ statement_lines (block at region z) (length old) next a) (sym eb)

-- Lines by which a block is left.

stubs_length : (ws : List Way) (stop : Pos) (within : Option ℕ) (place : ℕ) → length (stub_lines ws stop within place) ≡ length ws
stubs_length [] stop within place = refl
stubs_length (x ∷ ws) stop within place = ap suc (stubs_length ws stop within (suc place))

abbrev pub with_stubs : List FlatLine → List Way → Pos → Option ℕ → List FlatLine
with_stubs now ws stop within = now ++ stub_lines ws stop within (length now)

pub one_stub : (x : Way) (rest : List Way) (stop : Pos) (within : Option ℕ) (now new whole : List FlatLine) → new ≡ now ++ stub_lines (x ∷ []) stop within (length now) → with_stubs now (x ∷ rest) stop within ≡ whole → with_stubs new rest stop within ≡ whole
one_stub x rest stop within now new whole h left =
    let inside : length now + 1 ≡ suc (length now) = omega arith in
    continued now new _ (stub_lines (x ∷ []) stop within (length now)) (λ n. stub_lines rest stop within n) 1 h refl refl
    ∙ ap (λ n. now ++ (stub_lines (x ∷ []) stop within (length now) ++ stub_lines rest stop within n)) inside
    ∙ left
