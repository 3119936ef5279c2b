-- The code of entry calls, accepts and selective accepts in memory.
use Rattle.std.proofs.Common.{◌≡◌, ℕ, suc, ◌+◌, ◌<◌, List, [], ◌∷◌, ◌++◌, length, drop, get_or, add-one, refl, ap, sym, ◌∙◌, arith, append-nil, append_assoc, length-append}
use Rattle.std.specs.Prelude.{Some, None, map}
use Rattle.aud_text.specs.declared.place.Pos.{Pos}
use Rattle.aud_typed.specs.declared.program.AcceptStatement.{AcceptStatement'}
use Rattle.aud_typed.specs.declared.program.Alternative as alternative
use Rattle.aud_typed.specs.declared.program.Alternative.{Alternative}
use Rattle.aud_typed.specs.declared.program.Statement.{Statement}
use Rattle.aud_typed.specs.Ties.View.{plain_boolean, plain_delay, plain_held, plain_row, plain_statements, plain_alternative, alternatives_in}
use Rattle.aud_typed.specs.Tree as tree
use Rattle.aud_typed.specs.Tree.{Doing, with_do, Part, part_of, entry_call, accept, select, accepting, no_alternatives}
use Rattle.aud_meaning.specs.declared.state.Construct.TheVariants as construct
use Rattle.aud_code.specs.Instruction.{Instruction, OpensAccept, OpensDelay, OpensTerminate, PassUnlessNext}
use Rattle.aud_code.specs.Flat.{FlatLine, EndLine, instructs, end}
use Rattle.aud_layout.specs.Instructions.{condition_code, guards_code, timed_code, delays_code, instructions_of}
use Rattle.aud_layout.specs.Layout.{Line, Around, ways_count, in_call, line, part_place, doing_place, end_place_by, part_size_by, doing_size_by, offered_size_by, parts_from_by, bodies_from_by, part_code_by, doing_code_by, offered_code_by}
use Rattle.aud_layout.specs.Assembly.{end_line, step_lines}
use Rattle.aud_layout.specs.Written.{flat_step, written}
use Rattle.aud_layout.proofs.Flat.Assembly.{assembled_append, its_length}
use Rattle.aud_layout.proofs.Flat.Behind.{adds}
use Rattle.aud_layout.proofs.Standing.Sizes.{total-doing, total-offered}
use Rattle.aud_gen.specs.Writes.{alone, alternative_size, Code, Instructs, Writes, statement_lines, part_lines, doing_lines, offered_lines, body_lines}
use Rattle.aud_gen.proofs.Constructs.{body_laid}
use Rattle.aud_gen.proofs.Lines.{continued, part_written, written_length}
use Rattle.aud_gen.proofs.Loops.{dropped}
use Rattle.aud_gen.proofs.Writing.{Adds, written_more}

-- An alternative, and those behind it.

guards_split : (n : ℕ) (a : Alternative) (rest : tree.Alternatives) → guards_code n (plain_alternative a rest) ≡ guards_code n (alone a) ++ guards_code (suc n) rest
guards_split n (alternative.Accept' guard (AcceptStatement' at entry doing) shape after) rest = sym (append_assoc (condition_code (plain_boolean guard)) (OpensAccept _ ∷ []) (guards_code (suc n) rest))
guards_split n (alternative.Delay' guard e shape after) rest = sym (append_assoc (condition_code (plain_boolean guard)) (OpensDelay n ∷ []) (guards_code (suc n) rest))
guards_split n (alternative.Terminate guard) rest = sym (append_assoc (condition_code (plain_boolean guard)) (OpensTerminate ∷ []) (guards_code (suc n) rest))

delays_split : (n : ℕ) (a : Alternative) (rest : tree.Alternatives) → delays_code n (plain_alternative a rest) ≡ delays_code n (alone a) ++ delays_code (suc n) rest
delays_split n (alternative.Accept' guard (AcceptStatement' at entry doing) shape after) rest = refl
delays_split n (alternative.Delay' guard e shape after) rest =
    let is = timed_code n (plain_delay e) in
    ap (λ z. PassUnlessNext n (length is) ∷ (z ++ delays_code (suc n) rest)) (sym (append-nil is))
delays_split n (alternative.Terminate guard) rest = refl

size_split : (a : Alternative) (rest : tree.Alternatives) (ways : ℕ) → offered_size_by flat_step (plain_alternative a rest) ways ≡ alternative_size a ways + offered_size_by flat_step rest ways
size_split (alternative.Accept' guard (AcceptStatement' at entry doing) shape after) rest ways = omega arith
size_split (alternative.Delay' guard e shape after) rest ways = omega arith
size_split (alternative.Terminate guard) rest ways = omega arith

code_split : (x : Alternative) (rest : tree.Alternatives) (opener place next : ℕ) (a : Around) →
    offered_code_by flat_step (plain_alternative x rest) opener place next a ≡ offered_code_by flat_step (alone x) opener place next a ++ offered_code_by flat_step rest opener (place + alternative_size x (ways_count a)) next a
code_split (alternative.Accept' guard (AcceptStatement' at entry doing) shape after) rest opener place next a =
    let d = plain_held doing in
    let p = part_of (plain_row after) in
    let second = place + doing_size_by flat_step d in
    let D = doing_code_by flat_step d opener place (part_place p second next) a.out in
    let P = part_code_by flat_step p second next a in
    let R = λ (n : ℕ). offered_code_by flat_step rest opener n next a in
    let there : second + part_size_by flat_step p (ways_count a) ≡ place + (doing_size_by flat_step d + (part_size_by flat_step p (ways_count a) + 0)) = omega arith in
    ap (λ z. D ++ (z ++ R (second + part_size_by flat_step p (ways_count a)))) (sym (append-nil P))
    ∙ sym (append_assoc D (P ++ []) (R (second + part_size_by flat_step p (ways_count a))))
    ∙ ap (λ n. (D ++ (P ++ [])) ++ R n) there
code_split (alternative.Delay' guard e shape after) rest opener place next a =
    let p = part_of (plain_row after) in
    let P = part_code_by flat_step p place next a in
    let R = λ (n : ℕ). offered_code_by flat_step rest opener n next a in
    let there : place + part_size_by flat_step p (ways_count a) ≡ place + (part_size_by flat_step p (ways_count a) + 0) = omega arith in
    ap (λ z. z ++ R (place + part_size_by flat_step p (ways_count a))) (sym (append-nil P)) ∙ ap (λ n. (P ++ []) ++ R n) there
code_split (alternative.Terminate guard) rest opener place next a =
    let there : place ≡ place + 0 = omega arith in
    ap (λ n. offered_code_by flat_step rest opener n next a) there

parts_split : (x : Alternative) (rest : tree.Alternatives) (place next ways : ℕ) →
    parts_from_by flat_step (plain_alternative x rest) place next ways ≡ parts_from_by flat_step (alone x) place next ways ++ parts_from_by flat_step rest (place + alternative_size x ways) next ways
parts_split (alternative.Accept' guard (AcceptStatement' at entry doing) shape after) rest place next ways =
    let d = plain_held doing in
    let p = part_of (plain_row after) in
    let there : place + doing_size_by flat_step d + part_size_by flat_step p ways ≡ place + (doing_size_by flat_step d + (part_size_by flat_step p ways + 0)) = omega arith in
    ap (λ n. part_place p (place + doing_size_by flat_step d) next ∷ parts_from_by flat_step rest n next ways) there
parts_split (alternative.Delay' guard e shape after) rest place next ways =
    let p = part_of (plain_row after) in
    let there : place + part_size_by flat_step p ways ≡ place + (part_size_by flat_step p ways + 0) = omega arith in
    ap (λ n. part_place p place next ∷ parts_from_by flat_step rest n next ways) there
parts_split (alternative.Terminate guard) rest place next ways =
    let there : place ≡ place + 0 = omega arith in
    ap (λ n. next ∷ parts_from_by flat_step rest n next ways) there

bodies_split : (x : Alternative) (rest : tree.Alternatives) (place next ways : ℕ) →
    bodies_from_by flat_step (plain_alternative x rest) place next ways ≡ bodies_from_by flat_step (alone x) place next ways ++ bodies_from_by flat_step rest (place + alternative_size x ways) next ways
bodies_split (alternative.Accept' guard (AcceptStatement' at entry doing) shape after) rest place next ways =
    let d = plain_held doing in
    let p = part_of (plain_row after) in
    let there : place + doing_size_by flat_step d + part_size_by flat_step p ways ≡ place + (doing_size_by flat_step d + (part_size_by flat_step p ways + 0)) = omega arith in
    ap (λ n. doing_place d place (part_place p (place + doing_size_by flat_step d) next) ∷ bodies_from_by flat_step rest n next ways) there
bodies_split (alternative.Delay' guard e shape after) rest place next ways =
    let p = part_of (plain_row after) in
    let there : place + part_size_by flat_step p ways ≡ place + (part_size_by flat_step p ways + 0) = omega arith in
    ap (λ n. part_place p place next ∷ bodies_from_by flat_step rest n next ways) there
bodies_split (alternative.Terminate guard) rest place next ways =
    let there : place ≡ place + 0 = omega arith in
    ap (λ n. next ∷ bodies_from_by flat_step rest n next ways) there

-- Loops over alternatives: what is left of them from an index on, which has the next number.

abbrev pub guards_from : List Alternative → ℕ → List Instruction
guards_from xs i = guards_code (i + 1) (alternatives_in (drop i xs))

abbrev pub delays_from : List Alternative → ℕ → List Instruction
delays_from xs i = delays_code (i + 1) (alternatives_in (drop i xs))

pub next_guard : (xs : List Alternative) (i : ℕ) (x : Alternative) → i < length xs → x ≡ get_or xs i x → guards_from xs i ≡ guards_code (i + 1) (alone x) ++ guards_from xs (i + 1)
next_guard xs i x h e =
    ap (λ ys. guards_code (i + 1) (alternatives_in ys)) (dropped xs i x h e)
    ∙ guards_split (i + 1) x (alternatives_in (drop (i + 1) xs))
    ∙ ap (λ n. guards_code (i + 1) (alone x) ++ guards_code n (alternatives_in (drop (i + 1) xs))) (sym (add-one (i + 1)))

pub next_delay : (xs : List Alternative) (i : ℕ) (x : Alternative) → i < length xs → x ≡ get_or xs i x → delays_from xs i ≡ delays_code (i + 1) (alone x) ++ delays_from xs (i + 1)
next_delay xs i x h e =
    ap (λ ys. delays_code (i + 1) (alternatives_in ys)) (dropped xs i x h e)
    ∙ delays_split (i + 1) x (alternatives_in (drop (i + 1) xs))
    ∙ ap (λ n. delays_code (i + 1) (alone x) ++ delays_code n (alternatives_in (drop (i + 1) xs))) (sym (add-one (i + 1)))

pub next_guard_length : (xs : List Alternative) (i : ℕ) (x : Alternative) → i < length xs → x ≡ get_or xs i x → length (guards_from xs i) ≡ length (guards_code (i + 1) (alone x)) + length (guards_from xs (i + 1))
next_guard_length xs i x h e = ap length (next_guard xs i x h e) ∙ length-append (guards_code (i + 1) (alone x)) (guards_from xs (i + 1))

pub next_delay_length : (xs : List Alternative) (i : ℕ) (x : Alternative) → i < length xs → x ≡ get_or xs i x → length (delays_from xs i) ≡ length (delays_code (i + 1) (alone x)) + length (delays_from xs (i + 1))
next_delay_length xs i x h e = ap length (next_delay xs i x h e) ∙ length-append (delays_code (i + 1) (alone x)) (delays_from xs (i + 1))

pub next_alternative : (xs : List Alternative) (i : ℕ) (x : Alternative) → i < length xs → x ≡ get_or xs i x → (ways : ℕ) → offered_size_by flat_step (alternatives_in (drop i xs)) ways ≡ alternative_size x ways + offered_size_by flat_step (alternatives_in (drop (i + 1) xs)) ways
next_alternative xs i x h e ways = ap (λ ys. offered_size_by flat_step (alternatives_in ys) ways) (dropped xs i x h e) ∙ size_split x (alternatives_in (drop (i + 1) xs)) ways

-- where alternatives lead, so far and those that are left
pub one_offer : (xs : List Alternative) (i : ℕ) (x : Alternative) → i < length xs → x ≡ get_or xs i x → (place next ways behind : ℕ) (done more whole : List ℕ) →
    parts_from_by flat_step (alone x) place next ways ≡ behind ∷ [] → more ≡ done ++ behind ∷ [] →
    done ++ parts_from_by flat_step (alternatives_in (drop i xs)) place next ways ≡ whole →
    more ++ parts_from_by flat_step (alternatives_in (drop (i + 1) xs)) (place + alternative_size x ways) next ways ≡ whole
one_offer xs i x h e place next ways behind done more whole one is left =
    let rest = parts_from_by flat_step (alternatives_in (drop (i + 1) xs)) (place + alternative_size x ways) next ways in
    let first = ap (λ ys. parts_from_by flat_step (alternatives_in ys) place next ways) (dropped xs i x h e) ∙ parts_split x (alternatives_in (drop (i + 1) xs)) place next ways in
    ap (λ z. z ++ rest) is
    ∙ append_assoc done (behind ∷ []) rest
    ∙ ap (λ z. done ++ (z ++ rest)) (sym one)
    ∙ ap (λ z. done ++ z) (sym first)
    ∙ left

pub one_body : (xs : List Alternative) (i : ℕ) (x : Alternative) → i < length xs → x ≡ get_or xs i x → (place next ways body : ℕ) (done more whole : List ℕ) →
    bodies_from_by flat_step (alone x) place next ways ≡ body ∷ [] → more ≡ done ++ body ∷ [] →
    done ++ bodies_from_by flat_step (alternatives_in (drop i xs)) place next ways ≡ whole →
    more ++ bodies_from_by flat_step (alternatives_in (drop (i + 1) xs)) (place + alternative_size x ways) next ways ≡ whole
one_body xs i x h e place next ways body done more whole one is left =
    let rest = bodies_from_by flat_step (alternatives_in (drop (i + 1) xs)) (place + alternative_size x ways) next ways in
    let first = ap (λ ys. bodies_from_by flat_step (alternatives_in ys) place next ways) (dropped xs i x h e) ∙ bodies_split x (alternatives_in (drop (i + 1) xs)) place next ways in
    ap (λ z. z ++ rest) is
    ∙ append_assoc done (body ∷ []) rest
    ∙ ap (λ z. done ++ (z ++ rest)) (sym one)
    ∙ ap (λ z. done ++ z) (sym first)
    ∙ left

-- A step: its instructions, and its ending.

pub whole_step : (old mid new : List FlatLine) (is : List Instruction) (a b : EndLine) → a ≡ b → Adds old mid is → new ≡ mid ++ end a ∷ [] → new ≡ old ++ ((map instructs is ++ end b ∷ []) ++ [])
whole_step old mid new is a b e h k =
    written_more old mid new (map instructs is) (end a ∷ []) h k
    ∙ ap (λ (z : EndLine). old ++ (map instructs is ++ end z ∷ [])) e
    ∙ ap (λ ls. old ++ ls) (sym (append-nil (map instructs is ++ end b ∷ [])))

pub one_step : {a b c : Code} (is : List Instruction) (k l : EndLine) → k ≡ l → Instructs a b is → Writes b c (end k ∷ []) → Writes a c ((map instructs is ++ end l ∷ []) ++ [])
one_step {a} {b} {c} is k l e h m = record {
  unless_refused = λ r.
      let then = m.unless_refused r in
      let first = h.writes.unless_refused then.0 in
      (first.0, whole_step a.lines b.lines c.lines is k l e first.1 then.1);
}

pub places_moved : (ns : List ℕ) → ns ≡ map (λ (n : ℕ). n) ns
places_moved [] = refl
places_moved (n ∷ ns) = ap (λ z. n ∷ z) (places_moved ns)

step_size : (l : Line) → length (written (l ∷ [])) ≡ length (step_lines (λ n. n) l)
step_size l = ap length (append-nil (step_lines (λ n. n) l))

-- the step of a statement, behind which others stand
module _ (s : tree.Statement) (a : Around) where
  abbrev its_line : (ways bodies : List ℕ) → Line
  its_line ways bodies = line s ways bodies None a

  abbrev pub its_step : (ways bodies : List ℕ) → List FlatLine
  its_step ways bodies = written (its_line ways bodies ∷ [])

  abbrev pub inside_of : ℕ → ℕ
  inside_of place = suc (place + length (instructions_of s))

  pub step_there : (ways bodies : List ℕ) (old new : List FlatLine) → new ≡ old ++ its_step ways bodies → length new ≡ inside_of (length old)
  step_there ways bodies old new h =
      omega (arith, ap length h, length-append old (its_step ways bodies), step_size (its_line ways bodies), its_length (instructions_of s) (end_line (λ n. n) (its_line ways bodies)))

  pub step_and : (ways bodies : List ℕ) (rest : List Line) → its_step ways bodies ++ written rest ≡ written (its_line ways bodies ∷ rest)
  step_and ways bodies rest = sym (assembled_append (λ n. n) (its_line ways bodies ∷ []) rest)

-- What was written of a list that was read.

pub list_read : (old new : List FlatLine) (xs ys : List Statement) (next : ℕ) (a : Around) → xs ≡ ys → new ≡ old ++ part_lines (part_of (plain_statements xs)) (length old) next a → new ≡ old ++ part_lines (part_of (plain_statements ys)) (length old) next a
list_read old new xs ys next a is h = h ∙ ap (λ zs. old ++ part_lines (part_of (plain_statements zs)) (length old) next a) is

pub offered_read : (old new : List FlatLine) (xs ys : List Alternative) (m n next : ℕ) (a : Around) → xs ≡ ys → m ≡ n → new ≡ old ++ offered_lines (alternatives_in xs) m (length old) next a → new ≡ old ++ offered_lines (alternatives_in ys) n (length old) next a
offered_read old new xs ys m n next a is same h =
    h
    ∙ ap (λ zs. old ++ offered_lines (alternatives_in zs) m (length old) next a) is
    ∙ ap (λ (k : ℕ). old ++ offered_lines (alternatives_in ys) k (length old) next a) same

-- An entry call: its step, what stands behind the call, and what is done where it is left.
module _ (at : Pos) (call : tree.EntryCall) (p q : Part) (next : ℕ) (a : Around) where
  abbrev S : tree.Statement
  S = entry_call at call p q

  call_done : (old n1 n2 new : List FlatLine) (x y : ℕ) →
      let inside = inside_of S a (length old) in
      x ≡ part_place p inside next → y ≡ part_place q (inside + part_size_by flat_step p (ways_count a)) next →
      n1 ≡ old ++ its_step S a (x ∷ y ∷ []) [] → n2 ≡ n1 ++ part_lines p (length n1) next a → new ≡ n2 ++ part_lines q (length n2) next a → new ≡ old ++ statement_lines S (length old) next a
  call_done old n1 n2 new x y ex ey h1 h2 h3 =
      let inside = inside_of S a (length old) in
      let second = inside + part_size_by flat_step p (ways_count a) in
      let step = λ (x y : ℕ). its_step S a (x ∷ y ∷ []) [] in
      let P = part_code_by flat_step p inside next a in
      let Q = part_code_by flat_step q second next a in
      let l1 = step_there S a (x ∷ y ∷ []) [] old n1 h1 in
      let e2 : n2 ≡ n1 ++ written P = h2 ∙ ap (λ n. n1 ++ part_lines p n next a) l1 in
      let l2 : length n2 ≡ second = ap length e2 ∙ length-append n1 (written P) ∙ omega (arith, l1, part_written p inside next a) in
      let e3 : new ≡ n2 ++ written Q = h3 ∙ ap (λ n. n2 ++ part_lines q n next a) l2 in
      written_more old n1 new (step x y) (written P ++ written Q) h1 (written_more n1 n2 new (written P) (written Q) e2 e3)
      ∙ ap (λ n. old ++ (step n y ++ (written P ++ written Q))) ex
      ∙ ap (λ n. old ++ (step (part_place p inside next) n ++ (written P ++ written Q))) ey
      ∙ ap (λ ls. old ++ (step (part_place p inside next) (part_place q second next) ++ ls)) (sym (assembled_append (λ n. n) P Q))
      ∙ ap (λ ls. old ++ ls) (step_and S a (part_place p inside next ∷ part_place q second next ∷ []) [] (P ++ Q))

pub whole_call : (at : Pos) (call : tree.EntryCall) (p q : Part) (old n1 n2 new : List FlatLine) (x y next : ℕ) (a : Around) →
    let inside = inside_of (entry_call at call p q) a (length old) in
    x ≡ part_place p inside next → y ≡ part_place q (inside + part_size_by flat_step p (ways_count a)) next →
    n1 ≡ old ++ its_step (entry_call at call p q) a (x ∷ y ∷ []) [] → n2 ≡ n1 ++ part_lines p (length n1) next a → new ≡ n2 ++ part_lines q (length n2) next a → new ≡ old ++ statement_lines (entry_call at call p q) (length old) next a
whole_call at call p q old n1 n2 new x y next a ex ey h1 h2 h3 = call_done at call p q next a old n1 n2 new x y ex ey h1 h2 h3

-- An accept: its step, and what it does.

pub whole_accept : (at : Pos) (entry : ℕ) (d : Doing) (old mid new : List FlatLine) (own body next : ℕ) (a : Around) → own ≡ length old → body ≡ doing_place d (own + 1) next →
    mid ≡ old ++ its_step (accept at entry d) a (next ∷ []) (body ∷ []) → new ≡ mid ++ doing_lines d own (length mid) next a.out → new ≡ old ++ statement_lines (accept at entry d) (length old) next a
whole_accept at entry d old mid new own body next a eo eb h k =
    let inside = inside_of (accept at entry d) a (length old) in
    let here : own + 1 ≡ inside = omega (arith, eo) in
    let step = λ (n : ℕ). its_step (accept at entry d) a (next ∷ []) (n ∷ []) in
    let D = doing_code_by flat_step d (length old) inside next a.out in
    let leads = eb ∙ ap (λ n. doing_place d n next) here in
    let does : new ≡ mid ++ written D = k ∙ ap (λ n. mid ++ doing_lines d own n next a.out) (step_there (accept at entry d) a (next ∷ []) (body ∷ []) old mid h) ∙ ap (λ n. mid ++ doing_lines d n inside next a.out) eo in
    written_more old mid new (step body) (written D) h does
    ∙ ap (λ n. old ++ (step n ++ written D)) leads
    ∙ ap (λ ls. old ++ ls) (step_and (accept at entry d) a (next ∷ []) (doing_place d inside next ∷ []) D)

-- what it does, which is a body
pub whole_doing : (d : Doing) (region : ℕ) (b : tree.Body) (opener last next out : ℕ) (old new : List FlatLine) (a : Around) → d ≡ with_do region b → last ≡ end_place_by flat_step b (length old) 1 → a ≡ in_call (Some opener) last →
    new ≡ old ++ body_lines construct.Accept b last (length old) next out a → new ≡ old ++ doing_lines d opener (length old) next out
whole_doing d region b opener last next out old new a is el ea h =
    let L = end_place_by flat_step b (length old) 1 in
    h
    ∙ ap (λ z. old ++ body_lines construct.Accept b last (length old) next out z) ea
    ∙ ap (λ l. old ++ body_lines construct.Accept b l (length old) next out (in_call (Some opener) l)) el
    ∙ ap (λ ls. old ++ ls) (body_laid construct.Accept b (length old) next out (in_call (Some opener) L))
    ∙ ap (λ z. old ++ doing_lines z opener (length old) next out) (sym is)

doing_written : (d : Doing) (opener place next out : ℕ) → length (doing_lines d opener place next out) ≡ doing_size_by flat_step d
doing_written d opener place next out = written_length (doing_code_by flat_step d opener place next out) ∙ (total-doing flat_step adds flat_step d opener place next out).is

offered_written : (o : tree.Alternatives) (opener place next : ℕ) (a : Around) → length (offered_lines o opener place next a) ≡ offered_size_by flat_step o (ways_count a)
offered_written o opener place next a = written_length (offered_code_by flat_step o opener place next a) ∙ (total-offered flat_step adds flat_step o opener place next a).is

-- An alternative that accepts: what the accept does, and what stands behind it.
pub whole_alternative : (o : tree.Alternatives) (g : tree.BooleanExpression) (at : Pos) (entry : ℕ) (d : Doing) (p : Part) (old mid new : List FlatLine) (opener second behind next : ℕ) (a : Around) →
    o ≡ accepting g at entry d p no_alternatives → second ≡ length old + doing_size_by flat_step d → behind ≡ part_place p second next →
    mid ≡ old ++ doing_lines d opener (length old) behind a.out → new ≡ mid ++ part_lines p (length mid) next a → new ≡ old ++ offered_lines o opener (length old) next a
whole_alternative o g at entry d p old mid new opener second behind next a is es eb h k =
    let place = length old in
    let after = place + doing_size_by flat_step d in
    let D = λ (n : ℕ). doing_lines d opener place n a.out in
    let P = part_code_by flat_step p after next a in
    let D' = doing_code_by flat_step d opener place (part_place p after next) a.out in
    let leads = eb ∙ ap (λ n. part_place p n next) es in
    let l1 : length mid ≡ after = ap length h ∙ length-append old (D behind) ∙ ap (λ n. place + n) (doing_written d opener place behind a.out) in
    let stands : new ≡ mid ++ written P = k ∙ ap (λ n. mid ++ part_lines p n next a) l1 in
    written_more old mid new (D behind) (written P) h stands
    ∙ ap (λ n. old ++ (D n ++ written P)) leads
    ∙ ap (λ z. old ++ (written D' ++ written z)) (sym (append-nil P))
    ∙ ap (λ ls. old ++ ls) (sym (assembled_append (λ n. n) D' (P ++ [])))
    ∙ ap (λ z. old ++ offered_lines z opener place next a) (sym is)

-- one that does not
pub whole_waiting : (o : tree.Alternatives) (g : tree.BooleanExpression) (e : tree.DelayExpression) (p : Part) (old new : List FlatLine) (opener next : ℕ) (a : Around) →
    o ≡ tree.delaying g e p no_alternatives → new ≡ old ++ part_lines p (length old) next a → new ≡ old ++ offered_lines o opener (length old) next a
whole_waiting o g e p old new opener next a is h =
    h
    ∙ ap (λ z. old ++ written z) (sym (append-nil (part_code_by flat_step p (length old) next a)))
    ∙ ap (λ z. old ++ offered_lines z opener (length old) next a) (sym is)

-- What was written of alternatives, and what is left to write of them.

abbrev pub with_offered : List FlatLine → List Alternative → (opener next : ℕ) → Around → List FlatLine
with_offered now xs opener next a = now ++ offered_lines (alternatives_in xs) opener (length now) next a

pub one_offered : (x : Alternative) (rest : List Alternative) (now new whole : List FlatLine) (opener next : ℕ) (a : Around) → new ≡ now ++ offered_lines (alone x) opener (length now) next a → with_offered now (x ∷ rest) opener next a ≡ whole → with_offered new rest opener next a ≡ whole
one_offered x rest now new whole opener next a h left =
    let first = offered_code_by flat_step (alone x) opener (length now) next a in
    let more = offered_code_by flat_step (alternatives_in rest) opener (length now + alternative_size x (ways_count a)) next a in
    continued now new _ (offered_lines (alone x) opener (length now) next a) (λ place. offered_lines (alternatives_in rest) opener place next a) _ h (offered_written (alone x) opener (length now) next a) refl
    ∙ ap (λ ls. now ++ ls) (sym (ap written (code_split x (alternatives_in rest) opener (length now) next a) ∙ assembled_append (λ n. n) first more))
    ∙ left

-- A selective accept: its step, what lies in its alternatives, and what stands behind its `else`.
module _ (at : Pos) (offered : tree.Alternatives) (p : Part) (next : ℕ) (a : Around) where
  abbrev C : tree.Statement
  C = select at offered p

  select_done : (old n1 n2 new : List FlatLine) (x : ℕ) (ways bodies : List ℕ) →
      let inside = inside_of C a (length old) in
      x ≡ part_place p (inside + offered_size_by flat_step offered (ways_count a)) next → ways ≡ parts_from_by flat_step offered inside next (ways_count a) → bodies ≡ bodies_from_by flat_step offered inside next (ways_count a) →
      n1 ≡ old ++ its_step C a (x ∷ ways) (length old ∷ bodies) → n2 ≡ n1 ++ offered_lines offered (length old) (length n1) next a → new ≡ n2 ++ part_lines p (length n2) next a → new ≡ old ++ statement_lines C (length old) next a
  select_done old n1 n2 new x ways bodies ex ew eb h1 h2 h3 =
      let own = length old in
      let inside = inside_of C a own in
      let second = inside + offered_size_by flat_step offered (ways_count a) in
      let O = offered_code_by flat_step offered own inside next a in
      let P = part_code_by flat_step p second next a in
      let l1 = step_there C a (x ∷ ways) (own ∷ bodies) old n1 h1 in
      let e2 : n2 ≡ n1 ++ written O = h2 ∙ ap (λ n. n1 ++ offered_lines offered own n next a) l1 in
      let l2 : length n2 ≡ second = ap length e2 ∙ length-append n1 (written O) ∙ omega (arith, l1, offered_written offered own inside next a) in
      let e3 : new ≡ n2 ++ written P = h3 ∙ ap (λ n. n2 ++ part_lines p n next a) l2 in
      written_more old n1 new (its_step C a (x ∷ ways) (own ∷ bodies)) (written O ++ written P) h1 (written_more n1 n2 new (written O) (written P) e2 e3)
      ∙ ap (λ n. old ++ (its_step C a (n ∷ ways) (own ∷ bodies) ++ (written O ++ written P))) ex
      ∙ ap (λ ws. old ++ (its_step C a (part_place p second next ∷ ws) (own ∷ bodies) ++ (written O ++ written P))) ew
      ∙ ap (λ bs. old ++ (its_step C a (part_place p second next ∷ parts_from_by flat_step offered inside next (ways_count a)) (own ∷ bs) ++ (written O ++ written P))) eb
      ∙ ap (λ ls. old ++ (its_step C a (part_place p second next ∷ parts_from_by flat_step offered inside next (ways_count a)) (own ∷ bodies_from_by flat_step offered inside next (ways_count a)) ++ ls)) (sym (assembled_append (λ n. n) O P))
      ∙ ap (λ ls. old ++ ls) (step_and C a (part_place p second next ∷ parts_from_by flat_step offered inside next (ways_count a)) (own ∷ bodies_from_by flat_step offered inside next (ways_count a)) (O ++ P))

pub whole_select : (at : Pos) (offered : tree.Alternatives) (p : Part) (old n1 n2 new : List FlatLine) (own x next : ℕ) (ways bodies : List ℕ) (a : Around) →
    let inside = inside_of (select at offered p) a (length old) in
    own ≡ length old → x ≡ part_place p (inside + offered_size_by flat_step offered (ways_count a)) next → ways ≡ parts_from_by flat_step offered inside next (ways_count a) → bodies ≡ bodies_from_by flat_step offered inside next (ways_count a) →
    n1 ≡ old ++ its_step (select at offered p) a (x ∷ ways) (own ∷ bodies) → n2 ≡ n1 ++ offered_lines offered own (length n1) next a → new ≡ n2 ++ part_lines p (length n2) next a → new ≡ old ++ statement_lines (select at offered p) (length old) next a
whole_select at offered p old n1 n2 new own x next ways bodies a eo ex ew eb h1 h2 h3 =
    select_done at offered p next a old n1 n2 new x ways bodies ex ew eb
    (h1 ∙ ap (λ n. old ++ its_step (select at offered p) a (x ∷ ways) (n ∷ bodies)) eo)
    (h2 ∙ ap (λ n. n1 ++ offered_lines offered n (length n1) next a) eo) h3
