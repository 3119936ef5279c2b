-- The lines of statements in memory, one after the other.
use Rattle.std.proofs.Common.{◌≡◌, ℕ, suc, ◌+◌, ◌<◌, List, [], ◌∷◌, ◌++◌, length, Bool, true, false, nat_eq, refl, ap, sym, ◌∙◌, arith, append-nil, append_assoc, length-append}
use Rattle.std.proofs.Math.Dec.{eqb-suc-zero}
use Rattle.std.specs.Prelude.{Option, None, map, if◌then◌else◌, IsTrue, IsFalse}
use Rattle.aud_text.specs.declared.place.Pos.{Pos}
use Rattle.aud_typed.specs.declared.program.Arm.{Arm}
use Rattle.aud_typed.specs.declared.program.Statement.{Statement}
use Rattle.aud_typed.specs.Ties.View.{plain_boolean, plain_statement, plain_statements, in_order, statements_in, part_of_arms}
use Rattle.aud_typed.specs.Tree as tree
use Rattle.aud_typed.specs.Tree.{before, part_of, nothing, some, if_then, plain_loop, while_loop}
use Rattle.aud_meaning.specs.declared.state.Construct.{Construct}
use Rattle.aud_code.specs.declared.line.Ending.TheVariants.{If, While}
use Rattle.aud_code.specs.declared.line.Last.TheVariants.{Does}
use Rattle.aud_code.specs.Flat.{FlatLine, instructs}
use Rattle.aud_layout.specs.Instructions.{condition_code}
use Rattle.aud_layout.specs.Layout.{Line, Around, in_loop, ways_count, line, part_place, body_size_by, statement_size_by, part_size_by, statement_code_by, part_code_by, body_code_by}
use Rattle.aud_layout.specs.Assembly.{instructions_by, end_line as moved_end, step_lines}
use Rattle.aud_layout.specs.Written.{flat_step, written}
use Rattle.aud_layout.proofs.Flat.Assembly.{assembled_append, its_length}
use Rattle.aud_layout.proofs.Flat.Behind.{adds, total_more}
use Rattle.aud_layout.proofs.Standing.Sizes.{total, total-statement, total-part, total-body}
use Rattle.aud_gen.specs.Writes.{ended, has_statements, statement_lines, part_lines, listed_lines, arm_length, arm_lines, arm_step, while_lines}
use Rattle.aud_gen.proofs.Writing.{Adds, written_more}

pub chosen : (b : Bool) (x y : ℕ) → IsTrue b → (if b then x else y) ≡ x
chosen b x y h = ap (λ m. if m then x else y) h

pub passed_over : (b : Bool) (x y : ℕ) → IsFalse b → (if b then x else y) ≡ y
passed_over b x y h = ap (λ m. if m then x else y) h

-- lines count as many as they are
pub written_length : (lines : List Line) → length (written lines) ≡ total flat_step adds lines
written_length [] = refl
written_length (l ∷ ls) = omega (arith, length-append (step_lines (λ n. n) l) (written ls), its_length (instructions_by l.what) (moved_end (λ n. n) l), written_length ls, total_more l ls)

pub statement_length : (s : tree.Statement) (place next : ℕ) (a : Around) → length (statement_lines s place next a) ≡ statement_size_by flat_step s (ways_count a)
statement_length s place next a = written_length (statement_code_by flat_step s place next a) ∙ (total-statement flat_step adds flat_step s place next a).is

pub part_written : (p : tree.Part) (place next : ℕ) (a : Around) → length (part_lines p place next a) ≡ part_size_by flat_step p (ways_count a)
part_written p place next a = written_length (part_code_by flat_step p place next a) ∙ (total-part flat_step adds flat_step p place next a).is

pub body_written : (c : Construct) (b : tree.Body) (place next out : ℕ) (a : Around) → length (written (body_code_by flat_step c b place next out a)) ≡ body_size_by flat_step b (ways_count a)
body_written c b place next out a = written_length (body_code_by flat_step c b place next out a) ∙ (total-body flat_step adds flat_step c b place next out a).is

listed_length : (s : tree.Statement) (is_last : Bool) (place next : ℕ) (a : Around) → length (listed_lines s is_last place next a) ≡ statement_size_by flat_step s (ways_count a)
listed_length s is_last place next a = statement_length s place _ a

-- what is written next stands behind what was
pub continued : (old mid new a : List FlatLine) (b : ℕ → List FlatLine) (n : ℕ) → mid ≡ old ++ a → length a ≡ n → new ≡ mid ++ b (length mid) → new ≡ old ++ (a ++ b (length old + n))
continued old mid new a b n h e k =
    k ∙ ap (λ m. m ++ b (length m)) h
    ∙ ap (λ m. (old ++ a) ++ b m) (length-append old a ∙ ap (λ m. length old + m) e)
    ∙ append_assoc old a (b (length old + n))

-- A statement of a list, and the rest of the list.

abbrev pub is_empty : {A : Type 0} → List A → Bool
is_empty [] = true
is_empty (x ∷ xs) = false

pub none_left : {A : Type 0} (xs : List A) (n : ℕ) → n ≡ length xs → nat_eq n 0 ≡ is_empty xs
none_left [] n e = ap (λ m. nat_eq m 0) e
none_left (x ∷ xs) n e = ap (λ m. nat_eq m 0) e ∙ eqb-suc-zero (length xs)

listed_and_rest : (s : Statement) (rest : List Statement) (place next : ℕ) (a : Around) → listed_lines (plain_statement s) (is_empty rest) place next a ++ part_lines (part_of (plain_statements rest)) (place + statement_size_by flat_step (plain_statement s) (ways_count a)) next a ≡ part_lines (part_of (plain_statements (s ∷ rest))) place next a
listed_and_rest s [] place next a = append-nil _
listed_and_rest s (t ∷ ts) place next a =
    let middle = place + statement_size_by flat_step (plain_statement s) (ways_count a) in
    sym (assembled_append (λ n. n) (statement_code_by flat_step (plain_statement s) place middle a) (statement_code_by flat_step (before (plain_statement t) (plain_statements ts)) middle next a))

-- what was written, and what is left to write of a part
abbrev pub with_part : List FlatLine → tree.Part → (next : ℕ) → Around → List FlatLine
with_part now p next a = now ++ part_lines p (length now) next a

pub one_listed : (s : Statement) (rest : List Statement) (is_last : Bool) (now new whole : List FlatLine) (next : ℕ) (a : Around) → is_last ≡ is_empty rest →
    new ≡ now ++ listed_lines (plain_statement s) is_last (length now) next a →
    with_part now (part_of (plain_statements (s ∷ rest))) next a ≡ whole → with_part new (part_of (plain_statements rest)) next a ≡ whole
one_listed s rest is_last now new whole next a last h left =
    let one = h ∙ ap (λ l. now ++ listed_lines (plain_statement s) l (length now) next a) last in
    continued now new _ (listed_lines (plain_statement s) (is_empty rest) (length now) next a) (λ place. part_lines (part_of (plain_statements rest)) place next a) _ one (listed_length (plain_statement s) (is_empty rest) (length now) next a) refl
    ∙ ap (λ ls. now ++ ls) (listed_and_rest s rest (length now) next a)
    ∙ left

-- An arm, and what stands behind it.

part_there : (p : tree.Part) (second next : ℕ) → part_place p second next ≡ (if has_statements p then second else next)
part_there nothing second next = refl
part_there (some s) second next = refl

arm_size : (arm : Arm) (more : Bool) (place next : ℕ) (a : Around) → length (arm_lines arm more place next a) ≡ arm_length arm (ways_count a)
arm_size arm more place next a =
    let ss = statements_in arm.statements in
    let c = plain_boolean arm.condition in
    let inside = suc (place + length (condition_code c)) in
    let step = line (if_then arm.at c ss nothing) ((if more then inside + statement_size_by flat_step ss (ways_count a) else next) ∷ inside ∷ []) [] None a in
    omega (arith, length-append (step_lines (λ n. n) step) (statement_lines ss inside next a), its_length (condition_code c) (moved_end (λ n. n) step), statement_length ss inside next a)

arm_and_rest : (arm : Arm) (p : tree.Part) (place next : ℕ) (a : Around) → arm_lines arm (has_statements p) place next a ++ part_lines p (place + arm_length arm (ways_count a)) next a ≡ statement_lines (if_then arm.at (plain_boolean arm.condition) (statements_in arm.statements) p) place next a
arm_and_rest arm p place next a =
    let ss = statements_in arm.statements in
    let c = plain_boolean arm.condition in
    let inside = suc (place + length (condition_code c)) in
    let second = inside + statement_size_by flat_step ss (ways_count a) in
    let there : place + arm_length arm (ways_count a) ≡ second = omega arith in
    let step = λ (n : ℕ). step_lines (λ n. n) (line (if_then arm.at c ss p) (n ∷ inside ∷ []) [] None a) in
    ap (λ n. arm_lines arm (has_statements p) place next a ++ part_lines p n next a) there
    ∙ append_assoc (step (if has_statements p then second else next)) (statement_lines ss inside next a) (part_lines p second next a)
    ∙ ap (λ n. step n ++ (statement_lines ss inside next a ++ part_lines p second next a)) (sym (part_there p second next))
    ∙ ap (λ ls. step (part_place p second next) ++ ls) (sym (assembled_append (λ n. n) (statement_code_by flat_step ss inside next a) (part_code_by flat_step p second next a)))

pub one_arm : (arm : Arm) (p : tree.Part) (more : Bool) (now new whole : List FlatLine) (next : ℕ) (a : Around) → more ≡ has_statements p →
    new ≡ now ++ arm_lines arm more (length now) next a →
    now ++ statement_lines (if_then arm.at (plain_boolean arm.condition) (statements_in arm.statements) p) (length now) next a ≡ whole → with_part new p next a ≡ whole
one_arm arm p more now new whole next a goes h left =
    let one = h ∙ ap (λ m. now ++ arm_lines arm m (length now) next a) goes in
    continued now new _ (arm_lines arm (has_statements p) (length now) next a) (λ place. part_lines p place next a) _ one (arm_size arm (has_statements p) (length now) next a) refl
    ∙ ap (λ ls. now ++ ls) (arm_and_rest arm p (length now) next a)
    ∙ left

-- A `while`, and its statements.

while_size : (at : Pos) (c : tree.BooleanExpression) (place next out : ℕ) (within : Option ℕ) → length (while_lines at c place next out within) ≡ suc (length (condition_code c))
while_size at c place next out within = its_length (condition_code c) _

while_done : (at : Pos) (c : tree.BooleanExpression) (ss : tree.Statement) (old mid new : List FlatLine) (next place : ℕ) (a : Around) → place ≡ length old → mid ≡ old ++ while_lines at c (length old) next a.out a.within →
    new ≡ mid ++ statement_lines ss (length mid) place (in_loop next a) → new ≡ old ++ statement_lines (while_loop at c ss) (length old) next a
while_done at c ss old mid new next place a here h k =
    let inside : length old + suc (length (condition_code c)) ≡ suc (length old + length (condition_code c)) = omega arith in
    let step = while_lines at c (length old) next a.out a.within in
    continued old mid new step (λ n. statement_lines ss n place (in_loop next a)) _ h (while_size at c (length old) next a.out a.within) k
    ∙ ap (λ n. old ++ (step ++ statement_lines ss n place (in_loop next a))) inside
    ∙ ap (λ n. old ++ (step ++ statement_lines ss (suc (length old + length (condition_code c))) n (in_loop next a))) here

pub whole_while : (at : Pos) (c : tree.BooleanExpression) (ss tt' s : tree.Statement) (old mid new : List FlatLine) (next place : ℕ) (a : Around) → place ≡ length old → mid ≡ old ++ while_lines at c (length old) next a.out a.within →
    tt' ≡ ss → s ≡ while_loop at c ss → new ≡ mid ++ statement_lines tt' (length mid) place (in_loop next a) → new ≡ old ++ statement_lines s (length old) next a
whole_while at c ss tt' s old mid new next place a here h e is k =
    while_done at c ss old mid new next place a here h (k ∙ ap (λ z. mid ++ statement_lines z (length mid) place (in_loop next a)) e)
    ∙ ap (λ z. old ++ statement_lines z (length old) next a) (sym is)

-- the lines of what is the same
pub same_lines : (old new : List FlatLine) (s t : tree.Statement) (next : ℕ) (a : Around) → s ≡ t → new ≡ old ++ statement_lines s (length old) next a → new ≡ old ++ statement_lines t (length old) next a
same_lines old new s t next a e h = h ∙ ap (λ z. old ++ statement_lines z (length old) next a) e

pub same_loop : (old new : List FlatLine) (ss tt' s : tree.Statement) (next place : ℕ) (a : Around) → place ≡ length old → tt' ≡ ss → s ≡ plain_loop ss → new ≡ old ++ statement_lines tt' (length old) place (in_loop next a) → new ≡ old ++ statement_lines s (length old) next a
same_loop old new ss tt' s next place a here e is h =
    h ∙ ap (λ z. old ++ statement_lines z (length old) place (in_loop next a)) e
    ∙ ap (λ n. old ++ statement_lines ss (length old) n (in_loop next a)) here
    ∙ ap (λ z. old ++ statement_lines z (length old) next a) (sym is)

-- the lines within the same
pub same_around : (old new : List FlatLine) (lines : Around → List FlatLine) (a b : Around) → a ≡ b → new ≡ old ++ lines a → new ≡ old ++ lines b
same_around old new lines a b e h = h ∙ ap (λ z. old ++ lines z) e

-- a first statement, and the others
pub whole_list : (first : Statement) (others left : List Statement) (is_last : Bool) (old mid new : List FlatLine) (next : ℕ) (a : Around) → is_last ≡ is_empty others → left ≡ others →
    mid ≡ old ++ listed_lines (plain_statement first) is_last (length old) next a →
    new ≡ mid ++ part_lines (part_of (plain_statements left)) (length mid) next a → new ≡ old ++ statement_lines (in_order first others) (length old) next a
whole_list first others left is_last old mid new next a last e h k =
    k ∙ ap (λ z. with_part mid (part_of (plain_statements z)) next a) e ∙ one_listed first others is_last old mid _ next a last h refl

-- An arm, by what is written of it: its step, and its statements.
pub whole_arm_step : (arm : Arm) (more : Bool) (old now mid : List FlatLine) (next inside otherwise : ℕ) (a : Around) → inside ≡ suc (length old + length (condition_code (plain_boolean arm.condition))) →
    otherwise ≡ (if more then inside + statement_size_by flat_step (statements_in arm.statements) (ways_count a) else next) → Adds old now (condition_code (plain_boolean arm.condition)) →
    mid ≡ now ++ ended (Does (If inside) otherwise) arm.at a.out a.within → mid ≡ old ++ arm_step arm more (length old) next a
whole_arm_step arm more old now mid next inside otherwise a ei eo h1 h2 =
    let ss = statements_in arm.statements in
    let c = plain_boolean arm.condition in
    let place = suc (length old + length (condition_code c)) in
    let size = statement_size_by flat_step ss (ways_count a) in
    let step_end = λ (n m : ℕ). ended (Does (If n) m) arm.at a.out a.within in
    let leads = eo ∙ ap (λ n. if more then n + size else next) ei in
    written_more old now mid (map instructs (condition_code c)) (step_end inside otherwise) h1 h2 ∙ ap (λ n. old ++ (map instructs (condition_code c) ++ step_end n otherwise)) ei ∙ ap (λ n. old ++ (map instructs (condition_code c) ++ step_end place n)) leads

pub whole_arm : (arm : Arm) (more : Bool) (old mid new : List FlatLine) (next : ℕ) (a : Around) → mid ≡ old ++ arm_step arm more (length old) next a →
    new ≡ mid ++ statement_lines (statements_in arm.statements) (length mid) next a → new ≡ old ++ arm_lines arm more (length old) next a
whole_arm arm more old mid new next a h k =
    let ss = statements_in arm.statements in
    let c = plain_boolean arm.condition in
    let lines = arm_step arm more (length old) next a in
    let same : length old + suc (length (condition_code c)) ≡ suc (length old + length (condition_code c)) = omega arith in
    continued old mid new lines (λ n. statement_lines ss n next a) _ h (its_length (condition_code c) _) k
    ∙ ap (λ n. old ++ (lines ++ statement_lines ss n next a)) same

-- an `if` by its arms
abbrev pub if_by : Arm → List Arm → tree.Part → tree.Statement
if_by first others otherwise = if_then first.at (plain_boolean first.condition) (statements_in first.statements) (part_of_arms others otherwise)

-- there are statements where there is an arm
pub some_arm : (arms : List Arm) (p : tree.Part) → 0 < length arms → has_statements (part_of_arms arms p) ≡ true
some_arm [] p h = absurd (omega (arith, h))
some_arm (a ∷ more) p h = refl

-- the step of a `while`, by what is written of it
pub whole_test : (at : Pos) (c : tree.BooleanExpression) (old now new : List FlatLine) (next out inside : ℕ) (within : Option ℕ) → inside ≡ suc (length old + length (condition_code c)) → Adds old now (condition_code c) →
    new ≡ now ++ ended (Does (While inside) next) at out within → new ≡ old ++ while_lines at c (length old) next out within
whole_test at c old now new next out inside within e h k =
    let step_end = λ (n : ℕ). ended (Does (While n) next) at out within in
    written_more old now new (map instructs (condition_code c)) (step_end inside) h k ∙ ap (λ n. old ++ (map instructs (condition_code c) ++ step_end n)) e
