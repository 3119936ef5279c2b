-- What the code of expressions in memory is made of.
use Rattle.std.proofs.Common.{◌≡◌, ℕ, ◌+◌, ◌<◌, List, [], ◌∷◌, ◌++◌, length, drop, get_or, Bool, true, false, refl, ap, sym, ◌∙◌, subst, arith, append-nil, append_assoc}
use Rattle.std.specs.Prelude.{Vec, Box, map, Option, None, Some}
use Rattle.std.specs.Global.{Global}
use Rattle.std.proofs.lemmas.List.{length-append, map-append}
use Rattle.aud_typed.specs.declared.program.IntegerExpression.{IntegerExpression}
use Rattle.aud_typed.specs.declared.program.IntegerExpression.TheVariants.{Chain}
use Rattle.aud_typed.specs.declared.program.Operation.{Operation}
use Rattle.aud_typed.specs.declared.program.Connective.{Connective}
use Rattle.aud_typed.specs.declared.program.Connective.TheVariants.{Logical, AndThen, OrElse}
use Rattle.aud_typed.specs.declared.program.BooleanExpression.{BooleanExpression}
use Rattle.aud_typed.specs.declared.program.BooleanExpression.TheVariants as boolean
use Rattle.aud_typed.specs.declared.program.TextExpression.{TextExpression}
use Rattle.aud_typed.specs.declared.program.TextExpression.TheVariants.{Join}
use Rattle.aud_typed.specs.Ties.View.{plain_integer, plain_boolean, connected, all_connected, plain_text}
use Rattle.aud_typed.specs.Tree as tree
use Rattle.aud_typed.proofs.Chains.{plain_operation, chain_open, connection_open, join_open}
use Rattle.aud_code.specs.Instruction.{Instruction, OnTwo, Combine}
use Rattle.aud_code.specs.Flat.{FlatLine, instructs}
use Rattle.aud_layout.specs.Instructions.{integer_code, condition_code, text_code}
use Rattle.aud_layout.specs.Assembly.{within_moved}
use Rattle.aud_gen.specs.Writes.{right_code, Code, Finds, Instructs, Writes}
use Rattle.aud_gen.proofs.Loops.{dropped}

-- what a loop over a chain, or over joined texts, makes whole
pub whole_chain : (e first : IntegerExpression) (items : List Operation) (x : Box IntegerExpression Global) (v : Vec Operation Global) → e ≡ Chain x v → first ≡ x.value → items ≡ v.items → tree.chained (plain_integer first) (map plain_operation items) ≡ plain_integer e
whole_chain e first items x v is h k =
    ap (λ z. tree.chained (plain_integer z) (map plain_operation items)) h ∙ ap (λ z. tree.chained (plain_integer x.value) (map plain_operation z)) k ∙ sym (chain_open x v) ∙ ap plain_integer (sym is)

pub whole_connection : (e first : BooleanExpression) (items : List BooleanExpression) (c : Connective) (x : Box BooleanExpression Global) (v : Vec BooleanExpression Global) → e ≡ boolean.Chain c x v → first ≡ x.value → items ≡ v.items → all_connected c (plain_boolean first) (map plain_boolean items) ≡ plain_boolean e
whole_connection e first items c x v is h k =
    ap (λ z. all_connected c (plain_boolean z) (map plain_boolean items)) h ∙ ap (λ z. all_connected c (plain_boolean x.value) (map plain_boolean z)) k ∙ sym (connection_open c x v) ∙ ap plain_boolean (sym is)

pub whole_join : (t first : TextExpression) (items : List TextExpression) (x : Box TextExpression Global) (v : Vec TextExpression Global) → t ≡ Join x v → first ≡ x.value → items ≡ v.items → tree.joined (plain_text first) (map plain_text items) ≡ plain_text t
whole_join t first items x v is h k =
    ap (λ z. tree.joined (plain_text z) (map plain_text items)) h ∙ ap (λ z. tree.joined (plain_text x.value) (map plain_text z)) k ∙ sym (join_open x v) ∙ ap plain_text (sym is)

-- how long the code of an operation is, of a connection, and of two texts
pub operation_length : (d : tree.IntegerExpression) (o : tree.Operation) → length (integer_code (tree.binary o.operator d o.right)) ≡ length (integer_code d) + length (integer_code o.right) + 1
operation_length d o =
    omega (arith, length-append (integer_code d) (integer_code o.right ++ OnTwo o.operator ∷ []), length-append (integer_code o.right) (OnTwo o.operator ∷ []))

right_length : (c : Connective) (y : tree.BooleanExpression) → length (right_code c y) ≡ length (condition_code y) + 1
right_length (Logical operator) y = length-append (condition_code y) (Combine operator ∷ [])
right_length AndThen y = omega arith
right_length OrElse y = omega arith

pub connection_code : (c : Connective) (x y : tree.BooleanExpression) → condition_code (connected c x y) ≡ condition_code x ++ right_code c y
connection_code (Logical operator) x y = refl
connection_code AndThen x y = refl
connection_code OrElse x y = refl

pub connection_length : (c : Connective) (x y : tree.BooleanExpression) → length (condition_code (connected c x y)) ≡ length (condition_code x) + length (condition_code y) + 1
connection_length c x y = omega (arith, ap length (connection_code c x y), length-append (condition_code x) (right_code c y), right_length c y)

-- of right sides and their operators, and of what they connect
abbrev pub rights_length : List BooleanExpression → ℕ
rights_length [] = 0
rights_length (x ∷ xs) = length (condition_code (plain_boolean x)) + 1 + rights_length xs

connected_length : (c : Connective) (left : tree.BooleanExpression) (xs : List BooleanExpression) → length (condition_code (all_connected c left (map plain_boolean xs))) ≡ length (condition_code left) + rights_length xs
connected_length c left [] = omega arith
connected_length c left (x ∷ xs) = omega (arith, connected_length c (connected c left (plain_boolean x)) xs, connection_length c left (plain_boolean x))

pub whole_length : (e first : BooleanExpression) (items : List BooleanExpression) (c : Connective) (x : Box BooleanExpression Global) (v : Vec BooleanExpression Global) → e ≡ boolean.Chain c x v → first ≡ x.value → items ≡ v.items → length (condition_code (plain_boolean first)) + rights_length items ≡ length (condition_code (plain_boolean e))
whole_length e first items c x v is h k =
    sym (connected_length c (plain_boolean first) items) ∙ ap (λ z. length (condition_code z)) (whole_connection e first items c x v is h k)

pub next_right : (items : List BooleanExpression) (i : ℕ) (x : BooleanExpression) → i < length items → x ≡ get_or items i x → rights_length (drop i items) ≡ length (condition_code (plain_boolean x)) + 1 + rights_length (drop (i + 1) items)
next_right items i x h e = ap rights_length (dropped items i x h e)

pub join_length : (x y : tree.TextExpression) → length (text_code (tree.join x y)) ≡ length (text_code x) + length (text_code y)
join_length x y = length-append (text_code x) (text_code y)

-- these instructions are written behind what was there
abbrev pub Adds : (old new : List FlatLine) → List Instruction → Type 0
Adds old new is = new ≡ old ++ map instructs is

-- lines are written behind others
pub written_more : (old now new a b : List FlatLine) → now ≡ old ++ a → new ≡ now ++ b → new ≡ old ++ (a ++ b)
written_more old now new a b h k = k ∙ ap (λ ls. ls ++ b) h ∙ append_assoc old a b

pub instructions_written : (old now new : List FlatLine) (a b : List Instruction) → Adds old now a → Adds now new b → Adds old new (a ++ b)
instructions_written old now new a b h k = written_more old now new (map instructs a) (map instructs b) h k ∙ ap (λ ls. old ++ ls) (sym (map-append instructs a b))

-- what is true is not false
abbrev Unless : Type 0 → Bool → Type 0
Unless X true = Unit {0}
Unless X false = X

pub contradiction : {X : Type 0} {b : Bool} → b ≡ true → b ≡ false → X
contradiction {X} h e = subst (Unless X) (sym h ∙ e) tt

-- Unless memory is refused: some instructions, and then others.

infixr 30 ◌then◌
pub ◌then◌ : {a b c : Code} {x y : List Instruction} → Instructs a b x → Instructs b c y → Instructs a c (x ++ y)
◌then◌ {a} {b} {c} {x} {y} h k = record { writes = record { unless_refused = λ e. let last = k.writes.unless_refused e in let first = h.writes.unless_refused last.0 in (first.0, instructions_written a.lines b.lines c.lines x y first.1 last.1) } }

pub connection_written : {a b c : Code} (k : Connective) (x y : tree.BooleanExpression) → Instructs a b (condition_code x) → Instructs b c (right_code k y) → Instructs a c (condition_code (connected k x y))
connection_written {a} {c = c} k x y h i = subst (λ is. Instructs a c is) (sym (connection_code k x y)) (h then i)

pub nothing_written : {a : Code} → Writes a a []
nothing_written {a} = record { unless_refused = λ e. (e, sym (append-nil a.lines)) }

pub nothing_instructed : {a : Code} → Instructs a a []
nothing_instructed = record { writes = nothing_written }

-- a number is found, and then instructions are written that depend on it
pub found_then : {a b c : Code} (is : ℕ → List Instruction) (n whole : ℕ) → Finds a b (n ≡ whole) → Instructs b c (is n) → Instructs a c (is whole)
found_then {a} is n whole h k = record {
  writes = record {
    unless_refused = λ e.
        let last = k.writes.unless_refused e in
        let found = h.unless_refused last.0 in
        (found.0, last.1 ∙ ap (λ ls. ls ++ map instructs (is n)) h.same ∙ ap (λ m. a.lines ++ map instructs (is m)) found.1);
  };
}

-- the same of lines, which depend on their place too
pub found_lines : {a b c : Code} (lines : ℕ → ℕ → List FlatLine) (n whole : ℕ) → Finds a b (n ≡ whole) → Writes b c (lines (length b.lines) n) → Writes a c (lines (length a.lines) whole)
found_lines {a} lines n whole h k = record {
  unless_refused = λ e.
      let last = k.unless_refused e in
      let found = h.unless_refused last.0 in
      (found.0, last.1 ∙ ap (λ ls. ls ++ lines (length ls) n) h.same ∙ ap (λ m. a.lines ++ lines (length a.lines) m) found.1);
}

-- what is found says something else too
pub found_as : {a b : Code} {P Q : Type 0} → (P → Q) → Finds a b P → Finds a b Q
found_as f h = record { same = h.same; unless_refused = λ e. let it = h.unless_refused e in (it.0, f it.1) }

-- lines that are the same
pub same_written : {a b : Code} (x y : List FlatLine) → x ≡ y → Writes a b x → Writes a b y
same_written {a} {b} x y e h = subst (λ ls. Writes a b ls) e h

-- of all instructions that a function writes the last ones are left to be written
pub record Remains (begun now : Code) (all left : List Instruction) : Type 0 where
  pub rest : (after : Code) → Instructs now after left → Instructs begun after all

pub all_remain : {a : Code} (all : List Instruction) → Remains a a all all
all_remain all = record { rest = λ after h. h }

pub one_fewer : {a b c : Code} (all left first rest : List Instruction) → left ≡ first ++ rest → Remains a b all left → Instructs b c first → Remains a c all rest
one_fewer {b = b} all left first rest e h k = record { rest = λ after l. h.rest after (subst (λ is. Instructs b after is) (sym e) (k then l)) }

pub none_remain : {a b : Code} (all left : List Instruction) → left ≡ [] → Remains a b all left → Instructs a b all
none_remain {b = b} all left e h = h.rest b (subst (λ is. Instructs b b is) (sym e) nothing_instructed)

-- what is so of a loop that writes lines, unless memory is refused by now
pub record Kept (begun now : Code) (it : Type 0) : Type 0 where
  pub unless_refused : now.refused ≡ false → (begun.refused ≡ false) × it

-- what opened the innermost frame stands where it does
pub within_stays : (w : Option ℕ) → within_moved (λ n. n) w ≡ w
within_stays None = refl
within_stays (Some n) = refl
