-- How long the code of statements in memory is.
use Rattle.std.proofs.Common.{◌≡◌, ℕ, ◌+◌, ◌<◌, List, [], ◌∷◌, length, drop, get_or, refl, ap, ◌∙◌, arith}
use Rattle.aud_typed.specs.declared.program.Arm.{Arm}
use Rattle.aud_typed.specs.declared.program.IfStatement.{IfStatement, out-IfStatement}
use Rattle.aud_typed.specs.declared.program.Statement.{Statement}
use Rattle.aud_typed.specs.Ties.View.{plain_statement, plain_statements, part_of_arms, if_in}
use Rattle.aud_typed.specs.Tree as tree
use Rattle.aud_typed.specs.Tree.{before, part_of}
use Rattle.aud_layout.specs.Layout.{statement_size_by, part_size_by}
use Rattle.aud_layout.specs.Written.{flat_step}
use Rattle.aud_gen.specs.Writes.{arm_length}
use Rattle.aud_gen.proofs.Loops.{dropped}

-- a statement, and those behind it
pub before_length : (s : tree.Statement) (ss : List tree.Statement) (ways : ℕ) → statement_size_by flat_step (before s ss) ways ≡ statement_size_by flat_step s ways + part_size_by flat_step (part_of ss) ways
before_length s [] ways = omega arith
before_length s (t ∷ ts) ways = refl

-- of a list, one statement more is behind
pub next_length : (ss : List Statement) (i : ℕ) (s : Statement) → i < length ss → s ≡ get_or ss i s → (ways : ℕ) → part_size_by flat_step (part_of (plain_statements (drop i ss))) ways ≡ statement_size_by flat_step (plain_statement s) ways + part_size_by flat_step (part_of (plain_statements (drop (i + 1) ss))) ways
next_length ss i s h e ways =
    ap (λ z. part_size_by flat_step (part_of (plain_statements z)) ways) (dropped ss i s h e) ∙ before_length (plain_statement s) (plain_statements (drop (i + 1) ss)) ways

-- arms, and what stands behind them
abbrev pub arms_length : List Arm → ℕ → ℕ
arms_length [] ways = 0
arms_length (a ∷ more) ways = arm_length a ways + arms_length more ways

part_length : (as' : List Arm) (otherwise : tree.Part) (ways : ℕ) → part_size_by flat_step (part_of_arms as' otherwise) ways ≡ arms_length as' ways + part_size_by flat_step otherwise ways
part_length [] otherwise ways = omega arith
part_length (a ∷ more) otherwise ways = omega (arith, part_length more otherwise ways)

pub if_length : (s : IfStatement) (ways : ℕ) → arm_length (out-IfStatement s).first ways + part_size_by flat_step (part_of (plain_statements (out-IfStatement s).otherwise.items)) ways + arms_length (out-IfStatement s).others.items ways ≡ statement_size_by flat_step (if_in s) ways
if_length s ways = omega (arith, part_length (out-IfStatement s).others.items (part_of (plain_statements (out-IfStatement s).otherwise.items)) ways)

pub next_arm : (arms : List Arm) (i : ℕ) (a : Arm) → i < length arms → a ≡ get_or arms i a → (ways : ℕ) → arms_length (drop i arms) ways ≡ arm_length a ways + arms_length (drop (i + 1) arms) ways
next_arm arms i a h e ways = ap (λ z. arms_length z ways) (dropped arms i a h e)
