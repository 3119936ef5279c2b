-- What is shown by a check of an expression in memory.
use Rattle.std.specs.Prelude.{◌≡◌, List, Option, option_map, Box, Result, Ok, Err}
use Rattle.std.specs.Global.{Global}
use Rattle.std.specs.declared.alloc.AllocError.{AllocError}
use Rattle.aud_syntax.specs.declared.tree.Connective as source
use Rattle.aud_syntax.specs.declared.tree.Connective.TheVariants.{And, Or, Xor, AndThen, OrElse}
use Rattle.aud_typed.specs.declared.program.Connective as target
use Rattle.aud_typed.specs.declared.program.Connective.TheVariants as connective
use Rattle.aud_typed.specs.declared.program.Logical.TheVariants as logical
use Rattle.aud_typed.specs.Ties.View.{plain_integer, plain_boolean, plain_text}
use Rattle.aud_text.specs.declared.place.Pos.{Pos}
use Rattle.aud_fault.specs.declared.fault.Fault.{Fault}
use Rattle.aud_typing.specs.declared.typed.Typed as memory
use Rattle.aud_typing.specs.declared.typed.Typed.TheVariants.{Number, Truth, Text, Unknown}
use Rattle.aud_typing.specs.declared.typed.Operand.{Operand}
use Rattle.aud_typing.specs.declared.typed.Operator.{Operator}
use Rattle.aud_typing.specs.declared.typed.Operator.TheVariants.{Arithmetic, Join, Relation, Connective}
use Rattle.aud_fault.specs.Least.{noted}
use Rattle.aud_typing.specs.Expressions.{Typed, number, boolean, string, unknown, Checked, arithmetic, joining, relating, connecting}

-- the operator of a chain in memory
abbrev pub typed_connective : source.Connective → target.Connective
typed_connective And = connective.Logical logical.And
typed_connective Or = connective.Logical logical.Or
typed_connective Xor = connective.Logical logical.Xor
typed_connective AndThen = connective.AndThen
typed_connective OrElse = connective.OrElse

abbrev pub plain_typed : memory.Typed → Typed
plain_typed (Number e) = number (plain_integer e)
plain_typed (Truth e) = boolean (plain_boolean e)
plain_typed (Text t) = string (plain_text t)
plain_typed Unknown = unknown

-- the argument of an attribute, and where it begins
abbrev pub plain_argument : Option Operand → Option (Pos × Typed)
plain_argument argument = option_map (λ p. (p.at, plain_typed p.typed.value)) argument

-- an operator between its operands
abbrev pub operation : Operator → Pos → Typed → Pos → Typed → Checked
operation (Arithmetic o) = arithmetic o
operation Join = joining
operation (Relation o) = relating o
operation (Connective c) = connecting c

-- what is in a box, as it is seen
abbrev pub in_box : {X Y : Type 0} → (X → Y) → Box X Global → Y
in_box plain b = plain b.value

-- the faults are noted, and this is what is left; nothing is said where memory is refused
abbrev pub Leaves : {X Y : Type 0} → (X → Y) → Result X AllocError → Option Fault → Option Fault → List Fault → Y → Type 0
Leaves plain (Ok x) old new faults left = (new ≡ noted old faults) × (plain x ≡ left)
Leaves plain (Err e) old new faults left = Unit {0}

abbrev pub Shows : Result (Box memory.Typed Global) AllocError → Option Fault → Option Fault → Checked → Type 0
Shows result old new c = Leaves (in_box plain_typed) result old new c.faults c.typed
