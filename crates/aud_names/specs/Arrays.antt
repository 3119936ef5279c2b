-- Bounds of arrays, and what declarations of variables, constants, arrays, tasks and protected objects declare (RM 3.3.1, 3.6, 9.1, 9.4).
use Rattle.std.specs.Prelude.{ℕ, ◌+◌, ℤ, pos, ◌-ℤ◌, nat_abs, int_lt, Bool, true, false, List, [], Option, Some, None, Result, Ok, Err, if◌then◌else◌}
use Rattle.aud_text.specs.Integer.{negative}
use Rattle.aud_text.specs.declared.raise.Raise.{Raise}
use Rattle.aud_syntax.specs.declared.tree.Bound.{Bound}
use Rattle.aud_typed.specs.declared.program.ArrayAt.{ArrayAt}
use Rattle.aud_typed.specs.declared.program.Subtype.{Subtype}
use Rattle.aud_fault.specs.declared.fault.Fault.{Fault}
use Rattle.aud_names.specs.declared.names.Array.{Array}
use Rattle.aud_names.specs.declared.names.TaskArray.{TaskArray}
use Rattle.aud_names.specs.declared.names.Meaning.{Meaning}
use Rattle.aud_names.specs.declared.names.Meaning.TheVariants as meaning
use Rattle.aud_names.specs.declared.array.Kind.{Kind}
use Rattle.aud_names.specs.declared.array.Kind.TheVariants.{Scalar, Row, Task, TaskRow, Protected}
use Rattle.aud_names.specs.declared.names.Access.TheVariants.{Outside}
use Rattle.aud_names.specs.Rules.{number_too_large}

abbrev pub unless_raised : Result ℤ Raise → Option ℤ
unless_raised (Ok z) = Some z
unless_raised (Err e) = None

abbrev pub with_sign : Bool → Option ℤ → Option ℤ
with_sign is_negative None = None
with_sign false (Some z) = Some z
with_sign true (Some z) = unless_raised (negative z)

-- the value of a bound, none where it is none of type Integer (RM 3.5.4, 3.6.1)
abbrev pub bound_value : Bound → Option ℤ
bound_value b = with_sign b.negative b.number.value

abbrev pub bound_faults : Bound → List Fault
bound_faults b = elim (bound_value b) [ None ↦ number_too_large b.number.at | Some z ↦ [] ]

-- what stands for a faulty bound has no meaning
abbrev pub or_zero : Option ℤ → ℤ
or_zero None = pos 0
or_zero (Some z) = z

-- an array is empty where its upper bound is less than the lower one (RM 3.6.1(8))
abbrev pub length_between : ℤ → ℤ → ℕ
length_between low high = if int_lt high low then 0 else nat_abs (high -ℤ low) + 1

-- where an array lies
abbrev pub array_at : Array → ArrayAt
array_at a = record { first = a.first; low = a.low; length = length_between a.low a.high }

abbrev pub task_array_at : TaskArray → ArrayAt
task_array_at a = record { first = a.first; low = a.low; length = length_between a.low a.high }

-- arrays with these bounds
abbrev pub row_between : ℤ → ℤ → Option Subtype → Kind
row_between low high s = Row (record { low = low; high = high; subtype = s })

-- arrays of tasks of a type
abbrev pub task_row_between : ℤ → ℤ → ℕ → Kind
task_row_between low high task_type = TaskRow (record { low = low; high = high; task_type = task_type })

-- what is declared at a level from a cell on
abbrev pub new_meaning : Kind → ℕ → ℕ → Meaning
new_meaning (Scalar o) level index = meaning.Object (record { variable = record { level = level; index = index }; subtype = o.subtype; constant = o.constant; locked = false })
new_meaning (Row a) level index = meaning.Array (record { first = record { level = level; index = index }; low = a.low; high = a.high; subtype = a.subtype })
new_meaning (Task task_type) level index = meaning.Task (record { variable = record { level = level; index = index }; task_type = task_type })
new_meaning (TaskRow a) level index = meaning.TaskArray (record { first = record { level = level; index = index }; low = a.low; high = a.high; task_type = a.task_type })
new_meaning (Protected object) level index = meaning.Protected (record { variable = record { level = level; index = index }; object = object; access = Outside })

-- how many cells it takes
abbrev pub cells_of : Kind → ℕ
cells_of (Scalar o) = 1
cells_of (Row a) = length_between a.low a.high
cells_of (Task task_type) = 1
cells_of (TaskRow a) = length_between a.low a.high
cells_of (Protected object) = 1
