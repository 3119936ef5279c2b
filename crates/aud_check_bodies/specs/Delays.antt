-- Delays (RM 9.6).
use Rattle.std.specs.Prelude.{ℕ, ◌+◌, ◌*◌, ℤ, nat_abs, List, [], ◌++◌, Option, Some, None, codes}
use Rattle.aud_text.specs.declared.place.Pos.{Pos}
use Rattle.aud_syntax.specs.declared.tree.Real.{Real}
use Rattle.aud_syntax.specs.Plain.{Expression, Delay, delay_real, delay_duration}
use Rattle.aud_typed.specs.Tree as tree
use Rattle.aud_fault.specs.declared.fault.Fault.{Fault}
use Rattle.aud_names.specs.declared.rules.Base.TheVariants.{Whole}
use Rattle.aud_names.specs.declared.names.Meaning.{Meaning}
use Rattle.aud_names.specs.Names.{Place, visible}
use Rattle.aud_names.specs.Rules.{number_too_large, too_many_decimals}
use Rattle.aud_names.specs.Resolution.{value_faults}
use Rattle.aud_typing.specs.Expressions.{checked_expression, expression_at, wants}
use Rattle.aud_check_bodies.specs.Declarations.{integer_of}

-- before its point a real number is an Integer, and it has at most three decimals (profile)
abbrev pub whole_faults : Option ℤ → Pos → List Fault
whole_faults None at = number_too_large at
whole_faults (Some z) at = []

abbrev pub decimals_faults : Option ℕ → Pos → List Fault
decimals_faults None at = too_many_decimals at
decimals_faults (Some n) at = []

abbrev pub real_faults : Real → List Fault
real_faults r = whole_faults r.whole r.at ++ decimals_faults r.thousandths r.at

-- so many seconds and thousandths; what stands for faulty ones has no meaning
abbrev pub seconds_of : Option ℤ → ℕ
seconds_of None = 0
seconds_of (Some z) = nat_abs z

abbrev pub thousandths_of : Option ℕ → ℕ
thousandths_of None = 0
thousandths_of (Some n) = n

abbrev pub milliseconds_of : Real → ℕ
milliseconds_of r = seconds_of r.whole * 1000 + thousandths_of r.thousandths

-- Duration is of a whole number of seconds (profile)
abbrev pub seconds_faults : Expression → Place → List Fault
seconds_faults e place = (checked_expression e place).faults ++ wants Whole (expression_at e) (checked_expression e place).typed

abbrev pub typed_seconds : Expression → Place → tree.DelayExpression
typed_seconds e place = tree.seconds (integer_of (checked_expression e place).typed)

-- the type is declared in Standard, where any declaration of its name hides it (RM 8.3(15)); at the name
abbrev pub duration_faults : Option Meaning → Pos → List Fault
duration_faults None at = []
duration_faults (Some m) at = value_faults m at

-- where it stands
abbrev pub delay_at : Delay → Pos
delay_at (delay_real at r) = at
delay_at (delay_duration at named e) = at

abbrev pub delay_faults : Delay → Place → List Fault
delay_faults (delay_real at r) place = real_faults r
delay_faults (delay_duration at named e) place = duration_faults (visible (codes "DURATION") place) named ++ seconds_faults e place

abbrev pub typed_delay : Delay → Place → tree.DelayExpression
typed_delay (delay_real at r) place = tree.milliseconds (milliseconds_of r)
typed_delay (delay_duration at named e) place = typed_seconds e place
