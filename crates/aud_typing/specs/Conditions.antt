-- Conditions (RM 4.5.7(4)).
use Rattle.std.specs.Prelude.{List, [], ◌++◌, true, false}
use Rattle.aud_syntax.specs.Plain.{Expression, MaybeExpression, no_expression, an_expression}
use Rattle.aud_typed.specs.Tree as tree
use Rattle.aud_fault.specs.declared.fault.Fault.{Fault}
use Rattle.aud_names.specs.declared.rules.Base.TheVariants.{Truth}
use Rattle.aud_names.specs.Names.{Place}
use Rattle.aud_typing.specs.Expressions.{Typed, boolean, checked_expression, expression_at, wants}

-- a condition must be of type Boolean
abbrev pub condition_faults : Expression → Place → List Fault
condition_faults e place = (checked_expression e place).faults ++ wants Truth (expression_at e) (checked_expression e place).typed

abbrev pub truth_of : Typed → tree.BooleanExpression
truth_of (boolean e) = e
truth_of _ = tree.truth false

abbrev pub condition : Expression → Place → tree.BooleanExpression
condition e place = truth_of (checked_expression e place).typed

-- an exit without a condition is taken always (RM 5.7(5))
abbrev pub maybe_condition_faults : MaybeExpression → Place → List Fault
maybe_condition_faults no_expression place = []
maybe_condition_faults (an_expression e) place = condition_faults e place

abbrev pub maybe_condition : MaybeExpression → Place → tree.BooleanExpression
maybe_condition no_expression place = tree.truth true
maybe_condition (an_expression e) place = condition e place
