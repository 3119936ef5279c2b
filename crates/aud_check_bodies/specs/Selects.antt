-- Select statements: what is made of their alternatives, and how a call in one is left (RM 9.7).
use Rattle.std.specs.Prelude.{List, [], ◌∷◌}
use Rattle.aud_syntax.specs.Plain.{Otherwise, or_delay, or_else}
use Rattle.aud_typed.specs.Tree as tree
use Rattle.aud_fault.specs.declared.fault.Fault.{Fault}
use Rattle.aud_names.specs.Names.{Place}
use Rattle.aud_check_bodies.specs.Accepts.{TypedAccept}
use Rattle.aud_check_bodies.specs.Delays.{delay_faults, typed_delay}

-- an alternative of a selective accept, with its guard and the statements behind it (RM 9.7.1)
pub data TypedAlternative : Type 0 where
  accepts : tree.BooleanExpression → TypedAccept → tree.Part → TypedAlternative
  delays : tree.BooleanExpression → tree.DelayExpression → tree.Part → TypedAlternative
  terminates : tree.BooleanExpression → TypedAlternative

-- in front of others
abbrev pub alternative_then : TypedAlternative → tree.Alternatives → tree.Alternatives
alternative_then (accepts guard a behind) more = tree.accepting guard a.at a.entry a.doing behind more
alternative_then (delays guard e behind) more = tree.delaying guard e behind more
alternative_then (terminates guard) more = tree.terminating guard more

abbrev pub alternatives_of : List TypedAlternative → tree.Alternatives
alternatives_of [] = tree.no_alternatives
alternatives_of (a ∷ more) = alternative_then a (alternatives_of more)

-- a timed call is left after a time, a conditional one at once (RM 9.7.2, 9.7.3)
abbrev pub form_faults : Otherwise → Place → List Fault
form_faults (or_delay d ss) place = delay_faults d place
form_faults (or_else ss) place = []

abbrev pub form_of : Otherwise → Place → tree.CallForm
form_of (or_delay d ss) place = tree.timed (typed_delay d place)
form_of (or_else ss) place = tree.conditionally
