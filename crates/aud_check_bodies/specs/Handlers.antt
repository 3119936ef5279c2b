-- The choices of handlers, and raise statements (RM 11.2, 11.3).
use Rattle.std.specs.Prelude.{nat_eq, Bool, true, false, not, ◌&&◌, List, [], ◌∷◌, ◌++◌, Option, Some, None}
use Rattle.std.specs.List.{list_any}
use Rattle.aud_text.specs.declared.place.Pos.{Pos}
use Rattle.aud_text.specs.declared.raise.Raise.{Raise}
use Rattle.aud_text.specs.declared.raise.Raise.TheVariants as raised
use Rattle.aud_syntax.specs.declared.tree.Ident.{Ident}
use Rattle.aud_syntax.specs.Plain.{Choices, exceptions, others, Handlers, no_handlers, more_handlers}
use Rattle.aud_typed.specs.declared.program.Exception.{Exception}
use Rattle.aud_typed.specs.declared.program.Exception.TheVariants.{Predefined, Declared}
use Rattle.aud_typed.specs.Tree as tree
use Rattle.aud_fault.specs.declared.fault.Fault.{Fault}
use Rattle.aud_names.specs.declared.names.Meaning.{Meaning}
use Rattle.aud_names.specs.declared.names.Meaning.TheVariants as meaning
use Rattle.aud_names.specs.Names.{Place, visible}
use Rattle.aud_names.specs.Rules.{name_not_declared, raise_in_handler, good_choice}
use Rattle.aud_names.specs.Resolution.{value_faults}

-- the exception that a name stands for
abbrev pub exception_meant : Option Meaning → Option Exception
exception_meant (Some (meaning.Exception x)) = Some x
exception_meant _ = None

-- a name of an exception must be one (RM 11.2(6), 11.3(3))
abbrev pub exception_faults : Option Meaning → Pos → List Fault
exception_faults None at = name_not_declared at
exception_faults (Some (meaning.Exception x)) at = []
exception_faults (Some m) at = value_faults m at

-- Raise statements.

abbrev pub raise_faults : Pos → Option Ident → Bool → Place → List Fault
raise_faults at None in_handler place = raise_in_handler in_handler at
raise_faults at (Some i) in_handler place = exception_faults (visible i.name place) i.at

-- a faulty statement is left as a null statement
abbrev pub raised_by : Pos → Option Exception → tree.Statement
raised_by at None = tree.null at
raised_by at (Some x) = tree.raising at x

abbrev pub typed_raise : Pos → Option Ident → Place → tree.Statement
typed_raise at None place = tree.raising_again at
typed_raise at (Some i) place = raised_by at (exception_meant (visible i.name place))

-- The choices of handlers.

abbrev pub same_raise : Raise → Raise → Bool
same_raise raised.Constraint raised.Constraint = true
same_raise raised.Program raised.Program = true
same_raise raised.Storage raised.Storage = true
same_raise raised.Tasking raised.Tasking = true
same_raise _ _ = false

abbrev pub same_exception : Exception → Exception → Bool
same_exception (Predefined r) (Predefined q) = same_raise r q
same_exception (Declared m) (Declared n) = nat_eq m n
same_exception _ _ = false

abbrev pub is_chosen : Exception → List Exception → Bool
is_chosen x chosen = list_any (λ y. same_exception x y) chosen

-- what the handlers so far are for: these exceptions, and whether one of them is for all others
pub record Chosen : Type 0 where
  pub exceptions : List Exception
  pub others : Bool

abbrev pub none_chosen : Chosen
none_chosen = record { exceptions = []; others = false }

-- no exception is chosen twice (RM 11.2(7), and within one handler by choice of the profile)
abbrev pub chosen_once : Option Exception → Pos → Chosen → List Fault
chosen_once None at c = []
chosen_once (Some x) at c = good_choice (not (is_chosen x c.exceptions)) at

abbrev pub with_exception : Option Exception → Chosen → Chosen
with_exception None c = c
with_exception (Some x) c = record { exceptions = c.exceptions ++ x ∷ []; others = c.others }

abbrev pub name_chosen : Ident → Chosen → Place → Chosen
name_chosen i c place = with_exception (exception_meant (visible i.name place)) c

abbrev pub names_chosen : List Ident → Chosen → Place → Chosen
names_chosen [] c place = c
names_chosen (i ∷ is) c place = names_chosen is (name_chosen i c place) place

abbrev pub name_chosen_faults : Ident → Chosen → Place → List Fault
name_chosen_faults i c place = exception_faults (visible i.name place) i.at ++ chosen_once (exception_meant (visible i.name place)) i.at c

abbrev pub names_chosen_faults : List Ident → Chosen → Place → List Fault
names_chosen_faults [] c place = []
names_chosen_faults (i ∷ is) c place = name_chosen_faults i c place ++ names_chosen_faults is (name_chosen i c place) place

abbrev pub is_last : Handlers → Bool
is_last no_handlers = true
is_last (more_handlers c ss hs) = false

-- `others` stands last, and once (RM 11.2(8))
abbrev pub choices_faults : Choices → Bool → Chosen → Place → List Fault
choices_faults (exceptions first more) last c place = names_chosen_faults (first ∷ more) c place
choices_faults (others at) last c place = good_choice (last && not c.others) at

abbrev pub chosen_after : Choices → Chosen → Place → Chosen
chosen_after (exceptions first more) c place = names_chosen (first ∷ more) c place
chosen_after (others at) c place = record { exceptions = c.exceptions; others = true }

-- the choices of the handlers of a body
abbrev pub all_choices_faults : Handlers → Chosen → Place → List Fault
all_choices_faults no_handlers c place = []
all_choices_faults (more_handlers x ss hs) c place = choices_faults x (is_last hs) c place ++ all_choices_faults hs (chosen_after x c place) place

-- the exceptions that a handler is for
abbrev pub with_meant : Option Exception → List Exception → List Exception
with_meant None xs = xs
with_meant (Some x) xs = x ∷ xs

abbrev pub exceptions_of : List Ident → Place → List Exception
exceptions_of [] place = []
exceptions_of (i ∷ is) place = with_meant (exception_meant (visible i.name place)) (exceptions_of is place)

abbrev pub choices_of : Choices → Place → List Exception
choices_of (exceptions first more) place = exceptions_of (first ∷ more) place
choices_of (others at) place = []

-- whether it is for all others
abbrev pub is_others : Choices → Bool
is_others (exceptions first more) = false
is_others (others at) = true
