-- The rules of the language that a program may break, each with its refusal, and where a breach stands.
use Rattle.std.specs.Prelude.{Bool, true, false, not, ◌&&◌, List, [], ◌∷◌, Option, Some, None, if◌then◌else◌, ℕ}
use Rattle.std.specs.Str.{bytes_eq}
use Rattle.aud_text.specs.declared.place.Pos.{Pos}
use Rattle.aud_text.specs.declared.refusal.Refusal.TheVariants.{NameNotDeclared, DeclaredTwice, WrongKindOfName, WrongType, WrongNumberOfArguments, NotAVariable, WrongNameAtEnd, NoMatchingBody, AcceptOrCountOutOfPlace, FormalsDoNotConform, ExitWithoutLoop, ReturnOutOfPlace, RaiseWithoutHandler, BadHandlerChoice, FunctionCallOutOfPlace, NumberTooLarge, TooManyDecimals, ChangeWithinFunction, ParameterInBarrier, NotAnEntry, RequeueOutOfPlace, ExternalRequeue, TargetDeclaredInside}
use Rattle.aud_syntax.specs.declared.tree.Ident.{Ident}
use Rattle.aud_syntax.specs.declared.tree.Mode.{Mode}
use Rattle.aud_syntax.specs.declared.tree.Mode.TheVariants.{Unstated, In, Out, InOut}
use Rattle.aud_fault.specs.declared.fault.Fault.{Fault}
use Rattle.aud_names.specs.declared.names.Parameter.{Parameter}
use Rattle.aud_names.specs.declared.names.NamedParameter.{NamedParameter}
use Rattle.aud_names.specs.declared.rules.Base.{Base}
use Rattle.aud_names.specs.declared.rules.Base.TheVariants.{Whole, Truth, Text}
use Rattle.aud_names.specs.Names.{Symbol, is_declared, named_in, predefined, is_standard}
use Rattle.aud_typed.specs.declared.program.Subtype.{Subtype}
use Rattle.aud_typed.specs.declared.program.Subtype.TheVariants.{Integer, Natural, Positive, Boolean}

abbrev pub unless : Bool → Fault → List Fault
unless good f = if good then [] else f ∷ []

-- a name is visible (RM 8.3); at the name
abbrev pub name_not_declared : Pos → List Fault
name_not_declared at = record { at = at; refusal = NameNotDeclared } ∷ []

-- a region declares a name once (RM 8.3(26)); at the second declaration
abbrev pub declared_once : List ℕ → Pos → List Symbol → List Fault
declared_once name at symbols = unless (not (is_declared name symbols)) (record { at = at; refusal = DeclaredTwice })

-- a program has no name of a predefined type or exception, which are declared in the region that declares it (RM 8.3(26), 10.1.1); at the name
abbrev pub program_named : List ℕ → Pos → List Fault
program_named name at = unless (not (is_standard (named_in name predefined))) (record { at = at; refusal = DeclaredTwice })

-- a name is of the kind that its place asks; at the name
abbrev pub wrong_kind_of_name : Pos → List Fault
wrong_kind_of_name at = record { at = at; refusal = WrongKindOfName } ∷ []

-- the type of a subtype (RM 3.2), where that is known
abbrev pub base_of_subtype : Subtype → Base
base_of_subtype Integer = Whole
base_of_subtype Natural = Whole
base_of_subtype Positive = Whole
base_of_subtype Boolean = Truth

abbrev pub base_asked : Option Subtype → Option Base
base_asked None = None
base_asked (Some s) = Some (base_of_subtype s)

abbrev pub same_base : Base → Base → Bool
same_base Whole Whole = true
same_base Truth Truth = true
same_base Text Text = true
same_base _ _ = false

abbrev pub fits : Option Base → Option Base → Bool
fits (Some asked) (Some given) = same_base asked given
fits _ _ = true

-- an expression has the type that its place asks, where both are known (RM 8.6); at its first token
abbrev pub right_type : Option Base → Pos → Option Base → List Fault
right_type asked at given = unless (fits asked given) (record { at = at; refusal = WrongType })

-- as many arguments as formals (RM 6.4.1), one for Image of a type and none for other attributes (RM 3.5(35), 4.10(40), 3.5(12)); at the name
abbrev pub wrong_number_of_arguments : Pos → List Fault
wrong_number_of_arguments at = record { at = at; refusal = WrongNumberOfArguments } ∷ []

-- a target, and an argument of mode out or in out, is a variable (RM 5.2(5), 6.4.1(5)), and no constant (RM 3.3.1(5)); at its first token
abbrev pub not_a_variable : Pos → List Fault
not_a_variable at = record { at = at; refusal = NotAVariable } ∷ []

-- the name after `end` is the construct's (RM 6.3(4), 9.1(7), 9.4, 9.5.2(6)); at the name
abbrev pub right_name_at_end : List ℕ → Option Ident → List Fault
right_name_at_end name None = []
right_name_at_end name (Some last) = unless (bytes_eq last.name name) (record { at = last.at; refusal = WrongNameAtEnd })

-- a labelled loop or block has its label after its end, another has no name there (RM 5.5(5), 5.6(3)); at the name, or the semicolon
abbrev pub right_label_at_end : Option Ident → Option Ident → Pos → List Fault
right_label_at_end None None semicolon = []
right_label_at_end None (Some last) semicolon = record { at = last.at; refusal = WrongNameAtEnd } ∷ []
right_label_at_end (Some label) None semicolon = record { at = semicolon; refusal = WrongNameAtEnd } ∷ []
right_label_at_end (Some label) (Some last) semicolon = right_name_at_end label.name (Some last)

-- a task or protected object has one body, later in the same declarative part, an operation one in its object's, and a body has its
-- declaration (RM 3.11.1); at the declared name, or the body's
abbrev pub no_matching_body : Pos → List Fault
no_matching_body at = record { at = at; refusal = NoMatchingBody } ∷ []

-- an accept and a Count of an entry stand directly in the body of the task whose entry it is (RM 9.5.2(14), 9.9(4)), a Count of a
-- protected entry in the object's body, and an accept in no accept of the same entry (RM 9.5.2(15)); at the entry's name
abbrev pub accept_or_count_in_place : Bool → Pos → List Fault
accept_or_count_in_place good at = unless good (record { at = at; refusal = AcceptOrCountOutOfPlace })

-- a mode that is not written is `in` (RM 6.1)
abbrev pub same_mode : Mode → Mode → Bool
same_mode Unstated Unstated = true
same_mode Unstated (In at) = true
same_mode (In at) Unstated = true
same_mode (In at) (In other) = true
same_mode (Out at) (Out other) = true
same_mode (InOut at) (InOut other) = true
same_mode _ _ = false

abbrev pub same_subtype : Subtype → Subtype → Bool
same_subtype Integer Integer = true
same_subtype Natural Natural = true
same_subtype Positive Positive = true
same_subtype Boolean Boolean = true
same_subtype _ _ = false

-- nothing is said of a subtype that is not known
abbrev pub agree : Option Subtype → Option Subtype → Bool
agree (Some s) (Some t) = same_subtype s t
agree _ _ = true

abbrev pub same_parameter : Parameter → Parameter → Bool
same_parameter p q = same_mode p.mode q.mode && agree p.subtype q.subtype

-- the same names, modes and subtypes in order (RM 6.3.1)
abbrev pub conform : List NamedParameter → List NamedParameter → Bool
conform [] [] = true
conform (p ∷ ps) (q ∷ qs) = (bytes_eq p.name q.name && same_parameter p.parameter q.parameter) && conform ps qs
conform _ _ = false

-- the same modes and subtypes in order, whatever the names are
abbrev pub same_parameters : List NamedParameter → List NamedParameter → Bool
same_parameters [] [] = true
same_parameters (p ∷ ps) (q ∷ qs) = same_parameter p.parameter q.parameter && same_parameters ps qs
same_parameters _ _ = false

-- the formals of an accept or a body conform to those of its declaration (RM 6.3.1, 9.5.2(14)); at its name
abbrev pub formals_conform : Bool → Pos → List Fault
formals_conform good at = unless good (record { at = at; refusal = FormalsDoNotConform })

-- an exit leaves a loop that encloses it (RM 5.7(4)); at `exit`
abbrev pub exit_in_loop : Bool → Pos → List Fault
exit_in_loop good at = unless good (record { at = at; refusal = ExitWithoutLoop })

-- a return stands in a callable construct, with a value exactly in a function (RM 6.5(4, 5)); at `return`
abbrev pub return_in_place : Bool → Pos → List Fault
return_in_place good at = unless good (record { at = at; refusal = ReturnOutOfPlace })

-- a raise without a name stands in a handler (RM 11.3(3)); at `raise`
abbrev pub raise_in_handler : Bool → Pos → List Fault
raise_in_handler good at = unless good (record { at = at; refusal = RaiseWithoutHandler })

-- no exception is chosen twice by the handlers of a body, and `others` is chosen last (RM 11.2(7, 8)); at the choice
abbrev pub good_choice : Bool → Pos → List Fault
good_choice good at = unless good (record { at = at; refusal = BadHandlerChoice })

-- a number is at most the last Integer (RM 3.5.4); at the number
abbrev pub number_too_large : Pos → List Fault
number_too_large at = record { at = at; refusal = NumberTooLarge } ∷ []

-- a real number has at most three decimals (profile); at the number
abbrev pub too_many_decimals : Pos → List Fault
too_many_decimals at = record { at = at; refusal = TooManyDecimals } ∷ []

-- a function's call is the whole right side of an assignment (profile); at the name
abbrev pub function_call_out_of_place : Pos → List Fault
function_call_out_of_place at = record { at = at; refusal = FunctionCallOutOfPlace } ∷ []

-- a protected function's body changes no component of its object, and calls no procedure or entry of it (RM 9.5.1(2)); at the name
abbrev pub no_change_within_function : Bool → Pos → List Fault
no_change_within_function good at = unless good (record { at = at; refusal = ChangeWithinFunction })

-- a barrier names no formal of its entry (RM 9.5.2(18)); at the name
abbrev pub parameter_in_barrier : Pos → List Fault
parameter_in_barrier at = record { at = at; refusal = ParameterInBarrier } ∷ []

-- what a timed or conditional call calls, and where a call is made again, is an entry (RM 9.7.2, 9.7.3, 9.5.4(3)); at the name
abbrev pub not_an_entry : Pos → List Fault
not_an_entry at = record { at = at; refusal = NotAnEntry } ∷ []

-- a requeue stands in an accept or an entry body, with no body or accept between (RM 9.5.4(4)); at `requeue`
abbrev pub requeue_in_place : Bool → Pos → List Fault
requeue_in_place good at = unless good (record { at = at; refusal = RequeueOutOfPlace })

-- an entry body makes its call again on entries of its own object (profile); at the name
abbrev pub in_own_object : Bool → Pos → List Fault
in_own_object good at = unless good (record { at = at; refusal = ExternalRequeue })

-- the target's task or object is not declared within an accept that encloses the requeue, and for a requeue in an accept the target's
-- object is not declared within a task's body (RM 9.5.4(6), profile); at the name
abbrev pub declared_outside : Bool → Pos → List Fault
declared_outside good at = unless good (record { at = at; refusal = TargetDeclaredInside })
