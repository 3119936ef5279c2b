-- The plain data of arguments in memory.
use Rattle.std.specs.Prelude.{List, [], ◌∷◌, ◌++◌, Option, Some, None, option_map, Box, Vec}
use Rattle.std.specs.Global.{Global}
use Rattle.std.specs.Borrow.{Bor}
use Rattle.std.specs.Option.{option_copied}
use Rattle.aud_syntax.specs.declared.tree.Name as source
use Rattle.aud_syntax.specs.Plain.{Name}
use Rattle.aud_syntax.specs.Ties.View.{plain_name}
use Rattle.aud_typed.specs.declared.program.Argument as memory
use Rattle.aud_typed.specs.declared.program.Reference as reference
use Rattle.aud_typed.specs.declared.program.CallForm as form
use Rattle.aud_typed.specs.Tree.{Argument, Reference, CallForm}
use Rattle.aud_typed.specs.Ties.View.{plain_argument, plain_arguments, plain_reference, plain_callee, plain_form}
use Rattle.aud_check_bodies.specs.declared.entry_call.EntryCalled as memory_call
use Rattle.aud_check_bodies.specs.declared.entry_call.Whose as memory_whose
use Rattle.aud_check_bodies.specs.declared.entry_call.Whose.TheVariants.{Own, Other}
use Rattle.aud_check_bodies.specs.Calls.{Whose, own_object, another, EntryCalled}

-- the name that an expression is, if it is one
abbrev pub plain_found : Option (Bor source.Name) → Option Name
plain_found found = option_map plain_name (option_copied found)

abbrev pub plain_target : Option reference.Reference → Option Reference
plain_target r = option_map plain_reference r

abbrev pub plain_passed : Option memory.Argument → Option Argument
plain_passed a = option_map plain_argument a

abbrev pub plain_all_passed : Option (Vec memory.Argument Global) → Option (List Argument)
plain_all_passed all = option_map (λ v. plain_arguments v.items) all

-- one more behind those that are there
abbrev pub one_more_passed : Option (List Argument) → Option Argument → Option (List Argument)
one_more_passed (Some xs) (Some x) = Some (xs ++ x ∷ [])
one_more_passed _ _ = None

-- Entry calls.

abbrev pub plain_whose : memory_whose.Whose → Whose
plain_whose Own = own_object
plain_whose (Other c) = another (plain_callee c)

abbrev pub plain_maybe_whose : Option memory_whose.Whose → Option Whose
plain_maybe_whose w = option_map plain_whose w

abbrev pub plain_entry_called : memory_call.EntryCalled → EntryCalled
plain_entry_called c = record { whose = plain_whose c.whose; entry = c.entry; arguments = plain_arguments c.arguments.items }

abbrev pub plain_maybe_called : Option memory_call.EntryCalled → Option EntryCalled
plain_maybe_called c = option_map plain_entry_called c

-- with the form of a call
abbrev pub plain_head : Box form.CallForm Global × Option memory_call.EntryCalled → CallForm × Option EntryCalled
plain_head h = (plain_form h.0.value, plain_maybe_called h.1)
