-- Requeue statements (RM 9.5.4).
use Rattle.std.specs.Prelude.{ℕ, nat_eq, Bool, true, false, not, ◌&&◌, List, [], ◌++◌, Option, Some, None, is_some, if◌then◌else◌}
use Rattle.aud_text.specs.declared.place.Pos.{Pos}
use Rattle.aud_syntax.specs.Plain.{Name}
use Rattle.aud_typed.specs.Tree as tree
use Rattle.aud_fault.specs.declared.fault.Fault.{Fault}
use Rattle.aud_names.specs.declared.names.Meaning.{Meaning}
use Rattle.aud_names.specs.declared.names.Meaning.TheVariants as meaning
use Rattle.aud_names.specs.declared.names.Entry.{Entry}
use Rattle.aud_names.specs.declared.names.NamedParameter.{NamedParameter}
use Rattle.aud_names.specs.declared.names.Owner.{Owner}
use Rattle.aud_names.specs.declared.names.Owner.TheVariants as owner
use Rattle.aud_names.specs.declared.names.Owner.TheVariants.{Single, Element}
use Rattle.aud_names.specs.Names.{Region, Place, declaring, are_in_accept, are_in_task}
use Rattle.aud_names.specs.Arrays.{task_array_at}
use Rattle.aud_names.specs.Rules.{wrong_kind_of_name, wrong_number_of_arguments, not_an_entry, same_parameters, formals_conform, requeue_in_place, in_own_object, declared_outside}
use Rattle.aud_names.specs.Resolution.{resolved, name_ident, last_args, are_none}
use Rattle.aud_typing.specs.Expressions.{Typed, number, checked_arguments}
use Rattle.aud_check_bodies.specs.Tables.{Tables, entry_profile_of}
use Rattle.aud_check_bodies.specs.Calls.{index_checked, array_called}

-- the innermost accept or entry body: its formals, and for an entry body the number of its object
pub record Requeuing : Type 0 where
  pub profile : List NamedParameter
  pub object : Option ℕ

-- without formals, or with those of the accept or entry body but for their names
abbrev pub may_take : List NamedParameter → List NamedParameter → Bool
may_take [] given = true
may_take target given = same_parameters target given

abbrev pub is_own_object : ℕ → Owner → Bool
is_own_object object (owner.Object x) = nat_eq x.object object
is_own_object object o = false

-- an accept may name any entry
abbrev pub is_inside_object : Option ℕ → Owner → Bool
is_inside_object None o = true
is_inside_object (Some object) o = is_own_object object o

-- whether the target is an object's entry and the requeue stands in an accept
abbrev pub goes_to_object : Option ℕ → Owner → Bool
goes_to_object None (owner.Object x) = true
goes_to_object _ _ = false

-- these regions declare the target's task or object, or what is within it
abbrev pub is_outside : Option ℕ → Owner → List Region → Bool
is_outside object o rs = not (are_in_accept rs) && not (goes_to_object object o && are_in_task rs)

abbrev pub no_arguments : Name → Pos → List Fault
no_arguments n at = if are_none (last_args n) then [] else wrong_number_of_arguments at

abbrev pub entry_target_faults : Entry → Name → Pos → Requeuing → Place → Tables → List Fault
entry_target_faults e n at r place t =
    formals_conform (may_take (entry_profile_of e.number t) r.profile) at
    ++ (in_own_object (is_inside_object r.object e.owner) at ++ declared_outside (is_outside r.object e.owner (declaring (name_ident n).name place.regions)) at)

-- nothing more is said of a target where no call can be made again
abbrev pub target_faults_in : Option Requeuing → Entry → Name → Pos → Place → Tables → List Fault
target_faults_in None e n at place t = []
target_faults_in (Some r) e n at place t = entry_target_faults e n at r place t

-- what is named is an entry, which has no arguments there
abbrev pub target_faults : Option Meaning → Name → Pos → Option Requeuing → Typed → Place → Tables → List Fault
target_faults None n at r last place t = []
target_faults (Some (meaning.Entry e)) n at r last place t = no_arguments n at ++ target_faults_in r e n at place t
target_faults (Some (meaning.Builtin b)) n at r last place t = not_an_entry at
target_faults (Some (meaning.Procedure unit)) n at r last place t = not_an_entry at
target_faults (Some (meaning.Operation o)) n at r last place t = not_an_entry at
target_faults (Some (meaning.Array a)) n at r last place t = array_called (last_args n) at last
target_faults (Some (meaning.TaskArray a)) n at r last place t = array_called (last_args n) at last
target_faults (Some m) n at r last place t = wrong_kind_of_name at

abbrev pub requeue_faults : Pos → Name → Option Requeuing → Place → Tables → List Fault
requeue_faults at n r place t =
    requeue_in_place (is_some r) at ++ ((resolved n place).faults ++ ((checked_arguments n place).faults
    ++ target_faults (resolved n place).denoted.meaning n (resolved n place).denoted.at r (checked_arguments n place).typed place t))

-- What is made of it; a faulty one is left as a null statement.

abbrev pub target_callee : Owner → Typed → Option tree.Callee
target_callee (Single v) index = Some (tree.of_task (tree.single v))
target_callee (Element a) (number e) = Some (tree.of_task (tree.indexed (task_array_at a) e))
target_callee (Element a) _ = None
target_callee (owner.Object x) index = Some (tree.of_object x.variable)

abbrev pub has_formals : List NamedParameter → Bool
has_formals [] = false
has_formals ps = true

abbrev pub requeued_to : Pos → Entry → Bool → Option tree.Callee → Tables → tree.Statement
requeued_to at e with_abort None t = tree.null at
requeued_to at e with_abort (Some c) t = tree.requeue at (record { callee = c; entry = e.number; with_formals = has_formals (entry_profile_of e.number t); with_abort = with_abort })

abbrev pub requeued : Pos → Option Meaning → Name → Bool → Place → Tables → tree.Statement
requeued at (Some (meaning.Entry e)) n with_abort place t = requeued_to at e with_abort (target_callee e.owner (index_checked e.owner n place).typed) t
requeued at m n with_abort place t = tree.null at

abbrev pub typed_requeue : Pos → Name → Bool → Place → Tables → tree.Statement
typed_requeue at n with_abort place t = requeued at (resolved n place).denoted.meaning n with_abort place t
