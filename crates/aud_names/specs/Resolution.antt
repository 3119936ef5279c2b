-- What a name denotes that may have several parts and arguments (RM 4.1).
use Rattle.std.specs.Prelude.{ℕ, Bool, true, false, not, ◌&&◌, ◌||◌, List, [], Option, Some, None, codes, if◌then◌else◌}
use Rattle.std.specs.Str.{bytes_eq}
use Rattle.aud_text.specs.declared.place.Pos.{Pos}
use Rattle.aud_syntax.specs.declared.tree.Ident.{Ident}
use Rattle.aud_syntax.specs.Plain.{Name, named, NamePart, part, Parts, no_parts, more_parts, Args, no_args, more_args}
use Rattle.aud_fault.specs.declared.fault.Fault.{Fault}
use Rattle.aud_names.specs.declared.names.Meaning.{Meaning}
use Rattle.aud_names.specs.declared.names.Meaning.TheVariants.{ScalarType, Literal, Object, Array, Exception, Builtin, Procedure, TaskType, Task, TaskArray, Entry, Protected, Operation, Barred}
use Rattle.aud_names.specs.declared.names.Owner.{Owner}
use Rattle.aud_names.specs.declared.names.Owner.TheVariants as owner
use Rattle.aud_names.specs.declared.names.Owner.TheVariants.{Single, Element}
use Rattle.aud_names.specs.declared.names.Instance.{Instance}
use Rattle.aud_names.specs.declared.names.Subprogram.{Subprogram}
use Rattle.aud_names.specs.declared.names.Subprogram.TheVariants.{Function}
use Rattle.aud_names.specs.declared.parts.Part.{Part}
use Rattle.aud_names.specs.declared.parts.PartKind.{PartKind}
use Rattle.aud_names.specs.declared.parts.PartKind.TheVariants as part_kind
use Rattle.aud_names.specs.declared.resolution.Denoted.{Denoted}
use Rattle.aud_names.specs.Names.{Place, visible, is_taken, is_in_own_body, entry_named, named_in, named_inside, predefined, is_inside}
use Rattle.aud_names.specs.Objects.{part_named}
use Rattle.aud_names.specs.Rules.{name_not_declared, wrong_kind_of_name, function_call_out_of_place, parameter_in_barrier}

-- the faults in a name, and what it denotes with the place of the identifier that decides: nothing where it is faulty
pub record Resolved : Type 0 where
  pub faults : List Fault
  pub denoted : Denoted

abbrev pub denotes : Meaning → Pos → Resolved
denotes m at = record { faults = []; denoted = record { meaning = Some m; at = at } }

abbrev pub denotes_nothing : List Fault → Pos → Resolved
denotes_nothing faults at = record { faults = faults; denoted = record { meaning = None; at = at } }

-- the identifier of a part, and its arguments
abbrev pub part_ident : NamePart → Ident
part_ident (part i xs) = i

abbrev pub part_args : NamePart → Args
part_args (part i xs) = xs

abbrev pub are_none : Args → Bool
are_none no_args = true
are_none (more_args e es) = false

-- the identifier with which a name begins
abbrev pub name_ident : Name → Ident
name_ident (named p ps) = part_ident p

-- the arguments of its last part
abbrev pub last_of : NamePart → Parts → Args
last_of p no_parts = part_args p
last_of p (more_parts q qs) = last_of q qs

abbrev pub last_args : Name → Args
last_args (named p ps) = last_of p ps

-- the arguments of its first part, which behind an array of tasks are the index of the task whose entry is named
abbrev pub first_args : Name → Args
first_args (named p ps) = part_args p

-- a function of a protected object
abbrev pub is_value : Subprogram → Bool
is_value (Function s) = true
is_value _ = false

abbrev pub is_function : Meaning → Bool
is_function (Operation o) = is_value o.subprogram
is_function _ = false

-- a function has a value, but not there; what else is named has none
abbrev pub value_faults : Meaning → Pos → List Fault
value_faults m at = if is_function m then function_call_out_of_place at else wrong_kind_of_name at

-- procedures, functions and entries have arguments, and arrays an index (RM 4.1.1)
abbrev pub takes_arguments : Meaning → Bool
takes_arguments (Builtin b) = true
takes_arguments (Procedure n) = true
takes_arguments (Array a) = true
takes_arguments (ScalarType s) = false
takes_arguments (Literal b) = false
takes_arguments (Exception x) = false
takes_arguments (Object o) = false
takes_arguments (TaskType n) = false
takes_arguments (Task v) = false
takes_arguments (TaskArray a) = true
takes_arguments (Entry e) = true
takes_arguments (Protected x) = false
takes_arguments (Operation o) = true
takes_arguments Barred = false

-- whether nothing stands behind a point
abbrev pub is_last : Parts → Bool
is_last no_parts = true
is_last (more_parts q qs) = false

-- a formal may not be named in a barrier, whatever stands behind it
abbrev pub is_barred : Meaning → Bool
is_barred Barred = true
is_barred _ = false

abbrev pub may_stand : Meaning → NamePart → Parts → Bool
may_stand m p ps = not (is_barred m) && (is_last ps && (takes_arguments m || are_none (part_args p)))

abbrev pub not_declared : NamePart → Resolved
not_declared p = denotes_nothing (name_not_declared (part_ident p).at) (part_ident p).at

abbrev pub of_wrong_kind : NamePart → Resolved
of_wrong_kind p = denotes_nothing (wrong_kind_of_name (part_ident p).at) (part_ident p).at

-- it does not stand so
abbrev pub of_no_prefix : Meaning → NamePart → Resolved
of_no_prefix m p = denotes_nothing (value_faults m (part_ident p).at) (part_ident p).at

-- what stands behind a point and is no entry: a name that is visible there is of the wrong kind
abbrev pub no_entry : Bool → NamePart → Resolved
no_entry is_visible p = denotes_nothing (if is_visible then wrong_kind_of_name (part_ident p).at else name_not_declared (part_ident p).at) (part_ident p).at

-- behind an entry stands no further point
abbrev pub entry_selected : Option ℕ → Owner → Bool → NamePart → Parts → Resolved
entry_selected (Some number) owner is_visible p ps = if is_last ps then denotes (Entry (record { number = number; owner = owner })) (part_ident p).at else of_wrong_kind p
entry_selected None owner is_visible p ps = no_entry is_visible p

-- an entry or an operation of an object, behind which stands no further point
abbrev pub of_object : Meaning → NamePart → Parts → Resolved
of_object m p ps = if is_last ps then denotes m (part_ident p).at else of_no_prefix m p

abbrev pub kind_selected : PartKind → Instance → NamePart → Parts → Resolved
kind_selected (part_kind.Entry number unit) x p ps = of_object (Entry (record { number = number; owner = owner.Object x })) p ps
kind_selected (part_kind.Operation unit subprogram) x p ps = of_object (Operation (record { unit = unit; subprogram = subprogram; instance = x })) p ps
kind_selected (part_kind.Component s) x p ps = of_wrong_kind p

-- what stands behind `private` is visible in the object's body alone (RM 9.4(5, 6), 8.2(5))
abbrev pub part_selected : Option Part → Instance → NamePart → Parts → Resolved
part_selected None x p ps = not_declared p
part_selected (Some c) x p ps = if c.is_private then not_declared p else kind_selected c.kind x p ps

-- where all that the object declares is visible
abbrev pub inside_selected : Option Meaning → NamePart → Parts → Resolved
inside_selected None p ps = not_declared p
inside_selected (Some (Entry e)) p ps = of_object (Entry e) p ps
inside_selected (Some (Operation o)) p ps = of_object (Operation o) p ps
inside_selected (Some m) p ps = of_wrong_kind p

abbrev pub object_selected : (inside : Bool) → Instance → NamePart → Parts → Place → Resolved
object_selected true x p ps place = inside_selected (named_inside (part_ident p).name x.variable place.regions) p ps
object_selected false x p ps place = part_selected (part_named (part_ident p).name x.object place.regions) x p ps

-- behind a task, or an array of tasks with its index, and a point stands an entry of it (RM 4.1.3, 9.5.2); what its body declares besides is
-- visible behind the task's name in that body (RM 8.6(17)); behind a protected object stands an entry or operation of it (RM 9.4);
-- nothing else stands before a point, and an element not either: that is a fault where its index is none
abbrev pub selected : Meaning → NamePart → Parts → Place → Resolved
selected (Task t) (part i no_args) (more_parts q qs) place =
    entry_selected (entry_named (part_ident q).name t.task_type place.regions) (Single t.variable) (is_in_own_body i.name t.variable (part_ident q).name place.regions) q qs
selected (TaskArray a) (part i (more_args e es)) (more_parts q qs) place = entry_selected (entry_named (part_ident q).name a.task_type place.regions) (Element a) false q qs
selected (Protected x) (part i no_args) (more_parts q qs) place = object_selected (is_inside x.access) x q qs place
selected (Array a) (part i (more_args e es)) (more_parts q qs) place = denotes_nothing [] i.at
selected Barred p ps place = denotes_nothing (parameter_in_barrier (part_ident p).at) (part_ident p).at
selected m p ps place = of_no_prefix m p

abbrev pub denoted_by : Meaning → NamePart → Parts → Place → Resolved
denoted_by m p ps place = if may_stand m p ps then denotes m (part_ident p).at else selected m p ps place

-- a procedure of Ada.Text_IO (RM A.10.1)
abbrev pub in_text_io : Option Meaning → NamePart → Parts → Place → Resolved
in_text_io (Some (Builtin b)) r rest place = denoted_by (Builtin b) r rest place
in_text_io _ r rest place = not_declared r

abbrev pub is_plainly : List ℕ → NamePart → Bool
is_plainly name p = bytes_eq (part_ident p).name name && are_none (part_args p)

-- the name of the library that it is in may stand before it, where no declaration has taken the name Ada
abbrev pub is_text_io : NamePart → NamePart → Place → Bool
is_text_io p q place = is_plainly (codes "ADA") p && is_plainly (codes "TEXT_IO") q && not (is_taken (part_ident p).name place)

abbrev pub in_library : NamePart → Parts → Place → Resolved
in_library p (more_parts q (more_parts r rest)) place = if is_text_io p q place then in_text_io (named_in (part_ident r).name predefined) r rest place else not_declared p
in_library p (more_parts q no_parts) place = not_declared p
in_library p no_parts place = not_declared p

abbrev pub or_in_library : Option Meaning → NamePart → Parts → Place → Resolved
or_in_library (Some m) p ps place = denoted_by m p ps place
or_in_library None p ps place = in_library p ps place

-- RM 4.1, 8.3
abbrev pub resolved : Name → Place → Resolved
resolved (named p ps) place = or_in_library (visible (part_ident p).name place) p ps place
