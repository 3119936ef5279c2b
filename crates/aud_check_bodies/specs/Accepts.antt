-- Accepts: which entry is accepted, and whether it may be accepted there (RM 9.5.2).
use Rattle.std.specs.Prelude.{ℕ, nat_eq, Bool, not, ◌&&◌, List, ◌∷◌, ◌++◌, Option, Some, None}
use Rattle.std.specs.List.{list_any}
use Rattle.aud_text.specs.declared.place.Pos.{Pos}
use Rattle.aud_syntax.specs.declared.tree.Ident.{Ident}
use Rattle.aud_syntax.specs.Plain.{Formal}
use Rattle.aud_typed.specs.Tree as tree
use Rattle.aud_fault.specs.declared.fault.Fault.{Fault}
use Rattle.aud_names.specs.declared.names.Entry.{Entry}
use Rattle.aud_names.specs.declared.names.Meaning.{Meaning}
use Rattle.aud_names.specs.declared.names.Meaning.TheVariants as meaning
use Rattle.aud_names.specs.declared.names.NamedParameter.{NamedParameter}
use Rattle.aud_names.specs.Names.{Place, visible, accept_frame, is_own}
use Rattle.aud_names.specs.Rules.{name_not_declared, accept_or_count_in_place, conform, formals_conform}
use Rattle.aud_names.specs.Resolution.{value_faults}
use Rattle.aud_check_bodies.specs.Tables.{Tables, entry_profile_of}
use Rattle.aud_check_bodies.specs.Formals.{Formals, checked_formals}

-- the formals of an accept have a frame of their own, in which its statements lie (RM 9.5.2)
abbrev pub accept_formals : List Formal → Place → Formals
accept_formals fs place = checked_formals fs (accept_frame place) place.regions

-- the entry that a name stands for
abbrev pub entry_meant : Option Meaning → Option Entry
entry_meant (Some (meaning.Entry e)) = Some e
entry_meant _ = None

-- whether an accept of the same entry is around
abbrev pub is_accepted : ℕ → List ℕ → Bool
is_accepted number within = list_any (λ n. nat_eq number n) within

abbrev pub entry_faults : Entry → Pos → List NamedParameter → List ℕ → Place → Tables → List Fault
entry_faults e at given within place t =
    accept_or_count_in_place (is_own e place && not (is_accepted e.number within)) at ++ formals_conform (conform (entry_profile_of e.number t) given) at

abbrev pub accepted_faults : Option Meaning → Pos → List NamedParameter → List ℕ → Place → Tables → List Fault
accepted_faults None at given within place t = name_not_declared at
accepted_faults (Some (meaning.Entry e)) at given within place t = entry_faults e at given within place t
accepted_faults (Some m) at given within place t = value_faults m at

-- of an accept of an entry with these formals, within accepts of these entries
abbrev pub accept_faults : Ident → List Formal → List ℕ → Place → Tables → List Fault
accept_faults i fs within place t = (accept_formals fs place).faults ++ accepted_faults (visible i.name place) i.at (accept_formals fs place).profile within place t

abbrev pub accepted : Ident → Place → Option Entry
accepted i place = entry_meant (visible i.name place)

-- its number; a faulty accept has none, and nothing is done of its program
abbrev pub number_of : Option Entry → ℕ
number_of None = 0
number_of (Some e) = e.number

-- the entries of the accepts around what it does
abbrev pub with_accepted : Option Entry → List ℕ → List ℕ
with_accepted None within = within
with_accepted (Some e) within = e.number ∷ within

-- what is left of an accept
pub record TypedAccept : Type 0 where
  pub at : Pos
  pub entry : ℕ
  pub doing : tree.Doing
