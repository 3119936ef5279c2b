-- What is shown by a check of declarations in memory.
use Rattle.std.specs.Prelude.{◌≡◌, ◌++◌, ℕ, List, Option, Vec}
use Rattle.std.specs.Global.{Global}
use Rattle.std.specs.Borrow.{Bor}
use Rattle.std.specs.Option.{option_copied}
use Rattle.aud_syntax.specs.declared.tree.Expression.{Expression}
use Rattle.aud_syntax.specs.Plain.{MaybeExpression}
use Rattle.aud_syntax.specs.Ties.View.{plain_maybe}
use Rattle.aud_typed.specs.Ties.View.{plain_statements}
use Rattle.aud_check_bodies.specs.declared.declaration.DeclarativePart.{DeclarativePart}
use Rattle.aud_names.specs.declared.names.Region.{Region}
use Rattle.aud_names.specs.declared.names.NamedParameter.{NamedParameter}
use Rattle.aud_fault.specs.declared.fault.Fault.{Fault}
use Rattle.aud_fault.specs.Least.{noted}
use Rattle.aud_names.specs.Names.{innermost}
use Rattle.aud_check_bodies.specs.Tables.{Tables, Outcome, region_named}
use Rattle.aud_check_bodies.specs.Regions.{shown_names}
use Rattle.aud_names.specs.Ties.Regions.{plain_region, plain_place}
use Rattle.aud_check_bodies.specs.Declarations.{Declared, Exceptions}
use Rattle.aud_check_bodies.specs.Formals.{Formals}

-- the value that a declaration gives, if it gives one
abbrev pub plain_initial : Option (Bor Expression) → MaybeExpression
plain_initial initial = plain_maybe (option_copied initial)

-- a region in memory, and the names of the exceptions that are declared so far
abbrev pub plain_exceptions : Region → Vec (List ℕ) Global → Exceptions
plain_exceptions r names = record { region = plain_region r; names = names.items }

-- the faults are noted, the place is that after the declarations, the elaborations are added, and these are the tables
abbrev pub Declares : Option Fault → Option Fault → List (Bor Region) → DeclarativePart → DeclarativePart → Tables → Outcome Declared → Type 0
Declares old_faults new_faults outer old new tables o = (new_faults ≡ noted old_faults o.faults) × (plain_place new.region outer ≡ o.made.place) × (plain_statements new.elaborations.items ≡ plain_statements old.elaborations.items ++ o.made.elaborations) × (tables ≡ o.tables)

-- the same of a region that is entered, whose names are put where its place was kept
abbrev pub Enters : Option Fault → Option Fault → List (Bor Region) → DeclarativePart → ℕ → Tables → Outcome Declared → Type 0
Enters old new outer part number tables o = (new ≡ noted old o.faults) × (plain_place part.region outer ≡ o.made.place) × (plain_statements part.elaborations.items ≡ o.made.elaborations) × (tables ≡ region_named number (shown_names (innermost o.made.place).symbols) o.tables)

-- the faults are noted, the region is that after the formals, and these are added to those that calls see
abbrev pub DeclaresFormals : Option Fault → Option Fault → Region → List NamedParameter → List NamedParameter → Formals → Type 0
DeclaresFormals old_faults new_faults new old_profile new_profile f = (new_faults ≡ noted old_faults f.faults) × (plain_region new ≡ f.region) × (new_profile ≡ old_profile ++ f.profile)
