-- The plain data of protected objects in memory, as far as they are declared, and of the bodies of their operations.
use Rattle.std.specs.Prelude.{◌≡◌, List, ◌∷◌, Option, option_map, Vec}
use Rattle.std.specs.Global.{Global}
use Rattle.std.specs.Borrow.{Bor}
use Rattle.aud_syntax.specs.declared.tree.OperationKind.{OperationKind}
use Rattle.aud_syntax.specs.declared.tree.OperationKind.TheVariants as kind
use Rattle.aud_syntax.specs.Ties.View.{plain_expression}
use Rattle.aud_typed.specs.declared.program.Subtype.{Subtype}
use Rattle.aud_typed.specs.declared.program.ValueExpression as typed
use Rattle.aud_typed.specs.Tree as tree
use Rattle.aud_typed.specs.declared.program.BooleanExpression as typed_boolean
use Rattle.aud_typed.specs.Ties.View.{plain_boolean, plain_values}
use Rattle.aud_names.specs.declared.names.NamedParameter.{NamedParameter}
use Rattle.aud_names.specs.declared.names.Region as memory_region
use Rattle.aud_names.specs.Names.{Place, place_in}
use Rattle.aud_names.specs.Ties.Regions.{plain_region, plain_place}
use Rattle.aud_check_bodies.specs.declared.object.ObjectParts as memory
use Rattle.aud_check_bodies.specs.declared.operation.ObjectBody as memory_body
use Rattle.aud_check_bodies.specs.declared.tables.Tables as memory_tables
use Rattle.aud_check_bodies.specs.Objects.{ObjectDeclared}
use Rattle.aud_check_bodies.specs.declared.operation.Shape as memory_operation
use Rattle.aud_check_bodies.specs.Operations.{Head, of_entry, of_procedure, of_function, Shape, BodyPlaces}
use Rattle.aud_check_bodies.specs.declared.operation.DeclaredParts as memory_parts
use Rattle.aud_fault.specs.declared.fault.Fault.{Fault}
use Rattle.aud_fault.specs.Least.{noted}
use Rattle.aud_names.specs.declared.awaited.AwaitedPart.{AwaitedPart}
use Rattle.aud_check_bodies.specs.Tables.{Tables, Outcome}
use Rattle.aud_check_bodies.specs.Ties.Tables.{plain_tables}

-- the formals of a function, and the subtype of its value
abbrev pub plain_signature : Vec NamedParameter Global × Option Subtype → List NamedParameter × Option Subtype
plain_signature p = (p.0.items, p.1)

-- the subtype of components, and their values
abbrev pub plain_components : Option Subtype × Vec typed.ValueExpression Global → Option Subtype × List tree.ValueExpression
plain_components p = (p.0, plain_values p.1.items)

-- with the region that declares the object, and the tables
abbrev pub plain_parts : memory.ObjectParts → memory_region.Region → memory_tables.Tables → ObjectDeclared
plain_parts x around t = record { own = plain_region x.own; around = plain_region around; values = plain_values x.values.items; entries = x.entries.items; tables = plain_tables t }

-- of what a body is
abbrev pub plain_head : OperationKind → Head
plain_head (kind.Entry barrier) = of_entry (plain_expression barrier)
plain_head kind.Procedure = of_procedure
plain_head (kind.Function mark) = of_function mark

abbrev pub plain_shape : memory_operation.Shape → Shape
plain_shape s = record { region = plain_region s.region; profile = s.profile.items; returned = s.returned }

-- a barrier, if there is one
abbrev pub plain_barrier : Option typed_boolean.BooleanExpression → Option tree.BooleanExpression
plain_barrier b = option_map plain_boolean b

-- a body stands in one of the places; nothing is asked of the other
abbrev pub one_place : memory_parts.DeclaredParts → memory_region.Region → List (Bor memory_region.Region) → BodyPlaces
one_place d own outer = record { object = d.object; parts = d.parts.now; inside = plain_place own outer; in_function = plain_place own outer }

abbrev pub both_places : memory_parts.DeclaredParts → (Bor memory_region.Region × Bor (List (Bor memory_region.Region))) → (Bor memory_region.Region × Bor (List (Bor memory_region.Region))) → BodyPlaces
both_places d inside in_function = record { object = d.object; parts = d.parts.now; inside = plain_place inside.0.now inside.1.now; in_function = plain_place in_function.0.now in_function.1.now }

-- the faults are noted, these are the tables, and these wait still
abbrev pub ChecksBodies : Option Fault → Option Fault → List AwaitedPart → Tables → Outcome (List AwaitedPart) → Type 0
ChecksBodies old new awaited tables o = (new ≡ noted old o.faults) × (tables ≡ o.tables) × (awaited ≡ o.made)

-- where the bodies of an object stand that is declared in a region
abbrev pub body_place : memory_body.ObjectBody → memory_region.Region → List (Bor memory_region.Region) → Place
body_place b region outer = place_in (plain_region b.own) (plain_region b.around ∷ (plain_place region outer).regions)
