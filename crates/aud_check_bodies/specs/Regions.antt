-- Regions that are entered: what their frames show, and that of a loop's parameter (RM 5.5).
use Rattle.std.specs.Prelude.{ℕ, true, List, [], ◌∷◌, Option, Some, None}
use Rattle.aud_syntax.specs.declared.tree.Ident.{Ident}
use Rattle.aud_typed.specs.declared.program.Subtype.{Subtype}
use Rattle.aud_typed.specs.declared.program.Subtype.TheVariants.{Integer, Boolean}
use Rattle.aud_typed.specs.Tree as tree
use Rattle.aud_names.specs.declared.names.Meaning.{Meaning}
use Rattle.aud_names.specs.declared.names.Meaning.TheVariants as meaning
use Rattle.aud_names.specs.Names.{Symbol, Region, Place, next_frame, place_in}
use Rattle.aud_names.specs.Arrays.{length_between}
use Rattle.aud_check_bodies.specs.Declarations.{with_object}

-- how a variable or constant is shown
abbrev pub shown_of : Option Subtype → tree.Shown
shown_of (Some Boolean) = tree.as_truth
shown_of _ = tree.as_whole

-- an array is shown by its elements
abbrev pub shown_row : Option Subtype → ℕ → tree.Shown
shown_row (Some Boolean) count = tree.as_truths count
shown_row _ count = tree.as_wholes count

-- how a variable, constant, array, task or protected object is shown; what stands for something else has no cells
abbrev pub shown : Meaning → Option tree.Shown
shown (meaning.Object o) = Some (shown_of o.subtype)
shown (meaning.Array a) = Some (shown_row a.subtype (length_between a.low a.high))
shown (meaning.Task v) = Some (tree.hidden 1)
shown (meaning.TaskArray a) = Some (tree.hidden (length_between a.low a.high))
shown (meaning.Protected x) = Some (tree.hidden 1)
shown _ = None

abbrev pub shown_before : List ℕ → Option tree.Shown → List tree.Named → List tree.Named
shown_before name None more = more
shown_before name (Some s) more = (record { name = name; shown = s }) ∷ more

-- the names of a region that have cells, in the order of their declarations
abbrev pub shown_names : List Symbol → List tree.Named
shown_names [] = []
shown_names (s ∷ ss) = shown_before s.0 (shown s.1) (shown_names ss)

-- the region of a loop's parameter, which is a constant of type Integer (RM 5.5(6, 9), profile)
abbrev pub loop_region : Ident → Place → Region
loop_region i place = with_object i.name (Some Integer) true (next_frame place)

abbrev pub in_loop : Ident → Place → Place
in_loop i place = place_in (loop_region i place) place.regions
