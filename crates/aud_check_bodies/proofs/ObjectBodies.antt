-- The bodies of protected objects, whose parts are checked.
use denote.Ref.{Bor}
use Rattle.std.specs.Prelude.{ℕ, Bool, false, List, [], ◌∷◌, ◌++◌, map, Option, Some, None, is_some, if◌then◌else◌}
use Rattle.std.proofs.Common.{◌≡◌, refl, sym, ◌∙◌, ap, subst, append-nil}
use Rattle.std.proofs.lemmas.Option.{slice_get-get_or}
use Rattle.aud_text.specs.declared.place.Pos.{Pos}
use Rattle.aud_syntax.specs.declared.tree.Ident.{Ident}
use Rattle.aud_syntax.specs.declared.tree.OperationKind.{OperationKind}
use Rattle.aud_syntax.specs.declared.tree.OperationKind.TheVariants as kind
use Rattle.aud_syntax.specs.declared.tree.OperationBody.{OperationBody, out-OperationBody}
use Rattle.aud_syntax.specs.Plain as m
use Rattle.aud_syntax.specs.Ties.View.{plain_expression, plain_formal, plain_declarations, plain_body, made_operation_body, plain_operation_body, operation_body_list}
use Rattle.aud_syntax.proofs.Opened.{operation_body_open}
use Rattle.aud_typed.specs.Tree as tree
use Rattle.aud_typed.specs.Ties.View.{plain_statements as plain_typed_statements}
use Rattle.aud_fault.specs.declared.fault.Fault.{Fault}
use Rattle.aud_fault.specs.Least.{noted}
use Rattle.aud_names.specs.declared.awaited.AwaitedObject.{AwaitedObject}
use Rattle.aud_names.specs.declared.awaited.AwaitedPart.{AwaitedPart}
use Rattle.aud_names.specs.declared.names.Region.{Region}
use Rattle.aud_names.specs.declared.parts.ObjectPart.{ObjectPart}
use Rattle.aud_names.specs.declared.parts.PartKind.{PartKind}
use Rattle.aud_names.specs.Names.{Place, innermost, place_in}
use Rattle.aud_names.specs.declared.names.Access.{Access}
use Rattle.aud_names.specs.declared.names.Access.TheVariants.{Inside, InFunction}
use Rattle.aud_names.specs.Objects.{awaited_parts, object_place, first_with}
use Rattle.aud_names.proofs.Firsts.{Answers}
use Rattle.aud_names.specs.Rules.{right_name_at_end}
use Rattle.aud_names.specs.Ties.Regions.{plain_region, plain_regions, plain_place}
use Rattle.aud_check_bodies.specs.declared.declaration.DeclarativePart.{DeclarativePart}
use Rattle.aud_check_bodies.specs.Declarations.{Declared, nothing_declared}
use Rattle.aud_check_bodies.specs.Tables.{Tables, Outcome, fine, after, and_then, next_region, with_unit}
use Rattle.aud_check_bodies.specs.Objects.{without_part_bodies, object_awaited, object_behind, object_matched, body_object, object_tables}
use Rattle.aud_check_bodies.specs.Operations.{Head, of_entry, of_procedure, of_function, is_function_head, BodyPlaces, body_places, operation_place, shape_of, part_awaited, still_awaited, operation_unit, operation_tables, operation_faults}
use Rattle.aud_check_bodies.specs.Statements.{operation_around, end_name, checked_bodies, checked_operation, checked_declaration, entered_body, checked_operation_unit, checked_operation_of}
use Rattle.aud_check_bodies.specs.Ties.DeclarativePart.{Declares}
use Rattle.aud_check_bodies.specs.Ties.Objects.{plain_head, body_place, ChecksBodies}
use Rattle.aud_check_bodies.specs.declared.operation.ObjectBody.{ObjectBody}
use Rattle.aud_typing.proofs.Notes.{noted_append}
use Rattle.aud_check_bodies.proofs.Walked.{Is, is_fine, is_after, is_then}

-- a body by what it is of
pub operation_opened : (k : OperationKind) (at : Pos) (i : Ident) (fs : List m.Formal) (ds : m.Declarations) (b : m.Body) (o : BodyPlaces) (awaited : List AwaitedPart) (t : Tables)
    → checked_operation (made_operation_body k at i fs ds b) o awaited t ≡ checked_operation_of (plain_head k) at i fs ds b o awaited t
operation_opened (kind.Entry barrier) at i fs ds b o awaited t = refl
operation_opened kind.Procedure at i fs ds b o awaited t = refl
operation_opened (kind.Function mark) at i fs ds b o awaited t = refl

-- its declarations and statements, and the name after its end
pub operation_unit_left : (old stated new : Option Fault) (t u : Tables) (head : Head) (at : Pos) (i : Ident) (fs : List m.Formal) (ds : m.Declarations) (b : m.Body) (number : ℕ) (here place : Place) (x : tree.Body) (y : tree.UnitBody)
    → Is old stated u x (entered_body false ds b (operation_around head fs number here) place t)
    → new ≡ noted stated (right_name_at_end i.name (end_name b))
    → y ≡ record { level = (innermost place).level; region = next_region t; is_function = is_function_head head; at = at; body = x }
    → Is old new u y (checked_operation_unit head at i fs ds b number here place t)
operation_unit_left old stated new t u head at i fs ds b number here place x y h q f =
    let whole : Outcome tree.Body = entered_body false ds b (operation_around head fs number here) place t in
    let unit : tree.Body → tree.UnitBody = λ v. record { level = (innermost place).level; region = next_region t; is_function = is_function_head head; at = at; body = v } in
    let next : tree.Body → Tables → Outcome tree.UnitBody = λ v w. after (right_name_at_end i.name (end_name b)) (fine (unit v) w) in
    is_then old stated new u u x y whole next h (is_after stated new new u y (right_name_at_end i.name (end_name b)) (fine (unit x) u) q (is_fine new u y (unit x) f))

-- what is checked before them, and the operations that wait still
pub operation_left : (old headed new : Option Fault) (t entry u end : Tables) (head : Head) (at : Pos) (i : Ident) (fs : List m.Formal) (ds : m.Declarations) (b : m.Body) (o : BodyPlaces) (awaited still : List AwaitedPart) (inner : Place) (x : tree.UnitBody)
    → headed ≡ noted old (operation_faults head (part_awaited head i o awaited) i fs (operation_place head o) t)
    → inner ≡ place_in (shape_of head fs (operation_place head o)).region (operation_place head o).regions
    → entry ≡ operation_tables head (part_awaited head i o awaited) (shape_of head fs (operation_place head o)).region (operation_place head o) t
    → Is headed new u x (checked_operation_unit head at i fs ds b o.object (operation_place head o) inner entry)
    → still ≡ still_awaited (part_awaited head i o awaited) awaited
    → end ≡ with_unit (operation_unit (part_awaited head i o awaited) t) x u
    → ChecksBodies old new still end (checked_operation_of head at i fs ds b o awaited t)
operation_left old headed new t entry u end head at i fs ds b o awaited still inner x p e k h l g =
    let here : Place = operation_place head o in
    let found : Option PartKind = part_awaited head i o awaited in
    let region = (shape_of head fs here).region in
    let own : Place → Tables → Outcome tree.UnitBody = λ z w. checked_operation_unit head at i fs ds b o.object here z w in
    let whole : Outcome tree.UnitBody = own (place_in region here.regions) (operation_tables head found region here t) in
    let next : tree.UnitBody → Tables → Outcome (List AwaitedPart) = λ v w. fine (still_awaited found awaited) (with_unit (operation_unit found t) v w) in
    let checked : Is headed new u x whole = subst (λ z. Is headed new u x (own z (operation_tables head found region here t))) e (subst (λ w. Is headed new u x (own inner w)) k h) in
    let all : Is old new end still (checked_operation_of head at i fs ds b o awaited t) =
    is_after old headed new end still (operation_faults head found i fs here t) (and_then whole next) p (is_then headed new new u end x still whole next checked (refl, g, l)) in
    all

-- the same where the object's body has one place
abbrev pub at_place : ℕ → List ObjectPart → Place → BodyPlaces
at_place object parts here = record { object = object; parts = parts; inside = here; in_function = here }

pub operation_left_here : (old headed new : Option Fault) (t entry u end : Tables) (head : Head) (at : Pos) (i : Ident) (fs : List m.Formal) (ds : m.Declarations) (b : m.Body) (object : ℕ) (parts : List ObjectPart) (here : Place) (awaited still : List AwaitedPart) (inner : Place) (x : tree.UnitBody)
    → headed ≡ noted old (operation_faults head (part_awaited head i (at_place object parts here) awaited) i fs here t)
    → inner ≡ place_in (shape_of head fs here).region here.regions
    → entry ≡ operation_tables head (part_awaited head i (at_place object parts here) awaited) (shape_of head fs here).region here t
    → Is headed new u x (checked_operation_unit head at i fs ds b object here inner entry)
    → still ≡ still_awaited (part_awaited head i (at_place object parts here) awaited) awaited
    → end ≡ with_unit (operation_unit (part_awaited head i (at_place object parts here) awaited) t) x u
    → ChecksBodies old new still end (checked_operation_of head at i fs ds b (at_place object parts here) awaited t)
operation_left_here old headed new t entry u end (of_entry z) at i fs ds b object parts here awaited still inner x p e k h l g = operation_left old headed new t entry u end (of_entry z) at i fs ds b (at_place object parts here) awaited still inner x p e k h l g
operation_left_here old headed new t entry u end of_procedure at i fs ds b object parts here awaited still inner x p e k h l g = operation_left old headed new t entry u end of_procedure at i fs ds b (at_place object parts here) awaited still inner x p e k h l g
operation_left_here old headed new t entry u end (of_function z) at i fs ds b object parts here awaited still inner x p e k h l g = operation_left old headed new t entry u end (of_function z) at i fs ds b (at_place object parts here) awaited still inner x p e k h l g

-- of the two places of an object's body the one where this stands
pub one_of_both : (k : OperationKind) (at : Pos) (i : Ident) (fs : List m.Formal) (ds : m.Declarations) (b : m.Body) (object : ℕ) (parts : List ObjectPart) (here inside in_function : Place) (awaited : List AwaitedPart) (t : Tables)
    → operation_place (plain_head k) (record { object = object; parts = parts; inside = inside; in_function = in_function }) ≡ here
    → checked_operation (made_operation_body k at i fs ds b) (at_place object parts here) awaited t ≡ checked_operation (made_operation_body k at i fs ds b) (record { object = object; parts = parts; inside = inside; in_function = in_function }) awaited t
one_of_both (kind.Entry barrier) at i fs ds b object parts here inside in_function awaited t e = ap (λ z. checked_operation (m.entry_body at i fs (plain_expression barrier) ds b) (record { object = object; parts = parts; inside = z; in_function = here }) awaited t) (sym e)
one_of_both kind.Procedure at i fs ds b object parts here inside in_function awaited t e = ap (λ z. checked_operation (m.procedure_body at i fs ds b) (record { object = object; parts = parts; inside = z; in_function = here }) awaited t) (sym e)
one_of_both (kind.Function mark) at i fs ds b object parts here inside in_function awaited t e = ap (λ z. checked_operation (m.function_body at i fs mark ds b) (record { object = object; parts = parts; inside = here; in_function = z }) awaited t) (sym e)

-- which of both that is
pub place_by_test : (head : Head) (o : BodyPlaces) → operation_place head o ≡ if is_function_head head then o.in_function else o.inside
place_by_test (of_entry barrier) o = refl
place_by_test of_procedure o = refl
place_by_test (of_function mark) o = refl

pub stands_in_one : (x : OperationBody) (object : ℕ) (parts : List ObjectPart) (here inside in_function : Place) (awaited : List AwaitedPart) (t : Tables)
    → here ≡ if is_function_head (plain_head (out-OperationBody x).kind) then in_function else inside
    → checked_operation (plain_operation_body x) (at_place object parts here) awaited t ≡ checked_operation (plain_operation_body x) (record { object = object; parts = parts; inside = inside; in_function = in_function }) awaited t
stands_in_one x object parts here inside in_function awaited t e =
    let y = out-OperationBody x in
    let both : BodyPlaces = record { object = object; parts = parts; inside = inside; in_function = in_function } in
    ap (λ z. checked_operation z (at_place object parts here) awaited t) (operation_body_open x)
    ∙ one_of_both y.kind y.at y.name (map plain_formal y.formals.items) (plain_declarations y.declarations.items) (plain_body y.body) object parts here inside in_function awaited t (place_by_test (plain_head y.kind) both ∙ sym e)
    ∙ ap (λ z. checked_operation z both awaited t) (sym (operation_body_open x))

-- where the bodies of an object stand in memory
pub stands_in : (b : ObjectBody) (region : Region) (outer around : List (Bor Region)) (name : List ℕ) (object number : ℕ) (access : Access) (here : Place)
    → body_place b region outer ≡ object_place name object access (plain_place region outer)
    → plain_regions around ≡ plain_region b.around ∷ (plain_place region outer).regions
    → plain_place region outer ≡ here
    → object ≡ number
    → plain_place b.own around ≡ object_place name number access here
stands_in b region outer around name object number access here p q e n =
    ap (place_in (plain_region b.own)) q ∙ p ∙ ap (object_place name object access) e ∙ ap (λ k. object_place name k access here) n

-- the places of the bodies of an object that is declared at a place
pub places_are : (object number : ℕ) (parts : List ObjectPart) (inside in_function : Place) (name : List ℕ) (here : Place) → object ≡ number → parts ≡ (innermost here).parts → inside ≡ object_place name number Inside here → in_function ≡ object_place name number InFunction here
    → record { object = object; parts = parts; inside = inside; in_function = in_function } ≡ body_places name number here
places_are object number parts inside in_function name here o p i f =
    ap {B = BodyPlaces} (λ z. record { object = z; parts = parts; inside = inside; in_function = in_function }) o
    ∙ ap {B = BodyPlaces} (λ z. record { object = number; parts = z; inside = inside; in_function = in_function }) p
    ∙ ap {B = BodyPlaces} (λ z. record { object = number; parts = (innermost here).parts; inside = z; in_function = in_function }) i
    ∙ ap {B = BodyPlaces} (λ z. record { object = number; parts = (innermost here).parts; inside = object_place name number Inside here; in_function = z }) f

-- the bodies of an object
pub object_left : (old matched bodied missed new : Option Fault) (outer : List (Bor Region)) (first last : DeclarativePart) (t entry u : Tables) (at : Pos) (i : Ident) (bodies : m.OperationBodies) (end_name : Option Ident) (still : List AwaitedPart)
    → matched ≡ noted old (object_matched (object_awaited i (plain_place first.region outer)) i.at)
    → plain_place last.region outer ≡ object_behind i (plain_place first.region outer)
    → last.elaborations ≡ first.elaborations
    → entry ≡ object_tables (object_awaited i (plain_place first.region outer)) i t
    → ChecksBodies matched bodied still u (checked_bodies bodies (body_places i.name (body_object (object_awaited i (plain_place first.region outer)) t) (object_behind i (plain_place first.region outer)))
    (awaited_parts (body_object (object_awaited i (plain_place first.region outer)) t) (innermost (object_behind i (plain_place first.region outer))).parts) entry)
    → missed ≡ noted bodied (without_part_bodies still)
    → new ≡ noted missed (right_name_at_end i.name end_name)
    → Declares old new outer first last u (checked_declaration (m.protected_body at i bodies end_name) (plain_place first.region outer) t)
object_left old matched bodied missed new outer first last t entry u at i bodies end_name still p q l k h f g =
    let place : Place = plain_place first.region outer in
    let here : Place = object_behind i place in
    let found : Option AwaitedObject = object_awaited i place in
    let object : ℕ = body_object found t in
    let own : Tables → Outcome (List AwaitedPart) = λ w. checked_bodies bodies (body_places i.name object here) (awaited_parts object (innermost here).parts) w in
    let whole : Outcome (List AwaitedPart) = own (object_tables found i t) in
    let ends : List AwaitedPart → List Fault = λ s. without_part_bodies s ++ right_name_at_end i.name end_name in
    let next : List AwaitedPart → Tables → Outcome Declared = λ s w. after (ends s) (fine (nothing_declared here) w) in
    let checked : Is matched bodied u still whole = subst (λ w. Is matched bodied u still (own w)) k h in
    let ended : new ≡ noted bodied (ends still) = g ∙ ap (λ z. noted z (right_name_at_end i.name end_name)) f ∙ sym (noted_append bodied (without_part_bodies still) (right_name_at_end i.name end_name)) in
    let rest : Is bodied new u (nothing_declared here) (next still u) = is_after bodied new new u (nothing_declared here) (ends still) (fine (nothing_declared here) u) ended (is_fine new u (nothing_declared here) (nothing_declared here) refl) in
    let all : Is old new u (nothing_declared here) (checked_declaration (m.protected_body at i bodies end_name) place t) =
    is_after old matched new u (nothing_declared here) (object_matched found i.at) (and_then whole next) p (is_then matched bodied new u u still (nothing_declared here) whole next checked rest) in
    (all.0, q, ap (λ z. plain_typed_statements z.items) l ∙ sym (append-nil _), all.1)

-- Bodies that are still to be checked.

pub record BodiesAhead (now : Option Fault) (rest : Outcome (List AwaitedPart)) (old : Option Fault) (all : Outcome (List AwaitedPart)) : Type 0 where
  pub faults : noted now rest.faults ≡ noted old all.faults
  pub tables : rest.tables ≡ all.tables
  pub made : rest.made ≡ all.made

pub all_ahead : (old : Option Fault) (all : Outcome (List AwaitedPart)) → BodiesAhead old all old all
all_ahead old all = record { faults = refl; tables = refl; made = refl }

-- one more is checked
pub one_body : (o : BodyPlaces) (old mid new : Option Fault) (t u : Tables) (awaited still : List AwaitedPart) (x : OperationBody) (xs ys : List OperationBody) (all : Outcome (List AwaitedPart))
    → xs ≡ x ∷ ys
    → BodiesAhead mid (checked_bodies (operation_body_list xs) o awaited t) old all
    → ChecksBodies mid new still u (checked_operation (plain_operation_body x) o awaited t)
    → BodiesAhead new (checked_bodies (operation_body_list ys) o still u) old all
one_body o old mid new t u awaited still x xs ys all p a h =
    let one : Outcome (List AwaitedPart) = checked_operation (plain_operation_body x) o awaited t in
    let rest : List AwaitedPart → Tables → Outcome (List AwaitedPart) = λ s w. checked_bodies (operation_body_list ys) o s w in
    let same : rest still u ≡ rest one.made one.tables = ap (λ s. rest s u) h.2 ∙ ap (rest one.made) h.1 in
    let before : checked_bodies (operation_body_list xs) o awaited t ≡ and_then one rest = ap (λ l. checked_bodies (operation_body_list l) o awaited t) p in
    record {
      faults = ap (λ (r : Outcome (List AwaitedPart)). noted new r.faults) same ∙ ap (λ z. noted z (rest one.made one.tables).faults) h.0 ∙ sym (noted_append mid one.faults (rest one.made one.tables).faults) ∙ sym (ap (λ (r : Outcome (List AwaitedPart)). noted mid r.faults) before) ∙ a.faults;
      tables = ap (λ (r : Outcome (List AwaitedPart)). r.tables) same ∙ sym (ap (λ (r : Outcome (List AwaitedPart)). r.tables) before) ∙ a.tables;
      made = ap (λ (r : Outcome (List AwaitedPart)). r.made) same ∙ sym (ap (λ (r : Outcome (List AwaitedPart)). r.made) before) ∙ a.made;
    }

-- all are checked
pub all_bodies : (o : BodyPlaces) (old now : Option Fault) (t : Tables) (awaited : List AwaitedPart) (xs : List OperationBody) (all : Outcome (List AwaitedPart))
    → xs ≡ []
    → BodiesAhead now (checked_bodies (operation_body_list xs) o awaited t) old all
    → ChecksBodies old now awaited t all
all_bodies o old now t awaited xs all p a =
    let end : checked_bodies (operation_body_list xs) o awaited t ≡ fine awaited t = ap (λ l. checked_bodies (operation_body_list l) o awaited t) p in
    (sym (ap (λ (r : Outcome (List AwaitedPart)). noted now r.faults) end) ∙ a.faults, sym (ap (λ (r : Outcome (List AwaitedPart)). r.tables) end) ∙ a.tables, sym (ap (λ (r : Outcome (List AwaitedPart)). r.made) end) ∙ a.made)

-- one that passes a test waits, where it has a number
pub found_waits : (test : AwaitedPart → Bool) (xs : List AwaitedPart) (found : Option ℕ) → Answers test xs found → is_some found ≡ is_some (first_with test xs)
found_waits test xs None h = sym (ap is_some h.1)
found_waits test xs (Some i) h = sym (ap is_some h.2 ∙ ap is_some (slice_get-get_or xs i (record { unit = 0; at = record { line = 0; col = 0 } }) h.0))
