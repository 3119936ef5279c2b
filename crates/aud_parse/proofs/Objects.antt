-- The items of protected objects and their bodies that are built from their phrases.
use Rattle.std.proofs.Common.{◌≡◌, List, [], ◌∷◌, map, refl, sym, ap, ◌∙◌}
use Rattle.std.specs.Prelude.{Option, Some, None, Vec, Box}
use Rattle.std.specs.Global.{Global}
use Rattle.aud_text.specs.declared.place.Pos.{Pos}
use Rattle.aud_syntax.specs.declared.tree.Ident.{Ident}
use Rattle.aud_syntax.specs.declared.tree.Identifiers.{Identifiers}
use Rattle.aud_syntax.specs.declared.tree.Expression.{Expression}
use Rattle.aud_syntax.specs.declared.tree.Formal.{Formal}
use Rattle.aud_syntax.specs.declared.tree.Operation.{Operation}
use Rattle.aud_syntax.specs.declared.tree.Operation.TheVariants as operation
use Rattle.aud_syntax.specs.declared.tree.PrivateItem.{PrivateItem}
use Rattle.aud_syntax.specs.declared.tree.PrivateItem.TheVariants as item
use Rattle.aud_syntax.specs.declared.tree.OperationBody.{OperationBody}
use Rattle.aud_syntax.specs.declared.tree.OperationKind.TheVariants as operation_kind
use Rattle.aud_syntax.specs.declared.tree.Body.{Body}
use Rattle.aud_syntax.specs.declared.tree.Declaration.{Declaration}
use Rattle.aud_syntax.specs.declared.tree.Declaration.TheVariants as declaration
use Rattle.aud_syntax.specs.Plain as m
use Rattle.aud_syntax.specs.Ties.View.{plain_expression, plain_formal, plain_operation, plain_private_item, plain_private, plain_operation_body, made_operation_body, operation_body_list, plain_declaration, plain_declarations, plain_body}
use Rattle.aud_grammar.specs.Grammar as g
use Rattle.aud_grammar.specs.Actions.{Item, made, place, an_ident, an_operation, a_private_item, some_private, a_protected, an_operation_body, a_declaration, the_operations, the_private_items, opt_private, opt_ident, the_operation_bodies, the_declarations, the_body, top, pop}
use Rattle.aud_cursor.specs.Ties.Items.{list_item, opt_item, boxed_item}
use Rattle.aud_parse_expr.specs.Ties.Items.{expression_item}
use Rattle.aud_parse.specs.Ties.Items.{names_item, formal_item, operation_item, private_item, hidden_item, protected_item, operation_body_item, boxed_operation_body_item, declaration_item, boxed_declaration_item, boxed_body_item}
use Rattle.aud_parse.specs.Ties.Heads.{operation_made}
use Rattle.aud_parse.specs.declared.operation_head.OperationHead.{OperationHead}
use Rattle.aud_parse.proofs.Rolls.{opt_ident_is, opt_expression_is, declarations_items, formals_are}

-- operations

pub procedure_operation_items : (i : Ident) (v : Vec Formal Global) (ds : List Item) → made g.ProcedureOperation (an_ident i ∷ list_item formal_item v.items ∷ ds) ≡ operation_item (operation.Procedure i v) ∷ ds
procedure_operation_items i v ds = ap (λ z. an_operation (m.procedure_operation i z) ∷ ds) (formals_are v.items)

pub function_operation_items : (i : Ident) (v : Vec Formal Global) (subtype : Ident) (ds : List Item) → made g.FunctionOperation (an_ident i ∷ list_item formal_item v.items ∷ an_ident subtype ∷ ds) ≡ operation_item (operation.Function i v subtype) ∷ ds
function_operation_items i v subtype ds = ap (λ z. an_operation (m.function_operation i z subtype) ∷ ds) (formals_are v.items)

operations_are : (xs : List Operation) → the_operations (list_item operation_item xs) ≡ map plain_operation xs
operations_are [] = refl
operations_are (x ∷ xs) = ap (λ z. plain_operation x ∷ z) (operations_are xs)

-- what stands behind `private`

pub components_items : (x : Identifiers) (i : Ident) (e : Option Expression) (ds : List Item) → made g.Components (names_item x ∷ an_ident i ∷ opt_item expression_item e ∷ ds) ≡ private_item (item.Components x i e) ∷ ds
components_items x i e ds = ap (λ z. a_private_item (m.components x.first x.others.items i z) ∷ ds) (opt_expression_is e)

private_items_are : (xs : List PrivateItem) → the_private_items (list_item private_item xs) ≡ map plain_private_item xs
private_items_are [] = refl
private_items_are (x ∷ xs) = ap (λ z. plain_private_item x ∷ z) (private_items_are xs)

pub private_part_items : (v : Vec PrivateItem Global) (ds : List Item) → made g.PrivatePart (list_item private_item v.items ∷ ds) ≡ hidden_item v ∷ ds
private_part_items v ds = ap (λ z. some_private z ∷ ds) (private_items_are v.items)

private_is : (x : Option (Vec PrivateItem Global)) → opt_private (opt_item hidden_item x) ≡ plain_private x
private_is None = refl
private_is (Some v) = refl

-- protected objects

object_items : (x : ((Ident × Vec Operation Global) × Option (Vec PrivateItem Global)) × Option Ident) (ds : List Item) →
    made g.ProtectedDeclaration (an_ident x.0.0.0 ∷ list_item operation_item x.0.0.1.items ∷ opt_item hidden_item x.0.1 ∷ opt_item an_ident x.1 ∷ ds) ≡ protected_item x ∷ ds
object_items x ds =
    ap (λ z. a_protected x.0.0.0 z (opt_private (opt_item hidden_item x.0.1)) (opt_ident (opt_item an_ident x.1)) ∷ ds) (operations_are x.0.0.1.items)
    ∙ ap (λ z. a_protected x.0.0.0 (map plain_operation x.0.0.1.items) z (opt_ident (opt_item an_ident x.1)) ∷ ds) (private_is x.0.1)
    ∙ ap (λ z. a_protected x.0.0.0 (map plain_operation x.0.0.1.items) (plain_private x.0.1) z ∷ ds) (opt_ident_is x.1)

-- the same of parts that were handed on while more was read
pub protected_items : (x : ((Ident × Vec Operation Global) × Option (Vec PrivateItem Global)) × Option Ident) (i : Ident) (p : Ident × Vec Operation Global) (q : (Ident × Vec Operation Global) × Option (Vec PrivateItem Global)) (ds : List Item) →
    p.0 ≡ i → q.0 ≡ p → x.0 ≡ q → made g.ProtectedDeclaration (an_ident i ∷ list_item operation_item p.1.items ∷ opt_item hidden_item q.1 ∷ opt_item an_ident x.1 ∷ ds) ≡ protected_item x ∷ ds
protected_items x i p q ds a b c =
    ap (λ z. made g.ProtectedDeclaration (an_ident z ∷ list_item operation_item p.1.items ∷ opt_item hidden_item q.1 ∷ opt_item an_ident x.1 ∷ ds)) (sym a)
    ∙ ap (λ (z : Ident × Vec Operation Global). made g.ProtectedDeclaration (an_ident z.0 ∷ list_item operation_item z.1.items ∷ opt_item hidden_item q.1 ∷ opt_item an_ident x.1 ∷ ds)) (sym b)
    ∙ ap (λ (z : (Ident × Vec Operation Global) × Option (Vec PrivateItem Global)). made g.ProtectedDeclaration (an_ident z.0.0 ∷ list_item operation_item z.0.1.items ∷ opt_item hidden_item z.1 ∷ opt_item an_ident x.1 ∷ ds)) (sym c)
    ∙ object_items x ds

pub declared_object_items : (b : Box Declaration Global) (begin : Item) (at : Pos) (i : Ident) (v : Vec Operation Global) (hidden : Option (Vec PrivateItem Global)) (last : Option Ident) (ds : List Item) →
    b.value ≡ declaration.Protected (record { at = at; name = i; operations = v; private_items = hidden; end_name = last }) → at ≡ place begin → made g.Protected (begin ∷ protected_item (((i, v), hidden), last) ∷ ds) ≡ boxed_declaration_item b ∷ ds
declared_object_items b begin at i v hidden last ds h e = ap (λ z. a_declaration (m.protected z i (map plain_operation v.items) (plain_private hidden) last) ∷ ds) (sym e) ∙ ap (λ z. declaration_item z ∷ ds) (sym h)

-- the heads of operations' bodies

pub entry_head_items : (b : Box OperationHead Global) (begin : Item) (at : Pos) (p : Ident × Vec Formal Global) (barrier : Box Expression Global) (e : Expression) (ds : List Item) →
    b.value ≡ record { kind = operation_kind.Entry e; at = at; name = p.0; formals = p.1 } → at ≡ place begin → e ≡ barrier.value →
    made g.EntryBody (begin ∷ an_ident p.0 ∷ list_item formal_item p.1.items ∷ boxed_item expression_item barrier ∷ ds) ≡ operation_made b.value ds
entry_head_items b begin at p barrier e ds h i j =
    ap (λ z. an_operation_body (m.entry_body (place begin) p.0 z (plain_expression barrier.value) (the_declarations (top ds)) (the_body (top (pop ds)))) ∷ pop (pop ds)) (formals_are p.1.items)
    ∙ ap (λ z. an_operation_body (m.entry_body z p.0 (map plain_formal p.1.items) (plain_expression barrier.value) (the_declarations (top ds)) (the_body (top (pop ds)))) ∷ pop (pop ds)) (sym i)
    ∙ ap (λ z. an_operation_body (m.entry_body at p.0 (map plain_formal p.1.items) (plain_expression z) (the_declarations (top ds)) (the_body (top (pop ds)))) ∷ pop (pop ds)) (sym j)
    ∙ ap (λ (z : OperationHead). operation_made z ds) (sym h)

pub procedure_head_items : (b : Box OperationHead Global) (begin : Item) (at : Pos) (p : Ident × Vec Formal Global) (ds : List Item) →
    b.value ≡ record { kind = operation_kind.Procedure; at = at; name = p.0; formals = p.1 } → at ≡ place begin → made g.ProcedureBody (begin ∷ an_ident p.0 ∷ list_item formal_item p.1.items ∷ ds) ≡ operation_made b.value ds
procedure_head_items b begin at p ds h i =
    ap (λ z. an_operation_body (m.procedure_body (place begin) p.0 z (the_declarations (top ds)) (the_body (top (pop ds)))) ∷ pop (pop ds)) (formals_are p.1.items)
    ∙ ap (λ z. an_operation_body (m.procedure_body z p.0 (map plain_formal p.1.items) (the_declarations (top ds)) (the_body (top (pop ds)))) ∷ pop (pop ds)) (sym i)
    ∙ ap (λ (z : OperationHead). operation_made z ds) (sym h)

pub function_head_items : (b : Box OperationHead Global) (begin : Item) (at : Pos) (p : Ident × Vec Formal Global) (subtype : Ident) (ds : List Item) →
    b.value ≡ record { kind = operation_kind.Function subtype; at = at; name = p.0; formals = p.1 } → at ≡ place begin → made g.FunctionBody (begin ∷ an_ident p.0 ∷ list_item formal_item p.1.items ∷ an_ident subtype ∷ ds) ≡ operation_made b.value ds
function_head_items b begin at p subtype ds h i =
    ap (λ z. an_operation_body (m.function_body (place begin) p.0 z subtype (the_declarations (top ds)) (the_body (top (pop ds)))) ∷ pop (pop ds)) (formals_are p.1.items)
    ∙ ap (λ z. an_operation_body (m.function_body z p.0 (map plain_formal p.1.items) subtype (the_declarations (top ds)) (the_body (top (pop ds)))) ∷ pop (pop ds)) (sym i)
    ∙ ap (λ (z : OperationHead). operation_made z ds) (sym h)

-- bodies

pub operation_body_items : (b : Box OperationBody Global) (h : Box OperationHead Global) (v : Vec Declaration Global) (x : Box Body Global) (ds : List Item) →
    plain_operation_body b.value ≡ made_operation_body h.value.kind h.value.at h.value.name (map plain_formal h.value.formals.items) (plain_declarations v.items) (plain_body x.value) →
    operation_made h.value (list_item declaration_item v.items ∷ boxed_body_item x ∷ ds) ≡ boxed_operation_body_item b ∷ ds
operation_body_items b h v x ds e =
    ap (λ z. an_operation_body (made_operation_body h.value.kind h.value.at h.value.name (map plain_formal h.value.formals.items) z (plain_body x.value)) ∷ ds) (declarations_items v.items)
    ∙ ap (λ z. an_operation_body z ∷ ds) (sym e)

bodies_are : (xs : List OperationBody) → the_operation_bodies (list_item operation_body_item xs) ≡ operation_body_list xs
bodies_are [] = refl
bodies_are (x ∷ xs) = ap (λ z. m.more_bodies (plain_operation_body x) z) (bodies_are xs)

pub protected_body_items : (b : Box Declaration Global) (begin : Item) (i : Ident) (v : Vec OperationBody Global) (last : Option Ident) (ds : List Item) → plain_declaration b.value ≡ m.protected_body (place begin) i (operation_body_list v.items) last →
    made g.Protected (begin ∷ made g.ProtectedBody (an_ident i ∷ list_item operation_body_item v.items ∷ opt_item an_ident last ∷ ds)) ≡ boxed_declaration_item b ∷ ds
protected_body_items b begin i v last ds h =
    ap (λ z. a_declaration (m.protected_body (place begin) i z (opt_ident (opt_item an_ident last))) ∷ ds) (bodies_are v.items)
    ∙ ap (λ z. a_declaration (m.protected_body (place begin) i (operation_body_list v.items) z) ∷ ds) (opt_ident_is last)
    ∙ ap (λ z. a_declaration z ∷ ds) (sym h)
