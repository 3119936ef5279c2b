-- Places do not matter: tokens that are alike are read alike.
use Rattle.std.proofs.Common.{◌≡◌, List, [], ◌∷◌, map, refl, ap, ◌∙◌, Bool, true, false}
use Rattle.std.specs.Prelude.{Option, None}
use Rattle.aud_text.specs.declared.place.Pos.{Pos}
use Rattle.aud_lex.specs.declared.token.Kind.TheVariants as kind
use Rattle.aud_lex.specs.Element.{Element}
use Rattle.aud_syntax.specs.declared.tree.Ident.{Ident}
use Rattle.aud_syntax.specs.declared.tree.Number.{Number}
use Rattle.aud_syntax.specs.declared.tree.Sign.TheVariants as sign
use Rattle.aud_syntax.specs.declared.tree.Highest.TheVariants as highest
use Rattle.aud_syntax.specs.declared.tree.Mode.{Mode}
use Rattle.aud_syntax.specs.declared.tree.Mode.TheVariants as mode
use Rattle.aud_syntax.specs.declared.tree.Connective.{Connective}
use Rattle.aud_syntax.specs.declared.tree.Connective.TheVariants as connective
use Rattle.aud_syntax.specs.Plain as m
use Rattle.aud_syntax.specs.Why.Bare.{nowhere, bare_ident, bare_number, bare_literal, bare_signed, bare_operator, bare_sign, bare_highest, bare_end, bare_expression, bare_relation, bare_relations, bare_name, bare_part, bare_parts, bare_args, bare_simple, bare_addeds, bare_added, bare_term, bare_multiplieds, bare_multiplied, bare_factor, bare_primary, bare_maybe, bare_mode, bare_formal, bare_task_definition, bare_definition, bare_declaration, bare_declarations, bare_statement, bare_more_statements, bare_statements, bare_body, bare_context, bare, bare_arms, bare_iteration, bare_bound, bare_choices, bare_handlers, bare_real, bare_entry, bare_operation, bare_private_item, bare_private, bare_delay, bare_names, bare_operation_body, bare_operation_bodies, bare_accept, bare_doing, bare_alternative, bare_alternatives, bare_other}
use Rattle.aud_grammar.specs.Grammar as g
use Rattle.aud_grammar.specs.Grammar.{Phrase}
use Rattle.aud_grammar.specs.Actions as a
use Rattle.aud_grammar.specs.Actions.{Item, token, none, cons, top, pop, listed, made}

abbrev no_token : Element
no_token = record { kind = kind.Box; text = []; at = nowhere }

-- an item with one place in all positions
abbrev pub bare_item : Item → Item
bare_item (token t) = token no_token
bare_item none = none
bare_item (cons x y) = cons (bare_item x) (bare_item y)
bare_item (a.an_ident x) = a.an_ident (bare_ident x)
bare_item (a.a_number x) = a.a_number (bare_number x)
bare_item (a.a_literal x) = a.a_literal (bare_literal x)
bare_item (a.a_sign x) = a.a_sign (bare_signed x)
bare_item (a.an_adding x) = a.an_adding x
bare_item (a.a_multiplying x) = a.a_multiplying x
bare_item (a.an_operator x) = a.an_operator (bare_operator x)
bare_item (a.in_parens at x) = a.in_parens nowhere (bare_expression x)
bare_item (a.an_attribute x e) = a.an_attribute (bare_ident x) (bare_maybe e)
bare_item (a.some_args x) = a.some_args (bare_args x)
bare_item (a.a_part x) = a.a_part (bare_part x)
bare_item (a.a_name x) = a.a_name (bare_name x)
bare_item (a.a_primary x) = a.a_primary (bare_primary x)
bare_item (a.a_factor x) = a.a_factor (bare_factor x)
bare_item (a.a_multiplied x) = a.a_multiplied (bare_multiplied x)
bare_item (a.a_term x) = a.a_term (bare_term x)
bare_item (a.an_added x) = a.an_added (bare_added x)
bare_item (a.a_simple x) = a.a_simple (bare_simple x)
bare_item (a.a_relational x) = a.a_relational x
bare_item (a.a_compared operator x) = a.a_compared operator (bare_simple x)
bare_item (a.a_relation x) = a.a_relation (bare_relation x)
bare_item (a.a_chain operator x xs) = a.a_chain operator (bare_relation x) (bare_relations xs)
bare_item (a.an_expression x) = a.an_expression (bare_expression x)
bare_item (a.assigned x) = a.assigned (bare_expression x)
bare_item a.called = a.called
bare_item (a.assigns xs ps e) = a.assigns (bare_args xs) (bare_parts ps) (bare_expression e)
bare_item (a.calls xs ps) = a.calls (bare_args xs) (bare_parts ps)
bare_item (a.a_statement x) = a.a_statement (bare_statement x)
bare_item (a.some_statements x) = a.some_statements (bare_statements x)
bare_item (a.an_arm at e x) = a.an_arm nowhere (bare_expression e) (bare_statements x)
bare_item (a.an_iteration at x) = a.an_iteration nowhere (bare_iteration x)
bare_item a.there = a.there
bare_item (a.a_declare at x) = a.a_declare nowhere (bare_declarations x)
bare_item (a.some_choices x) = a.some_choices (bare_choices x)
bare_item (a.a_handler c x) = a.a_handler (bare_choices c) (bare_statements x)
bare_item (a.a_body x) = a.a_body (bare_body x)
bare_item (a.some_names x xs) = a.some_names (bare_ident x) (map bare_ident xs)
bare_item (a.a_variable x e) = a.a_variable (bare_ident x) (bare_maybe e)
bare_item (a.a_constant x e) = a.a_constant (bare_ident x) (bare_expression e)
bare_item (a.a_bound x) = a.a_bound (bare_bound x)
bare_item (a.an_index x y) = a.an_index (bare_bound x) (bare_bound y)
bare_item (a.an_array x y i) = a.an_array (bare_bound x) (bare_bound y) (bare_ident i)
bare_item a.an_exception = a.an_exception
bare_item (a.a_mode x) = a.a_mode (bare_mode x)
bare_item (a.a_formal x) = a.a_formal (bare_formal x)
bare_item (a.a_definition x) = a.a_definition (bare_task_definition x)
bare_item (a.a_task is_type x definition) = a.a_task is_type (bare_ident x) (bare_definition definition)
bare_item (a.a_task_body x ds rest) = a.a_task_body (bare_ident x) (bare_declarations ds) (bare_body rest)
bare_item (a.a_declaration x) = a.a_declaration (bare_declaration x)
bare_item (a.a_context x) = a.a_context (bare_context x)
bare_item (a.a_unit x) = a.a_unit (bare x)
bare_item (a.a_real x) = a.a_real (bare_real x)
bare_item (a.seconds x) = a.seconds (bare_real x)
bare_item (a.duration_of at e) = a.duration_of nowhere (bare_expression e)
bare_item (a.a_delay x) = a.a_delay (bare_delay x)
bare_item (a.an_entry x) = a.an_entry (bare_entry x)
bare_item (a.a_doing x) = a.a_doing (bare_doing x)
bare_item (a.an_accept x) = a.an_accept (bare_accept x)
bare_item (a.an_alternative x) = a.an_alternative (bare_alternative x)
bare_item (a.guarded e x) = a.guarded (bare_maybe e) (bare_alternative x)
bare_item (a.unguarded x xs statements) = a.unguarded (bare_alternative x) (bare_alternatives xs) (bare_more_statements statements)
bare_item (a.further xs statements) = a.further (bare_alternatives xs) (bare_more_statements statements)
bare_item (a.selects e x xs statements) = a.selects (bare_maybe e) (bare_alternative x) (bare_alternatives xs) (bare_more_statements statements)
bare_item (a.selects_call x behind other) = a.selects_call (bare_name x) (bare_more_statements behind) (bare_other other)
bare_item (a.an_otherwise x) = a.an_otherwise (bare_other x)
bare_item (a.an_operation x) = a.an_operation (bare_operation x)
bare_item (a.a_private_item x) = a.a_private_item (bare_private_item x)
bare_item (a.some_private xs) = a.some_private (map bare_private_item xs)
bare_item (a.a_protected i operations hidden end) = a.a_protected (bare_ident i) (map bare_operation operations) (bare_private hidden) (bare_end end)
bare_item (a.a_protected_body i bodies end) = a.a_protected_body (bare_ident i) (bare_operation_bodies bodies) (bare_end end)
bare_item (a.an_operation_body x) = a.an_operation_body (bare_operation_body x)

abbrev pub bares : List Item → List Item
bares [] = []
bares (x ∷ xs) = bare_item x ∷ bares xs

-- the views of an item
bare_place : (x : Item) → a.place (bare_item x) ≡ nowhere
bare_place (token t) = refl
bare_place _ = refl

bare_opening : (x : Item) → a.opening (bare_item x) ≡ nowhere
bare_opening (a.in_parens at e) = refl
bare_opening _ = refl

bare_the_ident : (x : Item) → a.the_ident (bare_item x) ≡ bare_ident (a.the_ident x)
bare_the_ident (a.an_ident y) = refl
bare_the_ident _ = refl

bare_is_there : (x : Item) → a.is_there (bare_item x) ≡ a.is_there x
bare_is_there a.there = refl
bare_is_there _ = refl

bare_the_bound : (x : Item) → a.the_bound (bare_item x) ≡ bare_bound (a.the_bound x)
bare_the_bound (a.a_bound y) = refl
bare_the_bound _ = refl

bare_low : (x : Item) → a.low (bare_item x) ≡ bare_bound (a.low x)
bare_low (a.an_index y z) = refl
bare_low _ = refl

bare_high : (x : Item) → a.high (bare_item x) ≡ bare_bound (a.high x)
bare_high (a.an_index y z) = refl
bare_high _ = refl

bare_opt_ident : (x : Item) → a.opt_ident (bare_item x) ≡ bare_end (a.opt_ident x)
bare_opt_ident (a.an_ident y) = refl
bare_opt_ident _ = refl

bare_opt_sign : (x : Item) → a.opt_sign (bare_item x) ≡ bare_sign (a.opt_sign x)
bare_opt_sign (a.a_sign y) = refl
bare_opt_sign _ = refl

bare_the_adding : (x : Item) → a.the_adding (bare_item x) ≡ a.the_adding x
bare_the_adding (a.an_adding y) = refl
bare_the_adding _ = refl

bare_the_multiplying : (x : Item) → a.the_multiplying (bare_item x) ≡ a.the_multiplying x
bare_the_multiplying (a.a_multiplying y) = refl
bare_the_multiplying _ = refl

bare_opt_operator : (x : Item) → a.opt_operator (bare_item x) ≡ bare_highest (a.opt_operator x)
bare_opt_operator (a.an_operator y) = refl
bare_opt_operator _ = refl

bare_the_number : (x : Item) → a.the_number (bare_item x) ≡ bare_number (a.the_number x)
bare_the_number (a.a_number y) = refl
bare_the_number _ = refl

bare_the_literal : (x : Item) → a.the_literal (bare_item x) ≡ bare_literal (a.the_literal x)
bare_the_literal (a.a_literal y) = refl
bare_the_literal _ = refl

bare_inside : (x : Item) → a.inside (bare_item x) ≡ bare_expression (a.inside x)
bare_inside (a.in_parens at e) = refl
bare_inside _ = refl

bare_opt_inside : (x : Item) → a.opt_inside (bare_item x) ≡ bare_maybe (a.opt_inside x)
bare_opt_inside (a.in_parens at e) = refl
bare_opt_inside _ = refl

bare_the_primary : (x : Item) → a.the_primary (bare_item x) ≡ bare_primary (a.the_primary x)
bare_the_primary (a.a_primary y) = refl
bare_the_primary _ = refl

bare_the_factor : (x : Item) → a.the_factor (bare_item x) ≡ bare_factor (a.the_factor x)
bare_the_factor (a.a_factor y) = refl
bare_the_factor _ = refl

bare_the_multiplied : (x : Item) → a.the_multiplied (bare_item x) ≡ bare_multiplied (a.the_multiplied x)
bare_the_multiplied (a.a_multiplied y) = refl
bare_the_multiplied _ = refl

bare_the_term : (x : Item) → a.the_term (bare_item x) ≡ bare_term (a.the_term x)
bare_the_term (a.a_term y) = refl
bare_the_term _ = refl

bare_the_added : (x : Item) → a.the_added (bare_item x) ≡ bare_added (a.the_added x)
bare_the_added (a.an_added y) = refl
bare_the_added _ = refl

bare_the_simple : (x : Item) → a.the_simple (bare_item x) ≡ bare_simple (a.the_simple x)
bare_the_simple (a.a_simple y) = refl
bare_the_simple _ = refl

bare_the_relational : (x : Item) → a.the_relational (bare_item x) ≡ a.the_relational x
bare_the_relational (a.a_relational y) = refl
bare_the_relational _ = refl

bare_the_relation : (x : Item) → a.the_relation (bare_item x) ≡ bare_relation (a.the_relation x)
bare_the_relation (a.a_relation y) = refl
bare_the_relation _ = refl

bare_the_expression : (x : Item) → a.the_expression (bare_item x) ≡ bare_expression (a.the_expression x)
bare_the_expression (a.an_expression y) = refl
bare_the_expression _ = refl

bare_the_args : (x : Item) → a.the_args (bare_item x) ≡ bare_args (a.the_args x)
bare_the_args (a.some_args y) = refl
bare_the_args _ = refl

bare_the_part : (x : Item) → a.the_part (bare_item x) ≡ bare_part (a.the_part x)
bare_the_part (a.a_part y) = refl
bare_the_part _ = refl

bare_the_parts : (x : Item) → a.the_parts (bare_item x) ≡ bare_parts (a.the_parts x)
bare_the_parts (cons x y) = cc (bare_the_part x, bare_the_parts y)
bare_the_parts _ = refl

bare_expression_args : (x : Item) → a.expression_args (bare_item x) ≡ bare_args (a.expression_args x)
bare_expression_args (cons x y) = cc (bare_the_expression x, bare_expression_args y)
bare_expression_args _ = refl

bare_the_name : (x : Item) → a.the_name (bare_item x) ≡ bare_name (a.the_name x)
bare_the_name (a.a_name y) = refl
bare_the_name _ = refl

bare_opt_expression : (x : Item) → a.opt_expression (bare_item x) ≡ bare_maybe (a.opt_expression x)
bare_opt_expression (a.an_expression y) = refl
bare_opt_expression _ = refl

bare_the_statement : (x : Item) → a.the_statement (bare_item x) ≡ bare_statement (a.the_statement x)
bare_the_statement (a.a_statement y) = refl
bare_the_statement _ = refl

bare_the_declaration : (x : Item) → a.the_declaration (bare_item x) ≡ bare_declaration (a.the_declaration x)
bare_the_declaration (a.a_declaration y) = refl
bare_the_declaration _ = refl

bare_the_mode : (x : Item) → a.the_mode (bare_item x) ≡ bare_mode (a.the_mode x)
bare_the_mode (a.a_mode y) = refl
bare_the_mode _ = refl

bare_in : (at : Pos) (out : Bool) → a.in_mode nowhere out ≡ bare_mode (a.in_mode at out)
bare_in at true = refl
bare_in at false = refl

bare_in_mode : (x y : Item) → a.in_mode (a.place (bare_item x)) (a.is_there (bare_item y)) ≡ bare_mode (a.in_mode (a.place x) (a.is_there y))
bare_in_mode x y = ap (λ z. a.in_mode z (a.is_there (bare_item y))) (bare_place x) ∙ ap (λ z. a.in_mode nowhere z) (bare_is_there y) ∙ bare_in (a.place x) (a.is_there y)

bare_the_formal : (x : Item) → a.the_formal (bare_item x) ≡ bare_formal (a.the_formal x)
bare_the_formal (a.a_formal y) = refl
bare_the_formal _ = refl

bare_the_formals : (x : Item) → a.the_formals (bare_item x) ≡ map bare_formal (a.the_formals x)
bare_the_formals (cons x y) = cc (bare_the_formal x, bare_the_formals y)
bare_the_formals _ = refl

bare_opt_definition : (x : Item) → a.opt_definition (bare_item x) ≡ bare_definition (a.opt_definition x)
bare_opt_definition (a.a_definition y) = refl
bare_opt_definition _ = refl

bare_the_choices : (x : Item) → a.the_choices (bare_item x) ≡ bare_choices (a.the_choices x)
bare_the_choices (a.some_choices y) = refl
bare_the_choices _ = refl

bare_with_handler : (x : Item) (xs : m.Handlers) → a.with_handler (bare_item x) (bare_handlers xs) ≡ bare_handlers (a.with_handler x xs)
bare_with_handler (a.a_handler c y) xs = refl
bare_with_handler _ xs = refl

bare_the_handlers : (x : Item) → a.the_handlers (bare_item x) ≡ bare_handlers (a.the_handlers x)
bare_the_handlers (cons x y) = ap (λ z. a.with_handler (bare_item x) z) (bare_the_handlers y) ∙ bare_with_handler x (a.the_handlers y)
bare_the_handlers _ = refl

bare_the_body : (x : Item) → a.the_body (bare_item x) ≡ bare_body (a.the_body x)
bare_the_body (a.a_body y) = refl
bare_the_body _ = refl

pub bare_the_unit : (x : Item) → a.the_unit (bare_item x) ≡ bare (a.the_unit x)
bare_the_unit (a.a_unit y) = refl
bare_the_unit _ = refl

bare_the_idents : (x : Item) → a.the_idents (bare_item x) ≡ map bare_ident (a.the_idents x)
bare_the_idents (cons x y) = cc (bare_the_ident x, bare_the_idents y)
bare_the_idents _ = refl

bare_the_multiplieds : (x : Item) → a.the_multiplieds (bare_item x) ≡ bare_multiplieds (a.the_multiplieds x)
bare_the_multiplieds (cons x y) = cc (bare_the_multiplied x, bare_the_multiplieds y)
bare_the_multiplieds _ = refl

bare_the_addeds : (x : Item) → a.the_addeds (bare_item x) ≡ bare_addeds (a.the_addeds x)
bare_the_addeds (cons x y) = cc (bare_the_added x, bare_the_addeds y)
bare_the_addeds _ = refl

bare_the_relations : (x : Item) → a.the_relations (bare_item x) ≡ bare_relations (a.the_relations x)
bare_the_relations (cons x y) = cc (bare_the_relation x, bare_the_relations y)
bare_the_relations _ = refl

bare_more : (x : Item) → a.more_statements (bare_item x) ≡ bare_more_statements (a.more_statements x)
bare_more (cons x y) = cc (bare_the_statement x, bare_more y)
bare_more _ = refl

bare_the_statements : (x : Item) → a.the_statements (bare_item x) ≡ bare_statements (a.the_statements x)
bare_the_statements (a.some_statements y) = refl
bare_the_statements _ = refl

bare_first_name : (x : Item) → a.first_name (bare_item x) ≡ bare_ident (a.first_name x)
bare_first_name (a.some_names y ys) = refl
bare_first_name _ = refl

bare_other_names : (x : Item) → a.other_names (bare_item x) ≡ map bare_ident (a.other_names x)
bare_other_names (a.some_names y ys) = refl
bare_other_names _ = refl

bare_the_declarations : (x : Item) → a.the_declarations (bare_item x) ≡ bare_declarations (a.the_declarations x)
bare_the_declarations (cons x y) = cc (bare_the_declaration x, bare_the_declarations y)
bare_the_declarations _ = refl

bare_the_context : (x : Item) → a.the_context (bare_item x) ≡ bare_context (a.the_context x)
bare_the_context (a.a_context y) = refl
bare_the_context _ = refl

bare_the_contexts : (x : Item) → a.the_contexts (bare_item x) ≡ map bare_context (a.the_contexts x)
bare_the_contexts (cons x y) = cc (bare_the_context x, bare_the_contexts y)
bare_the_contexts _ = refl

bare_declared : (i : Ident) (is : List Ident) (x : Item) → a.declared (bare_ident i) (map bare_ident is) (bare_item x) ≡ bare_declaration (a.declared i is x)
bare_declared i is (a.a_variable j e) = refl
bare_declared i is (a.a_constant j e) = refl
bare_declared i is (a.an_array x y j) = refl
bare_declared i is a.an_exception = refl
bare_declared i is _ = refl

bare_task_declared : (at : Pos) (x : Item) → a.task_declared nowhere (bare_item x) ≡ bare_declaration (a.task_declared at x)
bare_task_declared at (a.a_task is_type i definition) = refl
bare_task_declared at (a.a_task_body i ds x) = refl
bare_task_declared at _ = refl

bare_with_attribute : (n : m.Name) (x : Item) → a.with_attribute (bare_name n) (bare_item x) ≡ bare_primary (a.with_attribute n x)
bare_with_attribute n (a.an_attribute j e) = refl
bare_with_attribute n _ = refl

bare_compared : (x : m.Simple) (y : Item) → a.compared (bare_simple x) (bare_item y) ≡ bare_relation (a.compared x y)
bare_compared x (a.a_compared operator y) = refl
bare_compared x _ = refl

bare_connected : (x : m.Relation) (y : Item) → a.connected (bare_relation x) (bare_item y) ≡ bare_expression (a.connected x y)
bare_connected x (a.a_chain operator y ys) = refl
bare_connected x _ = refl

bare_followed : (xs : m.Args) (ps : m.Parts) (x : Item) → a.followed (bare_args xs) (bare_parts ps) (bare_item x) ≡ bare_item (a.followed xs ps x)
bare_followed xs ps (a.assigned e) = refl
bare_followed xs ps _ = refl

bare_otherwise : (x : Item) → a.otherwise (bare_item x) ≡ bare_more_statements (a.otherwise x)
bare_otherwise (a.some_statements (m.in_order y ys)) = refl
bare_otherwise _ = refl

bare_with_arm : (x : Item) (xs : m.Arms) → a.with_arm (bare_item x) (bare_arms xs) ≡ bare_arms (a.with_arm x xs)
bare_with_arm (a.an_arm at e y) xs = refl
bare_with_arm _ xs = refl

bare_the_arms : (x : Item) → a.the_arms (bare_item x) ≡ bare_arms (a.the_arms x)
bare_the_arms (cons x y) = ap (λ z. a.with_arm (bare_item x) z) (bare_the_arms y) ∙ bare_with_arm x (a.the_arms y)
bare_the_arms _ = refl

bare_the_iteration : (x : Item) → a.the_iteration (bare_item x) ≡ bare_iteration (a.the_iteration x)
bare_the_iteration (a.an_iteration at y) = refl
bare_the_iteration _ = refl

bare_loop_place : (x y : Item) → a.loop_place (bare_item x) (bare_item y) ≡ nowhere
bare_loop_place (a.an_iteration at z) y = refl
bare_loop_place _ y = bare_place y

bare_block_declarations : (x : Item) → a.block_declarations (bare_item x) ≡ bare_declarations (a.block_declarations x)
bare_block_declarations (a.a_declare at y) = refl
bare_block_declarations _ = refl

bare_is_declare : (x : Item) → a.is_declare (bare_item x) ≡ a.is_declare x
bare_is_declare (a.a_declare at y) = refl
bare_is_declare _ = refl

bare_begin : (x : m.Body) → a.begin_of (bare_body x) ≡ nowhere
bare_begin (m.body begin _ _ _ _ _) = refl

bare_block_place : (x : Item) (y : m.Body) → a.block_place (bare_item x) (bare_body y) ≡ nowhere
bare_block_place (a.a_declare at z) y = refl
bare_block_place _ y = bare_begin y

bare_labelled : (i : Ident) (x : m.Statement) → a.labelled (bare_ident i) (bare_statement x) ≡ bare_statement (a.labelled i x)
bare_labelled i (m.loop label at x statements end semicolon) = refl
bare_labelled i (m.block label at declare ds x) = refl
bare_labelled i _ = refl

bare_begun : (i : Ident) (x : Item) → a.begun (bare_ident i) (bare_item x) ≡ bare_statement (a.begun i x)
bare_begun i (a.assigns xs ps e) = refl
bare_begun i (a.calls xs ps) = refl
bare_begun i (a.a_statement x) = bare_labelled i x
bare_begun i _ = refl

bare_delayed : (at : Pos) (x : Item) → a.delayed nowhere (bare_item x) ≡ bare_delay (a.delayed at x)
bare_delayed at (a.seconds x) = refl
bare_delayed at (a.duration_of named e) = refl
bare_delayed at _ = refl

bare_the_real : (x : Item) → a.the_real (bare_item x) ≡ bare_real (a.the_real x)
bare_the_real (a.a_real y) = refl
bare_the_real _ = refl

bare_the_delay : (x : Item) → a.the_delay (bare_item x) ≡ bare_delay (a.the_delay x)
bare_the_delay (a.a_delay y) = refl
bare_the_delay _ = refl

bare_the_entry : (x : Item) → a.the_entry (bare_item x) ≡ bare_entry (a.the_entry x)
bare_the_entry (a.an_entry y) = refl
bare_the_entry _ = refl

bare_the_entries : (x : Item) → a.the_entries (bare_item x) ≡ map bare_entry (a.the_entries x)
bare_the_entries (cons x y) = cc (bare_the_entry x, bare_the_entries y)
bare_the_entries _ = refl

bare_the_doing : (x : Item) → a.the_doing (bare_item x) ≡ bare_doing (a.the_doing x)
bare_the_doing (a.a_doing y) = refl
bare_the_doing _ = refl

bare_the_accept : (x : Item) → a.the_accept (bare_item x) ≡ bare_accept (a.the_accept x)
bare_the_accept (a.an_accept y) = refl
bare_the_accept _ = refl

bare_the_alternative : (x : Item) → a.the_alternative (bare_item x) ≡ bare_alternative (a.the_alternative x)
bare_the_alternative (a.an_alternative y) = refl
bare_the_alternative _ = refl

bare_with_guarded : (x : Item) (xs : m.Alternatives) → a.with_guarded (bare_item x) (bare_alternatives xs) ≡ bare_alternatives (a.with_guarded x xs)
bare_with_guarded (a.guarded e y) xs = refl
bare_with_guarded _ xs = refl

bare_the_alternatives : (x : Item) → a.the_alternatives (bare_item x) ≡ bare_alternatives (a.the_alternatives x)
bare_the_alternatives (cons x y) = ap (λ z. a.with_guarded (bare_item x) z) (bare_the_alternatives y) ∙ bare_with_guarded x (a.the_alternatives y)
bare_the_alternatives _ = refl

-- an alternative behind another one, which is behind its guard
bare_second : (x y : Item) → a.with_guarded (bare_item x) (a.the_alternatives (bare_item y)) ≡ bare_alternatives (a.with_guarded x (a.the_alternatives y))
bare_second x y = ap (λ z. a.with_guarded (bare_item x) z) (bare_the_alternatives y) ∙ bare_with_guarded x (a.the_alternatives y)

bare_first_alternative : (x : Item) → a.first_alternative (bare_item x) ≡ bare_alternative (a.first_alternative x)
bare_first_alternative (a.unguarded y ys inner) = refl
bare_first_alternative _ = refl

bare_other_alternatives : (x : Item) → a.other_alternatives (bare_item x) ≡ bare_alternatives (a.other_alternatives x)
bare_other_alternatives (a.unguarded y ys inner) = refl
bare_other_alternatives (a.further ys inner) = refl
bare_other_alternatives _ = refl

bare_else_part : (x : Item) → a.else_part (bare_item x) ≡ bare_more_statements (a.else_part x)
bare_else_part (a.unguarded y ys inner) = refl
bare_else_part (a.further ys inner) = refl
bare_else_part _ = refl

bare_the_otherwise : (x : Item) → a.the_otherwise (bare_item x) ≡ bare_other (a.the_otherwise x)
bare_the_otherwise (a.an_otherwise y) = refl
bare_the_otherwise _ = refl

bare_selected : (at : Pos) (x : Item) → a.selected nowhere (bare_item x) ≡ bare_statement (a.selected at x)
bare_selected at (a.selects e x xs inner) = refl
bare_selected at (a.selects_call x behind other) = refl
bare_selected at _ = refl

bare_the_operation : (x : Item) → a.the_operation (bare_item x) ≡ bare_operation (a.the_operation x)
bare_the_operation (a.an_operation y) = refl
bare_the_operation _ = refl

bare_the_operations : (x : Item) → a.the_operations (bare_item x) ≡ map bare_operation (a.the_operations x)
bare_the_operations (cons x y) = cc (bare_the_operation x, bare_the_operations y)
bare_the_operations _ = refl

bare_the_private_item : (x : Item) → a.the_private_item (bare_item x) ≡ bare_private_item (a.the_private_item x)
bare_the_private_item (a.a_private_item y) = refl
bare_the_private_item _ = refl

bare_the_private_items : (x : Item) → a.the_private_items (bare_item x) ≡ map bare_private_item (a.the_private_items x)
bare_the_private_items (cons x y) = cc (bare_the_private_item x, bare_the_private_items y)
bare_the_private_items _ = refl

bare_opt_private : (x : Item) → a.opt_private (bare_item x) ≡ bare_private (a.opt_private x)
bare_opt_private (a.some_private ys) = refl
bare_opt_private _ = refl

bare_the_operation_body : (x : Item) → a.the_operation_body (bare_item x) ≡ bare_operation_body (a.the_operation_body x)
bare_the_operation_body (a.an_operation_body y) = refl
bare_the_operation_body _ = refl

bare_the_operation_bodies : (x : Item) → a.the_operation_bodies (bare_item x) ≡ bare_operation_bodies (a.the_operation_bodies x)
bare_the_operation_bodies (cons x y) = cc (bare_the_operation_body x, bare_the_operation_bodies y)
bare_the_operation_bodies _ = refl

bare_protected_declared : (at : Pos) (x : Item) → a.protected_declared nowhere (bare_item x) ≡ bare_declaration (a.protected_declared at x)
bare_protected_declared at (a.a_protected i operations hidden end) = refl
bare_protected_declared at (a.a_protected_body i inner end) = refl
bare_protected_declared at _ = refl

bare_the_names : (x : Item) → a.the_names (bare_item x) ≡ bare_names (a.the_names x)
bare_the_names (cons x y) = cc (bare_the_name x, bare_the_names y)
bare_the_names _ = refl

-- an item made of those on top

bare_top : (st : List Item) → top (bares st) ≡ bare_item (top st)
bare_top [] = refl
bare_top (x ∷ st) = refl

bare_pop : (st : List Item) → pop (bares st) ≡ bares (pop st)
bare_pop [] = refl
bare_pop (x ∷ st) = refl

made_1 : (f : Item → Item) → ((x : Item) → f (bare_item x) ≡ bare_item (f x)) → (st : List Item) → bares (f (top st) ∷ pop st) ≡ f (top (bares st)) ∷ pop (bares st)
made_1 f h st = cc (h (top st), bare_top st, bare_pop st)

made_2 : (f : Item → Item → Item) → ((x y : Item) → f (bare_item x) (bare_item y) ≡ bare_item (f x y)) → (st : List Item) →
    bares (f (top st) (top (pop st)) ∷ pop (pop st)) ≡ f (top (bares st)) (top (pop (bares st))) ∷ pop (pop (bares st))
made_2 f h st = cc (h (top st) (top (pop st)), bare_top st, bare_pop st, bare_top (pop st), bare_pop (pop st))

made_3 : (f : Item → Item → Item → Item) → ((x y u : Item) → f (bare_item x) (bare_item y) (bare_item u) ≡ bare_item (f x y u)) → (st : List Item) →
    bares (f (top st) (top (pop st)) (top (pop (pop st))) ∷ pop (pop (pop st))) ≡ f (top (bares st)) (top (pop (bares st))) (top (pop (pop (bares st)))) ∷ pop (pop (pop (bares st)))
made_3 f h st =
    let one : List Item = pop st in
    let two : List Item = pop one in
    cc (h (top st) (top one) (top two), bare_top st, bare_pop st, bare_top one, bare_pop one, bare_top two, bare_pop two)

made_4 : (f : Item → Item → Item → Item → Item) → ((x y u v : Item) → f (bare_item x) (bare_item y) (bare_item u) (bare_item v) ≡ bare_item (f x y u v)) → (st : List Item) →
    bares (f (top st) (top (pop st)) (top (pop (pop st))) (top (pop (pop (pop st)))) ∷ pop (pop (pop (pop st))))
    ≡ f (top (bares st)) (top (pop (bares st))) (top (pop (pop (bares st)))) (top (pop (pop (pop (bares st))))) ∷ pop (pop (pop (pop (bares st))))
made_4 f h st =
    let one : List Item = pop st in
    let two : List Item = pop one in
    let three : List Item = pop two in
    cc (h (top st) (top one) (top two) (top three), bare_top st, bare_pop st, bare_top one, bare_pop one, bare_top two, bare_pop two, bare_top three, bare_pop three)

made_5 : (f : Item → Item → Item → Item → Item → Item) → ((x y u v w : Item) → f (bare_item x) (bare_item y) (bare_item u) (bare_item v) (bare_item w) ≡ bare_item (f x y u v w)) → (st : List Item) →
    bares (f (top st) (top (pop st)) (top (pop (pop st))) (top (pop (pop (pop st)))) (top (pop (pop (pop (pop st))))) ∷ pop (pop (pop (pop (pop st)))))
    ≡ f (top (bares st)) (top (pop (bares st))) (top (pop (pop (bares st)))) (top (pop (pop (pop (bares st))))) (top (pop (pop (pop (pop (bares st)))))) ∷ pop (pop (pop (pop (pop (bares st)))))
made_5 f h st =
    let one : List Item = pop st in
    let two : List Item = pop one in
    let three : List Item = pop two in
    let four : List Item = pop three in
    cc (h (top st) (top one) (top two) (top three) (top four), bare_top st, bare_pop st, bare_top one, bare_pop one, bare_top two, bare_pop two, bare_top three, bare_pop three, bare_top four, bare_pop four)

made_6 : (f : Item → Item → Item → Item → Item → Item → Item) → ((x y u v w z : Item) → f (bare_item x) (bare_item y) (bare_item u) (bare_item v) (bare_item w) (bare_item z) ≡ bare_item (f x y u v w z)) → (st : List Item) →
    bares (f (top st) (top (pop st)) (top (pop (pop st))) (top (pop (pop (pop st)))) (top (pop (pop (pop (pop st))))) (top (pop (pop (pop (pop (pop st)))))) ∷ pop (pop (pop (pop (pop (pop st))))))
    ≡ f (top (bares st)) (top (pop (bares st))) (top (pop (pop (bares st)))) (top (pop (pop (pop (bares st))))) (top (pop (pop (pop (pop (bares st)))))) (top (pop (pop (pop (pop (pop (bares st))))))) ∷ pop (pop (pop (pop (pop (pop (bares st))))))
made_6 f h st =
    let one : List Item = pop st in
    let two : List Item = pop one in
    let three : List Item = pop two in
    let four : List Item = pop three in
    let five : List Item = pop four in
    cc (h (top st) (top one) (top two) (top three) (top four) (top five), bare_top st, bare_pop st, bare_top one, bare_pop one, bare_top two, bare_pop two, bare_top three, bare_pop three, bare_top four, bare_pop four, bare_top five, bare_pop five)

bare_chained : (operator : Connective) (st : List Item) → bares (a.chained operator st) ≡ a.chained operator (bares st)
bare_chained operator = made_2 (λ x y. a.a_chain operator (a.the_relation x) (a.the_relations y)) (λ x y. cc (bare_the_relation x, bare_the_relations y))

pub bare_listed : (st : List Item) → bares (listed st) ≡ listed (bares st)
bare_listed = made_2 cons (λ x y. refl)

-- the phrases whose one token's bytes the tree keeps
abbrev pub is_leaf : Phrase → Bool
is_leaf g.Identifier = true
is_leaf g.Number = true
is_leaf g.Literal = true
is_leaf g.Real = true
is_leaf _ = false

pub bare_made : (p : Phrase) → is_leaf p ≡ false → (st : List Item) → bares (made p st) ≡ made p (bares st)
bare_made g.Unit e = made_5 (λ v x y z w. a.a_unit (m.unit (a.the_contexts v) (a.place x) (a.the_ident y) (a.the_declarations z) (a.the_body w))) (λ v x y z w. cc (bare_the_contexts v, bare_place x, bare_the_ident y, bare_the_declarations z, bare_the_body w))
bare_made g.WithClause e = made_2 (λ x y. a.a_context (m.with_text_io (a.place x))) (λ x y. cc (bare_place x))
bare_made g.UseClause e = made_2 (λ x y. a.a_context (m.use_text_io (a.place x))) (λ x y. cc (bare_place x))
bare_made g.Library e = made_2 (λ x y. none) (λ x y. refl)
bare_made g.DeclarationList e = bare_listed
bare_made g.NamedDeclaration e = made_2 (λ x y. a.a_declaration (a.declared (a.first_name x) (a.other_names x) y)) (λ x y. cc (bare_first_name x, bare_other_names x, bare_declared (a.first_name x) (a.other_names x) y))
bare_made g.Variable e = made_2 (λ x y. a.a_variable (a.the_ident x) (a.opt_expression y)) (λ x y. cc (bare_the_ident x, bare_opt_expression y))
bare_made g.Constant e = made_2 (λ x y. a.a_constant (a.the_ident x) (a.the_expression y)) (λ x y. cc (bare_the_ident x, bare_the_expression y))
bare_made g.Identifiers e = made_2 (λ x y. a.some_names (a.the_ident x) (a.the_idents y)) (λ x y. cc (bare_the_ident x, bare_the_idents y))
bare_made g.ArrayRest e = made_2 (λ x y. a.an_array (a.low x) (a.high x) (a.the_ident y)) (λ x y. cc (bare_low x, bare_high x, bare_the_ident y))
bare_made g.InIndex e = made_2 (λ x y. a.an_index (a.the_bound x) (a.the_bound y)) (λ x y. cc (bare_the_bound x, bare_the_bound y))
bare_made g.Bound e =
    made_2 (λ x y. a.a_bound (record { negative = a.is_there x; number = a.the_number y }))
    (λ x y. ap (λ (z : Bool). a.a_bound (record { negative = z; number = a.the_number (bare_item y) })) (bare_is_there x) ∙ ap (λ (z : Number). a.a_bound (record { negative = a.is_there x; number = z })) (bare_the_number y))
bare_made g.Negated e = λ st. refl
bare_made g.ExceptionRest e = λ st. refl
bare_made g.Procedure e =
    made_5 (λ x y f z w. a.a_declaration (m.procedure (a.place x) (a.the_ident y) (a.the_formals f) (a.the_declarations z) (a.the_body w)))
    (λ x y f z w. cc (bare_place x, bare_the_ident y, bare_the_formals f, bare_the_declarations z, bare_the_body w))
bare_made g.InFormals e = bare_listed
bare_made g.Formal e = made_3 (λ x y z. a.a_formal (m.formal (a.first_name x) (a.other_names x) (a.the_mode y) (a.the_ident z))) (λ x y z. cc (bare_first_name x, bare_other_names x, bare_the_mode y, bare_the_ident z))
bare_made g.InMode e = made_2 (λ x y. a.a_mode (a.in_mode (a.place x) (a.is_there y))) (λ x y. ap (λ (z : Mode). a.a_mode z) (bare_in_mode x y))
bare_made g.InOut e = λ st. refl
bare_made g.OutMode e = made_1 (λ x. a.a_mode (mode.Out (a.place x))) (λ x. ap (λ (z : Pos). a.a_mode (mode.Out z)) (bare_place x))
bare_made g.Task e = made_2 (λ x y. a.a_declaration (a.task_declared (a.place x) y)) (λ x y. cc (bare_place x, bare_task_declared (a.place x) y))
bare_made g.TaskDeclaration e = made_3 (λ x y z. a.a_task (a.is_there x) (a.the_ident y) (a.opt_definition z)) (λ x y z. cc (bare_is_there x, bare_the_ident y, bare_opt_definition z))
bare_made g.TaskType e = λ st. refl
bare_made g.TaskDefinition e =
    made_2 (λ x y. a.a_definition (record { entries = a.the_entries x; end_name = a.opt_ident y }))
    (λ x y. ap (λ (z : List m.EntryDeclaration). a.a_definition (record { entries = z; end_name = a.opt_ident (bare_item y) })) (bare_the_entries x) ∙ ap (λ (z : Option Ident). a.a_definition (record { entries = map bare_entry (a.the_entries x); end_name = z })) (bare_opt_ident y))
bare_made g.TaskBody e = made_3 (λ x y z. a.a_task_body (a.the_ident x) (a.the_declarations y) (a.the_body z)) (λ x y z. cc (bare_the_ident x, bare_the_declarations y, bare_the_body z))
bare_made g.Body e =
    made_6 (λ x y h z w s. a.a_body (m.body (a.place x) (a.the_statements y) (a.the_handlers h) (a.place z) (a.opt_ident w) (a.place s)))
    (λ x y h z w s. cc (bare_place x, bare_the_statements y, bare_the_handlers h, bare_place z, bare_opt_ident w, bare_place s))
bare_made g.HandlerList e = bare_listed
bare_made g.Handler e = made_2 (λ x y. a.a_handler (a.the_choices x) (a.the_statements y)) (λ x y. cc (bare_the_choices x, bare_the_statements y))
bare_made g.Others e = made_1 (λ x. a.some_choices (m.others (a.place x))) (λ x. cc (bare_place x))
bare_made g.NamedChoices e = made_2 (λ x y. a.some_choices (m.exceptions (a.the_ident x) (a.the_idents y))) (λ x y. cc (bare_the_ident x, bare_the_idents y))
bare_made g.StatementList e = made_2 (λ x y. a.some_statements (m.in_order (a.the_statement x) (a.more_statements y))) (λ x y. cc (bare_the_statement x, bare_more y))
bare_made g.NullStatement e = made_1 (λ x. a.a_statement (m.null (a.place x))) (λ x. cc (bare_place x))
bare_made g.NameStatement e = made_2 (λ x y. a.a_statement (a.begun (a.the_ident x) y)) (λ x y. cc (bare_the_ident x, bare_begun (a.the_ident x) y))
bare_made g.Assignment e = made_1 (λ x. a.assigned (a.the_expression x)) (λ x. cc (bare_the_expression x))
bare_made g.NamedStatement e = made_3 (λ x y z. a.followed (a.the_args x) (a.the_parts y) z) (λ x y z. cc (bare_the_args x, bare_the_parts y, bare_followed (a.the_args x) (a.the_parts y) z))
bare_made g.If e = made_5 (λ x y z u v. a.a_statement (m.if_then (a.place x) (a.the_expression y) (a.the_statements z) (a.the_arms u) (a.otherwise v))) (λ x y z u v. cc (bare_place x, bare_the_expression y, bare_the_statements z, bare_the_arms u, bare_otherwise v))
bare_made g.Elsif e = made_3 (λ x y z. a.an_arm (a.place x) (a.the_expression y) (a.the_statements z)) (λ x y z. cc (bare_place x, bare_the_expression y, bare_the_statements z))
bare_made g.Loop e = made_5 (λ x y z u v. a.a_statement (m.loop None (a.loop_place x y) (a.the_iteration x) (a.the_statements z) (a.opt_ident u) (a.place v))) (λ x y z u v. cc (bare_loop_place x y, bare_the_iteration x, bare_the_statements z, bare_opt_ident u, bare_place v))
bare_made g.While e = made_2 (λ x y. a.an_iteration (a.place x) (m.while (a.the_expression y))) (λ x y. cc (bare_place x, bare_the_expression y))
bare_made g.For e =
    made_5 (λ x y z u v. a.an_iteration (a.place x) (m.for (a.the_ident y) (a.is_there z) (a.the_simple u) (a.the_simple v)))
    (λ x y z u v. cc (bare_place x, bare_the_ident y, bare_is_there z, bare_the_simple u, bare_the_simple v))
bare_made g.Reverse e = λ st. refl
bare_made g.Block e =
    made_2 (λ x y. a.a_statement (m.block None (a.block_place x (a.the_body y)) (a.is_declare x) (a.block_declarations x) (a.the_body y)))
    (λ x y. cc (bare_block_place x (a.the_body y), bare_is_declare x, bare_block_declarations x, bare_the_body y))
bare_made g.Declare e = made_2 (λ x y. a.a_declare (a.place x) (a.the_declarations y)) (λ x y. cc (bare_place x, bare_the_declarations y))
bare_made g.Return e = made_2 (λ x y. a.a_statement (m.return (a.place x) (a.opt_expression y))) (λ x y. cc (bare_place x, bare_opt_expression y))
bare_made g.Raise e = made_2 (λ x y. a.a_statement (m.raise (a.place x) (a.opt_ident y))) (λ x y. cc (bare_place x, bare_opt_ident y))
bare_made g.Exit e = made_3 (λ x y z. a.a_statement (m.exit (a.place x) (a.opt_ident y) (a.opt_expression z))) (λ x y z. cc (bare_place x, bare_opt_ident y, bare_opt_expression z))
bare_made g.Expression e = made_2 (λ x y. a.an_expression (a.connected (a.the_relation x) y)) (λ x y. cc (bare_the_relation x, bare_connected (a.the_relation x) y))
bare_made g.AndThen e = bare_chained connective.AndThen
bare_made g.AndOnly e = bare_chained connective.And
bare_made g.OrElse e = bare_chained connective.OrElse
bare_made g.OrOnly e = bare_chained connective.Or
bare_made g.XorLogic e = bare_chained connective.Xor
bare_made g.Relation e = made_2 (λ x y. a.a_relation (a.compared (a.the_simple x) y)) (λ x y. cc (bare_the_simple x, bare_compared (a.the_simple x) y))
bare_made g.Compared e = made_2 (λ x y. a.a_compared (a.the_relational x) (a.the_simple y)) (λ x y. cc (bare_the_relational x, bare_the_simple y))
bare_made g.Equal e = λ st. refl
bare_made g.Unequal e = λ st. refl
bare_made g.Less e = λ st. refl
bare_made g.AtMost e = λ st. refl
bare_made g.Greater e = λ st. refl
bare_made g.AtLeast e = λ st. refl
bare_made g.Simple e = made_3 (λ x y z. a.a_simple (m.simple (a.opt_sign x) (a.the_term y) (a.the_addeds z))) (λ x y z. cc (bare_opt_sign x, bare_the_term y, bare_the_addeds z))
bare_made g.Positive e = made_1 (λ x. a.a_sign (record { sign = sign.Plus; at = a.place x })) (λ x. ap (λ (z : Pos). a.a_sign (record { sign = sign.Plus; at = z })) (bare_place x))
bare_made g.Negative e = made_1 (λ x. a.a_sign (record { sign = sign.Minus; at = a.place x })) (λ x. ap (λ (z : Pos). a.a_sign (record { sign = sign.Minus; at = z })) (bare_place x))
bare_made g.Added e = made_2 (λ x y. a.an_added (m.added (a.the_adding x) (a.the_term y))) (λ x y. cc (bare_the_adding x, bare_the_term y))
bare_made g.Plus e = λ st. refl
bare_made g.Minus e = λ st. refl
bare_made g.Join e = λ st. refl
bare_made g.Term e = made_2 (λ x y. a.a_term (m.term (a.the_factor x) (a.the_multiplieds y))) (λ x y. cc (bare_the_factor x, bare_the_multiplieds y))
bare_made g.Multiplied e = made_2 (λ x y. a.a_multiplied (m.multiplied (a.the_multiplying x) (a.the_factor y))) (λ x y. cc (bare_the_multiplying x, bare_the_factor y))
bare_made g.Times e = λ st. refl
bare_made g.Divide e = λ st. refl
bare_made g.Modulo e = λ st. refl
bare_made g.Remainder e = λ st. refl
bare_made g.Factor e = made_2 (λ x y. a.a_factor (m.factor (a.opt_operator x) (a.the_primary y))) (λ x y. cc (bare_opt_operator x, bare_the_primary y))
bare_made g.Magnitude e = made_1 (λ x. a.an_operator (record { highest = highest.Magnitude; at = a.place x })) (λ x. ap (λ (z : Pos). a.an_operator (record { highest = highest.Magnitude; at = z })) (bare_place x))
bare_made g.Not e = made_1 (λ x. a.an_operator (record { highest = highest.Not; at = a.place x })) (λ x. ap (λ (z : Pos). a.an_operator (record { highest = highest.Not; at = z })) (bare_place x))
bare_made g.Integer e = made_1 (λ x. a.a_primary (m.integer (a.the_number x))) (λ x. cc (bare_the_number x))
bare_made g.String e = made_1 (λ x. a.a_primary (m.text (a.the_literal x))) (λ x. cc (bare_the_literal x))
bare_made g.Named e = made_2 (λ x y. a.a_primary (a.with_attribute (a.the_name x) y)) (λ x y. cc (bare_the_name x, bare_with_attribute (a.the_name x) y))
bare_made g.Attribute e = made_2 (λ x y. a.an_attribute (a.the_ident x) (a.opt_inside y)) (λ x y. cc (bare_the_ident x, bare_opt_inside y))
bare_made g.Group e = made_1 (λ x. a.a_primary (m.group (a.opening x) (a.inside x))) (λ x. cc (bare_opening x, bare_inside x))
bare_made g.InParens e = made_2 (λ x y. a.in_parens (a.place x) (a.the_expression y)) (λ x y. cc (bare_place x, bare_the_expression y))
bare_made g.Name e = made_2 (λ x y. a.a_name (m.named (a.the_part x) (a.the_parts y))) (λ x y. cc (bare_the_part x, bare_the_parts y))
bare_made g.NamePart e = made_2 (λ x y. a.a_part (m.part (a.the_ident x) (a.the_args y))) (λ x y. cc (bare_the_ident x, bare_the_args y))
bare_made g.InArgs e = made_2 (λ x y. a.some_args (m.more_args (a.the_expression x) (a.expression_args y))) (λ x y. cc (bare_the_expression x, bare_expression_args y))
bare_made g.Identifier e = λ st. cc
bare_made g.Number e = λ st. cc
bare_made g.Literal e = λ st. cc
bare_made g.Real e = λ st. cc
bare_made g.DelayStatement e = made_1 (λ x. a.a_statement (m.delaying (a.the_delay x))) (λ x. cc (bare_the_delay x))
bare_made g.Delay e = made_2 (λ x y. a.a_delay (a.delayed (a.place x) y)) (λ x y. cc (bare_place x, bare_delayed (a.place x) y))
bare_made g.Seconds e = made_1 (λ x. a.seconds (a.the_real x)) (λ x. cc (bare_the_real x))
bare_made g.DurationOf e = made_2 (λ x y. a.duration_of (a.place x) (a.inside y)) (λ x y. cc (bare_place x, bare_inside y))
bare_made g.EntryDeclaration e =
    made_2 (λ x y. a.an_entry (record { name = a.the_ident x; formals = a.the_formals y }))
    (λ x y. ap (λ (z : Ident). a.an_entry (record { name = z; formals = a.the_formals (bare_item y) })) (bare_the_ident x) ∙ ap (λ (z : List m.Formal). a.an_entry (record { name = bare_ident (a.the_ident x); formals = z })) (bare_the_formals y))
bare_made g.AcceptStatement e = made_1 (λ x. a.a_statement (m.accepting (a.the_accept x))) (λ x. cc (bare_the_accept x))
bare_made g.Accept e = made_4 (λ x y z u. a.an_accept (m.accept (a.place x) (a.the_ident y) (a.the_formals z) (a.the_doing u))) (λ x y z u. cc (bare_place x, bare_the_ident y, bare_the_formals z, bare_the_doing u))
bare_made g.Do e = made_6 (λ x y z u v w. a.a_doing (m.with_do (m.body (a.place x) (a.the_statements y) (a.the_handlers z) (a.place u) (a.opt_ident v) (a.place w)))) (λ x y z u v w. cc (bare_place x, bare_the_statements y, bare_the_handlers z, bare_place u, bare_opt_ident v, bare_place w))
bare_made g.WithoutDo e = λ st. refl
bare_made g.Select e = made_2 (λ x y. a.a_statement (a.selected (a.place x) y)) (λ x y. cc (bare_place x, bare_selected (a.place x) y))
bare_made g.CallSelect e = made_3 (λ x y z. a.selects_call (a.the_name x) (a.otherwise y) (a.the_otherwise z)) (λ x y z. cc (bare_the_name x, bare_otherwise y, bare_the_otherwise z))
bare_made g.OrDelay e = made_2 (λ x y. a.an_otherwise (m.or_delay (a.the_delay x) (a.otherwise y))) (λ x y. cc (bare_the_delay x, bare_otherwise y))
bare_made g.OrElsePart e = made_1 (λ x. a.an_otherwise (m.or_else (a.the_statements x))) (λ x. cc (bare_the_statements x))
bare_made g.AcceptSelect e = made_2 (λ x y. a.selects (a.opt_expression x) (a.first_alternative y) (a.other_alternatives y) (a.else_part y)) (λ x y. cc (bare_opt_expression x, bare_first_alternative y, bare_other_alternatives y, bare_else_part y))
bare_made g.AcceptsOnly e = made_2 (λ x y. a.unguarded (a.the_alternative x) (a.other_alternatives y) (a.else_part y)) (λ x y. cc (bare_the_alternative x, bare_other_alternatives y, bare_else_part y))
bare_made g.SelectElse e = made_1 (λ x. a.further m.no_alternatives (a.otherwise x)) (λ x. cc (bare_otherwise x))
bare_made g.OrAny e = made_2 (λ x y. a.further (m.more_alternatives (a.opt_expression x) (a.first_alternative y) (a.other_alternatives y)) (a.else_part y)) (λ x y. cc (bare_opt_expression x, bare_first_alternative y, bare_other_alternatives y, bare_else_part y))
bare_made g.WithDelays e = made_2 (λ x y. a.unguarded (a.the_alternative x) (a.the_alternatives y) m.no_statements) (λ x y. cc (bare_the_alternative x, bare_the_alternatives y))
bare_made g.WithTerminate e = made_2 (λ x y. a.unguarded (a.the_alternative x) (a.the_alternatives y) m.no_statements) (λ x y. cc (bare_the_alternative x, bare_the_alternatives y))
bare_made g.DelaysAccept e = made_2 (λ x y. a.unguarded (a.the_alternative x) (a.the_alternatives y) m.no_statements) (λ x y. cc (bare_the_alternative x, bare_the_alternatives y))
bare_made g.OrEither e = made_2 (λ x y. a.guarded (a.opt_expression x) (a.the_alternative y)) (λ x y. cc (bare_opt_expression x, bare_the_alternative y))
bare_made g.OrAccept e = made_2 (λ x y. a.guarded (a.opt_expression x) (a.the_alternative y)) (λ x y. cc (bare_opt_expression x, bare_the_alternative y))
bare_made g.DelaysFirst e = made_3 (λ x y z. a.unguarded (a.the_alternative x) (m.more_alternatives (a.opt_expression y) (a.first_alternative z) (a.other_alternatives z)) (a.else_part z)) (λ x y z. cc (bare_the_alternative x, bare_opt_expression y, bare_first_alternative z, bare_other_alternatives z, bare_else_part z))
bare_made g.TerminateFirst e = made_3 (λ x y z. a.unguarded (a.the_alternative x) (a.with_guarded y (a.the_alternatives z)) m.no_statements) (λ x y z. cc (bare_the_alternative x, bare_second y z))
bare_made g.AcceptAlternative e = made_2 (λ x y. a.an_alternative (m.accept_alternative (a.the_accept x) (a.otherwise y))) (λ x y. cc (bare_the_accept x, bare_otherwise y))
bare_made g.DelayAlternative e = made_2 (λ x y. a.an_alternative (m.delay_alternative (a.the_delay x) (a.otherwise y))) (λ x y. cc (bare_the_delay x, bare_otherwise y))
bare_made g.TerminateAlternative e = λ st. refl
bare_made g.Protected e = made_2 (λ x y. a.a_declaration (a.protected_declared (a.place x) y)) (λ x y. cc (bare_place x, bare_protected_declared (a.place x) y))
bare_made g.ProtectedDeclaration e = made_4 (λ x y z u. a.a_protected (a.the_ident x) (a.the_operations y) (a.opt_private z) (a.opt_ident u)) (λ x y z u. cc (bare_the_ident x, bare_the_operations y, bare_opt_private z, bare_opt_ident u))
bare_made g.PrivatePart e = made_1 (λ x. a.some_private (a.the_private_items x)) (λ x. cc (bare_the_private_items x))
bare_made g.PrivateOperation e = made_1 (λ x. a.a_private_item (m.private_operation (a.the_operation x))) (λ x. cc (bare_the_operation x))
bare_made g.Components e = made_3 (λ x y z. a.a_private_item (m.components (a.first_name x) (a.other_names x) (a.the_ident y) (a.opt_expression z))) (λ x y z. cc (bare_first_name x, bare_other_names x, bare_the_ident y, bare_opt_expression z))
bare_made g.EntryOperation e = made_1 (λ x. a.an_operation (m.entry_operation (a.the_entry x))) (λ x. cc (bare_the_entry x))
bare_made g.ProcedureOperation e = made_2 (λ x y. a.an_operation (m.procedure_operation (a.the_ident x) (a.the_formals y))) (λ x y. cc (bare_the_ident x, bare_the_formals y))
bare_made g.FunctionOperation e = made_3 (λ x y z. a.an_operation (m.function_operation (a.the_ident x) (a.the_formals y) (a.the_ident z))) (λ x y z. cc (bare_the_ident x, bare_the_formals y, bare_the_ident z))
bare_made g.ProtectedBody e = made_3 (λ x y z. a.a_protected_body (a.the_ident x) (a.the_operation_bodies y) (a.opt_ident z)) (λ x y z. cc (bare_the_ident x, bare_the_operation_bodies y, bare_opt_ident z))
bare_made g.EntryBody e = made_6 (λ x y z u v w. a.an_operation_body (m.entry_body (a.place x) (a.the_ident y) (a.the_formals z) (a.the_expression u) (a.the_declarations v) (a.the_body w))) (λ x y z u v w. cc (bare_place x, bare_the_ident y, bare_the_formals z, bare_the_expression u, bare_the_declarations v, bare_the_body w))
bare_made g.ProcedureBody e = made_5 (λ x y z u v. a.an_operation_body (m.procedure_body (a.place x) (a.the_ident y) (a.the_formals z) (a.the_declarations u) (a.the_body v))) (λ x y z u v. cc (bare_place x, bare_the_ident y, bare_the_formals z, bare_the_declarations u, bare_the_body v))
bare_made g.FunctionBody e = made_6 (λ x y z u v w. a.an_operation_body (m.function_body (a.place x) (a.the_ident y) (a.the_formals z) (a.the_ident u) (a.the_declarations v) (a.the_body w))) (λ x y z u v w. cc (bare_place x, bare_the_ident y, bare_the_formals z, bare_the_ident u, bare_the_declarations v, bare_the_body w))
bare_made g.Abort e = made_3 (λ x y z. a.a_statement (m.abort (a.place x) (a.the_name y) (a.the_names z))) (λ x y z. cc (bare_place x, bare_the_name y, bare_the_names z))
bare_made g.Requeue e = made_3 (λ x y z. a.a_statement (m.requeue (a.place x) (a.the_name y) (a.is_there z))) (λ x y z. cc (bare_place x, bare_the_name y, bare_is_there z))
bare_made g.WithAbort e = λ st. refl
bare_made _ e = λ st. refl
