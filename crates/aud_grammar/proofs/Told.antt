-- What items say: the words of each, but for the ends of lines.
use Rattle.std.proofs.Common.{◌≡◌, ℕ, List, [], ◌∷◌, ◌++◌, map, refl, ap, subst}
use Rattle.std.specs.Prelude.{Option, Some, Bool, codes}
use Rattle.aud_lex.specs.declared.token.Kind.{Kind}
use Rattle.aud_lex.specs.Element.{Element}
use Rattle.aud_lex.specs.Kinds.{kind_number}
use Rattle.aud_lex.specs.Why.Spaced.{Word, word, last_word}
use Rattle.aud_text.specs.declared.place.Pos.{Pos}
use Rattle.aud_syntax.specs.declared.tree.Ident.{Ident}
use Rattle.aud_syntax.specs.declared.tree.Number.{Number}
use Rattle.aud_syntax.specs.declared.tree.Real.{Real}
use Rattle.aud_syntax.specs.declared.tree.Literal.{Literal}
use Rattle.aud_syntax.specs.declared.tree.Signed.{Signed}
use Rattle.aud_syntax.specs.declared.tree.Adding.{Adding}
use Rattle.aud_syntax.specs.declared.tree.Multiplying.{Multiplying}
use Rattle.aud_syntax.specs.declared.tree.Operator.{Operator}
use Rattle.aud_syntax.specs.declared.tree.Relational.{Relational}
use Rattle.aud_syntax.specs.declared.tree.Connective.{Connective}
use Rattle.aud_syntax.specs.declared.tree.Connective.TheVariants as connective
use Rattle.aud_syntax.specs.declared.tree.Bound.{Bound}
use Rattle.aud_syntax.specs.declared.tree.Mode.{Mode}
use Rattle.aud_syntax.specs.Plain as m
use Rattle.aud_syntax.specs.Why.Printed as w
use Rattle.aud_grammar.specs.Grammar as g
use Rattle.aud_grammar.specs.Grammar.{Phrase, Symbol, T, P, W, N, L, Down, A, Opt, Rep}
use Rattle.aud_grammar.specs.First as f
use Rattle.aud_grammar.specs.Actions as a
use Rattle.aud_grammar.specs.Actions.{Item, token, none, cons}
use Rattle.aud_grammar.specs.Why.Derives.{Member, here, later}
use Rattle.aud_grammar.proofs.Canonical.{written_as}
use Rattle.aud_grammar.proofs.Choices.{heads}
use Rattle.aud_grammar.proofs.Sorts.{Sort, s_context, s_library, s_declaration_rest, s_index, s_bound, s_negated, s_formals, s_formal, s_more_formal, s_mode, s_in_out, s_task_rest, s_task_type, s_definition, s_behind, s_selected, s_more_arg, s_unit, s_declarations, s_declaration, s_idents, s_initial, s_body, s_statements, s_statement, s_rest, s_expression, s_logic, s_and_rest, s_or_rest, s_relation, s_compared, s_relational, s_simple, s_sign, s_added, s_adding, s_term, s_multiplied, s_multiplying, s_factor, s_operator, s_primary, s_attribute, s_parens, s_name, s_part, s_args, s_ident, s_number, s_literal, s_arm, s_else, s_unlabelled, s_iteration, s_reverse, s_when, s_declare, s_handlers, s_handler_list, s_handler, s_choices, s_real, s_time, s_delay, s_entry, s_doing, s_accept, s_select_rest, s_otherwise, s_guard, s_alternative, s_guarded, s_unguarded, s_further, s_operation, s_private_item, s_private, s_protected_rest, s_operation_body, s_more_name, s_with_abort, s_more_ident, s_more_relation, sort}
use Rattle.aud_grammar.proofs.SameWords.{attribute_words, expression_words, behind_words, library_words, variable_words, constant_words, array_words, exception_words, assigned_words, behind_words_of, Same, same_both, guard_tokens, or_words, behind_first, from_first, protected_words, protected_body_words, task_words, task_body_words}

-- a statement whose words, behind a name, are those without it
abbrev pub Unlabelled : m.Statement → Type 0
Unlabelled s = (i : Ident) → w.statement_words (a.labelled i s) ≡ w.ident_word i ∷ word (codes ":") ∷ w.statement_words s

-- an item of a sort, and its words
pub data Says : Sort → Item → List Word → Type 0 where
  says_unit : (u : m.Unit) (us : List Word) → Same us (w.unit_words u) → Says s_unit (a.a_unit u) us
  says_context : (x : m.Context) → Says s_context (a.a_context x) (w.context_words x)
  says_library : Says s_library none library_words
  says_variable : (i : Ident) (e : m.MaybeExpression) → Says s_declaration_rest (a.a_variable i e) (variable_words i e)
  says_constant : (i : Ident) (e : m.Expression) → Says s_declaration_rest (a.a_constant i e) (constant_words i e)
  says_array : (low high : Bound) (i : Ident) → Says s_declaration_rest (a.an_array low high i) (array_words low high i)
  says_exception : Says s_declaration_rest a.an_exception exception_words
  says_index : (low high : Bound) → Says s_index (a.an_index low high) (w.index_words low high)
  says_bound : (x : Bound) → Says s_bound (a.a_bound x) (w.bound_words x)
  says_negated : Says s_negated a.there (word (codes "-") ∷ [])
  says_declarations : (x : Item) (us : List Word) → Same us (w.declarations_words (a.the_declarations x)) → Says s_declarations x us
  says_declaration : (d : m.Declaration) (us : List Word) → Same us (w.declaration_words d) → Says s_declaration (a.a_declaration d) us
  says_formals : (x : Item) → Says s_formals x (w.formals_words (a.the_formals x))
  says_formal : (x : m.Formal) → Says s_formal (a.a_formal x) (w.formal_words x)
  says_more_formal : (x : m.Formal) → Says s_more_formal (a.a_formal x) (last_word (codes ";") ∷ w.formal_words x)
  says_mode : (x : Mode) → Says s_mode (a.a_mode x) (w.mode_words x)
  says_in_out : Says s_in_out a.there (word (codes "out") ∷ [])
  says_task : (is_type : Bool) (i : Ident) (definition : Option m.TaskDefinition) → Says s_task_rest (a.a_task is_type i definition) (task_words is_type i definition)
  says_task_body : (i : Ident) (ds : m.Declarations) (b : m.Body) (us : List Word) → Same us (task_body_words i (w.declarations_words ds) (w.body_words b)) → Says s_task_rest (a.a_task_body i ds b) us
  says_task_type : Says s_task_type a.there (word (codes "type") ∷ [])
  says_definition : (x : m.TaskDefinition) → Says s_definition (a.a_definition x) (w.definition_words (Some x))
  says_idents : (x : Ident) (xs : List Ident) → Says s_idents (a.some_names x xs) (w.idents_words x xs)
  says_more_ident : (delimiter : List ℕ) (i : Ident) → Says (s_more_ident delimiter) (a.an_ident i) (word delimiter ∷ w.ident_word i ∷ [])
  says_initial : (e : m.Expression) → Says s_initial (a.an_expression e) (word (codes ":=") ∷ expression_words e)
  says_body : (b : m.Body) (us : List Word) → Same us (w.body_words b) → Says s_body (a.a_body b) us
  says_handlers : (x : Item) (us : List Word) → Same us (w.handled_words (a.the_handlers x) (w.handlers_words (a.the_handlers x))) → Says s_handlers x us
  says_handler_list : (c : m.Choices) (x : m.Statements) (y : Item) (us : List Word) → Same us (w.handlers_words (m.more_handlers c x (a.the_handlers y))) → Says s_handler_list (cons (a.a_handler c x) y) us
  says_handler : (c : m.Choices) (x : m.Statements) (us : List Word) → Same us (w.handler_words c (w.statements_words x)) → Says s_handler (a.a_handler c x) us
  says_choices : (c : m.Choices) → Says s_choices (a.some_choices c) (w.choices_words c)
  says_statements : (x : m.Statements) (us : List Word) → Same us (w.statements_words x) → Says s_statements (a.some_statements x) us
  says_statement : (s : m.Statement) (us : List Word) → Same us (w.statement_words s) → Says s_statement (a.a_statement s) us
  says_assigned : (e : m.Expression) → Says s_rest (a.assigned e) (assigned_words e)
  says_called : Says s_rest a.called (last_word (codes ";") ∷ [])
  says_assigns : (xs : m.Args) (ps : m.Parts) (e : m.Expression) → Says s_behind (a.assigns xs ps e) (behind_words_of xs ps (assigned_words e))
  says_calls : (xs : m.Args) (ps : m.Parts) → Says s_behind (a.calls xs ps) (behind_words_of xs ps (last_word (codes ";") ∷ []))
  says_labelled : (s : m.Statement) (us : List Word) → Unlabelled s → Same us (w.statement_words s) → Says s_behind (a.a_statement s) (word (codes ":") ∷ us)
  says_selected : (x : m.NamePart) → Says s_selected (a.a_part x) (word (codes ".") ∷ w.part_words x)
  says_more_arg : (e : m.Expression) → Says s_more_arg (a.an_expression e) (word (codes ",") ∷ expression_words e)
  says_arm : (at : Pos) (e : m.Expression) (x : m.Statements) (us : List Word) → Same us (w.arm_words (codes "elsif") (expression_words e) (w.statements_words x)) → Says s_arm (a.an_arm at e x) us
  says_else : (x : m.Statement) (xs : m.MoreStatements) (us : List Word) → Same us (last_word (codes "else") ∷ w.statements_words (m.in_order x xs)) → Says s_else (a.some_statements (m.in_order x xs)) us
  says_unlabelled : (s : m.Statement) (us : List Word) → Unlabelled s → Same us (w.statement_words s) → Says s_unlabelled (a.a_statement s) us
  says_iteration : (at : Pos) (i : m.Iteration) → Says s_iteration (a.an_iteration at i) (w.iteration_words i)
  says_reverse : Says s_reverse a.there (word (codes "reverse") ∷ [])
  says_declare : (at : Pos) (ds : m.Declarations) (us : List Word) → Same us (last_word (codes "declare") ∷ w.declarations_words ds) → Says s_declare (a.a_declare at ds) us
  says_when : (e : m.Expression) → Says s_when (a.an_expression e) (word (codes "when") ∷ expression_words e)
  says_expression : (e : m.Expression) → Says s_expression (a.an_expression e) (expression_words e)
  says_logic : (operator : Connective) (x : m.Relation) (xs : m.Relations) → Says s_logic (a.a_chain operator x xs) (w.connected_words operator x ++ w.relations_words operator xs)
  says_and_then : (x : m.Relation) (xs : m.Relations) → Says s_and_rest (a.a_chain connective.AndThen x xs) (word (codes "then") ∷ behind_words connective.AndThen x xs)
  says_and : (x : m.Relation) (xs : m.Relations) → Says s_and_rest (a.a_chain connective.And x xs) (behind_words connective.And x xs)
  says_or_else : (x : m.Relation) (xs : m.Relations) → Says s_or_rest (a.a_chain connective.OrElse x xs) (word (codes "else") ∷ behind_words connective.OrElse x xs)
  says_or : (x : m.Relation) (xs : m.Relations) → Says s_or_rest (a.a_chain connective.Or x xs) (behind_words connective.Or x xs)
  says_more_relation : (operator : Connective) (x : m.Relation) → Says (s_more_relation operator) (a.a_relation x) (w.connected_words operator x)
  says_compared : (operator : Relational) (x : m.Simple) → Says s_compared (a.a_compared operator x) (word (w.relational_spelling operator) ∷ w.simple_words x)
  says_relational : (x : Relational) → Says s_relational (a.a_relational x) (word (w.relational_spelling x) ∷ [])
  says_relation : (x : m.Relation) → Says s_relation (a.a_relation x) (w.relation_words x)
  says_simple : (x : m.Simple) → Says s_simple (a.a_simple x) (w.simple_words x)
  says_sign : (s : Signed) → Says s_sign (a.a_sign s) (w.sign_words (Some s))
  says_added : (x : m.Added) → Says s_added (a.an_added x) (w.added_words x)
  says_adding : (x : Adding) → Says s_adding (a.an_adding x) (word (w.adding_spelling x) ∷ [])
  says_term : (x : m.Term) → Says s_term (a.a_term x) (w.term_words x)
  says_multiplied : (x : m.Multiplied) → Says s_multiplied (a.a_multiplied x) (w.multiplied_words x)
  says_multiplying : (x : Multiplying) → Says s_multiplying (a.a_multiplying x) (word (w.multiplying_spelling x) ∷ [])
  says_factor : (x : m.Factor) → Says s_factor (a.a_factor x) (w.factor_words x)
  says_operator : (x : Operator) → Says s_operator (a.an_operator x) (w.operator_words (Some x))
  says_primary : (x : m.Primary) → Says s_primary (a.a_primary x) (w.primary_words x)
  says_attribute : (i : Ident) (e : m.MaybeExpression) → Says s_attribute (a.an_attribute i e) (attribute_words i e)
  says_parens : (at : Pos) (e : m.Expression) → Says s_parens (a.in_parens at e) (w.in_parentheses (expression_words e))
  says_name : (x : m.Name) → Says s_name (a.a_name x) (w.name_words x)
  says_part : (x : m.NamePart) → Says s_part (a.a_part x) (w.part_words x)
  says_args : (x : m.Args) → Says s_args (a.some_args x) (w.args_words x)
  says_ident : (i : Ident) → Says s_ident (a.an_ident i) (w.ident_word i ∷ [])
  says_number : (n : Number) → Says s_number (a.a_number n) (w.number_word n ∷ [])
  says_literal : (l : Literal) → Says s_literal (a.a_literal l) (w.literal_word l ∷ [])
  says_real : (x : Real) → Says s_real (a.a_real x) (w.real_word x ∷ [])
  says_seconds : (x : Real) → Says s_time (a.seconds x) (w.real_word x ∷ [])
  says_duration : (at : Pos) (e : m.Expression) → Says s_time (a.duration_of at e) (word (codes "DURATION") ∷ w.in_parentheses (expression_words e))
  says_delay : (x : m.Delay) → Says s_delay (a.a_delay x) (w.delay_words x)
  says_entry : (x : m.EntryDeclaration) → Says s_entry (a.an_entry x) (w.entry_words x)
  says_doing : (x : m.Doing) (us : List Word) → Same us (w.doing_words x) → Says s_doing (a.a_doing x) us
  says_accept : (x : m.Accept) (us : List Word) → Same us (w.accept_words x) → Says s_accept (a.an_accept x) us
  says_guard : (e : m.Expression) → Says s_guard (a.an_expression e) (guard_tokens e)
  says_alternative : (x : m.Alternative) (us : List Word) → Same us (w.alternative_words x) → Says s_alternative (a.an_alternative x) us
  says_guarded : (e : m.MaybeExpression) (x : m.Alternative) (us : List Word) → Same us (or_words e x) → Says s_guarded (a.guarded e x) us
  says_unguarded : (x : m.Alternative) (xs : m.Alternatives) (y : m.MoreStatements) (us : List Word) → Same us (from_first x xs y) → Says s_unguarded (a.unguarded x xs y) us
  says_further : (xs : m.Alternatives) (y : m.MoreStatements) (us : List Word) → Same us (behind_first xs y) → Says s_further (a.further xs y) us
  says_selects : (e : m.MaybeExpression) (x : m.Alternative) (xs : m.Alternatives) (y : m.MoreStatements) (us : List Word) → Same us (w.guard_words e ++ from_first x xs y) → Says s_select_rest (a.selects e x xs y) us
  says_selects_call : (x : m.Name) (y : m.MoreStatements) (z : m.Otherwise) (us : List Word) → Same us (w.call_words x ++ (w.more_statements_words y ++ w.other_words z)) → Says s_select_rest (a.selects_call x y z) us
  says_otherwise : (x : m.Otherwise) (us : List Word) → Same us (w.other_words x) → Says s_otherwise (a.an_otherwise x) us
  says_operation : (x : m.Operation) → Says s_operation (a.an_operation x) (w.operation_words x)
  says_private_item : (x : m.PrivateItem) → Says s_private_item (a.a_private_item x) (w.private_item_words x)
  says_private : (xs : List m.PrivateItem) → Says s_private (a.some_private xs) (w.private_words (Some xs))
  says_protected : (i : Ident) (operations : List m.Operation) (hidden : Option (List m.PrivateItem)) (last : Option Ident) → Says s_protected_rest (a.a_protected i operations hidden last) (protected_words i operations hidden last)
  says_protected_body : (i : Ident) (x : m.OperationBodies) (last : Option Ident) (us : List Word) → Same us (protected_body_words i (w.operation_bodies_words x) last) → Says s_protected_rest (a.a_protected_body i x last) us
  says_operation_body : (x : m.OperationBody) (us : List Word) → Same us (w.operation_body_words x) → Says s_operation_body (a.an_operation_body x) us
  says_more_name : (x : m.Name) → Says s_more_name (a.a_name x) (word (codes ",") ∷ w.name_words x)
  says_with_abort : Says s_with_abort a.there (word (codes "with") ∷ word (codes "abort") ∷ [])

-- a list of items of a sort, and their words
pub data Row : Sort → Item → List Word → Type 0 where
  row_end : {s : Sort} → Row s none []
  row_more : {s : Sort} {x xs : Item} {us vs : List Word} → Says s x us → Row s xs vs → Row s (cons x xs) (us ++ vs)

-- the items that symbols make, and the words of the tokens that they read
pub data Told : List Symbol → List Item → List Word → Type 0 where
  t_end : Told [] [] []
  t_word : {c : Kind} {k : List Symbol} {ds : List Item} {ws : List Word} (text : List ℕ) → Told k ds ws → Told (T c ∷ k) ds (written_as (kind_number c) text ∷ ws)
  t_token : {c : Kind} {k : List Symbol} {ds : List Item} {ws : List Word} (t : Element) → Told k ds ws → Told (P c ∷ k) (token t ∷ ds) (written_as (kind_number c) t.text ∷ ws)
  t_spelled : {n : g.Word} {k : List Symbol} {ds : List Item} {ws : List Word} (t : Element) → Told k ds ws → Told (W n ∷ k) (token t ∷ ds) (word (f.spelling n) ∷ ws)
  t_part : {p : Phrase} {k : List Symbol} {x : Item} {ds : List Item} {us ws : List Word} → Says (sort p) x us → Told k ds ws → Told (N p ∷ k) (x ∷ ds) (us ++ ws)
  t_level : {p : Phrase} {k : List Symbol} {x : Item} {ds : List Item} {us ws : List Word} → Says (sort p) x us → Told k ds ws → Told (L p ∷ k) (x ∷ ds) (us ++ ws)
  t_down : {k : List Symbol} {ds : List Item} {ws : List Word} → Told k ds ws → Told (Down ∷ k) ds ws
  t_one : {p : Phrase} {ps : List Phrase} {k : List Symbol} {x : Item} {ds : List Item} {us ws : List Word} → Member p ps → Says (sort p) x us → Told k ds ws → Told (A ps ∷ k) (x ∷ ds) (us ++ ws)
  t_some : {p : Phrase} {k : List Symbol} {x : Item} {ds : List Item} {us ws : List Word} → Says (sort p) x us → Told k ds ws → Told (Opt p ∷ k) (x ∷ ds) (us ++ ws)
  t_none : {p : Phrase} {k : List Symbol} {ds : List Item} {ws : List Word} → Told k ds ws → Told (Opt p ∷ k) (none ∷ ds) ws
  t_row : {p : Phrase} {k : List Symbol} {x : Item} {ds : List Item} {us ws : List Word} → Row (sort p) x us → Told k ds ws → Told (Rep p ∷ k) (x ∷ ds) (us ++ ws)

pub so : {s : List Symbol} {ds : List Item} {us ws : List Word} → Told s ds us → us ≡ ws → Told s ds ws
so {s} {ds} h e = subst (λ z. Told s ds z) e h

pub contexts_row : {x : Item} {us : List Word} → Row s_context x us → us ≡ w.contexts_words (a.the_contexts x)
contexts_row row_end = refl
contexts_row (row_more (says_context c) r) = ap (λ z. w.context_words c ++ z) (contexts_row r)

pub declarations_row : {x : Item} {us : List Word} → Row s_declaration x us → Same us (w.declarations_words (a.the_declarations x))
declarations_row row_end = refl
declarations_row (row_more {xs = xs} {vs = vs} (says_declaration d us h) r) = same_both us (w.declaration_words d) vs (w.declarations_words (a.the_declarations xs)) h (declarations_row r)

pub formals_row : {x : Item} {us : List Word} → Row s_more_formal x us → us ≡ w.more_formals_words (a.the_formals x)
formals_row row_end = refl
formals_row (row_more (says_more_formal y) r) = ap (λ z. last_word (codes ";") ∷ (w.formal_words y ++ z)) (formals_row r)

pub statements_row : {x : Item} {us : List Word} → Row s_statement x us → Same us (w.more_statements_words (a.more_statements x))
statements_row row_end = refl
statements_row (row_more {xs = xs} {vs = vs} (says_statement s us h) r) = same_both us (w.statement_words s) vs (w.more_statements_words (a.more_statements xs)) h (statements_row r)

pub arms_row : {x : Item} {us : List Word} → Row s_arm x us → Same us (w.arms_words (a.the_arms x))
arms_row row_end = refl
arms_row (row_more {xs = xs} {vs = vs} (says_arm at e x us h) r) = same_both us (w.arm_words (codes "elsif") (expression_words e) (w.statements_words x)) vs (w.arms_words (a.the_arms xs)) h (arms_row r)

pub handlers_row : {x : Item} {us : List Word} → Row s_handler x us → Same us (w.handlers_words (a.the_handlers x))
handlers_row row_end = refl
handlers_row (row_more {xs = xs} {vs = vs} (says_handler c x us h) r) = same_both us (w.handler_words c (w.statements_words x)) vs (w.handlers_words (a.the_handlers xs)) h (handlers_row r)

pub idents_row : {delimiter : List ℕ} {x : Item} {us : List Word} → Row (s_more_ident delimiter) x us → us ≡ w.more_ident_words delimiter (a.the_idents x)
idents_row row_end = refl
idents_row (row_more (says_more_ident delimiter i) r) = ap (λ z. word delimiter ∷ w.ident_word i ∷ z) (idents_row r)

pub addeds_row : {x : Item} {us : List Word} → Row s_added x us → us ≡ w.addeds_words (a.the_addeds x)
addeds_row row_end = refl
addeds_row (row_more (says_added y) r) = ap (λ z. w.added_words y ++ z) (addeds_row r)

pub multiplieds_row : {x : Item} {us : List Word} → Row s_multiplied x us → us ≡ w.multiplieds_words (a.the_multiplieds x)
multiplieds_row row_end = refl
multiplieds_row (row_more (says_multiplied y) r) = ap (λ z. w.multiplied_words y ++ z) (multiplieds_row r)

pub parts_row : {x : Item} {us : List Word} → Row s_selected x us → us ≡ w.parts_words (a.the_parts x)
parts_row row_end = refl
parts_row (row_more (says_selected p) r) = ap (λ z. (word (codes ".") ∷ w.part_words p) ++ z) (parts_row r)

pub more_args_row : {x : Item} {us : List Word} → Row s_more_arg x us → us ≡ w.more_args_words (a.expression_args x)
more_args_row row_end = refl
more_args_row (row_more (says_more_arg e) r) = ap (λ z. word (codes ",") ∷ (expression_words e ++ z)) (more_args_row r)

pub relations_row : {operator : Connective} {x : Item} {us : List Word} → Row (s_more_relation operator) x us → us ≡ w.relations_words operator (a.the_relations x)
relations_row row_end = refl
relations_row (row_more (says_more_relation operator y) r) = ap (λ z. w.connected_words operator y ++ z) (relations_row r)

pub entries_row : {x : Item} {us : List Word} → Row s_entry x us → us ≡ w.entries_words (a.the_entries x)
entries_row row_end = refl
entries_row (row_more (says_entry y) r) = ap (λ z. w.entry_words y ++ z) (entries_row r)

pub alternatives_row : {x : Item} {us : List Word} → Row s_guarded x us → Same us (w.alternatives_words (a.the_alternatives x))
alternatives_row row_end = refl
alternatives_row (row_more {xs = xs} {vs = vs} (says_guarded e y us h) r) = same_both us (or_words e y) vs (w.alternatives_words (a.the_alternatives xs)) h (alternatives_row r)

pub operations_row : {x : Item} {us : List Word} → Row s_operation x us → us ≡ w.operations_words (a.the_operations x)
operations_row row_end = refl
operations_row (row_more (says_operation y) r) = ap (λ z. w.operation_words y ++ z) (operations_row r)

pub private_row : {x : Item} {us : List Word} → Row s_private_item x us → us ≡ w.private_items_words (a.the_private_items x)
private_row row_end = refl
private_row (row_more (says_private_item y) r) = ap (λ z. w.private_item_words y ++ z) (private_row r)

pub operation_bodies_row : {x : Item} {us : List Word} → Row s_operation_body x us → Same us (w.operation_bodies_words (a.the_operation_bodies x))
operation_bodies_row row_end = refl
operation_bodies_row (row_more {xs = xs} {vs = vs} (says_operation_body y us h) r) = same_both us (w.operation_body_words y) vs (w.operation_bodies_words (a.the_operation_bodies xs)) h (operation_bodies_row r)

pub names_row : {x : Item} {us : List Word} → Row s_more_name x us → us ≡ w.more_names_words (a.the_names x)
names_row row_end = refl
names_row (row_more (says_more_name y) r) = ap (λ z. (word (codes ",") ∷ w.name_words y) ++ z) (names_row r)

pub no_member : {p : Phrase} → Member p [] → ⊥
no_member h = elim h [ ]

-- what one of several phrases of a sort says
pub of_sort : {o : Sort} {p : Phrase} {ps : List Phrase} {x : Item} {us : List Word} → Member p ps → map sort ps ≡ map (λ q. o) ps → Says (sort p) x us → Says o x us
of_sort {x = x} {us} here e s = subst (λ o. Says o x us) (heads e).0 s
of_sort (later m) e s = of_sort m (heads e).1 s
