-- The words of a tree do not depend on its places.
use Rattle.std.proofs.Common.{◌≡◌, ℕ, List, [], ◌∷◌, ◌++◌, map, refl, sym, ap, ◌∙◌}
use Rattle.std.specs.Prelude.{Option, Some, None, codes}
use Rattle.aud_lex.specs.Why.Spaced.{Word, word, last_word, spaced}
use Rattle.aud_syntax.specs.declared.tree.Ident.{Ident}
use Rattle.aud_syntax.specs.declared.tree.Connective.{Connective}
use Rattle.aud_syntax.specs.declared.tree.Mode.{Mode}
use Rattle.aud_syntax.specs.declared.tree.Mode.TheVariants as mode
use Rattle.aud_syntax.specs.Plain as m
use Rattle.aud_syntax.specs.Why.Bare.{bare_ident, bare_end, bare_expression, bare_relations, bare_relation, bare_name, bare_parts, bare_part, bare_args, bare_simple, bare_addeds, bare_term, bare_multiplieds, bare_factor, bare_primary, bare_maybe, bare_mode, bare_formal, bare_entry, bare_definition, bare_operation, bare_private_item, bare_private, bare_delay, bare_names, bare_declaration, bare_declarations, bare_iteration, bare_choices, bare_statement, bare_more_statements, bare_statements, bare_arms, bare_body, bare_handlers, bare_operation_body, bare_operation_bodies, bare_accept, bare_doing, bare_alternative, bare_alternatives, bare_other, bare_context, bare}
use Rattle.aud_syntax.specs.Why.Printed as w
use Rattle.aud_syntax.specs.Why.Laws.{WithoutPlaces}

end_same : (s : Option Ident) → w.end_words (bare_end s) ≡ w.end_words s
end_same None = refl
end_same (Some x) = refl

mutual
  expression_same : (e : m.Expression) → w.expression_words (bare_expression e) ≡ w.expression_words e
  expression_same (m.alone x) = relation_same x
  expression_same (m.connected c x y xs) = cc (relation_same x, relation_same y, relations_same c xs)

  relations_same : (c : Connective) (xs : m.Relations) → w.relations_words c (bare_relations xs) ≡ w.relations_words c xs
  relations_same c m.no_relations = refl
  relations_same c (m.more_relations x xs) = cc (relation_same x, relations_same c xs)

  relation_same : (e : m.Relation) → w.relation_words (bare_relation e) ≡ w.relation_words e
  relation_same (m.unrelated x) = simple_same x
  relation_same (m.related operator x y) = cc (simple_same x, simple_same y)

  simple_same : (e : m.Simple) → w.simple_words (bare_simple e) ≡ w.simple_words e
  simple_same (m.simple None t rest) = cc (term_same t, addeds_same rest)
  simple_same (m.simple (Some x) t rest) = cc (term_same t, addeds_same rest)

  addeds_same : (xs : m.Addeds) → w.addeds_words (bare_addeds xs) ≡ w.addeds_words xs
  addeds_same m.no_addeds = refl
  addeds_same (m.more_addeds (m.added operator t) xs) = cc (term_same t, addeds_same xs)

  term_same : (t : m.Term) → w.term_words (bare_term t) ≡ w.term_words t
  term_same (m.term x rest) = cc (factor_same x, multiplieds_same rest)

  multiplieds_same : (xs : m.Multiplieds) → w.multiplieds_words (bare_multiplieds xs) ≡ w.multiplieds_words xs
  multiplieds_same m.no_multiplieds = refl
  multiplieds_same (m.more_multiplieds (m.multiplied operator x) xs) = cc (factor_same x, multiplieds_same xs)

  factor_same : (x : m.Factor) → w.factor_words (bare_factor x) ≡ w.factor_words x
  factor_same (m.factor None x) = primary_same x
  factor_same (m.factor (Some operator) x) = cc (primary_same x)

  primary_same : (x : m.Primary) → w.primary_words (bare_primary x) ≡ w.primary_words x
  primary_same (m.integer x) = refl
  primary_same (m.text x) = refl
  primary_same (m.name x) = name_same x
  primary_same (m.attribute x y e) = cc (name_same x, argument_same e)
  primary_same (m.group at e) = cc (expression_same e)

  argument_same : (e : m.MaybeExpression) → w.argument_words (bare_maybe e) ≡ w.argument_words e
  argument_same m.no_expression = refl
  argument_same (m.an_expression e) = cc (expression_same e)

  name_same : (x : m.Name) → w.name_words (bare_name x) ≡ w.name_words x
  name_same (m.named x xs) = cc (part_same x, parts_same xs)

  parts_same : (xs : m.Parts) → w.parts_words (bare_parts xs) ≡ w.parts_words xs
  parts_same m.no_parts = refl
  parts_same (m.more_parts x xs) = cc (part_same x, parts_same xs)

  part_same : (x : m.NamePart) → w.part_words (bare_part x) ≡ w.part_words x
  part_same (m.part i xs) = cc (args_same xs)

  args_same : (xs : m.Args) → w.args_words (bare_args xs) ≡ w.args_words xs
  args_same m.no_args = refl
  args_same (m.more_args e xs) = cc (expression_same e, more_args_same xs)

  more_args_same : (xs : m.Args) → w.more_args_words (bare_args xs) ≡ w.more_args_words xs
  more_args_same m.no_args = refl
  more_args_same (m.more_args e xs) = cc (expression_same e, more_args_same xs)

maybe_same : (spelling : List ℕ) (e : m.MaybeExpression) → w.maybe_words spelling (bare_maybe e) ≡ w.maybe_words spelling e
maybe_same spelling m.no_expression = refl
maybe_same spelling (m.an_expression e) = cc (expression_same e)

more_idents_same : (delimiter : List ℕ) (xs : List Ident) → w.more_ident_words delimiter (map bare_ident xs) ≡ w.more_ident_words delimiter xs
more_idents_same delimiter [] = refl
more_idents_same delimiter (x ∷ xs) = cc (more_idents_same delimiter xs)

value_same : (e : m.MaybeExpression) → w.value_words (bare_maybe e) ≡ w.value_words e
value_same m.no_expression = refl
value_same (m.an_expression e) = expression_same e

mode_same : (x : Mode) → w.mode_words (bare_mode x) ≡ w.mode_words x
mode_same mode.Unstated = refl
mode_same (mode.In at) = refl
mode_same (mode.Out at) = refl
mode_same (mode.InOut at) = refl

formal_same : (x : m.Formal) → w.formal_words (bare_formal x) ≡ w.formal_words x
formal_same (m.formal x xs how subtype) = cc (more_idents_same (codes ",") xs, mode_same how)

more_formals_same : (xs : List m.Formal) → w.more_formals_words (map bare_formal xs) ≡ w.more_formals_words xs
more_formals_same [] = refl
more_formals_same (x ∷ xs) = cc (formal_same x, more_formals_same xs)

formals_same : (xs : List m.Formal) → w.formals_words (map bare_formal xs) ≡ w.formals_words xs
formals_same [] = refl
formals_same (x ∷ xs) = cc (formal_same x, more_formals_same xs)

entry_same : (x : m.EntryDeclaration) → w.entry_words (bare_entry x) ≡ w.entry_words x
entry_same x = cc (formals_same x.formals)

entries_same : (xs : List m.EntryDeclaration) → w.entries_words (map bare_entry xs) ≡ w.entries_words xs
entries_same [] = refl
entries_same (x ∷ xs) = cc (entry_same x, entries_same xs)

definition_same : (x : Option m.TaskDefinition) → w.definition_words (bare_definition x) ≡ w.definition_words x
definition_same None = refl
definition_same (Some x) = cc (entries_same x.entries, end_same x.end_name)

operation_same : (x : m.Operation) → w.operation_words (bare_operation x) ≡ w.operation_words x
operation_same (m.entry_operation x) = entry_same x
operation_same (m.procedure_operation x formals) = cc (formals_same formals)
operation_same (m.function_operation x formals subtype) = cc (formals_same formals)

operations_same : (xs : List m.Operation) → w.operations_words (map bare_operation xs) ≡ w.operations_words xs
operations_same [] = refl
operations_same (x ∷ xs) = cc (operation_same x, operations_same xs)

private_item_same : (x : m.PrivateItem) → w.private_item_words (bare_private_item x) ≡ w.private_item_words x
private_item_same (m.private_operation x) = operation_same x
private_item_same (m.components x xs subtype value) = cc (more_idents_same (codes ",") xs, maybe_same (codes ":=") value)

private_items_same : (xs : List m.PrivateItem) → w.private_items_words (map bare_private_item xs) ≡ w.private_items_words xs
private_items_same [] = refl
private_items_same (x ∷ xs) = cc (private_item_same x, private_items_same xs)

private_same : (x : Option (List m.PrivateItem)) → w.private_words (bare_private x) ≡ w.private_words x
private_same None = refl
private_same (Some xs) = cc (private_items_same xs)

delay_same : (x : m.Delay) → w.delay_words (bare_delay x) ≡ w.delay_words x
delay_same (m.delay_real at x) = refl
delay_same (m.delay_duration at named e) = cc (expression_same e)

names_same : (xs : m.Names) → w.more_names_words (bare_names xs) ≡ w.more_names_words xs
names_same m.no_names = refl
names_same (m.more_names x xs) = cc (name_same x, names_same xs)

guard_same : (e : m.MaybeExpression) → w.guard_words (bare_maybe e) ≡ w.guard_words e
guard_same m.no_expression = refl
guard_same (m.an_expression e) = cc (expression_same e)

label_same : (s : Option Ident) → w.label_words (bare_end s) ≡ w.label_words s
label_same None = refl
label_same (Some x) = refl

iteration_same : (i : m.Iteration) → w.iteration_words (bare_iteration i) ≡ w.iteration_words i
iteration_same m.forever = refl
iteration_same (m.while e) = cc (expression_same e)
iteration_same (m.for x reverse low high) = cc (simple_same low, simple_same high)

choices_same : (x : m.Choices) → w.choices_words (bare_choices x) ≡ w.choices_words x
choices_same (m.exceptions x xs) = cc (more_idents_same (codes "|") xs)
choices_same (m.others at) = refl

-- words made of others that are the same

both : {A B C : Type 0} (f : A → B → C) {a c : A} {b d : B} → a ≡ c → b ≡ d → f a b ≡ f c d
both f h i = cc

all_three : {A B C D : Type 0} (f : A → B → C → D) {a x : A} {b y : B} {c z : C} → a ≡ x → b ≡ y → c ≡ z → f a b c ≡ f x y z
all_three f h i j = cc

all_four : {A B C D E : Type 0} (f : A → B → C → D → E) {a x : A} {b y : B} {c z : C} {d w : D} → a ≡ x → b ≡ y → c ≡ z → d ≡ w → f a b c d ≡ f x y z w
all_four f h i j k = cc

ended_same : {us vs : List Word} → us ≡ vs → us ++ (last_word (codes ";") ∷ []) ≡ vs ++ (last_word (codes ";") ∷ [])
ended_same h = ap (λ a. a ++ (last_word (codes ";") ∷ [])) h

ending_same : (s : Option Ident) → w.ending_words (bare_end s) ≡ w.ending_words s
ending_same s = ap (λ a. word (codes "end") ∷ (a ++ (last_word (codes ";") ∷ []))) (end_same s)

enclosed_same : (spelling : List ℕ) {us vs hs ks : List Word} (last : Option Ident) → us ≡ vs → hs ≡ ks → w.enclosed_words spelling us hs (bare_end last) ≡ w.enclosed_words spelling vs ks last
enclosed_same spelling last h i = all_three (λ a b c. last_word spelling ∷ (a ++ (b ++ c))) h i (ending_same last)

-- an else part and handlers, by the words behind the first

else_same : (xs : m.MoreStatements) {us vs : List Word} → us ≡ vs → w.otherwise_words (bare_more_statements xs) us ≡ w.otherwise_words xs vs
else_same m.no_statements h = refl
else_same (m.more_statements x xs) h = ap (λ a. last_word (codes "else") ∷ a) h

handlers_behind : (xs : m.Handlers) {us vs : List Word} → us ≡ vs → w.handled_words (bare_handlers xs) us ≡ w.handled_words xs vs
handlers_behind m.no_handlers h = refl
handlers_behind (m.more_handlers x statements xs) h = ap (λ a. last_word (codes "exception") ∷ a) h

mutual
  declaration_same : (x : m.Declaration) → w.declaration_words (bare_declaration x) ≡ w.declaration_words x
  declaration_same (m.object x xs subtype value) =
      both (λ a b. w.ident_word x ∷ (a ++ (word (codes ":") ∷ w.ident_word subtype ∷ (b ++ (last_word (codes ";") ∷ []))))) (more_idents_same (codes ",") xs) (maybe_same (codes ":=") value)
  declaration_same (m.constant x xs subtype value) =
      both (λ a b. w.ident_word x ∷ (a ++ (word (codes ":") ∷ word (codes "constant") ∷ w.ident_word subtype ∷ word (codes ":=") ∷ (b ++ (last_word (codes ";") ∷ []))))) (more_idents_same (codes ",") xs) (expression_same value)
  declaration_same (m.array x xs low high subtype) =
      ap (λ a. w.ident_word x ∷ (a ++ (word (codes ":") ∷ word (codes "array") ∷ (w.index_words low high ++ (word (codes "of") ∷ w.ident_word subtype ∷ last_word (codes ";") ∷ []))))) (more_idents_same (codes ",") xs)
  declaration_same (m.exception x xs) = ap (λ a. w.ident_word x ∷ (a ++ (word (codes ":") ∷ word (codes "exception") ∷ last_word (codes ";") ∷ []))) (more_idents_same (codes ",") xs)
  declaration_same (m.procedure at x formals ds rest) = all_three (λ a b c. word (codes "procedure") ∷ w.ident_word x ∷ (a ++ (last_word (codes "is") ∷ (b ++ c)))) (formals_same formals) (declarations_same ds) (body_same rest)
  declaration_same (m.task at is_type x definition) = ap (λ a. word (codes "task") ∷ (w.type_words is_type ++ (w.ident_word x ∷ (a ++ (last_word (codes ";") ∷ []))))) (definition_same definition)
  declaration_same (m.task_body at x ds rest) = both (λ a b. word (codes "task") ∷ word (codes "body") ∷ w.ident_word x ∷ last_word (codes "is") ∷ (a ++ b)) (declarations_same ds) (body_same rest)
  declaration_same (m.protected at x operations hidden last) =
      all_three (λ a b c. word (codes "protected") ∷ w.ident_word x ∷ last_word (codes "is") ∷ (a ++ (b ++ c))) (operations_same operations) (private_same hidden) (ending_same last)
  declaration_same (m.protected_body at x bodies last) = both (λ a b. word (codes "protected") ∷ word (codes "body") ∷ w.ident_word x ∷ last_word (codes "is") ∷ (a ++ b)) (operation_bodies_same bodies) (ending_same last)

  declarations_same : (xs : m.Declarations) → w.declarations_words (bare_declarations xs) ≡ w.declarations_words xs
  declarations_same m.no_declarations = refl
  declarations_same (m.more_declarations x xs) = both (λ a b. a ++ b) (declaration_same x) (declarations_same xs)

  statement_same : (x : m.Statement) → w.statement_words (bare_statement x) ≡ w.statement_words x
  statement_same (m.null at) = refl
  statement_same (m.assign x e) = both (λ a b. a ++ (word (codes ":=") ∷ (b ++ (last_word (codes ";") ∷ [])))) (name_same x) (expression_same e)
  statement_same (m.call x) = ended_same (name_same x)
  statement_same (m.if_then at e statements arms otherwise) =
      all_four (λ a b c d. w.arm_words (codes "if") a b ++ (c ++ (d ++ (word (codes "end") ∷ word (codes "if") ∷ last_word (codes ";") ∷ [])))) (expression_same e) (statements_same statements) (arms_same arms) (else_same otherwise (more_statements_same otherwise))
  statement_same (m.loop label at i statements last semicolon) =
      all_four (λ a b c d. a ++ (b ++ (last_word (codes "loop") ∷ (c ++ (word (codes "end") ∷ word (codes "loop") ∷ (d ++ (last_word (codes ";") ∷ []))))))) (label_same label) (iteration_same i) (statements_same statements) (end_same last)
  statement_same (m.exit at label e) = both (λ a b. word (codes "exit") ∷ (a ++ (b ++ (last_word (codes ";") ∷ [])))) (end_same label) (maybe_same (codes "when") e)
  statement_same (m.block label at declare ds x) = all_three (λ a b c. a ++ (w.declare_words declare ++ (b ++ c))) (label_same label) (declarations_same ds) (body_same x)
  statement_same (m.return at e) = ap (λ a. word (codes "return") ∷ (a ++ (last_word (codes ";") ∷ []))) (value_same e)
  statement_same (m.raise at x) = ap (λ a. word (codes "raise") ∷ (a ++ (last_word (codes ";") ∷ []))) (end_same x)
  statement_same (m.accepting x) = accept_same x
  statement_same (m.delaying x) = delay_same x
  statement_same (m.select_accept at e x xs otherwise) =
      all_four (λ a b c d. last_word (codes "select") ∷ ((a ++ b) ++ (c ++ (d ++ w.end_select_words)))) (guard_same e) (alternative_same x) (alternatives_same xs) (else_same otherwise (more_statements_same otherwise))
  statement_same (m.select_call at x behind otherwise) =
      all_three (λ a b c. last_word (codes "select") ∷ (a ++ (b ++ (c ++ w.end_select_words)))) (ended_same (name_same x)) (more_statements_same behind) (other_same otherwise)
  statement_same (m.abort at x xs) = both (λ a b. word (codes "abort") ∷ ((a ++ b) ++ (last_word (codes ";") ∷ []))) (name_same x) (names_same xs)
  statement_same (m.requeue at x with_abort) = ap (λ a. word (codes "requeue") ∷ (a ++ (w.with_abort_words with_abort ++ (last_word (codes ";") ∷ [])))) (name_same x)

  more_statements_same : (xs : m.MoreStatements) → w.more_statements_words (bare_more_statements xs) ≡ w.more_statements_words xs
  more_statements_same m.no_statements = refl
  more_statements_same (m.more_statements x xs) = both (λ a b. a ++ b) (statement_same x) (more_statements_same xs)

  statements_same : (xs : m.Statements) → w.statements_words (bare_statements xs) ≡ w.statements_words xs
  statements_same (m.in_order x xs) = both (λ a b. a ++ b) (statement_same x) (more_statements_same xs)

  arms_same : (xs : m.Arms) → w.arms_words (bare_arms xs) ≡ w.arms_words xs
  arms_same m.no_arms = refl
  arms_same (m.more_arms at e statements arms) = all_three (λ a b c. w.arm_words (codes "elsif") a b ++ c) (expression_same e) (statements_same statements) (arms_same arms)

  body_same : (x : m.Body) → w.body_words (bare_body x) ≡ w.body_words x
  body_same (m.body begin statements handlers end last semicolon) = enclosed_same (codes "begin") last (statements_same statements) (handlers_behind handlers (handlers_same handlers))

  handlers_same : (xs : m.Handlers) → w.handlers_words (bare_handlers xs) ≡ w.handlers_words xs
  handlers_same m.no_handlers = refl
  handlers_same (m.more_handlers x statements xs) = all_three (λ a b c. (word (codes "when") ∷ (a ++ (last_word (codes "=>") ∷ b))) ++ c) (choices_same x) (statements_same statements) (handlers_same xs)

  operation_body_same : (x : m.OperationBody) → w.operation_body_words (bare_operation_body x) ≡ w.operation_body_words x
  operation_body_same (m.entry_body at x formals e ds rest) =
      all_four (λ a b c d. (word (codes "entry") ∷ w.ident_word x ∷ a) ++ ((word (codes "when") ∷ b) ++ (last_word (codes "is") ∷ (c ++ d)))) (formals_same formals) (expression_same e) (declarations_same ds) (body_same rest)
  operation_body_same (m.procedure_body at x formals ds rest) =
      all_three (λ a b c. (word (codes "procedure") ∷ w.ident_word x ∷ a) ++ (last_word (codes "is") ∷ (b ++ c))) (formals_same formals) (declarations_same ds) (body_same rest)
  operation_body_same (m.function_body at x formals subtype ds rest) =
      all_three (λ a b c. (word (codes "function") ∷ w.ident_word x ∷ a) ++ (word (codes "return") ∷ w.ident_word subtype ∷ last_word (codes "is") ∷ (b ++ c))) (formals_same formals) (declarations_same ds) (body_same rest)

  operation_bodies_same : (xs : m.OperationBodies) → w.operation_bodies_words (bare_operation_bodies xs) ≡ w.operation_bodies_words xs
  operation_bodies_same m.no_bodies = refl
  operation_bodies_same (m.more_bodies x xs) = both (λ a b. a ++ b) (operation_body_same x) (operation_bodies_same xs)

  accept_same : (x : m.Accept) → w.accept_words (bare_accept x) ≡ w.accept_words x
  accept_same (m.accept at x formals doing) = both (λ a b. (word (codes "accept") ∷ w.ident_word x ∷ a) ++ b) (formals_same formals) (doing_same doing)

  doing_same : (x : m.Doing) → w.doing_words (bare_doing x) ≡ w.doing_words x
  doing_same m.without_do = refl
  doing_same (m.with_do (m.body begin statements handlers end last semicolon)) = enclosed_same (codes "do") last (statements_same statements) (handlers_behind handlers (handlers_same handlers))

  alternative_same : (x : m.Alternative) → w.alternative_words (bare_alternative x) ≡ w.alternative_words x
  alternative_same (m.accept_alternative x behind) = both (λ a b. a ++ b) (accept_same x) (more_statements_same behind)
  alternative_same (m.delay_alternative x behind) = both (λ a b. a ++ b) (delay_same x) (more_statements_same behind)
  alternative_same m.terminate_alternative = refl

  alternatives_same : (xs : m.Alternatives) → w.alternatives_words (bare_alternatives xs) ≡ w.alternatives_words xs
  alternatives_same m.no_alternatives = refl
  alternatives_same (m.more_alternatives e x xs) = all_three (λ a b c. (last_word (codes "or") ∷ (a ++ b)) ++ c) (guard_same e) (alternative_same x) (alternatives_same xs)

  other_same : (x : m.Otherwise) → w.other_words (bare_other x) ≡ w.other_words x
  other_same (m.or_delay x behind) = both (λ a b. last_word (codes "or") ∷ (a ++ b)) (delay_same x) (more_statements_same behind)
  other_same (m.or_else statements) = ap (λ a. last_word (codes "else") ∷ a) (statements_same statements)

context_same : (x : m.Context) → w.context_words (bare_context x) ≡ w.context_words x
context_same (m.with_text_io at) = refl
context_same (m.use_text_io at) = refl

contexts_same : (xs : List m.Context) → w.contexts_words (map bare_context xs) ≡ w.contexts_words xs
contexts_same [] = refl
contexts_same (x ∷ xs) = cc (context_same x, contexts_same xs)

unit_same : (u : m.Unit) → w.unit_words (bare u) ≡ w.unit_words u
unit_same (m.unit context at x declarations rest) = cc (contexts_same context, declarations_same declarations, body_same rest)

pub without_places : WithoutPlaces
without_places u v e = ap spaced (sym (unit_same u) ∙ ap w.unit_words e ∙ unit_same v)
