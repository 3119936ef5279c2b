-- The words of programs, declarations and bodies are those of their symbols.
use Rattle.std.proofs.Common.{List, [], ◌∷◌, ◌++◌, refl, sym, ap, ◌∙◌, append_assoc}
use Rattle.std.specs.Prelude.{Option, Some, None, codes, true, false}
use Rattle.aud_lex.specs.Element.{Element}
use Rattle.aud_lex.specs.Why.Spaced.{Word, word, last_word}
use Rattle.aud_syntax.specs.declared.tree.Ident.{Ident}
use Rattle.aud_syntax.specs.declared.tree.Mode.TheVariants as mode
use Rattle.aud_syntax.specs.Plain as m
use Rattle.aud_syntax.specs.Why.Printed as w
use Rattle.aud_grammar.specs.Grammar as g
use Rattle.aud_grammar.specs.Grammar.{Symbol, N, rule}
use Rattle.aud_grammar.specs.Actions as a
use Rattle.aud_grammar.specs.Actions.{Item, none, cons, made}
use Rattle.aud_grammar.proofs.Sorts.{s_declaration, s_task_rest, s_body}
use Rattle.aud_grammar.proofs.Told.{Says, says_unit, says_context, says_library, says_variable, says_constant, says_array, says_exception, says_index, says_bound, says_negated, says_declarations, says_declaration, says_formals, says_formal, says_more_formal, says_mode, says_in_out, says_task, says_task_body, says_task_type, says_definition, says_idents, says_more_ident, says_initial, says_body, says_handlers, says_handler_list, says_handler, says_choices, says_statements, says_expression, says_ident, says_number, Told, t_word, t_token, t_spelled, t_part, t_level, t_down, t_some, t_none, t_row, so, contexts_row, declarations_row, formals_row, handlers_row, idents_row}
use Rattle.aud_grammar.proofs.SameWords.{expression_words, variable_words, constant_words, array_words, exception_words, Same, same_both, one_on, list_between, list_first, arm, arm_same, in_body, body_words, body_same, procedure_words, procedure_on, procedure_same, task_body_words, task_body_on, task_body_same, unit_same}

-- a procedure, the body of a task and a body, of their parts

procedure_says : (t : Element) (i : Ident) (fs : List m.Formal) (ds : m.Declarations) (b : m.Body) (es vs : List Word) → Same es (w.declarations_words ds) → Same vs (w.body_words b) →
    Says s_declaration (a.a_declaration (m.procedure t.at i fs ds b)) (procedure_words i (w.formals_words fs) es vs)
procedure_says t i fs ds b es vs h j = says_declaration (m.procedure t.at i fs ds b) (procedure_words i (w.formals_words fs) es vs) (procedure_same i (w.formals_words fs) es (w.declarations_words ds) vs (w.body_words b) h j)

task_body_says : (i : Ident) (ds : m.Declarations) (b : m.Body) (es vs : List Word) → Same es (w.declarations_words ds) → Same vs (w.body_words b) → Says s_task_rest (a.a_task_body i ds b) (task_body_words i es vs)
task_body_says i ds b es vs h j = says_task_body i ds b (task_body_words i es vs) (task_body_same i es (w.declarations_words ds) vs (w.body_words b) h j)

body_says : (b : Element) (x : m.Statements) (y : Item) (us hs : List Word) (e : Element) (last : Option Ident) (s : Element) → Same us (w.statements_words x) → Same hs (w.handled_words (a.the_handlers y) (w.handlers_words (a.the_handlers y))) →
    Says s_body (a.a_body (m.body b.at x (a.the_handlers y) e.at last s.at)) (in_body us hs (w.end_words last) [])
body_says b x y us hs e last s h j =
    says_body (m.body b.at x (a.the_handlers y) e.at last s.at) (in_body us hs (w.end_words last) [])
    (body_same us (w.statements_words x) hs (w.handled_words (a.the_handlers y) (w.handlers_words (a.the_handlers y))) (w.end_words last) h j)

pub unit_told : {k : List Symbol} {ds : List Item} {ws : List Word} → Told (rule g.Unit ++ k) ds ws → Told (N g.Unit ∷ k) (made g.Unit ds) ws
unit_told (t_row {x = x} {us = us} row (t_token u (t_part (says_ident i) (t_word y (t_some (says_declarations d es k) (t_part {ws = ws} (says_body b vs h) r)))))) =
    so (t_part (says_unit (m.unit (a.the_contexts x) u.at i (a.the_declarations d) b) (w.contexts_words (a.the_contexts x) ++ procedure_words i [] es vs) (unit_same (a.the_contexts x) i es (w.declarations_words (a.the_declarations d)) vs (w.body_words b) k h)) r)
    (list_first (w.contexts_words (a.the_contexts x)) (procedure_words i [] es vs) us ws (contexts_row row)
    ∙ ap (λ z. us ++ z) (procedure_on i [] es vs ws))
unit_told (t_row {x = x} {us = us} row (t_token u (t_part (says_ident i) (t_word y (t_none (t_part {ws = ws} (says_body b vs h) r)))))) =
    so (t_part (says_unit (m.unit (a.the_contexts x) u.at i m.no_declarations b) (w.contexts_words (a.the_contexts x) ++ procedure_words i [] [] vs) (unit_same (a.the_contexts x) i [] [] vs (w.body_words b) refl h)) r)
    (list_first (w.contexts_words (a.the_contexts x)) (procedure_words i [] [] vs) us ws (contexts_row row))

pub with_clause_told : {k : List Symbol} {ds : List Item} {ws : List Word} → Told (rule g.WithClause ++ k) ds ws → Told (N g.WithClause ∷ k) (made g.WithClause ds) ws
with_clause_told (t_token t (t_part says_library r)) = t_part (says_context (m.with_text_io t.at)) r

pub use_clause_told : {k : List Symbol} {ds : List Item} {ws : List Word} → Told (rule g.UseClause ++ k) ds ws → Told (N g.UseClause ∷ k) (made g.UseClause ds) ws
use_clause_told (t_token t (t_part says_library r)) = t_part (says_context (m.use_text_io t.at)) r

pub library_told : {k : List Symbol} {ds : List Item} {ws : List Word} → Told (rule g.Library ++ k) ds ws → Told (N g.Library ∷ k) (made g.Library ds) ws
library_told (t_spelled t (t_word p (t_spelled u (t_word s r)))) = t_part says_library r

pub declarations_told : {k : List Symbol} {ds : List Item} {ws : List Word} → Told (rule g.Declarations ++ k) ds ws → Told (N g.Declarations ∷ k) (made g.Declarations ds) ws
declarations_told (t_level s (t_down r)) = t_part s r

pub declaration_list_told : {k : List Symbol} {ds : List Item} {ws : List Word} → Told (rule g.DeclarationList ++ k) ds ws → Told (N g.DeclarationList ∷ k) (made g.DeclarationList ds) ws
declaration_list_told (t_part (says_declaration d vs h) (t_row {x = x} {us = us} {ws = ws} row r)) =
    so (t_part (says_declarations (cons (a.a_declaration d) x) (vs ++ us) (same_both vs (w.declaration_words d) us (w.declarations_words (a.the_declarations x)) h (declarations_row row))) r) (append_assoc vs us ws)

pub named_declaration_told : {k : List Symbol} {ds : List Item} {ws : List Word} → Told (rule g.NamedDeclaration ++ k) ds ws → Told (N g.NamedDeclaration ∷ k) (made g.NamedDeclaration ds) ws
named_declaration_told (t_part (says_idents x xs) (t_word c (t_part {ws = ws} (says_variable i e) r))) =
    so (t_part (says_declaration (m.object x xs i e) (w.object_words x xs i e) refl) r) (append_assoc (w.idents_words x xs) (word (codes ":") ∷ variable_words i e) ws)
named_declaration_told (t_part (says_idents x xs) (t_word c (t_part {ws = ws} (says_constant i e) r))) =
    so (t_part (says_declaration (m.constant x xs i e) (w.constant_words x xs i e) refl) r) (append_assoc (w.idents_words x xs) (word (codes ":") ∷ constant_words i e) ws)
named_declaration_told (t_part (says_idents x xs) (t_word c (t_part {ws = ws} (says_array l h i) r))) =
    so (t_part (says_declaration (m.array x xs l h i) (w.array_words x xs l h i) refl) r) (append_assoc (w.idents_words x xs) (word (codes ":") ∷ array_words l h i) ws)
named_declaration_told (t_part (says_idents x xs) (t_word c (t_part {ws = ws} says_exception r))) =
    so (t_part (says_declaration (m.exception x xs) (w.exception_words x xs) refl) r) (append_assoc (w.idents_words x xs) (word (codes ":") ∷ exception_words) ws)

pub array_rest_told : {k : List Symbol} {ds : List Item} {ws : List Word} → Told (rule g.ArrayRest ++ k) ds ws → Told (N g.ArrayRest ∷ k) (made g.ArrayRest ds) ws
array_rest_told (t_word c (t_part (says_index l h) (t_word o (t_part (says_ident i) (t_word {ws = ws} s r))))) =
    so (t_part (says_array l h i) r) (ap (λ z. word (codes "array") ∷ z) (append_assoc (w.index_words l h) (word (codes "of") ∷ w.ident_word i ∷ last_word (codes ";") ∷ []) ws))

pub index_told : {k : List Symbol} {ds : List Item} {ws : List Word} → Told (rule g.Index ++ k) ds ws → Told (N g.Index ∷ k) (made g.Index ds) ws
index_told (t_level s (t_down r)) = t_part s r

pub in_index_told : {k : List Symbol} {ds : List Item} {ws : List Word} → Told (rule g.InIndex ++ k) ds ws → Told (N g.InIndex ∷ k) (made g.InIndex ds) ws
in_index_told (t_word o (t_part (says_bound l) (t_word d (t_part (says_bound h) (t_word {ws = ws} c r))))) =
    let range : List Word = w.range_words (w.bound_words l) (w.bound_words h) in
    so (t_part (says_index l h) r) (ap (λ z. word (codes "(") ∷ z) (append_assoc range (word (codes ")") ∷ []) ws ∙ append_assoc (w.bound_words l) (word (codes "..") ∷ w.bound_words h) (word (codes ")") ∷ ws)))

pub bound_told : {k : List Symbol} {ds : List Item} {ws : List Word} → Told (rule g.Bound ++ k) ds ws → Told (N g.Bound ∷ k) (made g.Bound ds) ws
bound_told (t_some says_negated (t_part (says_number n) r)) = t_part (says_bound (record { negative = true; number = n })) r
bound_told (t_none (t_part (says_number n) r)) = t_part (says_bound (record { negative = false; number = n })) r

pub negated_told : {k : List Symbol} {ds : List Item} {ws : List Word} → Told (rule g.Negated ++ k) ds ws → Told (N g.Negated ∷ k) (made g.Negated ds) ws
negated_told (t_word c r) = t_part says_negated r

pub exception_rest_told : {k : List Symbol} {ds : List Item} {ws : List Word} → Told (rule g.ExceptionRest ++ k) ds ws → Told (N g.ExceptionRest ∷ k) (made g.ExceptionRest ds) ws
exception_rest_told (t_word c (t_word s r)) = t_part says_exception r

pub variable_told : {k : List Symbol} {ds : List Item} {ws : List Word} → Told (rule g.Variable ++ k) ds ws → Told (N g.Variable ∷ k) (made g.Variable ds) ws
variable_told (t_part (says_ident i) (t_some (says_initial e) (t_word {ws = ws} s r))) =
    so (t_part (says_variable i (m.an_expression e)) r) (ap (λ z. w.ident_word i ∷ word (codes ":=") ∷ z) (append_assoc (expression_words e) (last_word (codes ";") ∷ []) ws))
variable_told (t_part (says_ident i) (t_none (t_word s r))) = t_part (says_variable i m.no_expression) r

pub constant_told : {k : List Symbol} {ds : List Item} {ws : List Word} → Told (rule g.Constant ++ k) ds ws → Told (N g.Constant ∷ k) (made g.Constant ds) ws
constant_told (t_word c (t_part (says_ident i) (t_part (says_initial e) (t_word {ws = ws} s r)))) =
    so (t_part (says_constant i e) r) (ap (λ z. word (codes "constant") ∷ w.ident_word i ∷ word (codes ":=") ∷ z) (append_assoc (expression_words e) (last_word (codes ";") ∷ []) ws))

pub identifiers_told : {k : List Symbol} {ds : List Item} {ws : List Word} → Told (rule g.Identifiers ++ k) ds ws → Told (N g.Identifiers ∷ k) (made g.Identifiers ds) ws
identifiers_told (t_part (says_ident i) (t_row {x = x} {us = us} {ws = ws} row r)) =
    so (t_part (says_idents i (a.the_idents x)) r) (ap (λ z. w.ident_word i ∷ (z ++ ws)) (sym (idents_row row)))

pub more_identifiers_told : {k : List Symbol} {ds : List Item} {ws : List Word} → Told (rule g.MoreIdentifiers ++ k) ds ws → Told (N g.MoreIdentifiers ∷ k) (made g.MoreIdentifiers ds) ws
more_identifiers_told (t_word c (t_part (says_ident i) r)) = t_part (says_more_ident (codes ",") i) r

pub initial_told : {k : List Symbol} {ds : List Item} {ws : List Word} → Told (rule g.Initial ++ k) ds ws → Told (N g.Initial ∷ k) (made g.Initial ds) ws
initial_told (t_word c (t_part (says_expression e) r)) = t_part (says_initial e) r

pub procedure_told : {k : List Symbol} {ds : List Item} {ws : List Word} → Told (rule g.Procedure ++ k) ds ws → Told (N g.Procedure ∷ k) (made g.Procedure ds) ws
procedure_told (t_token t (t_part (says_ident i) (t_some (says_formals f) (t_word c (t_some (says_declarations d es h) (t_part {ws = ws} (says_body b vs j) r)))))) =
    so (t_part (procedure_says t i (a.the_formals f) (a.the_declarations d) b es vs h j) r) (procedure_on i (w.formals_words (a.the_formals f)) es vs ws)
procedure_told (t_token t (t_part (says_ident i) (t_some (says_formals f) (t_word c (t_none (t_part {ws = ws} (says_body b vs j) r)))))) =
    so (t_part (procedure_says t i (a.the_formals f) m.no_declarations b [] vs refl j) r) (procedure_on i (w.formals_words (a.the_formals f)) [] vs ws)
procedure_told (t_token t (t_part (says_ident i) (t_none (t_word c (t_some (says_declarations d es h) (t_part {ws = ws} (says_body b vs j) r)))))) =
    so (t_part (procedure_says t i [] (a.the_declarations d) b es vs h j) r) (procedure_on i [] es vs ws)
procedure_told (t_token t (t_part (says_ident i) (t_none (t_word c (t_none (t_part {ws = ws} (says_body b vs j) r)))))) =
    so (t_part (procedure_says t i [] m.no_declarations b [] vs refl j) r) (procedure_on i [] [] vs ws)

pub formals_told : {k : List Symbol} {ds : List Item} {ws : List Word} → Told (rule g.Formals ++ k) ds ws → Told (N g.Formals ∷ k) (made g.Formals ds) ws
formals_told (t_level s (t_down r)) = t_part s r

pub in_formals_told : {k : List Symbol} {ds : List Item} {ws : List Word} → Told (rule g.InFormals ++ k) ds ws → Told (N g.InFormals ∷ k) (made g.InFormals ds) ws
in_formals_told (t_word o (t_part (says_formal x) (t_row {x = y} {us = us} row (t_word {ws = ws} c r)))) =
    so (t_part (says_formals (cons (a.a_formal x) y)) r)
    (ap (λ z. word (codes "(") ∷ z) (list_between (w.formal_words x) (w.more_formals_words (a.the_formals y)) (word (codes ")") ∷ []) us ws (formals_row row)))

pub more_formals_told : {k : List Symbol} {ds : List Item} {ws : List Word} → Told (rule g.MoreFormals ++ k) ds ws → Told (N g.MoreFormals ∷ k) (made g.MoreFormals ds) ws
more_formals_told (t_word c (t_part (says_formal x) r)) = t_part (says_more_formal x) r

pub formal_told : {k : List Symbol} {ds : List Item} {ws : List Word} → Told (rule g.Formal ++ k) ds ws → Told (N g.Formal ∷ k) (made g.Formal ds) ws
formal_told (t_part (says_idents x xs) (t_word c (t_some (says_mode how) (t_part {ws = ws} (says_ident i) r)))) =
    so (t_part (says_formal (m.formal x xs how i)) r)
    (append_assoc (w.idents_words x xs) (word (codes ":") ∷ (w.mode_words how ++ (w.ident_word i ∷ []))) ws ∙ ap (λ z. w.idents_words x xs ++ (word (codes ":") ∷ z)) (append_assoc (w.mode_words how) (w.ident_word i ∷ []) ws))
formal_told (t_part (says_idents x xs) (t_word c (t_none (t_part {ws = ws} (says_ident i) r)))) =
    so (t_part (says_formal (m.formal x xs mode.Unstated i)) r) (append_assoc (w.idents_words x xs) (word (codes ":") ∷ w.ident_word i ∷ []) ws)

pub in_mode_told : {k : List Symbol} {ds : List Item} {ws : List Word} → Told (rule g.InMode ++ k) ds ws → Told (N g.InMode ∷ k) (made g.InMode ds) ws
in_mode_told (t_token t (t_some says_in_out r)) = t_part (says_mode (mode.InOut t.at)) r
in_mode_told (t_token t (t_none r)) = t_part (says_mode (mode.In t.at)) r

pub in_out_told : {k : List Symbol} {ds : List Item} {ws : List Word} → Told (rule g.InOut ++ k) ds ws → Told (N g.InOut ∷ k) (made g.InOut ds) ws
in_out_told (t_word c r) = t_part says_in_out r

pub out_mode_told : {k : List Symbol} {ds : List Item} {ws : List Word} → Told (rule g.OutMode ++ k) ds ws → Told (N g.OutMode ∷ k) (made g.OutMode ds) ws
out_mode_told (t_token t r) = t_part (says_mode (mode.Out t.at)) r

pub task_told : {k : List Symbol} {ds : List Item} {ws : List Word} → Told (rule g.Task ++ k) ds ws → Told (N g.Task ∷ k) (made g.Task ds) ws
task_told (t_token t (t_part (says_task b i d) r)) = t_part (says_declaration (m.task t.at b i d) (w.task_words b i d) refl) r
task_told (t_token t (t_part (says_task_body i ds b us h) r)) = t_part (says_declaration (m.task_body t.at i ds b) (word (codes "task") ∷ us) (ap (λ z. codes "task" ∷ z) h)) r

pub task_declaration_told : {k : List Symbol} {ds : List Item} {ws : List Word} → Told (rule g.TaskDeclaration ++ k) ds ws → Told (N g.TaskDeclaration ∷ k) (made g.TaskDeclaration ds) ws
task_declaration_told (t_some says_task_type (t_part (says_ident i) (t_some (says_definition d) (t_word {ws = ws} s r)))) =
    so (t_part (says_task true i (Some d)) r) (one_on _ _ _ (one_on _ _ _ (append_assoc (w.definition_words (Some d)) (last_word (codes ";") ∷ []) ws)))
task_declaration_told (t_some says_task_type (t_part (says_ident i) (t_none (t_word s r)))) = t_part (says_task true i None) r
task_declaration_told (t_none (t_part (says_ident i) (t_some (says_definition d) (t_word {ws = ws} s r)))) =
    so (t_part (says_task false i (Some d)) r) (one_on _ _ _ (append_assoc (w.definition_words (Some d)) (last_word (codes ";") ∷ []) ws))
task_declaration_told (t_none (t_part (says_ident i) (t_none (t_word s r)))) = t_part (says_task false i None) r

pub task_type_told : {k : List Symbol} {ds : List Item} {ws : List Word} → Told (rule g.TaskType ++ k) ds ws → Told (N g.TaskType ∷ k) (made g.TaskType ds) ws
task_type_told (t_word c r) = t_part says_task_type r

pub task_body_told : {k : List Symbol} {ds : List Item} {ws : List Word} → Told (rule g.TaskBody ++ k) ds ws → Told (N g.TaskBody ∷ k) (made g.TaskBody ds) ws
task_body_told (t_word c (t_part (says_ident i) (t_word y (t_some (says_declarations d es h) (t_part {ws = ws} (says_body b vs j) r))))) =
    so (t_part (task_body_says i (a.the_declarations d) b es vs h j) r) (task_body_on i es vs ws)
task_body_told (t_word c (t_part (says_ident i) (t_word y (t_none (t_part (says_body b vs j) r))))) = t_part (task_body_says i m.no_declarations b [] vs refl j) r

pub body_told : {k : List Symbol} {ds : List Item} {ws : List Word} → Told (rule g.Body ++ k) ds ws → Told (N g.Body ∷ k) (made g.Body ds) ws
body_told (t_token b (t_part (says_statements x us h) (t_some (says_handlers y hs j) (t_token e (t_some (says_ident i) (t_token {ws = ws} s r)))))) =
    so (t_part (body_says b x y us hs e (Some i) s h j) r) (body_words us hs (w.ident_word i ∷ []) ws)
body_told (t_token b (t_part (says_statements x us h) (t_some (says_handlers y hs j) (t_token e (t_none (t_token {ws = ws} s r)))))) =
    so (t_part (body_says b x y us hs e None s h j) r) (body_words us hs [] ws)
body_told (t_token b (t_part (says_statements x us h) (t_none (t_token e (t_some (says_ident i) (t_token {ws = ws} s r)))))) =
    so (t_part (body_says b x none us [] e (Some i) s h refl) r) (body_words us [] (w.ident_word i ∷ []) ws)
body_told (t_token b (t_part (says_statements x us h) (t_none (t_token e (t_none (t_token {ws = ws} s r)))))) =
    so (t_part (body_says b x none us [] e None s h refl) r) (body_words us [] [] ws)

pub handlers_told : {k : List Symbol} {ds : List Item} {ws : List Word} → Told (rule g.Handlers ++ k) ds ws → Told (N g.Handlers ∷ k) (made g.Handlers ds) ws
handlers_told (t_word e (t_part (says_handler_list c x y us h) r)) = t_part (says_handlers (cons (a.a_handler c x) y) (word (codes "exception") ∷ us) (ap (λ z. codes "exception" ∷ z) h)) r

pub handler_list_told : {k : List Symbol} {ds : List Item} {ws : List Word} → Told (rule g.HandlerList ++ k) ds ws → Told (N g.HandlerList ∷ k) (made g.HandlerList ds) ws
handler_list_told (t_part (says_handler c x us h) (t_row {x = y} {us = vs} {ws = ws} row r)) =
    so (t_part (says_handler_list c x y (us ++ vs) (same_both us (w.handler_words c (w.statements_words x)) vs (w.handlers_words (a.the_handlers y)) h (handlers_row row))) r) (append_assoc us vs ws)

pub handler_told : {k : List Symbol} {ds : List Item} {ws : List Word} → Told (rule g.Handler ++ k) ds ws → Told (N g.Handler ∷ k) (made g.Handler ds) ws
handler_told (t_word o (t_part (says_choices c) (t_word d (t_part {ws = ws} (says_statements x ss h) r)))) =
    so (t_part (says_handler c x (arm (codes "when") (w.choices_words c) (codes "=>") ss) (arm_same (codes "when") (w.choices_words c) (codes "=>") ss (w.statements_words x) h)) r) (one_on _ _ _ (append_assoc (w.choices_words c) (word (codes "=>") ∷ ss) ws))

pub others_told : {k : List Symbol} {ds : List Item} {ws : List Word} → Told (rule g.Others ++ k) ds ws → Told (N g.Others ∷ k) (made g.Others ds) ws
others_told (t_token t r) = t_part (says_choices (m.others t.at)) r

pub named_choices_told : {k : List Symbol} {ds : List Item} {ws : List Word} → Told (rule g.NamedChoices ++ k) ds ws → Told (N g.NamedChoices ∷ k) (made g.NamedChoices ds) ws
named_choices_told (t_part (says_ident i) (t_row {x = x} {us = us} {ws = ws} row r)) =
    so (t_part (says_choices (m.exceptions i (a.the_idents x))) r) (ap (λ z. w.ident_word i ∷ (z ++ ws)) (sym (idents_row row)))

pub more_choices_told : {k : List Symbol} {ds : List Item} {ws : List Word} → Told (rule g.MoreChoices ++ k) ds ws → Told (N g.MoreChoices ∷ k) (made g.MoreChoices ds) ws
more_choices_told (t_word c (t_part (says_ident i) r)) = t_part (says_more_ident (codes "|") i) r
