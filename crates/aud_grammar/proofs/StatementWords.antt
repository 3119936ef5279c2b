-- The words of statements are those of their symbols.
use Rattle.std.proofs.Common.{List, [], ◌∷◌, ◌++◌, refl, sym, ap, ◌∙◌, append_assoc}
use Rattle.std.specs.Prelude.{Option, Some, None, codes, true, false}
use Rattle.aud_lex.specs.Element.{Element}
use Rattle.aud_lex.specs.Why.Spaced.{Word, word, last_word}
use Rattle.aud_text.specs.declared.place.Pos.{Pos}
use Rattle.aud_syntax.specs.declared.tree.Ident.{Ident}
use Rattle.aud_syntax.specs.Plain as m
use Rattle.aud_syntax.specs.Why.Printed as w
use Rattle.aud_grammar.specs.Grammar as g
use Rattle.aud_grammar.specs.Grammar.{Symbol, N, rule}
use Rattle.aud_grammar.specs.Actions as a
use Rattle.aud_grammar.specs.Actions.{Item, made}
use Rattle.aud_grammar.specs.Why.Derives.{here, later}
use Rattle.aud_grammar.proofs.Sorts.{s_unlabelled}
use Rattle.aud_grammar.proofs.Told.{Says, says_declarations, says_body, says_statements, says_statement, says_assigned, says_called, says_assigns, says_calls, says_labelled, says_arm, says_else, says_unlabelled, says_iteration, says_reverse, says_declare, says_when, says_expression, says_simple, says_args, says_ident, Told, t_word, t_token, t_part, t_level, t_down, t_one, t_some, t_none, t_row, so, statements_row, arms_row, parts_row, no_member}
use Rattle.aud_grammar.proofs.SameWords.{expression_words, assigned_words, behind_words_of, texts, Same, same_both, one_on, list_between, arm, arm_same, in_if, if_words, if_same, in_loop, loop_words, loop_same}

loop_says : (at : Pos) (i : m.Iteration) (x : m.Statements) (us : List Word) (last : Option Ident) (s : Element) → Same us (w.statements_words x) →
    Says s_unlabelled (a.a_statement (m.loop None at i x last s.at)) (in_loop (w.iteration_words i) us (w.end_words last) [])
loop_says at i x us last s h = says_unlabelled (m.loop None at i x last s.at) (in_loop (w.iteration_words i) us (w.end_words last) []) (λ j. refl) (loop_same (w.iteration_words i) us (w.statements_words x) (w.end_words last) h)

pub statements_told : {k : List Symbol} {ds : List Item} {ws : List Word} → Told (rule g.Statements ++ k) ds ws → Told (N g.Statements ∷ k) (made g.Statements ds) ws
statements_told (t_level s (t_down r)) = t_part s r

pub statement_list_told : {k : List Symbol} {ds : List Item} {ws : List Word} → Told (rule g.StatementList ++ k) ds ws → Told (N g.StatementList ∷ k) (made g.StatementList ds) ws
statement_list_told (t_part (says_statement d vs h) (t_row {x = x} {us = us} {ws = ws} row r)) =
    so (t_part (says_statements (m.in_order d (a.more_statements x)) (vs ++ us) (same_both vs (w.statement_words d) us (w.more_statements_words (a.more_statements x)) h (statements_row row))) r) (append_assoc vs us ws)

pub statement_told : {k : List Symbol} {ds : List Item} {ws : List Word} → Told (rule g.Statement ++ k) ds ws → Told (N g.Statement ∷ k) (made g.Statement ds) ws
statement_told (t_one here s r) = t_part s r
statement_told (t_one (later here) s r) = t_part s r
statement_told (t_one (later (later here)) s r) = t_part s r
statement_told (t_one (later (later (later here))) (says_unlabelled s us u h) r) = t_part (says_statement s us h) r
statement_told (t_one (later (later (later (later here)))) (says_unlabelled s us u h) r) = t_part (says_statement s us h) r
statement_told (t_one (later (later (later (later (later here))))) s r) = t_part s r
statement_told (t_one (later (later (later (later (later (later here)))))) s r) = t_part s r
statement_told (t_one (later (later (later (later (later (later (later here))))))) s r) = t_part s r
statement_told (t_one (later (later (later (later (later (later (later (later here)))))))) s r) = t_part s r
statement_told (t_one (later (later (later (later (later (later (later (later (later here))))))))) s r) = t_part s r
statement_told (t_one (later (later (later (later (later (later (later (later (later (later here)))))))))) s r) = t_part s r
statement_told (t_one (later (later (later (later (later (later (later (later (later (later (later here))))))))))) s r) = t_part s r
statement_told (t_one (later (later (later (later (later (later (later (later (later (later (later (later here)))))))))))) s r) = t_part s r
statement_told (t_one (later (later (later (later (later (later (later (later (later (later (later (later (later h))))))))))))) s r) = absurd (no_member h)

pub null_statement_told : {k : List Symbol} {ds : List Item} {ws : List Word} → Told (rule g.NullStatement ++ k) ds ws → Told (N g.NullStatement ∷ k) (made g.NullStatement ds) ws
null_statement_told (t_token n (t_word s r)) = t_part (says_statement (m.null n.at) w.null_words refl) r

pub name_statement_told : {k : List Symbol} {ds : List Item} {ws : List Word} → Told (rule g.NameStatement ++ k) ds ws → Told (N g.NameStatement ∷ k) (made g.NameStatement ds) ws
name_statement_told (t_part (says_ident i) (t_part (says_assigns xs ps e) r)) =
    t_part (says_statement (m.assign (m.named (m.part i xs) ps) e) (w.ident_word i ∷ behind_words_of xs ps (assigned_words e)) refl) r
name_statement_told (t_part (says_ident i) (t_part (says_calls xs ps) r)) =
    t_part (says_statement (m.call (m.named (m.part i xs) ps)) (w.ident_word i ∷ behind_words_of xs ps (last_word (codes ";") ∷ [])) refl) r
name_statement_told (t_part (says_ident i) (t_part (says_labelled s us u h) r)) =
    t_part (says_statement (a.labelled i s) (w.ident_word i ∷ word (codes ":") ∷ us) (ap (λ z. i.name ∷ codes ":" ∷ z) h ∙ ap texts (sym (u i)))) r

pub labelled_told : {k : List Symbol} {ds : List Item} {ws : List Word} → Told (rule g.Labelled ++ k) ds ws → Told (N g.Labelled ∷ k) (made g.Labelled ds) ws
labelled_told (t_word c (t_part (says_unlabelled s us u h) r)) = t_part (says_labelled s us u h) r

pub named_statement_told : {k : List Symbol} {ds : List Item} {ws : List Word} → Told (rule g.NamedStatement ++ k) ds ws → Told (N g.NamedStatement ∷ k) (made g.NamedStatement ds) ws
named_statement_told (t_some (says_args xs) (t_row {x = x} {us = us} row (t_part {ws = ws} (says_assigned e) r))) =
    so (t_part (says_assigns xs (a.the_parts x) e) r) (list_between (w.args_words xs) (w.parts_words (a.the_parts x)) (assigned_words e) us ws (parts_row row))
named_statement_told (t_some (says_args xs) (t_row {x = x} {us = us} row (t_part {ws = ws} says_called r))) =
    so (t_part (says_calls xs (a.the_parts x)) r) (list_between (w.args_words xs) (w.parts_words (a.the_parts x)) (last_word (codes ";") ∷ []) us ws (parts_row row))
named_statement_told (t_none (t_row {x = x} {us = us} row (t_part {ws = ws} (says_assigned e) r))) =
    so (t_part (says_assigns m.no_args (a.the_parts x) e) r) (list_between [] (w.parts_words (a.the_parts x)) (assigned_words e) us ws (parts_row row))
named_statement_told (t_none (t_row {x = x} {us = us} row (t_part {ws = ws} says_called r))) =
    so (t_part (says_calls m.no_args (a.the_parts x)) r) (list_between [] (w.parts_words (a.the_parts x)) (last_word (codes ";") ∷ []) us ws (parts_row row))

pub assignment_told : {k : List Symbol} {ds : List Item} {ws : List Word} → Told (rule g.Assignment ++ k) ds ws → Told (N g.Assignment ∷ k) (made g.Assignment ds) ws
assignment_told (t_word b (t_part (says_expression e) (t_word {ws = ws} s r))) =
    so (t_part (says_assigned e) r) (ap (λ z. word (codes ":=") ∷ z) (append_assoc (expression_words e) (last_word (codes ";") ∷ []) ws))

pub call_told : {k : List Symbol} {ds : List Item} {ws : List Word} → Told (rule g.Call ++ k) ds ws → Told (N g.Call ∷ k) (made g.Call ds) ws
call_told (t_word s r) = t_part says_called r

pub if_told : {k : List Symbol} {ds : List Item} {ws : List Word} → Told (rule g.If ++ k) ds ws → Told (N g.If ∷ k) (made g.If ds) ws
if_told (t_token i (t_part (says_expression e) (t_word c (t_part (says_statements x ss h) (t_row {x = arms} {us = vs} row (t_some (says_else y ys os j) (t_word n (t_word f (t_word {ws = ws} s r))))))))) =
    so (t_part (says_statement (m.if_then i.at e x (a.the_arms arms) (m.more_statements y ys)) (in_if (expression_words e) ss vs os []) (if_same e x (a.the_arms arms) (m.more_statements y ys) ss vs os h (arms_row row) j)) r) (if_words (expression_words e) ss vs os ws)
if_told (t_token i (t_part (says_expression e) (t_word c (t_part (says_statements x ss h) (t_row {x = arms} {us = vs} row (t_none (t_word n (t_word f (t_word {ws = ws} s r))))))))) =
    so (t_part (says_statement (m.if_then i.at e x (a.the_arms arms) m.no_statements) (in_if (expression_words e) ss vs [] []) (if_same e x (a.the_arms arms) m.no_statements ss vs [] h (arms_row row) refl)) r) (if_words (expression_words e) ss vs [] ws)

pub elsif_told : {k : List Symbol} {ds : List Item} {ws : List Word} → Told (rule g.Elsif ++ k) ds ws → Told (N g.Elsif ∷ k) (made g.Elsif ds) ws
elsif_told (t_token i (t_part (says_expression e) (t_word c (t_part {ws = ws} (says_statements x ss h) r)))) =
    so (t_part (says_arm i.at e x (arm (codes "elsif") (expression_words e) (codes "then") ss) (arm_same (codes "elsif") (expression_words e) (codes "then") ss (w.statements_words x) h)) r) (one_on _ _ _ (append_assoc (expression_words e) (word (codes "then") ∷ ss) ws))

pub else_part_told : {k : List Symbol} {ds : List Item} {ws : List Word} → Told (rule g.ElsePart ++ k) ds ws → Told (N g.ElsePart ∷ k) (made g.ElsePart ds) ws
else_part_told (t_word c (t_part (says_statements (m.in_order y ys) us h) r)) = t_part (says_else y ys (word (codes "else") ∷ us) (ap (λ z. codes "else" ∷ z) h)) r

pub loop_told : {k : List Symbol} {ds : List Item} {ws : List Word} → Told (rule g.Loop ++ k) ds ws → Told (N g.Loop ∷ k) (made g.Loop ds) ws
loop_told (t_some (says_iteration at j) (t_token l (t_part (says_statements x us h) (t_word n (t_word p (t_some (says_ident i) (t_token {ws = ws} s r))))))) =
    so (t_part (loop_says at j x us (Some i) s h) r) (loop_words (w.iteration_words j) us (w.ident_word i ∷ []) ws)
loop_told (t_some (says_iteration at j) (t_token l (t_part (says_statements x us h) (t_word n (t_word p (t_none (t_token {ws = ws} s r))))))) =
    so (t_part (loop_says at j x us None s h) r) (loop_words (w.iteration_words j) us [] ws)
loop_told (t_none (t_token l (t_part (says_statements x us h) (t_word n (t_word p (t_some (says_ident i) (t_token {ws = ws} s r))))))) =
    so (t_part (loop_says l.at m.forever x us (Some i) s h) r) (loop_words [] us (w.ident_word i ∷ []) ws)
loop_told (t_none (t_token l (t_part (says_statements x us h) (t_word n (t_word p (t_none (t_token {ws = ws} s r))))))) =
    so (t_part (loop_says l.at m.forever x us None s h) r) (loop_words [] us [] ws)

pub while_told : {k : List Symbol} {ds : List Item} {ws : List Word} → Told (rule g.While ++ k) ds ws → Told (N g.While ∷ k) (made g.While ds) ws
while_told (t_token t (t_part (says_expression e) r)) = t_part (says_iteration t.at (m.while e)) r

pub for_told : {k : List Symbol} {ds : List Item} {ws : List Word} → Told (rule g.For ++ k) ds ws → Told (N g.For ∷ k) (made g.For ds) ws
for_told (t_token t (t_part (says_ident i) (t_word n (t_some says_reverse (t_part (says_simple l) (t_word d (t_part {ws = ws} (says_simple h) r))))))) =
    so (t_part (says_iteration t.at (m.for i true l h)) r) (ap (λ z. word (codes "for") ∷ w.ident_word i ∷ word (codes "in") ∷ word (codes "reverse") ∷ z) (append_assoc (w.simple_words l) (word (codes "..") ∷ w.simple_words h) ws))
for_told (t_token t (t_part (says_ident i) (t_word n (t_none (t_part (says_simple l) (t_word d (t_part {ws = ws} (says_simple h) r))))))) =
    so (t_part (says_iteration t.at (m.for i false l h)) r) (ap (λ z. word (codes "for") ∷ w.ident_word i ∷ word (codes "in") ∷ z) (append_assoc (w.simple_words l) (word (codes "..") ∷ w.simple_words h) ws))

pub reverse_told : {k : List Symbol} {ds : List Item} {ws : List Word} → Told (rule g.Reverse ++ k) ds ws → Told (N g.Reverse ∷ k) (made g.Reverse ds) ws
reverse_told (t_word c r) = t_part says_reverse r

pub block_told : {k : List Symbol} {ds : List Item} {ws : List Word} → Told (rule g.Block ++ k) ds ws → Told (N g.Block ∷ k) (made g.Block ds) ws
block_told (t_some (says_declare at ds us h) (t_part {ws = ws} (says_body b vs j) r)) =
    so (t_part (says_unlabelled (m.block None at true ds b) (us ++ vs) (λ i. refl) (same_both us (last_word (codes "declare") ∷ w.declarations_words ds) vs (w.body_words b) h j)) r) (append_assoc us vs ws)
block_told (t_none (t_part (says_body b vs j) r)) = t_part (says_unlabelled (m.block None (a.begin_of b) false m.no_declarations b) vs (λ i. refl) j) r

pub declare_told : {k : List Symbol} {ds : List Item} {ws : List Word} → Told (rule g.Declare ++ k) ds ws → Told (N g.Declare ∷ k) (made g.Declare ds) ws
declare_told (t_token t (t_some (says_declarations x us h) r)) = t_part (says_declare t.at (a.the_declarations x) (word (codes "declare") ∷ us) (ap (λ z. codes "declare" ∷ z) h)) r
declare_told (t_token t (t_none r)) = t_part (says_declare t.at m.no_declarations (word (codes "declare") ∷ []) refl) r

pub return_told : {k : List Symbol} {ds : List Item} {ws : List Word} → Told (rule g.Return ++ k) ds ws → Told (N g.Return ∷ k) (made g.Return ds) ws
return_told (t_token t (t_some (says_expression e) (t_word {ws = ws} s r))) =
    so (t_part (says_statement (m.return t.at (m.an_expression e)) (w.return_words (m.an_expression e)) refl) r) (one_on _ _ _ (append_assoc (expression_words e) (last_word (codes ";") ∷ []) ws))
return_told (t_token t (t_none (t_word s r))) = t_part (says_statement (m.return t.at m.no_expression) (w.return_words m.no_expression) refl) r

pub raise_told : {k : List Symbol} {ds : List Item} {ws : List Word} → Told (rule g.Raise ++ k) ds ws → Told (N g.Raise ∷ k) (made g.Raise ds) ws
raise_told (t_token t (t_some (says_ident i) (t_word s r))) = t_part (says_statement (m.raise t.at (Some i)) (w.raise_words (Some i)) refl) r
raise_told (t_token t (t_none (t_word s r))) = t_part (says_statement (m.raise t.at None) (w.raise_words None) refl) r

pub exit_told : {k : List Symbol} {ds : List Item} {ws : List Word} → Told (rule g.Exit ++ k) ds ws → Told (N g.Exit ∷ k) (made g.Exit ds) ws
exit_told (t_token t (t_some (says_ident i) (t_some (says_when e) (t_word {ws = ws} s r)))) =
    so (t_part (says_statement (m.exit t.at (Some i) (m.an_expression e)) (w.exit_words (Some i) (m.an_expression e)) refl) r) (one_on _ _ _ (one_on _ _ _ (append_assoc (word (codes "when") ∷ expression_words e) (last_word (codes ";") ∷ []) ws)))
exit_told (t_token t (t_some (says_ident i) (t_none (t_word {ws = ws} s r)))) = t_part (says_statement (m.exit t.at (Some i) m.no_expression) (w.exit_words (Some i) m.no_expression) refl) r
exit_told (t_token t (t_none (t_some (says_when e) (t_word {ws = ws} s r)))) =
    so (t_part (says_statement (m.exit t.at None (m.an_expression e)) (w.exit_words None (m.an_expression e)) refl) r) (one_on _ _ _ (append_assoc (word (codes "when") ∷ expression_words e) (last_word (codes ";") ∷ []) ws))
exit_told (t_token t (t_none (t_none (t_word {ws = ws} s r)))) = t_part (says_statement (m.exit t.at None m.no_expression) (w.exit_words None m.no_expression) refl) r

pub when_told : {k : List Symbol} {ds : List Item} {ws : List Word} → Told (rule g.When ++ k) ds ws → Told (N g.When ∷ k) (made g.When ds) ws
when_told (t_word c (t_part (says_expression e) r)) = t_part (says_when e) r
