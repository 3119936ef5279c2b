-- The words of entries, accept, delay, select, abort and requeue statements are those of their symbols.
use Rattle.std.proofs.Common.{append-nil, List, [], ◌∷◌, ◌++◌, refl, sym, ap, ◌∙◌, append_assoc}
use Rattle.std.specs.Prelude.{Option, Some, None, codes, true, false}
use Rattle.aud_lex.specs.Element.{Element}
use Rattle.aud_lex.specs.Why.Spaced.{Word, word, last_word}
use Rattle.aud_text.specs.declared.place.Pos.{Pos}
use Rattle.aud_syntax.specs.declared.tree.Ident.{Ident}
use Rattle.aud_syntax.specs.Plain as m
use Rattle.aud_syntax.specs.Why.Printed as w
use Rattle.aud_grammar.specs.Grammar as g
use Rattle.aud_grammar.specs.Grammar.{Symbol, N, rule}
use Rattle.aud_grammar.specs.Actions as a
use Rattle.aud_grammar.specs.Actions.{Item, token, none, made}
use Rattle.aud_grammar.proofs.Sorts.{s_statement, s_accept, s_doing, s_guarded, s_unguarded}
use Rattle.aud_grammar.proofs.Told.{Says, says_formals, says_definition, says_handlers, says_statements, says_statement, says_else, says_expression, says_parens, says_name, says_ident, says_real, says_seconds, says_duration, says_delay, says_entry, says_doing, says_accept, says_guard, says_alternative, says_guarded, says_unguarded, says_further, says_selects, says_selects_call, says_otherwise, says_more_name, says_with_abort, Told, t_word, t_token, t_spelled, t_part, t_some, t_none, t_row, so, entries_row, alternatives_row, names_row}
use Rattle.aud_grammar.proofs.SameWords.{texts, Same, same_both, same_on, on, one_on, list_between, list_first, in_do, do_words, do_same, guard_tokens, guard_same, or_words, else_words, behind_first, from_first, or_same}

pub real_told : {k : List Symbol} {ds : List Item} {ws : List Word} → Told (rule g.Real ++ k) ds ws → Told (N g.Real ∷ k) (made g.Real ds) ws
real_told (t_token t r) = t_part (says_real (a.real_of (token t))) r

-- RM 9.6

pub delay_statement_told : {k : List Symbol} {ds : List Item} {ws : List Word} → Told (rule g.DelayStatement ++ k) ds ws → Told (N g.DelayStatement ∷ k) (made g.DelayStatement ds) ws
delay_statement_told (t_part (says_delay d) r) = t_part (says_statement (m.delaying d) (w.delay_words d) refl) r

pub delay_told : {k : List Symbol} {ds : List Item} {ws : List Word} → Told (rule g.Delay ++ k) ds ws → Told (N g.Delay ∷ k) (made g.Delay ds) ws
delay_told (t_token t (t_part (says_seconds x) (t_word s r))) = t_part (says_delay (m.delay_real t.at x)) r
delay_told (t_token t (t_part (says_duration named e) (t_word {ws = ws} s r))) =
    so (t_part (says_delay (m.delay_duration t.at named e)) r) (one_on _ _ _ (one_on _ _ _ (append_assoc (w.in_parentheses (w.expression_words e)) (last_word (codes ";") ∷ []) ws)))

pub seconds_told : {k : List Symbol} {ds : List Item} {ws : List Word} → Told (rule g.Seconds ++ k) ds ws → Told (N g.Seconds ∷ k) (made g.Seconds ds) ws
seconds_told (t_part (says_real x) r) = t_part (says_seconds x) r

pub duration_of_told : {k : List Symbol} {ds : List Item} {ws : List Word} → Told (rule g.DurationOf ++ k) ds ws → Told (N g.DurationOf ∷ k) (made g.DurationOf ds) ws
duration_of_told (t_spelled t (t_part (says_parens at e) r)) = t_part (says_duration t.at e) r

-- RM 9.1, 9.5.2

pub entry_declaration_told : {k : List Symbol} {ds : List Item} {ws : List Word} → Told (rule g.EntryDeclaration ++ k) ds ws → Told (N g.EntryDeclaration ∷ k) (made g.EntryDeclaration ds) ws
entry_declaration_told (t_word c (t_part (says_ident i) (t_some (says_formals f) (t_word {ws = ws} s r)))) =
    so (t_part (says_entry (record { name = i; formals = a.the_formals f })) r) (one_on _ _ _ (one_on _ _ _ (append_assoc (w.formals_words (a.the_formals f)) (last_word (codes ";") ∷ []) ws)))
entry_declaration_told (t_word c (t_part (says_ident i) (t_none (t_word s r)))) = t_part (says_entry (record { name = i; formals = [] })) r

pub task_definition_told : {k : List Symbol} {ds : List Item} {ws : List Word} → Told (rule g.TaskDefinition ++ k) ds ws → Told (N g.TaskDefinition ∷ k) (made g.TaskDefinition ds) ws
task_definition_told (t_word c (t_row {x = x} {us = us} row (t_word e (t_some {ws = ws} (says_ident i) r)))) =
    so (t_part (says_definition (record { entries = a.the_entries x; end_name = Some i })) r) (one_on _ _ _ (list_first (w.entries_words (a.the_entries x)) (word (codes "end") ∷ w.ident_word i ∷ []) us ws (entries_row row)))
task_definition_told (t_word c (t_row {x = x} {us = us} row (t_word e (t_none {ws = ws} r)))) =
    so (t_part (says_definition (record { entries = a.the_entries x; end_name = None })) r) (one_on _ _ _ (list_first (w.entries_words (a.the_entries x)) (word (codes "end") ∷ []) us ws (entries_row row)))

pub accept_statement_told : {k : List Symbol} {ds : List Item} {ws : List Word} → Told (rule g.AcceptStatement ++ k) ds ws → Told (N g.AcceptStatement ∷ k) (made g.AcceptStatement ds) ws
accept_statement_told (t_part (says_accept x us h) r) = t_part (says_statement (m.accepting x) us h) r

-- the words behind the head of an accept statement
accepted : (at : Pos) (i : Ident) (fs : List m.Formal) (x : m.Doing) (us : List Word) → Same us (w.doing_words x) → Says s_accept (a.an_accept (m.accept at i fs x)) (w.head_words (codes "accept") i fs ++ us)
accepted at i fs x us h = says_accept (m.accept at i fs x) (w.head_words (codes "accept") i fs ++ us) (same_on (w.head_words (codes "accept") i fs) us (w.doing_words x) h)

pub accept_told : {k : List Symbol} {ds : List Item} {ws : List Word} → Told (rule g.Accept ++ k) ds ws → Told (N g.Accept ∷ k) (made g.Accept ds) ws
accept_told (t_token t (t_part (says_ident i) (t_some (says_formals f) (t_part {ws = ws} (says_doing d us h) r)))) =
    so (t_part (accepted t.at i (a.the_formals f) d us h) r) (one_on _ _ _ (one_on _ _ _ (append_assoc (w.formals_words (a.the_formals f)) us ws)))
accept_told (t_token t (t_part (says_ident i) (t_none (t_part (says_doing d us h) r)))) = t_part (accepted t.at i [] d us h) r

done_told : (b : Element) (x : m.Statements) (y : Item) (us hs : List Word) (e : Element) (last : Option Ident) (s : Element) → Same us (w.statements_words x) → Same hs (w.handled_words (a.the_handlers y) (w.handlers_words (a.the_handlers y))) →
    Says s_doing (a.a_doing (m.with_do (m.body b.at x (a.the_handlers y) e.at last s.at))) (in_do us hs (w.end_words last) [])
done_told b x y us hs e last s h j =
    says_doing (m.with_do (m.body b.at x (a.the_handlers y) e.at last s.at)) (in_do us hs (w.end_words last) [])
    (do_same us (w.statements_words x) hs (w.handled_words (a.the_handlers y) (w.handlers_words (a.the_handlers y))) last h j)

pub do_told : {k : List Symbol} {ds : List Item} {ws : List Word} → Told (rule g.Do ++ k) ds ws → Told (N g.Do ∷ k) (made g.Do ds) ws
do_told (t_token b (t_part (says_statements x us h) (t_some (says_handlers y hs j) (t_token e (t_some (says_ident i) (t_token {ws = ws} s r)))))) =
    so (t_part (done_told b x y us hs e (Some i) s h j) r) (do_words us hs (w.ident_word i ∷ []) ws)
do_told (t_token b (t_part (says_statements x us h) (t_some (says_handlers y hs j) (t_token e (t_none (t_token {ws = ws} s r)))))) = so (t_part (done_told b x y us hs e None s h j) r) (do_words us hs [] ws)
do_told (t_token b (t_part (says_statements x us h) (t_none (t_token e (t_some (says_ident i) (t_token {ws = ws} s r)))))) =
    so (t_part (done_told b x none us [] e (Some i) s h refl) r) (do_words us [] (w.ident_word i ∷ []) ws)
do_told (t_token b (t_part (says_statements x us h) (t_none (t_token e (t_none (t_token {ws = ws} s r)))))) = so (t_part (done_told b x none us [] e None s h refl) r) (do_words us [] [] ws)

pub without_do_told : {k : List Symbol} {ds : List Item} {ws : List Word} → Told (rule g.WithoutDo ++ k) ds ws → Told (N g.WithoutDo ∷ k) (made g.WithoutDo ds) ws
without_do_told (t_word s r) = t_part (says_doing m.without_do (w.doing_words m.without_do) refl) r

-- RM 9.7

selects_told : (at : Pos) (e : m.MaybeExpression) (x : m.Alternative) (xs : m.Alternatives) (y : m.MoreStatements) (us : List Word) → Same us (w.guard_words e ++ from_first x xs y) →
    Says s_statement (a.a_statement (m.select_accept at e x xs y)) (word (codes "select") ∷ (us ++ w.end_select_words))
selects_told at e x xs y us h =
    let end : List Word = w.end_select_words in
    says_statement (m.select_accept at e x xs y) (word (codes "select") ∷ (us ++ end))
    (ap (λ z. codes "select" ∷ z)
    (same_both us (w.guard_words e ++ from_first x xs y) end end h refl
    ∙ ap texts (on (w.guard_words e) _ _ _ (on (w.alternative_words x) _ _ _ (append_assoc (w.alternatives_words xs) (else_words y) end)) ∙ sym (append_assoc (w.guard_words e) (w.alternative_words x) (w.alternatives_words xs ++ (else_words y ++ end))))))

selects_call_told : (at : Pos) (x : m.Name) (y : m.MoreStatements) (z : m.Otherwise) (us : List Word) → Same us (w.call_words x ++ (w.more_statements_words y ++ w.other_words z)) →
    Says s_statement (a.a_statement (m.select_call at x y z)) (word (codes "select") ∷ (us ++ w.end_select_words))
selects_call_told at x y z us h =
    let end : List Word = w.end_select_words in
    says_statement (m.select_call at x y z) (word (codes "select") ∷ (us ++ end))
    (ap (λ v. codes "select" ∷ v)
    (same_both us (w.call_words x ++ (w.more_statements_words y ++ w.other_words z)) end end h refl
    ∙ ap texts (on (w.call_words x) _ _ _ (append_assoc (w.more_statements_words y) (w.other_words z) end))))

pub select_told : {k : List Symbol} {ds : List Item} {ws : List Word} → Told (rule g.Select ++ k) ds ws → Told (N g.Select ∷ k) (made g.Select ds) ws
select_told (t_token t (t_part (says_selects e x xs y us h) (t_word n (t_word f (t_word {ws = ws} s r))))) = so (t_part (selects_told t.at e x xs y us h) r) (one_on _ _ _ (append_assoc us w.end_select_words ws))
select_told (t_token t (t_part (says_selects_call x y z us h) (t_word n (t_word f (t_word {ws = ws} s r))))) =
    so (t_part (selects_call_told t.at x y z us h) r) (one_on _ _ _ (append_assoc us w.end_select_words ws))

pub call_select_told : {k : List Symbol} {ds : List Item} {ws : List Word} → Told (rule g.CallSelect ++ k) ds ws → Told (N g.CallSelect ∷ k) (made g.CallSelect ds) ws
call_select_told (t_part (says_name n) (t_word c (t_some (says_statements (m.in_order y ys) us h) (t_part {ws = ws} (says_otherwise o vs j) r)))) =
    let behind : m.MoreStatements = m.more_statements y ys in
    so (t_part (says_selects_call n behind o (w.call_words n ++ (us ++ vs)) (same_on (w.call_words n) (us ++ vs) (w.more_statements_words behind ++ w.other_words o) (same_both us (w.more_statements_words behind) vs (w.other_words o) h j))) r)
    (on (w.call_words n) _ _ _ (append_assoc us vs ws) ∙ append_assoc (w.name_words n) (last_word (codes ";") ∷ []) (us ++ (vs ++ ws)))
call_select_told (t_part (says_name n) (t_word c (t_none (t_part {ws = ws} (says_otherwise o vs j) r)))) =
    so (t_part (says_selects_call n m.no_statements o (w.call_words n ++ vs) (same_on (w.call_words n) vs (w.other_words o) j)) r)
    (append_assoc (w.call_words n) vs ws ∙ append_assoc (w.name_words n) (last_word (codes ";") ∷ []) (vs ++ ws))

pub or_delay_told : {k : List Symbol} {ds : List Item} {ws : List Word} → Told (rule g.OrDelay ++ k) ds ws → Told (N g.OrDelay ∷ k) (made g.OrDelay ds) ws
or_delay_told (t_word c (t_part (says_delay d) (t_some {ws = ws} (says_statements (m.in_order y ys) us h) r))) =
    let behind : m.MoreStatements = m.more_statements y ys in
    so (t_part (says_otherwise (m.or_delay d behind) (word (codes "or") ∷ (w.delay_words d ++ us)) (ap (λ z. codes "or" ∷ z) (same_on (w.delay_words d) us (w.more_statements_words behind) h))) r)
    (one_on _ _ _ (append_assoc (w.delay_words d) us ws))
or_delay_told (t_word c (t_part (says_delay d) (t_none r))) =
    t_part (says_otherwise (m.or_delay d m.no_statements) (word (codes "or") ∷ w.delay_words d) (ap (λ z. codes "or" ∷ texts z) (sym (append-nil (w.delay_words d))))) r

pub or_else_part_told : {k : List Symbol} {ds : List Item} {ws : List Word} → Told (rule g.OrElsePart ++ k) ds ws → Told (N g.OrElsePart ∷ k) (made g.OrElsePart ds) ws
or_else_part_told (t_part (says_else y ys us h) r) = t_part (says_otherwise (m.or_else (m.in_order y ys)) us h) r

pub guard_told : {k : List Symbol} {ds : List Item} {ws : List Word} → Told (rule g.Guard ++ k) ds ws → Told (N g.Guard ∷ k) (made g.Guard ds) ws
guard_told (t_word c (t_part (says_expression e) (t_word {ws = ws} d r))) = so (t_part (says_guard e) r) (one_on _ _ _ (append_assoc (w.expression_words e) (word (codes "=>") ∷ []) ws))

pub accept_alternative_told : {k : List Symbol} {ds : List Item} {ws : List Word} → Told (rule g.AcceptAlternative ++ k) ds ws → Told (N g.AcceptAlternative ∷ k) (made g.AcceptAlternative ds) ws
accept_alternative_told (t_part (says_accept x us h) (t_some {ws = ws} (says_statements (m.in_order y ys) vs j) r)) =
    let behind : m.MoreStatements = m.more_statements y ys in
    so (t_part (says_alternative (m.accept_alternative x behind) (us ++ vs) (same_both us (w.accept_words x) vs (w.more_statements_words behind) h j)) r) (append_assoc us vs ws)
accept_alternative_told (t_part (says_accept x us h) (t_none r)) = t_part (says_alternative (m.accept_alternative x m.no_statements) us (h ∙ ap texts (sym (append-nil (w.accept_words x))))) r

pub delay_alternative_told : {k : List Symbol} {ds : List Item} {ws : List Word} → Told (rule g.DelayAlternative ++ k) ds ws → Told (N g.DelayAlternative ∷ k) (made g.DelayAlternative ds) ws
delay_alternative_told (t_part (says_delay x) (t_some {ws = ws} (says_statements (m.in_order y ys) vs j) r)) =
    let behind : m.MoreStatements = m.more_statements y ys in
    so (t_part (says_alternative (m.delay_alternative x behind) (w.delay_words x ++ vs) (same_on (w.delay_words x) vs (w.more_statements_words behind) j)) r) (append_assoc (w.delay_words x) vs ws)
delay_alternative_told (t_part (says_delay x) (t_none r)) = t_part (says_alternative (m.delay_alternative x m.no_statements) (w.delay_words x) (ap texts (sym (append-nil (w.delay_words x))))) r

pub terminate_alternative_told : {k : List Symbol} {ds : List Item} {ws : List Word} → Told (rule g.TerminateAlternative ++ k) ds ws → Told (N g.TerminateAlternative ∷ k) (made g.TerminateAlternative ds) ws
terminate_alternative_told (t_word c (t_word s r)) = t_part (says_alternative m.terminate_alternative (w.alternative_words m.terminate_alternative) refl) r

-- an alternative behind `or`, with and without a guard

guarded_told : (e : m.Expression) (x : m.Alternative) (us : List Word) → Same us (w.alternative_words x) → Says s_guarded (a.guarded (m.an_expression e) x) (word (codes "or") ∷ (guard_tokens e ++ us))
guarded_told e x us h =
    says_guarded (m.an_expression e) x (word (codes "or") ∷ (guard_tokens e ++ us))
    (ap (λ z. codes "or" ∷ z) (same_both (guard_tokens e) (w.guard_words (m.an_expression e)) us (w.alternative_words x) (guard_same e) h))

free_told : (x : m.Alternative) (us : List Word) → Same us (w.alternative_words x) → Says s_guarded (a.guarded m.no_expression x) (word (codes "or") ∷ us)
free_told x us h = says_guarded m.no_expression x (word (codes "or") ∷ us) (ap (λ z. codes "or" ∷ z) h)

pub or_either_told : {k : List Symbol} {ds : List Item} {ws : List Word} → Told (rule g.OrEither ++ k) ds ws → Told (N g.OrEither ∷ k) (made g.OrEither ds) ws
or_either_told (t_word c (t_some (says_guard e) (t_part {ws = ws} (says_alternative x us h) r))) = so (t_part (guarded_told e x us h) r) (one_on _ _ _ (append_assoc (guard_tokens e) us ws))
or_either_told (t_word c (t_none (t_part (says_alternative x us h) r))) = t_part (free_told x us h) r

pub or_accept_told : {k : List Symbol} {ds : List Item} {ws : List Word} → Told (rule g.OrAccept ++ k) ds ws → Told (N g.OrAccept ∷ k) (made g.OrAccept ds) ws
or_accept_told (t_word c (t_some (says_guard e) (t_part {ws = ws} (says_alternative x us h) r))) = so (t_part (guarded_told e x us h) r) (one_on _ _ _ (append_assoc (guard_tokens e) us ws))
or_accept_told (t_word c (t_none (t_part (says_alternative x us h) r))) = t_part (free_told x us h) r

-- an alternative with others behind it
row_told : (x : m.Alternative) (y : Item) (us vs : List Word) → Same us (w.alternative_words x) → Same vs (w.alternatives_words (a.the_alternatives y)) → Says s_unguarded (a.unguarded x (a.the_alternatives y) m.no_statements) (us ++ vs)
row_told x y us vs h j =
    let others : List Word = w.alternatives_words (a.the_alternatives y) in
    says_unguarded x (a.the_alternatives y) m.no_statements (us ++ vs) (same_both us (w.alternative_words x) vs (others ++ []) h (j ∙ ap texts (sym (append-nil others))))

pub with_delays_told : {k : List Symbol} {ds : List Item} {ws : List Word} → Told (rule g.WithDelays ++ k) ds ws → Told (N g.WithDelays ∷ k) (made g.WithDelays ds) ws
with_delays_told (t_part (says_alternative x us h) (t_row {x = y} {us = vs} {ws = ws} row r)) = so (t_part (row_told x y us vs h (alternatives_row row)) r) (append_assoc us vs ws)

pub with_terminate_told : {k : List Symbol} {ds : List Item} {ws : List Word} → Told (rule g.WithTerminate ++ k) ds ws → Told (N g.WithTerminate ∷ k) (made g.WithTerminate ds) ws
with_terminate_told (t_part (says_alternative x us h) (t_row {x = y} {us = vs} {ws = ws} row r)) = so (t_part (row_told x y us vs h (alternatives_row row)) r) (append_assoc us vs ws)

pub delays_accept_told : {k : List Symbol} {ds : List Item} {ws : List Word} → Told (rule g.DelaysAccept ++ k) ds ws → Told (N g.DelaysAccept ∷ k) (made g.DelaysAccept ds) ws
delays_accept_told (t_part (says_alternative x us h) (t_row {x = y} {us = vs} {ws = ws} row r)) = so (t_part (row_told x y us vs h (alternatives_row row)) r) (append_assoc us vs ws)

-- an alternative with others and an else part behind it
chain_told : (x : m.Alternative) (xs : m.Alternatives) (y : m.MoreStatements) (us vs : List Word) → Same us (w.alternative_words x) → Same vs (behind_first xs y) → Says s_unguarded (a.unguarded x xs y) (us ++ vs)
chain_told x xs y us vs h j = says_unguarded x xs y (us ++ vs) (same_both us (w.alternative_words x) vs (behind_first xs y) h j)

pub accepts_only_told : {k : List Symbol} {ds : List Item} {ws : List Word} → Told (rule g.AcceptsOnly ++ k) ds ws → Told (N g.AcceptsOnly ∷ k) (made g.AcceptsOnly ds) ws
accepts_only_told (t_part (says_alternative x us h) (t_some {ws = ws} (says_further ys y vs j) r)) = so (t_part (chain_told x ys y us vs h j) r) (append_assoc us vs ws)
accepts_only_told (t_part (says_alternative x us h) (t_none r)) = t_part (says_unguarded x m.no_alternatives m.no_statements us (h ∙ ap texts (sym (append-nil (w.alternative_words x))))) r

pub select_else_told : {k : List Symbol} {ds : List Item} {ws : List Word} → Told (rule g.SelectElse ++ k) ds ws → Told (N g.SelectElse ∷ k) (made g.SelectElse ds) ws
select_else_told (t_part (says_else y ys us h) r) = t_part (says_further m.no_alternatives (m.more_statements y ys) us h) r

pub or_any_told : {k : List Symbol} {ds : List Item} {ws : List Word} → Told (rule g.OrAny ++ k) ds ws → Told (N g.OrAny ∷ k) (made g.OrAny ds) ws
or_any_told (t_word c (t_some (says_guard e) (t_part {ws = ws} (says_unguarded x xs y us h) r))) =
    so (t_part (says_further (m.more_alternatives (m.an_expression e) x xs) y (word (codes "or") ∷ (guard_tokens e ++ us)) (or_same (guard_tokens e) us (m.an_expression e) x xs y (guard_same e) h)) r)
    (one_on _ _ _ (append_assoc (guard_tokens e) us ws))
or_any_told (t_word c (t_none (t_part (says_unguarded x xs y us h) r))) = t_part (says_further (m.more_alternatives m.no_expression x xs) y (word (codes "or") ∷ us) (or_same [] us m.no_expression x xs y refl h)) r

pub delays_first_told : {k : List Symbol} {ds : List Item} {ws : List Word} → Told (rule g.DelaysFirst ++ k) ds ws → Told (N g.DelaysFirst ∷ k) (made g.DelaysFirst ds) ws
delays_first_told (t_part (says_alternative x us h) (t_word c (t_some (says_guard e) (t_part {ws = ws} (says_unguarded z zs y vs j) r)))) =
    so (t_part (chain_told x (m.more_alternatives (m.an_expression e) z zs) y us (word (codes "or") ∷ (guard_tokens e ++ vs)) h (or_same (guard_tokens e) vs (m.an_expression e) z zs y (guard_same e) j)) r)
    (on us _ _ _ (one_on _ _ _ (append_assoc (guard_tokens e) vs ws)))
delays_first_told (t_part (says_alternative x us h) (t_word c (t_none (t_part {ws = ws} (says_unguarded z zs y vs j) r)))) =
    so (t_part (chain_told x (m.more_alternatives m.no_expression z zs) y us (word (codes "or") ∷ vs) h (or_same [] vs m.no_expression z zs y refl j)) r)
    (append_assoc us (word (codes "or") ∷ vs) ws)

pub terminate_first_told : {k : List Symbol} {ds : List Item} {ws : List Word} → Told (rule g.TerminateFirst ++ k) ds ws → Told (N g.TerminateFirst ∷ k) (made g.TerminateFirst ds) ws
terminate_first_told (t_part (says_alternative x us h) (t_part (says_guarded e z vs j) (t_row {x = y} {us = ts} {ws = ws} row r))) =
    let others : List Word = w.alternatives_words (a.the_alternatives y) in
    let all : List Word = or_words e z ++ others in
    so (t_part (chain_told x (m.more_alternatives e z (a.the_alternatives y)) m.no_statements us (vs ++ ts) h (same_both vs (or_words e z) ts others j (alternatives_row row) ∙ ap texts (sym (append-nil all)))) r)
    (on us _ _ _ (append_assoc vs ts ws))

pub accept_select_told : {k : List Symbol} {ds : List Item} {ws : List Word} → Told (rule g.AcceptSelect ++ k) ds ws → Told (N g.AcceptSelect ∷ k) (made g.AcceptSelect ds) ws
accept_select_told (t_some (says_guard e) (t_part {ws = ws} (says_unguarded x xs y us h) r)) =
    so (t_part (says_selects (m.an_expression e) x xs y (guard_tokens e ++ us) (same_both (guard_tokens e) (w.guard_words (m.an_expression e)) us (from_first x xs y) (guard_same e) h)) r) (append_assoc (guard_tokens e) us ws)
accept_select_told (t_none (t_part (says_unguarded x xs y us h) r)) = t_part (says_selects m.no_expression x xs y us h) r

-- RM 9.8, 9.5.4

pub abort_told : {k : List Symbol} {ds : List Item} {ws : List Word} → Told (rule g.Abort ++ k) ds ws → Told (N g.Abort ∷ k) (made g.Abort ds) ws
abort_told (t_token t (t_part (says_name n) (t_row {x = x} {us = us} row (t_word {ws = ws} s r)))) =
    so (t_part (says_statement (m.abort t.at n (a.the_names x)) (w.abort_words n (a.the_names x)) refl) r) (one_on _ _ _ (list_between (w.name_words n) (w.more_names_words (a.the_names x)) (last_word (codes ";") ∷ []) us ws (names_row row)))

pub more_names_told : {k : List Symbol} {ds : List Item} {ws : List Word} → Told (rule g.MoreNames ++ k) ds ws → Told (N g.MoreNames ∷ k) (made g.MoreNames ds) ws
more_names_told (t_word c (t_part (says_name x) r)) = t_part (says_more_name x) r

pub requeue_told : {k : List Symbol} {ds : List Item} {ws : List Word} → Told (rule g.Requeue ++ k) ds ws → Told (N g.Requeue ∷ k) (made g.Requeue ds) ws
requeue_told (t_token t (t_part (says_name n) (t_some says_with_abort (t_word {ws = ws} s r)))) =
    so (t_part (says_statement (m.requeue t.at n true) (w.requeue_words n true) refl) r) (one_on _ _ _ (append_assoc (w.name_words n) (word (codes "with") ∷ word (codes "abort") ∷ last_word (codes ";") ∷ []) ws))
requeue_told (t_token t (t_part (says_name n) (t_none (t_word {ws = ws} s r)))) =
    so (t_part (says_statement (m.requeue t.at n false) (w.requeue_words n false) refl) r) (one_on _ _ _ (append_assoc (w.name_words n) (last_word (codes ";") ∷ []) ws))

pub with_abort_told : {k : List Symbol} {ds : List Item} {ws : List Word} → Told (rule g.WithAbort ++ k) ds ws → Told (N g.WithAbort ∷ k) (made g.WithAbort ds) ws
with_abort_told (t_word c (t_word d r)) = t_part says_with_abort r
