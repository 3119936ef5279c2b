-- The words of protected objects and their bodies are those of their symbols.
use Rattle.std.proofs.Common.{◌≡◌, List, [], ◌∷◌, ◌++◌, refl, sym, ap, ◌∙◌, append_assoc}
use Rattle.std.specs.Prelude.{Option, Some, None, codes}
use Rattle.aud_lex.specs.Why.Spaced.{Word, word, last_word}
use Rattle.aud_text.specs.declared.place.Pos.{Pos}
use Rattle.aud_syntax.specs.declared.tree.Ident.{Ident}
use Rattle.aud_syntax.specs.Plain as m
use Rattle.aud_syntax.specs.Why.Printed as w
use Rattle.aud_grammar.specs.Grammar as g
use Rattle.aud_grammar.specs.Grammar.{Symbol, N, rule}
use Rattle.aud_grammar.specs.Actions as a
use Rattle.aud_grammar.specs.Actions.{Item, made}
use Rattle.aud_grammar.proofs.Sorts.{s_protected_rest, s_operation_body}
use Rattle.aud_grammar.proofs.Told.{Says, says_declarations, says_declaration, says_formals, says_idents, says_initial, says_body, says_expression, says_ident, says_entry, says_operation, says_private_item, says_private, says_protected, says_protected_body, says_operation_body, Told, t_word, t_token, t_part, t_some, t_none, t_row, so, operations_row, private_row, operation_bodies_row}
use Rattle.aud_grammar.proofs.SameWords.{Same, same_both, on, one_on, headed_on, headed_same, protected_words, protected_body_words}

pub protected_told : {k : List Symbol} {ds : List Item} {ws : List Word} → Told (rule g.Protected ++ k) ds ws → Told (N g.Protected ∷ k) (made g.Protected ds) ws
protected_told (t_token t (t_part (says_protected i operations hidden last) r)) = t_part (says_declaration (m.protected t.at i operations hidden last) (w.protected_words i operations hidden last) refl) r
protected_told (t_token t (t_part (says_protected_body i x last us h) r)) = t_part (says_declaration (m.protected_body t.at i x last) (word (codes "protected") ∷ us) (ap (λ z. codes "protected" ∷ z) h)) r

protected_on : (i : Ident) (operations : List m.Operation) (hidden : Option (List m.PrivateItem)) (last : Option Ident) (us ws : List Word) → us ≡ w.operations_words operations →
    protected_words i operations hidden last ++ ws ≡ w.ident_word i ∷ last_word (codes "is") ∷ (us ++ (w.private_words hidden ++ (word (codes "end") ∷ (w.end_words last ++ (last_word (codes ";") ∷ ws)))))
protected_on i operations hidden last us ws e =
    let end : List Word = word (codes "end") ∷ (w.end_words last ++ (last_word (codes ";") ∷ ws)) in
    one_on _ _ _ (one_on _ _ _ (on (w.operations_words operations) _ _ _ (on (w.private_words hidden) _ _ _ (one_on _ _ _ (on (w.end_words last) _ _ _ refl))) ∙ ap (λ z. z ++ (w.private_words hidden ++ end)) (sym e)))

pub protected_declaration_told : {k : List Symbol} {ds : List Item} {ws : List Word} → Told (rule g.ProtectedDeclaration ++ k) ds ws → Told (N g.ProtectedDeclaration ∷ k) (made g.ProtectedDeclaration ds) ws
protected_declaration_told (t_part (says_ident i) (t_word c (t_row {x = x} {us = us} row (t_some (says_private ys) (t_word e (t_some (says_ident j) (t_word {ws = ws} s r))))))) =
    so (t_part (says_protected i (a.the_operations x) (Some ys) (Some j)) r) (protected_on i (a.the_operations x) (Some ys) (Some j) us ws (operations_row row))
protected_declaration_told (t_part (says_ident i) (t_word c (t_row {x = x} {us = us} row (t_some (says_private ys) (t_word e (t_none (t_word {ws = ws} s r))))))) =
    so (t_part (says_protected i (a.the_operations x) (Some ys) None) r) (protected_on i (a.the_operations x) (Some ys) None us ws (operations_row row))
protected_declaration_told (t_part (says_ident i) (t_word c (t_row {x = x} {us = us} row (t_none (t_word e (t_some (says_ident j) (t_word {ws = ws} s r))))))) =
    so (t_part (says_protected i (a.the_operations x) None (Some j)) r) (protected_on i (a.the_operations x) None (Some j) us ws (operations_row row))
protected_declaration_told (t_part (says_ident i) (t_word c (t_row {x = x} {us = us} row (t_none (t_word e (t_none (t_word {ws = ws} s r))))))) =
    so (t_part (says_protected i (a.the_operations x) None None) r) (protected_on i (a.the_operations x) None None us ws (operations_row row))

pub private_part_told : {k : List Symbol} {ds : List Item} {ws : List Word} → Told (rule g.PrivatePart ++ k) ds ws → Told (N g.PrivatePart ∷ k) (made g.PrivatePart ds) ws
private_part_told (t_word c (t_row {x = x} {us = us} {ws = ws} row r)) = so (t_part (says_private (a.the_private_items x)) r) (one_on _ _ _ (ap (λ z. z ++ ws) (sym (private_row row))))

pub private_operation_told : {k : List Symbol} {ds : List Item} {ws : List Word} → Told (rule g.PrivateOperation ++ k) ds ws → Told (N g.PrivateOperation ∷ k) (made g.PrivateOperation ds) ws
private_operation_told (t_part (says_operation x) r) = t_part (says_private_item (m.private_operation x)) r

pub components_told : {k : List Symbol} {ds : List Item} {ws : List Word} → Told (rule g.Components ++ k) ds ws → Told (N g.Components ∷ k) (made g.Components ds) ws
components_told (t_part (says_idents x xs) (t_word c (t_part (says_ident i) (t_some (says_initial e) (t_word {ws = ws} s r))))) =
    so (t_part (says_private_item (m.components x xs i (m.an_expression e))) r) (on (w.idents_words x xs) _ _ _ (one_on _ _ _ (one_on _ _ _ (append_assoc (word (codes ":=") ∷ w.expression_words e) (last_word (codes ";") ∷ []) ws))))
components_told (t_part (says_idents x xs) (t_word c (t_part (says_ident i) (t_none (t_word {ws = ws} s r))))) =
    so (t_part (says_private_item (m.components x xs i m.no_expression)) r) (append_assoc (w.idents_words x xs) (word (codes ":") ∷ w.ident_word i ∷ last_word (codes ";") ∷ []) ws)

pub entry_operation_told : {k : List Symbol} {ds : List Item} {ws : List Word} → Told (rule g.EntryOperation ++ k) ds ws → Told (N g.EntryOperation ∷ k) (made g.EntryOperation ds) ws
entry_operation_told (t_part (says_entry x) r) = t_part (says_operation (m.entry_operation x)) r

pub procedure_operation_told : {k : List Symbol} {ds : List Item} {ws : List Word} → Told (rule g.ProcedureOperation ++ k) ds ws → Told (N g.ProcedureOperation ∷ k) (made g.ProcedureOperation ds) ws
procedure_operation_told (t_word c (t_part (says_ident i) (t_some (says_formals f) (t_word {ws = ws} s r)))) =
    so (t_part (says_operation (m.procedure_operation i (a.the_formals f))) r) (one_on _ _ _ (one_on _ _ _ (append_assoc (w.formals_words (a.the_formals f)) (last_word (codes ";") ∷ []) ws)))
procedure_operation_told (t_word c (t_part (says_ident i) (t_none (t_word s r)))) = t_part (says_operation (m.procedure_operation i [])) r

pub function_operation_told : {k : List Symbol} {ds : List Item} {ws : List Word} → Told (rule g.FunctionOperation ++ k) ds ws → Told (N g.FunctionOperation ∷ k) (made g.FunctionOperation ds) ws
function_operation_told (t_word c (t_part (says_ident i) (t_some (says_formals f) (t_word d (t_part (says_ident t) (t_word {ws = ws} s r)))))) =
    so (t_part (says_operation (m.function_operation i (a.the_formals f) t)) r) (one_on _ _ _ (one_on _ _ _ (append_assoc (w.formals_words (a.the_formals f)) (word (codes "return") ∷ w.ident_word t ∷ last_word (codes ";") ∷ []) ws)))
function_operation_told (t_word c (t_part (says_ident i) (t_none (t_word d (t_part (says_ident t) (t_word s r)))))) = t_part (says_operation (m.function_operation i [] t)) r

protected_body_on : (i : Ident) (last : Option Ident) (us ws : List Word) →
    protected_body_words i us last ++ ws ≡ word (codes "body") ∷ w.ident_word i ∷ last_word (codes "is") ∷ (us ++ (word (codes "end") ∷ (w.end_words last ++ (last_word (codes ";") ∷ ws))))
protected_body_on i last us ws = one_on _ _ _ (one_on _ _ _ (one_on _ _ _ (on us _ _ _ (one_on _ _ _ (on (w.end_words last) _ _ _ refl)))))

bodies_told : (i : Ident) (x : m.OperationBodies) (last : Option Ident) (us : List Word) → Same us (w.operation_bodies_words x) → Says s_protected_rest (a.a_protected_body i x last) (protected_body_words i us last)
bodies_told i x last us h =
    says_protected_body i x last (protected_body_words i us last)
    (ap (λ z. codes "body" ∷ i.name ∷ codes "is" ∷ z) (same_both us (w.operation_bodies_words x) (w.ending_words last) (w.ending_words last) h refl))

pub protected_body_told : {k : List Symbol} {ds : List Item} {ws : List Word} → Told (rule g.ProtectedBody ++ k) ds ws → Told (N g.ProtectedBody ∷ k) (made g.ProtectedBody ds) ws
protected_body_told (t_word c (t_part (says_ident i) (t_word d (t_row {x = x} {us = us} row (t_word e (t_some (says_ident j) (t_word {ws = ws} s r))))))) =
    so (t_part (bodies_told i (a.the_operation_bodies x) (Some j) us (operation_bodies_row row)) r) (protected_body_on i (Some j) us ws)
protected_body_told (t_word c (t_part (says_ident i) (t_word d (t_row {x = x} {us = us} row (t_word e (t_none (t_word {ws = ws} s r))))))) =
    so (t_part (bodies_told i (a.the_operation_bodies x) None us (operation_bodies_row row)) r) (protected_body_on i None us ws)

-- the bodies of operations, from their heads on

entry_inside : (at : Pos) (i : Ident) (fs : List m.Formal) (e : m.Expression) (ds : m.Declarations) (b : m.Body) (es us : List Word) → Same es (w.declarations_words ds) → Same us (w.body_words b) →
    Says s_operation_body (a.an_operation_body (m.entry_body at i fs e ds b)) (w.headed_words (codes "entry") i fs (word (codes "when") ∷ w.expression_words e) (es ++ us))
entry_inside at i fs e ds b es us h j =
    says_operation_body (m.entry_body at i fs e ds b) (w.headed_words (codes "entry") i fs (word (codes "when") ∷ w.expression_words e) (es ++ us))
    (headed_same (codes "entry") i fs (word (codes "when") ∷ w.expression_words e) es (w.declarations_words ds) us (w.body_words b) h j)

pub entry_body_told : {k : List Symbol} {ds : List Item} {ws : List Word} → Told (rule g.EntryBody ++ k) ds ws → Told (N g.EntryBody ∷ k) (made g.EntryBody ds) ws
entry_body_told (t_token t (t_part (says_ident i) (t_some (says_formals f) (t_word c (t_part (says_expression e) (t_word y (t_some (says_declarations d es h) (t_part {ws = ws} (says_body b us j) r)))))))) =
    so (t_part (entry_inside t.at i (a.the_formals f) e (a.the_declarations d) b es us h j) r) (headed_on (codes "entry") i (a.the_formals f) (word (codes "when") ∷ w.expression_words e) es us ws)
entry_body_told (t_token t (t_part (says_ident i) (t_some (says_formals f) (t_word c (t_part (says_expression e) (t_word y (t_none (t_part {ws = ws} (says_body b us j) r)))))))) =
    so (t_part (entry_inside t.at i (a.the_formals f) e m.no_declarations b [] us refl j) r) (headed_on (codes "entry") i (a.the_formals f) (word (codes "when") ∷ w.expression_words e) [] us ws)
entry_body_told (t_token t (t_part (says_ident i) (t_none (t_word c (t_part (says_expression e) (t_word y (t_some (says_declarations d es h) (t_part {ws = ws} (says_body b us j) r)))))))) =
    so (t_part (entry_inside t.at i [] e (a.the_declarations d) b es us h j) r) (headed_on (codes "entry") i [] (word (codes "when") ∷ w.expression_words e) es us ws)
entry_body_told (t_token t (t_part (says_ident i) (t_none (t_word c (t_part (says_expression e) (t_word y (t_none (t_part {ws = ws} (says_body b us j) r)))))))) =
    so (t_part (entry_inside t.at i [] e m.no_declarations b [] us refl j) r) (headed_on (codes "entry") i [] (word (codes "when") ∷ w.expression_words e) [] us ws)

procedure_inside : (at : Pos) (i : Ident) (fs : List m.Formal) (ds : m.Declarations) (b : m.Body) (es us : List Word) → Same es (w.declarations_words ds) → Same us (w.body_words b) →
    Says s_operation_body (a.an_operation_body (m.procedure_body at i fs ds b)) (w.headed_words (codes "procedure") i fs [] (es ++ us))
procedure_inside at i fs ds b es us h j =
    says_operation_body (m.procedure_body at i fs ds b) (w.headed_words (codes "procedure") i fs [] (es ++ us))
    (headed_same (codes "procedure") i fs [] es (w.declarations_words ds) us (w.body_words b) h j)

pub procedure_body_told : {k : List Symbol} {ds : List Item} {ws : List Word} → Told (rule g.ProcedureBody ++ k) ds ws → Told (N g.ProcedureBody ∷ k) (made g.ProcedureBody ds) ws
procedure_body_told (t_token t (t_part (says_ident i) (t_some (says_formals f) (t_word c (t_some (says_declarations d es h) (t_part {ws = ws} (says_body b us j) r)))))) =
    so (t_part (procedure_inside t.at i (a.the_formals f) (a.the_declarations d) b es us h j) r) (headed_on (codes "procedure") i (a.the_formals f) [] es us ws)
procedure_body_told (t_token t (t_part (says_ident i) (t_some (says_formals f) (t_word c (t_none (t_part {ws = ws} (says_body b us j) r)))))) =
    so (t_part (procedure_inside t.at i (a.the_formals f) m.no_declarations b [] us refl j) r) (headed_on (codes "procedure") i (a.the_formals f) [] [] us ws)
procedure_body_told (t_token t (t_part (says_ident i) (t_none (t_word c (t_some (says_declarations d es h) (t_part {ws = ws} (says_body b us j) r)))))) =
    so (t_part (procedure_inside t.at i [] (a.the_declarations d) b es us h j) r) (headed_on (codes "procedure") i [] [] es us ws)
procedure_body_told (t_token t (t_part (says_ident i) (t_none (t_word c (t_none (t_part {ws = ws} (says_body b us j) r)))))) =
    so (t_part (procedure_inside t.at i [] m.no_declarations b [] us refl j) r) (headed_on (codes "procedure") i [] [] [] us ws)

function_inside : (at : Pos) (i : Ident) (fs : List m.Formal) (k : Ident) (ds : m.Declarations) (b : m.Body) (es us : List Word) → Same es (w.declarations_words ds) → Same us (w.body_words b) →
    Says s_operation_body (a.an_operation_body (m.function_body at i fs k ds b)) (w.headed_words (codes "function") i fs (word (codes "return") ∷ w.ident_word k ∷ []) (es ++ us))
function_inside at i fs k ds b es us h j =
    says_operation_body (m.function_body at i fs k ds b) (w.headed_words (codes "function") i fs (word (codes "return") ∷ w.ident_word k ∷ []) (es ++ us))
    (headed_same (codes "function") i fs (word (codes "return") ∷ w.ident_word k ∷ []) es (w.declarations_words ds) us (w.body_words b) h j)

pub function_body_told : {k : List Symbol} {ds : List Item} {ws : List Word} → Told (rule g.FunctionBody ++ k) ds ws → Told (N g.FunctionBody ∷ k) (made g.FunctionBody ds) ws
function_body_told (t_token t (t_part (says_ident i) (t_some (says_formals f) (t_word c (t_part (says_ident k) (t_word y (t_some (says_declarations d es h) (t_part {ws = ws} (says_body b us j) r)))))))) =
    so (t_part (function_inside t.at i (a.the_formals f) k (a.the_declarations d) b es us h j) r) (headed_on (codes "function") i (a.the_formals f) (word (codes "return") ∷ w.ident_word k ∷ []) es us ws)
function_body_told (t_token t (t_part (says_ident i) (t_some (says_formals f) (t_word c (t_part (says_ident k) (t_word y (t_none (t_part {ws = ws} (says_body b us j) r)))))))) =
    so (t_part (function_inside t.at i (a.the_formals f) k m.no_declarations b [] us refl j) r) (headed_on (codes "function") i (a.the_formals f) (word (codes "return") ∷ w.ident_word k ∷ []) [] us ws)
function_body_told (t_token t (t_part (says_ident i) (t_none (t_word c (t_part (says_ident k) (t_word y (t_some (says_declarations d es h) (t_part {ws = ws} (says_body b us j) r)))))))) =
    so (t_part (function_inside t.at i [] k (a.the_declarations d) b es us h j) r) (headed_on (codes "function") i [] (word (codes "return") ∷ w.ident_word k ∷ []) es us ws)
function_body_told (t_token t (t_part (says_ident i) (t_none (t_word c (t_part (says_ident k) (t_word y (t_none (t_part {ws = ws} (says_body b us j) r)))))))) =
    so (t_part (function_inside t.at i [] k m.no_declarations b [] us refl j) r) (headed_on (codes "function") i [] (word (codes "return") ∷ w.ident_word k ∷ []) [] us ws)
