-- Words that are written one after the other.
use Rattle.std.proofs.Common.{◌≡◌, ℕ, suc, ◌+◌, ◌<◌, ◌≤◌, List, [], ◌∷◌, ◌++◌, map, length, drop, get_or, add-one, append_assoc, refl, ap, sym, ◌∙◌}
use Rattle.std.proofs.Math.Seq.{drop-cons}
use Rattle.std.proofs.lemmas.List.{drop_all, get_or_default}
use Rattle.std.proofs.Common.{true, false, ◌==◌}
use Rattle.std.specs.Prelude.{Result, Ok, Err, OnOk, is_err, codes}
use Rattle.aud_lex.specs.Why.Spaced.{Word, word, last_word, separator, spaced}
use Rattle.aud_syntax.specs.declared.tree.Expression.{Expression}
use Rattle.aud_syntax.specs.Plain as m
use Rattle.std.specs.Prelude.{Option, None, Box, Vec}
use Rattle.std.specs.Global.{Global}
use Rattle.std.proofs.Common.{append-nil, subst}
use Rattle.aud_syntax.specs.declared.tree.Ident.{Ident}
use Rattle.aud_syntax.specs.declared.tree.Name as name
use Rattle.aud_syntax.specs.declared.tree.Chain.{Chain}
use Rattle.aud_syntax.specs.declared.tree.Expression.TheVariants.{Connected}
use Rattle.aud_syntax.specs.declared.tree.Primary as primary
use Rattle.aud_syntax.specs.declared.tree.Statement.{Statement}
use Rattle.aud_syntax.specs.declared.tree.Statement.TheVariants.{Loop, SelectCall}
use Rattle.aud_syntax.specs.declared.tree.IfStatement.{IfStatement}
use Rattle.aud_syntax.specs.declared.tree.LoopStatement.{LoopStatement}
use Rattle.aud_syntax.specs.declared.tree.BlockStatement.{BlockStatement}
use Rattle.aud_syntax.specs.declared.tree.Body.{Body}
use Rattle.aud_syntax.specs.declared.tree.Formal.{Formal}
use Rattle.aud_syntax.specs.declared.tree.ProcedureDeclaration.{ProcedureDeclaration}
use Rattle.aud_syntax.specs.declared.tree.TaskBody.{TaskBody}
use Rattle.aud_syntax.specs.declared.tree.ProtectedBody.{ProtectedBody}
use Rattle.aud_syntax.specs.declared.tree.OperationBody.{OperationBody, out-OperationBody}
use Rattle.aud_syntax.specs.declared.tree.OperationKind.{OperationKind}
use Rattle.aud_syntax.specs.declared.tree.OperationKind.TheVariants as operation_kind
use Rattle.aud_text.specs.declared.place.Pos.{Pos}
use Rattle.aud_syntax.specs.declared.tree.Statements.{Statements}
use Rattle.aud_syntax.specs.declared.tree.AcceptStatement.{AcceptStatement}
use Rattle.aud_syntax.specs.declared.tree.Delay.{Delay}
use Rattle.aud_syntax.specs.declared.tree.SelectStatement.{SelectStatement}
use Rattle.aud_syntax.specs.declared.tree.SelectedCall.{SelectedCall}
use Rattle.aud_syntax.specs.declared.tree.Alternative.TheVariants as alternative
use Rattle.aud_syntax.specs.declared.tree.Otherwise.TheVariants as otherwise
use Rattle.aud_syntax.specs.declared.tree.Handler.{Handler}
use Rattle.aud_syntax.specs.Ties.View.{plain_expression, plain_chain, plain_boxed, plain_expressions, plain_name, plain_primary, plain_statement, plain_others, plain_if, plain_if_statement, plain_loop_statement, plain_block, plain_block_statement, plain_body, plain_body_parts, handler_list, plain_formal, plain_procedure, plain_procedure_parts, plain_task_body, plain_task_body_parts, made_operation_body, plain_operation_body, plain_operation_body_parts, plain_protected_body, plain_protected_body_parts, plain_declarations, plain_statements, plain_delay, plain_accept, plain_accept_parts, plain_select, plain_select_statement, plain_selected_call, plain_alternative, plain_other}
use Rattle.aud_syntax.specs.Why.Printed.{ident_word, expression_words, name_words, primary_words, argument_words, args_words, more_args_words, otherwise_words, statement_words, more_statements_words, body_words, handled_words, handlers_words, formal_words, more_formals_words, formals_words, declaration_words, declarations_words, head_words, operation_body_words, statements_words, words_behind, delay_words, accept_words, doing_words, alternative_words, other_words}
use Rattle.aud_syntax.specs.Ties.Heads.{operation_head_words}
use Rattle.aud_syntax.proofs.Opened.{chain_open, attribute_open, if_open, loop_open, block_open, body_open, procedure_open, task_body_open, operation_body_open, protected_body_open, accept_open, select_open, selected_call_open, accept_alternative_open, delay_alternative_open, or_delay_open, or_else_open}
use Rattle.aud_syntax.specs.declared.writing.Written.{Written}
use Rattle.aud_syntax.specs.Ties.Writes.{Appends, Writes}

pub spaced_append : (a b : List Word) → spaced (a ++ b) ≡ spaced a ++ spaced b
spaced_append [] b = refl
spaced_append (w ∷ a) b = ap (λ z. w.bytes ++ (separator w.is_last ∷ z)) (spaced_append a b) ∙ sym (append_assoc w.bytes (separator w.is_last ∷ spaced a) (spaced b))

-- some bytes, and then others
infixr 30 ◌more◌
pub ◌more◌ : {a b c : Written} {x y : List ℕ} → Appends a b x → Appends b c y → Appends a c (x ++ y)
◌more◌ {a} {b} {c} {x} {y} h k = record {
  kept = λ e. h.kept (k.kept e);
  items = λ e. k.items e ∙ ap (λ z. z ++ y) (h.items (k.kept e)) ∙ append_assoc a.text.items x y;
}

-- nothing is appended once memory was refused
pub refused_before : {a : Written} {bytes : List ℕ} → a.refused ≡ true → Appends a a bytes
refused_before h = record { kept = λ e. e; items = λ e. cc }

-- what a call appends by which memory may be refused
pub appended_unless : {T E : Type 0} {a b : Written} {bytes : List ℕ} (r : Result T E) → a.refused ≡ false → b.refused ≡ is_err r → OnOk r (b.text.items ≡ a.text.items ++ bytes) → Appends a b bytes
appended_unless (Ok x) h e k = record { kept = λ _. h; items = λ _. k }
appended_unless (Err x) h e k = record { kept = λ _. h; items = λ f. cc }

-- some words, and then others
infixr 30 ◌then◌
pub ◌then◌ : {a b c : Written} {x y : List Word} → Writes a b x → Writes b c y → Writes a c (x ++ y)
◌then◌ {a} {b} {c} {x} {y} h k = record { appends = subst (λ z. Appends a c z) (sym (spaced_append x y)) (h.appends more k.appends) }

pub nothing_appended : {a : Written} → Appends a a []
nothing_appended {a} = record { kept = λ e. e; items = λ e. sym (append-nil a.text.items) }

pub nothing_written : {a : Written} → Writes a a []
nothing_written = record { appends = nothing_appended }

-- of all words that a function writes the last ones are left to be written
pub record Remains (begun now : Written) (all left : List Word) : Type 0 where
  pub rest : (after : Written) → Writes now after left → Writes begun after all

pub all_remain : {a : Written} (all : List Word) → Remains a a all all
all_remain all = record { rest = λ after h. h }

pub some_remain : {a b : Written} {x : List Word} (left : List Word) → Writes a b x → Remains a b (x ++ left) left
some_remain left h = record { rest = λ after k. h then k }

pub one_fewer : {a b c : Written} {all x : List Word} (left : List Word) → Remains a b all (x ++ left) → Writes b c x → Remains a c all left
one_fewer left h k = record { rest = λ after l. h.rest after (k then l) }

pub none_remain : {a b : Written} {all : List Word} → Remains a b all [] → Writes a b all
none_remain {b = b} h = h.rest b nothing_written

-- of all bytes that a function writes the last ones are left to be written
pub record Lacks (begun now : Written) (all left : List ℕ) : Type 0 where
  pub rest : (after : Written) → Appends now after left → Appends begun after all

-- what a loop over a list has before it
pub dropped : {A : Type 0} (xs : List A) (i : ℕ) (x : A) → i < length xs → x ≡ get_or xs i x → drop i xs ≡ x ∷ drop (i + 1) xs
dropped xs i x h e = rw (add-one, drop-cons xs i x) (ap (λ z. z ∷ drop (suc i) xs) (sym e))

-- a loop over bytes writes those that stand for one more
pub next_appended : {a b c : Written} {all : List ℕ} (bytes : List ℕ → List ℕ) → ((x : ℕ) (xs : List ℕ) → bytes (x ∷ xs) ≡ bytes (x ∷ []) ++ bytes xs) →
    (xs : List ℕ) (i : ℕ) → i < length xs → Lacks a b all (bytes (drop i xs)) → Appends b c (bytes (get_or xs i 0 ∷ [])) → Lacks a c all (bytes (drop (i + 1) xs))
next_appended {a = a} {b = b} {all = all} bytes opens xs i h l k =
    let x : ℕ = get_or xs i 0 in
    let opened : bytes (drop i xs) ≡ bytes (x ∷ []) ++ bytes (drop (i + 1) xs) = ap bytes (dropped xs i x h (get_or_default xs i 0 x h)) ∙ opens x (drop (i + 1) xs) in
    let lacks : Lacks a b all (bytes (x ∷ []) ++ bytes (drop (i + 1) xs)) = subst (λ z. Lacks a b all z) opened l in
    record { rest = λ after m. lacks.rest after (k more m) }

-- a loop over bytes has written those that stand for all
pub bytes_end : {a b : Written} {all : List ℕ} (bytes : List ℕ → List ℕ) → bytes [] ≡ [] → (xs : List ℕ) (i : ℕ) → length xs ≤ i → Lacks a b all (bytes (drop i xs)) → Appends a b all
bytes_end {a} {b} {all} bytes e xs i h l =
    let lacks : Lacks a b all [] = subst (λ z. Lacks a b all z) (ap bytes (drop_all i xs h) ∙ e) l in
    lacks.rest b nothing_appended

-- a loop over a list writes the words of one more
pub next_written : {A : Type 0} {a b c : Written} {all : List Word} (words : List A → List Word) (one : A → List Word) → ((x : A) (xs : List A) → words (x ∷ xs) ≡ one x ++ words xs) →
    (xs : List A) (i : ℕ) (x : A) → i < length xs → x ≡ get_or xs i x → Remains a b all (words (drop i xs)) → Writes b c (one x) → Remains a c all (words (drop (i + 1) xs))
next_written {a = a} {b = b} {all = all} words one opens xs i x h e l k =
    one_fewer (words (drop (i + 1) xs)) (subst (λ z. Remains a b all z) (ap words (dropped xs i x h e) ∙ opens x (drop (i + 1) xs)) l) k

-- a loop over a list has written the words of all
pub loop_ends : {A : Type 0} {a b : Written} {all : List Word} (words : List A → List Word) → words [] ≡ [] → (xs : List A) (i : ℕ) → length xs ≤ i → Remains a b all (words (drop i xs)) → Writes a b all
loop_ends {a = a} {b = b} {all = all} words e xs i h l = none_remain (subst (λ z. Remains a b all z) (ap words (drop_all i xs h) ∙ e) l)

-- some words are written before a loop over a list writes the others
pub loop_begins : {A : Type 0} {a b : Written} {before : List Word} (words : List A → List Word) (xs ys : List A) → ys ≡ xs → Writes a b before → (all : List Word) → all ≡ before ++ words xs → Remains a b all (words ys)
loop_begins {a = a} {b = b} words xs ys e k all h =
    subst (λ z. Remains a b all (words z)) (sym e) (subst (λ z. Remains a b z (words xs)) (sym h) (some_remain (words xs) k))

-- arguments, the first behind this word and each other one behind a comma
abbrev pub listed : List ℕ → m.Args → List Word
listed before m.no_args = []
listed before (m.more_args e xs) = word before ∷ (expression_words e ++ more_args_words xs)

more_listed : (xs : m.Args) → more_args_words xs ≡ listed (codes ",") xs
more_listed m.no_args = refl
more_listed (m.more_args e xs) = refl

pub argument_written : {a b c d : Written} {all : List Word} (before : List ℕ) (x : Expression) (xs ys : List Expression) → xs ≡ x ∷ ys → Remains a b all (listed before (plain_expressions xs)) →
    Writes b c (word before ∷ []) → Writes c d (expression_words (plain_expression x)) → Remains a d all (listed (codes ",") (plain_expressions ys))
argument_written {a} {b} {all = all} before x xs ys e h k l =
    let words : listed before (plain_expressions xs) ≡ word before ∷ (expression_words (plain_expression x) ++ listed (codes ",") (plain_expressions ys)) =
    ap (λ z. listed before (plain_expressions z)) e ∙ ap (λ z. word before ∷ (expression_words (plain_expression x) ++ z)) (more_listed (plain_expressions ys)) in
    one_fewer (listed (codes ",") (plain_expressions ys)) (subst (λ z. Remains a b all z) words h) (k then l)

some_arguments : (xs : List Expression) → (length xs == 0) ≡ false → listed (codes "(") (plain_expressions xs) ++ (word (codes ")") ∷ []) ≡ args_words (plain_expressions xs)
some_arguments [] e = cc
some_arguments (x ∷ xs) e = refl

-- the last argument behind an identifier is written, and the parenthesis that closes
pub arguments_end : {a b c : Written} (before : List ℕ) (i : Ident) (xs ys : List Expression) → ys ≡ [] → Remains a b (ident_word i ∷ listed (codes "(") (plain_expressions xs)) (listed before (plain_expressions ys)) →
    (length xs == 0) ≡ false → Writes b c (word (codes ")") ∷ []) → Writes a c (ident_word i ∷ args_words (plain_expressions xs))
arguments_end {a} {b} {c} before i xs ys e h n k =
    let all : List Word = ident_word i ∷ listed (codes "(") (plain_expressions xs) in
    let written : Writes a b all = none_remain (subst (λ z. Remains a b all (listed before (plain_expressions z))) e h) in
    subst (λ z. Writes a c (ident_word i ∷ z)) (some_arguments xs n) (written then k)

-- the words of a tree, by its parts
pub written_as : {a b : Written} {M : Type 0} (words : M → List Word) (x y : M) → x ≡ y → Writes a b (words y) → Writes a b (words x)
written_as {a} {b} words x y e h = subst (λ z. Writes a b (words z)) (sym e) h

-- relations with operators between them, as an expression
pub chain_written : {a b : Written} (x : Box Chain Global) → Writes a b (expression_words (plain_chain x.value)) → Writes a b (expression_words (plain_expression (Connected x)))
chain_written x h = written_as expression_words (plain_expression (Connected x)) (plain_chain x.value) (chain_open x) h

-- an attribute as a primary
pub attribute_written : {a b c d e : Written} (x : Box name.Name Global) (i : Ident) (argument : Option (Box Expression Global)) → Writes a b (name_words (plain_name x.value)) → Writes b c (word (codes "'") ∷ []) →
    Writes c d (ident_word i ∷ []) → Writes d e (argument_words (plain_boxed argument)) → Writes a e (primary_words (plain_primary (primary.Attribute x i argument)))
attribute_written {a} {e = e} x i argument h k l n = subst (λ z. Writes a e (primary_words z)) (sym (attribute_open x i argument)) (h then k then l then n)

pub attribute_alone : {a b c d : Written} (x : Box name.Name Global) (i : Ident) → Writes a b (name_words (plain_name x.value)) → Writes b c (word (codes "'") ∷ []) → Writes c d (ident_word i ∷ []) →
    Writes a d (primary_words (plain_primary (primary.Attribute x i None)))
attribute_alone x i h k l = attribute_written x i None h k l nothing_written

-- an if statement and a loop, as statements
pub if_written : {a b : Written} (x : IfStatement) → Writes a b (statement_words (plain_if_statement x)) → Writes a b (statement_words (plain_if x))
if_written x h = written_as statement_words (plain_if x) (plain_if_statement x) (if_open x) h

pub loop_written : {a b : Written} (x : Box LoopStatement Global) → Writes a b (statement_words (plain_loop_statement x.value)) → Writes a b (statement_words (plain_statement (Loop x)))
loop_written x h = written_as statement_words (plain_statement (Loop x)) (plain_loop_statement x.value) (loop_open x) h

-- a block, as a statement
pub block_written : {a b : Written} (x : BlockStatement) → Writes a b (statement_words (plain_block_statement x)) → Writes a b (statement_words (plain_block x))
block_written x h = written_as statement_words (plain_block x) (plain_block_statement x) (block_open x) h

-- a procedure, as a declaration
pub procedure_written : {a b : Written} (x : ProcedureDeclaration) → Writes a b (declaration_words (plain_procedure_parts x)) → Writes a b (declaration_words (plain_procedure x))
procedure_written x h = written_as declaration_words (plain_procedure x) (plain_procedure_parts x) (procedure_open x) h

-- the body of a task, as a declaration
pub task_body_written : {a b : Written} (x : TaskBody) → Writes a b (declaration_words (plain_task_body_parts x)) → Writes a b (declaration_words (plain_task_body x))
task_body_written x h = written_as declaration_words (plain_task_body x) (plain_task_body_parts x) (task_body_open x) h

-- the body of a protected object, as a declaration
pub protected_body_written : {a b : Written} (x : ProtectedBody) → Writes a b (declaration_words (plain_protected_body_parts x)) → Writes a b (declaration_words (plain_protected_body x))
protected_body_written x h = written_as declaration_words (plain_protected_body x) (plain_protected_body_parts x) (protected_body_open x) h

-- the body of an operation, by its head and what stands behind its `is`

headed : (kind : OperationKind) (at : Pos) (i : Ident) (formals : List m.Formal) (ds : m.Declarations) (x : m.Body) →
    operation_body_words (made_operation_body kind at i formals ds x) ≡ operation_head_words kind i formals ++ (last_word (codes "is") ∷ (declarations_words ds ++ body_words x))
headed (operation_kind.Entry barrier) at i formals ds x =
    sym (append_assoc (head_words (codes "entry") i formals) (word (codes "when") ∷ expression_words (plain_expression barrier)) (last_word (codes "is") ∷ (declarations_words ds ++ body_words x)))
headed operation_kind.Procedure at i formals ds x = refl
headed (operation_kind.Function subtype) at i formals ds x =
    sym (append_assoc (head_words (codes "function") i formals) (word (codes "return") ∷ ident_word subtype ∷ []) (last_word (codes "is") ∷ (declarations_words ds ++ body_words x)))

pub operation_body_written : {a b : Written} (s : OperationBody) →
    (let x = out-OperationBody s in Writes a b (operation_head_words x.kind x.name (map plain_formal x.formals.items) ++ (last_word (codes "is") ∷ (declarations_words (plain_declarations x.declarations.items) ++ body_words (plain_body x.body))))) →
    Writes a b (operation_body_words (plain_operation_body s))
operation_body_written {a} {b} s h =
    let x = out-OperationBody s in
    written_as operation_body_words (plain_operation_body s) (plain_operation_body_parts s) (operation_body_open s)
    (subst (λ z. Writes a b z) (sym (headed x.kind x.at x.name (map plain_formal x.formals.items) (plain_declarations x.declarations.items) (plain_body x.body))) h)

-- statements with handlers, by their parts, behind `begin` or another word

body_behind : (x : m.Body) → body_words x ≡ words_behind (codes "begin") x
body_behind (m.body begin statements hs end last semicolon) = refl

doing_behind : (x : m.Body) → doing_words (m.with_do x) ≡ words_behind (codes "do") x
doing_behind (m.body begin statements hs end last semicolon) = refl

pub enclosed_written : {a b : Written} (spelling : List ℕ) (x : Body) → Writes a b (words_behind spelling (plain_body_parts x)) → Writes a b (words_behind spelling (plain_body x))
enclosed_written spelling x h = written_as (words_behind spelling) (plain_body x) (plain_body_parts x) (body_open x) h

pub begin_written : {a b : Written} (x : m.Body) → Writes a b (words_behind (codes "begin") x) → Writes a b (body_words x)
begin_written {a} {b} x h = subst (λ z. Writes a b z) (sym (body_behind x)) h

pub do_written : {a b : Written} (x : m.Body) → Writes a b (words_behind (codes "do") x) → Writes a b (doing_words (m.with_do x))
do_written {a} {b} x h = subst (λ z. Writes a b z) (sym (doing_behind x)) h

-- accept and select statements, by their parts

pub accept_written : {a b : Written} (x : AcceptStatement) → Writes a b (accept_words (plain_accept_parts x)) → Writes a b (accept_words (plain_accept x))
accept_written x h = written_as accept_words (plain_accept x) (plain_accept_parts x) (accept_open x) h

pub select_written : {a b : Written} (x : SelectStatement) → Writes a b (statement_words (plain_select_statement x)) → Writes a b (statement_words (plain_select x))
select_written x h = written_as statement_words (plain_select x) (plain_select_statement x) (select_open x) h

pub selected_call_written : {a b : Written} (x : Box SelectedCall Global) → Writes a b (statement_words (plain_selected_call x.value)) → Writes a b (statement_words (plain_statement (SelectCall x)))
selected_call_written x h = written_as statement_words (plain_statement (SelectCall x)) (plain_selected_call x.value) (selected_call_open x) h

pub accept_alternative_written : {a b c : Written} (x : AcceptStatement) (v : Vec Statement Global) → Writes a b (accept_words (plain_accept x)) → Writes b c (more_statements_words (plain_others v.items)) →
    Writes a c (alternative_words (plain_alternative (alternative.Accept x v)))
accept_alternative_written x v h k = written_as alternative_words (plain_alternative (alternative.Accept x v)) (m.accept_alternative (plain_accept x) (plain_others v.items)) (accept_alternative_open x v) (h then k)

pub delay_alternative_written : {a b c : Written} (x : Delay) (v : Vec Statement Global) → Writes a b (delay_words (plain_delay x)) → Writes b c (more_statements_words (plain_others v.items)) →
    Writes a c (alternative_words (plain_alternative (alternative.Delay x v)))
delay_alternative_written x v h k = written_as alternative_words (plain_alternative (alternative.Delay x v)) (m.delay_alternative (plain_delay x) (plain_others v.items)) (delay_alternative_open x v) (h then k)

pub or_delay_written : {a b c d : Written} (x : Delay) (v : Vec Statement Global) → Writes a b (last_word (codes "or") ∷ []) → Writes b c (delay_words (plain_delay x)) → Writes c d (more_statements_words (plain_others v.items)) →
    Writes a d (other_words (plain_other (otherwise.Delay x v)))
or_delay_written x v h k l = written_as other_words (plain_other (otherwise.Delay x v)) (m.or_delay (plain_delay x) (plain_others v.items)) (or_delay_open x v) (h then k then l)

pub or_else_written : {a b c : Written} (x : Statements) → Writes a b (last_word (codes "else") ∷ []) → Writes b c (statements_words (plain_statements x)) → Writes a c (other_words (plain_other (otherwise.Else x)))
or_else_written x h k = written_as other_words (plain_other (otherwise.Else x)) (m.or_else (plain_statements x)) (or_else_open x) (h then k)

-- an else part
pub else_written : {a b c : Written} (xs : List Statement) → (length xs == 0) ≡ false → Writes a b (last_word (codes "else") ∷ []) → Writes b c (more_statements_words (plain_others xs)) →
    Writes a c (otherwise_words (plain_others xs) (more_statements_words (plain_others xs)))
else_written [] e h k = cc
else_written (x ∷ xs) e h k = h then k

-- handlers
pub handled_written : {a b c : Written} (xs : List Handler) → (length xs == 0) ≡ false → Writes a b (last_word (codes "exception") ∷ []) → Writes b c (handlers_words (handler_list xs)) →
    Writes a c (handled_words (handler_list xs) (handlers_words (handler_list xs)))
handled_written [] e h k = cc
handled_written (x ∷ xs) e h k = h then k

-- formal parameters in their parentheses
pub formals_written : {a b c d e : Written} (x : Formal) (xs all : List Formal) → all ≡ x ∷ xs → Writes a b (word (codes "(") ∷ []) → Writes b c (formal_words (plain_formal x)) →
    Writes c d (more_formals_words (map plain_formal xs)) → Writes d e (word (codes ")") ∷ []) → Writes a e (formals_words (map plain_formal all))
formals_written {a} {e = e} x xs all is h k l n = subst (λ z. Writes a e (formals_words (map plain_formal z))) (sym is) (h then (k then l) then n)
