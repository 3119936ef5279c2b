-- Words that differ in the ends of their lines alone, and how lists of words are put together.
use Rattle.std.proofs.Common.{◌≡◌, ℕ, List, [], ◌∷◌, ◌++◌, map, refl, sym, ap, ◌∙◌, append_assoc}
use Rattle.std.specs.Prelude.{Option, Bool, codes}
use Rattle.aud_lex.specs.Why.Spaced.{Word, word, last_word}
use Rattle.aud_syntax.specs.declared.tree.Ident.{Ident}
use Rattle.aud_syntax.specs.declared.tree.Bound.{Bound}
use Rattle.aud_syntax.specs.declared.tree.Connective.{Connective}
use Rattle.aud_syntax.specs.Plain as m
use Rattle.aud_syntax.specs.Why.Bare.{nowhere}
use Rattle.aud_syntax.specs.Why.Printed as w

-- the bytes of words
abbrev pub texts : List Word → List (List ℕ)
texts ws = map (λ (x : Word). x.bytes) ws

-- words that differ in the ends of their lines alone: a line ends behind `then`, `else`, `loop`, `declare`, `exception` and `=>` where statements, declarations or handlers follow, and there alone
abbrev pub Same : List Word → List Word → Type 0
Same us ws = texts us ≡ texts ws

texts_append : (us vs : List Word) → texts (us ++ vs) ≡ texts us ++ texts vs
texts_append [] vs = refl
texts_append (u ∷ us) vs = ap (λ z. u.bytes ∷ z) (texts_append us vs)

pub same_both : (us us' vs vs' : List Word) → Same us us' → Same vs vs' → Same (us ++ vs) (us' ++ vs')
same_both us us' vs vs' e h = texts_append us vs ∙ ap (λ z. z ++ texts vs) e ∙ ap (λ z. texts us' ++ z) h ∙ sym (texts_append us' vs')

pub same_on : (us vs vs' : List Word) → Same vs vs' → Same (us ++ vs) (us ++ vs')
same_on us vs vs' h = same_both us us vs vs' refl h

-- words behind a phrase of several, and behind one word
pub on : (a b ws c : List Word) → b ++ ws ≡ c → (a ++ b) ++ ws ≡ a ++ c
on a b ws c e = append_assoc a b ws ∙ ap (λ z. a ++ z) e

pub one_on : (x : Word) (b c : List Word) → b ≡ c → x ∷ b ≡ x ∷ c
one_on x b c e = ap (λ z. x ∷ z) e

-- two phrases, of which the second is a list
pub two : (a b us ws : List Word) → us ≡ b → (a ++ b) ++ ws ≡ a ++ (us ++ ws)
two a b us ws e = append_assoc a b ws ∙ ap (λ z. a ++ (z ++ ws)) (sym e)

pub three : (a b c us ws : List Word) → us ≡ c → (a ++ b ++ c) ++ ws ≡ a ++ (b ++ (us ++ ws))
three a b c us ws e = append_assoc (a ++ b) c ws ∙ append_assoc a b (c ++ ws) ∙ ap (λ z. a ++ (b ++ (z ++ ws))) (sym e)

-- three phrases, of which the last two are one item
pub last_two : (a b c ws : List Word) → (a ++ b ++ c) ++ ws ≡ a ++ ((b ++ c) ++ ws)
last_two a b c ws = append_assoc (a ++ b) c ws ∙ append_assoc a b (c ++ ws) ∙ ap (λ z. a ++ z) (sym (append_assoc b c ws))

-- three phrases, of which the second is a list
pub list_between : (a b c us ws : List Word) → us ≡ b → (a ++ b ++ c) ++ ws ≡ a ++ (us ++ (c ++ ws))
list_between a b c us ws e = append_assoc (a ++ b) c ws ∙ append_assoc a b (c ++ ws) ∙ ap (λ z. a ++ (z ++ (c ++ ws))) (sym e)

-- two phrases, of which the first is a list
pub list_first : (a b us ws : List Word) → us ≡ a → (a ++ b) ++ ws ≡ us ++ (b ++ ws)
list_first a b us ws e = append_assoc a b ws ∙ ap (λ z. z ++ (b ++ ws)) (sym e)

-- the words of statements with others in them, where no line ends behind `then`, `else`, `loop`, `declare`, `exception` and `=>`

-- some words between two, and statements
abbrev pub arm : List ℕ → List Word → List ℕ → List Word → List Word
arm first e second ss = word first ∷ (e ++ (word second ∷ ss))

pub arm_same : (first : List ℕ) (e : List Word) (second : List ℕ) (ss ts : List Word) → Same ss ts → Same (arm first e second ss) (word first ∷ (e ++ (last_word second ∷ ts)))
arm_same first e second ss ts h = ap (λ z. first ∷ z) (same_on e (word second ∷ ss) (last_word second ∷ ts) (ap (λ z. second ∷ z) h))

-- in front of others
abbrev pub in_if : List Word → List Word → List Word → List Word → List Word → List Word
in_if e ss vs os ws = arm (codes "if") e (codes "then") (ss ++ (vs ++ (os ++ (word (codes "end") ∷ word (codes "if") ∷ last_word (codes ";") ∷ ws))))

pub if_words : (e ss vs os ws : List Word) → in_if e ss vs os [] ++ ws ≡ in_if e ss vs os ws
if_words e ss vs os ws = one_on _ _ _ (on e _ _ _ (one_on _ _ _ (on ss _ _ _ (on vs _ _ _ (on os _ _ _ refl)))))

pub if_same : (e : m.Expression) (x : m.Statements) (arms : m.Arms) (otherwise : m.MoreStatements) (ss vs os : List Word) → Same ss (w.statements_words x) → Same vs (w.arms_words arms) → Same os (w.otherwise_words otherwise (w.more_statements_words otherwise)) →
    Same (in_if (w.expression_words e) ss vs os []) (w.statement_words (m.if_then nowhere e x arms otherwise))
if_same e x arms otherwise ss vs os h i j =
    let end : List Word = word (codes "end") ∷ word (codes "if") ∷ last_word (codes ";") ∷ [] in
    let others : List Word = w.otherwise_words otherwise (w.more_statements_words otherwise) in
    let apart : arm (codes "if") (w.expression_words e) (codes "then") ss ++ (vs ++ (os ++ end)) ≡ in_if (w.expression_words e) ss vs os [] = one_on _ _ _ (on (w.expression_words e) _ _ _ refl) in
    ap texts (sym apart)
    ∙ same_both (arm (codes "if") (w.expression_words e) (codes "then") ss) (w.arm_words (codes "if") (w.expression_words e) (w.statements_words x)) (vs ++ (os ++ end)) (w.arms_words arms ++ (others ++ end))
    (arm_same (codes "if") (w.expression_words e) (codes "then") ss (w.statements_words x) h)
    (same_both vs (w.arms_words arms) (os ++ end) (others ++ end) i (same_both os others end end j refl))

abbrev pub in_loop : List Word → List Word → List Word → List Word → List Word
in_loop before ss last ws = before ++ (word (codes "loop") ∷ (ss ++ (word (codes "end") ∷ word (codes "loop") ∷ (last ++ (last_word (codes ";") ∷ ws)))))

pub loop_words : (before ss last ws : List Word) → in_loop before ss last [] ++ ws ≡ in_loop before ss last ws
loop_words before ss last ws = on before _ _ _ (one_on _ _ _ (on ss _ _ _ (one_on _ _ _ (one_on _ _ _ (on last _ _ _ refl)))))

pub loop_same : (before ss ts last : List Word) → Same ss ts →
    Same (in_loop before ss last []) (before ++ (last_word (codes "loop") ∷ (ts ++ (word (codes "end") ∷ word (codes "loop") ∷ (last ++ (last_word (codes ";") ∷ []))))))
loop_same before ss ts last h =
    let end : List Word = word (codes "end") ∷ word (codes "loop") ∷ (last ++ (last_word (codes ";") ∷ [])) in
    same_on before (word (codes "loop") ∷ (ss ++ end)) (last_word (codes "loop") ∷ (ts ++ end)) (ap (λ z. codes "loop" ∷ z) (same_both ss ts end end h refl))

abbrev pub in_body : List Word → List Word → List Word → List Word → List Word
in_body us hs last ws = last_word (codes "begin") ∷ (us ++ (hs ++ (word (codes "end") ∷ (last ++ (last_word (codes ";") ∷ ws)))))

pub body_words : (us hs last ws : List Word) → in_body us hs last [] ++ ws ≡ in_body us hs last ws
body_words us hs last ws = one_on _ _ _ (on us _ _ _ (on hs _ _ _ (one_on _ _ _ (on last _ _ _ refl))))

pub body_same : (us ts hs gs last : List Word) → Same us ts → Same hs gs →
    Same (in_body us hs last []) (last_word (codes "begin") ∷ (ts ++ (gs ++ (word (codes "end") ∷ (last ++ (last_word (codes ";") ∷ []))))))
body_same us ts hs gs last h i =
    let end : List Word = word (codes "end") ∷ (last ++ (last_word (codes ";") ∷ [])) in
    ap (λ z. codes "begin" ∷ z) (same_both us ts (hs ++ end) (gs ++ end) h (same_both hs gs end end i refl))

-- what is done in an accept statement

abbrev pub in_do : List Word → List Word → List Word → List Word → List Word
in_do us hs last ws = word (codes "do") ∷ (us ++ (hs ++ (word (codes "end") ∷ (last ++ (last_word (codes ";") ∷ ws)))))

pub do_words : (us hs last ws : List Word) → in_do us hs last [] ++ ws ≡ in_do us hs last ws
do_words us hs last ws = one_on _ _ _ (on us _ _ _ (on hs _ _ _ (one_on _ _ _ (on last _ _ _ refl))))

pub do_same : (us ts hs gs : List Word) (last : Option Ident) → Same us ts → Same hs gs → Same (in_do us hs (w.end_words last) []) (w.enclosed_words (codes "do") ts gs last)
do_same us ts hs gs last h i = ap (λ z. codes "do" ∷ z) (same_both us ts (hs ++ w.ending_words last) (gs ++ w.ending_words last) h (same_both hs gs (w.ending_words last) (w.ending_words last) i refl))

-- a guard, an alternative behind `or` and its guard, and alternatives behind the first

abbrev pub guard_tokens : m.Expression → List Word
guard_tokens e = word (codes "when") ∷ (w.expression_words e ++ (word (codes "=>") ∷ []))

pub guard_same : (e : m.Expression) → Same (guard_tokens e) (w.guard_words (m.an_expression e))
guard_same e = ap (λ z. codes "when" ∷ z) (same_on (w.expression_words e) (word (codes "=>") ∷ []) (last_word (codes "=>") ∷ []) refl)

abbrev pub or_words : m.MaybeExpression → m.Alternative → List Word
or_words e x = last_word (codes "or") ∷ (w.guard_words e ++ w.alternative_words x)

abbrev pub else_words : m.MoreStatements → List Word
else_words statements = w.otherwise_words statements (w.more_statements_words statements)

abbrev pub behind_first : m.Alternatives → m.MoreStatements → List Word
behind_first xs statements = w.alternatives_words xs ++ else_words statements

abbrev pub from_first : m.Alternative → m.Alternatives → m.MoreStatements → List Word
from_first x xs statements = w.alternative_words x ++ behind_first xs statements

pub or_same : (gs us : List Word) (e : m.MaybeExpression) (x : m.Alternative) (xs : m.Alternatives) (statements : m.MoreStatements) → Same gs (w.guard_words e) → Same us (from_first x xs statements) →
    Same (word (codes "or") ∷ (gs ++ us)) (behind_first (m.more_alternatives e x xs) statements)
or_same gs us e x xs statements h j =
    let guard : List Word = w.guard_words e in
    let first : List Word = w.alternative_words x in
    let others : List Word = w.alternatives_words xs in
    ap (λ z. codes "or" ∷ z)
    (same_both gs guard us (from_first x xs statements) h j
    ∙ ap texts (sym (append_assoc (guard ++ first) others (else_words statements) ∙ append_assoc guard first (others ++ else_words statements))))

-- an operation's body

pub headed_on : (spelling : List ℕ) (i : Ident) (fs : List m.Formal) (behind es us ws : List Word) →
    w.headed_words spelling i fs behind (es ++ us) ++ ws ≡ word spelling ∷ w.ident_word i ∷ (w.formals_words fs ++ (behind ++ (last_word (codes "is") ∷ (es ++ (us ++ ws)))))
headed_on spelling i fs behind es us ws = one_on _ _ _ (one_on _ _ _ (on (w.formals_words fs) _ _ _ (on behind _ _ _ (one_on _ _ _ (append_assoc es us ws)))))

pub headed_same : (spelling : List ℕ) (i : Ident) (fs : List m.Formal) (behind es ds us vs : List Word) → Same es ds → Same us vs → Same (w.headed_words spelling i fs behind (es ++ us)) (w.headed_words spelling i fs behind (ds ++ vs))
headed_same spelling i fs behind es ds us vs h j =
    same_on (w.head_words spelling i fs) (behind ++ (last_word (codes "is") ∷ (es ++ us))) (behind ++ (last_word (codes "is") ∷ (ds ++ vs)))
    (same_on behind (last_word (codes "is") ∷ (es ++ us)) (last_word (codes "is") ∷ (ds ++ vs)) (ap (λ z. codes "is" ∷ z) (same_both es ds us vs h j)))

-- what stands behind `protected`

abbrev pub protected_words : Ident → List m.Operation → Option (List m.PrivateItem) → Option Ident → List Word
protected_words i operations hidden last = w.ident_word i ∷ last_word (codes "is") ∷ (w.operations_words operations ++ (w.private_words hidden ++ w.ending_words last))

abbrev pub protected_body_words : Ident → List Word → Option Ident → List Word
protected_body_words i bodies last = word (codes "body") ∷ w.ident_word i ∷ last_word (codes "is") ∷ (bodies ++ w.ending_words last)

-- a procedure, whose formal parameters, declarations and body have these words; a program is one behind its context clauses
abbrev pub procedure_words : Ident → List Word → List Word → List Word → List Word
procedure_words i fs ds us = word (codes "procedure") ∷ w.ident_word i ∷ (fs ++ (last_word (codes "is") ∷ (ds ++ us)))

pub procedure_on : (i : Ident) (fs ds us ws : List Word) → procedure_words i fs ds us ++ ws ≡ word (codes "procedure") ∷ w.ident_word i ∷ (fs ++ (last_word (codes "is") ∷ (ds ++ (us ++ ws))))
procedure_on i fs ds us ws = one_on _ _ _ (one_on _ _ _ (on fs _ _ _ (one_on _ _ _ (on ds _ _ _ refl))))

pub procedure_same : (i : Ident) (fs ds es us vs : List Word) → Same ds es → Same us vs → Same (procedure_words i fs ds us) (procedure_words i fs es vs)
procedure_same i fs ds es us vs h j =
    ap (λ z. codes "procedure" ∷ i.name ∷ z) (same_on fs (last_word (codes "is") ∷ (ds ++ us)) (last_word (codes "is") ∷ (es ++ vs)) (ap (λ z. codes "is" ∷ z) (same_both ds es us vs h j)))

pub unit_same : (cs : List m.Context) (i : Ident) (ds es us vs : List Word) → Same ds es → Same us vs → Same (w.contexts_words cs ++ procedure_words i [] ds us) (w.contexts_words cs ++ procedure_words i [] es vs)
unit_same cs i ds es us vs h j = same_on (w.contexts_words cs) (procedure_words i [] ds us) (procedure_words i [] es vs) (procedure_same i [] ds es us vs h j)

-- what stands behind `task`: of a declaration; of a body, whose declarations and body have these words

abbrev pub task_words : Bool → Ident → Option m.TaskDefinition → List Word
task_words is_type i definition = w.type_words is_type ++ (w.ident_word i ∷ (w.definition_words definition ++ (last_word (codes ";") ∷ [])))

abbrev pub task_body_words : Ident → List Word → List Word → List Word
task_body_words i ds us = word (codes "body") ∷ w.ident_word i ∷ last_word (codes "is") ∷ (ds ++ us)

pub task_body_on : (i : Ident) (ds us ws : List Word) → task_body_words i ds us ++ ws ≡ word (codes "body") ∷ w.ident_word i ∷ last_word (codes "is") ∷ (ds ++ (us ++ ws))
task_body_on i ds us ws = one_on _ _ _ (one_on _ _ _ (one_on _ _ _ (append_assoc ds us ws)))

pub task_body_same : (i : Ident) (ds es us vs : List Word) → Same ds es → Same us vs → Same (task_body_words i ds us) (task_body_words i es vs)
task_body_same i ds es us vs h j = ap (λ z. codes "body" ∷ i.name ∷ codes "is" ∷ z) (same_both ds es us vs h j)

-- the words of parts of trees

abbrev pub attribute_words : Ident → m.MaybeExpression → List Word
attribute_words x e = word (codes "'") ∷ w.ident_word x ∷ w.argument_words e

abbrev pub expression_words : m.Expression → List Word
expression_words e = w.expression_words e

-- the second relation and those behind it, each but the second behind the operator
abbrev pub behind_words : Connective → m.Relation → m.Relations → List Word
behind_words operator x xs = w.relation_words x ++ w.relations_words operator xs

-- the library unit of a context clause
abbrev pub library_words : List Word
library_words = word (codes "ADA") ∷ word (codes ".") ∷ word (codes "TEXT_IO") ∷ last_word (codes ";") ∷ []

-- the words behind the names of variables, constants, arrays and exceptions

abbrev pub variable_words : Ident → m.MaybeExpression → List Word
variable_words i e = w.ident_word i ∷ (w.initial_words e ++ (last_word (codes ";") ∷ []))

abbrev pub constant_words : Ident → m.Expression → List Word
constant_words i e = word (codes "constant") ∷ w.ident_word i ∷ word (codes ":=") ∷ (expression_words e ++ (last_word (codes ";") ∷ []))

abbrev pub array_words : Bound → Bound → Ident → List Word
array_words low high i = word (codes "array") ∷ (w.index_words low high ++ (word (codes "of") ∷ w.ident_word i ∷ last_word (codes ";") ∷ []))

abbrev pub exception_words : List Word
exception_words = word (codes "exception") ∷ last_word (codes ";") ∷ []

-- the words behind a name with which a statement begins, and behind its first identifier

abbrev pub assigned_words : m.Expression → List Word
assigned_words e = word (codes ":=") ∷ (expression_words e ++ (last_word (codes ";") ∷ []))

abbrev pub behind_words_of : m.Args → m.Parts → List Word → List Word
behind_words_of xs ps ws = w.args_words xs ++ w.parts_words ps ++ ws
