-- The words of an operation's body in front of its `is`.
use Rattle.std.specs.Prelude.{List, [], ◌∷◌, ◌++◌, codes}
use Rattle.aud_lex.specs.Why.Spaced.{Word, word}
use Rattle.aud_syntax.specs.declared.tree.Ident.{Ident}
use Rattle.aud_syntax.specs.declared.tree.OperationKind.{OperationKind}
use Rattle.aud_syntax.specs.declared.tree.OperationKind.TheVariants as operation_kind
use Rattle.aud_syntax.specs.Plain.{Formal}
use Rattle.aud_syntax.specs.Ties.View.{plain_expression}
use Rattle.aud_syntax.specs.Why.Printed.{ident_word, expression_words, head_words}

-- RM 9.4(8), 9.5.2(5, 7)
abbrev pub operation_head_words : OperationKind → Ident → List Formal → List Word
operation_head_words (operation_kind.Entry barrier) i formals = head_words (codes "entry") i formals ++ (word (codes "when") ∷ expression_words (plain_expression barrier))
operation_head_words operation_kind.Procedure i formals = head_words (codes "procedure") i formals
operation_head_words (operation_kind.Function subtype) i formals = head_words (codes "function") i formals ++ (word (codes "return") ∷ ident_word subtype ∷ [])
