-- Statements of the parts that were read.
use Rattle.std.specs.Prelude.{List, [], ◌∷◌, Bool, true, false, Option, Some, None, Box, Vec}
use Rattle.std.specs.Global.{Global}
use Rattle.aud_text.specs.declared.place.Pos.{Pos}
use Rattle.aud_syntax.specs.declared.tree.Ident.{Ident}
use Rattle.aud_syntax.specs.declared.tree.Expression.{Expression}
use Rattle.aud_syntax.specs.declared.tree.Statement.{Statement}
use Rattle.aud_syntax.specs.declared.tree.Statements.{Statements}
use Rattle.aud_syntax.specs.declared.tree.Declaration.{Declaration}
use Rattle.aud_syntax.specs.declared.tree.Iteration.{Iteration}
use Rattle.aud_syntax.specs.Plain as m
use Rattle.aud_syntax.specs.Ties.View.{plain_expression, plain_iteration, plain_declarations}
use Rattle.aud_grammar.specs.Grammar as g
use Rattle.aud_grammar.specs.Actions.{Item, an_ident, made}

-- an assignment of a value to a name, or a call where there is none
abbrev pub assigned_or_called : m.Name → Option Expression → m.Statement
assigned_or_called x None = m.call x
assigned_or_called x (Some e) = m.assign x (plain_expression e)

-- the statements of an else part
abbrev pub else_statements : Option (Box Statements Global) → List Statement
else_statements None = []
else_statements (Some b) = b.value.first.value ∷ b.value.others.items

-- an expression out of its box
abbrev pub unboxed : Option (Box Expression Global) → Option Expression
unboxed None = None
unboxed (Some b) = Some b.value

-- how often a loop is gone through, and where it begins: at that, or at `loop`

abbrev pub iteration_of : Option (Pos × Box Iteration Global) → m.Iteration
iteration_of None = m.forever
iteration_of (Some x) = plain_iteration x.1.value

abbrev pub begins_at : Option (Pos × Box Iteration Global) → Pos → Pos
begins_at None begin = begin
begins_at (Some x) begin = x.0

-- the declarations of a block, whether they stand behind `declare`, and where it begins: at that, or at `begin`

abbrev pub declared_in : Option (Pos × Vec Declaration Global) → m.Declarations
declared_in None = m.no_declarations
declared_in (Some x) = plain_declarations x.1.items

abbrev pub is_declared : Option (Pos × Vec Declaration Global) → Bool
is_declared None = false
is_declared (Some x) = true

abbrev pub declares_at : Option (Pos × Vec Declaration Global) → Pos → Pos
declares_at None begin = begin
declares_at (Some x) begin = x.0

-- a loop or a block behind its name, if it has one
abbrev pub behind_label : Option Ident → List Item → List Item
behind_label None st = st
behind_label (Some i) st = made g.NameStatement (an_ident i ∷ st)
