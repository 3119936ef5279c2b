-- Statements that hold others, by their parts.
use Rattle.std.proofs.Common.{◌≡◌, ◌∷◌, ◌++◌, refl, ap, sym, ◌∙◌}
use Rattle.std.specs.Prelude.{Vec, Box, map, Some}
use Rattle.std.specs.Global.{Global}
use mathlib.Core.Former.{list_count, this}
use Rattle.aud_text.specs.declared.place.Pos.{Pos}
use Rattle.aud_typed.specs.declared.program.BooleanExpression.{BooleanExpression}
use Rattle.aud_typed.specs.declared.program.IfStatement.{IfStatement, IfStatement', out-IfStatement, Row_of-Arm, end_of-Arm, more_of-Arm, items-the_row-Arm, items_shown-the_row-Arm-3}
use Rattle.aud_typed.specs.declared.program.Statements.{Statements}
use Rattle.aud_typed.specs.declared.program.Statement.{Statement, Row_of-Statement, end_of-Statement, more_of-Statement, items-the_row-Statement, items_hidden-the_row-Statement-0, items_shown-the_row-Statement-0}
use Rattle.aud_typed.specs.declared.program.Statement.TheVariants.{While, Loop, For, EntryCall, Select}
use Rattle.aud_typed.specs.declared.program.Alternative.TheBlock.{hidden-the_row-Statement-0, shown-the_row-Statement-0}
use Rattle.aud_typed.specs.declared.program.Alternative.TheBlock.{shown-the_row-Arm-3}
use Rattle.aud_typed.specs.declared.program.ForStatement.{ForStatement}
use Rattle.aud_typed.specs.declared.program.BlockStatement.{BlockStatement, BlockStatement', out-BlockStatement}
use Rattle.aud_typed.specs.declared.program.DelayExpression.{DelayExpression}
use Rattle.aud_typed.specs.declared.program.EntryCallStatement.{EntryCallStatement}
use Rattle.aud_typed.specs.declared.program.AcceptStatement.{AcceptStatement, AcceptStatement', out-AcceptStatement, None', Some'}
use Rattle.aud_typed.specs.declared.program.Doing.{Doing, Doing', out-Doing}
use Rattle.aud_typed.specs.declared.program.SelectStatement.{SelectStatement, Row_of-Alternative, end_of-Alternative, more_of-Alternative, items-the_row-Alternative, items_hidden-the_row-Alternative-1}
use Rattle.aud_typed.specs.declared.program.Alternative.{Alternative}
use Rattle.aud_typed.specs.declared.program.Alternative.TheVariants as alternative
use Rattle.aud_typed.specs.declared.program.Alternative.TheBlock.{hidden-the_row-Alternative-1}
use Rattle.aud_typed.specs.declared.program.Body.{Body, Body', out-Body, Row_of-Handler, end_of-Handler, more_of-Handler, items-the_row-Handler, items_shown-the_row-Handler-2}
use Rattle.aud_typed.specs.declared.program.Alternative.TheBlock.{shown-the_row-Handler-2}
use Rattle.aud_typed.specs.Ties.View.{plain_integer, plain_boolean, plain_delay, plain_call, plain_statement, plain_row, plain_arms, plain_handlers, plain_body, plain_block, plain_doing, plain_accept, plain_accepting, plain_alternative, plain_alternatives, statements_in, part_of_arms, plain_if, if_in, for_in, handlers_in, body_in, block_in, entry_call_in, doing_in, accept_in, accepting_in, alternatives_in, select_in}
use Rattle.aud_typed.specs.Tree as tree
use Rattle.aud_typed.specs.Tree.{before, part_of, activation, Part, some, handler}

statement_rows : (n : _) (row : Row_of-Statement n) → plain_row row ≡ map plain_statement (items-the_row-Statement n row)
statement_rows n end_of-Statement = refl
statement_rows n (more_of-Statement s row) = ap (λ z. plain_statement s ∷ z) (statement_rows _ row)

others_are : (v : Vec Statement Global) → plain_row (hidden-the_row-Statement-0 v) ≡ map plain_statement v.items
others_are v = statement_rows _ (hidden-the_row-Statement-0 v) ∙ ap (map plain_statement) (items_hidden-the_row-Statement-0 v)

pub loop_open : (b : Box Statements Global) → plain_statement (Loop b) ≡ tree.plain_loop (statements_in b.value)
loop_open b = ap (λ z. tree.plain_loop (before (plain_statement b.value.first.value) z)) (others_are b.value.others)

pub while_open : (at : Pos) (c : BooleanExpression) (b : Box Statements Global) → plain_statement (While at c b) ≡ tree.while_loop at (plain_boolean c) (statements_in b.value)
while_open at c b = ap (λ z. tree.while_loop at (plain_boolean c) (before (plain_statement b.value.first.value) z)) (others_are b.value.others)

shown_are : (shape : Vec (Unit {0}) Global) (row : Row_of-Statement (list_count (this {0}) shape.items 0)) → plain_row row ≡ map plain_statement (shown-the_row-Statement-0 shape row).items
shown_are shape row = statement_rows _ row ∙ ap (map plain_statement) (sym (items_shown-the_row-Statement-0 shape row))

arm_rows : (n : _) (row : Row_of-Arm n) (otherwise : Part) → plain_arms row otherwise ≡ part_of_arms (items-the_row-Arm n row) otherwise
arm_rows n end_of-Arm otherwise = refl
arm_rows n (more_of-Arm at c _ first shape others row) otherwise =
    ap (λ z. some (tree.if_then at (plain_boolean c) (before (plain_statement first) z) (plain_arms row otherwise))) (shown_are shape others)
    ∙ ap (λ z. some (tree.if_then at (plain_boolean c) (before (plain_statement first) (map plain_statement (shown-the_row-Statement-0 shape others).items)) z)) (arm_rows _ row otherwise)

arms_are : (shape : Vec (Unit {0}) Global) (row : Row_of-Arm (list_count (this {0}) shape.items 0)) (otherwise : Part) → plain_arms row otherwise ≡ part_of_arms (shown-the_row-Arm-3 shape row).items otherwise
arms_are shape row otherwise = arm_rows _ row otherwise ∙ ap (λ z. part_of_arms z otherwise) (sym (items_shown-the_row-Arm-3 shape row))

pub if_open : (s : IfStatement) → plain_if s ≡ if_in s
unfolding out-IfStatement shown-the_row-Statement-0 shown-the_row-Arm-3 denote.Hole.Carrier.out
if_open (IfStatement' at c _ first shape others arms_shape arms else_shape otherwise) =
    let ss = map plain_statement (shown-the_row-Statement-0 shape others).items in
    ap (λ z. tree.if_then at (plain_boolean c) (before (plain_statement first) z) (plain_arms arms (part_of (plain_row otherwise)))) (shown_are shape others)
    ∙ ap (λ z. tree.if_then at (plain_boolean c) (before (plain_statement first) ss) (plain_arms arms (part_of z))) (shown_are else_shape otherwise)
    ∙ ap (tree.if_then at (plain_boolean c) (before (plain_statement first) ss)) (arms_are arms_shape arms (part_of (map plain_statement (shown-the_row-Statement-0 else_shape otherwise).items)))

pub for_open : (b : Box ForStatement Global) → plain_statement (For b) ≡ for_in b.value
for_open b =
    let o = b.value in
    ap (λ z. tree.for_loop (record { at = o.at; next_at = o.next_at; region = o.region; backward = o.backward }) (plain_integer o.first) (plain_integer o.last) (before (plain_statement o.statements.first.value) z)) (others_are o.statements.others)

handler_rows : (n : _) (row : Row_of-Handler n) → plain_handlers row ≡ handlers_in (items-the_row-Handler n row)
handler_rows n end_of-Handler = refl
handler_rows n (more_of-Handler others choices _ first shape more row) =
    ap (λ z. handler others choices.items (before (plain_statement first) z) (plain_handlers row)) (shown_are shape more)
    ∙ ap (handler others choices.items (before (plain_statement first) (map plain_statement (shown-the_row-Statement-0 shape more).items))) (handler_rows _ row)

pub body_open : (b : Body) → plain_body b ≡ body_in b
unfolding out-Body shown-the_row-Statement-0 shown-the_row-Handler-2 denote.Hole.Carrier.out
body_open (Body' declared_shape declarations begin activates _ first shape others handler_shape handlers end) =
    let es = map plain_statement (shown-the_row-Statement-0 declared_shape declarations).items ++ activation activates begin in
    let ss = map plain_statement (shown-the_row-Statement-0 shape others).items in
    ap (λ z. tree.body (part_of (z ++ activation activates begin)) begin (before (plain_statement first) (plain_row others)) (plain_handlers handlers) end) (shown_are declared_shape declarations)
    ∙ ap (λ z. tree.body (part_of es) begin (before (plain_statement first) z) (plain_handlers handlers) end) (shown_are shape others)
    ∙ ap (λ z. tree.body (part_of es) begin (before (plain_statement first) ss) z end) (handler_rows _ handlers ∙ ap handlers_in (sym (items_shown-the_row-Handler-2 handler_shape handlers)))

pub block_open : (s : BlockStatement) → plain_block s ≡ block_in s
unfolding out-BlockStatement denote.Hole.Carrier.out
block_open (BlockStatement' at region b) = ap (tree.block at region) (body_open b)

pub entry_call_open : (b : Box EntryCallStatement Global) → plain_statement (EntryCall b) ≡ entry_call_in b.value
entry_call_open b =
    let o = b.value in
    let call = plain_call o.callee o.entry o.arguments.items o.form in
    ap (λ z. tree.entry_call o.at call (part_of z) (part_of (plain_row (hidden-the_row-Statement-0 o.otherwise)))) (others_are o.after)
    ∙ ap (λ z. tree.entry_call o.at call (part_of (map plain_statement o.after.items)) (part_of z)) (others_are o.otherwise)

-- an accept, alone and as an alternative

doing_open : (d : Doing) → plain_doing d ≡ doing_in (Some d)
unfolding out-Doing denote.Hole.Carrier.out
doing_open (Doing' region b) = ap (tree.with_do region) (body_open b)

pub accept_open : (s : AcceptStatement) → plain_accept s ≡ accept_in s
unfolding out-AcceptStatement denote.Hole.Carrier.out
accept_open (AcceptStatement' at entry None') = refl
accept_open (AcceptStatement' at entry (Some' d)) = ap (tree.accept at entry) (doing_open d)

pub accepting_open : (s : AcceptStatement) (guard : tree.BooleanExpression) (after : Part) (rest : tree.Alternatives) → plain_accepting s guard after rest ≡ accepting_in s guard after rest
unfolding out-AcceptStatement denote.Hole.Carrier.out
accepting_open (AcceptStatement' at entry None') guard after rest = refl
accepting_open (AcceptStatement' at entry (Some' d)) guard after rest = ap (λ z. tree.accepting guard at entry z after rest) (doing_open d)

pub accept_alternative_open : (guard : BooleanExpression) (accept : AcceptStatement) (after : Vec Statement Global) (rest : tree.Alternatives) →
    plain_alternative (alternative.Accept guard accept after) rest ≡ accepting_in accept (plain_boolean guard) (part_of (map plain_statement after.items)) rest
accept_alternative_open guard accept after rest =
    ap (λ z. plain_accepting accept (plain_boolean guard) (part_of z) rest) (others_are after)
    ∙ accepting_open accept (plain_boolean guard) (part_of (map plain_statement after.items)) rest

pub delay_alternative_open : (guard : BooleanExpression) (e : DelayExpression) (after : Vec Statement Global) (rest : tree.Alternatives) →
    plain_alternative (alternative.Delay guard e after) rest ≡ tree.delaying (plain_boolean guard) (plain_delay e) (part_of (map plain_statement after.items)) rest
delay_alternative_open guard e after rest = ap (λ z. tree.delaying (plain_boolean guard) (plain_delay e) (part_of z) rest) (others_are after)

alternative_rows : (n : _) (row : Row_of-Alternative n) → plain_alternatives row ≡ alternatives_in (items-the_row-Alternative n row)
alternative_rows n end_of-Alternative = refl
alternative_rows n (more_of-Alternative a row) = ap (plain_alternative a) (alternative_rows _ row)

alternatives_are : (v : Vec Alternative Global) → plain_alternatives (hidden-the_row-Alternative-1 v) ≡ alternatives_in v.items
alternatives_are v = alternative_rows _ (hidden-the_row-Alternative-1 v) ∙ ap alternatives_in (items_hidden-the_row-Alternative-1 v)

pub select_open : (b : Box SelectStatement Global) → plain_statement (Select b) ≡ select_in b.value
select_open b =
    let o = b.value in
    ap (λ z. tree.select o.at z (part_of (plain_row (hidden-the_row-Statement-0 o.otherwise)))) (alternatives_are o.alternatives)
    ∙ ap (λ z. tree.select o.at (alternatives_in o.alternatives.items) (part_of z)) (others_are o.otherwise)
