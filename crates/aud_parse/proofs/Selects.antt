-- The items of delays and select statements that are built from their phrases.
use Rattle.std.proofs.Common.{◌≡◌, List, ◌∷◌, sym, ap, ◌∙◌}
use Rattle.std.specs.Prelude.{Option, Vec, Box}
use Rattle.std.specs.Global.{Global}
use Rattle.aud_text.specs.declared.place.Pos.{Pos}
use Rattle.aud_syntax.specs.declared.tree.Name.{Name}
use Rattle.aud_syntax.specs.declared.tree.Expression.{Expression}
use Rattle.aud_syntax.specs.declared.tree.Statement.{Statement}
use Rattle.aud_syntax.specs.declared.tree.Statements.{Statements}
use Rattle.aud_syntax.specs.declared.tree.AcceptStatement.{AcceptStatement}
use Rattle.aud_syntax.specs.declared.tree.Delay.{Delay}
use Rattle.aud_syntax.specs.declared.tree.Delay.TheVariants as delay
use Rattle.aud_syntax.specs.declared.tree.Alternative.{Alternative}
use Rattle.aud_syntax.specs.declared.tree.Alternative.TheVariants as alternative
use Rattle.aud_syntax.specs.declared.tree.Guarded.{Guarded}
use Rattle.aud_syntax.specs.declared.tree.Otherwise.{Otherwise}
use Rattle.aud_syntax.specs.declared.tree.SelectStatement.{roll-SelectStatement, out-roll-SelectStatement}
use Rattle.aud_syntax.specs.Plain as m
use Rattle.aud_syntax.specs.Ties.View.{plain_name, plain_statement, plain_statements, plain_others, plain_maybe, plain_delay, plain_accept, plain_alternative, guarded_list, plain_other, plain_select}
use Rattle.aud_syntax.proofs.Opened.{select_open}
use Rattle.aud_grammar.specs.Grammar as g
use Rattle.aud_grammar.specs.Actions.{Item, made, place, real_of, a_delay, an_alternative, an_otherwise, a_statement}
use Rattle.aud_cursor.specs.Ties.Items.{opt_item}
use Rattle.aud_parse_expr.specs.Ties.Items.{name_item, parens_item}
use Rattle.aud_parse.specs.Ties.Items.{boxed_statement_item, boxed_statements_item, boxed_accept_item, boxed_delay_item, guard_item, alternative_item, boxed_alternative_item, further_item, boxed_otherwise_item}
use Rattle.aud_parse.specs.Ties.Parts.{else_statements, unboxed}
use Rattle.aud_parse.proofs.Rolls.{else_is, opt_expression_is}

-- delays

pub seconds_items : (b : Box Delay Global) (begin t : Item) (ds : List Item) → b.value ≡ delay.Seconds (place begin) (real_of t) → made g.Delay (begin ∷ made g.Seconds (made g.Real (t ∷ ds))) ≡ boxed_delay_item b ∷ ds
seconds_items b begin t ds h = ap (λ (z : Delay). a_delay (plain_delay z) ∷ ds) (sym h)

pub duration_items : (b : Box Delay Global) (begin named : Item) (x : Pos × Box Expression Global) (ds : List Item) → b.value ≡ delay.Duration (place begin) (place named) x.1.value → made g.Delay (begin ∷ made g.DurationOf (named ∷ parens_item x ∷ ds)) ≡ boxed_delay_item b ∷ ds
duration_items b begin named x ds h = ap (λ (z : Delay). a_delay (plain_delay z) ∷ ds) (sym h)

pub delaying_items : (b : Box Statement Global) (x : Box Delay Global) (ds : List Item) → plain_statement b.value ≡ m.delaying (plain_delay x.value) → made g.DelayStatement (boxed_delay_item x ∷ ds) ≡ boxed_statement_item b ∷ ds
delaying_items b x ds h = ap (λ z. a_statement z ∷ ds) (sym h)

-- accept statements

pub accepting_items : (b : Box Statement Global) (x : Box AcceptStatement Global) (ds : List Item) → plain_statement b.value ≡ m.accepting (plain_accept x.value) → made g.AcceptStatement (boxed_accept_item x ∷ ds) ≡ boxed_statement_item b ∷ ds
accepting_items b x ds h = ap (λ z. a_statement z ∷ ds) (sym h)

-- alternatives

pub accept_alternative_items : (b : Box Alternative Global) (x : Box AcceptStatement Global) (behind : Option (Box Statements Global)) (ds : List Item) →
    plain_alternative b.value ≡ m.accept_alternative (plain_accept x.value) (plain_others (else_statements behind)) →
    made g.AcceptAlternative (boxed_accept_item x ∷ opt_item boxed_statements_item behind ∷ ds) ≡ boxed_alternative_item b ∷ ds
accept_alternative_items b x behind ds h = ap (λ z. an_alternative (m.accept_alternative (plain_accept x.value) z) ∷ ds) (else_is behind) ∙ ap (λ z. an_alternative z ∷ ds) (sym h)

pub delay_alternative_items : (b : Box Alternative Global) (x : Box Delay Global) (behind : Option (Box Statements Global)) (ds : List Item) →
    plain_alternative b.value ≡ m.delay_alternative (plain_delay x.value) (plain_others (else_statements behind)) →
    made g.DelayAlternative (boxed_delay_item x ∷ opt_item boxed_statements_item behind ∷ ds) ≡ boxed_alternative_item b ∷ ds
delay_alternative_items b x behind ds h = ap (λ z. an_alternative (m.delay_alternative (plain_delay x.value) z) ∷ ds) (else_is behind) ∙ ap (λ z. an_alternative z ∷ ds) (sym h)

pub terminate_items : (b : Box Alternative Global) (ds : List Item) → b.value ≡ alternative.Terminate → made g.TerminateAlternative ds ≡ boxed_alternative_item b ∷ ds
terminate_items b ds h = ap (λ (z : Alternative). alternative_item z ∷ ds) (sym h)

-- a selective accept

pub select_roll : (at : Pos) (first : Guarded) (others : Vec Guarded Global) (otherwise : Vec Statement Global) →
    plain_select (roll-SelectStatement (record { at = at; first = first; others = others; otherwise = otherwise })) ≡ m.select_accept at (plain_maybe first.guard) (plain_alternative first.alternative) (guarded_list others.items) (plain_others otherwise.items)
select_roll at first others otherwise =
    select_open (roll-SelectStatement (record { at = at; first = first; others = others; otherwise = otherwise }))
    ∙ ap (λ x. m.select_accept x.at (plain_maybe x.first.guard) (plain_alternative x.first.alternative) (guarded_list x.others.items) (plain_others x.otherwise.items)) (out-roll-SelectStatement (record { at = at; first = first; others = others; otherwise = otherwise }))

pub select_items : (b : Box Statement Global) (begin : Item) (guard : Option (Box Expression Global)) (x : Box Alternative Global) (first : Box Guarded Global) (p : Vec Guarded Global × Option (Box Statements Global)) (ds : List Item) →
    first.value ≡ record { guard = unboxed guard; alternative = x.value } →
    plain_statement b.value ≡ m.select_accept (place begin) (plain_maybe first.value.guard) (plain_alternative first.value.alternative) (guarded_list p.0.items) (plain_others (else_statements p.1)) →
    made g.Select (begin ∷ made g.AcceptSelect (guard_item guard ∷ made g.AcceptsOnly (boxed_alternative_item x ∷ further_item p ∷ ds))) ≡ boxed_statement_item b ∷ ds
select_items b begin guard x first p ds h e =
    ap (λ z. a_statement (m.select_accept (place begin) z (plain_alternative x.value) (guarded_list p.0.items) (plain_others (else_statements p.1))) ∷ ds) (opt_expression_is (unboxed guard))
    ∙ ap (λ (y : Guarded). a_statement (m.select_accept (place begin) (plain_maybe y.guard) (plain_alternative y.alternative) (guarded_list p.0.items) (plain_others (else_statements p.1))) ∷ ds) (sym h)
    ∙ ap (λ z. a_statement z ∷ ds) (sym e)

-- an entry call

pub or_delay_items : (b : Box Otherwise Global) (x : Box Delay Global) (behind : Option (Box Statements Global)) (ds : List Item) →
    plain_other b.value ≡ m.or_delay (plain_delay x.value) (plain_others (else_statements behind)) → made g.OrDelay (boxed_delay_item x ∷ opt_item boxed_statements_item behind ∷ ds) ≡ boxed_otherwise_item b ∷ ds
or_delay_items b x behind ds h = ap (λ z. an_otherwise (m.or_delay (plain_delay x.value) z) ∷ ds) (else_is behind) ∙ ap (λ z. an_otherwise z ∷ ds) (sym h)

pub or_else_items : (b : Box Otherwise Global) (x : Box Statements Global) (ds : List Item) → plain_other b.value ≡ m.or_else (plain_statements x.value) → made g.OrElsePart (boxed_statements_item x ∷ ds) ≡ boxed_otherwise_item b ∷ ds
or_else_items b x ds h = ap (λ z. an_otherwise z ∷ ds) (sym h)

pub select_call_items : (b : Box Statement Global) (begin : Item) (x : Box Name Global) (behind : Option (Box Statements Global)) (y : Box Otherwise Global) (ds : List Item) →
    plain_statement b.value ≡ m.select_call (place begin) (plain_name x.value) (plain_others (else_statements behind)) (plain_other y.value) →
    made g.Select (begin ∷ made g.CallSelect (name_item x ∷ opt_item boxed_statements_item behind ∷ boxed_otherwise_item y ∷ ds)) ≡ boxed_statement_item b ∷ ds
select_call_items b begin x behind y ds h = ap (λ z. a_statement (m.select_call (place begin) (plain_name x.value) z (plain_other y.value)) ∷ ds) (else_is behind) ∙ ap (λ z. a_statement z ∷ ds) (sym h)
