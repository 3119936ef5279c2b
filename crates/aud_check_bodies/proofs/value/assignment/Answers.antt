use Rattle.std.specs.Prelude.{◌++◌, Option, Some, None}
use Rattle.std.proofs.Common.{◌≡◌, sym, ap, subst, ◌∙◌}
use Rattle.aud_text.specs.declared.place.Pos.{Pos}
use Rattle.aud_syntax.specs.declared.tree.Name.{out-Name}
use Rattle.aud_syntax.specs.Plain as m
use Rattle.aud_syntax.specs.Ties.View.{plain_name, plain_expression}
use Rattle.aud_typed.specs.Ties.View.{plain_statement}
use Rattle.aud_fault.specs.Least.{noted}
use Rattle.aud_names.specs.Names.{Place}
use Rattle.aud_names.specs.Resolution.{name_ident}
use Rattle.aud_typing.specs.Expressions.{Typed, Checked, Entity, Denoting, denoting, checked_arguments, checked_expression, expression_at}
use Rattle.aud_typing.specs.Ties.Entities.{plain_entity}
use Rattle.aud_typing.specs.Ties.Typing.{plain_typed, in_box, Leaves}
use Rattle.aud_typing.proofs.Notes.{leaves_after}
use Rattle.aud_typing.proofs.Opened.{name_begins}
use Rattle.aud_check_bodies.specs.Assignments.{assigned_faults, assigned}
use Rattle.aud_check_bodies.specs.Tables.{Tables}
use Rattle.aud_check_bodies.specs.Values.{FunctionCalled, function_called, returned_faults, returned, value_assigned_faults, value_assigned}
use Rattle.aud_check_bodies.specs.Ties.Tables.{plain_tables}
use Rattle.aud_check_bodies.specs.Ties.Values.{plain_function, plain_maybe_function}
use Rattle.aud_check_bodies.proofs.value.assignment.Goals as goal

pub returns-in-None : goal.returns-in-None
returns-in-None c =
    let n = plain_name c.args.target.now in
    let v = plain_expression c.args.value.now in
    let place : Place = c.args.scope.now in
    let t : Tables = plain_tables c.args.tables.now in
    let r = c.expression_assigned.result in
    let f1 = c.arguments.new.faults in
    let f2 = c.name_denotes-target.new.faults in
    let new = c.expression_assigned.new.faults in
    let begin : Pos = (out-Name c.args.target.now).first.ident.at in
    let first : Checked = checked_arguments n place in
    let read : Denoting = denoting n (plain_typed c.in_ok-last.last.value) place in
    let target : Denoting = denoting n first.typed place in
    let same : read ≡ target = ap (λ (x : Typed). denoting n x place) c.in_ok-last.ensures.1 in
    let entity : plain_entity c.name_denotes-target.result.entity ≡ target.entity = c.name_denotes-target.ensures.entity ∙ ap (λ (d : Denoting). d.entity) same in
    let at : c.name_denotes-target.result.at ≡ target.at = c.name_denotes-target.ensures.at ∙ ap (λ (d : Denoting). d.at) same in
    let denoted = c.name_denotes-target.ensures.noted ∙ ap (λ (d : Denoting). noted f1 d.faults) same in
    let known : Entity → Pos → Pos → Type 0 = λ x p b. Leaves (in_box plain_statement) r f2 new ((checked_expression v place).faults ++ assigned_faults x p (expression_at v) (checked_expression v place).typed) (assigned x b (checked_expression v place).typed) in
    let given : Option FunctionCalled → Type 0 = λ f. Leaves (in_box plain_statement) r c.args.faults.now new (first.faults ++ (target.faults ++ value_assigned_faults f v target.entity target.at place t)) (value_assigned f v target.entity (name_ident n).at place t) in
    let none : function_called v place ≡ None = sym c.function_called.ensures ∙ ap plain_maybe_function c.in-None.is in
    let last : known target.entity target.at (name_ident n).at = subst (known target.entity target.at) (sym (name_begins c.args.target.now)) (subst (λ p. known target.entity p begin) at (subst (λ x. known x c.name_denotes-target.result.at begin) entity c.expression_assigned.ensures)) in
    subst given (sym none) (leaves_after (in_box plain_statement) r c.args.faults.now f1 new first.faults _ _ c.in_ok-last.ensures.0 (leaves_after (in_box plain_statement) r f1 f2 new target.faults _ _ denoted last))

pub returns-in-Some : goal.returns-in-Some
returns-in-Some c =
    let n = plain_name c.args.target.now in
    let v = plain_expression c.args.value.now in
    let place : Place = c.args.scope.now in
    let t : Tables = plain_tables c.args.tables.now in
    let r = c.function_assigned.result in
    let f1 = c.arguments.new.faults in
    let f2 = c.name_denotes-target.new.faults in
    let new = c.function_assigned.new.faults in
    let f : FunctionCalled = plain_function c.in-Some.function in
    let begin : Pos = (out-Name c.args.target.now).first.ident.at in
    let first : Checked = checked_arguments n place in
    let read : Denoting = denoting n (plain_typed c.in_ok-last.last.value) place in
    let target : Denoting = denoting n first.typed place in
    let same : read ≡ target = ap (λ (x : Typed). denoting n x place) c.in_ok-last.ensures.1 in
    let entity : plain_entity c.name_denotes-target.result.entity ≡ target.entity = c.name_denotes-target.ensures.entity ∙ ap (λ (d : Denoting). d.entity) same in
    let at : c.name_denotes-target.result.at ≡ target.at = c.name_denotes-target.ensures.at ∙ ap (λ (d : Denoting). d.at) same in
    let denoted = c.name_denotes-target.ensures.noted ∙ ap (λ (d : Denoting). noted f1 d.faults) same in
    let known : Entity → Pos → Pos → Pos → Type 0 = λ x p b e. Leaves (in_box plain_statement) r f2 new (returned_faults f x p e place t) (returned f x b place t) in
    let given : Option FunctionCalled → Type 0 = λ g. Leaves (in_box plain_statement) r c.args.faults.now new (first.faults ++ (target.faults ++ value_assigned_faults g v target.entity target.at place t)) (value_assigned g v target.entity (name_ident n).at place t) in
    let some : function_called v place ≡ Some f = sym c.function_called.ensures ∙ ap plain_maybe_function c.in-Some.is in
    let last : known target.entity target.at (name_ident n).at (expression_at v) =
    subst (λ e. known target.entity target.at (name_ident n).at e) c.expression_at.ensures
    (subst (λ b. known target.entity target.at b c.expression_at.result) (sym (name_begins c.args.target.now)) (subst (λ p. known target.entity p begin c.expression_at.result) at (subst (λ x. known x c.name_denotes-target.result.at begin c.expression_at.result) entity c.function_assigned.ensures))) in
    subst given (sym some) (leaves_after (in_box plain_statement) r c.args.faults.now f1 new first.faults _ _ c.in_ok-last.ensures.0 (leaves_after (in_box plain_statement) r f1 f2 new target.faults _ _ denoted last))
