use Rattle.std.specs.Prelude.{Ok, None, []}
use Rattle.std.proofs.Common.{◌+◌, drop, get_or, ap, subst, ◌∙◌, arith}
use Rattle.std.proofs.lemmas.List.{nil_from_length}
use Rattle.aud_syntax.specs.declared.tree.Mode.TheVariants.{Unstated}
use Rattle.aud_syntax.specs.Ties.View.{plain_expression, plain_expressions}
use Rattle.aud_syntax.proofs.Written.{dropped}
use Rattle.aud_names.specs.declared.names.NamedParameter.{NamedParameter}
use Rattle.aud_check_bodies.specs.Ties.Passed.{plain_passed, plain_all_passed, one_more_passed}
use Rattle.aud_check_bodies.specs.Arguments.{passed, passed_faults}
use Rattle.aud_typing.specs.Ties.Typing.{Leaves}
use Rattle.aud_check_bodies.proofs.Passing.{formals_dropped, PassedAhead, passed_ahead, passed_short}
use Rattle.aud_check_bodies.proofs.argument.all_passed.Goals as goal

pub loop-formal-preserved : goal.loop-formal-preserved
loop-formal-preserved c =
    let place = c.args.scope.now in
    let profile = c.args.profile.now in
    let i = c.loop-formal.formal-index in
    let item = c.formal-item.result in
    let x = plain_expression c.in-Some.next.now in
    let others = plain_expressions c.in-Some.others.now in
    let b = c.in_ok-before-in-Some in
    let one : Leaves plain_passed (Ok b.more) c.loop-formal.faults c.passed.new.faults (passed_faults item.parameter x place) (passed item.parameter x place) =
    subst (λ r. Leaves plain_passed r c.loop-formal.faults c.passed.new.faults (passed_faults item.parameter x place) (passed item.parameter x place)) b.ensures.next c.passed.ensures in
    let made = c.in_ok-all-in-Some.ensures ∙ ap (λ v. one_more_passed (plain_all_passed v) (plain_passed b.more)) b.ensures.first ∙ ap (λ z. one_more_passed (plain_all_passed c.loop-formal.all) z) one.1 in
    passed_ahead place c.args.faults.now c.loop-formal.faults c.passed.new.faults (plain_all_passed c.loop-formal.all) (plain_all_passed c.in_ok-all-in-Some.all) item (drop (i + 1) profile) (drop i profile) profile x others (plain_expressions c.args.args.now)
    (dropped profile i item (omega arith) c.formal-item.is) (subst (λ l. PassedAhead c.loop-formal.faults (plain_all_passed c.loop-formal.all) (drop i profile) (plain_expressions l) place c.args.faults.now profile (plain_expressions c.args.args.now)) c.in-Some.ensures.cases.0 c.loop-formal.invariant) one.0 made

-- fewer arguments than formals
pub returns-in-None : goal.returns-in-None
returns-in-None c =
    let profile = c.args.profile.now in
    let i = c.loop-formal.formal-index in
    let d : NamedParameter = record { name = []; parameter = record { mode = Unstated; subtype = None } } in
    passed_short c.args.scope.now c.args.faults.now c.loop-formal.faults (plain_all_passed c.loop-formal.all) (get_or profile i d) (drop (i + 1) profile) (drop i profile) profile (plain_expressions c.args.args.now) (formals_dropped profile i d c.loop-formal-test.true)
    (subst (λ l. PassedAhead c.loop-formal.faults (plain_all_passed c.loop-formal.all) (drop i profile) (plain_expressions l) c.args.scope.now c.args.faults.now profile (plain_expressions c.args.args.now)) (nil_from_length c.loop-formal.rest.now c.in-None.ensures.cases) c.loop-formal.invariant)
