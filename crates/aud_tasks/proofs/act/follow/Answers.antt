use Rattle.std.proofs.Common.{sym, subst}
use Rattle.std.specs.Prelude.{OnOk}
use Rattle.aud_typed.specs.Ties.View.{plain_program}
use Rattle.aud_expr.specs.declared.evaluate.Outcome.{Outcome}
use Rattle.aud_expr.specs.Flow.{ended, FitsEnd, ReachesEnd}
use Rattle.aud_tasks.specs.Acting.{EndsThere}
use Rattle.aud_tasks.proofs.act.follow.Goals as goal

pub reach-requires-clause-reached : goal.reach-requires-clause-reached
reach-requires-clause-reached c = λ t there. subst (λ (x : Outcome). ReachesEnd x c.args.compiled.code.now t.control.place) c.in-Reaches.is (c.requires.reaches t there)

pub reach-requires-clause-fine : goal.reach-requires-clause-fine
reach-requires-clause-fine c = λ t there. subst (λ (x : Outcome). FitsEnd x c.args.compiled.code.now t.control.place c.args.operands.now) c.in-Reaches.is (c.requires.fits t there)

pub returns-in-Reaches-clause-does : goal.returns-in-Reaches-clause-does
returns-in-Reaches-clause-does c = subst (λ (x : Outcome). OnOk c.reach.result (EndsThere (plain_program c.args.compiled.program.now).plan c.args.compiled.code.now c.args.compiled.limits c.args.alternative c.args.n (ended x c.args.operands.now) c.args.state.now c.reach.new.state)) (sym c.in-Reaches.is) c.reach.ensures.does

pub returns-in-Fails-clause-does : goal.returns-in-Fails-clause-does
returns-in-Fails-clause-does c = subst (λ (x : Outcome). OnOk c.raise_there.result (EndsThere (plain_program c.args.compiled.program.now).plan c.args.compiled.code.now c.args.compiled.limits c.args.alternative c.args.n (ended x c.args.operands.now) c.args.state.now c.raise_there.new.state)) (sym c.in-Fails.is) c.raise_there.ensures.does
