use Rattle.std.proofs.Common.{◌++◌, ◌∷◌, [], arith}
use Rattle.aud_calls.proofs.CallLaws.Lines.{first_within, line_again, line_set, on_err}
use Rattle.aud_calls.proofs.queues.Queues.join.Goals as goal

pub index_mut-requires : goal.index_mut-requires
index_mut-requires c = omega (arith, first_within c.args.owner c.args.entry c.args.self.now.queues.items c.in-Some.at c.in-Some.ensures.found)

pub returns-in_ok-push-in-Some-clause-joined : goal.returns-in_ok-push-in-Some-clause-joined
returns-in_ok-push-in-Some-clause-joined c = λ o e.
    line_set c.args.owner c.args.entry o e (λ calls. calls ++ c.args.call ∷ []) c.args.self.now.queues.items c.in-Some.at c.index_mut.result.now c.push.new.self c.in-Some.ensures.found c.index_mut.ensures.value c.in_ok-push-in-Some.ensures.items

pub returns-in_err-push-in-Some-clause-kept : goal.returns-in_err-push-in-Some-clause-kept
returns-in_err-push-in-Some-clause-kept c = on_err c.from_residual.result (λ o e.
    line_again c.args.owner c.args.entry o e c.args.self.now.queues.items c.in-Some.at c.index_mut.result.now c.push.new.self c.in-Some.ensures.found c.index_mut.ensures.value c.in_err-push-in-Some.ensures.items)
