use Rattle.std.proofs.Common.{refl, rules, ◌∙◌, arith}
use Rattle.std.proofs.lemmas.Fn.{filter_same}
use Rattle.aud_calls.specs.Queues.{without}
use Rattle.aud_calls.proofs.CallLaws.Lines.{first_within, line_none, line_set}
use Rattle.aud_calls.proofs.queues.Queues.leave.Goals as goal

pub index_mut-requires : goal.index_mut-requires
index_mut-requires c = omega (arith, first_within c.args.owner c.args.entry c.args.self.now.queues.items c.in-Some.at c.in-Some.ensures.found)

pub returns-in-Some : goal.returns-in-Some
returns-in-Some c = λ o e.
    c.close.ensures o e
    ∙ line_set c.args.owner c.args.entry o e (without c.args.call) c.args.self.now.queues.items c.in-Some.at c.index_mut.result.now c.retain.new.self c.in-Some.ensures.found c.index_mut.ensures.value
    (filter_same _ _ _ (λ x b f' k. search rules) _ _ c.retain.ensures.filtered)

pub returns-in_default : goal.returns-in_default
returns-in_default c = λ o e.
    line_none c.args.owner c.args.entry o e (without c.args.call) c.args.self.now.queues.items c.in_default.ensures.absent refl
