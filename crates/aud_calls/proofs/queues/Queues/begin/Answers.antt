use Rattle.std.proofs.Common.{List, ◌++◌, ◌∷◌, [], ap, ◌∙◌}
use Rattle.aud_calls.specs.Queues.{line}
use Rattle.aud_calls.specs.declared.queues.Queue.{Queue}
use Rattle.aud_calls.proofs.CallLaws.Lines.{line_begun}
use Rattle.aud_calls.proofs.queues.Queues.begin.Goals as goal

pub returns-clause-joined : goal.returns-clause-joined
returns-clause-joined c = λ o e.
    ap (λ (qs : List Queue). line o e qs) c.in_ok-push-2.ensures.items
    ∙ line_begun c.args.owner c.args.entry o e (λ calls. calls ++ c.args.call ∷ []) c.args.self.now.queues.items c.push.new.self c.requires
    (c.in_ok-push.ensures.items ∙ ap (λ calls. calls ++ c.args.call ∷ []) c.new-calls.ensures.items)
