use Rattle.std.proofs.Common.{List, ap, sym, rules, ◌∙◌}
use Rattle.std.proofs.lemmas.Fn.{filter_same}
use Rattle.aud_calls.specs.declared.queues.Queue.{Queue}
use Rattle.aud_calls.specs.Queues.{line}
use Rattle.aud_calls.proofs.CallLaws.Lines.{line_closed, no_items}
use Rattle.aud_calls.proofs.queues.Queues.close.Goals as goal

pub returns-then-is_empty : goal.returns-then-is_empty
returns-then-is_empty c = λ o e.
    ap (λ (qs : List Queue). line o e qs) (filter_same _ _ _ (λ x b f' k. search rules) _ _ c.retain.ensures.filtered)
    ∙ line_closed c.args.owner c.args.entry o e c.args.self.now.queues.items
    (sym c.calls.ensures ∙ no_items c.calls.result.now (sym c.is_empty.ensures ∙ c.if-is_empty.true))
