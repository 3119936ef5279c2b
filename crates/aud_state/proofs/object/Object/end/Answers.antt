use Rattle.std.proofs.Common.{List, nat_eq, not, ap, rules, tests}
use Rattle.std.proofs.lemmas.Fn.{filter_same}
use Rattle.aud_meaning.specs.declared.state.Action.{Action}
use Rattle.aud_state.specs.View.{plain_object}
use Rattle.aud_state.proofs.object.Object.end.Goals as goal

pub returns : goal.returns
returns c = ap (λ (xs : List Action). record (plain_object c.args.self.now) { actions = xs }) (filter_same _ (λ (a : Action). not (nat_eq a.task c.args.task)) _ (λ x b f' k. search (rules, tests)) _ _ c.retain.ensures.filtered)
