use Rattle.std.specs.Prelude.{Option, is_some, not}
use Rattle.std.proofs.Common.{ap, ◌∙◌}
use Rattle.aud_syntax.specs.Ties.View.{plain_name}
use Rattle.aud_fault.specs.declared.fault.Fault.{Fault}
use Rattle.aud_fault.specs.Least.{noted}
use Rattle.aud_check_bodies.specs.Arguments.{arguments_faults}
use Rattle.aud_check_bodies.proofs.Functions.{none_noted, told_none}
use Rattle.aud_check_bodies.proofs.value.is_fine.Goals as goal

pub returns : goal.returns
returns c =
    let fs = arguments_faults c.args.profile.now (plain_name c.args.function.name.now) c.args.function.at c.args.scope.now in
    told_none c.is_none.result c.get.result c.is_none.ensures ∙ ap (λ (o : Option Fault). not (is_some o)) (c.get.ensures ∙ c.in_ok-passed.ensures.0 ∙ ap (λ (o : Option Fault). noted o fs) c.new-faults.ensures) ∙ none_noted fs
