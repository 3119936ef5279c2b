use Rattle.std.proofs.Common.{ap, ◌∙◌, filter, sym}
use Rattle.std.specs.Prelude.{nat_eq}
use Rattle.std.specs.Option.{option_or}
use Rattle.aud_meaning.specs.declared.state.OpenAccept.{OpenAccept}
use Rattle.aud_state.specs.Chosen.{chosen}
use Rattle.aud_state.proofs.TaskLaws.Choosing.{chosen_first, chosen_numbered}
use Rattle.aud_state.proofs.accepting.choose.Goals as goal

pub returns-in-None : goal.returns-in-None
returns-in-None c =
    let ones = filter (λ (a : OpenAccept). nat_eq a.entry c.args.entry) c.args.accepts.now in
    c.first_for-first.ensures
    ∙ chosen_first c.args.entry c.args.accepts.now
    ∙ ap (λ a. chosen a ones) (sym c.in-None.is)

pub returns-in-Some : goal.returns-in-Some
returns-in-Some c =
    let ones = filter (λ (a : OpenAccept). nat_eq a.entry c.args.entry) c.args.accepts.now in
    c.or.ensures
    ∙ ap (λ o. option_or o c.first_for-first.result) c.numbered.ensures
    ∙ ap (option_or _) c.first_for-first.ensures
    ∙ chosen_numbered c.args.entry c.in-Some.number c.args.accepts.now
    ∙ ap (λ a. chosen a ones) (sym c.in-Some.is)
