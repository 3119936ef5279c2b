use Rattle.std.proofs.Common.{◌++◌, append_assoc, ap, ◌∙◌}
use Rattle.std.proofs.lemmas.Result.{on_ok_weaker}
use Rattle.aud_typed.specs.Ties.View.{plain_program}
use Rattle.aud_meaning.specs.Listings.{abnormal_word}
use Rattle.aud_meaning.specs.Parts.{own_of}
use Rattle.aud_code.specs.Flat.{barrier_at}
use Rattle.aud_machine.specs.Tasking.{status_in}
use Rattle.aud_debug.proofs.tasks.push_status.Goals as goal

pub returns : goal.returns
returns c =
    let plan = (plain_program c.args.compiled.program.now).plan in
    let code = c.args.compiled.code.now in
    let n = c.args.task in
    let s = c.args.state.now in
    let out = c.args.out.now.items in
    let abnormal = abnormal_word plan (barrier_at code) (own_of n s) in
    let word = c.in_ok-extend_from_slice.ensures.items ∙ ap (λ w. out ++ w) (c.status_word.ensures ∙ c.status_of-status.ensures) in
    on_ok_weaker c.push_abnormal.result
    (λ e. e ∙ (ap (λ x. x ++ abnormal) word ∙ append_assoc out (status_in plan code n s) abnormal))
    (c.push_abnormal.ensures plan (barrier_at code))
