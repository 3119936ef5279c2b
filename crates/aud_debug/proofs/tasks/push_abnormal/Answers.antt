use Rattle.std.proofs.Common.{◌++◌, append-nil, ap, sym, ◌∙◌}
use Rattle.aud_meaning.specs.Parts.{own_of}
use Rattle.aud_debug.proofs.Grouped.{abnormal_is}
use Rattle.aud_debug.proofs.tasks.push_abnormal.Goals as goal

pub returns-then-not-is_abnormal : goal.returns-then-not-is_abnormal
returns-then-not-is_abnormal c = λ plan barrier.
    let own = own_of c.args.task c.args.state.now in
    sym (append-nil c.args.out.now.items) ∙ ap (λ w. c.args.out.now.items ++ w) (sym (abnormal_is plan barrier own _ (sym c.if-not-is_abnormal.true ∙ c.is_abnormal.ensures plan barrier)))

pub returns : goal.returns
returns c = λ plan barrier.
    let own = own_of c.args.task c.args.state.now in
    c.in_ok-extend_from_slice.ensures.items ∙ ap (λ w. c.args.out.now.items ++ w) (sym (abnormal_is plan barrier own _ (sym c.if-not-is_abnormal.false ∙ c.is_abnormal.ensures plan barrier)))
