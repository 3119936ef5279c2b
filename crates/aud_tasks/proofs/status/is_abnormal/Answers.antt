use Rattle.std.proofs.Common.{◌&&◌, ap, sym, ◌∙◌}
use Rattle.std.specs.Prelude.{not}
use Rattle.aud_meaning.specs.Listings.{is_done}
use Rattle.aud_meaning.specs.Parts.{own_of}
use Rattle.aud_tasks.proofs.status.is_abnormal.Goals as goal

pub returns-then-is_abnormal : goal.returns-then-is_abnormal
returns-then-is_abnormal c = λ plan barrier.
    let own = own_of c.args.task c.args.state.now in
    ap not (c.is_done.ensures plan barrier ∙ ap (is_done plan barrier) c.status.ensures)
    ∙ ap (λ b. b && not (is_done plan barrier own.status)) (sym c.if-is_abnormal.true ∙ c.is_abnormal.ensures)
