use Rattle.std.proofs.Common.{Bool, None, if◌then◌else◌, ap, sym, ◌∙◌}
use Rattle.aud_text.specs.declared.raise.Raise.TheVariants.{Program}
use Rattle.aud_meaning.specs.declared.state.Status.TheVariants.{Accepting}
use Rattle.aud_meaning.specs.Parts.{blocks, on_own, raised_at}
use Rattle.aud_meaning.specs.Tasks as effect
use Rattle.aud_code.specs.Control.{going}
use Rattle.aud_state.specs.View.{plain_waits}
use Rattle.aud_select.proofs.selecting.wait.Goals as goal

pub returns-then-has_else : goal.returns-then-has_else
returns-then-has_else c = λ plan barrier.
    c.take.ensures
    ∙ ap (λ b. effect.selects (going c.args.code.now) plan barrier None b (plain_waits c.args.waits) c.args.at c.args.n c.args.state.now) (sym c.if-has_else.true)

pub returns-then-is_none_open : goal.returns-then-is_none_open
returns-then-is_none_open c = λ plan barrier.
    let n = c.args.n in
    let old = c.args.state.now in
    let waits = plain_waits c.args.waits in
    c.raise.ensures
    ∙ ap (λ (b : Bool). if b then raised_at Program c.args.at n old else on_own n (blocks Accepting c.args.at waits) old) (sym c.if-is_none_open.true ∙ c.is_none_open.ensures)
    ∙ ap (λ b. effect.selects (going c.args.code.now) plan barrier None b waits c.args.at n old) (sym c.if-has_else.false)

pub returns : goal.returns
returns c = λ plan barrier.
    let n = c.args.n in
    let old = c.args.state.now in
    let waits = plain_waits c.args.waits in
    c.wait.ensures
    ∙ ap (λ (b : Bool). if b then raised_at Program c.args.at n old else on_own n (blocks Accepting c.args.at waits) old) (sym c.if-is_none_open.false ∙ c.is_none_open.ensures)
    ∙ ap (λ b. effect.selects (going c.args.code.now) plan barrier None b waits c.args.at n old) (sym c.if-has_else.false)
