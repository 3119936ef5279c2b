use Rattle.std.proofs.Common.{filter, ap, sym, ◌∙◌}
use Rattle.std.specs.Prelude.{nat_eq}
use Rattle.aud_meaning.specs.declared.state.OpenAccept.{OpenAccept}
use Rattle.aud_meaning.specs.Tasks as effect
use Rattle.aud_code.specs.Control.{going}
use Rattle.aud_state.specs.View.{plain_waits}
use Rattle.aud_select.proofs.selecting.select.Goals as goal

pub returns-in-None : goal.returns-in-None
returns-in-None c = λ plan barrier.
    c.wait.ensures plan barrier
    ∙ ap (λ a. effect.selects (going c.args.code.now) plan barrier a c.args.has_else (plain_waits c.args.waits) c.args.at c.args.n c.args.state.now) (sym c.in-None.is)

pub returns-in_ok-accept_picked-in-Some : goal.returns-in_ok-accept_picked-in-Some
returns-in_ok-accept_picked-in-Some c = λ plan barrier.
    let go = going c.args.code.now in
    c.in_ok-accept_picked-in-Some.ensures plan barrier
    ∙ ap (λ xs. effect.selected_first go plan barrier (filter (λ (o : OpenAccept). nat_eq o.alternative c.in-Some.number) xs) c.args.n c.args.state.now) c.deref.ensures.value
    ∙ ap (λ a. effect.selects go plan barrier a c.args.has_else (plain_waits c.args.waits) c.args.at c.args.n c.args.state.now) (sym c.in-Some.is)
