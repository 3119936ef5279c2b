use Rattle.std.proofs.Common.{ap, sym, ◌∙◌}
use Rattle.std.specs.Prelude.{nat_eq}
use Rattle.aud_meaning.specs.declared.state.OpenAccept.{OpenAccept}
use Rattle.aud_code.specs.Control.{going}
use Rattle.aud_select.proofs.Picking.{by_first, picked}
use Rattle.aud_select.proofs.selecting.accept_picked.Goals as goal

pub returns-in-None : goal.returns-in-None
returns-in-None c = λ plan barrier.
    let go = going c.args.code.now in
    ap (λ o. by_first go plan barrier o c.args.n c.args.state.now) (sym c.in-None.is ∙ c.numbered.ensures)
    ∙ picked go plan barrier (λ (o : OpenAccept). nat_eq o.alternative c.args.number) c.args.accepts.now c.args.n c.args.state.now

pub returns-in_ok-accept-in-Some : goal.returns-in_ok-accept-in-Some
returns-in_ok-accept-in-Some c = λ plan barrier.
    let go = going c.args.code.now in
    c.in_ok-accept-in-Some.ensures plan barrier
    ∙ ap (λ o. by_first go plan barrier o c.args.n c.args.state.now) (sym c.in-Some.is ∙ c.numbered.ensures)
    ∙ picked go plan barrier (λ (o : OpenAccept). nat_eq o.alternative c.args.number) c.args.accepts.now c.args.n c.args.state.now
