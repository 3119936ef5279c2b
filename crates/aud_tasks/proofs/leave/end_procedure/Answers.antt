use Rattle.std.proofs.Common.{List, ap, refl, sym, ◌∙◌}
use Rattle.aud_meaning.specs.Configuration.{All, Back as BackOf, Own}
use Rattle.aud_meaning.specs.Effects.{closed, out_of_loops, pends}
use Rattle.aud_meaning.specs.Parts.{on_own, own_of}
use Rattle.aud_meaning.specs.Tasks as effect
use Rattle.aud_code.specs.Control.{going}
use Rattle.aud_code.specs.Places.{Spot}
use Rattle.aud_store.specs.Ties.Stored.{innermost_backs, plain_open, returning_by}
use Rattle.aud_tasks.proofs.StepLaws.Leaving.{own_on}
use Rattle.aud_tasks.proofs.Results.{on_ok}
use Rattle.aud_tasks.proofs.leave.end_procedure.Goals as goal

pub returns-in-None : goal.returns-in-None
returns-in-None c = on_ok c.return_from.result _ _ c.return_from.ensures (λ h plan barrier saved backs.
    let go = going c.args.code.now in
    let n = c.args.n in
    let old = c.args.state.now in
    let frame = c.args.inner.frame in
    let copied = c.as_slice.ensures ∙ c.in_ok-backs.ensures ∙ ap (λ (s : All Spot). innermost_backs (own_of n s).opened) c.out_of_loops.ensures ∙ ap (λ (o : Own). innermost_backs o.opened) (own_on out_of_loops refl n old) in
    h plan barrier
    ∙ ap (λ (bs : List BackOf). effect.returned go plan barrier (returning_by c.args.returns bs) frame c.args.inner.at n c.leave.new.state) copied
    ∙ ap (λ (s : All Spot). effect.returned go plan barrier (returning_by c.args.returns (innermost_backs (out_of_loops (own_of n old)).opened)) frame c.args.inner.at n s)
    (c.in_ok-leave.ensures plan barrier ∙ ap (λ (s : All Spot). effect.close_master go plan barrier frame s) (c.close.ensures ∙ ap (λ (s : All Spot). on_own n closed s) c.out_of_loops.ensures))
    ∙ ap (λ p. effect.at_procedure_end go plan barrier p (returning_by c.args.returns (innermost_backs (out_of_loops (own_of n old)).opened)) (plain_open c.args.inner saved backs) n (on_own n out_of_loops old)) (sym c.in-None.is))

pub returns : goal.returns
returns c = λ plan barrier saved backs.
    let go = going c.args.code.now in
    let n = c.args.n in
    let old = c.args.state.now in
    let frame = c.args.inner.frame in
    let p = c.in-Some.pending in
    c.raise.ensures
    ∙ ap (λ (s : All Spot). on_own n (pends p.exception c.args.inner.at) s)
    (c.in_ok-leave.ensures plan barrier ∙ ap (λ (s : All Spot). effect.close_master go plan barrier frame s) (c.close.ensures ∙ ap (λ (s : All Spot). on_own n closed s) c.out_of_loops.ensures))
    ∙ ap (λ q. effect.at_procedure_end go plan barrier q (returning_by c.args.returns (innermost_backs (out_of_loops (own_of n old)).opened)) (plain_open c.args.inner saved backs) n (on_own n out_of_loops old)) (sym c.in-Some.is)
