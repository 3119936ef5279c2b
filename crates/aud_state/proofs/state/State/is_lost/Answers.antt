use Rattle.std.proofs.Common.{Bool, not, ap, sym, ◌∙◌}
use Rattle.std.specs.Prelude.{◌&&◌}
use Rattle.aud_meaning.specs.Parts.{call_of, own_of}
use Rattle.aud_state.proofs.state.State.is_lost.Goals as goal

pub returns-then-stays : goal.returns-then-stays
returns-then-stays c = λ go plan barrier.
    let s = c.args.self.now in
    ap (λ (b : Bool). not b && (own_of (call_of c.args.id s).caller s).abnormal) (sym c.if-stays.true ∙ c.stays.ensures)

pub returns : goal.returns
returns c = λ go plan barrier.
    let s = c.args.self.now in
    c.is_abnormal.ensures
    ∙ ap (λ n. (own_of n s).abnormal) c.caller.ensures
    ∙ ap (λ (b : Bool). not b && (own_of (call_of c.args.id s).caller s).abnormal) (sym c.if-stays.false ∙ c.stays.ensures)
