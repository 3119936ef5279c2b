use Rattle.std.proofs.Common.{Bool, None, false, if◌then◌else◌, ap, sym, ◌∙◌, arith}
use Rattle.aud_meaning.specs.declared.state.Owner.TheVariants as owner
use Rattle.aud_meaning.specs.Configuration.{All}
use Rattle.aud_meaning.specs.Parts.{begin_action, call_of, cancels, on_call, on_own}
use Rattle.aud_meaning.specs.Tasks as effect
use Rattle.aud_code.specs.Control.{going}
use Rattle.aud_code.specs.Places.{Spot}
use Rattle.aud_protected.specs.Counting.{most_asked}
use Rattle.aud_protected.proofs.starting.start_again.Goals as goal

pub returns-clause-few : goal.returns-clause-few
returns-clause-few g c =
    let cost = g.B.Barriers.cost c.args.barriers.now in
    let same = ap (λ k. most_asked k (g.B.Barriers.plan c.barrier.new.self)) c.in_ok-met.ensures.costs ∙ ap (most_asked cost) c.in_ok-met.ensures.of_one in
    let entry = ap cost c.call_entry.ensures in
    omega (arith, same, entry, c.in_ok-met.ensures.few, c.in_ok-meet.ensures.few)

pub returns-then-is_lost-clause-does : goal.returns-then-is_lost-clause-does
returns-then-is_lost-clause-does g c =
    let go = going c.args.code.now in
    let plan = g.B.Barriers.plan c.args.barriers.now in
    let barrier = g.B.Barriers.barrier c.args.barriers.now in
    let r = c.args.restart in
    let n = c.args.n in
    let old = c.args.state.now in
    let over : All Spot = on_own n (λ own. record own { restart = None }) old in
    let made = effect.barrier_met go plan barrier (effect.barrier_of plan barrier r.object (call_of r.call old).entry old) r.at r.object r.call n (begin_action n r.object false (on_call r.call (effect.called_of go plan barrier (owner.Object r.object)) over)) in
    c.lose.ensures
    ∙ ap (λ (b : Bool). if b then cancels r.call over else made) (sym c.if-is_lost.true ∙ c.is_lost.ensures go plan barrier)

pub returns-clause-does : goal.returns-clause-does
returns-clause-does g c =
    let go = going c.args.code.now in
    let plan = g.B.Barriers.plan c.args.barriers.now in
    let barrier = g.B.Barriers.barrier c.args.barriers.now in
    let r = c.args.restart in
    let n = c.args.n in
    let old = c.args.state.now in
    let met = c.in_ok-met.met in
    let over : All Spot = on_own n (λ own. record own { restart = None }) old in
    let called : All Spot = on_call r.call (effect.called_of go plan barrier (owner.Object r.object)) over in
    let begun : All Spot = begin_action n r.object false called in
    let made = effect.barrier_met go plan barrier (effect.barrier_of plan barrier r.object (call_of r.call old).entry old) r.at r.object r.call n begun in
    c.in_ok-meet.ensures.does
    ∙ ap (λ p. effect.barrier_met go p (g.B.Barriers.barrier c.barrier.new.self) met r.at r.object r.call n c.begin_action.new.self) c.in_ok-met.ensures.of_one
    ∙ ap (λ b. effect.barrier_met go plan b met r.at r.object r.call n c.begin_action.new.self) c.in_ok-met.ensures.kept
    ∙ ap (λ (s : All Spot). effect.barrier_met go plan barrier met r.at r.object r.call n s) c.in_ok-begin_action.ensures
    ∙ ap (λ (s : All Spot). effect.barrier_met go plan barrier met r.at r.object r.call n (begin_action n r.object false s)) (c.in_ok-call_on.ensures go plan barrier)
    ∙ ap (λ (s : All Spot). effect.barrier_met go plan barrier met r.at r.object r.call n (begin_action n r.object false (on_call r.call (effect.called_of go plan barrier (owner.Object r.object)) s))) c.clear_restart.ensures
    ∙ ap (λ m. effect.barrier_met go plan barrier m r.at r.object r.call n begun) c.in_ok-met.ensures.value
    ∙ ap (λ e. effect.barrier_met go plan barrier (effect.barrier_of plan barrier r.object e old) r.at r.object r.call n begun) c.call_entry.ensures
    ∙ ap (λ (b : Bool). if b then cancels r.call over else made) (sym c.if-is_lost.false ∙ c.is_lost.ensures go plan barrier)
