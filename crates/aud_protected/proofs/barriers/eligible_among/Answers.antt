use Rattle.std.proofs.Common.{◌≡◌, ◌≤◌, ℕ, subst, ◌+◌, ◌∷◌, [], ◌++◌, Bool, true, false, Ok, get_or, drop, if◌then◌else◌, ap, sym, ◌∙◌, arith}
use Rattle.aud_meaning.specs.Parts.{queue}
use Rattle.aud_meaning.specs.Tasks as effect
use Rattle.aud_protected.specs.Eligible.{asked}
use Rattle.aud_protected.proofs.Costing.{cost_left}
use Rattle.aud_protected.proofs.Picking.{found_from, joined, met_at, more_found, none_found}
use Rattle.aud_protected.proofs.barriers.eligible_among.Goals.{then-met+in_ok-push-in-Ok, else-met}
use Rattle.aud_protected.proofs.barriers.eligible_among.Goals as goal

pub returns-in-Err-clause-told : goal.returns-in-Err-clause-told
returns-in-Err-clause-told g c =
    let plan = g.B.Barriers.plan c.args.barriers.now in
    let barrier = g.B.Barriers.barrier c.args.barriers.now in
    let entries = c.args.entries.now in
    let n = c.loop-n.n in
    let object = c.args.object in
    let s = c.args.state.now in
    let x = get_or entries n 0 in
    let told : c.in_ok-met.field-0 ≡ met_at plan barrier object s x =
    c.in_ok-met.ensures.told
    ∙ ap (λ p. asked (queue object x s.shared.calls) (effect.barrier_of p (g.B.Barriers.barrier c.loop-n.barriers) object x s)) c.loop-n.invariant.of_one
    ∙ ap (λ b. asked (queue object x s.shared.calls) (effect.barrier_of plan b object x s)) c.loop-n.invariant.kept in
    none_found plan barrier object s c.in-Err.raise c.loop-n.found.items entries n 0 (omega arith) (sym c.in-Err.is ∙ told)
    ∙ c.loop-n.invariant.found

pub returns-in-Err-clause-few : goal.returns-in-Err-clause-few
returns-in-Err-clause-few g c =
    let cost = g.B.Barriers.cost c.args.barriers.now in
    let spent : g.B.Barriers.spent c.is_eligible.new.barriers ≤ g.B.Barriers.spent c.loop-n.barriers + cost (get_or c.args.entries.now c.loop-n.n 0) =
    subst (λ (k : ℕ → ℕ). g.B.Barriers.spent c.is_eligible.new.barriers ≤ g.B.Barriers.spent c.loop-n.barriers + k (get_or c.args.entries.now c.loop-n.n 0)) c.loop-n.invariant.costs c.in_ok-met.ensures.few in
    let left = cost_left cost c.args.entries.now c.loop-n.n 0 (omega arith) in
    omega (arith, spent, left, c.loop-n.invariant.few)

pub loop-n-preserved : goal.loop-n-preserved
loop-n-preserved g c =
    let plan = g.B.Barriers.plan c.args.barriers.now in
    let barrier = g.B.Barriers.barrier c.args.barriers.now in
    let entries = c.args.entries.now in
    let n = c.loop-n.n in
    let object = c.args.object in
    let s = c.args.state.now in
    let x = get_or entries n 0 in
    let told : c.in_ok-met.field-0 ≡ met_at plan barrier object s x =
    c.in_ok-met.ensures.told
    ∙ ap (λ p. asked (queue object x s.shared.calls) (effect.barrier_of p (g.B.Barriers.barrier c.loop-n.barriers) object x s)) c.loop-n.invariant.of_one
    ∙ ap (λ b. asked (queue object x s.shared.calls) (effect.barrier_of plan b object x s)) c.loop-n.invariant.kept in
    let rest = found_from plan barrier object s (n + 1 + 1) (drop (n + 1) entries) in
    let found = c.loop-n.found.items in
    let more : (b : Bool) → b ≡ c.in-Ok.met → joined (if b then found ++ (n + 1) ∷ [] else found) rest ≡ found_from plan barrier object s 1 entries =
    λ b is. more_found plan barrier object s b found entries n 0 (omega arith) (ap (λ m. Ok m) is ∙ sym c.in-Ok.is ∙ told) ∙ c.loop-n.invariant.found in
    let cost = g.B.Barriers.cost c.args.barriers.now in
    let spent : g.B.Barriers.spent c.is_eligible.new.barriers ≤ g.B.Barriers.spent c.loop-n.barriers + cost (get_or c.args.entries.now c.loop-n.n 0) =
    subst (λ (k : ℕ → ℕ). g.B.Barriers.spent c.is_eligible.new.barriers ≤ g.B.Barriers.spent c.loop-n.barriers + k (get_or c.args.entries.now c.loop-n.n 0)) c.loop-n.invariant.costs c.in_ok-met.ensures.few in
    let left = cost_left cost c.args.entries.now c.loop-n.n 0 (omega arith) in
    record {
      of_one = c.in_ok-met.ensures.of_one ∙ c.loop-n.invariant.of_one;
      kept = c.in_ok-met.ensures.kept ∙ c.loop-n.invariant.kept;
      costs = c.in_ok-met.ensures.costs ∙ c.loop-n.invariant.costs;
      few = omega (arith, spent, left, c.loop-n.invariant.few);
      found = elim c.if-met.branch [
        | then-met+in_ok-push-in-Ok w ↦ rw (w.found-is, w.in_ok-push-in-Ok.ensures.items) (more true (sym w.if-met.true))
        | else-met w ↦ rw w.found-is (more false (sym w.if-met.false))
      ];
    }
