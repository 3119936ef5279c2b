use Rattle.std.proofs.Common.{◌+◌, List, vec_len, vec_capacity, true, sym, subst, arith}
use Rattle.aud_bench.specs.declared.request.Answer.{Answer}
use Rattle.aud_bench.specs.Ties.Standing.{IsAt}
use Rattle.aud_bench.proofs.Benches.{below_is, room, refused, Next, alive, goes_on, goes_on_units, is_answered, answered_units}
use Rattle.aud_bench.proofs.bench.Bench.work.Goals as goal

-- work changes where it stands, and room may grow; the other clauses of a bench stay
now_at : {A B C D E F A' B' : Type 0} → A' → B' → A × B × C × D × E × F → A' × B' × C × D × E × F
now_at at room old = (at, room, old.2, old.3, old.4, old.5)

pub index-request-requires : goal.index-request-requires
index-request-requires c =
    let below = below_is _ _ _ _ _ _ _ _ c.self.invariant.0 c.args.self.now c.self.view_is c.requires.unanswered in
    omega (arith, below)

pub invariant_of-self : goal.invariant_of-self
invariant_of-self c =
    let s = c.self.inside in
    now_at
    (subst (λ (told : List Answer). ∥ IsAt s.limits s.journal.items s.finished s.progress s.taken told true c.serve.new.machine ∥₁) (sym c.add.ensures.items)
    (refused _ _ _ _ _ _ _ _ c.self.invariant.0 c.args.self.now c.self.view_is c.requires.alive c.serve.new.machine))
    (omega (arith, c.self.invariant.1, c.add.ensures.capacity)) c.self.invariant

pub add-requires : goal.add-requires
add-requires c =
    let s = c.self.inside in
    room _ _ _ _ _ _ _ _ c.self.invariant.0 c.args.self.now c.self.view_is c.requires.alive (vec_len s.answers) (vec_capacity s.answers) s.answers.ok.0 c.self.invariant.1

pub add-requires-in-Some : goal.add-requires-in-Some
add-requires-in-Some c =
    let s = c.self.inside in
    room _ _ _ _ _ _ _ _ c.self.invariant.0 c.args.self.now c.self.view_is c.requires.alive (vec_len s.answers) (vec_capacity s.answers) s.answers.ok.0 c.self.invariant.1

pub overflow_add-self : goal.overflow_add-self
overflow_add-self c =
    let s = c.self.inside in
    let below = below_is _ _ _ _ _ _ _ _ c.self.invariant.0 c.args.self.now c.self.view_is c.requires.unanswered in
    omega (arith, below, s.journal.ok.0, c.self.ranges)

pub invariant_of-self-in_default-answer : goal.invariant_of-self-in_default-answer
invariant_of-self-in_default-answer c =
    let at = c.self.invariant.0 in
    let next : Next _ _ _ _ _ _ _ _ at c.args.self.now c.index-request.result.now = record { is = c.self.view_is; lives = c.requires.alive; some = c.requires.unanswered; kept = c.self.invariant.4; brief = c.self.invariant.5; at_hand = c.index-request.ensures } in
    now_at (goes_on _ _ _ _ _ _ _ _ at _ _ next c.args.units c.in-Ok.served c.serve.new.machine c.in-Ok.ensures.serves c.in_default-answer.is) c.self.invariant.1 c.self.invariant

pub returns-in_default-answer-clause-works : goal.returns-in_default-answer-clause-works
returns-in_default-answer-clause-works c =
    let at = c.self.invariant.0 in
    let next : Next _ _ _ _ _ _ _ _ at c.args.self.now c.index-request.result.now = record { is = c.self.view_is; lives = c.requires.alive; some = c.requires.unanswered; kept = c.self.invariant.4; brief = c.self.invariant.5; at_hand = c.index-request.ensures } in
    let more = goes_on_units _ _ _ _ _ _ _ _ at _ _ next c.args.units c.in-Ok.served c.serve.new.machine c.in-Ok.ensures.serves c.in_default-answer.is in
    (alive _ _ _ _ _ _ _ _ at _ _ next, c.in-Ok.ensures.some, c.in-Ok.ensures.within, more)

pub invariant_of-self-in-Some : goal.invariant_of-self-in-Some
invariant_of-self-in-Some c =
    let s = c.self.inside in
    let at = c.self.invariant.0 in
    let next : Next _ _ _ _ _ _ _ _ at c.args.self.now c.index-request.result.now = record { is = c.self.view_is; lives = c.requires.alive; some = c.requires.unanswered; kept = c.self.invariant.4; brief = c.self.invariant.5; at_hand = c.index-request.ensures } in
    now_at
    (subst (λ (told : List Answer). ∥ IsAt s.limits s.journal.items (s.finished + 1) c.in-Ok.served.progress s.taken told s.spent c.serve.new.machine ∥₁) (sym c.add-in-Some.ensures.items)
    (is_answered _ _ _ _ _ _ _ _ at _ _ next c.args.units c.in-Ok.served c.serve.new.machine c.in-Ok.ensures.serves c.in-Some.answer c.in-Some.is))
    (omega (arith, c.self.invariant.1, c.add-in-Some.ensures.capacity)) c.self.invariant

pub returns-in-Some-clause-works : goal.returns-in-Some-clause-works
returns-in-Some-clause-works c =
    let at = c.self.invariant.0 in
    let next : Next _ _ _ _ _ _ _ _ at c.args.self.now c.index-request.result.now = record { is = c.self.view_is; lives = c.requires.alive; some = c.requires.unanswered; kept = c.self.invariant.4; brief = c.self.invariant.5; at_hand = c.index-request.ensures } in
    let more = answered_units _ _ _ _ _ _ _ _ at _ _ next c.args.units c.in-Ok.served c.serve.new.machine c.in-Ok.ensures.serves c.in-Some.answer c.in-Some.is in
    (alive _ _ _ _ _ _ _ _ at _ _ next, c.in-Ok.ensures.some, c.in-Ok.ensures.within, more)
