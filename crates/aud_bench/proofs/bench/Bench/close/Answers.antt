use Rattle.std.proofs.Common.{List, vec_len, vec_capacity, true, sym, ap, subst, arith}
use Rattle.aud_bench.specs.declared.request.Answer.{Answer}
use Rattle.aud_bench.specs.Seen.{Seen}
use Rattle.aud_bench.specs.Ties.Standing.{IsAt}
use Rattle.aud_bench.proofs.Benches.{room, refused}
use Rattle.aud_bench.proofs.bench.Bench.close.Goals as goal

pub add-requires : goal.add-requires
add-requires c =
    let s = c.self.inside in
    room _ _ _ _ _ _ _ _ c.self.invariant.0 c.args.self.now c.self.view_is c.requires (vec_len s.answers) (vec_capacity s.answers) s.answers.ok.0 c.self.invariant.1

pub invariant_of-self : goal.invariant_of-self
invariant_of-self c =
    let s = c.self.inside in (
      subst (λ (told : List Answer). ∥ IsAt s.limits s.journal.items s.finished s.progress s.taken told true s.machine ∥₁) (sym c.add.ensures.items)
          (refused _ _ _ _ _ _ _ _ c.self.invariant.0 c.args.self.now c.self.view_is c.requires s.machine),
      omega (arith, c.self.invariant.1, c.add.ensures.capacity),
      c.self.invariant.2,
      c.self.invariant.3,
      c.self.invariant.4,
      c.self.invariant.5,
    )

pub returns : goal.returns
returns c = ap (λ (b : Seen). record b { spent = true }) c.self.view_is
