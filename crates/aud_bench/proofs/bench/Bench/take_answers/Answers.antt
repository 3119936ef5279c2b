use Rattle.std.proofs.Common.{◌≡◌, ◌+◌, List, ◌++◌, length, sym, ap, ◌∙◌, subst, arith}
use Rattle.aud_bench.specs.declared.request.Answer.{Answer}
use Rattle.aud_bench.specs.Seen.{Seen}
use Rattle.aud_bench.specs.Ties.Standing.{IsAt}
use Rattle.aud_bench.proofs.Benches.{count_within, all_made, from_is, emptied}
use Rattle.aud_bench.proofs.bench.Bench.take_answers.Goals as goal

pub overflow_sub-skip : goal.overflow_sub-skip
overflow_sub-skip c = omega (arith, c.requires.held, ap (λ (b : Seen). b.taken) c.self.view_is)

pub overflow_add-self : goal.overflow_add-self
overflow_add-self c =
    let s = c.self.inside in
    omega (arith, count_within _ _ _ _ _ _ _ _ c.self.invariant.0, c.self.invariant.1, s.answers.small, c.len.ensures, s.answers.ok.0)

pub move_past-requires : goal.move_past-requires
move_past-requires c =
    let s = c.self.inside in
    omega (arith, c.requires.held, c.requires.room, ap (λ (b : Seen). b.taken) c.self.view_is, all_made _ _ _ _ _ _ _ _ c.self.invariant.0 c.args.self.now c.self.view_is, s.answers.ok.0)

pub invariant_of-self : goal.invariant_of-self
invariant_of-self c =
    let s = c.self.inside in
    let count : s.taken + length s.answers.items ≡ s.taken + c.len.result = omega (arith, c.len.ensures, s.answers.ok.0) in (
      subst (λ n. ∥ IsAt s.limits s.journal.items s.finished s.progress n c.move_past.new.answers.items s.spent s.machine ∥₁) count
          (subst (λ (held : List Answer). ∥ IsAt s.limits s.journal.items s.finished s.progress (s.taken + length s.answers.items) held s.spent s.machine ∥₁) (sym c.move_past.ensures.none)
          (emptied _ _ _ _ _ _ _ _ c.self.invariant.0)),
      omega (arith, c.self.invariant.1, c.move_past.ensures.room),
      c.self.invariant.2,
      c.self.invariant.3,
      c.self.invariant.4,
      c.self.invariant.5,
    )

pub returns-clause-items : goal.returns-clause-items
returns-clause-items c =
    c.move_past.ensures.items ∙ ap (λ xs. c.args.into.now.items ++ xs) (from_is _ _ _ _ _ _ _ _ c.self.invariant.0 c.args.self.now c.self.view_is c.args.from c.requires.held)

pub returns-clause-bench : goal.returns-clause-bench
returns-clause-bench c =
    let s = c.self.inside in
    let count : s.taken + c.len.result ≡ s.taken + length s.answers.items = omega (arith, c.len.ensures, s.answers.ok.0) in
    let all = all_made _ _ _ _ _ _ _ _ c.self.invariant.0 c.args.self.now c.self.view_is in
    ap (λ (b : Seen). record b { taken = s.taken + c.len.result }) c.self.view_is ∙ ap (λ n. record c.args.self.now { taken = n }) (count ∙ all)
