use Rattle.std.proofs.Common.{◌≡◌, ◌-◌, ◌≤◌, ap, ◌∙◌, subst, arith}
use Rattle.aud_bench.specs.Alone.{cost}
use Rattle.aud_bench.specs.Seen.{Seen, unanswered}
use Rattle.aud_bench.proofs.Benches.{known_is, left_is, within_is, whole_is}
use Rattle.aud_bench.proofs.bench.Bench.left.Goals as goal

pub overflow_sub-result : goal.overflow_sub-result
overflow_sub-result c =
    let s = c.self.inside in
    omega (arith, known_is s.limits s.journal.items s.finished s.progress s.taken s.answers.items s.spent s.machine c.self.invariant.0, c.len.ensures, s.journal.ok.0)

pub returns-clause-left : goal.returns-clause-left
returns-clause-left c =
    let s = c.self.inside in
    let left = left_is s.limits s.journal.items s.finished s.progress s.taken s.answers.items s.spent s.machine c.self.invariant.0 in
    ap (λ n. n - s.finished) (c.len.ensures ∙ s.journal.ok.0) ∙ left ∙ ap unanswered c.self.view_is

pub returns-clause-within : goal.returns-clause-within
returns-clause-within c =
    let s = c.self.inside in
    subst (λ (b : Seen). b.units ≤ cost b.limits b.journal) c.self.view_is
    (within_is s.limits s.journal.items s.finished s.progress s.taken s.answers.items s.spent s.machine c.self.invariant.0)

pub returns-clause-whole : goal.returns-clause-whole
returns-clause-whole c =
    let s = c.self.inside in
    λ none.
    subst (λ (b : Seen). b.units ≡ cost b.limits b.journal) c.self.view_is
    (whole_is s.limits s.journal.items s.finished s.progress s.taken s.answers.items s.spent s.machine c.self.invariant.0 (omega (arith, none, c.len.ensures, s.journal.ok.0)))
