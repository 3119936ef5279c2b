-- The tests of sameness hold of equal values alone.
use Rattle.std.specs.Prelude.{◌==◌}
use Rattle.std.proofs.Common.{◌≡◌, true, ap, ◌∙◌}
use Rattle.aud_text.specs.declared.limits.Limits.{Limits}
use Rattle.aud_bench.specs.Same.{same_limits}
pub use Rattle.aud_bench.specs.Ties.Sameness.{same_is, same_self}
use Rattle.aud_bench.proofs.Truths.{and_left, and_right, and_both, eq_true, eq_self}

pub same_limits_is : (a b : Limits) → same_limits a b ≡ true → a ≡ b
unfolding same_limits
same_limits_is a b h =
    let tasks : a.tasks ≡ b.tasks = eq_true a.tasks b.tasks (and_left (a.tasks == b.tasks) (a.source == b.source) h) in
    let source : a.source ≡ b.source = eq_true a.source b.source (and_right (a.tasks == b.tasks) (a.source == b.source) h) in
    ap (λ n. record { tasks = n; source = a.source }) tasks ∙ ap (λ n. record { tasks = b.tasks; source = n }) source

pub same_limits_self : (a : Limits) → same_limits a a ≡ true
unfolding same_limits
same_limits_self a = and_both (a.tasks == a.tasks) (a.source == a.source) (eq_self a.tasks) (eq_self a.source)
