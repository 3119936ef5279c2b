use Rattle.std.proofs.Common.{◌≡◌, Bool, true, false, [], ◌∷◌, ◌++◌, ◌+◌, drop, if◌then◌else◌, ap, sym, ◌∙◌, append-nil, arith}
use Rattle.std.proofs.lemmas.List.{at_drop_all}
use Rattle.aud_meaning.specs.Tasks as effect
use Rattle.aud_state.specs.declared.task.Task.{Task}
use Rattle.aud_state.specs.View.{plain_task}
use Rattle.aud_state.proofs.Hitting.{hit, hit_more}
use Rattle.aud_state.proofs.aborting.hit_among.Goals.{then-is_hit+in_ok-push, else-is_hit}
use Rattle.aud_state.proofs.aborting.hit_among.Goals as goal

pub loop-n-preserved : goal.loop-n-preserved
loop-n-preserved c = λ go plan barrier.
    let named = c.args.named.now in
    let bodies = c.args.bodies.now in
    let n = c.loop-n.n in
    let passes : Task → Bool = λ t. effect.is_hit go plan barrier named bodies n (plain_task t).own in
    let found = c.loop-n.found.items in
    let rest = hit go plan barrier named bodies (n + 1) (drop (n + 1) c.args.tasks.now) in
    let more : (b : Bool) → b ≡ c.is_hit.result → (if b then found ++ n ∷ [] else found) ++ rest ≡ hit go plan barrier named bodies 0 c.args.tasks.now =
    λ b is. hit_more go plan barrier named bodies found c.args.tasks.now n c.index-tasks-n.result b (omega arith) (is ∙ c.is_hit.ensures go plan barrier ∙ ap passes c.index-tasks-n.is) ∙ c.loop-n.invariant go plan barrier in
    elim c.if-is_hit.branch [
      | then-is_hit+in_ok-push w ↦ rw (w.found-is, w.in_ok-push.ensures.items) (more true (sym w.if-is_hit.true))
      | else-is_hit w ↦ rw w.found-is (more false (sym w.if-is_hit.false))
    ]

pub returns : goal.returns
returns c = λ go plan barrier.
    let named = c.args.named.now in
    let bodies = c.args.bodies.now in
    let found = c.loop-n.found.items in
    sym (append-nil found)
    ∙ sym (at_drop_all (λ ts. found ++ hit go plan barrier named bodies c.loop-n.n ts) c.args.tasks.now c.loop-n.n (omega arith))
    ∙ c.loop-n.invariant go plan barrier
