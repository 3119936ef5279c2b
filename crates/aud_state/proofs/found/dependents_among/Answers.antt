use Rattle.std.proofs.Common.{◌≡◌, Bool, true, false, [], ◌∷◌, ◌++◌, ◌+◌, drop, if◌then◌else◌, ap, sym, ◌∙◌, append-nil, arith}
use Rattle.std.proofs.lemmas.List.{at_drop_all}
use Rattle.aud_meaning.specs.Configuration.{TaskAt}
use Rattle.aud_meaning.specs.Parts.{depends}
use Rattle.aud_code.specs.Places.{Spot}
use Rattle.aud_meaning.specs.Parts.{numbers}
use Rattle.aud_state.specs.declared.task.Task.{Task}
use Rattle.aud_state.specs.View.{plain_task}
use Rattle.aud_state.proofs.Numbered.{found_more, numbers_map}
use Rattle.aud_state.proofs.found.dependents_among.Goals.{then-depends_on+in_ok-push, else-depends_on}
use Rattle.aud_state.proofs.found.dependents_among.Goals as goal

pub loop-n-preserved : goal.loop-n-preserved
loop-n-preserved c =
    let passes : Task → Bool = λ z. (λ (t : TaskAt Spot). depends c.args.master t.own) (plain_task z) in
    let x = c.index-tasks-n.result in
    let found = c.loop-n.found.items in
    let rest = numbers passes (c.loop-n.n + 1) (drop (c.loop-n.n + 1) c.args.tasks.now) in
    let more : (b : Bool) → b ≡ c.depends_on.result → (if b then found ++ c.loop-n.n ∷ [] else found) ++ rest ≡ numbers passes 0 c.args.tasks.now =
    λ b is. found_more passes found c.args.tasks.now c.loop-n.n x b (omega arith) (is ∙ c.depends_on.ensures ∙ ap passes c.index-tasks-n.is) ∙ c.loop-n.invariant in
    elim c.if-depends_on.branch [
      | then-depends_on+in_ok-push w ↦ rw (w.found-is, w.in_ok-push.ensures.items) (more true (sym w.if-depends_on.true))
      | else-depends_on w ↦ rw w.found-is (more false (sym w.if-depends_on.false))
    ]

pub returns : goal.returns
returns c =
    let passes : Task → Bool = λ z. (λ (t : TaskAt Spot). depends c.args.master t.own) (plain_task z) in
    let found = c.loop-n.found.items in
    sym (append-nil found)
    ∙ sym (at_drop_all (λ xs. found ++ numbers passes c.loop-n.n xs) c.args.tasks.now c.loop-n.n (omega arith))
    ∙ c.loop-n.invariant ∙ sym (numbers_map plain_task (λ (t : TaskAt Spot). depends c.args.master t.own) 0 c.args.tasks.now)
