use Rattle.std.proofs.Common.{◌||◌, ◌+◌, ℕ, Bool, nat_eq, drop, get_or, ap, sym, ◌∙◌, arith}
use Rattle.std.proofs.lemmas.List.{at_drop_more}
use Rattle.std.specs.List.{list_any}
use Rattle.aud_meaning.specs.Parts.{any, contains}
use Rattle.aud_calls.proofs.Lists.{contains_same}
use Rattle.aud_state.proofs.task.Task.is_under_any.Goals as goal

pub returns-then-contains : goal.returns-then-contains
returns-then-contains c =
    let own = c.args.self.now.masters.items in
    let p : ℕ → Bool = λ m. contains m own in
    let at = c.loop-master.master-index in
    let x = get_or c.args.masters.now at 0 in
    let is = c.contains.ensures.value ∙ ap (list_any (λ m. nat_eq m x)) c.deref.ensures.value ∙ contains_same x own in
    sym (sym c.loop-master.invariant
    ∙ at_drop_more (any p) c.args.masters.now at 0 (omega arith)
    ∙ ap (λ b. b || any p (drop (at + 1) c.args.masters.now)) (sym is ∙ c.if-contains.true))

pub loop-master-preserved : goal.loop-master-preserved
loop-master-preserved c =
    let own = c.args.self.now.masters.items in
    let p : ℕ → Bool = λ m. contains m own in
    let at = c.loop-master.master-index in
    let x = get_or c.args.masters.now at 0 in
    let is = c.contains.ensures.value ∙ ap (list_any (λ m. nat_eq m x)) c.deref.ensures.value ∙ contains_same x own in
    ap (λ b. b || any p (drop (at + 1) c.args.masters.now)) (sym c.if-contains.false ∙ is)
    ∙ sym (at_drop_more (any p) c.args.masters.now at 0 (omega arith))
    ∙ c.loop-master.invariant
