use Rattle.std.proofs.Common.{◌≡◌, ◌+◌, ◌∷◌, [], ◌++◌, ap, ◌∙◌, arith}
use Rattle.std.proofs.lemmas.Grind.{common_steps}
use Rattle.aud_store.proofs.Framed.{first_made, next_made}
use Rattle.aud_store.proofs.frames.Frames.enter.Goals as goal
use Rattle.aud_store.proofs.frames.Frames.enter.Goals.{then-self-eq0+in_ok-first, else-self-eq0+in_ok-push}

pub returns-clause-entered : goal.returns-clause-entered
returns-clause-entered c =
    let made : c.in_ok-made.made ≡ c.self.inside.made + 1 = grind (arith, common_steps, c.checked_add.ensures, c.ok_or.ensures, c.in_ok-made.ensures) in
    elim c.if-self-eq0.branch [
      | then-self-eq0+in_ok-first w ↦ rw (w.self-inside-is, made) (
          first_made c.self.inside.made c.self.inside.first.items _ c.self.inside.shelf c.args.self.now c.self.view_is w.if-self-eq0.true
          ∙ ap (λ l. c.args.self.now ++ l ∷ []) (ap (λ v. v.items) w.replace.ensures.after ∙ w.in_ok-first.ensures.ok))
      | else-self-eq0+in_ok-push w ↦ rw (w.self-inside-is, made) (
          next_made c.self.inside.made c.self.inside.first.items c.args.variables.now c.self.inside.shelf w.push.new.self c.args.self.now c.self.view_is w.if-self-eq0.false
          w.in_ok-push.ensures.pushed)
    ]
