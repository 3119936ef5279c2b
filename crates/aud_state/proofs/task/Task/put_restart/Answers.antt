use Rattle.std.proofs.Common.{◌≡◌, Bool, true, false, [], ◌∷◌, Option, refl, ap, sym, ◌∙◌}
use Rattle.std.specs.Prelude.{◌||◌, nat_eq}
use Rattle.aud_meaning.specs.declared.state.Restart.{Restart}
use Rattle.aud_meaning.specs.Parts.{contains}
use Rattle.aud_over.specs.Over.{is_made_again}
use Rattle.aud_calls.proofs.Lists.{append_names}
use Rattle.aud_state.proofs.task.Task.put_restart.Goals as goal

none_more : (b : Bool) → b ≡ (b || false)
none_more true = refl
none_more false = refl

pub returns-in-None : goal.returns-in-None
returns-in-None c = λ id.
    let before = contains id c.args.served.now.items in
    none_more before
    ∙ ap (λ (r : Option Restart). before || is_made_again id r) (sym c.in-None.is)

pub returns-in_ok-push-in-Some : goal.returns-in_ok-push-in-Some
returns-in_ok-push-in-Some c = λ id.
    let before = contains id c.args.served.now.items in
    let call = c.in-Some.restart.call in
    ap (contains id) c.in_ok-push-in-Some.ensures.items
    ∙ append_names id c.args.served.now.items (call ∷ [])
    ∙ ap (λ b. before || b) (sym (none_more (nat_eq id call)))
    ∙ ap (λ (r : Option Restart). before || is_made_again id r) (sym c.in-Some.is)
