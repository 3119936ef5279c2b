use Rattle.std.proofs.Common.{◌≡◌, ◌&&◌, Bool, true, false, not, if◌then◌else◌, ap, sym, ◌∙◌}
use Rattle.aud_meaning.specs.Configuration.{All}
use Rattle.aud_meaning.specs.Parts.{any, own_of}
use Rattle.aud_meaning.specs.Tasks as effect
use Rattle.aud_code.specs.Control.{going}
use Rattle.aud_code.specs.Places.{Spot}
use Rattle.aud_masters.proofs.activation.look.Goals as goal
use Rattle.aud_masters.proofs.activation.look.Goals.{else-is_activating-via-then-is_activating+else-not-awaits, else-is_activating-via-else-is_activating}

-- it waits, and for none; or not
both : (x old : All Spot) (act aw : Bool) → act ≡ true → aw ≡ false → (if act && not aw then x else old) ≡ x
both x old act aw e f = ap (λ b. if b && not aw then x else old) e ∙ ap (λ b. if not b then x else old) f

some : (x old : All Spot) (act aw : Bool) → act ≡ true → aw ≡ true → (if act && not aw then x else old) ≡ old
some x old act aw e f = ap (λ b. if b && not aw then x else old) e ∙ ap (λ b. if not b then x else old) f

none : (x old : All Spot) (act aw : Bool) → act ≡ false → (if act && not aw then x else old) ≡ old
none x old act aw e = ap (λ b. if b && not aw then x else old) e

pub returns-then-not-awaits : goal.returns-then-not-awaits
returns-then-not-awaits c = λ plan barrier.
    let go = going c.args.code.now in
    let old = c.args.state.now in
    c.go_on_behind.ensures
    ∙ sym (both (effect.activator_goes_on go plan barrier c.args.task old) old (effect.is_activating go plan barrier (own_of c.args.task old).status) (any (effect.is_awaited_by go plan barrier c.args.task) old.tasks)
    (sym (c.is_activating.ensures go plan barrier) ∙ c.if-is_activating.true) (sym (c.awaits.ensures go plan barrier) ∙ c.if-not-awaits.true))

pub returns-else-is_activating : goal.returns-else-is_activating
returns-else-is_activating c = λ plan barrier.
    let go = going c.args.code.now in
    let old = c.args.state.now in
    elim c.else-is_activating.branch [
      | else-is_activating-via-then-is_activating+else-not-awaits w ↦
          sym (some (effect.activator_goes_on go plan barrier c.args.task old) old (effect.is_activating go plan barrier (own_of c.args.task old).status) (any (effect.is_awaited_by go plan barrier c.args.task) old.tasks)
          (sym (c.is_activating.ensures go plan barrier) ∙ w.if-is_activating.true) (sym (w.awaits.ensures go plan barrier) ∙ w.if-not-awaits.false))
      | else-is_activating-via-else-is_activating w ↦
          sym (none (effect.activator_goes_on go plan barrier c.args.task old) old (effect.is_activating go plan barrier (own_of c.args.task old).status) (any (effect.is_awaited_by go plan barrier c.args.task) old.tasks)
          (sym (c.is_activating.ensures go plan barrier) ∙ w.if-is_activating.false))
    ]
