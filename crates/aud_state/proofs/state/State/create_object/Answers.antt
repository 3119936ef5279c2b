use Rattle.std.proofs.Common.{◌++◌, ◌∷◌, [], ℕ, List, ap, ◌∙◌}
use Rattle.aud_meaning.specs.Configuration as meaning
use Rattle.aud_meaning.specs.Parts.{own_of}
use Rattle.aud_state.proofs.TaskLaws.Changed.{object_made}
use Rattle.aud_state.proofs.state.State.create_object.Goals as goal

pub returns-clause-created : goal.returns-clause-created
returns-clause-created c =
    let i = c.self.inside in
    let old = c.args.self.now in
    let seen = (own_of c.args.n old).display in
    let object : List ℕ → meaning.Object = λ display. record { declaration = c.args.declaration; display = display; actions = [] } in
    object_made c.args.declaration c.args.cells.now seen i.tasks.items i.progress c.make_frame.new.self i.calls i.objects.items c.push-2.new.self.items _ old
    c.in_ok-frame.ensures.made c.in_ok-push-2.ensures.items
    (ap (λ xs. record { declaration = c.args.declaration; display = c.push.new.self.items; actions = xs }) c.new.ensures.items
    ∙ ap object (c.in_ok-push.ensures.items
    ∙ ap (λ l. l ++ c.in_ok-frame.frame ∷ []) c.in_ok-display.ensures
    ∙ ap (λ k. seen ++ k ∷ []) c.in_ok-frame.ensures.number))
    c.self.view_is
