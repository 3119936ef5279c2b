use Rattle.std.proofs.Common.{◌&&◌, nat_eq, ap, ◌∙◌}
use Rattle.aud_meaning.specs.Parts.{any}
use Rattle.aud_state.proofs.Numbered.{any_same}
use Rattle.aud_state.proofs.task.Task.is_created_in.Goals as goal

pub returns-then-is_created : goal.returns-then-is_created
returns-then-is_created c =
    let part = c.args.self.now.part in
    c.contains.ensures.value
    ∙ any_same (λ m. nat_eq m part) c.args.parts.now
    ∙ ap (λ b. b && any (λ m. nat_eq m part) c.args.parts.now) c.if-is_created.ensures
