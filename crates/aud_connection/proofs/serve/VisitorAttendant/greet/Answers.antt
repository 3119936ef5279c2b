use Rattle.std.proofs.Common.{ap, ◌∙◌}
use Rattle.std.proofs.lemmas.Result.{IfOk-weaker}
use Rattle.aud_connection.specs.Greeting.{greeting}
use Rattle.aud_connection.proofs.Visits.{greeted}
use Rattle.aud_connection.proofs.serve.VisitorAttendant.greet.Goals as goal

pub returns : goal.returns
returns g c =
    IfOk-weaker c.greeting.result _ _ (λ text is. greeted g.D.Seating.limits (λ visitor. visitor.visit) c.args.self.now text.items (is ∙ ap greeting (c.deref.ensures.value ∙ c.in_ok-seats.ensures)) c.requires) c.greeting.ensures
