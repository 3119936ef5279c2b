use Rattle.std.proofs.lemmas.Result.{IfOk-weaker}
use Rattle.aud_connection.proofs.Visits.{told_next}
use Rattle.aud_connection.proofs.serve.VisitorAttendant.reply.Goals as goal

pub returns : goal.returns
returns g c =
    IfOk-weaker c.reply.result _ _ (λ text replies. told_next g.D.Seating.limits c.args.self.now.visit c.reply.new.self c.args.request.now text.items c.requires replies) c.reply.ensures
