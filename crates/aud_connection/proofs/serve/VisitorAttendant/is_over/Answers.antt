use Rattle.aud_connection.proofs.Visits.{told_still}
use Rattle.aud_connection.proofs.serve.VisitorAttendant.is_over.Goals as goal

pub returns-clause-none : goal.returns-clause-none
returns-clause-none g c = λ is. told_still g.D.Seating.limits c.args.self.now.visit is
