use Rattle.std.proofs.Common.{subst}
use Rattle.aud_hall.specs.Halls.{Place}
use Rattle.aud_hall.specs.Told.{IsToldIn}
use Rattle.aud_hall.proofs.Told.{told_in}
use Rattle.aud_hall.proofs.place.Place.asked.Goals as goal

pub returns-in-Some-clause-answers : goal.returns-in-Some-clause-answers
returns-in-Some-clause-answers c = subst (λ (p : Place). IsToldIn p.limits p.seat) c.self.view_is (told_in c.self.inside.limits c.self.inside.seat c.self.invariant)

pub returns-in-None-clause-answers : goal.returns-in-None-clause-answers
returns-in-None-clause-answers c = subst (λ (p : Place). IsToldIn p.limits p.seat) c.self.view_is (told_in c.self.inside.limits c.self.inside.seat c.self.invariant)
