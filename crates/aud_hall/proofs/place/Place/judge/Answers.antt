use Rattle.std.proofs.Common.{sym, ◌∙◌}
use Rattle.aud_hall.proofs.Judging.{other_is, claimed_is, not_out, differs}
use Rattle.aud_hall.proofs.place.Place.judge.Goals as goal

pub returns-then-ne : goal.returns-then-ne
returns-then-ne c = other_is c.self.inside.limits c.self.inside.seat c.args.self.now c.self.view_is c.args.parcel.now.bench c.limits.result c.limits.ensures c.ne.result c.ne.ensures c.if-ne.true

pub returns-in-Some : goal.returns-in-Some
returns-in-Some c =
    c.judge.ensures ∙ claimed_is c.self.inside.limits c.self.inside.seat c.args.self.now c.self.view_is c.args.parcel.now.bench c.limits.result c.limits.ensures c.ne.result c.ne.ensures c.if-ne.false c.in-Some.seat c.in-Some.is

pub returns-in-None : goal.returns-in-None
returns-in-None c =
    not_out c.self.inside.limits c.self.inside.seat c.args.self.now c.self.view_is c.args.parcel.now.bench c.limits.result c.limits.ensures c.ne.result c.ne.ensures c.if-ne.false c.journal.result.now c.journal.ensures c.in-None.is (sym c.is_empty.ensures ∙ c.if-is_empty.true)

pub returns-in-None-2 : goal.returns-in-None-2
returns-in-None-2 c =
    differs c.self.inside.limits c.self.inside.seat c.args.self.now c.self.view_is c.args.parcel.now.bench c.limits.result c.limits.ensures c.ne.result c.ne.ensures c.if-ne.false c.journal.result.now c.journal.ensures c.in-None-2.is (sym c.is_empty.ensures ∙ c.if-is_empty.false)
