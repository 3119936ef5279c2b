use Rattle.std.proofs.Common.{sym, ◌∙◌, arith}
use Rattle.aud_calls.proofs.CallLaws.Lines.{first_line, first_within, others_line}
use Rattle.aud_calls.proofs.queues.Queues.calls.Goals as goal

pub index-requires : goal.index-requires
index-requires c = omega (arith, first_within c.args.owner c.args.entry c.args.self.now.queues.items c.in-Some.at c.in-Some.ensures.found)

pub returns-in-Some : goal.returns-in-Some
returns-in-Some c =
    c.deref.ensures.value
    ∙ first_line c.args.owner c.args.entry c.args.self.now.queues.items c.in-Some.at c.index.result.now c.in-Some.ensures.found c.index.ensures

pub returns-in-None : goal.returns-in-None
returns-in-None c = sym (others_line c.args.owner c.args.entry c.args.self.now.queues.items c.in-None.ensures.absent)
