use Rattle.std.proofs.Common.{Option, ap, ◌∙◌}
use Rattle.aud_typed.specs.declared.program.Program.{Program}
use Rattle.aud_typed.specs.Tree as tree
use Rattle.aud_typed.specs.Ties.View.{plain_program}
use Rattle.aud_bench.specs.declared.request.Raised.{Raised}
use Rattle.aud_bench.specs.declared.request.Report.{Report}
use Rattle.aud_bench.specs.Alone.{named_if, ended_by}
use Rattle.aud_bench.proofs.service.report.Goals as goal

pub returns : goal.returns
returns c =
    λ shown h.
    let program : tree.Program = plain_program c.args.machine.now.program in
    let told : Option Raised → Report = λ raised. record { steps = c.args.steps; state = c.args.state; raised = raised } in
    ap told
    (c.ended_by.ensures
    ∙ ap (ended_by c.args.state)
    (c.in_ok-raised.ensures
    ∙ ap (λ names. named_if names c.raised.result) c.deref.ensures.value
    ∙ ap (λ (p : Program). named_if p.exceptions.items c.raised.result) c.program.ensures
    ∙ ap (named_if program.plan.exceptions) (c.raised.ensures shown h)))
