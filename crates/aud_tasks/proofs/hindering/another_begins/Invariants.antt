use Rattle.aud_typed.specs.Ties.View.{plain_program}
use Rattle.aud_tasks.proofs.Running.Hindering.{BeginsAloneBelow}
use Rattle.aud_tasks.proofs.hindering.another_begins.Given as goal

abbrev pub invariant-loop-other : goal.invariant-loop-other
invariant-loop-other l = BeginsAloneBelow (plain_program l.compiled.program.now).plan l.compiled.code.now l.task l.state l.other
