use Rattle.std.proofs.Common.{ap, ◌∙◌}
use Rattle.aud_meaning.specs.Configuration.{All}
use Rattle.aud_meaning.specs.Parts.{on_control}
use Rattle.aud_typed.specs.Ties.View.{plain_program}
use Rattle.aud_code.specs.Control.{going}
use Rattle.aud_code.specs.Flat.{barrier_at}
use Rattle.aud_code.specs.Places.{Spot}
use Rattle.aud_tasks.proofs.endings.end_activation.Goals as goal

pub returns : goal.returns
returns c = λ alternative.
    c.take.ensures ∙ ap (λ (s : All Spot). on_control c.args.n ((going c.args.compiled.code.now).takes 0) s) (c.end_activation.ensures (plain_program c.args.compiled.program.now).plan (barrier_at c.args.compiled.code.now))
