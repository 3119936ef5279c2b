use Rattle.std.proofs.Common.{[], ◌∷◌, ap}
use Rattle.std.specs.Prelude.{None}
use Rattle.aud_typed.specs.Ties.View.{plain_tasks}
use Rattle.aud_typed.specs.Tree.{Tasks}
use Rattle.aud_code.specs.Flat.{Does, end}
use Rattle.aud_code.specs.Instruction as instruction
use Rattle.aud_layout.specs.Assembly.{within_moved}
use Rattle.aud_gen.proofs.Writing.{same_written}
use Rattle.aud_gen.proofs.writer.Writer.write_tasks.Goals as goal

pub returns-in-Ok : goal.returns-in-Ok
returns-in-Ok c =
    let line = λ (ts : Tasks). end (record { last = Does (instruction.DeclareTasks ts); at = c.args.at; out = c.args.out; within = within_moved (λ n. n) c.args.within; ways = c.args.next ∷ []; bodies = []; exit = None }) ∷ [] in
    same_written _ (line (plain_tasks c.args.tasks.now)) (ap line c.in-Ok.ensures) c.concern.ensures

pub returns-in-Err : goal.returns-in-Err
returns-in-Err c = c.refuse.ensures _ _
