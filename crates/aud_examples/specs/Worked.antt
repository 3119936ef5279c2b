-- Programs of the whole language, as typed programs.
use Rattle.std.specs.Prelude.{List, [], ◌∷◌}
use Rattle.aud_examples.specs.Asking.{Row, AllHold}
use Rattle.aud_examples.specs.Programs.NullProgram.{row as null_program}
use Rattle.aud_examples.specs.Programs.VariableAndText.{row as variable_and_text}
use Rattle.aud_examples.specs.Programs.ZeroDivision.{row as zero_division}
use Rattle.aud_examples.specs.Programs.Operators.{row as operators}
use Rattle.aud_examples.specs.Programs.HandledOverflow.{row as handled_overflow}
use Rattle.aud_examples.specs.Programs.ArrayInLoop.{row as array_in_loop}
use Rattle.aud_examples.specs.Programs.NoCopyBack.{row as no_copy_back}
use Rattle.aud_examples.specs.Programs.FailedActivation.{row as failed_activation}
use Rattle.aud_examples.specs.Programs.FailedDeclarations.{row as failed_declarations}
use Rattle.aud_examples.specs.Programs.Choices.{row as choices}
use Rattle.aud_examples.specs.Programs.QueueInOrder.{row as queue_in_order}
use Rattle.aud_examples.specs.Programs.ExceptionInRendezvous.{row as exception_in_rendezvous}
use Rattle.aud_examples.specs.Programs.SelectiveAccept.{row as selective_accept}
use Rattle.aud_examples.specs.Programs.TimedCall.{row as timed_call}
use Rattle.aud_examples.specs.Programs.NoOpenAlternative.{row as no_open_alternative}
use Rattle.aud_examples.specs.Programs.TerminateAlternative.{row as terminate_alternative}
use Rattle.aud_examples.specs.Programs.BarrierWithCount.{row as barrier_with_count}
use Rattle.aud_examples.specs.Programs.DelayInAction.{row as delay_in_action}
use Rattle.aud_examples.specs.Programs.BarrierRaises.{row as barrier_raises}
use Rattle.aud_examples.specs.Programs.AbortInAction.{row as abort_in_action}
use Rattle.aud_examples.specs.Programs.AbortOfItself.{row as abort_of_itself}
use Rattle.aud_examples.specs.Programs.AbortWhileQueued.{row as abort_while_queued}
use Rattle.aud_examples.specs.Programs.RequeueToTask.{row as requeue_to_task}
use Rattle.aud_examples.specs.Programs.RequeueToObject.{row as requeue_with_abort, staying as requeue_without_abort}
use Rattle.aud_examples.specs.Programs.Stuck.{row as stuck}
use Rattle.aud_examples.specs.Programs.TaskInLoop.{row as task_in_loop}

abbrev pub rows : List Row
rows =
    null_program
    ∷ variable_and_text
    ∷ zero_division
    ∷ operators
    ∷ handled_overflow
    ∷ array_in_loop
    ∷ no_copy_back
    ∷ failed_activation
    ∷ failed_declarations
    ∷ choices
    ∷ queue_in_order
    ∷ exception_in_rendezvous
    ∷ selective_accept
    ∷ timed_call
    ∷ no_open_alternative
    ∷ terminate_alternative
    ∷ barrier_with_count
    ∷ delay_in_action
    ∷ barrier_raises
    ∷ abort_in_action
    ∷ abort_of_itself
    ∷ abort_while_queued
    ∷ requeue_to_task
    ∷ requeue_with_abort
    ∷ requeue_without_abort
    ∷ stuck
    ∷ task_in_loop
    ∷ []

abbrev pub RowsHold : Type 0
RowsHold = AllHold rows
