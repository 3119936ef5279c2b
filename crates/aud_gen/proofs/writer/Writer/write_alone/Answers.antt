use Rattle.std.proofs.Common.{[], ◌∷◌, ◌++◌, refl, ap, sym}
use Rattle.std.specs.Prelude.{Some}
use Rattle.aud_typed.specs.Ties.View.{plain_arguments, plain_boolean, plain_calling, plain_delay, plain_form, plain_reference, plain_task_names, plain_text, plain_value, plain_values}
use Rattle.aud_code.specs.Flat.{Does, EndLine}
use Rattle.aud_code.specs.Instruction as instruction
use Rattle.aud_code.specs.Places.{Way}
use Rattle.aud_layout.specs.Assembly.{within_moved}
use Rattle.aud_layout.specs.Instructions.{called_code, components_code, condition_code, delay_code, entered_code, names_code, reference_code, text_code, value_code}
use Rattle.aud_gen.proofs.Entering.{one_step}
use Rattle.aud_gen.proofs.Writing.{◌then◌}
use Rattle.aud_gen.proofs.writer.Writer.write_alone.Goals as goal

pub returns-in-Declare : goal.returns-in-Declare
returns-in-Declare c = rw (c.in-Declare.is, sym c.place-again.ensures) (one_step (value_code (plain_value c.in-Declare.e)) _ _ refl c.write_value.ensures c.end_statement.ensures)

pub returns-in-Assign : goal.returns-in-Assign
returns-in-Assign c = rw c.in-Assign.is (one_step (reference_code (plain_reference c.in-Assign.target) ++ value_code (plain_value c.in-Assign.e)) _ _ refl (c.write_reference.ensures then c.write_value-in-Assign.ensures) c.end_statement-in-Assign.ensures)

pub returns-in-Put : goal.returns-in-Put
returns-in-Put c = rw c.in-Put.is (one_step (text_code (plain_text c.in-Put.t)) _ _ refl (c.write_text.ensures) c.end_statement-in-Put.ensures)

pub returns-in-Exit : goal.returns-in-Exit
returns-in-Exit c =
    let line : Way → EndLine = λ way. record { last = Does instruction.Exit; at = c.in-Exit.at; out = c.args.out; within = within_moved (λ n. n) c.args.ways.now.within; ways = c.args.next ∷ []; bodies = []; exit = Some way } in
    rw c.in-Exit.is (one_step (condition_code (plain_boolean c.in-Exit.condition)) _ _ (ap line c.exit-way.ensures) c.write_boolean.ensures c.end_statement-in-Exit.ensures)

pub returns-in-ReturnValue : goal.returns-in-ReturnValue
returns-in-ReturnValue c = rw c.in-ReturnValue.is (one_step (value_code (plain_value c.in-ReturnValue.e)) _ _ refl (c.write_value-in-ReturnValue.ensures) c.end_statement-in-ReturnValue.ensures)

pub returns-in-ProcedureCall : goal.returns-in-ProcedureCall
returns-in-ProcedureCall c = rw c.in-ProcedureCall.is (one_step (entered_code (plain_calling c.in-ProcedureCall.calling)) _ _ refl (c.write_calling.ensures) c.end_statement-in-ProcedureCall.ensures)

pub returns-in-OwnEntryCall : goal.returns-in-OwnEntryCall
returns-in-OwnEntryCall c = rw c.in-OwnEntryCall.is (one_step (called_code (plain_arguments c.in-OwnEntryCall.arguments.items) (plain_form c.in-OwnEntryCall.form)) _ _ refl (rw c.deref.ensures.value at c.write_called.ensures) c.end_statement-in-OwnEntryCall.ensures)

pub returns-in-OperationCall : goal.returns-in-OperationCall
returns-in-OperationCall c = rw c.in-OperationCall.is (one_step (entered_code (plain_calling c.in-OperationCall.calling)) _ _ refl (c.write_calling-in-OperationCall.ensures) c.concern.ensures)

pub returns-in-DeclareObject : goal.returns-in-DeclareObject
returns-in-DeclareObject c = rw c.in-DeclareObject.is (one_step (instruction.BeginObject ∷ components_code (plain_values c.in-DeclareObject.components.items)) _ _ refl (rw c.deref-in-DeclareObject.ensures.value at c.write_object.ensures) c.concern-in-DeclareObject.ensures)

pub returns-in-Delay : goal.returns-in-Delay
returns-in-Delay c = rw c.in-Delay.is (one_step (delay_code (plain_delay c.in-Delay.e)) _ _ refl (c.write_delay.ensures) c.concern-in-Delay.ensures)

pub returns-in-Abort : goal.returns-in-Abort
returns-in-Abort c = rw c.in-Abort.is (one_step (names_code (plain_task_names c.in-Abort.tasks.items)) _ _ refl (rw c.deref-in-Abort.ensures.value at c.write_names.ensures) c.concern-in-Abort.ensures)

pub returns-in-Requeue : goal.returns-in-Requeue
returns-in-Requeue c = rw c.in-Requeue.is (rw c.deref-in-Requeue.ensures at c.write_requeue.ensures)
