-- A machine may go to another thread. Each lemma stands on those before it, since one search for all of a typed program's trees is too
-- long.
use denote.Param.Send.{IsSend, view_send, sendable}
use Rattle.std.proofs.Crossing.{crosses}
use Rattle.aud_typed.specs.contracts.program.IntegerExpression as integer
use Rattle.aud_typed.specs.contracts.program.BooleanExpression as boolean
use Rattle.aud_typed.specs.contracts.program.TextExpression as words
use Rattle.aud_typed.specs.contracts.program.ValueExpression as value
use Rattle.aud_typed.specs.contracts.program.Argument as argument
use Rattle.aud_typed.specs.contracts.program.Calling as calling
use Rattle.aud_typed.specs.contracts.program.Body as body
use Rattle.aud_typed.specs.contracts.program.Program as program
use Rattle.aud_machine.specs.contracts.machine.Machine as machine
use Rattle.aud_machine.specs.contracts.machine.Machine.TheInside as inside
use Rattle.aud_typed.proofs.program.IntegerExpression.TheLaws.TheKnot.{crosses as integers}
use Rattle.aud_typed.proofs.program.BooleanExpression.TheLaws.TheKnot.{crosses as booleans}
use Rattle.aud_typed.proofs.program.TextExpression.TheLaws.TheKnot.{crosses as texts}
use Rattle.aud_typed.proofs.program.Alternative.TheLaws.TheKnot.{crosses as statements}
use Rattle.aud_code.proofs.sound_code.SoundCode.TheSendSync.{the_send as code_send}
use Rattle.aud_state.proofs.state.State.TheSendSync.{the_send as state_send}

integer_send : IsSend integer.the_row
integer_send = search (crosses, integers, sendable) depth 60 fits 20000

integer_field : IsSend (integer.the_field).row
integer_field = search (crosses, integers, sendable) depth 60 fits 20000

boolean_send : IsSend boolean.the_row
boolean_send = search (crosses, integer_send, integer_field, integers, booleans, sendable) depth 60 fits 20000

boolean_field : IsSend (boolean.the_field).row
boolean_field = search (crosses, integer_send, integer_field, integers, booleans, sendable) depth 60 fits 20000

text_send : IsSend words.the_row
text_send = search (crosses, integer_send, integer_field, boolean_send, boolean_field, integers, booleans, texts, sendable) depth 60 fits 20000

text_field : IsSend (words.the_field).row
text_field = search (crosses, integer_send, integer_field, boolean_send, boolean_field, integers, booleans, texts, sendable) depth 60 fits 20000

value_send : IsSend value.the_row
value_send = search (crosses, integer_send, integer_field, boolean_send, boolean_field, sendable) depth 60 fits 20000

value_field : IsSend (value.the_field).row
value_field = search (crosses, integer_send, integer_field, boolean_send, boolean_field, sendable) depth 60 fits 20000

argument_send : IsSend argument.the_row
argument_send = search (crosses, integer_send, integer_field, boolean_send, boolean_field, value_send, value_field, sendable) depth 60 fits 20000

argument_field : IsSend (argument.the_field).row
argument_field = search (crosses, integer_send, integer_field, boolean_send, boolean_field, value_send, value_field, sendable) depth 60 fits 20000

calling_send : IsSend calling.the_row
calling_send = search (crosses, integer_send, integer_field, boolean_send, boolean_field, argument_send, argument_field, sendable) depth 60 fits 20000

calling_field : IsSend (calling.the_field).row
calling_field = search (crosses, integer_send, integer_field, boolean_send, boolean_field, argument_send, argument_field, sendable) depth 60 fits 20000

body_send : IsSend body.the_row
body_send = search (crosses, integer_send, integer_field, boolean_send, boolean_field, text_send, text_field, value_send, value_field, argument_send, argument_field, calling_send, calling_field, statements, sendable) depth 60 fits 20000

body_field : IsSend (body.the_field).row
body_field = search (crosses, integer_send, integer_field, boolean_send, boolean_field, text_send, text_field, value_send, value_field, argument_send, argument_field, calling_send, calling_field, statements, sendable) depth 60 fits 20000

program_send : IsSend program.the_row
program_send = search (crosses, boolean_send, boolean_field, body_send, body_field, sendable) depth 60 fits 20000

program_field : IsSend (program.the_field).row
program_field = search (crosses, boolean_send, boolean_field, body_send, body_field, program_send, sendable) depth 60 fits 20000

parts : IsSend inside.the_row
parts = search (crosses, program_send, program_field, code_send, state_send, sendable) depth 60 fits 20000

pub machine_send : IsSend machine.the_row
machine_send = view_send inside.the_row _ _ _ _ parts
