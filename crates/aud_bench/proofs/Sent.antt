-- A bench may go to another thread.
use denote.RattleType.{RattleType}
use denote.Hole.{as_row}
use denote.Struct.Field.{usize-field, bool-field}
use denote.Param.Send.{IsSend, view_send, sendable}
use denote.Param.SendFields.{declared_send}
use Rattle.std.proofs.Crossing.{Vec-send}
use Rattle.std.proofs.option.Option.TheSendSync.{the_send, the_field_send}
use Rattle.std.specs.contracts.option.Option as option
use Rattle.aud_machine.specs.contracts.machine.Machine as machine
use Rattle.aud_machine.proofs.Sent.{machine_send}
use Rattle.aud_bench.specs.contracts.request.Request as request
use Rattle.aud_bench.specs.contracts.request.Answer as answer
use Rattle.aud_bench.specs.contracts.bench.Bench as bench
use Rattle.aud_bench.specs.contracts.bench.Bench.TheInside as inside
use Rattle.aud_bench.proofs.request.Request.TheSendSync.{the_send as request_send}
use Rattle.aud_bench.proofs.request.Answer.TheSendSync.{the_send as answer_send}

-- an option may go where its value may
pub option_send : (R : RattleType) → IsSend R → IsSend (as_row (option.the_field R))
option_send R s = search (the_send, the_field_send, s, sendable) depth 60 fits 20000

pub size_send : IsSend (as_row usize-field)
size_send = search sendable

pub bool_send : IsSend (as_row bool-field)
bool_send = search sendable

parts : IsSend machine.the_row → IsSend inside.the_row
parts inner = declared_send inside.the_type (search sendable, (Vec-send request.the_row request_send, (size_send, (Vec-send answer.the_row answer_send, (size_send, (size_send, (option_send machine.the_row inner, (search sendable, (bool_send, (bool_send, tt))))))))))

pub bench_send : IsSend bench.the_row
bench_send = view_send inside.the_row _ _ _ _ (parts machine_send)
