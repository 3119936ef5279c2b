use denote.Param.Send.{param_sync, arg_sync}
use Rattle.aud_desk.proofs.Shared.{desk_sync}
use Rattle.aud_server_tests.proofs.tests.desks.a_slice_of_one_seat_is_held.Goals as goal

pub held-told-requires-sync-H : goal.held-told-requires-sync-H
held-told-requires-sync-H c = λ κs _. search (desk_sync, param_sync, arg_sync)
