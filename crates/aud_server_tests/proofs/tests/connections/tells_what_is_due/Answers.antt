use denote.Param.Send.{param_sync, arg_sync}
use Rattle.aud_desk.proofs.Shared.{desk_sync}
use Rattle.aud_server_tests.proofs.tests.connections.tells_what_is_due.Goals as goal

pub at_desk-told-requires-sync-H : goal.at_desk-told-requires-sync-H
at_desk-told-requires-sync-H c = λ κs _. search (desk_sync, param_sync, arg_sync)
