use denote.Param.Send.{param_sync, arg_sync}
use Rattle.aud_desk.proofs.Shared.{desk_sync}
use Rattle.aud_server_tests.proofs.tests.connections.quits_where_it_ends.Goals as goal

pub leaves-left-requires-sync-H : goal.leaves-left-requires-sync-H
leaves-left-requires-sync-H c = λ κs _. search (desk_sync, param_sync, arg_sync)
