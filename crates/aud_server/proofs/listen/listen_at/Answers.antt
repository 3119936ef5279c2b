use denote.Param.Send.{param_send, param_sync, arg_sync}
use Rattle.aud_desk.proofs.Shared.{desk_sync}
use Rattle.aud_server.proofs.listen.listen_at.Goals as goal

pub host_all-requires-sync-H : goal.host_all-requires-sync-H
host_all-requires-sync-H g c = λ κs _. search (desk_sync, param_send, param_sync, arg_sync)
