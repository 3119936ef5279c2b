use denote.Param.Send.{param_sync, arg_sync}
use Rattle.aud_desk.proofs.Shared.{desk_sync}
use Rattle.aud_server_tests.proofs.tests.desks.a_parcel_is_kept.Goals as goal

pub kept-told-requires-sync-H : goal.kept-told-requires-sync-H
kept-told-requires-sync-H c = λ κs _. search (desk_sync, param_sync, arg_sync)
