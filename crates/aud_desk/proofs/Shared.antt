-- A desk may be shared by threads.
use denote.RattleType.{RattleType}
use denote.Param.Send.{IsSend, IsSync, struct_send, struct_sync, array_sync, recorded_send, recorded_sync, sendable}
use denote.Struct.Declared.{shape}
use Rattle.std.specs.contracts.alloc.Global as global
use Rattle.std.specs.contracts.impls.GlobalAllocator.TheImpl.{ghosts}
use Rattle.std.specs.contracts.option.Option as option
use Rattle.std.specs.contracts.sync.Condvar as condvar
use Rattle.crossbeam_channel.specs.contracts.channel.Sender as sender
use Rattle.std.proofs.alloc.Global.TheSendSync.{the_send as global_send, the_sync as global_sync}
use Rattle.std.below.std_heap.proofs.GlobalAllocator.TheSendSync.{the_frees}
use Rattle.std.proofs.option.Option.TheSendSync.{the_send as option_send}
use Rattle.std.proofs.sync.Condvar.TheSendSync.{the_sync as condvar_sync}
use Rattle.std.proofs.sync.Mutex.TheSendSync.{the_sync as mutex_sync}
use Rattle.crossbeam_channel.proofs.channel.Sender.TheSendSync.{the_send as sender_send}
use Rattle.crossbeam_channel.proofs.channel.Receiver.TheSendSync.{the_sync as receiver_sync}
use Rattle.aud_hall.specs.contracts.parcel.Parcel as parcel
use Rattle.aud_hall.specs.contracts.hall.Hall as hall
use Rattle.aud_hall.proofs.Sent.{parcel_send, hall_send}
use Rattle.aud_desk.specs.declared.seating.Seating.{Ghosts}
use Rattle.aud_desk.specs.contracts.seating.Seated as seated
use Rattle.aud_desk.specs.contracts.desk.Desk as desk

-- of any seats
module _ (T : RattleType) (seats : Ghosts T.Denot) (marks : IsSend T) where
  module _ (whole : IsSend hall.the_row) (part : IsSend parcel.the_row) where
    seated_send : IsSend (seated.the_row T seats)
    seated_send = recorded_send (seated.the_field T seats).row _ _ (seated.the_type T seats).to_one (struct_send (shape (seated.the_type T seats)) (whole, (search sendable, tt)))

    sender_of : IsSend (sender.the_row parcel.the_row global.the_row ghosts)
    sender_of = sender_send parcel.the_row global.the_row ghosts part global_send global_sync the_frees

    fields_sync : IsSync (desk.the_field T seats).row
    fields_sync =
        struct_sync (shape (desk.the_type T seats)) (
          mutex_sync (seated.the_row T seats) seated_send,
          (
            mutex_sync (option.the_row (sender.the_row parcel.the_row global.the_row ghosts)) (option_send (sender.the_row parcel.the_row global.the_row ghosts) sender_of),
            (
              receiver_sync parcel.the_row global.the_row ghosts part global_send global_sync the_frees,
              (array_sync condvar.the_row 64 condvar_sync, tt),
            ),
          ),
        )

    desk_of : IsSync (desk.the_row T seats)
    desk_of = recorded_sync (desk.the_field T seats).row _ _ (desk.the_type T seats).to_one fields_sync

  pub desk_sync : IsSync (desk.the_row T seats)
  desk_sync = desk_of hall_send parcel_send
