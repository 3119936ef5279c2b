-- The faults of a hall, as those of a desk.
use Rattle.aud_hall.specs.declared.fault.HallFault.{HallFault}
use Rattle.aud_hall.specs.declared.fault.HallFault.TheVariants as hall
use Rattle.aud_pass.specs.declared.fault.DeskFault.{DeskFault}
use Rattle.aud_pass.specs.declared.fault.DeskFault.TheVariants.{NoSuchSeat, SeatInUse, Memory, NotClaimed, Full}

abbrev pub of_hall : HallFault → DeskFault
of_hall hall.NoSuchSeat = NoSuchSeat
of_hall hall.SeatInUse = SeatInUse
of_hall hall.NotClaimed = NotClaimed
of_hall hall.Full = Full
of_hall hall.Memory = Memory
