-- A parcel and a hall may go to another thread.
use denote.Param.Send.{IsSend, view_send, sendable}
use denote.Param.SendFields.{declared_send}
use Rattle.std.proofs.Crossing.{Box-send, Vec-send}
use Rattle.aud_text.specs.contracts.limits.Limits as limits
use Rattle.aud_bench.specs.contracts.request.Request as request
use Rattle.aud_bench.specs.contracts.request.Answer as answer
use Rattle.aud_bench.specs.contracts.bench.Bench as bench
use Rattle.aud_bench.proofs.request.Request.TheSendSync.{the_send as request_send}
use Rattle.aud_bench.proofs.request.Answer.TheSendSync.{the_send as answer_send}
use Rattle.aud_bench.proofs.Sent.{option_send, size_send, bool_send, bench_send}
use Rattle.aud_hall.specs.contracts.parcel.Parcel as parcel
use Rattle.aud_hall.specs.contracts.parcel.Parcel.TheInside as parcel_inside
use Rattle.aud_hall.specs.contracts.seat.Seat as seat
use Rattle.aud_hall.specs.contracts.seat.Seat.TheInside as seat_inside
use Rattle.aud_hall.specs.contracts.place.Place as place
use Rattle.aud_hall.specs.contracts.place.Place.TheInside as place_inside
use Rattle.aud_hall.specs.contracts.hall.Hall as hall
use Rattle.aud_hall.specs.contracts.hall.Hall.TheInside as hall_inside

parcel_parts : IsSend bench.the_row → IsSend parcel_inside.the_row
parcel_parts inner = declared_send parcel_inside.the_type (size_send, (Box-send bench.the_row inner, tt))

pub parcel_send : IsSend parcel.the_row
parcel_send = view_send parcel_inside.the_row _ _ _ _ (parcel_parts bench_send)

seat_parts : IsSend bench.the_row → IsSend seat_inside.the_row
seat_parts inner = declared_send seat_inside.the_type (Vec-send request.the_row request_send, (size_send, (bool_send, (Vec-send answer.the_row answer_send, (option_send _ (Box-send bench.the_row inner), tt)))))

seat_send : IsSend seat.the_row
seat_send = view_send seat_inside.the_row _ _ _ _ (seat_parts bench_send)

place_parts : IsSend seat.the_row → IsSend place_inside.the_row
place_parts inner = declared_send place_inside.the_type (search sendable, (option_send seat.the_row inner, tt))

place_send : IsSend place.the_row
place_send = view_send place_inside.the_row _ _ _ _ (place_parts seat_send)

hall_parts : IsSend place.the_row → IsSend hall_inside.the_row
hall_parts inner = declared_send hall_inside.the_type (Vec-send limits.the_row (search sendable), (Vec-send place.the_row inner, tt))

pub hall_send : IsSend hall.the_row
hall_send = view_send hall_inside.the_row _ _ _ _ (hall_parts place_send)
