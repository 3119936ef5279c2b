-- The rows compute.
use Rattle.std.specs.Fmt.{digits}
use Rattle.std.proofs.Common.{refl}
use Rattle.aud_bench.specs.Alone.{cost, made}
use Rattle.aud_bench.specs.Same.{same_request, same_limits}
use Rattle.aud_worlds.specs.Why.Rows.{Rows}

pub rows : Rows
unfolding cost made same_request same_limits digits
rows = record {
  at_another_seat = refl;
  two_seats = refl;
  two_programs = refl;
  of_the_session_before = refl;
  fewer_answers = refl;
  at_nobodys = refl;
  taken_out_elsewhere = refl;
  with_other_limits = refl;
  beside_others = ((refl, refl), (refl, refl));
  out_of_memory_within = refl;
  out_of_memory_giving = refl;
  first_session = refl;
  second_session = refl;
  second_part = refl;
}
