-- Tasks that leave masters.
use Rattle.std.specs.Prelude.{ℕ, Option, Some, None, Bool, true}
use Rattle.aud_meaning.specs.Configuration.{Own, All}
use Rattle.aud_meaning.specs.Control.{Coming, simply, ending, selecting, calling, starting}
use Rattle.aud_meaning.specs.Parts.{Closable}
use Rattle.aud_meaning.specs.Run.{construct_left, master_left_by}
use Rattle.aud_code.specs.Places.{Spot}

-- nothing keeps this master from being left, if there is one (RM 9.3(5))
abbrev pub may_leave : Option ℕ → All Spot → Bool
may_leave None c = true
may_leave (Some master) c = Closable master c

-- nothing keeps the master from being left that a task leaves by what comes next of it, if it leaves one
abbrev pub leaves_freely : Own → Coming → All Spot → Bool
leaves_freely own (simply w) c = true
leaves_freely own ending c = may_leave (master_left_by (construct_left own)) c
leaves_freely own (selecting ones) c = true
leaves_freely own (calling task entry) c = true
leaves_freely own (starting object reading) c = true
