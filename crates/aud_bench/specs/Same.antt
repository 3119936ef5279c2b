-- When two requests are the same, and when two limits are.
use Rattle.std.specs.Prelude.{Bool, true, false, ◌==◌, ◌&&◌}
use Rattle.std.specs.Str.{bytes_eq}
use Rattle.aud_text.specs.declared.limits.Limits.{Limits}
use Rattle.aud_debug.specs.declared.listing.Listing.{Listing}
use Rattle.aud_debug.specs.declared.listing.Listing.TheVariants.{Moves, Tasks, Queues, Variables, Objects, Waits}
use Rattle.aud_bench.specs.declared.request.Request.{Request}
use Rattle.aud_bench.specs.declared.request.Request.TheVariants.{Load, Reset, Run, Step, Choose, Advance, Clock, List, Output, Seat, Quit, Bad}
use Rattle.aud_bench.specs.declared.request.BadRequest.{BadRequest}
use Rattle.aud_bench.specs.declared.request.BadRequest.TheVariants.{UnknownCommand, BadArgument, LineTooLong, NotAscii}

abbrev pub same_reason : BadRequest → BadRequest → Bool
same_reason UnknownCommand UnknownCommand = true
same_reason BadArgument BadArgument = true
same_reason LineTooLong LineTooLong = true
same_reason NotAscii NotAscii = true
same_reason _ _ = false

abbrev pub same_listing : Listing → Listing → Bool
same_listing Moves Moves = true
same_listing Tasks Tasks = true
same_listing Queues Queues = true
same_listing (Variables task) (Variables other) = task == other
same_listing Objects Objects = true
same_listing Waits Waits = true
same_listing _ _ = false

unfoldable pub same_request : Request → Request → Bool
same_request (Load source) (Load other) = bytes_eq source other
same_request Reset Reset = true
same_request (Run steps) (Run others) = steps == others
same_request (Step move) (Step other) = move == other
same_request (Choose choices) (Choose others) = bytes_eq choices others
same_request (Advance milliseconds) (Advance others) = milliseconds == others
same_request Clock Clock = true
same_request (List listing) (List other) = same_listing listing other
same_request Output Output = true
same_request (Seat number) (Seat other) = number == other
same_request Quit Quit = true
same_request (Bad why) (Bad other) = same_reason why other
same_request _ _ = false

unfoldable pub same_limits : Limits → Limits → Bool
same_limits limits others = (limits.tasks == others.tasks) && (limits.source == others.source)
