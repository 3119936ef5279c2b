-- How many bytes a request takes in the journal: its text with single spaces, no leading zeros, and line feeds.
use Rattle.std.specs.Prelude.{ℕ, ◌+◌, List, [], ◌∷◌, length, sum_by}
use Rattle.std.specs.Fmt.{decimal}
use Rattle.aud_text.specs.Lines.{line_count}
use Rattle.aud_debug.specs.declared.listing.Listing.{Listing}
use Rattle.aud_debug.specs.declared.listing.Listing.TheVariants.{Moves, Tasks, Queues, Variables, Objects, Waits}
use Rattle.aud_bench.specs.declared.request.Request.{Request}
use Rattle.aud_bench.specs.declared.request.Request.TheVariants as request

-- numbers, with a space before each
abbrev pub numbers_size : List ℕ → ℕ
numbers_size numbers = sum_by (λ n. 1 + length (decimal n)) numbers

abbrev pub listing_size : Listing → ℕ
listing_size Moves = 6
listing_size Tasks = 6
listing_size Queues = 7
listing_size (Variables task) = 6 + length (decimal task)
listing_size Objects = 8
listing_size Waits = 6

abbrev pub size : Request → ℕ
size (request.Load source) = 6 + length (decimal (line_count source)) + length source
size request.Reset = 6
size (request.Run steps) = 5 + length (decimal steps)
size (request.Step move) = 6 + length (decimal move)
size (request.Choose choices) = 7 + numbers_size choices
size (request.Advance milliseconds) = 9 + length (decimal milliseconds)
size request.Clock = 6
size (request.List listing) = listing_size listing
size request.Output = 7
size (request.Seat number) = 6 + length (decimal number)
size request.Quit = 5
size (request.Bad why) = 1

-- the bytes of all requests
abbrev pub bytes_of : List Request → ℕ
bytes_of [] = 0
bytes_of (r ∷ rs) = size r + bytes_of rs
