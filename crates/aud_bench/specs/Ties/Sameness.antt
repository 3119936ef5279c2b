-- The test of sameness holds of equal requests alone.
use Rattle.std.specs.Prelude.{◌==◌}
use Rattle.std.specs.Cmp.{IsEquivalence, both_ways}
use Rattle.std.specs.Cmp.Lexicographic.{bytes_decides}
use Rattle.std.proofs.Common.{◌≡◌, ℕ, true, refl, ap, ◌∙◌, arith}
use Rattle.aud_bench.specs.declared.request.Request.{Request}
use Rattle.aud_debug.specs.declared.listing.Listing.{Listing}
use Rattle.aud_debug.specs.declared.listing.Listing.TheVariants.{Moves, Tasks, Queues, Variables, Objects, Waits}
use Rattle.aud_bench.specs.declared.request.Request.TheVariants.{Load, Reset, Run, Step, Choose, Advance, Clock, List, Output, Seat, Quit, Bad}
use Rattle.aud_bench.specs.declared.request.BadRequest.{BadRequest}
use Rattle.aud_bench.specs.declared.request.BadRequest.TheVariants.{UnknownCommand, BadArgument, LineTooLong, NotAscii}
use Rattle.aud_bench.specs.Same.{same_reason, same_listing, same_request}

pub eq_true : (a b : ℕ) → (a == b) ≡ true → a ≡ b
eq_true a b h = grind (arith, h)

pub eq_self : (n : ℕ) → (n == n) ≡ true
eq_self n = grind arith

reason_is : (a b : BadRequest) → same_reason a b ≡ true → a ≡ b
reason_is UnknownCommand UnknownCommand h = refl
reason_is BadArgument BadArgument h = refl
reason_is LineTooLong LineTooLong h = refl
reason_is NotAscii NotAscii h = refl
reason_is _ _ h = absurd (cc)

reason_self : (a : BadRequest) → same_reason a a ≡ true
reason_self UnknownCommand = refl
reason_self BadArgument = refl
reason_self LineTooLong = refl
reason_self NotAscii = refl

listing_is : (a b : Listing) → same_listing a b ≡ true → a ≡ b
listing_is Moves Moves h = refl
listing_is Tasks Tasks h = refl
listing_is Queues Queues h = refl
listing_is (Variables task) (Variables other) h = ap Variables (eq_true task other h)
listing_is Objects Objects h = refl
listing_is Waits Waits h = refl
listing_is _ _ h = absurd (cc)

listing_self : (a : Listing) → same_listing a a ≡ true
listing_self Moves = refl
listing_self Tasks = refl
listing_self Queues = refl
listing_self (Variables task) = eq_self task
listing_self Objects = refl
listing_self Waits = refl

pub same_is : (x y : Request) → same_request x y ≡ true → x ≡ y
unfolding same_request
same_is (Load source) (Load other) h = ap Load ((bytes_decides source other).0 h)
same_is Reset Reset h = refl
same_is (Run steps) (Run other) h = ap Run (eq_true steps other h)
same_is (Step move) (Step other) h = ap Step (eq_true move other h)
same_is (Choose choices) (Choose other) h = ap Choose ((bytes_decides choices other).0 h)
same_is (Advance milliseconds) (Advance other) h = ap Advance (eq_true milliseconds other h)
same_is Clock Clock h = refl
same_is (List listing) (List other) h = ap List (listing_is listing other h)
same_is Output Output h = refl
same_is (Seat number) (Seat other) h = ap Seat (eq_true number other h)
same_is Quit Quit h = refl
same_is (Bad why) (Bad other) h = ap Bad (reason_is why other h)
same_is _ _ h = absurd (cc)

pub same_self : (x : Request) → same_request x x ≡ true
unfolding same_request
same_self (Load source) = (bytes_decides source source).1 refl
same_self Reset = refl
same_self (Run steps) = eq_self steps
same_self (Step move) = eq_self move
same_self (Choose choices) = (bytes_decides choices choices).1 refl
same_self (Advance milliseconds) = eq_self milliseconds
same_self Clock = refl
same_self (List listing) = listing_self listing
same_self Output = refl
same_self (Seat number) = eq_self number
same_self Quit = refl
same_self (Bad why) = reason_self why

turned : (x y : Request) → same_request x y ≡ true → same_request y x ≡ true
turned x y e = ap (same_request y) (same_is x y e) ∙ same_self y

-- the sameness of requests is an equivalence
pub same_requests : IsEquivalence same_request
same_requests = record {
  refl = same_self;
  symm = λ x y. both_ways (same_request x y) (same_request y x) (turned x y) (turned y x);
  congr = λ x y z e. ap (λ r. same_request r z) (same_is x y e);
}
