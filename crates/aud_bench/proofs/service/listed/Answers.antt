use Rattle.std.proofs.Common.{◌≡◌, ◌∙◌, Option, Some, None, ap, subst}
use Rattle.aud_text.specs.declared.limits.Limits.{Limits}
use Rattle.aud_meaning.specs.Listings.{view}
use Rattle.aud_machine.specs.Shown.{Shown, program_in}
use Rattle.aud_machine.specs.Shows.{IfShows}
use Rattle.aud_debug.specs.declared.lines.Lines.{Lines}
use Rattle.aud_debug.specs.declared.listing.Listing.{Listing}
use Rattle.aud_debug.specs.Listed.{listed}
use Rattle.aud_bench.specs.declared.request.Answer.{Answer}
use Rattle.aud_bench.specs.Alone.{Loaded, list_reply, listed_reply}
use Rattle.aud_bench.specs.Ties.Serving.{IsLoaded}
use Rattle.aud_bench.proofs.service.listed.Goals as goal

told_by : (bounds : Limits) (machine : Shown) (loaded : Option Loaded) (listing : Listing) (lines : Option Lines) (answer : Answer) → IsLoaded bounds (Some machine) loaded
    → IfShows machine (λ c. lines ≡ listed listing (view (program_in machine) c)) → ((l : Loaded) → answer ≡ (listed_reply lines l).answer) → answer ≡ (list_reply listing loaded).answer
told_by bounds machine None listing lines answer h shown told = absurd h
told_by bounds machine (Some l) listing lines answer h shown told =
    told l ∙ ap (λ (o : Option Lines). (listed_reply o l).answer) (shown l.now h.shows ∙ ap (λ program. listed listing (view program l.now)) h.program_is)

pub returns-in_ok-list-in-Some : goal.returns-in_ok-list-in-Some
returns-in_ok-list-in-Some c =
    λ bounds loaded holds.
    told_by bounds c.in-Some.machine loaded c.args.listing c.in_ok-list-in-Some.field-0 c.with_lines.result (subst (λ m. IsLoaded bounds m loaded) c.in-Some.is holds) c.in_ok-list-in-Some.ensures.shown c.with_lines.ensures
