use Rattle.std.proofs.Common.{◌≡◌, ◌∙◌, ℕ, List, Option, Some, None, ap, subst}
use Rattle.aud_text.specs.declared.limits.Limits.{Limits}
use Rattle.aud_meaning.specs.Configuration.{Configuration}
use Rattle.aud_machine.specs.Shown.{Shown}
use Rattle.aud_machine.specs.Shows.{Shows}
use Rattle.aud_bench.specs.declared.request.Answer.TheVariants as answer
use Rattle.aud_bench.specs.Alone.{Loaded, output_reply}
use Rattle.aud_bench.specs.Ties.Serving.{IsLoaded}
use Rattle.aud_bench.proofs.service.output.Goals as goal

told_by : (bounds : Limits) (machine : Shown) (loaded : Option Loaded) (bytes : List ℕ) → IsLoaded bounds (Some machine) loaded → ((c : Configuration) → Shows machine c → bytes ≡ c.shared.output) → answer.Output bytes ≡ (output_reply loaded).answer
told_by bounds machine None bytes h shown = absurd h
told_by bounds machine (Some l) bytes h shown = ap answer.Output (shown l.now h.shows)

pub returns-in_ok-from_slice-in-Some : goal.returns-in_ok-from_slice-in-Some
returns-in_ok-from_slice-in-Some c =
    λ bounds loaded holds.
    ap answer.Output c.in_ok-from_slice-in-Some.ensures ∙ told_by bounds c.in-Some.machine loaded c.output.result.now (subst (λ m. IsLoaded bounds m loaded) c.in-Some.is holds) c.output.ensures.shown
