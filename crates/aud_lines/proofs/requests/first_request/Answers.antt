use Rattle.std.proofs.Common.{ℕ, List, ◌++◌, sym, ap, ◌∙◌}
use Rattle.std.proofs.lemmas.Result.{MatchResult-weaker}
use Rattle.aud_lines.specs.Requests.{Whole, Loads, requests}
use Rattle.aud_lines.specs.Ties.Asked.{asked}
use Rattle.aud_lines.proofs.RequestLaws.{requests_none, requests_first, load_first}
use Rattle.aud_lines.proofs.requests.first_request.Goals as goal

pub returns-in_default-clause-first : goal.returns-in_default-clause-first
returns-in_default-clause-first c = requests_none c.args.bytes.now c.in_default.ensures.line

pub returns-in-Whole-clause-first : goal.returns-in-Whole-clause-first
unfolding requests
returns-in-Whole-clause-first c =
    let bytes = c.args.bytes.now in
    let behind = c.in-Some.behind.now in
    let is = ap asked (sym c.in-Whole.is) ∙ c.in_ok-request.ensures in
    λ more. requests_first (bytes ++ more) c.in-Some.line.now (behind ++ more) (Whole c.in-Whole.request) (c.in-Some.ensures.line more) is

pub returns-in-Loads-clause-first : goal.returns-in-Loads-clause-first
returns-in-Loads-clause-first c =
    let bytes = c.args.bytes.now in
    let behind = c.in-Some.behind.now in
    let is = ap asked (sym c.in-Loads.is) ∙ c.in_ok-request.ensures in
    let first = λ (more : List ℕ). requests_first (bytes ++ more) c.in-Some.line.now (behind ++ more) (Loads c.in-Loads.lines) (c.in-Some.ensures.line more) is in
    MatchResult-weaker c.load.result c.load.ensures.first (λ found. load_first found (λ f. f.0) (λ f. f.1.now) bytes behind c.in-Loads.lines first) (λ e none. none)
