use Rattle.std.proofs.Common.{◌≡◌, ◌++◌, ◌+◌, [], ℕ, List, take, sym, ap, ◌∙◌}
use Rattle.std.proofs.lemmas.Result.{MatchResult-weaker}
use Rattle.aud_text.specs.declared.limits.TheConstants.{LINE}
use Rattle.aud_lines.specs.Ties.Asked.{asked}
use Rattle.aud_lines.specs.Ties.Begun.{requests_behind, IsShort, IsBegun}
use Rattle.aud_lines.specs.Requests.{Whole, Loads, Ready, requests}
use Rattle.aud_lines.proofs.CutLaws.{front_not_ended}
use Rattle.aud_lines.proofs.FeedLaws.{no_request, behind_none, begun_line, line_kept, as_line, none_whole}
use Rattle.aud_lines.proofs.RequestLaws.{requests_first}
use Rattle.aud_lines.proofs.feed.begun.Goals as goal

pub invariant_of-result : goal.invariant_of-result
invariant_of-result c =
    let load = c.new.result in
    let bytes = c.args.bytes.now in
    as_line IsBegun load.missing load.source.items load.fault c.in_ok-line.line.items bytes c.new.ensures.0 c.in_ok-line.ensures (line_kept Ready bytes tt c.in_default.ensures.line)

pub returns-in_default-clause-whole : goal.returns-in_default-clause-whole
returns-in_default-clause-whole c =
    let load = c.new.result in
    let bytes = c.args.bytes.now in
    as_line (λ b. (more : List ℕ) → requests (bytes ++ more) ≡ requests_behind b more) load.missing load.source.items load.fault c.in_ok-line.line.items bytes c.new.ensures.0 c.in_ok-line.ensures
    (begun_line bytes c.in_default.ensures.line)

pub returns-in_default-clause-none : goal.returns-in_default-clause-none
returns-in_default-clause-none c =
    let load = c.new.result in
    let bytes = c.args.bytes.now in
    as_line (λ b. requests_behind b [] ≡ []) load.missing load.source.items load.fault c.in_ok-line.line.items bytes c.new.ensures.0 c.in_ok-line.ensures
    (none_whole (record { reading = Ready; line = take (LINE + 1) bytes }) (front_not_ended (LINE + 1) bytes c.in_default.ensures.line))

pub returns-in_default-clause-held : goal.returns-in_default-clause-held
returns-in_default-clause-held c =
    let load = c.new.result in
    let bytes = c.args.bytes.now in
    as_line IsShort load.missing load.source.items load.fault c.in_ok-line.line.items bytes c.new.ensures.0 c.in_ok-line.ensures (line_kept Ready bytes tt c.in_default.ensures.line).0

pub unreachable-requires : goal.unreachable-requires
unreachable-requires c =
    let bytes = c.args.bytes.now in
    let is = ap asked (sym c.in-Whole.is) ∙ c.in_ok-read_command.ensures in
    no_request requests bytes c.in-Whole.field-0 _ c.requires (requests_first (bytes ++ []) c.in-Some.line.now (c.in-Some.behind.now ++ []) (Whole c.in-Whole.field-0) (c.in-Some.ensures.line []) is)

pub begun_load-requires : goal.begun_load-requires
begun_load-requires c =
    let is = ap asked (sym c.in-Loads.is) ∙ c.in_ok-read_command.ensures in
    behind_none c.args.bytes.now c.in-Some.line.now c.in-Some.behind.now c.in-Loads.lines c.in-Some.ensures.line is c.requires

pub returns-clause-whole : goal.returns-clause-whole
returns-clause-whole c =
    let bytes = c.args.bytes.now in
    let behind = c.in-Some.behind.now in
    let is = ap asked (sym c.in-Loads.is) ∙ c.in_ok-read_command.ensures in
    MatchResult-weaker c.begun_load.result c.begun_load.ensures.whole
    (λ feed same more. requests_first (bytes ++ more) c.in-Some.line.now (behind ++ more) (Loads c.in-Loads.lines) (c.in-Some.ensures.line more) is ∙ same more)
    (λ e none. none)
