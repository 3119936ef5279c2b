use Rattle.std.proofs.Common.{◌≡◌, ◌++◌, [], ℕ, List, take, ◌+◌}
use Rattle.aud_text.specs.declared.limits.TheConstants.{LINE, REQUEST_BYTES}
use Rattle.aud_lines.specs.Ties.Asked.{load_requests}
use Rattle.aud_lines.specs.Ties.Begun.{requests_behind, IsShort, IsBegun}
use Rattle.aud_lines.specs.Requests.{Gathering}
use Rattle.aud_lines.proofs.CutLaws.{front_not_ended}
use Rattle.aud_lines.proofs.FeedLaws.{some_missing, load_begun, load_kept, as_load, none_whole}
use Rattle.aud_lines.proofs.feed.begun_load.Goals as goal

pub invariant_of-result : goal.invariant_of-result
invariant_of-result c =
    let load = c.in_ok-load.field-0.load in
    let rest = c.in_ok-load.field-0.rest.now in
    let some = some_missing c.args.lines load.missing load.source.items load.fault c.args.bytes.now rest c.in_ok-load.ensures.whole c.requires in
    as_load IsBegun load.missing c.truncate.new.self.items load.source.items load.fault c.in_ok-line.line.items rest some c.truncate.ensures.items c.in_ok-line.ensures
    (load_kept load.missing load.source.items load.fault rest (c.in_ok-load.ensures.ended some))

pub returns-clause-whole : goal.returns-clause-whole
returns-clause-whole c =
    let load = c.in_ok-load.field-0.load in
    let rest = c.in_ok-load.field-0.rest.now in
    let whole = c.in_ok-load.ensures.whole in
    let some = some_missing c.args.lines load.missing load.source.items load.fault c.args.bytes.now rest whole c.requires in
    as_load (λ b. (more : List ℕ) → load_requests c.args.lines (c.args.bytes.now ++ more) ≡ requests_behind b more)
    load.missing c.truncate.new.self.items load.source.items load.fault c.in_ok-line.line.items rest some c.truncate.ensures.items c.in_ok-line.ensures
    (load_begun c.args.lines load.missing load.source.items load.fault c.args.bytes.now rest whole some (c.in_ok-load.ensures.ended some))

pub returns-clause-none : goal.returns-clause-none
returns-clause-none c =
    let load = c.in_ok-load.field-0.load in
    let rest = c.in_ok-load.field-0.rest.now in
    let some = some_missing c.args.lines load.missing load.source.items load.fault c.args.bytes.now rest c.in_ok-load.ensures.whole c.requires in
    as_load (λ b. requests_behind b [] ≡ []) load.missing c.truncate.new.self.items load.source.items load.fault c.in_ok-line.line.items rest some c.truncate.ensures.items c.in_ok-line.ensures
    (none_whole (record { reading = Gathering load.missing (take (REQUEST_BYTES + 1) load.source.items) load.fault; line = take (LINE + 1) rest }) (front_not_ended (LINE + 1) rest (c.in_ok-load.ensures.ended some)))

pub returns-clause-held : goal.returns-clause-held
returns-clause-held c =
    let load = c.in_ok-load.field-0.load in
    let rest = c.in_ok-load.field-0.rest.now in
    let some = some_missing c.args.lines load.missing load.source.items load.fault c.args.bytes.now rest c.in_ok-load.ensures.whole c.requires in
    as_load IsShort load.missing c.truncate.new.self.items load.source.items load.fault c.in_ok-line.line.items rest some c.truncate.ensures.items c.in_ok-line.ensures
    (load_kept load.missing load.source.items load.fault rest (c.in_ok-load.ensures.ended some)).0
