use Rattle.std.proofs.Common.{◌≡◌, ◌++◌, ◌+◌, ◌<◌, [], ℕ, List, take, sym, ap, ◌∙◌, subst, arith}
use Rattle.aud_text.specs.declared.limits.TheConstants.{LINE, REQUEST_BYTES}
use Rattle.aud_bench.specs.declared.request.Request.{Request}
use Rattle.aud_lines.specs.Lines.{lines_of}
use Rattle.aud_lines.specs.Requests.{Gathering, gathered, requests_from, requests}
use Rattle.aud_lines.specs.Ties.Begun.{Begun, reading_of, IsShort, IsBegun}
use Rattle.aud_lines.specs.Ties.Splits.{Splits}
use Rattle.aud_lines.proofs.CutLaws.{both_not_ended}
use Rattle.aud_lines.proofs.FeedLaws.{load_goes_on, load_ends, line_goes_on, line_longer, line_kept, load_kept, as_load, as_under_way, as_ready}
use Rattle.aud_lines.proofs.feed.Feed.feed.Goals as goal

-- ---- no line has ended

pub invariant_of-self-in_default : goal.invariant_of-self-in_default
invariant_of-self-in_default c =
    let load = c.self.inside.load in
    let line = c.self.inside.line.items in
    let bytes = c.args.bytes.now in
    let reading = reading_of load.missing load.source.items load.fault in
    subst (λ l. IsBegun (record { reading = reading; line = l })) (sym c.in_ok-lengthen.ensures.longer)
    (line_kept reading (line ++ bytes) c.self.invariant.0.0 (both_not_ended line bytes c.self.invariant.1 c.in_default.ensures.line))

pub returns-in_default-clause-given : goal.returns-in_default-clause-given
returns-in_default-clause-given c =
    let load = c.self.inside.load in
    let line = c.self.inside.line.items in
    let bytes = c.args.bytes.now in
    let reading = reading_of load.missing load.source.items load.fault in
    let old : Begun = record { reading = reading; line = line } in
    let new : Begun = record { reading = reading; line = c.lengthen.new.bytes.items } in
    let longer = line_longer old bytes c.self.invariant.1 c.in_default.ensures.line in
    let kept = subst (λ l. Splits old bytes [] (record { reading = reading; line = l })) (sym c.in_ok-lengthen.ensures.longer) longer in
    subst (λ begun. Splits begun bytes c.new.result.items new) c.self.view_is (subst (λ (given : List Request). Splits old bytes given new) (sym c.new.ensures.items) kept)

pub returns-in_default-clause-held : goal.returns-in_default-clause-held
returns-in_default-clause-held c =
    let load = c.self.inside.load in
    let line = c.self.inside.line.items in
    let bytes = c.args.bytes.now in
    let reading = reading_of load.missing load.source.items load.fault in
    subst (λ l. IsShort (record { reading = reading; line = l })) (sym c.in_ok-lengthen.ensures.longer)
    (line_kept reading (line ++ bytes) c.self.invariant.0.0 (both_not_ended line bytes c.self.invariant.1 c.in_default.ensures.line)).0

-- ---- no LOAD is under way

pub returns-then-self-eq0-clause-given : goal.returns-then-self-eq0-clause-given
returns-then-self-eq0-clause-given c =
    let load = c.self.inside.load in
    let line = c.self.inside.line.items in
    let bytes = c.args.bytes.now in
    let given = c.in_ok-requests.requests.items in
    let next = c.in_ok-requests.next in
    let stream = c.deref-then-self-eq0.ensures.value ∙ c.in_ok-extend_from_slice.ensures.items ∙ ap (λ xs. xs ++ bytes) (c.in_ok-stream.ensures.items ∙ c.deref.ensures.value) in
    let split = line_goes_on line bytes given next
    (λ more.
    sym (ap (λ first. first ++ requests (c.deref-then-self-eq0.result.now ++ more)) c.new-then-self-eq0.ensures.items ∙ ap (λ s. requests (s ++ more)) stream)
    ∙ c.in_ok-requests.ensures.whole more)
    c.in_ok-requests.ensures.none in
    subst (λ begun. Splits c.args.self.now bytes given begun) (sym c.drop.view_is)
    (subst (λ begun. Splits begun bytes given next) c.self.view_is
    (as_ready (λ begun. Splits begun bytes given next) load.missing load.source.items load.fault line c.if-self-eq0.true split))

-- ---- a LOAD is whole

pub returns-then-further-eq0-clause-given : goal.returns-then-further-eq0-clause-given
returns-then-further-eq0-clause-given c =
    let load = c.self.inside.load in
    let line = c.self.inside.line.items in
    let bytes = c.args.bytes.now in
    let further = c.in_ok-further.field-0.load in
    let rest = c.in_ok-further.field-0.rest.now in
    let given = c.in_ok-requests-2.requests.items in
    let next = c.in_ok-requests-2.next in
    let stream = c.deref-2.ensures.value ∙ c.in_ok-extend_from_slice.ensures.items ∙ ap (λ xs. xs ++ bytes) (c.in_ok-stream.ensures.items ∙ c.deref.ensures.value) in
    let some : 0 < load.missing = omega (arith, c.if-self-eq0.false) in
    let whole = subst
    (λ s. (before more : List ℕ) → gathered load.missing before load.fault (requests_from (lines_of (s ++ more))) ≡ gathered further.missing (before ++ further.source.items) further.fault (requests_from (lines_of (rest ++ more))))
    stream c.in_ok-further.ensures.whole in
    let split = load_ends load.missing load.source.items load.fault line bytes further.missing further.source.items further.fault rest some whole c.if-further-eq0.true given next
    (λ more. sym (ap (λ first. first ++ requests (rest ++ more)) c.in_ok-first.ensures) ∙ c.in_ok-requests-2.ensures.whole more)
    c.in_ok-requests-2.ensures.none in
    subst (λ begun. Splits c.args.self.now bytes given begun) (sym c.drop-then-further-eq0.view_is)
    (subst (λ begun. Splits begun bytes given next) c.self.view_is
    (as_under_way (λ begun. Splits begun bytes given next) load.missing load.source.items load.fault line some split))

-- ---- a LOAD goes on

pub invariant_of-self-2 : goal.invariant_of-self-2
invariant_of-self-2 c =
    let load = c.self.inside.load in
    let further = c.in_ok-further.field-0.load in
    let rest = c.in_ok-further.field-0.rest.now in
    let longer = c.in_ok-lengthen-2.ensures.longer ∙ ap (λ xs. take (REQUEST_BYTES + 1) (load.source.items ++ xs)) c.deref-3.ensures.value in
    let some : 0 < further.missing = omega (arith, c.if-further-eq0.false) in
    as_load IsBegun further.missing c.lengthen-2.new.bytes.items (load.source.items ++ further.source.items) further.fault c.in_ok-line.line.items rest some longer c.in_ok-line.ensures
    (load_kept further.missing (load.source.items ++ further.source.items) further.fault rest (c.in_ok-further.ensures.ended some))

pub returns-clause-given : goal.returns-clause-given
returns-clause-given c =
    let load = c.self.inside.load in
    let line = c.self.inside.line.items in
    let bytes = c.args.bytes.now in
    let further = c.in_ok-further.field-0.load in
    let rest = c.in_ok-further.field-0.rest.now in
    let longer = c.in_ok-lengthen-2.ensures.longer ∙ ap (λ xs. take (REQUEST_BYTES + 1) (load.source.items ++ xs)) c.deref-3.ensures.value in
    let kept = c.lengthen-2.new.bytes.items in
    let kept_line = c.in_ok-line.line.items in
    let stream = c.deref-2.ensures.value ∙ c.in_ok-extend_from_slice.ensures.items ∙ ap (λ xs. xs ++ bytes) (c.in_ok-stream.ensures.items ∙ c.deref.ensures.value) in
    let under_way : 0 < load.missing = omega (arith, c.if-self-eq0.false) in
    let some : 0 < further.missing = omega (arith, c.if-further-eq0.false) in
    let whole = subst
    (λ s. (before more : List ℕ) → gathered load.missing before load.fault (requests_from (lines_of (s ++ more))) ≡ gathered further.missing (before ++ further.source.items) further.fault (requests_from (lines_of (rest ++ more))))
    stream c.in_ok-further.ensures.whole in
    let old : Begun = record { reading = reading_of load.missing load.source.items load.fault; line = line } in
    let new : Begun = record { reading = reading_of further.missing kept further.fault; line = kept_line } in
    let short : Begun = record { reading = Gathering further.missing (take (REQUEST_BYTES + 1) (load.source.items ++ further.source.items)) further.fault; line = take (LINE + 1) rest } in
    let split = as_load (λ begun. Splits old bytes [] begun) further.missing kept (load.source.items ++ further.source.items) further.fault kept_line rest some longer c.in_ok-line.ensures
    (as_under_way (λ begun. Splits begun bytes [] short) load.missing load.source.items load.fault line under_way
    (load_goes_on load.missing load.source.items load.fault line bytes further.missing further.source.items further.fault rest under_way whole some (c.in_ok-further.ensures.ended some))) in
    subst (λ begun. Splits begun bytes c.new-2.result.items new) c.self.view_is (subst (λ (given : List Request). Splits old bytes given new) (sym c.new-2.ensures.items) split)

pub returns-clause-held : goal.returns-clause-held
returns-clause-held c =
    let load = c.self.inside.load in
    let further = c.in_ok-further.field-0.load in
    let rest = c.in_ok-further.field-0.rest.now in
    let longer = c.in_ok-lengthen-2.ensures.longer ∙ ap (λ xs. take (REQUEST_BYTES + 1) (load.source.items ++ xs)) c.deref-3.ensures.value in
    let some : 0 < further.missing = omega (arith, c.if-further-eq0.false) in
    as_load IsShort further.missing c.lengthen-2.new.bytes.items (load.source.items ++ further.source.items) further.fault c.in_ok-line.line.items rest some longer c.in_ok-line.ensures
    (load_kept further.missing (load.source.items ++ further.source.items) further.fault rest (c.in_ok-further.ensures.ended some)).0
