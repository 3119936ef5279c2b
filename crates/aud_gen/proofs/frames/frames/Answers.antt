use Rattle.std.proofs.Common.{◌≡◌, ◌≤◌, ◌+◌, ◌∷◌, ◌∙◌, ℕ, List, length, drop, get_or, map, sym, subst, arith}
use Rattle.std.proofs.lemmas.List.{drop_all, drop_more, length-map}
use Rattle.aud_code.specs.View.{plain_line}
use Rattle.aud_layout.specs.Opened.{next_start, BodiesCount}
use Rattle.aud_gen.specs.Opening.{level_in, AreOrdered}
use Rattle.aud_gen.proofs.Loops.{dropped}
use Rattle.aud_gen.proofs.Openings.{next_of, from_next, ordered_next, next_within, Counts_left, one_body, last_body}
use Rattle.aud_gen.proofs.frames.frames.Goals as goal
use Rattle.aud_gen.proofs.frames.frames.Goals.{After-start-next}

abbrev starts : After-start-next → List ℕ
starts c = c.args.starts.now

abbrev place : After-start-next → ℕ
place c = get_or c.args.starts.now c.loop-body.body 0

abbrev rest : After-start-next → List ℕ
rest c = drop (c.loop-body.body + 1) c.args.starts.now

there : (c : After-start-next) → drop c.loop-body.body (starts c) ≡ place c ∷ rest c
there c = drop_more (starts c) c.loop-body.body 0 (omega (arith, c.requires.long))

ordered : (c : After-start-next) → (length c.loop-body.seen.items ≤ place c) × AreOrdered (place c) (rest c) c.args.spare (length c.args.lines.now)
ordered c = rw (there c) at c.loop-body.invariant.0

next : (c : After-start-next) → c.start-next.result ≡ next_start (rest c) c.args.spare
next c = c.start-next.ensures ∙ next_of (starts c) (c.loop-body.body + 1) c.args.spare

pub count_body-requires-clause-from : goal.count_body-requires-clause-from
count_body-requires-clause-from c =
    let at = goal.at.count_body-requires-clause-from c in
    let o = ordered at.After-start-next in
    let n = next at.After-start-next in
    let on = from_next (rest at.After-start-next) (place at.After-start-next) c.args.spare (length c.args.lines.now) o.1 in
    omega (arith, o.0, on, n)

pub count_body-requires-clause-within : goal.count_body-requires-clause-within
count_body-requires-clause-within c =
    let at = goal.at.count_body-requires-clause-within c in
    let o = ordered at.After-start-next in
    let n = next at.After-start-next in
    let on = next_within (rest at.After-start-next) (place at.After-start-next) c.args.spare (length c.args.lines.now) o.1 in
    omega (arith, on, n)

pub loop-body-preserved : goal.loop-body-preserved
loop-body-preserved c =
    let at = (goal.at.loop-body-preserved c).After-start-next in
    let lines = map plain_line c.args.lines.now in
    let units = c.args.units.now in
    let i = c.loop-body.body in
    let u = c.index-units-body.result in
    let old = c.loop-body.seen.items in
    let new = c.count_body.new.seen.items in
    let o = ordered at in
    let n = next at in
    let ensured = c.in_ok-count_body.ensures in
    let long = ensured.long ∙ n in
    let whole : List ℕ → Type 0 = λ all. BodiesCount lines all (map level_in units) c.args.starts.now c.args.spare in
    let left : Counts_left lines old (u.level ∷ map level_in (drop (i + 1) units)) (place at ∷ rest at) c.args.spare whole =
    subst (λ us. Counts_left lines old (map level_in us) (place at ∷ rest at) c.args.spare whole) (dropped units i u (omega arith) c.index-units-body.is)
    (subst (λ ss. Counts_left lines old (map level_in (drop i units)) ss c.args.spare whole) (there at) c.loop-body.invariant.1) in (
      subst (λ m. AreOrdered m (rest at) c.args.spare (length c.args.lines.now)) (sym long) (ordered_next (rest at) (place at) c.args.spare (length c.args.lines.now) o.1),
      one_body lines old new u.level c.in_ok-own.own (map level_in (drop (i + 1) units)) (place at) (rest at) c.args.spare c.start-next.result whole c.in_ok-own.ensures o.0 n ensured.grown ensured.counted left,
    )

pub returns : goal.returns
returns c =
    let lines = map plain_line c.args.lines.now in
    let units = c.args.units.now in
    let i = c.loop-body.body in
    let old = c.loop-body.seen.items in
    let new = c.count_body-2.new.seen.items in
    let whole : List ℕ → Type 0 = λ all. BodiesCount lines all (map level_in units) c.args.starts.now c.args.spare in
    let none = drop_all i units (omega (arith, c.loop-body-test.false)) in
    let over = drop_all i c.args.starts.now (omega (arith, c.loop-body-test.false, c.requires.long)) in
    let inv = rw (none, over) at c.loop-body.invariant in
    let long : length lines ≡ length c.args.lines.now = length-map c.args.lines.now plain_line in
    let ensured = c.in_ok-count_body-2.ensures in
    last_body lines old new c.args.spare (length c.args.lines.now) whole inv.0.0 (sym long) ensured.grown ensured.counted inv.1
