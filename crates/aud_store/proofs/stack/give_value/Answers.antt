use Rattle.std.proofs.Common.{◌≡◌, ◌<◌, ◌-◌, ◌+◌, [], length, reverse, append-nil, refl, ap, sym, ◌∙◌, arith}
use Rattle.aud_meaning.specs.Effects.{is_inner}
use Rattle.aud_store.specs.declared.stack.Open.{Open}
use Rattle.aud_store.specs.Ties.Stored.{plain_purpose, with_value}
use Rattle.aud_store.proofs.Valued.{found_so, looked, none_looked, passed, same_read}
use Rattle.aud_store.proofs.stack.give_value.Goals as goal

pub loop-inner-init : goal.loop-inner-init
loop-inner-init c =
    let xs = c.args.opened.now.items in
    let all : length xs - 0 ≡ length xs = omega arith in
    (refl, ap (looked c.args.value xs) all ∙ none_looked c.args.value xs)

pub returns-then-not-is_inner : goal.returns-then-not-is_inner
returns-then-not-is_inner c =
    let xs = c.loop-inner.opened.items in
    let i = c.len.result - 1 - c.loop-inner.inner in
    let x = c.index_mut.result.now in
    let z = c.args.value in
    let many : length xs ≡ length c.args.opened.now.items = ap length c.loop-inner.invariant.0 in
    let within : i < length xs = omega (arith, c.len.ensures, c.loop-inner.opened.ok.0, c.loop-inner-test.true, c.len-inner-end.ensures, c.args.opened.now.ok.0, many) in
    let next : i + 1 ≡ length xs - c.loop-inner.inner = omega (arith, c.len.ensures, c.loop-inner.opened.ok.0, c.loop-inner-test.true, c.len-inner-end.ensures, c.args.opened.now.ok.0, many) in
    let first = same_read xs i c.index.result.now x within c.index.ensures c.index_mut.ensures.value in
    let second = same_read xs i c.index-then-not-is_inner.result.now x within c.index-then-not-is_inner.ensures c.index_mut.ensures.value in
    found_so z xs i x (record x { purpose = c.with_value.result }) within c.index_mut.ensures.value
    (sym (ap (λ (o : Open). is_inner (plain_purpose o.purpose [])) first) ∙ sym c.is_inner.ensures ∙ c.if-not-is_inner.true)
    (ap (λ p. record x { purpose = p }) (c.with_value.ensures ∙ ap (λ (o : Open). with_value z o.purpose) second))
    ∙ ap (looked z xs) next ∙ c.loop-inner.invariant.1

pub loop-inner-preserved : goal.loop-inner-preserved
loop-inner-preserved c =
    let xs = c.loop-inner.opened.items in
    let i = c.len.result - 1 - c.loop-inner.inner in
    let z = c.args.value in
    let many : length xs ≡ length c.args.opened.now.items = ap length c.loop-inner.invariant.0 in
    let within : i < length xs = omega (arith, c.len.ensures, c.loop-inner.opened.ok.0, c.loop-inner-test.true, c.len-inner-end.ensures, c.args.opened.now.ok.0, many) in
    let next : i + 1 ≡ length xs - c.loop-inner.inner = omega (arith, c.len.ensures, c.loop-inner.opened.ok.0, c.loop-inner-test.true, c.len-inner-end.ensures, c.args.opened.now.ok.0, many) in
    let here : length xs - (c.loop-inner.inner + 1) ≡ i = omega (arith, c.len.ensures, c.loop-inner.opened.ok.0) in (
      c.loop-inner.invariant.0,
      ap (looked z xs) here
          ∙ sym (passed z xs i c.index.result.now within c.index.ensures (sym c.is_inner.ensures ∙ c.if-not-is_inner.false))
          ∙ ap (looked z xs) next ∙ c.loop-inner.invariant.1,
    )

pub returns : goal.returns
returns c =
    let xs = c.loop-inner.opened.items in
    let z = c.args.value in
    let many : length xs ≡ length c.args.opened.now.items = ap length c.loop-inner.invariant.0 in
    let none : length xs - c.loop-inner.inner ≡ 0 = omega (arith, c.loop-inner-test.false, c.len-inner-end.ensures, c.args.opened.now.ok.0, many) in
    sym (append-nil (reverse xs)) ∙ ap (looked z xs) (sym none) ∙ c.loop-inner.invariant.1
