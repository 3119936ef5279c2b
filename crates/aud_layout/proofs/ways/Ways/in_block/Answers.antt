use Rattle.std.proofs.Common.{◌≡◌, suc, ◌+◌, [], ◌∷◌, ◌++◌, drop, add-one, ap, sym, ◌∙◌, arith, append_assoc}
use Rattle.std.specs.Prelude.{map}
use Rattle.std.proofs.lemmas.List.{map-append}
use Rattle.aud_code.specs.View.{plain_way}
use Rattle.aud_layout.specs.Layout.{stub_ways}
use Rattle.aud_layout.proofs.Stubs.{next_stub}
use Rattle.aud_layout.proofs.ways.Ways.in_block.Goals as goal

pub loop-preserved : goal.loop-preserved
loop-preserved c =
    let ways = c.deref-items.result.now in
    let i = c.loop.index in
    let place = c.in_ok-place.place in
    let here : place ≡ suc c.loop.place = omega (arith, c.in_ok-place.ensures) in
    let rest = stub_ways (map plain_way (drop (i + 1) ways)) (suc place) in
    let left : map plain_way c.loop.exits.items ++ (record { to = place; loops = 0 } ∷ rest) ≡ stub_ways (map plain_way ways) (suc c.args.last) =
    ap (λ n. map plain_way c.loop.exits.items ++ (record { to = n; loops = 0 } ∷ stub_ways (map plain_way (drop (i + 1) ways)) (suc n))) here
    ∙ ap (λ n. map plain_way c.loop.exits.items ++ (record { to = suc c.loop.place; loops = 0 } ∷ stub_ways (map plain_way (drop n ways)) (suc (suc c.loop.place)))) (add-one i)
    ∙ ap (λ z. map plain_way c.loop.exits.items ++ z) (sym (next_stub ways i (suc c.loop.place) (omega (arith, c.loop-test.true))))
    ∙ c.loop.invariant.1 in
    (omega (arith, here, c.loop.invariant.0), ap (λ z. map plain_way z ++ rest) c.in_ok-push.ensures.items ∙ ap (λ z. z ++ rest) (map-append plain_way c.loop.exits.items (record { to = place; loops = 0 } ∷ [])) ∙ append_assoc (map plain_way c.loop.exits.items) (record { to = place; loops = 0 } ∷ []) rest ∙ left)
