use Rattle.std.proofs.Common.{◌≡◌, ◌++◌, drop}
use Rattle.aud_typed.specs.Ties.View.{alternatives_in}
use Rattle.aud_code.specs.View.{behind_offers, bodies_offered}
use Rattle.aud_layout.specs.Layout.{bodies_from_by, parts_from_by}
use Rattle.aud_layout.specs.Written.{flat_step}
use Rattle.aud_gen.proofs.entries.offers.Given as goal

abbrev pub invariant-loop-alternative : goal.invariant-loop-alternative
invariant-loop-alternative l =
    let left = alternatives_in (drop l.alternative-index l.alternatives) in
    let all = alternatives_in l.alternatives in
    (behind_offers l.offers.items ++ parts_from_by flat_step left l.first l.next l.ways ≡ parts_from_by flat_step all l.place l.next l.ways)
    × (bodies_offered l.offers.items ++ bodies_from_by flat_step left l.first l.next l.ways ≡ bodies_from_by flat_step all l.place l.next l.ways)
