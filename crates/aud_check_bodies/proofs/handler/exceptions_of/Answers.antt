use Rattle.std.proofs.Common.{◌≡◌, ◌+◌, ◌∷◌, drop, arith, subst}
use Rattle.aud_check_bodies.specs.Handlers.{exceptions_of}
use Rattle.aud_names.specs.Ties.Regions.{names_in}
use Rattle.aud_syntax.proofs.Written.{dropped}
use Rattle.aud_check_bodies.proofs.Shown.{exceptions_ahead}
use Rattle.aud_check_bodies.proofs.handler.exceptions_of.Goals as goal

pub loop-other-preserved : goal.loop-other-preserved
loop-other-preserved c =
    let xs = c.args.names.now.others.items in
    let seen = c.deref-other-items.result.now in
    let i = c.loop-other.other-index in
    let x = c.other-item.result in
    let next = subst (λ l. drop i l ≡ x ∷ drop (i + 1) l) c.deref-other-items.ensures.value (dropped seen i x (omega arith) c.other-item.is) in
    exceptions_ahead c.args.scope.now c.loop-other.all.items c.add-in-loop-other.new.all.items (exceptions_of (names_in c.args.names.now) c.args.scope.now) x (drop i xs) (drop (i + 1) xs) next c.in_ok-add-2.ensures c.loop-other.invariant
