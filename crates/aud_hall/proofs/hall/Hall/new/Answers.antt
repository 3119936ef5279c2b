use Rattle.std.proofs.Common.{◌≡◌, ◌<◌, ◌++◌, [], ◌∷◌, List, length, get_or, take, None, sym, ap, ◌∙◌, arith}
use Rattle.std.proofs.lemmas.List.{take_more, take_all}
use Rattle.aud_text.specs.declared.limits.Limits.{Limits}
use Rattle.aud_hall.specs.Halls.{Place, nobodys, limits_of}
use Rattle.aud_hall.proofs.Limits.{limits_nobodys}
use Rattle.aud_hall.proofs.Places.{nobodys_more}
use Rattle.aud_hall.proofs.hall.Hall.new.Goals as goal

pub loop-each-preserved : goal.loop-each-preserved
loop-each-preserved c =
    let limits = c.args.limits.items in
    let i = c.loop-each.each-index in
    let none : Limits = record { tasks = 0; source = 0 } in
    let here : i < length limits = omega (arith, ap length c.deref-each-items.ensures.value) in
    let vacant : Limits → Place = λ l. record { limits = l; seat = None } in
    c.in_ok-push.ensures.items
    ∙ ap (λ (place : Place). c.loop-each.places.items ++ place ∷ []) (c.new.ensures ∙ ap (λ (xs : List Limits). vacant (get_or xs i none)) c.deref-each-items.ensures.value)
    ∙ ap (λ (places : List Place). places ++ vacant (get_or limits i none) ∷ []) c.loop-each.invariant
    ∙ sym (ap nobodys (take_more limits i none here) ∙ nobodys_more (take i limits) (get_or limits i none))

pub invariant_of-result : goal.invariant_of-result
invariant_of-result c =
    let all : c.loop-each.places.items ≡ nobodys c.args.limits.items =
    c.loop-each.invariant ∙ ap nobodys (take_all c.loop-each.each-index c.args.limits.items (omega (arith, ap length c.deref-each-items.ensures.value))) in
    limits_nobodys c.args.limits.items ∙ ap limits_of (sym all)
