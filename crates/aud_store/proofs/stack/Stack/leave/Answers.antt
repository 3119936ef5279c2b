use Rattle.std.proofs.Common.{◌≡◌, ◌-◌, length, take, ap, ◌∙◌, arith}
use Rattle.aud_store.specs.Ties.Stored.{copies_of}
use Rattle.aud_store.proofs.Opened.{left_numbers, left_open, room_behind}
use Rattle.aud_store.proofs.stack.Stack.leave.Goals as goal

pub leave-requires-clause-within : goal.leave-requires-clause-within
leave-requires-clause-within c = room_behind c.self.inside.display c.self.inside.opened.items c.pop.new.self.items c.in-Some.open c.self.invariant c.in-Some.ensures.items

pub invariant_of-self : goal.invariant_of-self
invariant_of-self c = left_numbers c.self.inside.display c.self.inside.opened.items c.pop.new.self.items c.in-Some.open c.self.invariant c.in-Some.ensures.items c.leave.new.self c.leave.ensures

pub returns-in-Some : goal.returns-in-Some
returns-in-Some c = rw (← c.self.view_is) (
    let backs = c.self.inside.backs.items in
    let outer : c.saturating_sub-outer.result ≡ length backs - copies_of c.in-Some.open.purpose = omega (arith, c.self.inside.backs.ok.0) in
    left_open c.self.inside.display c.self.inside.opened.items c.pop.new.self.items c.in-Some.open c.self.invariant c.in-Some.ensures.items
    c.leave.new.self backs c.truncate.new.self.items c.leave.ensures (c.truncate.ensures.items ∙ ap (λ n. take n backs) outer))
