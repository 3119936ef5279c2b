use Rattle.std.proofs.Common.{◌≡◌, ◌∷◌, [], ◌++◌, ◌∙◌, None, reverse, ap, sym, subst}
use Rattle.aud_store.specs.declared.stack.Open.{Open}
use Rattle.aud_store.specs.Ties.Display.{Display, seen}
use Rattle.aud_store.specs.Ties.Stored.{plain_opened, ArePlaced}
use Rattle.aud_store.proofs.Opened.{apart, given_up_apart, room_apart, opened_more, placed_more, stack_of}
use Rattle.aud_store.proofs.stack.Stack.enter_apart.Goals as goal
use Rattle.aud_store.proofs.stack.Stack.enter_apart.Goals.{After-leave}

pub leave-requires-clause-within : goal.leave-requires-clause-within
leave-requires-clause-within c =
    room_apart c.self.inside.display c.enter_apart.new.self (reverse c.self.inside.opened.items) c.args.display.now c.args.frame c.in_ok-replaced.replaced c.self.invariant
    c.in_ok-replaced.ensures.entered c.in_ok-replaced.ensures.replaced

-- the numbers are those from before
again : (c : After-leave) → c.leave.new.self ≡ c.self.inside.display
again c =
    c.leave.ensures ∙ given_up_apart c.self.inside.display c.enter_apart.new.self (reverse c.self.inside.opened.items) c.args.display.now c.args.frame c.in_ok-replaced.replaced c.self.invariant
    c.in_ok-replaced.ensures.entered c.in_ok-replaced.ensures.replaced

pub invariant_of-self-in-Err : goal.invariant_of-self-in-Err
invariant_of-self-in-Err c =
    rw c.in_ok-reserve.ensures.items (subst (λ (d : Display). ArePlaced d (reverse c.self.inside.opened.items)) (sym (again c)) c.self.invariant)

pub returns-in-Err-clause-kept : goal.returns-in-Err-clause-kept
returns-in-Err-clause-kept c = rw (← c.self.view_is) (
    let old = c.self.inside.display in
    ap (λ (d : Display). stack_of (seen d) (plain_opened d (reverse c.reserve.new.self.items) c.extend_from_slice.new.self.items)) (again c)
    ∙ ap (λ os. stack_of (seen old) (plain_opened old (reverse os) c.extend_from_slice.new.self.items)) c.in_ok-reserve.ensures.items
    ∙ ap (λ bs. stack_of (seen old) (plain_opened old (reverse c.self.inside.opened.items) bs)) c.in-Err.ensures.items)

pub invariant_of-self-2 : goal.invariant_of-self-2
invariant_of-self-2 c =
    let o : Open = record { frame = c.args.frame; region = c.args.region; elaborated = c.args.elaborated; handling = None; at = c.args.at; purpose = c.args.purpose; replaced = c.in_ok-replaced.replaced } in
    placed_more c.self.inside.display c.enter_apart.new.self c.self.inside.opened.items c.push.new.self.items o c.args.display.now c.self.invariant
    (c.in_ok-push.ensures.items ∙ ap (λ os. os ++ o ∷ []) c.in_ok-reserve.ensures.items)
    (apart c.in_ok-replaced.ensures.entered c.in_ok-replaced.ensures.replaced)

pub returns-clause-entered : goal.returns-clause-entered
returns-clause-entered c = rw (← c.self.view_is) (
    let o : Open = record { frame = c.args.frame; region = c.args.region; elaborated = c.args.elaborated; handling = None; at = c.args.at; purpose = c.args.purpose; replaced = c.in_ok-replaced.replaced } in
    opened_more c.self.inside.display c.enter_apart.new.self c.self.inside.opened.items c.push.new.self.items o c.args.display.now c.self.inside.backs.items c.args.backs.now c.extend_from_slice.new.self.items
    c.self.invariant
    (c.in_ok-push.ensures.items ∙ ap (λ os. os ++ o ∷ []) c.in_ok-reserve.ensures.items)
    (apart c.in_ok-replaced.ensures.entered c.in_ok-replaced.ensures.replaced)
    c.in_default.ensures.items c.requires.copies)
