use Rattle.std.proofs.Common.{◌≡◌, ◌∷◌, [], ◌++◌, ◌∙◌, None, refl, reverse, ap, sym, subst}
use Rattle.aud_store.specs.declared.stack.Open.{Open}
use Rattle.aud_store.specs.Ties.Display.{Display, seen, placed, stands}
use Rattle.aud_store.specs.Ties.Stored.{plain_opened, kept_by, kept_of, ArePlaced}
use Rattle.aud_store.proofs.Opened.{among, given_up, room_again, opened_more, placed_more, stack_of}
use Rattle.aud_store.proofs.stack.Stack.enter.Goals as goal
use Rattle.aud_store.proofs.stack.Stack.enter.Goals.{After-enter, After-leave}

-- the frames that stay seen
kept_so : (c : After-enter) → c.kept-kept.result ≡ kept_of c.args.purpose c.self.inside.display.count
kept_so c = c.kept-kept.ensures ∙ ap (kept_of c.args.purpose) c.len.ensures

pub leave-requires-clause-within : goal.leave-requires-clause-within
leave-requires-clause-within c =
    room_again c.self.inside.display c.enter.new.self (reverse c.self.inside.opened.items) c.args.purpose c.args.frame c.kept-kept.result c.in_ok-replaced.replaced c.self.invariant
    (kept_so (goal.at.leave-requires-clause-within c).After-enter) c.in_ok-replaced.ensures.entered c.in_ok-replaced.ensures.replaced

-- the numbers are those from before
again : (c : After-leave) → c.kept-kept.result ≡ kept_of c.args.purpose c.self.inside.display.count → c.leave.new.self ≡ c.self.inside.display
again c many =
    c.leave.ensures ∙ given_up c.self.inside.display c.enter.new.self (reverse c.self.inside.opened.items) c.args.purpose c.args.frame c.kept-kept.result c.in_ok-replaced.replaced c.self.invariant
    many c.in_ok-replaced.ensures.entered c.in_ok-replaced.ensures.replaced

pub invariant_of-self-in-Err : goal.invariant_of-self-in-Err
invariant_of-self-in-Err c =
    let back = again c (kept_so (goal.at.invariant_of-self-in-Err c).After-enter) in
    rw c.in_ok-reserve.ensures.items (subst (λ (d : Display). ArePlaced d (reverse c.self.inside.opened.items)) (sym back) c.self.invariant)

pub returns-in-Err-clause-kept : goal.returns-in-Err-clause-kept
returns-in-Err-clause-kept c = rw (← c.self.view_is) (
    let back = again c (kept_so (goal.at.returns-in-Err-clause-kept c).After-enter) in
    let old = c.self.inside.display in
    ap (λ (d : Display). stack_of (seen d) (plain_opened d (reverse c.reserve.new.self.items) c.extend_from_slice.new.self.items)) back
    ∙ ap (λ os. stack_of (seen old) (plain_opened old (reverse os) c.extend_from_slice.new.self.items)) c.in_ok-reserve.ensures.items
    ∙ ap (λ bs. stack_of (seen old) (plain_opened old (reverse c.self.inside.opened.items) bs)) c.in-Err.ensures.items)

pub invariant_of-self-2 : goal.invariant_of-self-2
invariant_of-self-2 c =
    let o : Open = record { frame = c.args.frame; region = c.args.region; elaborated = c.args.elaborated; handling = None; at = c.args.at; purpose = c.args.purpose; replaced = c.in_ok-replaced.replaced } in
    let old = c.self.inside.display in
    let kept = kept_so (goal.at.invariant_of-self-2 c).After-enter in
    placed_more old c.enter.new.self c.self.inside.opened.items c.push.new.self.items o (kept_by c.args.purpose (seen old)) c.self.invariant
    (c.in_ok-push.ensures.items ∙ ap (λ os. os ++ o ∷ []) c.in_ok-reserve.ensures.items)
    (among (c.in_ok-replaced.ensures.entered ∙ ap (λ k. placed k c.args.frame old) kept)
    (c.in_ok-replaced.ensures.replaced ∙ ap (λ k. stands k old) kept) refl)

pub returns-clause-entered : goal.returns-clause-entered
returns-clause-entered c = rw (← c.self.view_is) (
    let o : Open = record { frame = c.args.frame; region = c.args.region; elaborated = c.args.elaborated; handling = None; at = c.args.at; purpose = c.args.purpose; replaced = c.in_ok-replaced.replaced } in
    let old = c.self.inside.display in
    let kept = kept_so (goal.at.returns-clause-entered c).After-enter in
    opened_more old c.enter.new.self c.self.inside.opened.items c.push.new.self.items o (kept_by c.args.purpose (seen old)) c.self.inside.backs.items c.args.backs.now c.extend_from_slice.new.self.items
    c.self.invariant
    (c.in_ok-push.ensures.items ∙ ap (λ os. os ++ o ∷ []) c.in_ok-reserve.ensures.items)
    (among (c.in_ok-replaced.ensures.entered ∙ ap (λ k. placed k c.args.frame old) kept)
    (c.in_ok-replaced.ensures.replaced ∙ ap (λ k. stands k old) kept) refl)
    c.in_default.ensures.items c.requires.copies)
