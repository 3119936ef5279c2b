use Rattle.std.proofs.Common.{◌≡◌, ◌+◌, ◌++◌, ℕ, [], ◌∷◌, true, false, rules, sym, subst, arith}
use Rattle.aud_bench.specs.Alone.{is_quit, fits, alone}
use Rattle.aud_bench.specs.Ties.Answered.{HasAnswered}
use Rattle.aud_bench.proofs.Asking.{with_room, next}
use Rattle.aud_bench.proofs.session.Session.answer.Goals as goal

pub returns-clause-answer : goal.returns-clause-answer
returns-clause-answer c =
    λ asked has.
    let s = c.args.self.now in
    let r = c.args.request.now in
    let going : s.over ≡ false = c.if-self.false in
    let fitting : fits s.requests s.bytes r ≡ true = search (rules, c.fits.ensures.answer, c.if-not-fits.false, c.if-not-fits.ensures.answer) in
    let stays : is_quit r ≡ false = search (rules, c.is_quit.ensures, c.if-is_quit.false) in
    let room = c.if-not-fits.ensures.room in
    subst (λ (n : ℕ). (alone s.limits (asked ++ r ∷ []) ≡ alone s.limits asked ++ c.in-Ok.given ∷ []) × HasAnswered (asked ++ r ∷ []) (record s { machine = c.answer.new.machine; requests = s.requests + 1; bytes = s.bytes + n }))
    (sym c.size.ensures.size)
    (next asked s r has going fitting c.answer.new.machine c.in-Ok.given (c.in-Ok.ensures has.loaded (with_room asked s r has going) has.is_loaded) stays (search (rules, arith, room, stays, fitting)) c.size.ensures.brief)
