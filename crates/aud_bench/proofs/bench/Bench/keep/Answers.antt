use Rattle.std.proofs.Common.{◌≡◌, ℕ, List, [], ◌∷◌, ◌++◌, length, length-append, true, false, sym, ap, ◌∙◌, subst, arith}
use Rattle.aud_bench.specs.declared.request.Request.{Request}
use Rattle.aud_bench.specs.declared.request.Answer.{Answer}
use Rattle.aud_bench.specs.Alone.{fits}
use Rattle.aud_bench.specs.Size.{bytes_of}
use Rattle.aud_bench.specs.Seen.{Seen, has_quit}
use Rattle.aud_bench.specs.Ties.Standing.{IsAt, units_done}
use Rattle.aud_bench.specs.Ties.Kept.{is_kept}
use Rattle.aud_bench.specs.Ties.Times.{are_brief}
use Rattle.aud_bench.proofs.Fronts.{kept_more}
use Rattle.aud_bench.proofs.Times.{brief_more}
use Rattle.aud_bench.proofs.Benches.{count_within, given, given_units}
use Rattle.aud_bench.proofs.Journals.{bytes_append, last_quits, room_left}
use Rattle.aud_bench.proofs.Truths.{or_right}
use Rattle.aud_bench.proofs.bench.Bench.keep.Goals as goal

pub overflow_sub-room : goal.overflow_sub-room
overflow_sub-room c =
    let s = c.self.inside in
    let count = count_within s.limits s.journal.items s.finished s.progress s.taken s.answers.items s.spent s.machine c.self.invariant.0 in
    omega (arith, count, c.len.ensures, c.len-2.ensures, s.journal.ok.0, s.answers.ok.0)

pub invariant_of-self-2 : goal.invariant_of-self-2
invariant_of-self-2 c =
    let s = c.self.inside in
    let r = c.args.request in
    let seen : Seen = c.args.self.now in
    let going : has_quit s.journal.items ≡ false = ap (λ (b : Seen). has_quit b.journal) c.self.view_is ∙ or_right seen.spent (has_quit seen.journal) c.requires.open in
    let count = count_within s.limits s.journal.items s.finished s.progress s.taken s.answers.items s.spent s.machine c.self.invariant.0 in
    let bytes : s.bytes ≡ bytes_of s.journal.items = (c.self.invariant.2 (c.self.invariant.3 ∙ going)).0 in
    let room : fits (length s.journal.items) (bytes_of s.journal.items) r ≡ true = ap (λ (b : Seen). fits (length b.journal) (bytes_of b.journal) r) c.self.view_is ∙ c.requires.fits in (
      subst (λ (told : List Answer). ∥ IsAt s.limits c.push.new.self.items s.finished s.progress s.taken told s.spent s.machine ∥₁) (sym c.in_ok-reserve.ensures.items)
          (subst (λ (j : List Request). ∥ IsAt s.limits j s.finished s.progress s.taken s.answers.items s.spent s.machine ∥₁) (sym c.in_ok-push.ensures.items)
          (given s.limits s.journal.items s.finished s.progress s.taken s.answers.items s.spent s.machine c.self.invariant.0 r)),
      omega (arith, count, ap length c.in_ok-push.ensures.items, length-append s.journal.items (r ∷ []), c.in_ok-reserve.ensures.ok, c.in_ok-reserve.ensures.len, c.len.ensures, c.len-2.ensures, s.journal.ok.0, s.answers.ok.0),
      (λ other.
          let within = room_left (length s.journal.items) (bytes_of s.journal.items) r room (sym c.is_quit-quit.ensures ∙ other) in (
            omega (arith, bytes, c.size-size.ensures.size, ap bytes_of c.in_ok-push.ensures.items, bytes_append s.journal.items r),
            omega (arith, within, bytes, c.size-size.ensures.size),
          )),
      c.is_quit-quit.ensures ∙ sym (last_quits s.journal.items r going) ∙ ap has_quit (sym c.in_ok-push.ensures.items),
      ap is_kept c.in_ok-push.ensures.items ∙ kept_more s.journal.items r c.self.invariant.4 going room,
      ap are_brief c.in_ok-push.ensures.items ∙ brief_more s.journal.items r c.self.invariant.5 c.size-size.ensures.brief,
    )

pub returns-clause-ok : goal.returns-clause-ok
returns-clause-ok c =
    let s = c.self.inside in
    let r = c.args.request in
    let seen : List Request → ℕ → Seen = λ journal units. record { limits = s.limits; journal = journal; units = units; taken = s.taken; spent = s.spent } in
    let longer : Seen → Seen = λ b. record b { journal = b.journal ++ r ∷ [] } in
    ap (λ j. seen j (units_done s.limits j s.finished s.progress)) c.in_ok-push.ensures.items
    ∙ ap (seen (s.journal.items ++ r ∷ [])) (given_units s.limits s.journal.items s.finished s.progress s.taken s.answers.items s.spent s.machine c.self.invariant.0 r)
    ∙ ap longer c.self.view_is
