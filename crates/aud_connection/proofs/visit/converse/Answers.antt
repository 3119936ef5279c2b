use Rattle.std.specs.Prelude.{slice_get}
use Rattle.std.proofs.Common.{rules, ◌≡◌, ◌-◌, inl, inr, ◌∷◌, ◌++◌, [], List, length, Some, refl, sym, ap, ◌∙◌, subst}
use Rattle.std.specs.Option.{option_copied}
use Rattle.std.proofs.lemmas.Result.{IfOk-weaker}
use Rattle.aud_text.specs.declared.refusal.Refusal.TheVariants as refusal
use Rattle.aud_bench.specs.declared.request.Request.{Request}
use Rattle.aud_bench.specs.declared.request.Answer.{Answer}
use Rattle.aud_bench.specs.declared.request.Answer.TheVariants.{Refused}
use Rattle.aud_bench.specs.Alone.{alone}
use Rattle.aud_pass.specs.Passed.{Passed}
use Rattle.aud_pass.specs.Replies.{Fits, Overflows, FitsBy}
use Rattle.aud_connection.specs.Told.{Answered, Faulted}
use Rattle.aud_connection.proofs.Following.{ends_so}
use Rattle.aud_connection.proofs.Fronts.{fits_lost, ends_lost}
use Rattle.aud_connection.proofs.visit.converse.Goals as goal

pub returns-in-Err-Full : goal.returns-in-Err-Full
returns-in-Err-Full g c =
    let p : Passed = c.args.pass.now in
    let told = c.in-Err-Full in
    let same : c.submit.new.pass ≡ p = told.ensures.err in
    let full : Overflows p c.in_ok-request.request = subst (λ f. FitsBy (Some f) p c.in_ok-request.request) told.field-0-is told.ensures.fits in
    let room : Overflows p c.args.request.now = subst (λ (r : Request). Overflows p r) c.in_ok-request.ensures full in
    IfOk-weaker c.answer_text.result _ _
    (λ text is. (
      Answered (Refused refusal.JournalFull),
      is,
      (
        ap (λ (x : Passed). x.limits) same,
        inr (record {
          open_there = room.open_there;
          none = room.none;
          stored = ap (λ (x : Passed). x.sent) same;
          answer = refl;
        }),
      ),
    ))
    c.answer_text.ensures

pub returns-in-Err : goal.returns-in-Err
returns-in-Err g c =
    let same = c.in-Err.ensures.err in
    let lost = fits_lost c.in-Err.refused c.args.pass.now c.in_ok-request.request c.in-Err.ensures.fits (search rules) (search rules) in
    IfOk-weaker c.fault_text.result _ _
    (λ text is. (Faulted c.in-Err.refused, is, (ap (λ (x : Passed). x.limits) same, (lost, inl (ap (λ (x : Passed). x.sent) same)))))
    c.fault_text.ensures

pub returns-in-Err-finish : goal.returns-in-Err-finish
returns-in-Err-finish g c =
    let p : Passed = c.args.pass.now in
    let (limits, sent, ends) = c.in-Err-finish.ensures in
    let stored = c.in-Ok.ensures.ok in
    let lost = ends_lost c.in-Err-finish.refused ends (search rules) in
    IfOk-weaker c.fault_text-in-Err-finish.result _ _
    (λ text is. (
      Faulted c.in-Err-finish.refused,
      is,
      (limits ∙ ap (λ (x : Passed). x.limits) stored, (lost, inr (sent ∙ ap (λ (x : Passed). x.sent) stored ∙ ap (λ x. p.sent ++ x ∷ []) c.in_ok-request.ensures))),
    ))
    c.fault_text-in-Err-finish.ensures

pub returns : goal.returns
returns g c =
    let p : Passed = c.args.pass.now in
    let q : Passed = c.finish.new.pass in
    let r = c.in_ok-request.request in
    let a = c.in-Some.answer.now in
    let (limits, sent, whole) = c.in-Ok-finish.ensures in
    let stored = c.in-Ok.ensures.ok in
    let fits : Fits p c.args.request.now = subst (λ (x : Request). Fits p x) c.in_ok-request.ensures c.in-Ok.ensures.fits in
    let limits_are : q.limits ≡ p.limits = limits ∙ ap (λ (x : Passed). x.limits) stored in
    let got : c.got.result.now ≡ alone p.limits q.sent = c.got.ensures.got ∙ whole.all ∙ ap (λ l. alone l q.sent) limits_are in
    let last : slice_get (alone p.limits q.sent) (length (alone p.limits q.sent) - 1) ≡ Some a =
    ap (λ (xs : List Answer). slice_get xs (length xs - 1)) (sym got) ∙ sym c.last.ensures.value ∙ ap option_copied c.in-Some.is in
    let end = ends_so (alone p.limits q.sent) a last in
    IfOk-weaker c.answer_text-in-Some.result _ _
    (λ text is. (
      Answered a,
      is,
      (
        limits_are,
        inl (record {
          open_there = fits.open_there;
          room = fits.room;
          stored = sent ∙ ap (λ (x : Passed). x.sent) stored ∙ ap (λ x. p.sent ++ x ∷ []) c.in_ok-request.ensures;
          front = end.0;
          last = end.1;
        }),
      ),
    ))
    c.answer_text-in-Some.ensures
