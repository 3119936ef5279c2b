use Rattle.std.proofs.Common.{rules, ◌+◌, ◌++◌, [], ◌∷◌, take, drop, sym, ◌∙◌, subst, arith}
use Rattle.aud_solo.specs.Ties.Serving.{HasTold}
use Rattle.aud_solo.proofs.StreamLaws.{grows_none, grows_more}
use Rattle.aud_solo.proofs.ServingLaws.{up_to, all_of, tells_all}
use Rattle.aud_solo.proofs.serving.attend_each.Goals as goal

pub returns-in_err-attend-clause-tells : goal.returns-in_err-attend-clause-tells
returns-in_err-attend-clause-tells g c =
    let requests = c.args.requests.now in
    let i = c.loop-request.request-index in
    let r = c.request-item.result in
    let new = g.T.Sink.contents c.attend.new.writer in
    λ before asked told.
    let tells = c.attend.ensures.tells before (asked ++ take i requests) (c.loop-request.invariant.told before asked told) in
    let some = (asked ++ take i requests) ++ r ∷ [] in
    let result = c.from_residual.result in
    tells_all g.A.Attendant.words result before new some (drop (i + 1) requests) (asked ++ requests) c.attend.new.attendant c.attend.new.attendant (all_of asked requests i r (omega arith) c.request-item.is) (search rules)
    (record { all = search rules; memory = λ e. tells.memory (search rules); write = λ e. tells.write (search rules) })

pub loop-request-preserved : goal.loop-request-preserved
loop-request-preserved g c =
    let requests = c.args.requests.now in
    let i = c.loop-request.request-index in
    let r = c.request-item.result in
    record {
      told =
          λ before asked told.
          subst (λ rs. HasTold g.A.Attendant.words before (g.T.Sink.contents c.attend.new.writer) rs c.attend.new.attendant) (sym (up_to asked requests i r (omega arith) c.request-item.is))
          (c.in_ok-attend.ensures.tells before (asked ++ take i requests) (c.loop-request.invariant.told before asked told)).all;
      grows = grows_more (g.T.Sink.contents c.args.writer.now) (g.T.Sink.contents c.loop-request.writer) (g.T.Sink.contents c.attend.new.writer) c.loop-request.invariant.grows c.attend.ensures.grows;
      failures = c.in_ok-attend.ensures.counts ∙ c.loop-request.invariant.failures;
    }

pub loop-request-init : goal.loop-request-init
loop-request-init g c = record { told = search rules; grows = grows_none (g.T.Sink.contents c.args.writer.now); failures = search rules }

pub returns-in_err-attend-clause-grows : goal.returns-in_err-attend-clause-grows
returns-in_err-attend-clause-grows g c =
    grows_more (g.T.Sink.contents c.args.writer.now) (g.T.Sink.contents c.loop-request.writer) (g.T.Sink.contents c.attend.new.writer) c.loop-request.invariant.grows c.attend.ensures.grows
