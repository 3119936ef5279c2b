use Rattle.std.proofs.Common.{rules, ◌≡◌, [], ◌∷◌, subst}
use Rattle.std.proofs.lemmas.Result.{on_ok_weaker}
use Rattle.std.specs.Io.KnownBytes.{Appends}
use Rattle.aud_solo.specs.Streams.{AppendsPrefix}
use Rattle.aud_solo.proofs.StreamLaws.{grows_none}
use Rattle.aud_solo.proofs.ServingLaws.{some_told, told_still, told_next, front_told}
use Rattle.aud_solo.proofs.serving.attend.Goals as goal

pub returns-then-is_over-clause-tells : goal.returns-then-is_over-clause-tells
returns-then-is_over-clause-tells g c =
    λ before asked told. record {
      all = told_still g.A.Attendant.words before (g.T.Sink.contents c.args.writer.now) asked c.args.attendant.now told (c.is_over.ensures.none c.if-is_over.true) (c.args.request.now ∷ []);
      memory = search rules;
      write = search rules;
    }

pub returns-in_err-said-clause-tells : goal.returns-in_err-said-clause-tells
returns-in_err-said-clause-tells g c =
    λ before asked told. record {
      all = search rules;
      memory = λ e. some_told g.A.Attendant.words before (g.T.Sink.contents c.args.writer.now) asked c.args.attendant.now told (c.args.request.now ∷ []);
      write = search rules;
    }

pub returns-clause-tells : goal.returns-clause-tells
returns-clause-tells g c =
    let words = g.A.Attendant.words in
    let contents = g.T.Sink.contents in
    let old = contents c.args.writer.now in
    let new = contents c.write.new.writer in
    let state = c.args.attendant.now in
    let next = c.reply.new.self in
    let r = c.args.request.now in
    let said = c.in_ok-said.said.items in
    let value : c.deref.result.now ≡ said = c.deref.ensures.value in
    λ before asked told. record {
      all = on_ok_weaker c.write.result (λ k. told_next words before old asked state told r said next c.in_ok-said.ensures new (subst (Appends old new) value k)) c.write.ensures.all;
      memory = search rules;
      write = λ e. front_told words before old asked state told r said next c.in_ok-said.ensures new (subst (AppendsPrefix old new) value (c.write.ensures.write e));
    }

pub returns-then-is_over-clause-grows : goal.returns-then-is_over-clause-grows
returns-then-is_over-clause-grows g c = grows_none (g.T.Sink.contents c.args.writer.now)

pub returns-in_err-said-clause-grows : goal.returns-in_err-said-clause-grows
returns-in_err-said-clause-grows g c = grows_none (g.T.Sink.contents c.args.writer.now)
