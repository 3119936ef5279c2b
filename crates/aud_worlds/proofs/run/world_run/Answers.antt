use Rattle.std.specs.Prelude.{map}
use Rattle.std.proofs.Common.{◌≡◌, ◌++◌, ◌∷◌, [], List, sym, ◌∙◌, subst}
use Rattle.std.proofs.IntoIterSteps.{All-taken}
use Rattle.aud_worlds.specs.declared.reply.Reply.{Reply as InMemory}
use Rattle.aud_worlds.specs.Ties.Calls.{plain_reply, IsRun}
use Rattle.aud_worlds.specs.Ties.Runs.{seen}
use Rattle.aud_worlds.proofs.Calls.{run_answers, run_law}
use Rattle.aud_worlds.proofs.Running.{run_more}
use Rattle.aud_worlds.proofs.run.world_run.Goals as goal

pub loop-event-preserved : goal.loop-event-preserved
loop-event-preserved c =
    let limits = c.args.limits.items in
    let calls = c.loop-event.yielded in
    let event = c.in-Some.event in
    let after = seen c.happen.new.hall c.happen.new.out.items in
    subst (λ (xs : List InMemory). IsRun limits (calls ++ event ∷ []) after (map plain_reply xs)) (sym c.in_ok-push.ensures.items)
    (run_more limits calls event (seen c.loop-event.hall c.loop-event.out.items) after c.loop-event.replies.items c.in_ok-reply.reply c.loop-event.invariant c.in_ok-reply.ensures)

pub returns-clause-headline : goal.returns-clause-headline
returns-clause-headline c =
    run_answers c.args.limits.items c.loop-event.yielded (seen c.loop-event.hall c.loop-event.out.items) (map plain_reply c.loop-event.replies.items) c.loop-event.invariant

pub returns-clause-apart : goal.returns-clause-apart
returns-clause-apart c =
    let began = c.into_iter-event-iterator in
    let each = All-taken began.result c.loop-event.yielded (c.next.new.self, (c.loop-event.event-iterator, c.loop-event.yielded_by, c.in-None.ensures.steps)) in
    let made : began.result.rest.items ≡ c.args.events.items = began.ensures.into_iter_gives.0 in
    let all : c.loop-event.yielded ≡ c.args.events.items = each ∙ made in
    let hall = seen c.loop-event.hall c.loop-event.out.items in
    let replies = map plain_reply c.loop-event.replies.items in
    let run = subst (λ calls. IsRun c.args.limits.items calls hall replies) all c.loop-event.invariant in
    (run, run_law c.args.limits.items c.args.events.items hall replies run)
