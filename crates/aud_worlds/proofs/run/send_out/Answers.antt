use Rattle.std.proofs.Common.{List, Option, Some, None, sym, subst, append-nil}
use Rattle.aud_hall.specs.Parcels.{Parcel}
use Rattle.aud_worlds.specs.Ties.Runs.{seen, Makes}
use Rattle.aud_worlds.specs.declared.event.Event.TheVariants as event
use Rattle.aud_worlds.specs.declared.reply.Reply.TheVariants as in_memory
use Rattle.std.specs.Prelude.{true, false}
use Rattle.aud_worlds.proofs.Running.{sent_makes}
use Rattle.aud_worlds.proofs.run.send_out.Goals as goal

pub returns-in_ok-push-in-Some : goal.returns-in_ok-push-in-Some
returns-in_ok-push-in-Some c =
    subst (λ (out : List (Option Parcel)). Makes (event.SendOut c.args.seat) (seen c.args.hall.now c.args.out.now.items) (in_memory.Sent true) (seen c.send_out.new.self out)) (sym c.in_ok-push-in-Some.ensures.items)
    (sent_makes c.args.seat c.args.hall.now c.send_out.new.self c.args.out.now.items (Some c.in-Some.parcel) c.in-Some.ensures.seat c.in-Some.ensures.sends)

pub returns-in-None : goal.returns-in-None
returns-in-None c =
    subst (λ (out : List (Option Parcel)). Makes (event.SendOut c.args.seat) (seen c.args.hall.now c.args.out.now.items) (in_memory.Sent false) (seen c.send_out.new.self out)) (append-nil c.args.out.now.items)
    (sent_makes c.args.seat c.args.hall.now c.send_out.new.self c.args.out.now.items None tt c.in-None.ensures.sends)
