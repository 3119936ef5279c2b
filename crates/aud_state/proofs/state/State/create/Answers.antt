use Rattle.std.proofs.Common.{◌++◌, List, map, ap, sym, ◌∙◌, arith}
use Rattle.std.proofs.lemmas.List.{map-append}
use Rattle.aud_typed.specs.Ties.View.{plain_tasks}
use Rattle.aud_meaning.specs.Configuration.{All, Own, TaskAt}
use Rattle.aud_meaning.specs.Parts.{own_of}
use Rattle.aud_meaning.specs.Tasks as effect
use Rattle.aud_code.specs.Control.{going}
use Rattle.aud_code.specs.Places.{Spot}
use Rattle.aud_state.specs.View.{all_of, plain_task}
use Rattle.aud_state.proofs.TaskLaws.Changed.{own_at}
use Rattle.aud_state.proofs.state.State.create.Goals as goal

pub returns : goal.returns
returns c = λ plan has typed barrier.
    let i = c.self.inside in
    let go = going c.args.code.now in
    let ts = plain_tasks c.args.tasks.now in
    let base : All Spot = all_of i.tasks.items i.progress i.calls i.objects.items in
    let with : List (TaskAt Spot) → All Spot = λ us. record base { tasks = us } in
    ap (λ us. with (map plain_task us)) c.in_ok-append.ensures.items
    ∙ ap with (map-append plain_task i.tasks.items c.in_ok-created.created.items)
    ∙ ap (λ us. with (map plain_task i.tasks.items ++ us)) (c.in_ok-created.ensures plan has typed barrier)
    ∙ ap (λ (o : Own). with (map plain_task i.tasks.items ++ effect.all_created go plan barrier o ts 0 c.args.tasks.now.length))
    (sym (own_at i.tasks.items i.progress i.calls i.objects.items c.args.creator c.index-found.result.now c.args.self.now (omega arith) c.index-found.ensures c.self.view_is))
    ∙ ap (λ (s : All Spot). record s { tasks = s.tasks ++ effect.all_created go plan barrier (own_of c.args.creator c.args.self.now) ts 0 c.args.tasks.now.length }) c.self.view_is
