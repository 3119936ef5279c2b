use Rattle.std.proofs.Common.{[], ◌∷◌, ◌++◌, ◌+◌, append-nil, drop, get_or, map, ap, sym, ◌∙◌, arith}
use Rattle.std.proofs.lemmas.List.{drop_all}
use Rattle.aud_meaning.specs.Run.{picks}
use Rattle.aud_tasks.specs.Enabled.{each_or_one}
use Rattle.aud_tasks.proofs.MoveLaws.Alternatives.{each_picked, no_number, next_picked}
use Rattle.aud_tasks.proofs.MoveLaws.Delays.{listed_one}
use Rattle.aud_tasks.proofs.enabled.list_alternatives.Goals as goal

pub returns-then-is_empty : goal.returns-then-is_empty
returns-then-is_empty c =
    let before = c.args.moves.now.items in
    c.in_ok-push.ensures.items
    ∙ ap (λ m. before ++ m ∷ []) c.only_move.ensures
    ∙ ap (λ ns. before ++ each_or_one c.args.task ns) (sym (no_number c.args.numbers.now (sym c.is_empty.ensures ∙ c.if-is_empty.true)))

pub loop-number-preserved : goal.loop-number-preserved
loop-number-preserved c =
    let i = c.loop-number.number-index in
    let ns = c.args.numbers.now in
    let before = c.loop-number.moves.items in
    let one = next_picked c.args.task ns i (omega arith) in
    listed_one before (picks c.args.task (get_or ns i 0)) (map (picks c.args.task) (drop (i + 1) ns)) (map (picks c.args.task) (drop i ns)) _ one (c.in_ok-push-2.ensures.items ∙ ap (λ m. before ++ m ∷ []) c.pick.ensures)
    ∙ c.loop-number.invariant

pub returns : goal.returns
returns c =
    let i = c.loop-number.number-index in
    let ns = c.args.numbers.now in
    sym (append-nil c.loop-number.moves.items)
    ∙ ap (λ l. c.loop-number.moves.items ++ map (picks c.args.task) l) (sym (drop_all i ns (omega (arith, c.loop-number-test.false))))
    ∙ c.loop-number.invariant
    ∙ ap (λ l. c.args.moves.now.items ++ l) (sym (each_picked c.args.task ns (sym c.is_empty.ensures ∙ c.if-is_empty.false)))
