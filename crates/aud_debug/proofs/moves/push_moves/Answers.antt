use Rattle.std.proofs.Common.{◌∷◌, [], ◌+◌, None, ap, sym, ◌∙◌, arith, drop, get_or}
use Rattle.aud_typed.specs.Ties.View.{plain_program}
use Rattle.aud_meaning.specs.declared.state.Move.{Move}
use Rattle.aud_debug.specs.Ties.Rows.{each_line, move_line}
use Rattle.aud_debug.proofs.Ended.{all_come, line_ended}
use Rattle.aud_debug.proofs.Moving.{moves_are, next_line, past_lines}
use Rattle.aud_debug.proofs.Pages.{comes_more}
use Rattle.aud_debug.proofs.moves.push_moves.Goals as goal

pub loop-index-preserved : goal.loop-index-preserved
loop-index-preserved c =
    let plan = (plain_program c.args.compiled.program.now).plan in
    let code = c.args.compiled.code.now in
    let s = c.args.state.now in
    let i = c.loop-index.index in
    let ms = c.args.moves.now in
    let m : Move = get_or ms i (record { task = 0; alternative = None }) in
    comes_more _ _ _ (move_line plan code i m s ∷ []) (each_line plan code (i + 1) (drop (i + 1) ms) s) (each_line plan code i (drop i ms) s) (each_line plan code 0 ms s)
    (line_ended _ _ _ (move_line plan code i m s) _ _ c.in_ok-push_line.ensures c.in_ok-end_line.ensures.bytes c.in_ok-end_line.ensures.count)
    (next_line plan code s ms i _ (omega arith))
    c.loop-index.invariant

pub returns : goal.returns
returns c =
    let plan = (plain_program c.args.compiled.program.now).plan in
    let code = c.args.compiled.code.now in
    let s = c.args.state.now in
    let ms = c.args.moves.now in
    let told = ap (λ l. each_line plan code 0 l s) c.requires ∙ sym (moves_are plan code s) in
    all_come _ _ _ (each_line plan code 0 ms s) _ (past_lines plan code s ms c.loop-index.index (omega arith)) told c.loop-index.invariant
