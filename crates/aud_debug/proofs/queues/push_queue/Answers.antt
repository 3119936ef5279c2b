use Rattle.std.proofs.Common.{◌≡◌, ◌+◌, List, ℕ, ◌++◌, length, map, ap, sym, ◌∙◌, append-nil, append_assoc, subst, arith}
use Rattle.aud_typed.specs.Ties.View.{plain_program}
use Rattle.aud_meaning.specs.Parts.{Waiting, queue}
use Rattle.aud_debug.specs.Listed.{ended}
use Rattle.aud_debug.specs.Ties.Rows.{calls_on, queue_head}
use Rattle.aud_debug.proofs.Ended.{line_ended}
use Rattle.aud_debug.proofs.Queued.{no_line, one_line}
use Rattle.aud_debug.proofs.queues.push_queue.Goals as goal

pub returns-then-is_empty : goal.returns-then-is_empty
returns-then-is_empty c =
    let plan = (plain_program c.args.compiled.program.now).plan in
    let are = c.queued-calls.ensures ∙ ap (λ n. map (λ (w : Waiting). w.call) (queue n c.args.entry c.args.state.now.shared.calls)) c.number_in.ensures in
    let none = no_line plan c.args.state.now c.args.owner c.args.entry c.queued-calls.result.now are (sym c.is_empty.ensures ∙ c.if-is_empty.true) in
    let many = ap length none in
    let page = c.args.page.now in
    (sym (ap (λ ls. page.bytes.items ++ ended ls) none ∙ append-nil page.bytes.items), omega (arith, many))

pub returns : goal.returns
returns c =
    let plan = (plain_program c.args.compiled.program.now).plan in
    let s = c.args.state.now in
    let ids = c.queued-calls.result.now in
    let head = queue_head plan c.args.owner c.args.entry s in
    let page = c.args.page.now in
    let are = c.queued-calls.ensures ∙ ap (λ n. map (λ (w : Waiting). w.call) (queue n c.args.entry s.shared.calls)) c.number_in.ensures in
    let one = one_line plan s c.args.owner c.args.entry ids are (sym c.is_empty.ensures ∙ c.if-is_empty.false) in
    let written = c.in_ok-push_callers.ensures ∙ ap (λ l. l ++ calls_on ids s) c.in_ok-push_head.ensures ∙ append_assoc page.bytes.items head (calls_on ids s) in
    let told = line_ended page.bytes.items _ _ (head ++ calls_on ids s) page.count _ written c.in_ok-end_line.ensures.bytes c.in_ok-end_line.ensures.count in
    subst (λ (ls : List (List ℕ)). (c.end_line.new.self.bytes.items ≡ page.bytes.items ++ ended ls) × (c.end_line.new.self.count ≡ page.count + length ls)) (sym one) told
