use Rattle.std.proofs.Common.{ℕ, List, [], ◌∷◌, ap, ◌∙◌}
use Rattle.std.specs.Prelude.{Option, None}
use Rattle.aud_typed.specs.declared.program.EntryCallStatement.{out-EntryCallStatement}
use Rattle.aud_typed.specs.Ties.View.{entry_call_in, plain_callee, plain_form}
use Rattle.aud_code.specs.Flat.{Does, EndLine}
use Rattle.aud_code.specs.Instruction.{Ending}
use Rattle.aud_code.specs.Places.{Way}
use Rattle.aud_code.specs.View.{beside, bodies_in, plain_among, way_beside}
use Rattle.aud_layout.specs.Assembly.{within_moved}
use Rattle.aud_layout.specs.Instructions.{call_end, instructions_of}
use Rattle.aud_gen.proofs.Entering.{one_step}
use Rattle.aud_gen.proofs.writer.Writer.write_call.Goals as goal

pub returns : goal.returns
returns c =
    let s = out-EntryCallStatement c.args.call.now in
    let among = c.call_of.result in
    let ending = call_end (plain_callee s.callee) s.entry (plain_form s.form) in
    let next = c.args.next in
    let line : Ending → List ℕ → List ℕ → Option Way → EndLine = λ e beside bodies exit. record { last = Does e; at = s.at; out = c.args.out; within = within_moved (λ n. n) c.args.within; ways = next ∷ beside; bodies = bodies; exit = exit } in
    let same =
    ap (λ e. line e (beside among) (bodies_in among) (way_beside among)) c.call_of.ensures.ending
    ∙ ap (λ ns. line ending ns (bodies_in among) (way_beside among)) c.call_of.ensures.ways
    ∙ ap (λ ns. line ending (c.args.otherwise ∷ []) ns (way_beside among)) c.call_of.ensures.bodies
    ∙ ap (line ending (c.args.otherwise ∷ []) []) c.call_of.ensures.exit in
    one_step (instructions_of (entry_call_in c.args.call.now)) (line (plain_among among) (beside among) (bodies_in among) (way_beside among)) (line ending (c.args.otherwise ∷ []) [] None) same c.write_call_code.ensures c.concern.ensures
