use Rattle.std.proofs.Common.{ℕ, List, [], ◌∷◌, ◌+◌, length, ap, ◌∙◌, arith}
use Rattle.std.specs.Prelude.{Option, None}
use Rattle.aud_typed.specs.declared.program.AcceptStatement.{out-AcceptStatement}
use Rattle.aud_typed.specs.Ties.View.{doing_in}
use Rattle.aud_meaning.specs.Statements.{region_of}
use Rattle.aud_code.specs.Flat.{Does, FlatLine, end}
use Rattle.aud_code.specs.Instruction.{Accept}
use Rattle.aud_layout.specs.Assembly.{within_moved}
use Rattle.aud_layout.specs.Layout.{doing_place}
use Rattle.aud_gen.proofs.Writing.{found_as, found_lines, same_written}
use Rattle.aud_gen.proofs.writer.Writer.write_accept.Goals as goal

pub returns : goal.returns
returns c =
    let s = out-AcceptStatement c.args.accept.now in
    let d = doing_in s.doing in
    let next = c.args.next in
    let inside = c.behind-inside.result in
    let line : Option ℕ → ℕ → List FlatLine = λ region body. end (record { last = Does (Accept s.entry region); at = s.at; out = c.args.out; within = within_moved (λ n. n) c.args.within; ways = next ∷ []; bodies = body ∷ []; exit = None }) ∷ [] in
    let leads = same_written (line c.region_of.result c.doing_place-body.result) (line (region_of d) (doing_place d inside next)) (ap (λ region. line region c.doing_place-body.result) c.region_of.ensures ∙ ap (line (region_of d)) c.doing_place-body.ensures) c.concern.ensures in
    found_lines (λ place n. line (region_of d) (doing_place d n next)) inside (length c.args.self.now.lines + 1) (found_as (λ it. omega (arith, it.0, c.place.ensures)) c.behind-inside.ensures) leads
