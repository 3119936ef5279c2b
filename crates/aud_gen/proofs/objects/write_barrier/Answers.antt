use Rattle.std.proofs.Common.{◌≡◌, ◌∷◌, [], ◌++◌, List, map, false, refl, ap, ◌∙◌}
use Rattle.std.specs.Prelude.{None}
use Rattle.aud_code.specs.declared.line.Ending.TheVariants.{If}
use Rattle.aud_code.specs.declared.line.Last.TheVariants.{Does}
use Rattle.aud_code.specs.Flat.{FlatLine, instructs, end}
use Rattle.aud_code.specs.Flat as flat
use Rattle.aud_code.specs.Tabled.{counts}
use Rattle.aud_code.specs.View.{plain_end, plain_line}
use Rattle.aud_layout.specs.Instructions.{condition_code}
use Rattle.aud_gen.specs.Writes.{barrier_in, Code, Writes}
use Rattle.aud_gen.proofs.Calls.{barrier_plain, barrier_decided}
use Rattle.aud_gen.proofs.objects.write_barrier.Goals as goal

-- the ending of a barrier, which leads nowhere
abbrev the_end : flat.EndLine
the_end = plain_end (record { last = Does (If 0) 0; at = record { line = 0; col = 0 }; out = 0; within = None })

written : (is more lines : List FlatLine) → more ≡ [] ++ is → lines ≡ more ++ end the_end ∷ [] → lines ≡ is ++ end the_end ∷ []
written is more lines h k = k ∙ ap (λ ls. ls ++ end the_end ∷ []) h

-- by what was written of it
whole : (begun mid last : Code) (is lines : List FlatLine) → begun.lines ≡ [] → Writes begun mid is → Writes mid last (end the_end ∷ []) → last.refused ≡ false → lines ≡ last.lines → lines ≡ is ++ end the_end ∷ []
whole begun mid last is lines none h k e all =
    let then = k.unless_refused e in
    let first = h.unless_refused then.0 in
    written is mid.lines lines (first.1 ∙ ap (λ ls. ls ++ is) none) (all ∙ then.1)

pub returns-clause-plain : goal.returns-clause-plain
returns-clause-plain c =
    let is = condition_code (barrier_in c.args.entry.now.body) in
    let all = c.in_ok-lines.ensures in
    barrier_plain is the_end (map plain_line c.in_ok-lines.lines.items) (whole c.new-writer.result c.write_condition.new.self c.end_statement.new.self (map instructs is) _ c.new-writer.ensures.lines c.write_condition.ensures.writes c.end_statement.ensures all.0 all.1)

pub returns-clause-decided : goal.returns-clause-decided
returns-clause-decided c =
    let e = barrier_in c.args.entry.now.body in
    let is = condition_code e in
    let lines = map plain_line c.in_ok-lines.lines.items in
    let all = c.in_ok-lines.ensures in
    let are = whole c.new-writer.result c.write_condition.new.self c.end_statement.new.self (map instructs is) lines c.new-writer.ensures.lines c.write_condition.ensures.writes c.end_statement.ensures all.0 all.1 in
    let table = rw c.deref.ensures.value at c.in_ok-operands.ensures in
    let both = barrier_decided e the_end lines (map counts c.in_ok-operands.operands.items) refl are table in
    record { tabled = both.0; taken = both.1 }
