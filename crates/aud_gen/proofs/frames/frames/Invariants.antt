use Rattle.std.proofs.Common.{drop, length, map}
use Rattle.aud_code.specs.View.{plain_line}
use Rattle.aud_layout.specs.Opened.{BodiesCount}
use Rattle.aud_gen.specs.Opening.{level_in, AreOrdered}
use Rattle.aud_gen.proofs.Openings.{Counts_left}
use Rattle.aud_gen.proofs.frames.frames.Given as goal

abbrev pub invariant-loop-body : goal.invariant-loop-body
invariant-loop-body l =
    let lines = map plain_line l.lines in
    AreOrdered (length l.seen.items) (drop l.body l.starts) l.spare (length l.lines)
    × Counts_left lines l.seen.items (map level_in (drop l.body l.units)) (drop l.body l.starts) l.spare (λ all. BodiesCount lines all (map level_in l.units) l.starts l.spare)
