use Rattle.std.proofs.Common.{◌≡◌, [], ◌∷◌, ◌++◌, drop}
use Rattle.std.specs.Prelude.{map}
use Rattle.aud_code.specs.View.{plain_way}
use Rattle.aud_layout.specs.Leading.{around, all_ways}
use Rattle.aud_gen.proofs.Constructs.{with_stubs}
use Rattle.aud_gen.proofs.Writing.{Kept}
use Rattle.aud_gen.proofs.writer.Writer.write_stubs.Given as goal

abbrev pub invariant-loop-way : goal.invariant-loop-way
invariant-loop-way l =
    Kept l.fn.self l.self (with_stubs l.self.lines (map plain_way (drop l.way-index l.way-items) ++ plain_way l.ways.back ∷ []) l.end l.within ≡ with_stubs l.fn.self.lines (all_ways (around 0 l.ways)) l.end l.within)
