use Rattle.std.proofs.Common.{false, ap}
use Rattle.aud_typed.specs.Tree as tree
use Rattle.aud_check_bodies.specs.Tables.{nowhere}
use Rattle.aud_check_bodies.proofs.Parts.{empty_body}
use Rattle.aud_check_bodies.proofs.tables.no_body.Goals as goal

pub returns : goal.returns
returns c = ap {B = tree.UnitBody} (λ b. record { level = 0; region = 0; is_function = false; at = nowhere; body = b }) (empty_body nowhere c.in_ok-first.first c.new.result c.new-2.result c.new-3.result c.in_ok-first.ensures c.new.ensures.items c.new-2.ensures.items c.new-3.ensures.items)
