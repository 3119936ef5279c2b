use Rattle.aud_cursor.proofs.Choosing.{remains_this, remains_other, remains_none}
use Rattle.aud_cursor.proofs.cursor.chosen.Goals as goal

pub loop-entry-init : goal.loop-entry-init
loop-entry-init g c = λ x h. h

pub returns-in-Some : goal.returns-in-Some
returns-in-Some g c = record { reads = (remains_this c.loop-entry.entry-index c.loop-entry-test.true c.entry-item.is c.loop-entry.invariant c.in-Some.ensures.reads.0, c.in-Some.ensures.reads.1); shorter = c.in-Some.ensures.shorter }

pub loop-entry-preserved : goal.loop-entry-preserved
loop-entry-preserved g c = remains_other c.loop-entry.entry-index c.loop-entry-test.true c.entry-item.is c.loop-entry.invariant c.in_default.ensures.reads

pub returns : goal.returns
returns g c = record { reads = remains_none c.loop-entry.entry-index c.loop-entry-test.false c.loop-entry.invariant; shorter = tt }
