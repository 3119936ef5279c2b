-- What of a task decides whether masters may be left.
use Rattle.std.specs.Prelude.{true}
use Rattle.aud_meaning.specs.Configuration.{Own}
use Rattle.aud_meaning.specs.Parts.{blocks, runs}
use Rattle.aud_state.specs.View.{plain_waits}
use Rattle.aud_masters.specs.declared.mark.Change.{Change}
use Rattle.aud_masters.specs.declared.mark.Change.TheVariants.{Waits, GoesOn, Abnormal}

abbrev pub marked : Change → Own → Own
marked (Waits status at waits) own = blocks status at (plain_waits waits) own
marked GoesOn own = runs own
marked Abnormal own = record own { abnormal = true }
