use Rattle.aud_framed.proofs.Stepping.Served.{ended_entry, left_entry}
use Rattle.aud_framed.proofs.laws.entry_ended_law.Goals as goal

pub returns : goal.returns
returns c = record {
  ended = λ plan code table tasks barriers seen limits alternative n x t o os object id served back next sound fits ways w is running none unserving unmade opened entry ending.
      ended_entry plan code table tasks barriers seen sound fits ways limits alternative n x t o os object id served back next w is running none unserving unmade opened entry ending;
  left = λ plan code table tasks barriers seen limits alternative n x t o os object id served back p sound fits ways w is running pending unserving unmade inner entry.
      left_entry plan code table tasks barriers seen sound fits ways limits alternative n x t o os object id served back p w is running pending unserving unmade inner entry;
}
