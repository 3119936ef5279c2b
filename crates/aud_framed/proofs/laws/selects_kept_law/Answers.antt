use Rattle.aud_framed.proofs.Stepping.Selects.{selects_good}
use Rattle.aud_framed.proofs.laws.selects_kept_law.Goals as goal

pub returns : goal.returns
returns c = record {
  kept = λ plan code table tasks barriers seen limits alternative has_else waits at n x t sound fits ways kept is running none still free outside its asks_it.
      selects_good plan code table tasks barriers seen sound fits ways alternative has_else waits at n x t kept is running none still free outside its asks_it;
}
