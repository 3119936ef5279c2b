use Rattle.aud_framed.proofs.Stepping.Kinds.{ends_good, left_good}
use Rattle.aud_framed.proofs.laws.ends_kept_law.Goals as goal

pub returns : goal.returns
returns c = record {
  kept = λ plan code table tasks barriers seen limits alternative n loops x t p sound fits ways kept is running unserving unmade tells. (
    λ none asked. ends_good plan code table tasks barriers seen sound fits ways limits alternative n x t kept is running unserving unmade tells loops none asked,
    λ pending still. left_good plan code table tasks barriers seen sound fits ways limits alternative n x t kept is running unserving unmade tells p pending still,
  );
}
