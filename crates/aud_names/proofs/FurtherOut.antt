-- What is predefined is declared within no accept and in no task's body.
use Rattle.std.proofs.Common.{◌≡◌, ℕ, Bool, true, false, List, [], is_some, refl}
use Rattle.std.specs.Prelude.{if◌then◌else◌}
use Rattle.aud_names.specs.Names.{named_in, predefined, outermost, declaring, are_in_accept, are_in_task}

pub no_accept : (name : List ℕ) → are_in_accept (declaring name outermost) ≡ false
no_accept name = by (is_some (named_in name predefined))
  where
    by : (b : Bool) → are_in_accept (if b then outermost else []) ≡ false
    by true = refl
    by false = refl

pub no_task : (name : List ℕ) → are_in_task (declaring name outermost) ≡ false
no_task name = by (is_some (named_in name predefined))
  where
    by : (b : Bool) → are_in_task (if b then outermost else []) ≡ false
    by true = refl
    by false = refl
