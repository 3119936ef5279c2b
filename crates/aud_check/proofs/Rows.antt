-- A small program with two faults.
use Rattle.std.specs.Prelude.{[], Err, Some, codes}
use Rattle.std.proofs.Common.{◌≡◌, refl}
use Rattle.aud_text.specs.declared.refusal.Refusal.TheVariants.{NameNotDeclared}
use Rattle.aud_syntax.specs.Plain.{name, assign, body, no_handlers, unit}
use Rattle.aud_syntax.specs.Why.Shorthand.{at, id, only, var_at, statements, declarations}
use Rattle.aud_check.specs.Checked.{checked}

-- of two faults the first in the text, though it is found later
first_row : checked (unit [] (at 1 1) (id (codes "P") (at 1 11)) (declarations []) (body (at 5 1) (statements (assign (var_at (codes "C") (at 6 1)) (only (name (var_at (codes "D") (at 6 6))))) []) no_handlers (at 9 1) (Some (id (codes "P") (at 9 5))) (at 9 6))) ≡ Err (record { at = at 6 1; refusal = NameNotDeclared })
first_row = refl
