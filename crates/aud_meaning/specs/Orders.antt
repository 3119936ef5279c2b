-- How tasks go on, at any C: by orders that are noted, or carried out.
use Rattle.std.specs.Prelude.{ℕ}
use Rattle.aud_typed.specs.declared.program.Exception.{Exception}
use Rattle.aud_meaning.specs.Control.{Moved, takes_part, does_accept, enters_body, begins_body, gets_out, passes_end, to_handler, out_by, Controls}

pub record Orders (C : Type 0) : Type 0 where
  pub takes : ℕ → C → C
  pub accepts : ℕ → C → C
  pub enters : ℕ → C → C
  pub begins : ℕ → C
  pub out : C → C
  pub behind : C → C
  pub handling : Exception → C → C
  pub left : Exception → C → C

-- they are noted
abbrev pub noted : Orders Moved
noted = record { takes = takes_part; accepts = does_accept; enters = enters_body; begins = begins_body; out = gets_out; behind = passes_end; handling = to_handler; left = out_by }

abbrev pub carried_out : {C : Type 0} → Controls C → Orders C
carried_out k = record { takes = k.takes; accepts = k.accepts; enters = k.enters; begins = k.begins; out = k.out; behind = k.behind; handling = k.handling; left = k.left }
