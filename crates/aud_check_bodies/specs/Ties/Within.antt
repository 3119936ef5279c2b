-- What is shown by a check of statements in memory, by where they stand.
use Rattle.std.specs.Prelude.{◌≡◌, List, Option, Some, None, Box, Result, Ok, Err}
use Rattle.std.specs.Global.{Global}
use Rattle.std.specs.declared.alloc.AllocError.{AllocError}
use Rattle.aud_syntax.specs.Plain.{Statement}
use Rattle.aud_typed.specs.declared.program.Statement as memory
use Rattle.aud_typed.specs.Ties.View.{plain_statement}
use Rattle.aud_fault.specs.declared.fault.Fault.{Fault}
use Rattle.aud_check_bodies.specs.declared.within.Within.{Within}
use Rattle.aud_check_bodies.specs.declared.within.Entering.{Entering}
use Rattle.aud_fault.specs.Least.{noted}
use Rattle.aud_check_bodies.specs.Tables.{Tables, Outcome}
use Rattle.aud_check_bodies.specs.Statements.{Around, checked_statement}
use Rattle.aud_check_bodies.specs.Requeues.{Requeuing}
use Rattle.aud_check_bodies.specs.declared.within.Requeuing as memory_requeuing
use Rattle.aud_check_bodies.specs.declared.within.Requeuing.TheVariants.{Nowhere, Accept, Entry}
use Rattle.aud_names.specs.declared.names.NamedParameter.{NamedParameter}
use Rattle.aud_check_bodies.specs.Ties.Labels.{plain_labels}
use Rattle.aud_typing.specs.Ties.Typing.{in_box}

-- the accept or entry body with these formals whose call a requeue makes again
abbrev pub plain_requeuing : memory_requeuing.Requeuing → List NamedParameter → Option Requeuing
plain_requeuing Nowhere profile = None
plain_requeuing Accept profile = Some (record { profile = profile; object = None })
plain_requeuing (Entry number) profile = Some (record { profile = profile; object = Some number })

-- the constructs around a statement
abbrev pub around_of : Within → Around
around_of within = record { labels = plain_labels within.labels.now; in_handler = within.in_handler; leaves = within.leaves; accepting = within.accepting.now; requeuing = plain_requeuing within.requeuing within.profile.now }

abbrev pub around_entering : Entering → Around
around_entering entering = record { labels = plain_labels entering.labels.now; in_handler = entering.in_handler; leaves = entering.leaves; accepting = entering.accepting.now; requeuing = plain_requeuing entering.requeuing entering.profile.now }

-- the faults are noted, these are the tables, and this is made; nothing is said where memory is refused
abbrev pub Checks : {X Y : Type 0} → (X → Y) → Result X AllocError → Option Fault → Option Fault → Tables → Outcome Y → Type 0
Checks plain (Ok x) old new tables o = (new ≡ noted old o.faults) × (tables ≡ o.tables) × (plain x ≡ o.made)
Checks plain (Err e) old new tables o = Unit {0}

abbrev pub ChecksStatement : Result (Box memory.Statement Global) AllocError → Option Fault → Option Fault → Tables → Tables → Statement → Within → Type 0
ChecksStatement result old new old_tables new_tables s within = Checks (in_box plain_statement) result old new new_tables (checked_statement s (around_of within) within.scope.now old_tables)
