-- Sequences of statements, arms of an if statement, handlers, bodies, accepts and alternatives in memory, as a check leaves them.
use Rattle.std.specs.Prelude.{List, map, Box, Vec}
use Rattle.std.specs.Global.{Global}
use Rattle.aud_typed.specs.declared.program.Arm as memory
use Rattle.aud_typed.specs.declared.program.Handler.{Handler}
use Rattle.aud_typed.specs.declared.program.Statement.{Statement}
use Rattle.aud_typed.specs.declared.program.Statements.{Statements}
use Rattle.aud_typed.specs.Tree as tree
use Rattle.aud_typed.specs.declared.program.AcceptStatement.{AcceptStatement, AcceptStatement', out-AcceptStatement}
use Rattle.aud_typed.specs.declared.program.Alternative as alternative
use Rattle.aud_typed.specs.declared.program.Alternative.{Alternative}
use Rattle.aud_typed.specs.Ties.View.{plain_boolean, plain_delay, plain_statement, plain_statements, plain_row, plain_held, statements_in, handlers_in, doing_in}
use Rattle.aud_check_bodies.specs.Accepts.{TypedAccept}
use Rattle.aud_check_bodies.specs.Selects.{TypedAlternative, accepts, delays, terminates}
use Rattle.aud_check_bodies.specs.Statements.{TypedStatements, TypedArm, TypedHandler, TypedBody}

abbrev pub plain_sequence : Statements → TypedStatements
plain_sequence ss = record { first = plain_statement ss.first.value; others = plain_statements ss.others.items }

abbrev pub plain_items : Vec Statement Global → List tree.Statement
plain_items ss = plain_statements ss.items

abbrev pub plain_arm : memory.Arm → TypedArm
plain_arm a = record { at = a.at; condition = plain_boolean a.condition; statements = statements_in a.statements }

abbrev pub plain_arms : Vec memory.Arm Global → List TypedArm
plain_arms xs = map plain_arm xs.items

abbrev pub plain_handler : Handler → TypedHandler
plain_handler h = record { others = h.others; choices = h.choices.items; statements = statements_in h.statements }

abbrev pub plain_handlers : Vec Handler Global → List TypedHandler
plain_handlers hs = map plain_handler hs.items

-- the statements of a body and its handlers
abbrev pub plain_parts : Box Statements Global × Vec Handler Global → TypedBody
plain_parts p = record { statements = statements_in p.0.value; handlers = handlers_in p.1.items }

abbrev pub plain_accepted : AcceptStatement → TypedAccept
plain_accepted (AcceptStatement' at entry doing) = record { at = at; entry = entry; doing = plain_held doing }

abbrev pub plain_accepted_parts : AcceptStatement → TypedAccept
plain_accepted_parts s = let x = out-AcceptStatement s in record { at = x.at; entry = x.entry; doing = doing_in x.doing }

abbrev pub plain_alternative : Alternative → TypedAlternative
plain_alternative (alternative.Accept' guard accept _ after) = accepts (plain_boolean guard) (plain_accepted accept) (tree.part_of (plain_row after))
plain_alternative (alternative.Delay' guard e _ after) = delays (plain_boolean guard) (plain_delay e) (tree.part_of (plain_row after))
plain_alternative (alternative.Terminate guard) = terminates (plain_boolean guard)

abbrev pub plain_alternatives : Vec Alternative Global → List TypedAlternative
plain_alternatives xs = map plain_alternative xs.items
