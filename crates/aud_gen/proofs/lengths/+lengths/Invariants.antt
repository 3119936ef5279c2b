use Rattle.std.proofs.Common.{◌≡◌, ◌+◌, drop}
use Rattle.aud_typed.specs.Tree.{part_of}
use Rattle.aud_typed.specs.Ties.View.{plain_statements, if_in, handlers_in, alternatives_in}
use Rattle.aud_layout.specs.Layout.{statement_size_by, part_size_by, handlers_size_by, offered_size_by}
use Rattle.aud_layout.specs.Written.{flat_step}
use Rattle.aud_gen.specs.Writes.{counted}
use Rattle.aud_gen.proofs.Lists.{arms_length}
use Rattle.aud_gen.proofs.lengths.+lengths.Given as goal

abbrev pub invariant-handlers_length-loop-handler : goal.invariant-handlers_length-loop-handler
invariant-handlers_length-loop-handler l = (l.total ≡ counted l.total) × (counted (l.total + handlers_size_by flat_step (handlers_in (drop l.handler-index l.handlers)) l.ways) ≡ counted (handlers_size_by flat_step (handlers_in l.handlers) l.ways))

abbrev pub invariant-if_length-loop-arm : goal.invariant-if_length-loop-arm
invariant-if_length-loop-arm l = (l.total ≡ counted l.total) × (counted (l.total + arms_length (drop l.arm-index l.arm-items) l.ways) ≡ counted (statement_size_by flat_step (if_in l.s) l.ways))

abbrev pub invariant-list_length-loop-s : goal.invariant-list_length-loop-s
invariant-list_length-loop-s l = (l.total ≡ counted l.total) × (counted (l.total + part_size_by flat_step (part_of (plain_statements (drop l.s-index l.ss))) l.ways) ≡ counted (part_size_by flat_step (part_of (plain_statements l.ss)) l.ways))

abbrev pub invariant-alternatives_length-loop-alternative : goal.invariant-alternatives_length-loop-alternative
invariant-alternatives_length-loop-alternative l = (l.total ≡ counted l.total) × (counted (l.total + offered_size_by flat_step (alternatives_in (drop l.alternative-index l.alternatives)) l.ways) ≡ counted (offered_size_by flat_step (alternatives_in l.alternatives) l.ways))
