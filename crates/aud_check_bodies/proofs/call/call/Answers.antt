use Rattle.std.proofs.Common.{subst}
use Rattle.std.specs.Prelude.{Option}
use Rattle.aud_syntax.specs.Ties.View.{plain_name}
use Rattle.aud_typed.specs.Ties.View.{plain_statement}
use Rattle.aud_names.specs.declared.resolution.Denoted.{Denoted}
use Rattle.aud_names.specs.Resolution.{Resolved, resolved}
use Rattle.aud_check_bodies.specs.declared.call.Callee.{Callee}
use Rattle.aud_check_bodies.specs.Calls.{callee_meant, called_faults, called_as}
use Rattle.aud_check_bodies.specs.Ties.Tables.{plain_tables}
use Rattle.aud_typing.specs.Ties.Typing.{in_box, Leaves}
use Rattle.aud_typing.proofs.Notes.{leaves_after}
use Rattle.aud_check_bodies.proofs.call.call.Goals as goal

pub returns : goal.returns
returns c =
    let n = plain_name c.args.name.now in
    let place = c.args.scope.now in
    let r : Resolved = resolved n place in
    let mid = c.resolve-denoted.new.faults in
    let new = c.call_of.new.faults in
    let given : Option Callee → Denoted → Type 0 = λ callee d. Leaves (in_box plain_statement) c.call_of.result mid new (called_faults callee d n place (plain_tables c.args.tables.now)) (called_as callee d n place (plain_tables c.args.tables.now)) in
    let known : given (callee_meant r.denoted.meaning) r.denoted =
    subst (λ (d : Denoted). given (callee_meant d.meaning) d) c.resolve-denoted.ensures.denoted (subst (λ callee. given callee c.resolve-denoted.result) c.callee_meant-callee.ensures c.call_of.ensures) in
    leaves_after (in_box plain_statement) c.call_of.result c.args.faults.now mid new r.faults _ _ c.resolve-denoted.ensures.noted known
