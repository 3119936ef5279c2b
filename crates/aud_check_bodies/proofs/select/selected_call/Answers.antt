use Rattle.std.specs.Prelude.{List, ◌++◌, Option}
use Rattle.std.proofs.Common.{◌≡◌, ap, subst, ◌∙◌}
use Rattle.aud_syntax.specs.Ties.View.{plain_name}
use Rattle.aud_fault.specs.declared.fault.Fault.{Fault}
use Rattle.aud_fault.specs.Least.{noted}
use Rattle.aud_names.specs.declared.resolution.Denoted.{Denoted}
use Rattle.aud_names.specs.Resolution.{Resolved, resolved}
use Rattle.aud_check_bodies.specs.declared.call.Callee.{Callee}
use Rattle.aud_check_bodies.specs.Calls.{EntryCalled, callee_meant, called_faults, selected_faults, selected_as, selected_call}
use Rattle.aud_check_bodies.specs.Ties.Passed.{plain_maybe_called}
use Rattle.aud_check_bodies.specs.Ties.Tables.{plain_tables}
use Rattle.aud_typing.specs.Ties.Typing.{Leaves}
use Rattle.aud_typing.proofs.Notes.{leaves_after}
use Rattle.aud_check_bodies.proofs.select.selected_call.Goals as goal

pub returns : goal.returns
returns c =
    let n = plain_name c.args.name.now in
    let place = c.args.scope.now in
    let t = plain_tables c.args.tables.now in
    let r : Resolved = resolved n place in
    let result = c.selected_as.result in
    let f1 = c.resolve-denoted.new.faults in
    let f2 = c.check_selected.new.faults in
    let f3 = c.selected_as.new.faults in
    let given : Option Callee → Denoted → Type 0 = λ callee d. Leaves plain_maybe_called result f2 f3 (called_faults callee d n place t) (selected_as callee n place t) in
    let known : given (callee_meant r.denoted.meaning) r.denoted =
    subst (λ (d : Denoted). given (callee_meant d.meaning) d) c.resolve-denoted.ensures.denoted (subst (λ callee. given callee c.resolve-denoted.result) c.callee_meant-callee.ensures c.selected_as.ensures) in
    let first : List Fault = selected_faults r.denoted.meaning r.denoted.at in
    let last : List Fault = called_faults (callee_meant r.denoted.meaning) r.denoted n place t in
    let made : Option EntryCalled = selected_call n place t in
    let checked : f2 ≡ noted f1 first = c.check_selected.ensures ∙ ap (λ (d : Denoted). noted f1 (selected_faults d.meaning d.at)) c.resolve-denoted.ensures.denoted in
    leaves_after plain_maybe_called result c.args.faults.now f1 f3 r.faults (first ++ last) made c.resolve-denoted.ensures.noted (leaves_after plain_maybe_called result f1 f2 f3 first last made checked known)
