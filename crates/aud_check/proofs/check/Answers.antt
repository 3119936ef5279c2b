use Rattle.std.specs.Prelude.{Option, Some, None, Ok}
use Rattle.std.proofs.Common.{◌≡◌, ◌∙◌, ap, subst, sym}
use Rattle.aud_syntax.specs.Ties.View.{plain_unit}
use Rattle.aud_syntax.specs.Plain.{Unit}
use Rattle.aud_typed.specs.Ties.View.{plain_program}
use Rattle.aud_typed.specs.Why.Scoped.{IsScoped}
use Rattle.aud_scoped.specs.Declares.{DeclaresInParts}
use Rattle.aud_fault.specs.declared.fault.Fault.{Fault}
use Rattle.aud_fault.specs.Least.{noted}
use Rattle.aud_check_bodies.specs.Programs.{faults, typed}
use Rattle.aud_check.proofs.Declaring.{typed_declares}
use Rattle.aud_check.proofs.Judged.{none_noted, judged_fine, judged_wrong}
use Rattle.aud_check_bodies.proofs.Scoping.{typed_scoped}
use Rattle.aud_check.proofs.check.Goals as goal

-- the faults that were noted are none
none_of : (u : Unit) (first all : Option Fault) (got : Option Fault) → first ≡ None → all ≡ noted first (faults u) → got ≡ all → got ≡ None → noted None (faults u) ≡ None
none_of u first all got p q r e = ap (λ o. noted o (faults u)) (sym p) ∙ sym q ∙ sym r ∙ e

pub new-requires-clause-scoped : goal.new-requires-clause-scoped
new-requires-clause-scoped c =
    let u : Unit = plain_unit c.args.unit.now in
    let e : noted None (faults u) ≡ None = none_of u c.new-faults.result c.typed.new.faults c.get.result c.new-faults.ensures c.in_ok-program.ensures.0 c.get.ensures c.in-None.is in
    subst IsScoped (sym c.in_ok-program.ensures.1) (typed_scoped u (none_noted (faults u) e))

pub new-requires-clause-declares : goal.new-requires-clause-declares
new-requires-clause-declares c = subst DeclaresInParts (sym c.in_ok-program.ensures.1) (typed_declares (plain_unit c.args.unit.now))

pub returns-in-None : goal.returns-in-None
returns-in-None c =
    let u : Unit = plain_unit c.args.unit.now in
    let e : noted None (faults u) ≡ None = none_of u c.new-faults.result c.typed.new.faults c.get.result c.new-faults.ensures c.in_ok-program.ensures.0 c.get.ensures c.in-None.is in
    record {
      answer = judged_fine (faults u) (typed u) e ∙ (ap Ok (sym c.in_ok-program.ensures.1) ∙ ap (λ p. Ok (plain_program p)) (sym c.new.ensures));
      scoped = subst (λ p. IsScoped (plain_program p)) (sym c.new.ensures) (subst IsScoped (sym c.in_ok-program.ensures.1) (typed_scoped u (none_noted (faults u) e)));
      declares = subst (λ p. DeclaresInParts (plain_program p)) (sym c.new.ensures) (subst DeclaresInParts (sym c.in_ok-program.ensures.1) (typed_declares u));
    }

pub returns-in-Some-clause-answer : goal.returns-in-Some-clause-answer
returns-in-Some-clause-answer c =
    let e : noted None (faults (plain_unit c.args.unit.now)) ≡ Some c.in-Some.fault = ap (λ o. noted o (faults (plain_unit c.args.unit.now))) (sym c.new-faults.ensures) ∙ sym c.in_ok-program.ensures.0 ∙ sym c.get.ensures ∙ c.in-Some.is in
    judged_wrong (faults (plain_unit c.args.unit.now)) (typed (plain_unit c.args.unit.now)) c.in-Some.fault e
