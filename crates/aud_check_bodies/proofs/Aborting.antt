-- Tasks that are still to be checked, behind those that were.
use Rattle.std.specs.Prelude.{List, ◌++◌, Option}
use Rattle.std.proofs.Common.{◌≡◌, refl, sym, ◌∙◌, ap, append_assoc, append-nil}
use Rattle.aud_syntax.specs.Plain.{Name, Names, no_names, more_names}
use Rattle.aud_typed.specs.Tree.{TaskName}
use Rattle.aud_fault.specs.declared.fault.Fault.{Fault}
use Rattle.aud_fault.specs.Least.{noted}
use Rattle.aud_names.specs.Names.{Place}
use Rattle.aud_check_bodies.specs.Aborts.{named_faults, named_task, listed, others_faults, other_tasks}
use Rattle.aud_typing.proofs.Notes.{noted_append}

pub record TasksAhead (now : Option Fault) (all : List TaskName) (ns : Names) (place : Place) (old : Option Fault) (all0 : List TaskName) (ns0 : Names) : Type 0 where
  pub faults : noted now (others_faults ns place) ≡ noted old (others_faults ns0 place)
  pub tasks : all ++ other_tasks ns place ≡ all0 ++ other_tasks ns0 place

pub tasks_begin : (place : Place) (old : Option Fault) (all : List TaskName) (ns : Names) → TasksAhead old all ns place old all ns
tasks_begin place old all ns = record { faults = refl; tasks = refl }

-- one more is checked
pub tasks_ahead : (place : Place) (old mid new : Option Fault) (all next all0 : List TaskName) (x : Name) (ns behind ns0 : Names) → behind ≡ more_names x ns
    → TasksAhead mid all behind place old all0 ns0
    → new ≡ noted mid (named_faults x place)
    → next ≡ all ++ listed (named_task x place)
    → TasksAhead new next ns place old all0 ns0
tasks_ahead place old mid new all next all0 x ns behind ns0 p a q e = record {
  faults = ap (λ z. noted z (others_faults ns place)) q ∙ sym (noted_append mid (named_faults x place) (others_faults ns place)) ∙ sym (ap (λ l. noted mid (others_faults l place)) p) ∙ a.faults;
  tasks = ap (λ z. z ++ other_tasks ns place) e ∙ append_assoc all (listed (named_task x place)) (other_tasks ns place) ∙ sym (ap (λ l. all ++ other_tasks l place) p) ∙ a.tasks;
}

-- all are checked
pub tasks_end : (place : Place) (old now : Option Fault) (all all0 : List TaskName) (ns ns0 : Names) → ns ≡ no_names → TasksAhead now all ns place old all0 ns0 → (now ≡ noted old (others_faults ns0 place)) × (all ≡ all0 ++ other_tasks ns0 place)
tasks_end place old now all all0 ns ns0 p a = (
  sym (ap (λ l. noted now (others_faults l place)) p) ∙ a.faults,
  sym (append-nil all) ∙ sym (ap (λ l. all ++ other_tasks l place) p) ∙ a.tasks,
)
