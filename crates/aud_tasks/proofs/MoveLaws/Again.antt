-- The end of an accept that makes its call again.
use Rattle.std.proofs.Common.{◌≡◌, ℕ, List, [], ◌∷◌, Option, Some, None, true, false, if◌then◌else◌, slice_get, refl, ap, sym, ◌∙◌}
use Rattle.std.specs.Prelude.{is_some}
use Rattle.aud_typed.specs.Tree.{Plan}
use Rattle.aud_meaning.specs.declared.state.Again.{Again}
use Rattle.aud_meaning.specs.declared.state.Owner.{Owner}
use Rattle.aud_meaning.specs.declared.state.Owner.TheVariants as owner
use Rattle.aud_meaning.specs.declared.state.Pending.{Pending}
use Rattle.aud_meaning.specs.Configuration.{Back, Opened, Purpose, for_body, for_block, for_loop, for_procedure, for_operation, for_entry, for_accept, TaskAt, All}
use Rattle.aud_meaning.specs.Control.{Coming, simply, ending, selecting, calling, starting}
use Rattle.aud_meaning.specs.Evaluation.{Sight}
use Rattle.aud_meaning.specs.Parts.{own_of, sight_of}
use Rattle.aud_meaning.specs.Run.{again_left, again_on_task, master_left_by}
use Rattle.aud_code.specs.declared.line.Among.TheVariants as among
use Rattle.aud_code.specs.declared.line.Ending.TheVariants.{Declare, DeclareArray, Null, Assign, Put, If, While, Loop, Exit, Raise, RaiseAgain, Block, Return, ReturnValue, OwnCall, Call}
use Rattle.aud_code.specs.declared.line.Last.{Last}
use Rattle.aud_code.specs.declared.line.Last.TheVariants.{Does, Concerns, Continues, Guards, Ends, Leaves}
use Rattle.aud_code.specs.Flat.{Flat, EndLine, coming_last, end_at, no_end}
use Rattle.aud_code.specs.Instruction.{Ended}
use Rattle.aud_code.specs.Places.{Spot}
use Rattle.aud_code.specs.View.{plain_last}
use Rattle.aud_store.specs.declared.purpose.Purpose as stored
use Rattle.aud_store.specs.declared.purpose.Purpose.TheVariants.{Accept, Body, Entry, Operation, Procedure}
use Rattle.aud_store.specs.declared.purpose.Purpose.TheVariants as opened
use Rattle.aud_store.specs.Ties.Stored.{plain_purpose}
use Rattle.aud_tasks.specs.Choices.{again_in, for_an_accept, is_accept, is_end, is_ending, leaves_accept, marked, target_in, MakesAgain}
use Rattle.aud_tasks.specs.declared.again.Target.{Target}
use Rattle.aud_tasks.specs.Turning.{coming_in}
use Rattle.aud_tasks.proofs.MoveLaws.Chosen.{as_last, at_end, coming_as}

-- By the construct that is left.

-- where a master is left no call is made again
by_purpose : (p : Option Pending) (r : Option Again) (u : Purpose) (o : Opened) (os : List Opened) (master : ℕ) → master_left_by (record o { purpose = u } ∷ os) ≡ Some master → again_left p r (record o { purpose = u } ∷ os) ≡ None
by_purpose (Some p) r u o os master is = refl
by_purpose None r for_body o os master is = refl
by_purpose None r for_block o os master is = refl
by_purpose None r for_loop o os master is = refl
by_purpose None r (for_procedure x) o os master is = refl
by_purpose None r (for_operation n x) o os master is = refl
by_purpose None r (for_entry n i s b) o os master is = refl
by_purpose None r (for_accept i) o os master is = absurd cc

pub master_left : (p : Option Pending) (r : Option Again) (os : List Opened) (master : ℕ) → master_left_by os ≡ Some master → again_left p r os ≡ None
master_left p r [] master is = absurd cc
master_left p r (o ∷ os) master is = by_purpose p r o.purpose o os master is

-- and where one is made again no master is left
pub leaves_none : (p : Option Pending) (r : Option Again) (os : List Opened) → is_some (again_left p r os) ≡ true → master_left_by os ≡ None
leaves_none p r os again = by (master_left_by os) refl
  where
    by : (m : Option ℕ) → master_left_by os ≡ m → master_left_by os ≡ None
    by None is = is
    by (Some master) is = let wrong : false ≡ true = sym (ap is_some (master_left p r os master is)) ∙ again in absurd cc

-- none is made again where an exception is pending, or without such a requeue
pub none_pending : (p : Option Pending) (r : Option Again) (os : List Opened) → is_some p ≡ true → again_left p r os ≡ None
none_pending None r os h = absurd cc
none_pending (Some p) r os h = refl

none_by : (u : Purpose) (o : Opened) (os : List Opened) → again_left None None (record o { purpose = u } ∷ os) ≡ None
none_by for_body o os = refl
none_by for_block o os = refl
none_by for_loop o os = refl
none_by (for_procedure x) o os = refl
none_by (for_operation n x) o os = refl
none_by (for_entry n i s b) o os = refl
none_by (for_accept i) o os = refl

none_left : (p : Option Pending) (os : List Opened) → again_left p None os ≡ None
none_left (Some p) os = refl
none_left None [] = refl
none_left None (o ∷ os) = none_by o.purpose o os

pub none_again : (p : Option Pending) (r : Option Again) (os : List Opened) → r ≡ None → again_left p r os ≡ None
none_again p r os is = ap (λ x. again_left p x os) is ∙ none_left p os

-- else it is, where an accept is left
made_by : (r : Again) (u : Purpose) (o : Opened) (os : List Opened) → again_left None (Some r) (record o { purpose = u } ∷ os) ≡ (if for_an_accept u then again_on_task r else None)
made_by r for_body o os = refl
made_by r for_block o os = refl
made_by r for_loop o os = refl
made_by r (for_procedure x) o os = refl
made_by r (for_operation n x) o os = refl
made_by r (for_entry n i s b) o os = refl
made_by r (for_accept i) o os = refl

pub made_again : (r : Again) (os : List Opened) → again_left None (Some r) os ≡ (if leaves_accept os then again_on_task r else None)
made_again r [] = refl
made_again r (o ∷ os) = made_by r o.purpose o os

-- on a task's entry
pub on_task_one : (r : Again) (task : ℕ) → r.owner ≡ owner.Task task → again_on_task r ≡ Some (task, r.entry)
on_task_one r task is = ap (λ (o : Owner). again_on_task (record r { owner = o })) is

pub on_object_none : (r : Again) (object : ℕ) → r.owner ≡ owner.Object object → again_on_task r ≡ None
on_object_none r object is = ap (λ (o : Owner). again_on_task (record r { owner = o })) is

quiet_none : (p : Option Pending) → is_some p ≡ false → p ≡ None
quiet_none None h = refl
quiet_none (Some p) h = absurd cc

pub again_as : (p : Option Pending) (q : Option Again) (r : Again) (os : List Opened) → is_some p ≡ false → q ≡ Some r → again_left p q os ≡ again_left None (Some r) os
again_as p q r os quiet is = ap (λ x. again_left x q os) (quiet_none p quiet) ∙ ap (λ x. again_left None x os) is

-- as memory tells it
pub is_for_accept : (u : stored.Purpose) (backs : List Back) → is_accept u ≡ for_an_accept (plain_purpose u backs)
is_for_accept Body backs = refl
is_for_accept opened.Block backs = refl
is_for_accept opened.Loop backs = refl
is_for_accept (Procedure level r) backs = refl
is_for_accept (Operation object r) backs = refl
is_for_accept (Entry object call served resumed) backs = refl
is_for_accept (Accept call) backs = refl

-- By the ending of the step.
module _ (plan : Plan) (s : Sight) (x : Ended) where
  told : (l : Last) → is_end l ≡ is_ending (coming_last plan (plain_last l) s x)
  told (Does (Declare up_to again) next) = refl
  told (Does (DeclareArray t n) next) = refl
  told (Does Null next) = refl
  told (Does Assign next) = refl
  told (Does Put next) = refl
  told (Does (If inside) next) = refl
  told (Does (While inside) next) = refl
  told (Does (Loop f inside) next) = refl
  told (Does (Exit w) next) = refl
  told (Does (Raise z) next) = refl
  told (Does RaiseAgain next) = refl
  told (Does (Block region inside) next) = refl
  told (Does (Return w) next) = refl
  told (Does (Call unit) next) = refl
  told (Does (ReturnValue w) next) = refl
  told (Does OwnCall next) = refl
  told (Concerns (among.DeclareTasks ts) next) = refl
  told (Concerns (among.DeclareObject k) next) = refl
  told (Concerns among.Activate next) = refl
  told (Concerns among.Activated next) = refl
  told (Concerns (among.Call entry form otherwise) next) = refl
  told (Concerns (among.CallObject v entry form otherwise) next) = refl
  told (Concerns (among.Operation v unit) next) = refl
  told (Concerns among.Delay next) = refl
  told (Concerns among.Abort next) = refl
  told (Concerns (among.RequeueTask again way) next) = refl
  told (Concerns (among.RequeueObject v again way) next) = refl
  told (Concerns (among.Accept entry region body) next) = refl
  told (Concerns (among.Select has_else own offers) next) = refl
  told (Continues f behind inside) = refl
  told (Guards gs) = refl
  told (Ends c next) = refl
  told (Leaves n to) = refl

module _ (plan : Plan) (code : Flat) (n : ℕ) (c : All Spot) (t : TaskAt Spot) (there : slice_get c.tasks n ≡ Some t) (quiet : is_some (own_of n c).pending ≡ false) (place : ℕ) (stands : (t : TaskAt Spot) → slice_get c.tasks n ≡ Some t → place ≡ t.control.place) where
  -- it stands where no step does more
  pub ends_there : end_at code place ≡ no_end place → true ≡ is_ending (coming_in plan code n c)
  ends_there none =
      sym (ap is_ending (coming_as plan code n c (Some t) there
      ∙ at_end plan code n c quiet t there
      ∙ ap (λ (l : EndLine). coming_last plan l.last (sight_of n c) (marked code n t c)) (ap (end_at code) (sym (stands t there)) ∙ none)))

  pub ends_so : (l : Last) → plain_last l ≡ (end_at code place).last → is_end l ≡ is_ending (coming_in plan code n c)
  ends_so l ends =
      told plan (sight_of n c) (marked code n t c) l
      ∙ ap is_ending (sym (coming_as plan code n c (Some t) there ∙ as_last plan code n c quiet place l stands ends t there))

pub ending_is : (x : Coming) → is_ending x ≡ true → x ≡ ending
ending_is ending h = refl
ending_is (simply w) h = absurd cc
ending_is (selecting ones) h = absurd cc
ending_is (calling task entry) h = absurd cc
ending_is (starting object reading) h = absurd cc

pub never_ending : {A : Type 0} (x : Coming) → is_ending x ≡ false → x ≡ ending → A
never_ending x h is = let wrong : true ≡ false = sym (ap is_ending is) ∙ h in absurd cc

pub makes_again : (code : Flat) (n : ℕ) (c : All Spot) (o : Option Target) → target_in o ≡ again_in n c → ((plan : Plan) → coming_in plan code n c ≡ ending) → MakesAgain code n c o
makes_again code n c None is comes = λ plan h. sym is
makes_again code n c (Some t) is comes = (comes, sym is)
