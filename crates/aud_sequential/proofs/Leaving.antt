-- Where a task stands, and which master its next step leaves.
use Rattle.std.proofs.Common.{◌≡◌, ℕ, Option, Some, None, Bool, true, false, not, refl, sym, subst}
use Rattle.aud_typed.specs.Tree.{Plan}
use Rattle.aud_meaning.specs.declared.state.Pending.{Pending}
use Rattle.aud_meaning.specs.Control.{Coming, simply, ending, selecting, calling, starting}
use Rattle.aud_meaning.specs.Evaluation.{Sight}
use Rattle.aud_meaning.specs.Statements.{coming_raised}
use Rattle.aud_meaning.specs.Run.{master_left_by}
use Rattle.aud_meaning.specs.Ties.Part.{Part}
use Rattle.aud_meaning.specs.Ties.Stack.{out_of_loops}
use Rattle.aud_code.specs.declared.line.EndLine.{EndLine}
use Rattle.aud_code.specs.declared.line.Ending.TheVariants.{Declare, DeclareArray, Null, Assign, Put, If, While, Loop, Exit, Raise, RaiseAgain, Block, Return, ReturnValue, Call, OwnCall}
use Rattle.aud_code.specs.declared.line.Last.{Last}
use Rattle.aud_code.specs.declared.line.Among.TheVariants as among
use Rattle.aud_code.specs.declared.line.Last.TheVariants.{Does, Concerns, Continues, Guards, Ends, Leaves}
use Rattle.aud_code.specs.Places.{Spot, is_there}
use Rattle.aud_code.specs.Instruction.{Ended, no_operands}
use Rattle.aud_code.specs.Eval.{eval}
use Rattle.aud_code.specs.Flat.{Flat, coming_at, instructions_at, end_at, no_end, no_scene, coming_last, handler_at}
use Rattle.aud_code.specs.Flat as flat
use Rattle.aud_code.specs.View.{plain_end, plain_last}
use Rattle.aud_sequential.specs.Standing.{leaves_by, IsLeaving, LeavesIn, IsOfMaster, LeavesMaster}

-- whether a step leaves a construct, by how it ends
leaving : (plan : Plan) (last : Last) (s : Sight) (x : Ended) → IsLeaving (leaves_by last) (coming_last plan (plain_last last) s x)
leaving plan (Does (Declare up_to again) next) s x = refl
leaving plan (Does (DeclareArray t n) next) s x = refl
leaving plan (Does Null next) s x = refl
leaving plan (Does Assign next) s x = refl
leaving plan (Does Put next) s x = refl
leaving plan (Does (If inside) next) s x = refl
leaving plan (Does (While inside) next) s x = refl
leaving plan (Does (Loop f inside) next) s x = refl
leaving plan (Does (Exit w) next) s x = refl
leaving plan (Does (Raise y) next) s x = refl
leaving plan (Does RaiseAgain next) s x = refl
leaving plan (Does (Block region inside) next) s x = refl
leaving plan (Does (Return w) next) s x = refl
leaving plan (Does (ReturnValue w) next) s x = refl
leaving plan (Does (Call unit) next) s x = refl
leaving plan (Does OwnCall next) s x = refl
leaving plan (Concerns (among.DeclareTasks ts) next) s x = refl
leaving plan (Concerns (among.DeclareObject n) next) s x = refl
leaving plan (Concerns among.Activate next) s x = refl
leaving plan (Concerns among.Activated next) s x = refl
leaving plan (Concerns (among.Call entry form otherwise) next) s x = refl
leaving plan (Concerns (among.CallObject v entry form otherwise) next) s x = refl
leaving plan (Concerns (among.Operation v unit) next) s x = refl
leaving plan (Concerns among.Delay next) s x = refl
leaving plan (Concerns among.Abort next) s x = refl
leaving plan (Concerns (among.RequeueTask r w) next) s x = refl
leaving plan (Concerns (among.RequeueObject v r w) next) s x = refl
leaving plan (Concerns (among.Accept entry region body) next) s x = refl
leaving plan (Concerns (among.Select has_else own offers) next) s x = refl
leaving plan (Continues f behind inside) s x = refl
leaving plan (Guards gs) s x = refl
leaving plan (Ends c next) s x = refl
leaving plan (Leaves n to) s x = refl

module _ (code : Flat) (q : Part Spot) (leaves : Bool) where
  abbrev Comes : Option Pending → Type 0
  Comes pending = (plan : Plan) (s : Sight) → IsLeaving leaves (coming_at code plan pending s q.control)

  pub statement_leaves : (l : EndLine) → q.pending ≡ None → plain_end l ≡ end_at code q.control.place → leaves ≡ leaves_by l.last → LeavesIn code q leaves
  statement_leaves l none is_end is =
      subst Comes (sym none) (λ plan s.
      let x = eval true (no_scene s) (instructions_at code q.control.place) 0 no_operands in
      subst (λ (e : flat.EndLine). IsLeaving leaves (coming_last plan e.last s x)) is_end
      (subst (λ b. IsLeaving b (coming_last plan (plain_last l.last) s x)) (sym is) (leaving plan l.last s x)))

  -- behind all lines
  pub end_leaves : (place : ℕ) → q.pending ≡ None → end_at code q.control.place ≡ no_end place → leaves ≡ true → LeavesIn code q leaves
  end_leaves place none is_end is =
      subst Comes (sym none) (λ plan s.
      let x = eval true (no_scene s) (instructions_at code q.control.place) 0 no_operands in
      subst (λ (e : flat.EndLine). IsLeaving leaves (coming_last plan e.last s x)) (sym is_end) is)

  raised_leaves : (handled : Bool) → leaves ≡ not handled → IsLeaving leaves (coming_raised handled)
  raised_leaves true is = is
  raised_leaves false is = is

  -- with an exception pending
  pub handler_leaves : (p : Pending) (h : Option ℕ) → q.pending ≡ Some p → h ≡ handler_at code p.exception q.control → leaves ≡ not (is_there h) → LeavesIn code q leaves
  handler_leaves p h pends is found =
      subst Comes (sym pends) (λ plan s.
      subst (λ h. IsLeaving leaves (coming_raised (is_there h))) is (raised_leaves (is_there h) found))

module _ (code : Flat) (q : Part Spot) where
  none_by : (x : Coming) → IsLeaving false x → IsOfMaster q.stack None x
  none_by (simply w) h = refl
  none_by ending h = absurd cc
  none_by (selecting ones) h = refl
  none_by (calling task entry) h = refl
  none_by (starting object reading) h = refl

  pub none_left : LeavesIn code q false → LeavesMaster code q None
  none_left h = λ plan s. none_by (coming_at code plan q.pending s q.control) (h plan s)

  some_by : (master : Option ℕ) (x : Coming) → master ≡ master_left_by (out_of_loops q.stack).opened → IsLeaving true x → IsOfMaster q.stack master x
  some_by master (simply w) is h = absurd cc
  some_by master ending is h = is
  some_by master (selecting ones) is h = absurd cc
  some_by master (calling task entry) is h = absurd cc
  some_by master (starting object reading) is h = absurd cc

  pub some_left : (master : Option ℕ) → master ≡ master_left_by (out_of_loops q.stack).opened → LeavesIn code q true → LeavesMaster code q master
  some_left master is h = λ plan s. some_by master (coming_at code plan q.pending s q.control) is (h plan s)
