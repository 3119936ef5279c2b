-- The next step of a task.
use Rattle.std.proofs.Common.{◌≡◌, ℕ, Option, Some, None, true, refl, sym, subst}
use Rattle.aud_typed.specs.Tree.{Plan}
use Rattle.aud_meaning.specs.declared.state.StepKind.{StepKind}
use Rattle.aud_meaning.specs.declared.state.Pending.{Pending}
use Rattle.aud_meaning.specs.Evaluation.{Sight}
use Rattle.aud_meaning.specs.Statements.{coming_raised}
use Rattle.aud_meaning.specs.Run.{end_kind_by}
use Rattle.aud_meaning.specs.Ties.Part.{Part}
use Rattle.aud_meaning.specs.Ties.Stack.{Stack, out_of_loops}
use Rattle.aud_code.specs.declared.line.EndLine.{EndLine}
use Rattle.aud_code.specs.declared.line.Ending.TheVariants.{Declare, DeclareArray, Null, Assign, Put, If, While, Loop, Exit, Raise, RaiseAgain, Block, Return, ReturnValue, Call, OwnCall}
use Rattle.aud_code.specs.declared.line.Last.{Last}
use Rattle.aud_code.specs.declared.line.Among.TheVariants as among
use Rattle.aud_code.specs.declared.line.Last.TheVariants.{Does, Concerns, Continues, Guards, Ends, Leaves}
use Rattle.aud_code.specs.Places.{Spot, is_there}
use Rattle.aud_code.specs.Instruction.{Ended, no_operands}
use Rattle.aud_code.specs.Eval.{eval}
use Rattle.aud_code.specs.Flat.{coming_at, Flat, instructions_at, end_at, no_end, no_scene, coming_last, handler_at}
use Rattle.aud_code.specs.Flat as flat
use Rattle.aud_code.specs.View.{plain_end, plain_last}
use Rattle.aud_sequential.specs.Next.{step_kind, IsOfKind, IsNextKind}

-- what a step is, by how it ends
of_kind : (plan : Plan) (stack : Stack) (last : Last) (s : Sight) (x : Ended) → IsOfKind stack (step_kind last (end_kind_by (out_of_loops stack).opened)) (coming_last plan (plain_last last) s x)
of_kind plan stack (Does (Declare up_to again) next) s x = refl
of_kind plan stack (Does (DeclareArray t n) next) s x = refl
of_kind plan stack (Does Null next) s x = refl
of_kind plan stack (Does Assign next) s x = refl
of_kind plan stack (Does Put next) s x = refl
of_kind plan stack (Does (If inside) next) s x = refl
of_kind plan stack (Does (While inside) next) s x = refl
of_kind plan stack (Does (Loop f inside) next) s x = refl
of_kind plan stack (Does (Exit w) next) s x = refl
of_kind plan stack (Does (Raise y) next) s x = refl
of_kind plan stack (Does RaiseAgain next) s x = refl
of_kind plan stack (Does (Block region inside) next) s x = refl
of_kind plan stack (Does (Return w) next) s x = refl
of_kind plan stack (Does (ReturnValue w) next) s x = refl
of_kind plan stack (Does (Call unit) next) s x = refl
of_kind plan stack (Does OwnCall next) s x = refl
of_kind plan stack (Concerns (among.DeclareTasks ts) next) s x = refl
of_kind plan stack (Concerns (among.DeclareObject n) next) s x = refl
of_kind plan stack (Concerns among.Activate next) s x = refl
of_kind plan stack (Concerns among.Activated next) s x = refl
of_kind plan stack (Concerns (among.Call entry form otherwise) next) s x = refl
of_kind plan stack (Concerns (among.CallObject v entry form otherwise) next) s x = refl
of_kind plan stack (Concerns (among.Operation v unit) next) s x = refl
of_kind plan stack (Concerns among.Delay next) s x = refl
of_kind plan stack (Concerns among.Abort next) s x = refl
of_kind plan stack (Concerns (among.RequeueTask r w) next) s x = refl
of_kind plan stack (Concerns (among.RequeueObject v r w) next) s x = refl
of_kind plan stack (Concerns (among.Accept entry region body) next) s x = refl
of_kind plan stack (Concerns (among.Select has_else own offers) next) s x = refl
of_kind plan stack (Continues f behind inside) s x = refl
of_kind plan stack (Guards gs) s x = refl
of_kind plan stack (Ends c next) s x = refl
of_kind plan stack (Leaves n to) s x = refl

module _ (code : Flat) (q : Part Spot) (k : StepKind) where
  abbrev leaving : StepKind
  leaving = end_kind_by (out_of_loops q.stack).opened

  abbrev Comes : Option Pending → Type 0
  Comes pending = (plan : Plan) (s : Sight) → IsOfKind q.stack k (coming_at code plan pending s q.control)

  pub statement_next : (l : EndLine) → q.pending ≡ None → plain_end l ≡ end_at code q.control.place → k ≡ step_kind l.last leaving → IsNextKind code q k
  statement_next l none is_end is =
      subst Comes (sym none) (λ plan s.
      let x = eval true (no_scene s) (instructions_at code q.control.place) 0 no_operands in
      subst (λ (e : flat.EndLine). IsOfKind q.stack k (coming_last plan e.last s x)) is_end
      (subst (λ j. IsOfKind q.stack j (coming_last plan (plain_last l.last) s x)) (sym is) (of_kind plan q.stack l.last s x)))

  -- behind all lines
  pub end_next : (place : ℕ) → q.pending ≡ None → end_at code q.control.place ≡ no_end place → k ≡ leaving → IsNextKind code q k
  end_next place none is_end is =
      subst Comes (sym none) (λ plan s.
      let x = eval true (no_scene s) (instructions_at code q.control.place) 0 no_operands in
      subst (λ (e : flat.EndLine). IsOfKind q.stack k (coming_last plan e.last s x)) (sym is_end) is)

  -- with an exception pending
  pub handler_next : (p : Pending) (h : Option ℕ) → q.pending ≡ Some p → h ≡ handler_at code p.exception q.control → IsOfKind q.stack k (coming_raised (is_there h)) → IsNextKind code q k
  handler_next p h pends is found =
      subst Comes (sym pends) (λ plan s.
      subst (λ h. IsOfKind q.stack k (coming_raised (is_there h))) is found)
