-- What comes next of a task.
use Rattle.std.specs.Prelude.{◌≡◌, ℕ, Option, Some, None}
use Rattle.aud_text.specs.declared.place.Pos.{Pos}
use Rattle.aud_typed.specs.Tree.{Plan}
use Rattle.aud_meaning.specs.declared.state.StepKind.{StepKind}
use Rattle.aud_meaning.specs.declared.state.StepKind.TheVariants as kind
use Rattle.aud_meaning.specs.declared.state.Pending.{Pending}
use Rattle.aud_meaning.specs.Evaluation.{Sight}
use Rattle.aud_meaning.specs.Control.{Coming, simply, ending, selecting, calling, starting}
use Rattle.aud_meaning.specs.Run.{end_kind_by}
use Rattle.aud_meaning.specs.Ties.Stack.{Stack, out_of_loops}
use Rattle.aud_meaning.specs.Ties.Part.{Part}
use Rattle.aud_code.specs.Places.{Spot}
use Rattle.aud_code.specs.Flat.{Flat, coming_at, end_at}
use Rattle.aud_code.specs.declared.line.Ending.{Ending}
use Rattle.aud_code.specs.declared.line.Ending.TheVariants.{Declare, DeclareArray, Null, Assign, Put, If, While, Loop, Exit, Raise, RaiseAgain, Block, Return, ReturnValue, Call, OwnCall}
use Rattle.aud_code.specs.declared.line.Last.{Last}
use Rattle.aud_code.specs.declared.line.Among.{Among}
use Rattle.aud_code.specs.declared.line.Among.TheVariants as among
use Rattle.aud_code.specs.declared.line.Last.TheVariants.{Does, Concerns, Continues, Guards, Ends, Leaves}

-- the kind of a statement's step
abbrev pub statement_kind : Ending → StepKind
statement_kind (Declare up_to again) = kind.Declaration
statement_kind (DeclareArray t n) = kind.Declaration
statement_kind Null = kind.Null
statement_kind Assign = kind.Assign
statement_kind Put = kind.Put
statement_kind (If inside) = kind.If
statement_kind (While inside) = kind.While
statement_kind (Loop f inside) = kind.For
statement_kind (Exit w) = kind.Exit
statement_kind (Raise x) = kind.Raise
statement_kind RaiseAgain = kind.Raise
statement_kind (Block region inside) = kind.Block
statement_kind (Return w) = kind.Return
statement_kind (ReturnValue w) = kind.Return
statement_kind (Call unit) = kind.Proc
statement_kind OwnCall = kind.Proc

abbrev pub among_kind : Among → StepKind
among_kind (among.DeclareTasks ts) = kind.Declaration
among_kind (among.DeclareObject n) = kind.Declaration
among_kind among.Activate = kind.Activate
among_kind among.Activated = kind.Activated
among_kind (among.Call entry form otherwise) = kind.Call
among_kind (among.CallObject v entry form otherwise) = kind.Start
among_kind (among.Operation v unit) = kind.Start
among_kind among.Delay = kind.Delay
among_kind (among.Accept entry region body) = kind.Accept
among_kind (among.Select has_else own offers) = kind.Select
among_kind among.Abort = kind.Abort
among_kind (among.RequeueTask r w) = kind.Requeue
among_kind (among.RequeueObject v r w) = kind.Requeue

-- the kind of a step, by how it ends, with that of the step which leaves the innermost construct
abbrev pub step_kind : Last → StepKind → StepKind
step_kind (Does e next) leaving = statement_kind e
step_kind (Concerns a next) leaving = among_kind a
step_kind (Continues f behind inside) leaving = kind.Next
step_kind (Guards gs) leaving = leaving
step_kind (Ends c next) leaving = leaving
step_kind (Leaves n to) leaving = leaving

-- what comes next is a step of this kind
abbrev pub IsOfKind : Stack → StepKind → Coming → Type 0
IsOfKind s k (simply w) = k ≡ w
IsOfKind s k ending = k ≡ end_kind_by (out_of_loops s).opened
IsOfKind s k (selecting ones) = k ≡ kind.Select
IsOfKind s k (calling task entry) = k ≡ kind.Call
IsOfKind s k (starting object reading) = k ≡ kind.Start

-- so it is, whatever the program's plan and what it sees
abbrev pub IsNextKind : Flat → Part Spot → StepKind → Type 0
IsNextKind code p k = (plan : Plan) (s : Sight) → IsOfKind p.stack k (coming_at code plan p.pending s p.control)

-- the place that is shown for its next step
abbrev pub place_in : Flat → ℕ → Option Pending → Pos
place_in code place None = (end_at code place).at
place_in code place (Some pending) = pending.at
