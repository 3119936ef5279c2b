-- What instructions ask for, and what statements ask for, are the same.
use Rattle.std.specs.Prelude.{◌≡◌, ℕ, true, false}
use Rattle.aud_text.specs.declared.place.Pos.{Pos}
use Rattle.aud_typed.specs.Tree.{BooleanExpression, ValueExpression, TextExpression, Reference, Statement, declare, null, assign, put, Plan}
use Rattle.aud_meaning.specs.Evaluation.{Sight, decided}
use Rattle.aud_meaning.specs.Control.{Scene}
use Rattle.aud_meaning.specs.Items.{statement_at}
use Rattle.aud_meaning.specs.Statements.{asked_statement, coming_statement}
use Rattle.aud_code.specs.Instruction.{no_operands}
use Rattle.aud_code.specs.Eval.{eval, asked_ended, coming_end}
use Rattle.aud_layout.specs.Instructions.{condition_code, instructions_of, ending_of}
use Rattle.aud_code.specs.Flat.{no_scene, decided_by}

-- a statement's instructions ask for what it asks for
abbrev pub AskedLaw : Type 0
AskedLaw = (a : Statement) (loops : ℕ) (s : Scene) → asked_ended (ending_of a) loops (statement_at a) s (eval false s (instructions_of a) 0 no_operands) ≡ asked_statement a loops s

-- those before the mark decide what comes next
abbrev pub ComingLaw : Type 0
ComingLaw = (plan : Plan) (a : Statement) (s : Sight) → coming_end plan (ending_of a) s (eval true (no_scene s) (instructions_of a) 0 no_operands) ≡ coming_statement plan a s

abbrev pub BarrierLaw : Type 0
BarrierLaw = (b : BooleanExpression) (s : Sight) → decided_by (eval false (no_scene s) (condition_code b) 0 no_operands) ≡ decided b s

-- Kind by kind, where the instructions of a statement ask for what it asks for.

abbrev pub Asks : Statement → Type 0
Asks a = (loops : ℕ) (s : Scene) → asked_ended (ending_of a) loops (statement_at a) s (eval false s (instructions_of a) 0 no_operands) ≡ asked_statement a loops s

abbrev pub DeclarationLaw : Type 0
DeclarationLaw = (at : Pos) (up_to : ℕ) (e : ValueExpression) → Asks (declare at up_to e)

abbrev pub NullLaw : Type 0
NullLaw = (at : Pos) → Asks (null at)

abbrev pub AssignmentLaw : Type 0
AssignmentLaw = (at : Pos) (r : Reference) (e : ValueExpression) → Asks (assign at r e)

abbrev pub PutLaw : Type 0
PutLaw = (at : Pos) (t : TextExpression) → Asks (put at t)
