use Rattle.std.proofs.Common.{◌≡◌, false, refl, ap, sym}
use Rattle.aud_text.specs.declared.place.Pos.{Pos}
use Rattle.aud_typed.specs.declared.program.Tasks.{Tasks}
use Rattle.aud_typed.specs.declared.program.Statement.{Statement, Declare, DeclareArray, DeclareTasks, DeclareObject, Activated, Null, Assign, Put, If', While', Loop', For', Exit, Raise, RaiseAgain, Block', Return, ReturnValue, ProcedureCall, OwnEntryCall, OperationCall, EntryCall', Delay, Accept', Select', Abort, Requeue}
use Rattle.aud_typed.specs.Ties.View.{plain_statement}
use Rattle.aud_typed.proofs.Opened.{if_open, block_open, accept_open}
use Rattle.aud_check_bodies.specs.Tasks.{creates}
use Rattle.aud_check_bodies.proofs.task.creates.Goals as goal

creates_none : (s : Statement) → ((at : Pos) (ts : Tasks) → s ≡ DeclareTasks at ts → ⊥) → creates (plain_statement s) ≡ false
creates_none (Declare at up_to e) other = refl
creates_none (DeclareArray at t n) other = refl
creates_none (DeclareTasks at ts) other = absurd (other at ts refl)
creates_none (DeclareObject at n es) other = refl
creates_none (Activated at) other = refl
creates_none (Null at) other = refl
creates_none (Assign at r e) other = refl
creates_none (Put at t) other = refl
creates_none (If' _ s) other = ap creates (if_open s)
creates_none (While' at c _ _ first _ others) other = refl
creates_none (Loop' _ _ first _ others) other = refl
creates_none (For' _ at next_at region backward a b _ first _ others) other = refl
creates_none (Exit at n c) other = refl
creates_none (Raise at x) other = refl
creates_none (RaiseAgain at) other = refl
creates_none (Block' _ b) other = ap creates (block_open b)
creates_none (Return at) other = refl
creates_none (ReturnValue at e) other = refl
creates_none (ProcedureCall at c) other = refl
creates_none (OwnEntryCall at arguments form) other = refl
creates_none (OperationCall at v c) other = refl
creates_none (EntryCall' _ at called entry arguments form _ after _ otherwise) other = refl
creates_none (Delay at e) other = refl
creates_none (Accept' _ s) other = ap creates (accept_open s)
creates_none (Select' _ at _ alternatives _ otherwise) other = refl
creates_none (Abort at ts) other = refl
creates_none (Requeue at r) other = refl

pub returns-in_default : goal.returns-in_default
returns-in_default c = sym (creates_none c.args.statement.now c.in_default.not-DeclareTasks)
