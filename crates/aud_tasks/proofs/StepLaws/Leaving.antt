-- How constructs end.
use Rattle.std.proofs.Common.{◌≡◌, ℕ, zero, suc, List, [], ◌∷◌, Option, Some, None, slice_index_or, refl, ap, sym, ◌∙◌}
use Rattle.std.specs.Prelude.{Result, Bool}
use Rattle.aud_text.specs.declared.raise.Raise.{Raise}
use Rattle.aud_typed.specs.Tree.{Plan}
use Rattle.aud_meaning.specs.declared.state.Pending.{Pending}
use Rattle.aud_meaning.specs.declared.state.Resumed.{Resumed}
use Rattle.aud_meaning.specs.Configuration.{All, Back, Opened, Own, TaskAt}
use Rattle.aud_meaning.specs.Effects.{out_of_loops}
use Rattle.aud_meaning.specs.Evaluation.{Sight}
use Rattle.aud_meaning.specs.Orders.{Orders}
use Rattle.aud_meaning.specs.Parts.{changed, exception_of, nobody, on_own, own_of, owns}
use Rattle.aud_meaning.specs.Tasks as effect
use Rattle.aud_store.specs.declared.stack.Open.{Open}
use Rattle.aud_store.specs.declared.purpose.Purpose.{Purpose}
use Rattle.aud_store.specs.declared.purpose.Purpose.TheVariants.{Accept, Body, Block, Entry, Loop, Operation, Procedure}
use Rattle.aud_store.specs.declared.purpose.Returns.{Returns}
use Rattle.aud_store.specs.Ties.Stored.{innermost_backs, plain_open, plain_purpose, purpose_backs, returning_by}
use Rattle.aud_tasks.specs.Leaving.{closed_by}

module _ {C : Type 0} where
  own_in : (f : Own → Own) → f nobody ≡ nobody → (n : ℕ) (ts : List (TaskAt C)) → slice_index_or (owns (changed n (λ t. record t { own = f t.own }) ts)) n nobody ≡ f (slice_index_or (owns ts) n nobody)
  own_in f none n [] = sym none
  own_in f none zero (t ∷ ts) = refl
  own_in f none (suc n) (t ∷ ts) = own_in f none n ts

  -- what a task has that was changed
  pub own_on : (f : Own → Own) → f nobody ≡ nobody → (n : ℕ) (c : All C) → own_of n (on_own n f c) ≡ f (own_of n c)
  own_on f none n c = own_in f none n c.tasks

module _ {C : Type 0} (go : Orders C) (plan : Plan) (barrier : ℕ → Sight → Result Bool Raise) where
  -- what the end of the innermost construct is, by what it was opened for
  module _ (alternative : Option ℕ) (p : Option Pending) (n : ℕ) (c : All C) (o : Open) (saved : List ℕ) (backs : List Back) (outer : List Opened) (e : (out_of_loops (own_of n c)).opened ≡ plain_open o saved backs ∷ outer) where
    ends_so : (u : Purpose) → o.purpose ≡ u → effect.at_end_by go plan barrier alternative (plain_purpose u backs) p (plain_open o saved backs) n c ≡ effect.at_end go plan barrier alternative p n c
    ends_so u is = ap (λ v. effect.at_end_by go plan barrier alternative (plain_purpose v backs) p (plain_open o saved backs) n c) (sym is) ∙ ap (λ os. effect.at_end_of go plan barrier alternative os p n c) (sym e)

    pub at_end_body : o.purpose ≡ Body → effect.completes go plan barrier (exception_of p) n c ≡ effect.at_end go plan barrier alternative p n c
    at_end_body is = ends_so Body is

    pub at_end_block : o.purpose ≡ Block → effect.at_block_end go plan barrier p (plain_open o saved backs) n (on_own n out_of_loops c) ≡ effect.at_end go plan barrier alternative p n c
    at_end_block is = ends_so Block is

    pub at_end_loop : o.purpose ≡ Loop → c ≡ effect.at_end go plan barrier alternative p n c
    at_end_loop is = ends_so Loop is

    pub at_end_accept : (call : ℕ) → o.purpose ≡ Accept call → effect.at_accept_end go plan barrier alternative p call (plain_open o saved backs) n (on_own n out_of_loops c) ≡ effect.at_end go plan barrier alternative p n c
    at_end_accept call is = ends_so (Accept call) is

    pub at_end_procedure : (level : ℕ) (r : Returns) → o.purpose ≡ Procedure level r →
        effect.at_procedure_end go plan barrier p (returning_by r (innermost_backs (out_of_loops (own_of n c)).opened)) (plain_open o saved backs) n (on_own n out_of_loops c) ≡ effect.at_end go plan barrier alternative p n c
    at_end_procedure level r is =
        ap (λ bs. effect.at_procedure_end go plan barrier p (returning_by r bs) (plain_open o saved backs) n (on_own n out_of_loops c)) (ap innermost_backs e ∙ ap (λ v. purpose_backs (plain_purpose v backs)) is)
        ∙ ends_so (Procedure level r) is

    pub at_end_operation : (object : ℕ) (r : Returns) → o.purpose ≡ Operation object r →
        effect.at_operation_end go plan barrier p object (returning_by r (innermost_backs (out_of_loops (own_of n c)).opened)) (plain_open o saved backs) n (on_own n out_of_loops c) ≡ effect.at_end go plan barrier alternative p n c
    at_end_operation object r is =
        ap (λ bs. effect.at_operation_end go plan barrier p object (returning_by r bs) (plain_open o saved backs) n (on_own n out_of_loops c)) (ap innermost_backs e ∙ ap (λ v. purpose_backs (plain_purpose v backs)) is)
        ∙ ends_so (Operation object r) is

    pub at_end_entry : (object call : ℕ) (served : Bool) (resumed : Resumed) → o.purpose ≡ Entry object call served resumed →
        effect.at_entry_end go plan barrier p object call resumed (plain_open o saved backs) n (on_own n out_of_loops c) ≡ effect.at_end go plan barrier alternative p n c
    at_end_entry object call served resumed is = ends_so (Entry object call served resumed) is

  -- a block's frame is left
  pub block_end_by : (p : Option Pending) (o : Opened) (n : ℕ) (c : All C) → effect.close_master go plan barrier o.frame (on_own n (closed_by p o.at) c) ≡ effect.at_block_end go plan barrier p o n c
  block_end_by None o n c = refl
  block_end_by (Some p) o n c = refl
