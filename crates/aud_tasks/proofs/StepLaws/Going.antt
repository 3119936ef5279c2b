-- The task whose statements go on next.
use Rattle.std.proofs.Common.{◌≡◌, ◌+◌, ℕ, List, [], ◌++◌, Option, Some, None, true, false, not, ◌||◌, ap, sym, subst, ◌∙◌}
use Rattle.std.specs.Prelude.{IfNone}
use Rattle.std.specs.Option.{is_some}
use Rattle.aud_typed.specs.Tree.{Plan}
use Rattle.aud_meaning.specs.declared.state.Move.{Move}
use Rattle.aud_meaning.specs.Configuration.{All}
use Rattle.aud_meaning.specs.Parts.{is_terminated, own_of}
use Rattle.aud_code.specs.Flat.{Flat}
use Rattle.aud_code.specs.Places.{Spot}
use Rattle.aud_state.specs.Reads.{IsPlain}
use Rattle.aud_tasks.specs.Moving.{alone_if, moves_behind, moves_of, IsNextMover}
use Rattle.aud_tasks.specs.Running.{GoesOn, IsUnchosen}
use Rattle.aud_tasks.proofs.MoveLaws.Moving.{moves_all, moves_next}

pub where_none : {A : Type 0} (o : Option A) (P : Type 0) → is_some o ≡ false → IfNone o P → P
where_none None P h holds = holds
where_none (Some x) P h holds = absurd cc

pub nothing_behind : (ms : List Move) (choices : List ℕ) → ms ≡ [] → IsUnchosen ms choices
nothing_behind ms choices none = subst (λ l. IsUnchosen l choices) (sym none) tt

module _ (plan : Plan) (code : Flat) (c : All Spot) (n : ℕ) where
  pub goes_first : not (is_terminated (own_of 0 c).status || c.shared.cut) ≡ true → IsNextMover plan code 0 n c → IsPlain (own_of n c) → moves_of plan code n c ≡ alone_if true n → IsUnchosen (moves_behind plan code (n + 1) c) c.choices → GoesOn plan code n c
  goes_first may mover plain only unchosen = record {
    others = moves_behind plan code (n + 1) c;
    moves =
        moves_all plan code c may
        ∙ mover.behind
        ∙ moves_next plan code c n mover.within
        ∙ ap (λ ms. ms ++ moves_behind plan code (n + 1) c) only;
    unchosen = unchosen;
    plain = plain;
    only = only;
  }
