-- The moves of a task at a choice, by what is evaluated up to its mark.
use Rattle.std.proofs.Common.{◌≡◌, ℕ, List, [], ◌∷◌, map, filter, Some, None, Bool, true, false, slice_get, refl, ap, sym, ◌∙◌}
use Rattle.aud_typed.specs.Tree.{Plan}
use Rattle.aud_meaning.specs.declared.state.Move.{Move}
use Rattle.aud_meaning.specs.declared.state.OpenAccept.{OpenAccept}
use Rattle.aud_meaning.specs.Configuration.{Own, TaskAt, All}
use Rattle.aud_meaning.specs.Control.{Coming, Seen, calling, ending}
use Rattle.aud_meaning.specs.Parts.{open_alternatives, own_of}
use Rattle.aud_meaning.specs.Run as run
use Rattle.aud_meaning.specs.Run.{acting_moves, alternatives_of, has_queue, own_move, seen}
use Rattle.aud_code.specs.Eval.{newest}
use Rattle.aud_code.specs.Flat.{Flat, barrier_at, flat_controls}
use Rattle.aud_code.specs.Instruction.{Ended, Operands, Reached, Marked, Raised, Lost}
use Rattle.aud_code.specs.Places.{Spot}
use Rattle.aud_code.specs.Sound.{IsStart}
use Rattle.aud_code.specs.Starts.{AreSpots}
use Rattle.aud_expr.specs.Flow.{IsMarked}
use Rattle.aud_tasks.specs.Choices.{again_in, comes_of, ComesTo}
use Rattle.aud_tasks.specs.declared.choice.Choice.{Choice}
use Rattle.aud_tasks.specs.declared.choice.Choice.TheVariants.{Select, Call}
use Rattle.aud_tasks.specs.Enabled.{each_or_one}
use Rattle.aud_tasks.specs.Turning.{coming_in}
use Rattle.aud_tasks.proofs.MoveLaws.Moving.{ending_seen, own_seen}
use Rattle.aud_tasks.proofs.StepLaws.Stepping.{spot_at, starts}

-- it stands where a step begins
pub begins : (plan : Plan) (code : Flat) (c : All Spot) (n : ℕ) (choice : Choice) → AreSpots code.lines c.tasks → ComesTo choice plan code n c → (t : TaskAt Spot) → slice_get c.tasks n ≡ Some t → IsStart code.lines t.control.place
begins plan code c n choice spots comes t there = starts code.lines t.control.place (spot_at code.lines c.tasks n t spots there).place (comes t there).0

module _ (plan : Plan) (code : Flat) (n : ℕ) (c : All Spot) where
  abbrev d : All Seen
  d = seen plan (flat_controls plan code) c

  abbrev moves_by : Coming → List Move
  moves_by x = acting_moves plan (barrier_at code) x n d

  same_each : (numbers : List ℕ) → each_or_one n numbers ≡ run.each_or_one plan (barrier_at code) numbers n
  same_each [] = refl
  same_each (a ∷ more) = refl

  unmarked : (choice : Choice) (x : Ended) (o : Operands) → IsMarked false o x → own_move n ∷ [] ≡ moves_by (comes_of choice x)
  unmarked Select (Reached p) o h = refl
  unmarked Select (Marked p) o h = absurd h
  unmarked Select (Raised raise) o h = refl
  unmarked Select Lost o h = refl
  unmarked (Call entry) (Reached p) o h = refl
  unmarked (Call entry) (Marked p) o h = absurd h
  unmarked (Call entry) (Raised raise) o h = refl
  unmarked (Call entry) Lost o h = refl

  -- the mark is not reached
  pub not_marked : (choice : Choice) (x : Ended) (o : Operands) (b : Bool) → b ≡ false → IsMarked b o x → coming_in plan code n c ≡ comes_of choice x → own_move n ∷ [] ≡ moves_by (coming_in plan code n c)
  not_marked choice x o true is h comes = absurd cc
  not_marked choice x o false is h comes = unmarked choice x o h ∙ ap moves_by (sym comes)

  pub is_marked : (x : Ended) (o : Operands) (b : Bool) → b ≡ true → IsMarked b o x → x ≡ Marked o
  is_marked x o true is h = h
  is_marked x o false is h = absurd cc

  -- it is, with these accepts open
  pub all_open : (choice : Choice) (x : Ended) (o : Operands) (numbers : List ℕ) → choice ≡ Select → x ≡ Marked o → coming_in plan code n c ≡ comes_of choice x →
      numbers ≡ alternatives_of plan (barrier_at code) (filter (has_queue plan (barrier_at code) n d) o.waits.accepts) → each_or_one n numbers ≡ moves_by (coming_in plan code n c)
  all_open choice x o numbers is marks comes are =
      ap (each_or_one n) are
      ∙ same_each (alternatives_of plan (barrier_at code) (filter (has_queue plan (barrier_at code) n d) o.waits.accepts))
      ∙ ap moves_by (sym (comes ∙ ap (λ k. comes_of k x) is ∙ ap (comes_of Select) marks))

  -- or with this task named
  pub all_called : (choice : Choice) (entry task : ℕ) (x : Ended) (o : Operands) (numbers : List ℕ) → choice ≡ Call entry → x ≡ Marked o → newest o.names ≡ Some task → coming_in plan code n c ≡ comes_of choice x →
      numbers ≡ map (λ (a : OpenAccept). a.alternative) (open_alternatives (own_of task c) entry) → each_or_one n numbers ≡ moves_by (coming_in plan code n c)
  all_called choice entry task x o numbers is marks named comes are =
      ap (each_or_one n) are
      ∙ same_each (alternatives_of plan (barrier_at code) (open_alternatives (own_of task c) entry))
      ∙ ap (λ (own : Own). run.each_or_one plan (barrier_at code) (alternatives_of plan (barrier_at code) (open_alternatives own entry)) n) (sym (own_seen plan code c task))
      ∙ ap moves_by (sym (comes ∙ ap (λ k. comes_of k x) is ∙ ap (comes_of (Call entry)) marks ∙ ap (λ called. calling called entry) named))

  pub none_called : (choice : Choice) (entry : ℕ) (x : Ended) (o : Operands) → choice ≡ Call entry → x ≡ Marked o → newest o.names ≡ None → coming_in plan code n c ≡ comes_of choice x → own_move n ∷ [] ≡ moves_by (coming_in plan code n c)
  none_called choice entry x o is marks named comes =
      ap moves_by (sym (comes ∙ ap (λ k. comes_of k x) is ∙ ap (comes_of (Call entry)) marks ∙ ap (λ called. calling called entry) named))

  -- or it leaves an accept whose call is made again on an entry of this task
  pub all_again : (task entry : ℕ) (numbers : List ℕ) → coming_in plan code n c ≡ ending → again_in n c ≡ Some (task, entry) →
      numbers ≡ map (λ (a : OpenAccept). a.alternative) (open_alternatives (own_of task c) entry) → each_or_one n numbers ≡ moves_by (coming_in plan code n c)
  all_again task entry numbers comes is are =
      ap (each_or_one n) are
      ∙ same_each (alternatives_of plan (barrier_at code) (open_alternatives (own_of task c) entry))
      ∙ ap (λ (own : Own). run.each_or_one plan (barrier_at code) (alternatives_of plan (barrier_at code) (open_alternatives own entry)) n) (sym (own_seen plan code c task))
      ∙ sym (ending_seen plan code c n (Some (task, entry)) is)
      ∙ ap moves_by (sym comes)
