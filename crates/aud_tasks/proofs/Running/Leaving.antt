-- A task that is to leave a block or procedure, as memory tells it.
use Rattle.std.proofs.Common.{◌≡◌, ℕ, [], None, Some, true, false, refl, ap, sym, subst, ◌∙◌, slice_get}
use Rattle.aud_typed.specs.Tree.{Plan}
use Rattle.aud_meaning.specs.Configuration.{Own, TaskAt, All}
use Rattle.aud_meaning.specs.Control.{Coming, Scene, ending, ends}
use Rattle.aud_meaning.specs.Evaluation.{Sight}
use Rattle.aud_meaning.specs.Parts.{any, depends, own_of}
use Rattle.aud_meaning.specs.Run.{construct_left, master_left_by}
use Rattle.aud_code.specs.declared.line.EndLine.{EndLine}
use Rattle.aud_code.specs.declared.line.Last.{Last}
use Rattle.aud_code.specs.declared.line.Last.TheVariants.{Ends, Leaves}
use Rattle.aud_code.specs.Instruction.{no_operands}
use Rattle.aud_code.specs.Eval.{eval}
use Rattle.aud_code.specs.Flat.{Flat, asked_last, coming_last, coming_at, asked_at, end_at, instructions_at, no_scene}
use Rattle.aud_code.specs.Flat as flat
use Rattle.aud_code.specs.Places.{Spot, loops_of}
use Rattle.aud_code.specs.View.{plain_end, plain_last, EndsPlainly}
use Rattle.aud_state.specs.Reads.{coming_by, LeavesBy}
use Rattle.aud_tasks.specs.Running.{EndsConstruct, LeavesAlone}
use Rattle.aud_tasks.proofs.Running.Steady.{own_at}

-- what such an ending asks for, and how it comes
abbrev loops_in : Last → ℕ
loops_in (Leaves n to) = n
loops_in last = 0

asks_so : (last : Last) → EndsConstruct last → (loops : ℕ) (at : _) (s : Scene) (x : _) → asked_last (plain_last last) loops at s x ≡ ends (loops_in last)
asks_so (Ends c next) is loops at s x = refl
asks_so (Leaves n to) is loops at s x = refl
asks_so last is loops at s x = absurd is

comes_so : (last : Last) → EndsConstruct last → (plan : Plan) (s : Sight) (x : _) → coming_last plan (plain_last last) s x ≡ ending
comes_so (Ends c next) is plan s x = refl
comes_so (Leaves n to) is plan s x = refl
comes_so last is plan s x = absurd is

leaves_so : (own : Own) (master : ℕ) (x : Coming) → x ≡ ending → LeavesBy own (Some master) x → master_left_by (construct_left own) ≡ Some master
leaves_so own master x is leaves = sym (subst (LeavesBy own (Some master)) is leaves)

module _ (code : Flat) (c : All Spot) (n : ℕ) (t : TaskAt Spot) (there : slice_get c.tasks n ≡ Some t) (none : (own_of n c).pending ≡ None) (uncut : c.shared.cut ≡ false) (plain : EndsPlainly code) (place : ℕ) (at : place ≡ t.control.place)
    (line : EndLine) (is : plain_end line ≡ end_at code place) (leaves : EndsConstruct line.last) (master : ℕ) (left : (plan : Plan) (s : Sight) → LeavesBy (own_of n c) (Some master) (coming_by code plan s (slice_get c.tasks n))) (free : any (λ (u : TaskAt Spot). depends master u.own) c.tasks ≡ false) where
  own : own_of n c ≡ t.own
  own = own_at c.tasks n t there

  pends : t.own.pending ≡ None
  pends = ap (λ (o : Own). o.pending) (sym own) ∙ none

  last_is : plain_last line.last ≡ (end_at code t.control.place).last
  last_is = ap (λ (e : flat.EndLine). e.last) (is ∙ ap (end_at code) at)

  comes : (plan : Plan) (s : Sight) → coming_at code plan None s t.control ≡ ending
  comes plan s =
      let x = eval true (no_scene s) (instructions_at code t.control.place) 0 no_operands in
      subst (λ l. coming_last plan l s x ≡ ending) last_is (comes_so line.last leaves plan s x)

  asks : (s : Scene) → asked_at code None s t.control ≡ ends (loops_in line.last)
  asks s =
      let e = end_at code t.control.place in
      let x = eval false s (instructions_at code t.control.place) 0 no_operands in
      subst (λ l. asked_last l (loops_of e.exit) e.at s x ≡ ends (loops_in line.last)) last_is (asks_so line.last leaves (loops_of e.exit) e.at s x)

  some_plan : Plan
  some_plan = record { units = []; tasks = []; objects = []; entries = []; regions = []; exceptions = [] }

  some_sight : Sight
  some_sight = record { display = []; frames = []; facts = record { count = λ o e. 0; callable = λ k. false; terminated = λ k. false } }

  comes_by : coming_by code some_plan some_sight (slice_get c.tasks n) ≡ ending
  comes_by = ap (coming_by code some_plan some_sight) there ∙ ap (λ p. coming_at code some_plan p some_sight t.control) pends ∙ comes some_plan some_sight

  pub leaving_there : LeavesAlone code n c
  leaving_there = record {
    task = t;
    there = there;
    none = pends;
    uncut = uncut;
    plain = plain;
    loops = loops_in line.last;
    asks = asks;
    comes = comes;
    master = master;
    leaves = ap (λ (o : Own). master_left_by (construct_left o)) (sym own) ∙ leaves_so (own_of n c) master _ comes_by (left some_plan some_sight);
    free = free;
  }
