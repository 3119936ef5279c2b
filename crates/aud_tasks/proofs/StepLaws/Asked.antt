-- What endings ask for.
use Rattle.std.proofs.Common.{◌≡◌, ℕ, Bool, true, false, Option, refl, ap, sym, ◌∙◌, subst}
use Rattle.std.specs.Prelude.{OnOk, Result, not, nat_le, if◌then◌else◌}
use Rattle.aud_text.specs.declared.limits.Limits.{Limits}
use Rattle.aud_text.specs.declared.limits.TheConstants.{ELEMENTS}
use Rattle.aud_text.specs.declared.place.Pos.{Pos}
use Rattle.aud_text.specs.declared.raise.Raise.{Raise}
use Rattle.aud_text.specs.declared.raise.Raise.TheVariants.{Storage}
use Rattle.aud_typed.specs.Tree.{Plan}
use Rattle.aud_meaning.specs.Configuration.{All}
use Rattle.aud_meaning.specs.Control.{Scene, raises_here, raises_in_part}
use Rattle.aud_meaning.specs.Evaluation.{Sight}
use Rattle.aud_meaning.specs.Step.{done}
use Rattle.aud_meaning.specs.Tasks as effect
use Rattle.aud_code.specs.Control.{going}
use Rattle.aud_code.specs.declared.line.Ending.{Ending}
use Rattle.aud_code.specs.declared.line.Ending.TheVariants.{Declare, DeclareArray, Null, Assign, Put, If, While, Loop, Exit, RaiseAgain, Block, Return, ReturnValue, OwnCall, Call}
use Rattle.aud_code.specs.declared.line.Ending.TheVariants as ending
use Rattle.aud_code.specs.declared.line.Last.{Last}
use Rattle.aud_code.specs.declared.line.Among.TheVariants as among
use Rattle.aud_code.specs.declared.line.Last.TheVariants.{Does, Concerns, Continues, Guards, Ends, Leaves}
use Rattle.aud_code.specs.Flat.{Flat, asked_last}
use Rattle.aud_code.specs.Instruction.{Ended, Operands, Raised, Reached}
use Rattle.aud_code.specs.Places.{Spot, loops_of}
use Rattle.aud_code.specs.Sound.{Counts, LastFine}
use Rattle.aud_code.specs.View.{exit_of, plain_last}
use Rattle.aud_sequential.specs.Steps.{IsOfOne}
use Rattle.aud_state.specs.Fast.{scene}
use Rattle.aud_tasks.specs.Acting.{DoesAsked}
use Rattle.aud_tasks.specs.Endings.{is_declaration, is_statement, is_too_long}

-- what an ending does
abbrev pub does : Plan → Flat → Limits → Option ℕ → (ℕ → Sight → Result Bool Raise) → ℕ → Pos → Scene → Ended → All Spot → Last → All Spot
does plan code limits alternative barrier n at s x old l = done (going code) plan barrier limits alternative (asked_last (plain_last l) (loops_of (exit_of l)) at s x) n old

not_long : (b : Bool) → not b ≡ false → b ≡ true
not_long true is = refl
not_long false is = cc

-- an array that has not too many elements
pub of_one : (l : Last) (e : Ending) (next : ℕ) → l ≡ Does e next → is_too_long l ≡ false → IsOfOne l
of_one l e next is fits = subst (λ (k : Last). IsOfOne k) (sym is) (by e (ap is_too_long (sym is) ∙ fits))
  where
    by : (e : Ending) → is_too_long (Does e next) ≡ false → IsOfOne (Does e next)
    by (Declare up_to again) h = tt
    by (DeclareArray t n) h = not_long (nat_le n ELEMENTS) h
    by Null h = tt
    by Assign h = tt
    by Put h = tt
    by (If inside) h = tt
    by (While inside) h = tt
    by (Loop f inside) h = tt
    by (Exit w) h = tt
    by (ending.Raise x) h = tt
    by RaiseAgain h = tt
    by (Block region inside) h = tt
    by (Return w) h = tt
    by (Call unit) h = tt
    by (ReturnValue w) h = tt
    by OwnCall h = tt

long_by : {A : Type 0} (b : Bool) (x y : A) → not b ≡ true → y ≡ (if b then x else y)
long_by true x y is = cc
long_by false x y is = refl

module _ (plan : Plan) (code : Flat) (limits : Limits) (alternative : Option ℕ) (barrier : ℕ → Sight → Result Bool Raise) (n : ℕ) (at : Pos) (s : Scene) (o : Operands) (c : All Spot) where
  -- one that has is an exception in a declarative part
  pub too_long_does : (l : Last) → is_too_long l ≡ true → effect.raises_in_part (going code) plan barrier Storage at n c ≡ does plan code limits alternative barrier n at s (Reached o) c l
  too_long_does (Does (Declare up_to again) next) is = cc
  too_long_does (Does (DeclareArray t k) next) is = long_by (nat_le k ELEMENTS) _ _ is
  too_long_does (Does Null next) is = cc
  too_long_does (Does Assign next) is = cc
  too_long_does (Does Put next) is = cc
  too_long_does (Does (If inside) next) is = cc
  too_long_does (Does (While inside) next) is = cc
  too_long_does (Does (Loop f inside) next) is = cc
  too_long_does (Does (Exit w) next) is = cc
  too_long_does (Does (ending.Raise x) next) is = cc
  too_long_does (Does RaiseAgain next) is = cc
  too_long_does (Does (Block region inside) next) is = cc
  too_long_does (Does (Return w) next) is = cc
  too_long_does (Does (Call unit) next) is = cc
  too_long_does (Does (ReturnValue w) next) is = cc
  too_long_does (Does OwnCall next) is = cc
  too_long_does (Concerns a next) is = cc
  too_long_does (Continues f behind inside) is = cc
  too_long_does (Guards gs) is = cc
  too_long_does (Ends k next) is = cc
  too_long_does (Leaves k to) is = cc

-- Where the evaluation raises.

module _ (loops : ℕ) (at : Pos) (s : Scene) (raise : Raise) where
  pub raised_in_part : (l : Last) → is_declaration l ≡ true → raises_in_part raise at ≡ asked_last (plain_last l) loops at s (Raised raise)
  raised_in_part (Does (Declare up_to again) next) is = refl
  raised_in_part (Does (DeclareArray t k) next) is = cc
  raised_in_part (Does Null next) is = cc
  raised_in_part (Does Assign next) is = cc
  raised_in_part (Does Put next) is = cc
  raised_in_part (Does (If inside) next) is = cc
  raised_in_part (Does (While inside) next) is = cc
  raised_in_part (Does (Loop f inside) next) is = cc
  raised_in_part (Does (Exit w) next) is = cc
  raised_in_part (Does (ending.Raise x) next) is = cc
  raised_in_part (Does RaiseAgain next) is = cc
  raised_in_part (Does (Block region inside) next) is = cc
  raised_in_part (Does (Return w) next) is = cc
  raised_in_part (Does (Call unit) next) is = cc
  raised_in_part (Does (ReturnValue w) next) is = cc
  raised_in_part (Does OwnCall next) is = cc
  raised_in_part (Concerns (among.DeclareTasks ts) next) is = cc
  raised_in_part (Concerns (among.DeclareObject k) next) is = refl
  raised_in_part (Concerns among.Activate next) is = cc
  raised_in_part (Concerns among.Activated next) is = cc
  raised_in_part (Concerns (among.Call entry form otherwise) next) is = cc
  raised_in_part (Concerns (among.CallObject v entry form otherwise) next) is = cc
  raised_in_part (Concerns (among.Operation v unit) next) is = cc
  raised_in_part (Concerns among.Delay next) is = cc
  raised_in_part (Concerns among.Abort next) is = cc
  raised_in_part (Concerns (among.RequeueTask again way) next) is = cc
  raised_in_part (Concerns (among.RequeueObject v again way) next) is = cc
  raised_in_part (Concerns (among.Accept entry region body) next) is = cc
  raised_in_part (Concerns (among.Select has_else own offers) next) is = cc
  raised_in_part (Continues f behind inside) is = cc
  raised_in_part (Guards gs) is = cc
  raised_in_part (Ends k next) is = cc
  raised_in_part (Leaves k to) is = cc

  pub raised_here : (l : Last) → is_statement l ≡ true → is_declaration l ≡ false → raises_here raise at ≡ asked_last (plain_last l) loops at s (Raised raise)
  raised_here (Does (Declare up_to again) next) is other = cc
  raised_here (Does (DeclareArray t k) next) is other = refl
  raised_here (Does Null next) is other = refl
  raised_here (Does Assign next) is other = refl
  raised_here (Does Put next) is other = refl
  raised_here (Does (If inside) next) is other = refl
  raised_here (Does (While inside) next) is other = refl
  raised_here (Does (Loop f inside) next) is other = refl
  raised_here (Does (Exit w) next) is other = refl
  raised_here (Does (ending.Raise x) next) is other = refl
  raised_here (Does RaiseAgain next) is other = refl
  raised_here (Does (Block region inside) next) is other = refl
  raised_here (Does (Return w) next) is other = refl
  raised_here (Does (Call unit) next) is other = refl
  raised_here (Does (ReturnValue w) next) is other = refl
  raised_here (Does OwnCall next) is other = refl
  raised_here (Concerns (among.DeclareTasks ts) next) is other = refl
  raised_here (Concerns among.Activate next) is other = refl
  raised_here (Concerns among.Activated next) is other = refl
  raised_here (Concerns (among.Call entry form otherwise) next) is other = refl
  raised_here (Concerns (among.DeclareObject k) next) is other = cc
  raised_here (Concerns (among.CallObject v entry form otherwise) next) is other = refl
  raised_here (Concerns (among.Operation v unit) next) is other = refl
  raised_here (Concerns among.Delay next) is other = refl
  raised_here (Concerns among.Abort next) is other = refl
  raised_here (Concerns (among.RequeueTask again way) next) is other = refl
  raised_here (Concerns (among.RequeueObject v again way) next) is other = refl
  raised_here (Concerns (among.Accept entry region body) next) is other = refl
  raised_here (Concerns (among.Select has_else own offers) next) is other = refl
  raised_here (Continues f behind inside) is other = cc
  raised_here (Guards gs) is other = cc
  raised_here (Ends k next) is other = cc
  raised_here (Leaves k to) is other = cc

  -- where nothing is evaluated
  pub flows_so : (o : Operands) (l : Last) → is_statement l ≡ false → asked_last (plain_last l) loops at s (Reached o) ≡ asked_last (plain_last l) loops at s (Raised raise)
  flows_so o (Does e next) is = cc
  flows_so o (Concerns a next) is = cc
  flows_so o (Continues f behind inside) is = refl
  flows_so o (Guards gs) is = refl
  flows_so o (Ends k next) is = refl
  flows_so o (Leaves k to) is = refl

pub flow_fine : (c : Counts) (l : Last) → is_statement l ≡ false → LastFine (plain_last l) c
flow_fine c (Does e next) is = cc
flow_fine c (Concerns a next) is = cc
flow_fine c (Continues f behind inside) is = tt
flow_fine c (Guards gs) is = tt
flow_fine c (Ends k next) is = tt
flow_fine c (Leaves k to) is = tt

-- what is done of an ending that is known
pub as_last : {T E : Type 0} (r : Result T E) (plan : Plan) (code : Flat) (limits : Limits) (alternative : Option ℕ) (n : ℕ) (at : Pos) (x : Ended) (old new : All Spot) (l k : Last) → l ≡ k →
    OnOk r (DoesAsked plan code limits alternative n (asked_last (plain_last k) (loops_of (exit_of k)) at (scene n old) x) old new) → OnOk r (DoesAsked plan code limits alternative n (asked_last (plain_last l) (loops_of (exit_of l)) at (scene n old) x) old new)
as_last r plan code limits alternative n at x old new l k is h = subst (λ (m : Last). OnOk r (DoesAsked plan code limits alternative n (asked_last (plain_last m) (loops_of (exit_of m)) at (scene n old) x) old new)) (sym is) h
