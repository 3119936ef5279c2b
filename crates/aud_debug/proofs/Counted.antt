-- How many tasks are listed, and what is listed of the variables of one.
use Rattle.std.proofs.Common.{◌≡◌, true, false, cond, Bool, Result, ℕ, suc, ◌+◌, ◌<◌, ◌≤◌, List, [], ◌∷◌, ◌++◌, length, Some, None, refl, ap, ◌∙◌, arith}
use Rattle.std.specs.Prelude.{nat_lt}
use Rattle.aud_text.specs.declared.raise.Raise.{Raise}
use Rattle.aud_typed.specs.Tree.{Plan}
use Rattle.aud_meaning.specs.Configuration.{TaskAt, All, Own, Shared}
use Rattle.aud_meaning.specs.Control.{Seen, Controls}
use Rattle.aud_meaning.specs.Evaluation.{Sight}
use Rattle.aud_meaning.specs.Listings.{task_lines, vars, view_at}
use Rattle.aud_meaning.specs.Run.{seen, seen_from}
use Rattle.aud_meaning.specs.Parts.{owns}
use Rattle.aud_debug.specs.declared.lines.Lines.{Lines}
use Rattle.aud_debug.specs.declared.page.Page.{Page}
use Rattle.aud_debug.specs.Listed.{as_lines, ended, variables_of}

lines_many : (plan : Plan) (barrier : ℕ → Sight → Result Bool Raise) (n : ℕ) (ts : List (TaskAt Seen)) (c : All Seen) → length (task_lines plan barrier n ts c) ≡ length ts
lines_many plan barrier n [] c = refl
lines_many plan barrier n (t ∷ ts) c = ap suc (lines_many plan barrier (suc n) ts c)

module _ {C : Type 0} (plan : Plan) (k : Controls C) where
  seen_many : (n : ℕ) (ts : List (TaskAt C)) (os : List Own) (shared : Shared) → length (seen_from plan k n ts os shared) ≡ length ts
  seen_many n [] os shared = refl
  seen_many n (t ∷ ts) os shared = ap suc (seen_many (suc n) ts os shared)

  listed_many : (c : All C) → length (view_at plan k c).tasks ≡ length c.tasks
  listed_many c = lines_many plan k.barrier 0 (seen plan k c).tasks (seen plan k c) ∙ seen_many 0 c.tasks (owns c.tasks) c.shared

  chosen : (n : ℕ) (c : All C) (b : Bool) → nat_lt n (length (view_at plan k c).tasks) ≡ b → variables_of (suc n) (view_at plan k c) ≡ cond b (Some (as_lines (vars plan n c))) None
  chosen n c b is = ap (λ x. cond x (Some (as_lines (vars plan n c))) None) is

  pub variables_there : (n : ℕ) (c : All C) → n < length c.tasks → variables_of (suc n) (view_at plan k c) ≡ Some (as_lines (vars plan n c))
  variables_there n c within = chosen n c true (grind (arith, within, listed_many c))

  pub no_variables : (n : ℕ) (c : All C) → length c.tasks ≤ n → variables_of (suc n) (view_at plan k c) ≡ None
  no_variables n c past = chosen n c false (grind (arith, past, listed_many c))

abbrev lines_with : ℕ → List ℕ → Lines
lines_with count text = record { count = count; text = text }

-- what stands on a page that was empty
pub page_shown : (page start : Page) (told all : List (List ℕ)) → start.bytes.items ≡ [] → start.count ≡ 0 → (page.bytes.items ≡ start.bytes.items ++ ended told) × (page.count ≡ start.count + length told) → told ≡ all →
    lines_with page.count page.bytes.items ≡ as_lines all
page_shown page start told all empty none adds is =
    let many : page.count ≡ length told = omega (arith, adds.1, none) in
    ap (λ n. lines_with n page.bytes.items) many
    ∙ ap (lines_with (length told)) (adds.0 ∙ ap (λ l. l ++ ended told) empty)
    ∙ ap as_lines is
