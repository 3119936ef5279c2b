-- The lines of tasks, one by one.
use Rattle.std.proofs.Common.{◌≡◌, ◌<◌, ◌≤◌, ◌+◌, ℕ, List, [], ◌∷◌, ◌++◌, length, drop, get_or, Option, Some, None, add-one, refl, ap, sym, ◌∙◌, arith}
use Rattle.std.proofs.lemmas.List.{at_drop_all, at_drop_more}
use Rattle.std.proofs.lemmas.Option.{slice_get-get_or}
use Rattle.aud_typed.specs.Tree.{Plan}
use Rattle.aud_meaning.specs.Configuration.{TaskAt, All}
use Rattle.aud_meaning.specs.Control.{Seen}
use Rattle.aud_meaning.specs.Listings.{task_lines}
use Rattle.aud_meaning.specs.Run.{seen}
use Rattle.aud_code.specs.Places.{Spot}
use Rattle.aud_code.specs.Flat.{Flat, barrier_at, flat_controls}
use Rattle.aud_machine.specs.Tasking.{seen_in}
use Rattle.aud_machine.proofs.Tasking.{many, none_seen, seen_law}
use Rattle.aud_debug.specs.Ties.Rows.{task_line}

abbrev seen_or : Option (TaskAt Seen) → TaskAt Seen
seen_or None = none_seen
seen_or (Some t) = t

module _ (plan : Plan) (code : Flat) (c : All Spot) where
  abbrev pub d : All Seen
  d = seen plan (flat_controls plan code) c

  -- what is seen of one of them
  pub one_seen : (n : ℕ) → n < length c.tasks → get_or d.tasks n none_seen ≡ seen_in plan code n c
  one_seen n within =
      let inside : n < length d.tasks = omega (arith, within, many plan code c) in
      ap seen_or (sym (slice_get-get_or d.tasks n none_seen inside))
      ∙ seen_law plan code seen_or (λ t. t) refl (λ t. refl) n c

  -- the lines of those from a number on
  abbrev pub lines_from : ℕ → List (List ℕ)
  lines_from n = task_lines plan (barrier_at code) n (drop n d.tasks) d

  pub lines_next : (n : ℕ) → n < length c.tasks → lines_from n ≡ (task_line plan code n c ∷ []) ++ lines_from (n + 1)
  lines_next n within =
      let inside : n < length d.tasks = omega (arith, within, many plan code c) in
      at_drop_more (λ ts. task_lines plan (barrier_at code) n ts d) d.tasks n none_seen inside
      ∙ ap (λ t. task_lines plan (barrier_at code) n (t ∷ drop (n + 1) d.tasks) d) (one_seen n within)
      ∙ ap (λ k. task_line plan code n c ∷ task_lines plan (barrier_at code) k (drop (n + 1) d.tasks) d) (sym (add-one n))

  pub lines_past : (n : ℕ) → length c.tasks ≤ n → lines_from n ≡ []
  lines_past n past =
      let beyond : length d.tasks ≤ n = omega (arith, past, many plan code c) in
      at_drop_all (λ ts. task_lines plan (barrier_at code) n ts d) d.tasks n beyond
