-- Entries that are found eligible one after the other.
use Rattle.std.proofs.Common.{◌≡◌, ◌<◌, ◌+◌, ℕ, List, [], ◌∷◌, ◌++◌, Bool, true, false, Result, Ok, Err, length, drop, get_or, if◌then◌else◌, add-one, append_assoc, refl, ap, sym, ◌∙◌}
use Rattle.std.proofs.lemmas.List.{at_drop_more}
use Rattle.aud_text.specs.declared.raise.Raise.{Raise}
use Rattle.aud_typed.specs.Tree.{Plan}
use Rattle.aud_meaning.specs.Configuration.{All}
use Rattle.aud_meaning.specs.Evaluation.{Sight}
use Rattle.aud_meaning.specs.Parts.{Waiting, queue}
use Rattle.aud_meaning.specs.Tasks as effect
use Rattle.aud_protected.specs.Eligible.{asked}

-- behind those that were found
abbrev pub joined : List ℕ → Result (List ℕ) Raise → Result (List ℕ) Raise
joined found (Ok more) = Ok (found ++ more)
joined found (Err raise) = Err raise

pub joined_none : (r : Result (List ℕ) Raise) → joined [] r ≡ r
joined_none (Ok more) = refl
joined_none (Err raise) = refl

picked : (ws : List Waiting) (met : Result Bool Raise) (n : ℕ) (rest : Result (List ℕ) Raise) → effect.eligible_if ws met n rest ≡ effect.more_eligible (asked ws met) n rest
picked [] met n rest = refl
picked (w ∷ ws) met n rest = refl

module _ {C : Type 0} (plan : Plan) (barrier : ℕ → Sight → Result Bool Raise) (object : ℕ) (c : All C) where
  abbrev pub met_at : ℕ → Result Bool Raise
  met_at entry = asked (queue object entry c.shared.calls) (effect.barrier_of plan barrier object entry c)

  abbrev pub found_from : ℕ → List ℕ → Result (List ℕ) Raise
  found_from index entries = effect.eligible_from plan barrier index entries object c

  -- the first of those that are left
  first_of : (found entries : List ℕ) (n d : ℕ) → n < length entries → joined found (effect.more_eligible (met_at (get_or entries n d)) (n + 1) (found_from (n + 1 + 1) (drop (n + 1) entries))) ≡ joined found (found_from (n + 1) (drop n entries))
  first_of found entries n d within =
      let x = get_or entries n d in
      let rest = found_from (n + 1 + 1) (drop (n + 1) entries) in
      ap (joined found) (sym (picked (queue object x c.shared.calls) (effect.barrier_of plan barrier object x c) (n + 1) rest))
      ∙ ap (λ k. joined found (effect.eligible_if (queue object x c.shared.calls) (effect.barrier_of plan barrier object x c) (n + 1) (found_from k (drop (n + 1) entries)))) (add-one (n + 1))
      ∙ sym (at_drop_more (λ es. joined found (found_from (n + 1) es)) entries n d within)

  one_more : (b : Bool) (found : List ℕ) (k : ℕ) (rest : Result (List ℕ) Raise) → joined (if b then found ++ k ∷ [] else found) rest ≡ joined found (effect.more_eligible (Ok b) k rest)
  one_more true found k (Ok more) = ap (λ l. Ok l) (append_assoc found (k ∷ []) more)
  one_more true found k (Err raise) = refl
  one_more false found k (Ok more) = refl
  one_more false found k (Err raise) = refl

  pub more_found : (b : Bool) (found entries : List ℕ) (n d : ℕ) → n < length entries → Ok b ≡ met_at (get_or entries n d) → joined (if b then found ++ (n + 1) ∷ [] else found) (found_from (n + 1 + 1) (drop (n + 1) entries)) ≡ joined found (found_from (n + 1) (drop n entries))
  more_found b found entries n d within met =
      let rest = found_from (n + 1 + 1) (drop (n + 1) entries) in
      one_more b found (n + 1) rest
      ∙ ap (λ m. joined found (effect.more_eligible m (n + 1) rest)) met
      ∙ first_of found entries n d within

  pub none_found : (raise : Raise) (found entries : List ℕ) (n d : ℕ) → n < length entries → Err raise ≡ met_at (get_or entries n d) → Err raise ≡ joined found (found_from (n + 1) (drop n entries))
  none_found raise found entries n d within met =
      let rest = found_from (n + 1 + 1) (drop (n + 1) entries) in
      ap (λ m. joined found (effect.more_eligible m (n + 1) rest)) met
      ∙ first_of found entries n d within
