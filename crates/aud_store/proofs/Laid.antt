-- All frames, one by one.
use Rattle.std.proofs.Common.{◌≡◌, ◌≢◌, ℕ, zero, suc, ◌+◌, ◌<◌, ℤ, List, [], ◌∷◌, ◌++◌, ◌||◌, length, get_or, set, nat_eq, if◌then◌else◌, sym, ap, ◌∙◌, refl, inl, inr, add-zero, zero-add, arith, ext_get_or, get_or-set_same, get_or-set_other, length-set}
use Rattle.std.proofs.lemmas.Bool.{cases_eq}
use Rattle.std.proofs.lemmas.List.FromFn.{length-map-range_with_len, get_or-map-range_with_len, map-range_with_len_more}
use Rattle.aud_meaning.specs.Parts.{contains}
use Rattle.aud_store.specs.Ties.Frames.{laid, named_from, only_named, with_frame}

pub length_laid : (made : ℕ) (f : ℕ → List ℤ) → length (laid made f) ≡ made
length_laid made f = length-map-range_with_len f 0 made

pub laid_at : (made n : ℕ) (f : ℕ → List ℤ) → n < made → get_or (laid made f) n [] ≡ f n
laid_at made n f within = get_or-map-range_with_len f 0 made n n [] within (zero-add n)

-- each as it was
pub laid_same : (made : ℕ) (f g : ℕ → List ℤ) → ((n : ℕ) → n < made → g n ≡ f n) → laid made g ≡ laid made f
laid_same made f g same =
    ext_get_or [] (laid made g) (laid made f) (length_laid made g ∙ sym (length_laid made f)) (λ n h.
    let within : n < made = omega (arith, h, length_laid made g) in
    laid_at made n g within ∙ same n within ∙ sym (laid_at made n f within))

-- one has other cells
pub laid_written : (made n : ℕ) (f g : ℕ → List ℤ) (to : List ℤ → List ℤ) → n < made → g n ≡ to (f n) → ((m : ℕ) → m ≢ n → g m ≡ f m) → laid made g ≡ with_frame n to (laid made f)
laid_written made n f g to within this others = ext_get_or [] (laid made g) (with_frame n to old) (length_laid made g ∙ sym (length-set old n cells ∙ length_laid made f)) each
  where
    old : List (List ℤ)
    old = laid made f

    cells : List ℤ
    cells = to (get_or old n [])

    here : get_or (laid made g) n [] ≡ get_or (set old n cells) n []
    here =
        laid_at made n g within ∙ this ∙ ap to (sym (laid_at made n f within))
        ∙ sym (get_or-set_same old n cells [] (omega (arith, within, length_laid made f)))

    there : (m : ℕ) → m < made → m ≢ n → get_or (laid made g) m [] ≡ get_or (set old n cells) m []
    there m below other = laid_at made m g below ∙ others m other ∙ sym (laid_at made m f below) ∙ sym (get_or-set_other old n m cells [] other)

    each : (m : ℕ) → m < length (laid made g) → get_or (laid made g) m [] ≡ get_or (set old n cells) m []
    each m h = elim (cases_eq m n) [
      | inl same ↦ ap (λ k. get_or (laid made g) k []) same ∙ here ∙ sym (ap (λ k. get_or (set old n cells) k []) same)
      | inr other ↦ there m (omega (arith, h, length_laid made g)) other
    ]

-- one more
pub laid_more : (made : ℕ) (f g : ℕ → List ℤ) (cells : List ℤ) → ((n : ℕ) → n < made → g n ≡ f n) → g made ≡ cells → laid (made + 1) g ≡ laid made f ++ cells ∷ []
laid_more made f g cells same last =
    map-range_with_len_more g 0 made made (zero-add made)
    ∙ ap (λ fs. fs ++ g made ∷ []) (laid_same made f g same)
    ∙ ap (λ l. laid made f ++ l ∷ []) last

-- Only those that are named.

pub length_named : (n : ℕ) (named : List ℕ) (fs : List (List ℤ)) → length (named_from n named fs) ≡ length fs
length_named n named [] = refl
length_named n named (f ∷ fs) = ap suc (length_named (suc n) named fs)

abbrev pub is_left : List ℕ → ℕ → List ℤ → List ℤ
is_left named n cells = if nat_eq n 0 || contains n named then cells else []

pub named_at : (n : ℕ) (named : List ℕ) (fs : List (List ℤ)) (k : ℕ) → k < length fs → get_or (named_from n named fs) k [] ≡ is_left named (n + k) (get_or fs k [])
named_at n named [] k h = absurd (omega (arith, h))
named_at n named (f ∷ fs) zero h = ap (λ m. is_left named m f) (sym (add-zero n))
named_at n named (f ∷ fs) (suc k) h =
    let next : suc n + k ≡ n + suc k = omega arith in
    named_at (suc n) named fs k (omega (arith, h)) ∙ ap (λ m. is_left named m (get_or fs k [])) next

pub laid_named : (made : ℕ) (named : List ℕ) (f g : ℕ → List ℤ) → ((n : ℕ) → g n ≡ is_left named n (f n)) → laid made g ≡ only_named named (laid made f)
laid_named made named f g left =
    let old = laid made f in
    ext_get_or [] (laid made g) (only_named named old) (length_laid made g ∙ sym (length_named 0 named old ∙ length_laid made f)) (λ n h.
    let within : n < made = omega (arith, h, length_laid made g) in
    let at : get_or (only_named named old) n [] ≡ is_left named n (get_or old n []) = named_at 0 named old n (omega (arith, within, length_laid made f)) ∙ ap (λ m. is_left named m (get_or old n [])) (zero-add n) in
    laid_at made n g within ∙ left n ∙ ap (is_left named n) (sym (laid_at made n f within)) ∙ sym at)
