-- All frames, of which the first one lies apart, and others are kept.
use Rattle.std.proofs.Common.{◌≡◌, ◌≢◌, ℕ, zero, suc, ◌+◌, ◌<◌, ℤ, List, [], ◌∷◌, ◌++◌, length, get_or, Option, Some, None, IsNone, IfNone, OnSome, IsPermutation, slice_get, if◌then◌else◌, sym, ap, ◌∙◌, refl, inl, inr, arith}
use Rattle.std.proofs.lemmas.Bool.{cases_lt, ne_eqb}
use Rattle.std.proofs.lemmas.List.{get_or_past}
use Rattle.std.proofs.lemmas.Option.{slice_get-get_or}
use Rattle.aud_meaning.specs.Parts.{contains}
use Rattle.aud_store.specs.declared.shelf.Shelf.{Shelf}
use Rattle.aud_store.specs.Ties.Frames.{laid, only_named, with_frame}
use Rattle.aud_store.specs.Ties.Shelf.{cells_on, frame_of, Changes, IsSame}
use Rattle.aud_store.proofs.Laid.{is_left, laid_at, laid_more, laid_named, laid_same, laid_written, length_laid}
use Rattle.aud_store.proofs.Naming.{contains_moved}

kept_frame : (first : List ℤ) (s : Shelf) (n : ℕ) → n ≢ 0 → frame_of first s n ≡ cells_on s n
kept_frame first s zero some = absurd (some refl)
kept_frame first s (suc n) some = refl

-- the first one changes, and no other
first_alone : (old new : List ℤ) (s : Shelf) (n : ℕ) → n ≢ 0 → frame_of new s n ≡ frame_of old s n
first_alone old new s n some = kept_frame new s n some ∙ sym (kept_frame old s n some)

-- those that are kept change, and not the first one
shelf_alone : (first : List ℤ) (old new : Shelf) (n : ℕ) → (n ≢ 0 → cells_on new n ≡ cells_on old n) → frame_of first new n ≡ frame_of first old n
shelf_alone first old new zero same = refl
shelf_alone first old new (suc n) same = same (λ none. absurd (omega (arith, none)))

pub below_made : (made n : ℕ) (f : ℕ → List ℤ) (frames : List (List ℤ)) → laid made f ≡ frames → n < length frames → n < made
below_made made n f frames view within = omega (arith, within, ap length view, length_laid made f)

pub first_written : (made n : ℕ) (old new : List ℤ) (s : Shelf) (frames : List (List ℤ)) (to : List ℤ → List ℤ) → laid made (frame_of old s) ≡ frames → n < length frames → n ≡ 0 → new ≡ to old → laid made (frame_of new s) ≡ with_frame n to frames
first_written made n old new s frames to view within is_first is =
    laid_written made n (frame_of old s) (frame_of new s) to (below_made made n (frame_of old s) frames view within)
    (ap (frame_of new s) is_first ∙ is ∙ sym (ap (λ k. to (frame_of old s k)) is_first))
    (λ m other. first_alone old new s m (λ none. other (none ∙ sym is_first)))
    ∙ ap (with_frame n to) view

pub shelf_written : (made n : ℕ) (first : List ℤ) (old new : Shelf) (frames : List (List ℤ)) (to : List ℤ → List ℤ) → laid made (frame_of first old) ≡ frames → n < length frames → n ≢ 0 → Changes n to old new → laid made (frame_of first new) ≡ with_frame n to frames
shelf_written made n first old new frames to view within some changes =
    laid_written made n (frame_of first old) (frame_of first new) to (below_made made n (frame_of first old) frames view within)
    (kept_frame first new n some ∙ changes.this ∙ ap to (sym (kept_frame first old n some)))
    (λ m other. shelf_alone first old new m (λ more. changes.others m other))
    ∙ ap (with_frame n to) view

pub shelf_same : (made : ℕ) (first : List ℤ) (old new : Shelf) (frames : List (List ℤ)) → laid made (frame_of first old) ≡ frames → IsSame old new → laid made (frame_of first new) ≡ frames
shelf_same made first old new frames view same =
    laid_same made (frame_of first old) (frame_of first new) (λ n within. shelf_alone first old new n (λ some. same n)) ∙ view

-- one more is made: the first one, or another one
pub first_made : (made : ℕ) (old new : List ℤ) (s : Shelf) (frames : List (List ℤ)) → laid made (frame_of old s) ≡ frames → made ≡ 0 → laid (made + 1) (frame_of new s) ≡ frames ++ new ∷ []
first_made made old new s frames view none =
    laid_more made (frame_of old s) (frame_of new s) new (λ n within. absurd (omega (arith, within, none))) (ap (frame_of new s) none)
    ∙ ap (λ fs. fs ++ new ∷ []) view

pub next_made : (made : ℕ) (first cells : List ℤ) (old new : Shelf) (frames : List (List ℤ)) → laid made (frame_of first old) ≡ frames → made ≢ 0 → Changes made (λ none. cells) old new → laid (made + 1) (frame_of first new) ≡ frames ++ cells ∷ []
next_made made first cells old new frames view some changes =
    laid_more made (frame_of first old) (frame_of first new) cells
    (λ n within. shelf_alone first old new n (λ more. changes.others n (λ same. omega (arith, same, within))))
    (kept_frame first new made some ∙ changes.this)
    ∙ ap (λ fs. fs ++ cells ∷ []) view

-- what is read
pub frame_got : (made n : ℕ) (f : ℕ → List ℤ) (frames : List (List ℤ)) → laid made f ≡ frames → n < length frames → slice_get frames n ≡ Some (f n)
frame_got made n f frames view within =
    slice_get-get_or frames n [] within
    ∙ ap Some (sym (ap (λ fs. get_or fs n []) view) ∙ laid_at made n f (below_made made n f frames view within))

pub kept_got : (made n : ℕ) (first : List ℤ) (s : Shelf) (frames : List (List ℤ)) → laid made (frame_of first s) ≡ frames → n < length frames → n ≢ 0 → slice_get frames n ≡ Some (cells_on s n)
kept_got made n first s frames view within some = frame_got made n (frame_of first s) frames view within ∙ ap Some (kept_frame first s n some)

pub kept_read : (made n : ℕ) (first : List ℤ) (s : Shelf) (frames : List (List ℤ)) → laid made (frame_of first s) ≡ frames → n < length frames → n ≢ 0 → cells_on s n ≡ get_or frames n []
kept_read made n first s frames view within some =
    sym (sym (ap (λ fs. get_or fs n []) view) ∙ laid_at made n (frame_of first s) (below_made made n (frame_of first s) frames view within) ∙ kept_frame first s n some)

pub on_some : {A P Q : Type 0} (o : Option A) → (P → Q) → OnSome o P → OnSome o Q
on_some None so p = tt
on_some (Some x) so p = so p

none_told : {A : Type 0} {P : Type 0} (o : Option A) → IfNone o P → IsNone o → P
none_told None told none = told
none_told (Some x) told none = absurd (cc)

pub reads_none : (made n : ℕ) (first : List ℤ) (s : Shelf) (frames : List (List ℤ)) (key : Option ℕ) → laid made (frame_of first s) ≡ frames → IfNone key (cells_on s n ≡ []) → IsNone key → 0 < n → get_or frames n [] ≡ []
reads_none made n first s frames key view absent none some = elim (cases_lt n made) [
  | inl within ↦ sym (ap (λ fs. get_or fs n []) view) ∙ laid_at made n (frame_of first s) within ∙ kept_frame first s n (λ zero_so. omega (arith, zero_so, some)) ∙ none_told key absent none
  | inr past ↦ get_or_past frames n [] (omega (arith, past, ap length view, length_laid made (frame_of first s)))
]

-- Only those are left that are named, in whatever order.
pub only_left : (made : ℕ) (first : List ℤ) (old new : Shelf) (named sorted : List ℕ) (frames : List (List ℤ)) → laid made (frame_of first old) ≡ frames → IsPermutation named sorted → ((n : ℕ) → cells_on new n ≡ (if contains n sorted then cells_on old n else [])) → laid made (frame_of first new) ≡ only_named named frames
only_left made first old new named sorted frames view moved left =
    laid_named made named (frame_of first old) (frame_of first new) each ∙ ap (only_named named) view
  where
    each : (n : ℕ) → frame_of first new n ≡ is_left named n (frame_of first old n)
    each zero = refl
    each (suc n) = rw (ne_eqb (suc n) 0 (λ none. absurd (omega (arith, none)))) (left (suc n) ∙ ap (λ b. if b then cells_on old (suc n) else []) (sym (contains_moved (suc n) named sorted moved)))
