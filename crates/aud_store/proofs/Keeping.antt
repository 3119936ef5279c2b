-- The cells of frames that are kept.
use Rattle.std.proofs.Common.{◌≡◌, ◌≢◌, ◌⊎◌, ℕ, zero, suc, ◌+◌, ◌<◌, ◌≤◌, ℤ, List, [], ◌∷◌, Bool, true, false, cond, length, take, drop, get_or, filter, insert, All, AllPairs, Option, Some, None, is_some, IsSome, Result, Ok, Err, IfOk, IfErr, nat_cmp, nat_eq, if◌then◌else◌, sym, ap, ◌∙◌, subst, refl, inl, inr, add-zero, arith}
use Rattle.std.specs.List.Sorted.{IsSearchInRange, IsBinarySearchResult, IsNonDecreasingBy}
use Rattle.std.specs.Ordering.{ordering_index}
use Rattle.std.proofs.lemmas.Cmp.{ranked}
use Rattle.std.proofs.lemmas.Bool.Decides.{nat_tests}
use Rattle.std.proofs.lemmas.Bool.{cases_eq, cases_lt, cases_order, eq-eqb, ne_eqb, true≢false}
use Rattle.std.proofs.lemmas.List.{get_or_default, get_or-drop}
use Rattle.std.proofs.lemmas.List.Edits.{length-insert, get_or-insert_at, get_or-insert_below}
use Rattle.std.proofs.lemmas.List.Elements.{All-append, All-cons, All-take, All-drop, All-weaker, All-contains, All-filter, filter_passes}
use Rattle.std.proofs.lemmas.List.Kept.{AllPairs-cons, AllPairs-filter}
use Rattle.slab.specs.Slab.{get, with_value, Updates, SameValues}
use Rattle.smallvec.specs.SmallVec.{SmallVec}
use Rattle.slab.proofs.SlabLemmas.{Updates-with_value}
use Rattle.aud_meaning.specs.Parts.{contains}
use Rattle.aud_store.specs.declared.shelf.Kept.{Kept}
use Rattle.aud_store.specs.declared.shelf.Shelf.{Shelf}
use Rattle.aud_store.specs.Ties.Shelf.{Slots, cells_in, kept_cells, cells_on, Precedes, IsKept, IsShelf, Keeps, IsAt, IsGap, Changes, IsSame}

-- Lists of those that are kept.

-- the first one of this number
at_kept : (slots : Slots) (ks : List Kept) (i n : ℕ) → i < length ks → ((d : Kept) → (get_or ks i d).number ≡ n) → ((j : ℕ) (d : Kept) → j < i → (get_or ks j d).number ≢ n) → (d : Kept) → kept_cells slots ks n ≡ cells_in (get slots (get_or ks i d).key)
at_kept slots [] i n within is first d = absurd (omega (arith, within))
at_kept slots (k ∷ ks) zero n within is first d = rw (eq-eqb n k.number (sym (is d))) refl
at_kept slots (k ∷ ks) (suc i) n within is first d =
    rw (ne_eqb n k.number (λ same. first zero d (omega arith) (sym same)))
    (at_kept slots ks i n (omega (arith, within)) is (λ j e before. first (suc j) e (omega (arith, before))) d)

none_kept : (slots : Slots) (ks : List Kept) (n : ℕ) → ((i : ℕ) (d : Kept) → i < length ks → (get_or ks i d).number ≢ n) → kept_cells slots ks n ≡ []
none_kept slots [] n none = refl
none_kept slots (k ∷ ks) n none =
    rw (ne_eqb n k.number (λ same. none zero k (omega arith) (sym same)))
    (none_kept slots ks n (λ i d within. none (suc i) d (omega (arith, within))))

-- under the keys of those of this number lie the same cells
same_kept : (old new : Slots) (ks : List Kept) (n : ℕ) → ((i : ℕ) (d : Kept) → i < length ks → (get_or ks i d).number ≡ n → get new (get_or ks i d).key ≡ get old (get_or ks i d).key) → kept_cells new ks n ≡ kept_cells old ks n
same_kept old new [] n same = refl
same_kept old new (k ∷ ks) n same = elim (cases_eq n k.number) [
  | inl here ↦ rw (eq-eqb n k.number here) (ap cells_in (same zero k (omega arith) (sym here)))
  | inr other ↦ rw (ne_eqb n k.number other) (same_kept old new ks n (λ i d within. same (suc i) d (omega (arith, within))))
]

others_inserted : (slots : Slots) (ks : List Kept) (at : ℕ) (k : Kept) (n : ℕ) → n ≢ k.number → kept_cells slots (insert ks at k) n ≡ kept_cells slots ks n
others_inserted slots ks zero k n other = rw (ne_eqb n k.number other) refl
others_inserted slots [] (suc at) k n other = rw (ne_eqb n k.number other) refl
others_inserted slots (j ∷ ks) (suc at) k n other = ap (λ cells. if nat_eq n j.number then cells_in (get slots j.key) else cells) (others_inserted slots ks at k n other)

either_way : (b : Bool) (cells : List ℤ) → cells ≡ (if b then cells else cells)
either_way true cells = refl
either_way false cells = refl

-- those that are named
only_kept : (slots : Slots) (named : List ℕ) (ks : List Kept) (n : ℕ) → kept_cells slots (filter (λ k. contains k.number named) ks) n ≡ (if contains n named then kept_cells slots ks n else [])
only_kept slots named [] n = either_way (contains n named) []
only_kept slots named (k ∷ ks) n = by (contains k.number named) refl (cases_eq n k.number) (only_kept slots named ks n)
  where
    rest : List Kept
    rest = filter (λ j. contains j.number named) ks

    by : (b : Bool) → contains k.number named ≡ b → (n ≡ k.number) ⊎ (n ≢ k.number) → kept_cells slots rest n ≡ (if contains n named then kept_cells slots ks n else []) → kept_cells slots (cond b (k ∷ rest) rest) n ≡ (if contains n named then kept_cells slots (k ∷ ks) n else [])
    by true is (inl same) left = rw (eq-eqb n k.number same, ap (λ m. contains m named) same ∙ is) refl
    by true is (inr other) left = rw (ne_eqb n k.number other) left
    by false is (inl same) left = rw (ap (λ m. contains m named) same ∙ is) (rw (ap (λ m. contains m named) same ∙ is) at left)
    by false is (inr other) left = rw (ne_eqb n k.number other) left

pairs_inserted : {X : Type 0} (R : X → X → Type 0) (xs : List X) (at : ℕ) (y : X) → at ≤ length xs → AllPairs R xs → ((i : ℕ) (d : X) → i < at → R (get_or xs i d) y) → ((i : ℕ) (d : X) → at ≤ i → i < length xs → R y (get_or xs i d)) → AllPairs R (insert xs at y)
pairs_inserted R xs zero y within pairs before behind = AllPairs-cons R y xs (λ i d h. behind i d (omega arith) h) pairs
pairs_inserted R [] (suc at) y within pairs before behind = absurd (omega (arith, within))
pairs_inserted R (x ∷ xs) (suc at) y within pairs before behind =
    let later : All (R x) xs = λ i d h. pairs zero (suc i) d (omega arith) (omega (arith, h)) in
    AllPairs-cons R x (insert xs at y)
    (All-append (R x) (take at xs) (y ∷ drop at xs) (All-take (R x) at xs later) (All-cons (R x) y (drop at xs) (before zero x (omega arith)) (All-drop (R x) at xs later)))
    (pairs_inserted R xs at y (omega (arith, within)) (λ i j d h k. pairs (suc i) (suc j) d (omega (arith, h)) (omega (arith, k)))
    (λ i d h. before (suc i) d (omega (arith, h)))
    (λ i d h k. behind (suc i) d (omega (arith, h)) (omega (arith, k))))

-- Places and keys.

pub gap_empty : (s : Shelf) (n at : ℕ) → IsGap s.kept.items n at → cells_on s n ≡ []
gap_empty s n at gap = none_kept s.slots s.kept.items n (λ i d h same. elim (cases_lt i at) [
  | inl before ↦ omega (arith, same, gap.before i d before)
  | inr behind ↦ omega (arith, same, gap.behind i d behind h)
])

-- Where a binary search ends.

higher : (a b n : ℕ) → a ≤ b → ordering_index (nat_cmp a n) ≤ ordering_index (nat_cmp b n)
higher a b n le = grind (arith, nat_tests)

module _ (ks : List Kept) (ordered : AllPairs Precedes ks) (n : ℕ) where
  rising : (i j : ℕ) (d : Kept) → i ≤ j → j < length ks → (get_or ks i d).number ≤ (get_or ks j d).number
  rising i j d le within = elim (cases_eq i j) [
    | inl same ↦ omega (arith, ap (λ k. (get_or ks k d).number) same)
    | inr other ↦ omega (arith, (ordered i j d (omega (arith, le, other)) within).0)
  ]

  comparisons_rise : IsNonDecreasingBy (λ (k : Kept). ordering_index (nat_cmp k.number n)) ks
  comparisons_rise i j d le within = higher (get_or ks i d).number (get_or ks j d).number n (rising i j d le within)

  pub found_place : (r : Result ℕ ℕ) → IsSearchInRange r (length ks) → IsBinarySearchResult (λ (k : Kept). nat_cmp k.number n) ks r → IfOk r (IsAt ks n) × IfErr r (IsGap ks n)
  found_place (Ok at) within equal = (record { within = within; found = λ d. ranked _ n _ (sym (equal d)) }, tt)
  found_place (Err at) within parted = (
    tt,
    record {
      within = within;
      before = λ i d h. ranked _ n _ (sym ((parted comparisons_rise).0 i d (omega arith) h));
      behind = λ i d h k. ranked _ n _ (sym ((parted comparisons_rise).1 i d h k));
    },
  )

-- what stands at a place is kept
pub kept_there : (ks : List Kept) (n at : ℕ) (k : Kept) → IsAt ks n at → k ≡ get_or ks at k → Keeps ks n k.key
kept_there ks n at k there read =
    let it : Kept = record { number = n; key = k.key } in
    let same : k ≡ it = ap (λ m. record { number = m; key = k.key }) (ap (λ (x : Kept). x.number) read ∙ there.found k) in
    (at, there.within, get_or_default ks at it k there.within ∙ sym read ∙ same)

module _ (made : ℕ) (s : Shelf) (n key : ℕ) (shelf : IsShelf made s) (keeps : Keeps s.kept.items n key) where
  abbrev it : Kept
  it = record { number = n; key = key }

  abbrev place : ℕ
  place = keeps.0

  stands : (d : Kept) → get_or s.kept.items place d ≡ it
  stands d = get_or_default s.kept.items place d it keeps.1 ∙ keeps.2

  -- under its key
  pub key_cells : cells_on s n ≡ cells_in (get s.slots key)
  key_cells =
      at_kept s.slots s.kept.items place n keeps.1 (λ d. ap (λ (k : Kept). k.number) (stands d))
      (λ j d before same. omega (arith, same, ap (λ (k : Kept). k.number) (stands d), (shelf.ordered j place d before keeps.1).0)) it
      ∙ ap (λ (k : Kept). cells_in (get s.slots k.key)) (stands it)

  pub key_filled : IsSome (get s.slots key)
  key_filled = (All-contains (IsKept made s.slots) s.kept.items it shelf.filled keeps).2

  -- others have other keys
  key_apart : (i : ℕ) (d : Kept) → i < length s.kept.items → (get_or s.kept.items i d).number ≢ n → (get_or s.kept.items i d).key ≢ key
  key_apart i d within other same = elim (cases_order i place) [
    | inl here ↦ other (ap (λ j. (get_or s.kept.items j d).number) here ∙ ap (λ (k : Kept). k.number) (stands d))
    | inr apart ↦ elim apart [
      | inl before ↦ (shelf.ordered i place d before keeps.1).1 (same ∙ sym (ap (λ (k : Kept). k.key) (stands d)))
      | inr behind ↦ (shelf.ordered place i d behind within).1 (ap (λ (k : Kept). k.key) (stands d) ∙ sym same)
    ]
  ]

-- a slot changes, and each key that had cells has some
filled_still : (old new : Slots) (key k : ℕ) (v : SmallVec ℤ) → Updates old new key (Some v) → IsSome (get old k) → IsSome (get new k)
filled_still old new key k v updates some = elim (cases_eq k key) [
  | inl same ↦ rw (ap (get new) same ∙ updates.changed) refl
  | inr other ↦ rw (updates.others k other) some
]

-- Under one key lie other cells.
module _ (made : ℕ) (s : Shelf) (n key : ℕ) (v : SmallVec ℤ) (shelf : IsShelf made s) (keeps : Keeps s.kept.items n key) where
  abbrev written : Shelf
  written = record s { slots = with_value s.slots key v }

  updated : Updates s.slots (with_value s.slots key v) key (Some v)
  updated = Updates-with_value s.slots key v (key_filled made s n key shelf keeps)

  pub written_shelf : IsShelf made written
  written_shelf = record {
    ordered = shelf.ordered;
    filled = All-weaker (IsKept made s.slots) (IsKept made written.slots) (λ k is. (is.0, is.1, filled_still s.slots written.slots key k.key v updated is.2)) s.kept.items shelf.filled;
  }

  pub written_changes : (to : List ℤ → List ℤ) (w : SmallVec ℤ) → get s.slots key ≡ Some w → v.items ≡ to w.items → Changes n to s written
  written_changes to w was is = record {
    this =
        key_cells made written n key written_shelf keeps ∙ ap cells_in updated.changed ∙ is
        ∙ ap to (sym (key_cells made s n key shelf keeps ∙ ap cells_in was));
    others = λ m other. same_kept s.slots written.slots s.kept.items m (λ i d within here.
        updated.others (get_or s.kept.items i d).key (key_apart made s n key shelf keeps i d within (λ same. other (sym here ∙ same))));
  }

-- where they are the same cells, all have their own
pub none_changes : (n : ℕ) (old new : Shelf) → Changes n (λ cells. cells) old new → IsSame old new
none_changes n old new changes m = elim (cases_eq m n) [
  | inl here ↦ ap (cells_on new) here ∙ changes.this ∙ sym (ap (cells_on old) here)
  | inr other ↦ changes.others m other
]

pub changes_after : (n : ℕ) (to : List ℤ → List ℤ) (old there new : Shelf) → IsSame old there → Changes n to there new → Changes n to old new
changes_after n to old there new same changes = record {
  this = changes.this ∙ ap to (same n);
  others = λ m other. changes.others m other ∙ same m;
}

-- no cells where there were none
pub none_put : (n : ℕ) (old new : Shelf) → cells_on old n ≡ [] → Changes n (λ none. []) old new → IsSame old new
none_put n old new none changes m = elim (cases_eq m n) [
  | inl here ↦ ap (cells_on new) here ∙ changes.this ∙ sym (ap (cells_on old) here ∙ none)
  | inr other ↦ changes.others m other
]

-- a key is filled for which room was made
pub filled_after : (old there new : Slots) (room key k : ℕ) (slot : Option (SmallVec ℤ)) → there ≡ record old { capacity = room } → k ≡ key → Updates there new k slot → Updates old new key slot
filled_after old there new room key k slot is same updates = record {
  changed = ap (get new) (sym same) ∙ updates.changed;
  others = λ other differs. updates.others other (λ it. differs (it ∙ same)) ∙ ap (λ (s : Slots). get s other) is;
}

-- One more is kept.
module _ (old new : Shelf) (n at key : ℕ) (cells : List ℤ) (v : SmallVec ℤ) (some : 0 < n) (gap : IsGap old.kept.items n at) (vacant : get old.slots key ≡ None) (updates : Updates old.slots new.slots key (Some v)) (is : v.items ≡ cells) (more : new.kept.items ≡ insert old.kept.items at (record { number = n; key = key })) where
  abbrev one : Kept
  one = record { number = n; key = key }

  abbrev ks : List Kept
  ks = old.kept.items

  fresh : (made : ℕ) → IsShelf made old → (i : ℕ) (d : Kept) → i < length ks → (get_or ks i d).key ≢ key
  fresh made shelf i d within same = true≢false (sym (shelf.filled i d within).2 ∙ ap (λ k. is_some (get old.slots k)) same ∙ ap is_some vacant)

  pub kept_shelf : (made : ℕ) → IsShelf made old → n < made → IsShelf made new
  kept_shelf made shelf below = record {
    ordered = subst (AllPairs Precedes) (sym more) (pairs_inserted Precedes ks at one gap.within shelf.ordered
        (λ i d h. (gap.before i d h, fresh made shelf i d (omega (arith, h, gap.within))))
        (λ i d h k. (gap.behind i d h k, λ same. fresh made shelf i d k (sym same))));
    filled =
        let still = All-weaker (IsKept made old.slots) (IsKept made new.slots) (λ k is. (is.0, is.1, filled_still old.slots new.slots key k.key v updates is.2)) ks shelf.filled in
        subst (All (IsKept made new.slots)) (sym more)
        (All-append (IsKept made new.slots) (take at ks) (one ∷ drop at ks) (All-take (IsKept made new.slots) at ks still)
        (All-cons (IsKept made new.slots) one (drop at ks) (some, below, ap is_some updates.changed) (All-drop (IsKept made new.slots) at ks still)));
  }

  pub kept_found : Keeps new.kept.items n key
  kept_found = subst (λ l. Keeps l n key) (sym more) (at, omega (arith, length-insert ks at one gap.within, gap.within), get_or-insert_at ks at one one gap.within)

  pub kept_changes : (made : ℕ) → IsShelf made old → Changes n (λ none. cells) old new
  kept_changes made shelf = record {
    this =
        ap (λ l. kept_cells new.slots l n) more
        ∙ at_kept new.slots (insert ks at one) at n (omega (arith, length-insert ks at one gap.within, gap.within))
        (λ d. ap (λ (k : Kept). k.number) (get_or-insert_at ks at one d gap.within))
        (λ j d before same. omega (arith, same, ap (λ (k : Kept). k.number) (get_or-insert_below ks at one d j before gap.within), gap.before j d before)) one
        ∙ ap (λ (k : Kept). cells_in (get new.slots k.key)) (get_or-insert_at ks at one one gap.within)
        ∙ ap cells_in updates.changed ∙ is;
    others = λ m other.
        ap (λ l. kept_cells new.slots l m) more ∙ others_inserted new.slots ks at one m other
        ∙ same_kept old.slots new.slots ks m (λ i d within here. updates.others (get_or ks i d).key (fresh made shelf i d within));
  }

-- Nothing changes that is seen.
module _ (old new : Shelf) (kept : new.kept.items ≡ old.kept.items) (slots : SameValues old.slots new.slots) where
  pub still_shelf : (made : ℕ) → IsShelf made old → IsShelf made new
  still_shelf made shelf = record {
    ordered = subst (AllPairs Precedes) (sym kept) shelf.ordered;
    filled = subst (All (IsKept made new.slots)) (sym kept) (All-weaker (IsKept made old.slots) (IsKept made new.slots) (λ k is. (is.0, is.1, ap is_some (slots k.key) ∙ is.2)) old.kept.items shelf.filled);
  }

  pub still_same : IsSame old new
  still_same n = ap (λ l. kept_cells new.slots l n) kept ∙ same_kept old.slots new.slots old.kept.items n (λ i d within here. slots (get_or old.kept.items i d).key)

-- one more was made
pub shelf_more : (made more : ℕ) (s : Shelf) → made ≤ more → IsShelf made s → IsShelf more s
shelf_more made more s le shelf = record {
  ordered = shelf.ordered;
  filled = All-weaker (IsKept made s.slots) (IsKept more s.slots) (λ k is. (is.0, omega (arith, is.1, le), is.2)) s.kept.items shelf.filled;
}

pub shelf_empty : (made : ℕ) (s : Shelf) → s.kept.items ≡ [] → IsShelf made s
shelf_empty made s none = record {
  ordered = subst (AllPairs Precedes) (sym none) (λ i j d h k. absurd (omega (arith, k)));
  filled = subst (All (IsKept made s.slots)) (sym none) (λ i d h. absurd (omega (arith, h)));
}

-- Only those are kept that are named.

-- of the first ones, i of them, only those that are not named have lost their cells
abbrev pub GivenBack : List ℕ → Shelf → Slots → ℕ → Type 0
GivenBack named old slots i = (key : ℕ) → ((j : ℕ) (d : Kept) → j < i → contains (get_or old.kept.items j d).number named ≡ false → (get_or old.kept.items j d).key ≢ key) → get slots key ≡ get old.slots key

pub one_stays : (named : List ℕ) (old : Shelf) (slots : Slots) (i : ℕ) → GivenBack named old slots i → GivenBack named old slots (i + 1)
one_stays named old slots i given key apart = given key (λ j d h. apart j d (omega (arith, h)))

pub one_goes : (named : List ℕ) (old : Shelf) (slots new : Slots) (i : ℕ) (k : Kept) → GivenBack named old slots i → Updates slots new k.key None → contains k.number named ≡ false → k ≡ get_or old.kept.items i k → GivenBack named old new (i + 1)
one_goes named old slots new i k given updates unnamed read key apart =
    let here : (get_or old.kept.items i k).key ≢ key = apart i k (omega arith) (ap (λ (j : Kept). contains j.number named) (sym read) ∙ unnamed) in
    updates.others key (λ same. here (ap (λ (j : Kept). j.key) (sym read) ∙ sym same))
    ∙ given key (λ j d h. apart j d (omega (arith, h)))

-- what the rest of a list begins with
pub read_there : (xs ys : List Kept) (i : ℕ) (k : Kept) → drop i ys ≡ drop i xs → k ≡ get_or ys i k → k ≡ get_or xs i k
read_there xs ys i k rest read =
    let at = λ (zs : List Kept). get_or-drop i zs 0 k ∙ ap (λ n. get_or zs n k) (add-zero i) in
    read ∙ sym (at ys) ∙ ap (λ zs. get_or zs 0 k) rest ∙ at xs

module _ (named : List ℕ) (old new : Shelf) (ordered : AllPairs Precedes old.kept.items) (given : GivenBack named old new.slots (length old.kept.items)) (left : new.kept.items ≡ filter (λ (k : Kept). contains k.number named) old.kept.items) where
  abbrev is_named : Kept → Bool
  is_named k = contains k.number named

  abbrev Stays : Kept → Type 0
  Stays k = is_named k ≡ true → get new.slots k.key ≡ get old.slots k.key

  all_stay : All Stays old.kept.items
  all_stay i d within named_so = given (get_or old.kept.items i d).key (λ j e h unnamed same. elim (cases_order j i) [
    | inl here ↦ true≢false (sym named_so ∙ ap is_named (get_or_default old.kept.items i d e within ∙ ap (λ m. get_or old.kept.items m e) (sym here)) ∙ unnamed)
    | inr apart ↦ elim apart [
      | inl before ↦ (ordered j i e before within).1 (same ∙ ap (λ (k : Kept). k.key) (get_or_default old.kept.items i d e within))
      | inr behind ↦ (ordered i j e behind h).1 (sym (same ∙ ap (λ (k : Kept). k.key) (get_or_default old.kept.items i d e within)))
    ]
  ])

  stays_left : (i : ℕ) (d : Kept) → i < length (filter is_named old.kept.items) → get new.slots (get_or (filter is_named old.kept.items) i d).key ≡ get old.slots (get_or (filter is_named old.kept.items) i d).key
  stays_left i d within = All-filter is_named Stays old.kept.items all_stay i d within (filter_passes is_named old.kept.items i d within)

  pub retained_shelf : (made : ℕ) → IsShelf made old → IsShelf made new
  retained_shelf made shelf = record {
    ordered = subst (AllPairs Precedes) (sym left) (AllPairs-filter Precedes is_named old.kept.items shelf.ordered);
    filled = subst (All (IsKept made new.slots)) (sym left) (λ i d within.
        let is = All-filter is_named (IsKept made old.slots) old.kept.items shelf.filled i d within in
        (is.0, is.1, ap is_some (stays_left i d within) ∙ is.2));
  }

  pub retained_cells : (n : ℕ) → cells_on new n ≡ (if contains n named then cells_on old n else [])
  retained_cells n =
      ap (λ l. kept_cells new.slots l n) left
      ∙ same_kept old.slots new.slots (filter is_named old.kept.items) n (λ i d within here. stays_left i d within)
      ∙ only_kept old.slots named old.kept.items n
