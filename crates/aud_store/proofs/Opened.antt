-- Open frames in memory, of which the innermost one is the last.
use Rattle.std.proofs.Common.{◌≡◌, if◌then◌else◌, filter, Option, Some, None, Result, Bool, cond, not, ◌||◌, ℕ, zero, suc, ◌-◌, ◌<◌, ◌≤◌, true, false, List, [], ◌∷◌, ◌++◌, length, drop, reverse, slice_index_or, slice_set, refl, ap, sym, subst, ◌∙◌, arith, length-append}
use Rattle.std.specs.Option.{is_some, option_and_then}
use Rattle.std.specs.List.{cons_option, filter_map, find, list_any}
use Rattle.std.proofs.lemmas.List.{drop_all, drop_at, length-reverse, reverse-append, take_at}
use Rattle.aud_text.specs.declared.raise.Raise.{Raise}
use Rattle.aud_typed.specs.declared.program.Exception.{Exception}
use Rattle.aud_typed.specs.Tree.{Plan}
use Rattle.aud_meaning.specs.Configuration.{Back, Opened}
use Rattle.aud_meaning.specs.Effects.{changed_first, handled, is_counted, is_loop, live_frames}
use Rattle.aud_meaning.specs.Evaluation.{Sight}
use Rattle.aud_meaning.specs.Listings.{is_served}
use Rattle.aud_meaning.specs.Parts.{any}
use Rattle.aud_store.specs.declared.purpose.Purpose.{Purpose}
use Rattle.aud_store.specs.declared.purpose.Purpose.TheVariants.{Accept, Body, Block, Entry, Loop, Operation, Procedure}
use Rattle.aud_store.specs.declared.display.Replaced.{Replaced}
use Rattle.aud_store.specs.declared.display.Replaced.TheVariants.{Among, Apart}
use Rattle.aud_store.specs.declared.stack.Open.{Open}
use Rattle.aud_store.specs.Ties.Display.{Display, end_of, seen, placed, set_apart, stands, stands_apart, put_back}
use Rattle.aud_store.specs.Ties.Stored.{accepted_by, accepted_for, accepted_in, copies_of, kept_by, kept_of, purpose_backs, innermost_backs, own_backs, outer_backs, is_served_for, plain_open, plain_opened, plain_purpose, served_by, served_for, served_in, ArePlaced, IsPlaced, IsPlacedBy, IsInnermost}
use Rattle.aud_store.proofs.Placing.{apart_again, apart_within, back_again, placed_within, seen_apart, seen_placed}
use Rattle.aud_meaning.specs.Ties.Stack.{Stack, closed, out_of_loops_by}

-- whatever they copy back, those of accepts are not counted
abbrev pub counts : Open → Bool
counts o = is_counted (plain_purpose o.purpose [])

same_counted : (p : Purpose) (bs : List Back) → is_counted (plain_purpose p bs) ≡ is_counted (plain_purpose p [])
same_counted Body bs = refl
same_counted Block bs = refl
same_counted Loop bs = refl
same_counted (Procedure level r) bs = refl
same_counted (Operation object r) bs = refl
same_counted (Entry object call served resumed) bs = refl
same_counted (Accept call) bs = refl

one_more : (b : Bool) (n : ℕ) (o : Open) (os : List Open) → n ≡ length os → (if b then suc n else n) ≡ length (cond b (o ∷ os) os)
one_more true n o os is = ap suc is
one_more false n o os is = is

pub live_plain : (d : Display) (os : List Open) (bs : List Back) → live_frames (plain_opened d os bs) ≡ length (filter counts os)
live_plain d [] bs = refl
live_plain d (o ∷ os) bs =
    let rest = plain_opened (put_back o.replaced d) os (outer_backs o.purpose bs) in
    ap (λ b. if b then suc (live_frames rest) else live_frames rest) (same_counted o.purpose (own_backs o.purpose bs))
    ∙ one_more (counts o) (live_frames rest) o (filter counts os) (live_plain (put_back o.replaced d) os (outer_backs o.purpose bs))

fewer_kept : (b : Bool) (n : ℕ) (o : Open) (os : List Open) → length os ≤ n → length (cond b (o ∷ os) os) ≤ suc n
fewer_kept true n o os few = omega (arith, few)
fewer_kept false n o os few = omega (arith, few)

counted_few : (os : List Open) → length (filter counts os) ≤ length os
counted_few [] = omega arith
counted_few (o ∷ os) = fewer_kept (counts o) (length os) o (filter counts os) (counted_few os)

-- no more than all are counted
pub live_few : (d : Display) (os : List Open) (bs : List Back) → live_frames (plain_opened d (reverse os) bs) ≤ length os
live_few d os bs = omega (arith, live_plain d (reverse os) bs, counted_few (reverse os), length-reverse os)

-- xs with their last one, x, and with y in its place, innermost first
record IsTurned (xs : List Open) (k : ℕ) (x y : Open) : Type 0 where
  outer : List Open
  was : reverse xs ≡ x ∷ outer
  is : reverse (slice_set xs k y) ≡ y ∷ outer

turned_more : (a : Open) (xs : List Open) (k : ℕ) (x y : Open) → IsTurned xs k x y → IsTurned (a ∷ xs) (suc k) x y
turned_more a xs k x y t = record { outer = t.outer ++ a ∷ []; was = reverse-append (a ∷ []) xs ∙ ap (λ l. l ++ a ∷ []) t.was; is = reverse-append (a ∷ []) (slice_set xs k y) ∙ ap (λ l. l ++ a ∷ []) t.is }

turned : (xs : List Open) (k : ℕ) (x y : Open) → suc k ≡ length xs → x ≡ slice_index_or xs k x → IsTurned xs k x y
turned [] k x y n at = absurd (omega (arith, n))
turned (a ∷ []) zero x y n at = record { outer = []; was = ap (λ o. o ∷ []) (sym at); is = refl }
turned (a ∷ []) (suc k) x y n at = absurd (omega (arith, n))
turned (a ∷ b ∷ xs) zero x y n at = absurd (omega (arith, n))
turned (a ∷ b ∷ xs) (suc k) x y n at = turned_more a (b ∷ xs) k x y (turned (b ∷ xs) k x y (omega (arith, n)) at)

-- x is the last one, with y in its place
pub record IsLast (xs : List Open) (n : ℕ) (x : Open) : Type 0 where
  pub counted : n ≡ length xs
  pub some : 0 < n
  pub at : x ≡ slice_index_or xs (n - 1) x

turned_last : (xs : List Open) (n : ℕ) (x y : Open) → IsLast xs n x → IsTurned xs (n - 1) x y
turned_last xs n x y h = turned xs (n - 1) x y (omega (arith, h.counted, h.some)) h.at

-- it has the same number, was opened for the same, and stands in place of the same
pub record IsSame (x y : Open) : Type 0 where
  pub frame : x.frame ≡ y.frame
  pub purpose : x.purpose ≡ y.purpose
  pub replaced : x.replaced ≡ y.replaced

-- placed where it is, of this number, for this, and in place of this
abbrev Placed : Display → List Open → ℕ → Purpose → Replaced → Type 0
Placed d os frame p r = IsPlacedBy r frame p (put_back r d) d × ArePlaced (put_back r d) os

-- then it is placed as the other one was
pub placed_turned : (d : Display) (xs : List Open) (n : ℕ) (x y : Open) → IsLast xs n x → IsSame x y → ArePlaced d (reverse xs) → ArePlaced d (reverse (slice_set xs (n - 1) y))
placed_turned d xs n x y h same are = by (turned_last xs n x y h)
  where
    by : IsTurned xs (n - 1) x y → ArePlaced d (reverse (slice_set xs (n - 1) y))
    by t =
        let before : Placed d t.outer x.frame x.purpose x.replaced = subst (ArePlaced d) t.was are in
        let number = subst (λ f. Placed d t.outer f x.purpose x.replaced) same.frame before in
        let purpose = subst (λ p. Placed d t.outer y.frame p x.replaced) same.purpose number in
        subst (ArePlaced d) (sym t.is) (subst (Placed d t.outer y.frame y.purpose) same.replaced purpose)

-- the innermost one changes, and no other
pub opened_turned : (g : Opened → Opened) (d : Display) (xs : List Open) (bs : List Back) (n : ℕ) (x y : Open) → IsLast xs n x → IsSame x y → ((saved : List ℕ) (own : List Back) → plain_open y saved own ≡ g (plain_open x saved own)) → plain_opened d (reverse (slice_set xs (n - 1) y)) bs ≡ changed_first g (plain_opened d (reverse xs) bs)
opened_turned g d xs bs n x y h same changes = by (turned_last xs n x y h)
  where
    by : IsTurned xs (n - 1) x y → plain_opened d (reverse (slice_set xs (n - 1) y)) bs ≡ changed_first g (plain_opened d (reverse xs) bs)
    by t =
        ap (λ os. plain_opened d os bs) t.is
        ∙ ap (λ r. plain_open y (seen (put_back r d)) (own_backs y.purpose bs) ∷ plain_opened (put_back r d) t.outer (outer_backs y.purpose bs)) (sym same.replaced)
        ∙ ap (λ p. plain_open y (seen (put_back x.replaced d)) (own_backs p bs) ∷ plain_opened (put_back x.replaced d) t.outer (outer_backs p bs)) (sym same.purpose)
        ∙ ap (λ o. o ∷ plain_opened (put_back x.replaced d) t.outer (outer_backs x.purpose bs)) (changes (seen (put_back x.replaced d)) (own_backs x.purpose bs))
        ∙ sym (ap (λ l. changed_first g (plain_opened d l bs)) t.was)

-- where none is open, none changes
pub none_changed : (g : Opened → Opened) (d : Display) (xs : List Open) (bs : List Back) → length xs ≤ 0 → plain_opened d (reverse xs) bs ≡ changed_first g (plain_opened d (reverse xs) bs)
none_changed g d [] bs h = refl
none_changed g d (x ∷ xs) bs h = absurd (omega (arith, h))

handled_already : (os : List Opened) (x : Exception) → handled os (Some x) ≡ Some x
handled_already [] x = refl
handled_already (o ∷ os) x = refl

-- the first of them that handles one
pub first_handled : (d : Display) (os : List Open) (bs : List Back) → handled (plain_opened d os bs) None ≡ option_and_then (λ o. o.handling) (find (λ o. is_some o.handling) os)
first_handled d [] bs = refl
first_handled d (o ∷ os) bs = by o.handling refl (first_handled (put_back o.replaced d) os (outer_backs o.purpose bs))
  where
    rest : List Opened
    rest = plain_opened (put_back o.replaced d) os (outer_backs o.purpose bs)

    by : (h : Option Exception) → o.handling ≡ h → handled rest None ≡ option_and_then (λ p. p.handling) (find (λ p. is_some p.handling) os) → handled rest o.handling ≡ option_and_then (λ p. p.handling) (cond (is_some o.handling) (Some o) (find (λ p. is_some p.handling) os))
    by None e found = rw e found
    by (Some x) e found = rw e (handled_already rest x)

-- whatever is copied back
pub same_loop : (p : Purpose) (bs : List Back) → is_loop (plain_purpose p bs) ≡ is_loop (plain_purpose p [])
same_loop Body bs = refl
same_loop Block bs = refl
same_loop Loop bs = refl
same_loop (Procedure level r) bs = refl
same_loop (Operation object r) bs = refl
same_loop (Entry object call served resumed) bs = refl
same_loop (Accept call) bs = refl

-- so many numbers are there
held_by : (r : Replaced) (frame : ℕ) (p : Purpose) (before d : Display) → IsPlacedBy r frame p before d → end_of before ≤ length before.numbers → end_of d ≤ length d.numbers
held_by (Among number seen) frame p before d is fits = subst (λ (x : Display). end_of x ≤ length x.numbers) (sym is.0) (placed_within p frame before fits)
held_by (Apart base seen) frame p before d is fits = subst (λ (x : Display). end_of x ≤ length x.numbers) (sym is.1.0) (apart_within is.0 frame before)

held : (d : Display) (os : List Open) → ArePlaced d os → end_of d ≤ length d.numbers
held d [] are = omega (arith, are.0, are.1)
held d (o ∷ os) are = held_by o.replaced o.frame o.purpose (put_back o.replaced d) d are.0 (held (put_back o.replaced d) os are.1)

some_by : (r : Replaced) (frame : ℕ) (p : Purpose) (before d : Display) → IsPlacedBy r frame p before d → 0 < d.count
some_by (Among number seen) frame p before d is = let many = ap (λ (x : Display). x.count) is.0 in omega (arith, many)
some_by (Apart base seen) frame p before d is = let many = ap (λ (x : Display). x.count) is.1.0 in omega (arith, many)

-- the calls of accepts
accepts_by : (p : Purpose) (bs : List Back) (ids : List ℕ) → accepted_by (plain_purpose p bs) ids ≡ cons_option (accepted_for p) ids
accepts_by Body bs ids = refl
accepts_by Block bs ids = refl
accepts_by Loop bs ids = refl
accepts_by (Procedure level r) bs ids = refl
accepts_by (Operation object r) bs ids = refl
accepts_by (Entry object call served resumed) bs ids = refl
accepts_by (Accept call) bs ids = refl

pub accepts_plain : (d : Display) (os : List Open) (bs : List Back) → accepted_in (plain_opened d os bs) ≡ filter_map (λ o. accepted_for o.purpose) os
accepts_plain d [] bs = refl
accepts_plain d (o ∷ os) bs =
    accepts_by o.purpose (own_backs o.purpose bs) (accepted_in (plain_opened (put_back o.replaced d) os (outer_backs o.purpose bs)))
    ∙ ap (cons_option (accepted_for o.purpose)) (accepts_plain (put_back o.replaced d) os (outer_backs o.purpose bs))

-- those of entry bodies too
serves_by : (p : Purpose) (bs : List Back) (ids : List ℕ) → served_by (plain_purpose p bs) ids ≡ cons_option (served_for p) ids
serves_by Body bs ids = refl
serves_by Block bs ids = refl
serves_by Loop bs ids = refl
serves_by (Procedure level r) bs ids = refl
serves_by (Operation object r) bs ids = refl
serves_by (Entry object call served resumed) bs ids = refl
serves_by (Accept call) bs ids = refl

pub served_plain : (d : Display) (os : List Open) (bs : List Back) → served_in (plain_opened d os bs) ≡ filter_map (λ o. served_for o.purpose) os
served_plain d [] bs = refl
served_plain d (o ∷ os) bs =
    serves_by o.purpose (own_backs o.purpose bs) (served_in (plain_opened (put_back o.replaced d) os (outer_backs o.purpose bs)))
    ∙ ap (cons_option (served_for o.purpose)) (served_plain (put_back o.replaced d) os (outer_backs o.purpose bs))

-- whether one of them is an entry body for another task's call
module _ (plan : Plan) (barrier : ℕ → Sight → Result Bool Raise) where
  pub any_served : (d : Display) (os : List Open) (bs : List Back) → any (is_served plan barrier) (plain_opened d os bs) ≡ list_any (λ (o : Open). is_served_for o.purpose) os
  any_served d [] bs = refl
  any_served d (o ∷ os) bs = by o.purpose ∙ ap (λ b. is_served_for o.purpose || b) (any_served (put_back o.replaced d) os (outer_backs o.purpose bs))
    where
      rest : List Opened
      rest = plain_opened (put_back o.replaced d) os (outer_backs o.purpose bs)

      by : (p : Purpose) → any (is_served plan barrier) (plain_open (record o { purpose = p }) (seen (put_back o.replaced d)) (own_backs o.purpose bs) ∷ rest) ≡ (is_served_for p || any (is_served plan barrier) rest)
      by Body = refl
      by Block = refl
      by Loop = refl
      by (Procedure level r) = refl
      by (Operation object r) = refl
      by (Entry object call served resumed) = refl
      by (Accept call) = refl

-- the first of them that is no loop's
abbrev is_construct : Open → Bool
is_construct o = not (is_loop (plain_purpose o.purpose []))

pub first_construct : (d : Display) (os : List Open) (bs : List Back) (display : List ℕ) → IsInnermost (find is_construct os) (out_of_loops_by (plain_opened d os bs) (record { display = display; opened = plain_opened d os bs })).opened
first_construct d [] bs display = refl
first_construct d (o ∷ os) bs display = by o.purpose (first_construct before os (outer_backs o.purpose bs) (seen before))
  where
    before : Display
    before = put_back o.replaced d

    rest : Purpose → List Opened
    rest p = plain_opened before os (outer_backs p bs)

    by : (p : Purpose) → IsInnermost (find is_construct os) (out_of_loops_by (rest p) (record { display = seen before; opened = rest p })).opened → IsInnermost (find is_construct (record o { purpose = p } ∷ os)) (out_of_loops_by (plain_opened d (record o { purpose = p } ∷ os) bs) (record { display = display; opened = plain_opened d (record o { purpose = p } ∷ os) bs })).opened
    by Body outer = (seen before, (own_backs Body bs, (rest Body, refl)))
    by Block outer = (seen before, (own_backs Block bs, (rest Block, refl)))
    by Loop outer = outer
    by (Procedure level r) outer = (seen before, (own_backs (Procedure level r) bs, (rest (Procedure level r), refl)))
    by (Operation object r) outer = (seen before, (own_backs (Operation object r) bs, (rest (Operation object r), refl)))
    by (Entry object call served resumed) outer = (seen before, (own_backs (Entry object call served resumed) bs, (rest (Entry object call served resumed), refl)))
    by (Accept call) outer = (seen before, (own_backs (Accept call) bs, (rest (Accept call), refl)))

-- One more is opened, and the innermost one is left.

abbrev pub stack_of : List ℕ → List Opened → Stack
stack_of display os = record { display = display; opened = os }

reversed_more : (xs : List Open) (o : Open) → reverse (xs ++ o ∷ []) ≡ o ∷ reverse xs
reversed_more xs o = reverse-append xs (o ∷ [])

-- one that was placed leaves the others as they were
module _ (old new : Display) (os : List Open) (p : Purpose) (frame kept : ℕ) (r : Replaced) (are : ArePlaced old os) (many : kept ≡ kept_of p old.count) (is : new ≡ placed kept frame old) (replaced : r ≡ stands kept old) where
  pub given_up : put_back r new ≡ old
  given_up =
      ap (λ x. put_back x new) replaced ∙ ap (λ d. put_back (stands kept old) d) is
      ∙ ap (λ k. put_back (stands k old) (placed k frame old)) many ∙ back_again p frame old (held old os are)

  pub some_placed : 0 < new.count
  some_placed = let count = ap (λ (d : Display). d.count) is in omega (arith, count)

  pub room_again : end_of (put_back r new) ≤ length (put_back r new).numbers
  room_again = subst (λ (d : Display). end_of d ≤ length d.numbers) (sym given_up) (held old os are)

-- so does one that was set apart
module _ (old new : Display) (os : List Open) (numbers : List ℕ) (frame : ℕ) (r : Replaced) (are : ArePlaced old os) (is : new ≡ set_apart numbers frame old) (replaced : r ≡ stands_apart old) where
  pub given_up_apart : put_back r new ≡ old
  given_up_apart = ap (λ x. put_back x new) replaced ∙ ap (λ d. put_back (stands_apart old) d) is ∙ apart_again numbers frame old

  pub some_apart : 0 < new.count
  some_apart = let count = ap (λ (d : Display). d.count) is in omega (arith, count)

  pub room_apart : end_of (put_back r new) ≤ length (put_back r new).numbers
  room_apart = subst (λ (d : Display). end_of d ≤ length d.numbers) (sym given_up_apart) (held old os are)

-- it is placed behind those that it sees, or behind others
pub data Enters (old new : Display) (o : Open) (seen_from : List ℕ) : Type 0 where
  among : new ≡ placed (kept_of o.purpose old.count) o.frame old → o.replaced ≡ stands (kept_of o.purpose old.count) old → seen_from ≡ kept_by o.purpose (seen old) → Enters old new o seen_from
  apart : new ≡ set_apart seen_from o.frame old → o.replaced ≡ stands_apart old → Enters old new o seen_from

back_by : (old new : Display) (os : List Open) (o : Open) (s : List ℕ) → ArePlaced old os → Enters old new o s → put_back o.replaced new ≡ old
back_by old new os o s are (among is replaced from) = given_up old new os o.purpose o.frame (kept_of o.purpose old.count) o.replaced are refl is replaced
back_by old new os o s are (apart is replaced) = given_up_apart old new os s o.frame o.replaced are is replaced

shown_by : (old new : Display) (os : List Open) (o : Open) (s : List ℕ) → ArePlaced old os → Enters old new o s → seen new ≡ s ++ o.frame ∷ []
shown_by old new os o s are (among is replaced from) = ap seen is ∙ seen_placed o.purpose o.frame old (held old os are) ∙ ap (λ l. l ++ o.frame ∷ []) (sym from)
shown_by old new os o s are (apart is replaced) = ap seen is ∙ seen_apart s o.frame old

placed_by : (old new : Display) (o : Open) (s : List ℕ) → Enters old new o s → IsPlaced o old new
placed_by old new o s (among is replaced from) = subst (λ r. IsPlacedBy r o.frame o.purpose old new) (sym replaced) (is, refl)
placed_by old new o s (apart is replaced) = subst (λ r. IsPlacedBy r o.frame o.purpose old new) (sym replaced) (s, (is, refl))

pub placed_more : (old new : Display) (xs ys : List Open) (o : Open) (s : List ℕ) → ArePlaced old (reverse xs) → ys ≡ xs ++ o ∷ [] → Enters old new o s → ArePlaced new (reverse ys)
placed_more old new xs ys o s are more enters =
    subst (ArePlaced new) (sym (ap reverse more ∙ reversed_more xs o)) (
    subst (λ (d : Display). IsPlaced o d new × ArePlaced d (reverse xs)) (sym (back_by old new (reverse xs) o s are enters)) (placed_by old new o s enters, are))

-- the copies of a call stand behind the others
own_of_more : (p : Purpose) (bs own : List Back) → copies_of p ≡ length own → (own_backs p (bs ++ own) ≡ own) × (outer_backs p (bs ++ own) ≡ bs)
own_of_more p bs own many =
    let before : length (bs ++ own) - copies_of p ≡ length bs = omega (arith, many, length-append bs own) in
    (drop_at bs own (length (bs ++ own) - copies_of p) (sym before), take_at bs own (length (bs ++ own) - copies_of p) (sym before))

pub opened_more : (old new : Display) (xs ys : List Open) (o : Open) (s : List ℕ) (bs own all : List Back) → ArePlaced old (reverse xs) → ys ≡ xs ++ o ∷ [] → Enters old new o s → all ≡ bs ++ own → copies_of o.purpose ≡ length own →
    stack_of (seen new) (plain_opened new (reverse ys) all) ≡ stack_of (s ++ o.frame ∷ []) (plain_open o (seen old) own ∷ plain_opened old (reverse xs) bs)
opened_more old new xs ys o s bs own all are more enters added many =
    let back = back_by old new (reverse xs) o s are enters in
    let backs = own_of_more o.purpose bs own many in
    let shown = shown_by old new (reverse xs) o s are enters in
    let opened = ap (λ l. plain_opened new l all) (ap reverse more ∙ reversed_more xs o) ∙ ap (λ l. plain_opened new (o ∷ reverse xs) l) added
    ∙ ap (λ (d : Display). plain_open o (seen d) (own_backs o.purpose (bs ++ own)) ∷ plain_opened d (reverse xs) (outer_backs o.purpose (bs ++ own))) back
    ∙ ap (λ l. plain_open o (seen old) l ∷ plain_opened old (reverse xs) (outer_backs o.purpose (bs ++ own))) backs.0
    ∙ ap (λ l. plain_open o (seen old) own ∷ plain_opened old (reverse xs) l) backs.1 in
    ap (λ l. stack_of l (plain_opened new (reverse ys) all)) shown ∙ ap (stack_of (s ++ o.frame ∷ [])) opened

-- the last one, and those before it
module _ (old : Display) (xs ys : List Open) (o : Open) (are : ArePlaced old (reverse xs)) (last : xs ≡ ys ++ o ∷ []) where
  before : ArePlaced old (o ∷ reverse ys)
  before = subst (ArePlaced old) (ap reverse last ∙ reversed_more ys o) are

  pub some_seen : 0 < old.count
  some_seen = some_by o.replaced o.frame o.purpose (put_back o.replaced old) old before.0

  pub room_behind : end_of (put_back o.replaced old) ≤ length (put_back o.replaced old).numbers
  room_behind = held (put_back o.replaced old) (reverse ys) before.1

  pub left_numbers : (new : Display) → new ≡ put_back o.replaced old → ArePlaced new (reverse ys)
  left_numbers new is = subst (λ (d : Display). ArePlaced d (reverse ys)) (sym is) before.1

  pub left_open : (new : Display) (bs cs : List Back) → new ≡ put_back o.replaced old → cs ≡ outer_backs o.purpose bs →
      stack_of (seen new) (plain_opened new (reverse ys) cs) ≡ closed (stack_of (seen old) (plain_opened old (reverse xs) bs))
  left_open new bs cs is rest =
      ap (λ (d : Display). stack_of (seen d) (plain_opened d (reverse ys) cs)) is
      ∙ ap (λ l. stack_of (seen (put_back o.replaced old)) (plain_opened (put_back o.replaced old) (reverse ys) l)) rest
      ∙ sym (ap (λ os. closed (stack_of (seen old) (plain_opened old os bs))) (ap reverse last ∙ reversed_more ys o))

own_copies : (p : Purpose) (bs : List Back) → drop (length bs - copies_of p) bs ≡ purpose_backs (plain_purpose p (own_backs p bs))
own_copies Body bs = drop_all (length bs - 0) bs (omega arith)
own_copies Block bs = drop_all (length bs - 0) bs (omega arith)
own_copies Loop bs = drop_all (length bs - 0) bs (omega arith)
own_copies (Accept call) bs = drop_all (length bs - 0) bs (omega arith)
own_copies (Entry object call served resumed) bs = drop_all (length bs - 0) bs (omega arith)
own_copies (Operation object r) bs = refl
own_copies (Procedure level r) bs = refl

-- those that the innermost one copies back
pub backs_of_last : (d : Display) (xs : List Open) (n : ℕ) (x : Open) (bs : List Back) → IsLast xs n x → drop (length bs - copies_of x.purpose) bs ≡ innermost_backs (plain_opened d (reverse xs) bs)
backs_of_last d xs n x bs h =
    let t = turned_last xs n x x h in
    own_copies x.purpose bs ∙ sym (ap (λ os. innermost_backs (plain_opened d os bs)) t.was)

pub backs_of_none : (d : Display) (xs : List Open) (bs : List Back) → length xs ≤ 0 → drop (length bs - 0) bs ≡ innermost_backs (plain_opened d (reverse xs) bs)
backs_of_none d [] bs none = drop_all (length bs - 0) bs (omega arith)
backs_of_none d (x ∷ xs) bs none = absurd (omega (arith, none))
