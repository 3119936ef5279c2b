-- The names of open frames in memory.
use Rattle.std.proofs.Common.{◌≡◌, ℕ, zero, suc, ◌+◌, ◌-◌, ◌<◌, List, [], ◌∷◌, ◌++◌, drop, Bool, true, false, ◌||◌, Option, Some, None, length, get_or, take, take_all, set, reverse, nat_eq, flat_map, sym, ap, ◌∙◌, refl, inl, inr, append_assoc, append-nil, arith}
use Rattle.std.specs.Prelude.{slice_get}
use Rattle.std.specs.Option.{option_to_list}
use Rattle.std.proofs.lemmas.Bool.{or_cases, or_left, or_right}
use Rattle.std.proofs.lemmas.List.{flat_map_more, reverse-append, reverse-reverse, take_more}
use Rattle.aud_meaning.specs.Configuration.{Back}
use Rattle.aud_meaning.specs.Parts.{contains}
use Rattle.aud_store.specs.declared.display.Replaced.{Replaced}
use Rattle.aud_store.specs.declared.display.Replaced.TheVariants.{Among, Apart}
use Rattle.aud_store.specs.declared.stack.Open.{Open}
use Rattle.aud_store.specs.Ties.Display.{Display, number_of, seen, put_by, put_back}
use Rattle.aud_meaning.specs.Ties.Named.{opened_name}
use Rattle.aud_store.specs.Ties.Named.{names_of, NamesAll}
use Rattle.aud_store.specs.declared.purpose.Purpose.{Purpose}
use Rattle.aud_store.specs.Ties.Stored.{kept_of, outer_backs, plain_opened, ArePlaced, IsPlacedBy}
use Rattle.aud_store.proofs.Placing.{seen_apart}

-- Numbers among others.

or_else : (a b c d : Bool) → (a || b) ≡ true → (a ≡ true → c ≡ true) → (b ≡ true → d ≡ true) → (c || d) ≡ true
or_else a b c d h left right = elim (or_cases a b h) [
  | inl x ↦ or_left c d (left x)
  | inr y ↦ or_right c d (right y)
]

among_both : (f : ℕ) (xs ys : List ℕ) → (contains f xs || contains f ys) ≡ true → contains f (xs ++ ys) ≡ true
among_both f [] ys h = h
among_both f (x ∷ xs) ys h = elim (or_cases (contains f (x ∷ xs)) (contains f ys) h) [
  | inl there ↦ or_else (nat_eq f x) (contains f xs) (nat_eq f x) (contains f (xs ++ ys)) there (λ e. e) (λ e. among_both f xs ys (or_left (contains f xs) (contains f ys) e))
  | inr behind ↦ or_right (nat_eq f x) (contains f (xs ++ ys)) (among_both f xs ys (or_right (contains f xs) (contains f ys) behind))
]

among_either : (f : ℕ) (xs ys : List ℕ) → contains f (xs ++ ys) ≡ true → (contains f xs || contains f ys) ≡ true
among_either f [] ys h = h
among_either f (x ∷ xs) ys h = elim (or_cases (nat_eq f x) (contains f (xs ++ ys)) h) [
  | inl first ↦ or_left (contains f (x ∷ xs)) (contains f ys) (or_left (nat_eq f x) (contains f xs) first)
  | inr later ↦ or_else (contains f xs) (contains f ys) (contains f (x ∷ xs)) (contains f ys) (among_either f xs ys later) (λ e. or_right (nat_eq f x) (contains f xs) e) (λ e. e)
]

among_first : (f n : ℕ) (xs : List ℕ) → contains f (take n xs) ≡ true → contains f xs ≡ true
among_first f zero xs h = absurd (cc)
among_first f (suc n) [] h = absurd (cc)
among_first f (suc n) (x ∷ xs) h = or_else (nat_eq f x) (contains f (take n xs)) (nat_eq f x) (contains f xs) h (λ e. e) (λ e. among_first f n xs e)

among_last : (f n : ℕ) (xs : List ℕ) → contains f (drop n xs) ≡ true → contains f xs ≡ true
among_last f zero xs h = h
among_last f (suc n) [] h = absurd (cc)
among_last f (suc n) (x ∷ xs) h = or_right (nat_eq f x) (contains f xs) (among_last f n xs h)

among_seen : (f : ℕ) (d : Display) → contains f (seen d) ≡ true → contains f d.numbers ≡ true
among_seen f d h = among_last f d.base d.numbers (among_first f d.count (drop d.base d.numbers) h)

among_set : (f : ℕ) (xs : List ℕ) (i n : ℕ) → contains f (set xs i n) ≡ true → (contains f xs || nat_eq f n) ≡ true
among_set f [] i n h = absurd (cc)
among_set f (x ∷ xs) zero n h = elim (or_cases (nat_eq f n) (contains f xs) h) [
  | inl this ↦ or_right (contains f (x ∷ xs)) (nat_eq f n) this
  | inr later ↦ or_left (contains f (x ∷ xs)) (nat_eq f n) (or_right (nat_eq f x) (contains f xs) later)
]
among_set f (x ∷ xs) (suc i) n h = elim (or_cases (nat_eq f x) (contains f (set xs i n)) h) [
  | inl first ↦ or_left (contains f (x ∷ xs)) (nat_eq f n) (or_left (nat_eq f x) (contains f xs) first)
  | inr later ↦ or_else (contains f xs) (nat_eq f n) (contains f (x ∷ xs)) (nat_eq f n) (among_set f xs i n later) (λ e. or_right (nat_eq f x) (contains f xs) e) (λ e. e)
]

-- What comes back was there before, or an open frame stood in its place.
was_there : (f : ℕ) (r : Replaced) (d : Display) → contains f (put_back r d).numbers ≡ true → (contains f d.numbers || contains f (option_to_list (number_of r))) ≡ true
was_there f (Among None k) d h = or_left (contains f d.numbers) false (among_first f (length d.numbers - 1) d.numbers h)
was_there f (Among (Some n) k) d h = or_else (contains f d.numbers) (nat_eq f n) (contains f d.numbers) (nat_eq f n || false) (among_set f d.numbers (d.base + d.count - 1) n h) (λ e. e) (λ e. or_left (nat_eq f n) false e)
was_there f (Apart base k) d h = or_left (contains f d.numbers) false (among_first f d.base d.numbers h)

-- of these open frames
abbrev pub names_in : List Open → List ℕ
names_in os = flat_map names_of os

module _ (f : ℕ) (d : Display) (o : Open) (os : List Open) where
  abbrev Named : Type 0
  Named = (contains f d.numbers || contains f (names_in (o ∷ os))) ≡ true

  named_by : contains f (names_of o) ≡ true → Named
  named_by h = or_right (contains f d.numbers) (contains f (names_in (o ∷ os))) (among_both f (names_of o) (names_in os) (or_left (contains f (names_of o)) (contains f (names_in os)) h))

  named_behind : contains f (names_in os) ≡ true → Named
  named_behind h = or_right (contains f d.numbers) (contains f (names_in (o ∷ os))) (among_both f (names_of o) (names_in os) (or_right (contains f (names_of o)) (contains f (names_in os)) h))

  named_before : contains f (put_back o.replaced d).numbers ≡ true → Named
  named_before h = elim (or_cases (contains f d.numbers) (contains f (option_to_list (number_of o.replaced))) (was_there f o.replaced d h)) [
    | inl there ↦ or_left (contains f d.numbers) (contains f (names_in (o ∷ os))) there
    | inr replaced ↦ named_by (or_right (nat_eq f o.frame) (contains f (option_to_list (number_of o.replaced))) replaced)
  ]

-- each name of open frames is among the numbers, or among theirs
opened_named : (f : ℕ) (d : Display) (os : List Open) (bs : List Back) → opened_name f (plain_opened d os bs) ≡ true → (contains f d.numbers || contains f (names_in os)) ≡ true
opened_named f d [] bs h = absurd (cc)
opened_named f d (o ∷ os) bs h =
    let before = put_back o.replaced d in
    let rest = plain_opened before os (outer_backs o.purpose bs) in
    elim (or_cases (nat_eq f o.frame) (contains f (seen before) || opened_name f rest) h) [
      | inl own ↦ named_by f d o os (or_left (nat_eq f o.frame) (contains f (option_to_list (number_of o.replaced))) own)
      | inr other ↦ elim (or_cases (contains f (seen before)) (opened_name f rest) other) [
        | inl saved ↦ named_before f d o os (among_seen f before saved)
        | inr outer ↦ elim (or_cases (contains f before.numbers) (contains f (names_in os)) (opened_named f before os (outer_backs o.purpose bs) outer)) [
          | inl there ↦ named_before f d o os there
          | inr behind ↦ named_behind f d o os behind
        ]
      ]
    ]

-- in the other order
names_joined : (os ps : List Open) → names_in (os ++ ps) ≡ names_in os ++ names_in ps
names_joined [] ps = refl
names_joined (o ∷ os) ps = ap (λ l. names_of o ++ l) (names_joined os ps) ∙ sym (append_assoc (names_of o) (names_in os) (names_in ps))

among_turned : (f : ℕ) (os : List Open) → contains f (names_in (reverse os)) ≡ true → contains f (names_in os) ≡ true
among_turned f [] h = h
among_turned f (o ∷ os) h =
    let parts = names_joined (reverse os) (o ∷ []) in
    let turned : contains f (names_in (reverse os) ++ names_in (o ∷ [])) ≡ true = sym (ap (contains f) (ap names_in (reverse-append (o ∷ []) os) ∙ parts)) ∙ h in
    elim (or_cases (contains f (names_in (reverse os))) (contains f (names_in (o ∷ []))) (among_either f (names_in (reverse os)) (names_in (o ∷ [])) turned)) [
      | inl later ↦ among_both f (names_of o) (names_in os) (or_right (contains f (names_of o)) (contains f (names_in os)) (among_turned f os later))
      | inr own ↦ among_both f (names_of o) (names_in os) (or_left (contains f (names_of o)) (contains f (names_in os)) (sym (ap (contains f) (append-nil (names_of o))) ∙ own))
    ]

-- one more of them
pub names_more : (before : List ℕ) (xs : List Open) (i : ℕ) (x : Open) → i < length xs → x ≡ get_or xs i x → (before ++ names_in (take i xs)) ++ names_of x ≡ before ++ names_in (take (i + 1) xs)
names_more before xs i x within read =
    flat_map_more names_of before (take i xs) x
    ∙ ap (λ o. before ++ names_in (take i xs ++ o ∷ [])) read
    ∙ sym (ap (λ l. before ++ names_in l) (take_more xs i x within))

-- Among the numbers of a display, and among those of open frames, there are only names.

alone : (b : Bool) → (b || false) ≡ true → b ≡ true
alone true h = refl
alone false h = h

stood_there : (f : ℕ) (xs : List ℕ) (n : ℕ) → contains f (option_to_list (slice_get xs n)) ≡ true → contains f xs ≡ true
stood_there f [] zero h = absurd (cc)
stood_there f [] (suc n) h = absurd (cc)
stood_there f (x ∷ xs) zero h = or_left (nat_eq f x) (contains f xs) (alone (nat_eq f x) h)
stood_there f (x ∷ xs) (suc n) h = or_right (nat_eq f x) (contains f xs) (stood_there f xs n h)

among_put : (f : ℕ) (o : Option ℕ) (n x : ℕ) (xs : List ℕ) → contains f (put_by o n x xs) ≡ true → (contains f xs || nat_eq f x) ≡ true
among_put f None n x xs h = or_else (contains f xs) (nat_eq f x || false) (contains f xs) (nat_eq f x) (among_either f xs (x ∷ []) h) (λ e. e) (λ e. alone (nat_eq f x) e)
among_put f (Some old) n x xs h = among_set f xs n x h

module _ (f : ℕ) where
  abbrev IsNamed : Display → List Open → List Back → Type 0
  IsNamed d os bs = (contains f (seen d) || opened_name f (plain_opened d os bs)) ≡ true

  opened_only : (d : Display) (o : Open) (os : List Open) (bs : List Back) → (nat_eq f o.frame || (contains f (seen (put_back o.replaced d)) || opened_name f (plain_opened (put_back o.replaced d) os (outer_backs o.purpose bs)))) ≡ true → IsNamed d (o ∷ os) bs
  opened_only d o os bs h = or_right (contains f (seen d)) (opened_name f (plain_opened d (o ∷ os) bs)) h

  -- a number of its own, one from before, or one that it sees
  stands_there : (r : Replaced) (frame : ℕ) (p : Purpose) (before d : Display) → IsPlacedBy r frame p before d → contains f d.numbers ≡ true → (contains f (seen d) || (contains f before.numbers || nat_eq f frame)) ≡ true
  stands_there (Among number k) frame p before d is h =
      let at = before.base + kept_of p before.count in
      or_right (contains f (seen d)) (contains f before.numbers || nat_eq f frame) (among_put f (slice_get before.numbers at) at frame before.numbers (sym (ap (λ (x : Display). contains f x.numbers) is.0) ∙ h))
  stands_there (Apart base k) frame p before d is h = elim (or_cases (contains f before.numbers) (contains f (is.0 ++ frame ∷ [])) (among_either f before.numbers (is.0 ++ frame ∷ []) (sym (ap (λ (x : Display). contains f x.numbers) is.1.0) ∙ h))) [
    | inl there ↦ or_right (contains f (seen d)) (contains f before.numbers || nat_eq f frame) (or_left (contains f before.numbers) (nat_eq f frame) there)
    | inr own ↦ or_left (contains f (seen d)) (contains f before.numbers || nat_eq f frame) (ap (contains f) (ap seen is.1.0 ∙ seen_apart is.0 frame before) ∙ own)
  ]

  numbers_only : (d : Display) (os : List Open) (bs : List Back) → ArePlaced d os → contains f d.numbers ≡ true → IsNamed d os bs
  numbers_only d [] bs are h = or_left (contains f (seen d)) false (ap (λ b. contains f (take d.count (drop b d.numbers))) are.0 ∙ ap (contains f) (take_all d.count d.numbers (omega (arith, are.1))) ∙ h)
  numbers_only d (o ∷ os) bs are h =
      let before = put_back o.replaced d in
      let rest = contains f (seen before) || opened_name f (plain_opened before os (outer_backs o.purpose bs)) in
      elim (or_cases (contains f (seen d)) (contains f before.numbers || nat_eq f o.frame) (stands_there o.replaced o.frame o.purpose before d are.0 h)) [
        | inl shown ↦ or_left (contains f (seen d)) (opened_name f (plain_opened d (o ∷ os) bs)) shown
        | inr other ↦ opened_only d o os bs (elim (or_cases (contains f before.numbers) (nat_eq f o.frame) other) [
          | inl there ↦ or_right (nat_eq f o.frame) rest (numbers_only before os (outer_backs o.purpose bs) are.1 there)
          | inr own ↦ or_left (nat_eq f o.frame) rest own
        ])
      ]

  -- what it stands in place of was there
  replaced_there : (r : Replaced) (frame : ℕ) (p : Purpose) (before d : Display) → IsPlacedBy r frame p before d → contains f (option_to_list (number_of r)) ≡ true → contains f before.numbers ≡ true
  replaced_there (Among number k) frame p before d is h = stood_there f before.numbers (before.base + kept_of p before.count) (sym (ap (λ (r : Replaced). contains f (option_to_list (number_of r))) is.1) ∙ h)
  replaced_there (Apart base k) frame p before d is h = absurd (cc)

  open_only : (d : Display) (os : List Open) (bs : List Back) → ArePlaced d os → contains f (names_in os) ≡ true → opened_name f (plain_opened d os bs) ≡ true
  open_only d [] bs are h = absurd (cc)
  open_only d (o ∷ os) bs are h =
      let before = put_back o.replaced d in
      let outer = opened_name f (plain_opened before os (outer_backs o.purpose bs)) in
      let rest = contains f (seen before) || outer in
      elim (or_cases (contains f (names_of o)) (contains f (names_in os)) (among_either f (names_of o) (names_in os) h)) [
        | inl this ↦ elim (or_cases (nat_eq f o.frame) (contains f (option_to_list (number_of o.replaced))) this) [
          | inl own ↦ or_left (nat_eq f o.frame) rest own
          | inr stood ↦ or_right (nat_eq f o.frame) rest (
              numbers_only before os (outer_backs o.purpose bs) are.1
              (replaced_there o.replaced o.frame o.purpose before d are.0 stood))
        ]
        | inr behind ↦ or_right (nat_eq f o.frame) rest (or_right (contains f (seen before)) outer (open_only before os (outer_backs o.purpose bs) are.1 behind))
      ]

-- All that is named is among what was there, the numbers of a display, and those of open frames, and nothing else is.

both : (a b : Bool) → (a ≡ true → b ≡ true) → (b ≡ true → a ≡ true) → a ≡ b
both true b there back = sym (there refl)
both false true there back = back refl
both false false there back = refl

module _ (f : ℕ) (old : List ℕ) (d : Display) (xs : List Open) (bs : List Back) where
  abbrev shown : Bool
  shown = contains f (seen d)

  abbrev opened : Bool
  opened = opened_name f (plain_opened d (reverse xs) bs)

  told : (contains f old || (shown || opened)) ≡ true → contains f ((old ++ d.numbers) ++ names_in xs) ≡ true
  told h = elim (or_cases (contains f old) (shown || opened) h) [
    | inl before ↦ in_front (among_both f old d.numbers (or_left (contains f old) (contains f d.numbers) before))
    | inr more ↦ elim (or_cases shown opened more) [
      | inl seen_so ↦ numbered (among_seen f d seen_so)
      | inr open_so ↦ elim (or_cases (contains f d.numbers) (contains f (names_in (reverse xs))) (opened_named f d (reverse xs) bs open_so)) [
        | inl there ↦ numbered there
        | inr own ↦ among_both f (old ++ d.numbers) (names_in xs) (or_right (contains f (old ++ d.numbers)) (contains f (names_in xs)) (among_turned f xs own))
      ]
    ]
  ]
    where
      in_front : contains f (old ++ d.numbers) ≡ true → contains f ((old ++ d.numbers) ++ names_in xs) ≡ true
      in_front e = among_both f (old ++ d.numbers) (names_in xs) (or_left (contains f (old ++ d.numbers)) (contains f (names_in xs)) e)

      numbered : contains f d.numbers ≡ true → contains f ((old ++ d.numbers) ++ names_in xs) ≡ true
      numbered e = in_front (among_both f old d.numbers (or_right (contains f old) (contains f d.numbers) e))

  told_only : ArePlaced d (reverse xs) → contains f ((old ++ d.numbers) ++ names_in xs) ≡ true → (contains f old || (shown || opened)) ≡ true
  told_only are h = elim (or_cases (contains f (old ++ d.numbers)) (contains f (names_in xs)) (among_either f (old ++ d.numbers) (names_in xs) h)) [
    | inl front ↦ elim (or_cases (contains f old) (contains f d.numbers) (among_either f old d.numbers front)) [
      | inl before ↦ or_left (contains f old) (shown || opened) before
      | inr there ↦ or_right (contains f old) (shown || opened) (numbers_only f d (reverse xs) bs are there)
    ]
    | inr own ↦
        let turned = among_turned f (reverse xs) (ap (λ os. contains f (names_in os)) (reverse-reverse xs) ∙ own) in
        or_right (contains f old) (shown || opened) (or_right shown opened (open_only f d (reverse xs) bs are turned))
  ]

pub names_all : (old new : List ℕ) (d : Display) (xs : List Open) (bs : List Back) → ArePlaced d (reverse xs) → new ≡ (old ++ d.numbers) ++ names_in xs → NamesAll old new (seen d) (plain_opened d (reverse xs) bs)
names_all old new d xs bs are is f =
    ap (contains f) is
    ∙ both (contains f ((old ++ d.numbers) ++ names_in xs)) (contains f old || (shown f old d xs bs || opened f old d xs bs)) (told_only f old d xs bs are) (told f old d xs bs)
