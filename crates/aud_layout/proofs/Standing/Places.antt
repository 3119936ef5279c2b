-- Where the code of each part stands.
use Rattle.std.proofs.Common.{◌≡◌, ℕ, zero, suc, ◌+◌, List, [], ◌∷◌, ◌++◌, length, drop, get_or, None, refl, sym, ap, ◌∙◌, subst, arith, append_assoc, append-nil}
use Rattle.std.proofs.lemmas.List.{drop-drop, drop_at, get_or-drop}
use Rattle.aud_text.specs.declared.place.Pos.{Pos}
use Rattle.aud_typed.specs.Tree.{Statement, Part, Handlers, Body, body, Doing, Alternatives, Program}
use Rattle.aud_meaning.specs.declared.state.Construct.{Construct}
use Rattle.aud_meaning.specs.declared.state.Construct.TheVariants as construct
use Rattle.aud_meaning.specs.Items.{no_body}
use Rattle.aud_layout.specs.Layout.{one_line, What, does, continues, guards, ends, leaves, Line, Around, in_call, around_out, ways_count, statement_size, part_size, handlers_size, main_size, body_size, doing_size, offered_size, end_place, part_place, guard_line, end_line, main_code, statement_code, part_code, handlers_code, body_code, doing_code, offered_code, unit_code, units_code, starts_from, spare_from, Code, no_line, line_at, code_of}
use Rattle.aud_layout.specs.Shows.{HasAt, UnitsAt}
use Rattle.aud_layout.proofs.Standing.Sizes.{counted, total, Total, total-statement, total-part, total-handlers, total-body, total-doing, total-offered}

pub has_front : (lines : List Line) (place : ℕ) (a b : List Line) → HasAt lines place (a ++ b) → HasAt lines place a
has_front lines place a b h = record { rest = b ++ h.rest; is = h.is ∙ append_assoc a b h.rest }

pub has_back : (lines : List Line) (place n : ℕ) (a b : List Line) → length a ≡ n → HasAt lines place (a ++ b) → HasAt lines (place + n) b
has_back lines place n a b e h =
    record {
      rest = h.rest;
      is = sym (drop-drop n place lines) ∙ ap (drop n) (h.is ∙ append_assoc a b h.rest) ∙ drop_at a (b ++ h.rest) n e;
    }

-- the first line alone; what follows it
pub has_line : (lines : List Line) (place : ℕ) (l : Line) (b : List Line) → HasAt lines place (l ∷ b) → HasAt lines place (l ∷ [])
has_line lines place l b h = record { rest = b ++ h.rest; is = h.is }

pub has_tail : (lines : List Line) (place : ℕ) (l : Line) (b : List Line) → HasAt lines place (l ∷ b) → HasAt lines (suc place) b
has_tail lines place l b h =
    let next : place + 1 ≡ suc place = omega arith in
    subst (λ p. HasAt lines p b) next (has_back lines place 1 (l ∷ []) b refl h)

-- at the same place, said otherwise
pub has_moved : (lines : List Line) (p q : ℕ) (b : List Line) → p ≡ q → HasAt lines p b → HasAt lines q b
has_moved lines p q b e h = subst (λ r. HasAt lines r b) e h

pub has_same : (lines : List Line) (p : ℕ) (a b : List Line) → a ≡ b → HasAt lines p a → HasAt lines p b
has_same lines p a b e h = subst (λ r. HasAt lines p r) e h

-- a line that stands at a place
pub line_is : (code : Code) (place : ℕ) (l : Line) (b : List Line) → HasAt code.lines place (l ∷ b) → line_at code place ≡ l
line_is code place l b h =
    let d = no_line place in
    let zero_more : place + 0 ≡ place = omega arith in
    ap (λ i. get_or code.lines i d) (sym zero_more) ∙ sym (get_or-drop place code.lines 0 d) ∙ ap (λ x. get_or x 0 d) h.is

-- Lengths.

adds_one : (s : Statement) (m n : ℕ) → one_line s (m + n) ≡ one_line s m + n
adds_one s m n = omega arith

length_is : (ls : List Line) → total one_line adds_one ls ≡ length ls
length_is [] = refl
length_is (l ∷ ls) = counted_one l.what (total one_line adds_one ls) ∙ ap suc (length_is ls)
  where
    counted_one : (w : What) (n : ℕ) → counted one_line adds_one w n ≡ suc n
    counted_one (does s) n = refl
    counted_one (continues f) n = refl
    counted_one (guards gs) n = refl
    counted_one (ends c next) n = refl
    counted_one (leaves m next) n = refl

length_by : {ls : List Line} {n : ℕ} → Total one_line adds_one ls n → length ls ≡ n
length_by {ls} h = sym (length_is ls) ∙ h.is

pub length-statement : (s : Statement) (at next : ℕ) (a : Around) → length (statement_code s at next a) ≡ statement_size s (ways_count a)
length-statement s at next a = length_by (total-statement one_line adds_one one_line s at next a)

pub length-part : (p : Part) (at next : ℕ) (a : Around) → length (part_code p at next a) ≡ part_size p (ways_count a)
length-part p at next a = length_by (total-part one_line adds_one one_line p at next a)

pub length-handlers : (h : Handlers) (at next : ℕ) (a : Around) → length (handlers_code h at next a) ≡ handlers_size h (ways_count a)
length-handlers h at next a = length_by (total-handlers one_line adds_one one_line h at next a)

pub length-body : (c : Construct) (b : Body) (at next out : ℕ) (a : Around) → length (body_code c b at next out a) ≡ body_size b (ways_count a)
length-body c b at next out a = length_by (total-body one_line adds_one one_line c b at next out a)

pub length-doing : (d : Doing) (opener at next out : ℕ) → length (doing_code d opener at next out) ≡ doing_size d
length-doing d opener at next out = length_by (total-doing one_line adds_one one_line d opener at next out)

pub length-offered : (o : Alternatives) (opener at next : ℕ) (a : Around) → length (offered_code o opener at next a) ≡ offered_size o (ways_count a)
length-offered o opener at next a = length_by (total-offered one_line adds_one one_line o opener at next a)

-- The parts of a construct, each where it stands; more lines may stand behind its end.

module _ (lines : List Line) (c : Construct) (s : Statement) (h : Handlers) (end : Pos) (first next out : ℕ) (a : Around) where
  abbrev guard : ℕ
  guard = first + statement_size s (ways_count a)

  abbrev last : ℕ
  last = first + main_size s h (ways_count a)

  pub record MainAt (more : List Line) : Type 0 where
    pub statements : HasAt lines first (statement_code s first last (around_out guard a))
    -- the line that guards them
    pub guarding : HasAt lines guard (guard_line h end (suc guard) last (ways_count a) a.within ∷ handlers_code h (suc guard) last (around_out last a))
    pub handlers : HasAt lines (suc guard) (handlers_code h (suc guard) last (around_out last a))
    pub ended : HasAt lines last (end_line c end next out a.within ∷ more)

  pub main_at : (more : List Line) → HasAt lines first (main_code c s h end first next out a ++ more) → MainAt more
  main_at more has =
      let cs = statement_code s first last (around_out guard a) in
      let g = guard_line h end (suc guard) last (ways_count a) a.within in
      let ch = handlers_code h (suc guard) last (around_out last a) in
      let behind = end_line c end next out a.within ∷ more in
      let flat : main_code c s h end first next out a ++ more ≡ cs ++ (g ∷ (ch ++ behind)) = simp append_assoc in
      let all = has_same lines first _ _ flat has in
      let guarded = has_back lines first (statement_size s (ways_count a)) cs (g ∷ (ch ++ behind)) (length-statement s first last (around_out guard a)) all in
      let handled = has_tail lines guard g (ch ++ behind) guarded in
      let same : suc guard + handlers_size h (ways_count a) ≡ last = omega arith in
      record {
        statements = has_front lines first cs _ all;
        guarding = has_front lines guard (g ∷ ch) behind guarded;
        handlers = has_front lines (suc guard) ch behind handled;
        ended = has_moved lines _ last behind same (has_back lines (suc guard) (handlers_size h (ways_count a)) ch behind (length-handlers h (suc guard) last (around_out last a)) handled);
      }

-- from the declarations on
pub record BodyAt (lines : List Line) (c : Construct) (d : Part) (s : Statement) (h : Handlers) (end : Pos) (at next out : ℕ) (a : Around) (more : List Line) : Type 0 where
  pub declarations : HasAt lines at (part_code d at (at + part_size d (ways_count a)) (around_out (at + part_size d (ways_count a) + main_size s h (ways_count a)) a))
  pub main : MainAt lines c s h end (at + part_size d (ways_count a)) next out a more

pub body_at : (lines : List Line) (c : Construct) (d : Part) (begin : Pos) (s : Statement) (h : Handlers) (end : Pos) (at next out : ℕ) (a : Around) (more : List Line) → HasAt lines at (body_code c (body d begin s h end) at next out a ++ more) → BodyAt lines c d s h end at next out a more
body_at lines c d begin s h end at next out a more has =
    let first = at + part_size d (ways_count a) in
    let inner = around_out (first + main_size s h (ways_count a)) a in
    let cd = part_code d at first inner in
    let cm = main_code c s h end first next out a in
    let all = has_same lines at _ _ (append_assoc cd cm more) has in
    record {
      declarations = has_front lines at cd (cm ++ more) all;
      main = main_at lines c s h end first next out a more (has_back lines at (part_size d (ways_count a)) cd (cm ++ more) (length-part d at first inner) all);
    }

-- with nothing more
pub has_all : (lines : List Line) (place : ℕ) (a : List Line) → HasAt lines place a → HasAt lines place (a ++ [])
has_all lines place a h = has_same lines place a (a ++ []) (sym (append-nil a)) h

-- what an accept of a select does, what follows it, and the other alternatives

pub record OfferAt (lines : List Line) (d : Doing) (p : Part) (more : Alternatives) (opener at next : ℕ) (a : Around) : Type 0 where
  pub doing : HasAt lines at (doing_code d opener at (part_place p (at + doing_size d) next) a.out)
  pub part : HasAt lines (at + doing_size d) (part_code p (at + doing_size d) next a)
  pub others : HasAt lines (at + doing_size d + part_size p (ways_count a)) (offered_code more opener (at + doing_size d + part_size p (ways_count a)) next a)

pub offer_has : (lines : List Line) (d : Doing) (p : Part) (more : Alternatives) (opener at next : ℕ) (a : Around) → let after = at + doing_size d in HasAt lines at (doing_code d opener at (part_place p after next) a.out ++ (part_code p after next a ++ offered_code more opener (after + part_size p (ways_count a)) next a)) → OfferAt lines d p more opener at next a
offer_has lines d p more opener at next a h =
    let after = at + doing_size d in
    let cd = doing_code d opener at (part_place p after next) a.out in
    let cp = part_code p after next a in
    let cm = offered_code more opener (after + part_size p (ways_count a)) next a in
    let h1 = has_back lines at (doing_size d) cd (cp ++ cm) (length-doing d opener at (part_place p after next) a.out) h in
    record {
      doing = has_front lines at cd (cp ++ cm) h;
      part = has_front lines after cp cm h1;
      others = has_back lines after (part_size p (ways_count a)) cp cm (length-part p after next a) h1;
    }

-- Bodies.

pub length-unit : (b : Body) (at : ℕ) → length (unit_code b at) ≡ body_size b 1
length-unit b at = length-body construct.Unit b at 0 (end_place b at 1) (in_call None (end_place b at 1))

units_at : (lines : List Line) (bs : List Body) (at n : ℕ) → HasAt lines at (units_code bs at) → HasAt lines (get_or (starts_from bs at) n (spare_from bs at)) (unit_code (get_or bs n no_body) (get_or (starts_from bs at) n (spare_from bs at)))
units_at lines [] at n h = h
units_at lines (b ∷ bs) at zero h = has_front lines at (unit_code b at) (units_code bs (at + body_size b 1)) h
units_at lines (b ∷ bs) at (suc n) h =
    let next = at + body_size b 1 in
    units_at lines bs next n (has_back lines at (body_size b 1) (unit_code b at) (units_code bs next) (length-unit b at) h)

pub units_stand : (program : Program) → UnitsAt program (code_of program)
units_stand program n =
    let lines = units_code program.bodies 0 in
    let all : HasAt lines 0 lines = record { rest = []; is = sym (append-nil lines) } in
    units_at lines program.bodies 0 n all
