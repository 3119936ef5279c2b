-- Bytes of lines and of sources that change nothing.
use Rattle.std.proofs.Common.{◌≡◌, ℕ, zero, suc, ◌+◌, ◌-◌, ◌<◌, ◌≤◌, List, [], ◌∷◌, ◌++◌, length, take, Option, Some, None, Bool, true, false, refl, sym, ◌∙◌, ap, arith, length-append}
use Rattle.std.specs.Prelude.{◌==◌, nat_le, nat_lt, if◌then◌else◌, Result, Ok, Err, is_ok, OnOk}
use Rattle.std.proofs.lemmas.List.{take_all, length-take-le}
use Rattle.aud_text.specs.declared.limits.TheConstants.{LINE, REQUEST_BYTES}
use Rattle.aud_bench.specs.declared.request.BadRequest.{BadRequest}
use Rattle.aud_bench.specs.declared.request.BadRequest.TheVariants.{LineTooLong, NotAscii}
use Rattle.aud_bench.specs.declared.request.Request.TheVariants as request
use Rattle.aud_bench.proofs.Truths.{true_le, false_le}
use Rattle.aud_lines.specs.Lines.{onto_line, lines_of, trimmed}
use Rattle.aud_lines.specs.Requests.{command_by, has_high_byte, line_fault, Reading, Ready, Gathering, first_fault, gathered, requests_from}
use Rattle.aud_lines.proofs.RequestLaws.{led_to, after_first}

-- ---- a line that has not ended

none_onto : (b : ℕ) (lines : List (List ℕ)) → onto_line b lines ≡ [] → lines ≡ []
none_onto b [] e = refl
none_onto b (line ∷ lines) e = absurd (omega (arith, ap length e))

not_ended : (b : ℕ) (bs : List ℕ) → lines_of (b ∷ bs) ≡ [] → ((b == 10) ≡ false) × (lines_of bs ≡ [])
not_ended b bs e = by (b == 10) refl e
  where
    by : (ends : Bool) → (b == 10) ≡ ends → (if ends then [] ∷ lines_of bs else onto_line b (lines_of bs)) ≡ [] → ((b == 10) ≡ false) × (lines_of bs ≡ [])
    by true is e = absurd (omega (arith, ap length e))
    by false is e = (is, none_onto b (lines_of bs) e)

-- the first line goes on behind these bytes
abbrev onto_first : List ℕ → List (List ℕ) → List (List ℕ)
onto_first bytes [] = []
onto_first bytes (line ∷ lines) = (bytes ++ line) ∷ lines

onto_none : (lines : List (List ℕ)) → lines ≡ onto_first [] lines
onto_none [] = refl
onto_none (line ∷ lines) = refl

onto_more : (b : ℕ) (bs : List ℕ) (lines : List (List ℕ)) → onto_line b (onto_first bs lines) ≡ onto_first (b ∷ bs) lines
onto_more b bs [] = refl
onto_more b bs (line ∷ lines) = refl

lines_behind : (line more : List ℕ) → lines_of line ≡ [] → lines_of (line ++ more) ≡ onto_first line (lines_of more)
lines_behind [] more e = onto_none (lines_of more)
lines_behind (b ∷ bs) more e =
    let not = not_ended b bs e in
    ap (λ t. if t then [] ∷ lines_of (bs ++ more) else onto_line b (lines_of (bs ++ more))) not.0
    ∙ ap (onto_line b) (lines_behind bs more not.1)
    ∙ onto_more b bs (lines_of more)

pub front_not_ended : (n : ℕ) (line : List ℕ) → lines_of line ≡ [] → lines_of (take n line) ≡ []
front_not_ended zero line e = refl
front_not_ended (suc n) [] e = refl
front_not_ended (suc n) (b ∷ bs) e =
    let not = not_ended b bs e in
    ap (λ t. if t then [] ∷ lines_of (take n bs) else onto_line b (lines_of (take n bs))) not.0
    ∙ ap (onto_line b) (front_not_ended n bs not.1)

pub both_not_ended : (line more : List ℕ) → lines_of line ≡ [] → lines_of more ≡ [] → lines_of (line ++ more) ≡ []
both_not_ended line more e f = lines_behind line more e ∙ ap (onto_first line) f

pub front_short : (n : ℕ) (xs : List ℕ) → length (take n xs) ≤ n
front_short zero xs = omega arith
front_short (suc n) [] = omega arith
front_short (suc n) (x ∷ xs) = let short = front_short n xs in omega (arith, short)

-- ---- a line that is too long

lt_true : (a b : ℕ) → a < b → nat_lt a b ≡ true
lt_true a b h = grind (arith, h)

too_long : (line : List ℕ) → LINE < length line → line_fault line ≡ Some LineTooLong
too_long line h = ap (λ t. if t then Some LineTooLong else if has_high_byte line then Some NotAscii else None) (lt_true LINE (length line) h)

-- two lines are the same, or both too long
data Alike (one other : List ℕ) : Type 0 where
  Same : one ≡ other → Alike one other
  Long : line_fault one ≡ Some LineTooLong → line_fault other ≡ Some LineTooLong → Alike one other

alike : (line behind : List ℕ) → Alike (take (LINE + 1) line ++ behind) (line ++ behind)
alike line behind = by (nat_le (length line) (LINE + 1)) refl
  where
    by : (fits : Bool) → nat_le (length line) (LINE + 1) ≡ fits → Alike (take (LINE + 1) line ++ behind) (line ++ behind)
    by true e = Same (ap (λ l. l ++ behind) (take_all (LINE + 1) line (true_le (length line) (LINE + 1) e)))
    by false e =
        let past = false_le (length line) (LINE + 1) e in
        let front = length-take-le (LINE + 1) line (omega (arith, past)) in
        Long
        (too_long (take (LINE + 1) line ++ behind) (omega (arith, length-append (take (LINE + 1) line) behind, front)))
        (too_long (line ++ behind) (omega (arith, length-append line behind, past)))

-- behind a fault the source of a LOAD does not matter
settled : (n : ℕ) (one other : List ℕ) (why : BadRequest) (lines : List (List ℕ)) → gathered n one (Some why) (requests_from lines) ≡ gathered n other (Some why) (requests_from lines)
settled zero one other why lines = refl
settled (suc left) one other why [] = refl
settled (suc left) one other why (line ∷ lines) = settled left (one ++ (trimmed line ++ 10 ∷ [])) (other ++ (trimmed line ++ 10 ∷ [])) why lines

same_behind : (one other : List ℕ) (lines : List (List ℕ)) (reading : Reading) → Alike one other → requests_from (one ∷ lines) reading ≡ requests_from (other ∷ lines) reading
same_behind one other lines reading (Same e) = ap (λ l. requests_from (l ∷ lines) reading) e
same_behind one other lines Ready (Long e f) =
    after_first one lines
    ∙ ap (λ c. led_to c (requests_from lines)) (ap (λ o. command_by o one) e ∙ sym (ap (λ o. command_by o other) f))
    ∙ sym (after_first other lines)
same_behind one other lines (Gathering zero source fault) (Long e f) = refl
same_behind one other lines (Gathering (suc left) source fault) (Long e f) =
    ap (λ o. gathered left (source ++ (trimmed one ++ 10 ∷ [])) (first_fault fault o) (requests_from lines)) e
    ∙ by fault
    ∙ sym (ap (λ o. gathered left (source ++ (trimmed other ++ 10 ∷ [])) (first_fault fault o) (requests_from lines)) f)
  where
    by : (fault : Option BadRequest) → gathered left (source ++ (trimmed one ++ 10 ∷ [])) (first_fault fault (Some LineTooLong)) (requests_from lines)
        ≡ gathered left (source ++ (trimmed other ++ 10 ∷ [])) (first_fault fault (Some LineTooLong)) (requests_from lines)
    by None = settled left (source ++ (trimmed one ++ 10 ∷ [])) (source ++ (trimmed other ++ 10 ∷ [])) LineTooLong lines
    by (Some why) = settled left (source ++ (trimmed one ++ 10 ∷ [])) (source ++ (trimmed other ++ 10 ∷ [])) why lines

-- of a line that has not ended the first bytes stand for it
pub line_same : (reading : Reading) (line more : List ℕ) → lines_of line ≡ [] → requests_from (lines_of (take (LINE + 1) line ++ more)) reading ≡ requests_from (lines_of (line ++ more)) reading
line_same reading line more e =
    ap (λ ls. requests_from ls reading) (lines_behind (take (LINE + 1) line) more (front_not_ended (LINE + 1) line e))
    ∙ by (lines_of more)
    ∙ sym (ap (λ ls. requests_from ls reading) (lines_behind line more e))
  where
    by : (lines : List (List ℕ)) → requests_from (onto_first (take (LINE + 1) line) lines) reading ≡ requests_from (onto_first line lines) reading
    by [] = refl
    by (first ∷ lines) = same_behind (take (LINE + 1) line ++ first) (line ++ first) lines reading (alike line first)

-- ---- a source

take_front : (n : ℕ) (front behind : List ℕ) → take n (take n front ++ behind) ≡ take n (front ++ behind)
take_front zero front behind = refl
take_front (suc n) [] behind = refl
take_front (suc n) (x ∷ xs) behind = ap (λ l. x ∷ l) (take_front n xs behind)

-- sources that begin alike lead to the same
source_alike : (n : ℕ) (one other : List ℕ) (fault : Option BadRequest) (lines : List (List ℕ)) → take (REQUEST_BYTES + 1) one ≡ take (REQUEST_BYTES + 1) other →
    gathered n one fault (requests_from lines) ≡ gathered n other fault (requests_from lines)
source_alike zero one other None lines e = ap (λ s. request.Load s ∷ requests_from lines Ready) e
source_alike zero one other (Some why) lines e = refl
source_alike (suc left) one other fault [] e = refl
source_alike (suc left) one other fault (line ∷ lines) e =
    let more = trimmed line ++ 10 ∷ [] in
    source_alike left (one ++ more) (other ++ more) (first_fault fault (line_fault line)) lines
    (sym (take_front (REQUEST_BYTES + 1) one more) ∙ ap (λ s. take (REQUEST_BYTES + 1) (s ++ more)) e ∙ take_front (REQUEST_BYTES + 1) other more)

take_twice : (n : ℕ) (xs : List ℕ) → take n (take n xs) ≡ take n xs
take_twice zero xs = refl
take_twice (suc n) [] = refl
take_twice (suc n) (x ∷ xs) = ap (λ l. x ∷ l) (take_twice n xs)

pub source_same : (n : ℕ) (source : List ℕ) (fault : Option BadRequest) (lines : List (List ℕ)) →
    gathered n (take (REQUEST_BYTES + 1) source) fault (requests_from lines) ≡ gathered n source fault (requests_from lines)
source_same n source fault lines = source_alike n (take (REQUEST_BYTES + 1) source) source fault lines (take_twice (REQUEST_BYTES + 1) source)

-- what a source is behind others of at most n bytes
pub take_behind : (n : ℕ) (front behind : List ℕ) → length front ≤ n → take n (front ++ behind) ≡ front ++ take (n - length front) behind
take_behind n [] behind h =
    let e : n ≡ n - length {A = ℕ} [] = omega arith in
    ap (λ k. take k behind) e
take_behind zero (x ∷ xs) behind h = absurd (omega arith)
take_behind (suc n) (x ∷ xs) behind h =
    let e : n - length xs ≡ suc n - length (x ∷ xs) = omega arith in
    ap (λ l. x ∷ l) (take_behind n xs behind (omega arith)) ∙ ap (λ k. x ∷ (xs ++ take k behind)) e

pub ok_items : {A E : Type 0} (result : Result A E) (new one other : List ℕ) (all : List ℕ) → new ≡ (if is_ok result then one else other) → one ≡ all → OnOk result (new ≡ all)
ok_items (Ok x) new one other all e f = e ∙ f
ok_items (Err x) new one other all e f = tt
