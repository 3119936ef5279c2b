-- Lines and words, from their first end on.
use Rattle.std.proofs.Common.{◌≡◌, ◌≢◌, ℕ, zero, suc, ◌+◌, ◌<◌, List, [], ◌∷◌, ◌++◌, length, take, drop, get_or, ◌==◌, slice_index, Bool, true, false, cond, Option, Some, None, refl, sym, ◌∙◌, ap, arith, add-one, append-nil}
use Rattle.std.proofs.lemmas.Bool.{false_from_ne_true, eqb-true}
use Rattle.std.proofs.lemmas.List.{take_all, drop_all, drop_more}
use Rattle.std.specs.Option.{unwrap_or}
use Rattle.std.specs.Prelude.{if◌then◌else◌}
use Rattle.memchr.specs.Find.{Nowhere, Passes, is_byte, IsFirstByte}
use Rattle.std.proofs.lemmas.List.Recursion.{is_count_by}
use Rattle.std.proofs.lemmas.List.Sums.{sum_by-append}
use Rattle.aud_text.specs.Lines.{line_count}
use Rattle.aud_lines.specs.Lines.{onto_line, lines_of, onto_word, pieces, without_empty, words_of}

-- where the byte stands nowhere, it stands nowhere behind the first
later : (c b : ℕ) (bs : List ℕ) (n : ℕ) → Nowhere (Passes (is_byte c) (b ∷ bs)) 0 (suc n) → Nowhere (Passes (is_byte c) bs) 0 n
later c b bs n h k low high = h (suc k) (omega arith) (omega arith)

-- Bytes that are cut at each byte c: what is behind it is cut by itself, and any other byte goes in front of the first part.
module _ (c : ℕ) (cut : List ℕ → List (List ℕ)) (onto : ℕ → List (List ℕ) → List (List ℕ))
    (is : (b : ℕ) (bs : List ℕ) → cut (b ∷ bs) ≡ (if b == c then [] ∷ cut bs else onto b (cut bs))) where
  other : (b : ℕ) (bs behind : List ℕ) (n : ℕ) → Nowhere (Passes (is_byte c) (b ∷ bs)) 0 (suc n) → cut (b ∷ behind) ≡ onto b (cut behind)
  other b bs behind n h = is b behind ∙ ap (λ t. if t then [] ∷ cut behind else onto b (cut behind)) (false_from_ne_true (b == c) (h 0 (omega arith) (omega arith)))

  uncut : (end : List ℕ → List (List ℕ)) → cut [] ≡ end [] → ((b : ℕ) (bs : List ℕ) → onto b (end bs) ≡ end (b ∷ bs)) →
      (bytes : List ℕ) → Nowhere (Passes (is_byte c) bytes) 0 (length bytes) → cut bytes ≡ end bytes
  uncut end last goes [] h = last
  uncut end last goes (b ∷ bs) h = other b bs bs (length bs) h ∙ ap (onto b) (uncut end last goes bs (later c b bs (length bs) h)) ∙ goes b bs

  -- whatever stands behind the bytes
  first : ((b : ℕ) (x : List ℕ) (xs : List (List ℕ)) → onto b (x ∷ xs) ≡ (b ∷ x) ∷ xs) →
      (bytes more : List ℕ) (k : ℕ) → k < length bytes → Nowhere (Passes (is_byte c) bytes) 0 k → Passes (is_byte c) bytes k → cut (bytes ++ more) ≡ take k bytes ∷ cut (drop (suc k) bytes ++ more)
  first goes [] more k below h p = absurd (omega arith)
  first goes (b ∷ bs) more zero below h p = is b (bs ++ more) ∙ ap (λ t. if t then [] ∷ cut (bs ++ more) else onto b (cut (bs ++ more))) p
  first goes (b ∷ bs) more (suc k) below h p =
      other b bs (bs ++ more) k h ∙ ap (onto b) (first goes bs more k (omega arith) (later c b bs k h) p) ∙ goes b (take k bs) (cut (drop (suc k) bs ++ more))

pub lines_none : (bytes : List ℕ) → Nowhere (Passes (is_byte 10) bytes) 0 (length bytes) → lines_of bytes ≡ []
lines_none = uncut 10 lines_of onto_line (λ b bs. refl) (λ bytes. []) refl (λ b bs. refl)

pub lines_first : (bytes more : List ℕ) (k : ℕ) → k < length bytes → Nowhere (Passes (is_byte 10) bytes) 0 k → Passes (is_byte 10) bytes k → lines_of (bytes ++ more) ≡ take k bytes ∷ lines_of (drop (suc k) bytes ++ more)
lines_first = first 10 lines_of onto_line (λ b bs. refl) (λ b x xs. refl)

pieces_none : (bytes : List ℕ) → Nowhere (Passes (is_byte 32) bytes) 0 (length bytes) → pieces bytes ≡ bytes ∷ []
pieces_none = uncut 32 pieces onto_word (λ b bs. refl) (λ bytes. bytes ∷ []) refl (λ b bs. refl)

pieces_first : (bytes : List ℕ) (k : ℕ) → k < length bytes → Nowhere (Passes (is_byte 32) bytes) 0 k → Passes (is_byte 32) bytes k → pieces bytes ≡ take k bytes ∷ pieces (drop (suc k) bytes)
pieces_first bytes k below h p =
    ap pieces (sym (append-nil bytes))
    ∙ first 32 pieces onto_word (λ b bs. refl) (λ b x xs. refl) bytes [] k below h p
    ∙ ap (λ rest. take k bytes ∷ pieces rest) (append-nil (drop (suc k) bytes))

-- a word goes up to the first space
pub word_until : (bytes : List ℕ) (r : Option ℕ) → IsFirstByte (is_byte 32) bytes r → 0 < length bytes → slice_index bytes 0 ≢ 32 → words_of bytes ≡ take (unwrap_or r (length bytes)) bytes ∷ words_of (drop (unwrap_or r (length bytes)) bytes)
word_until [] r h some first = absurd (omega arith)
word_until (b ∷ bs) None h some first =
    ap without_empty (pieces_none (b ∷ bs) h)
    ∙ sym (ap (λ w. w ∷ words_of (drop (length (b ∷ bs)) (b ∷ bs))) (take_all (length (b ∷ bs)) (b ∷ bs) (omega arith)) ∙ ap (λ w. (b ∷ bs) ∷ words_of w) (drop_all (length (b ∷ bs)) (b ∷ bs) (omega arith)))
word_until (b ∷ bs) (Some zero) h some first = absurd (first (eqb-true b 32 h.1))
word_until (b ∷ bs) (Some (suc k)) h some first =
    let below : suc k < length (b ∷ bs) = h.0.high in
    let space : get_or bs k 0 ≡ 32 = eqb-true _ 32 h.1 in
    let behind : drop k bs ≡ 32 ∷ drop (k + 1) bs = drop_more bs k 0 (omega arith) ∙ ap (λ x. x ∷ drop (k + 1) bs) space in
    let cut : pieces (b ∷ bs) ≡ (b ∷ take k bs) ∷ pieces (drop (suc k) bs) = pieces_first (b ∷ bs) (suc k) below h.0.before h.1 in
    let same : words_of (drop k bs) ≡ words_of (drop (suc k) bs) = ap words_of behind ∙ ap (λ n. words_of (drop n bs)) (add-one k) in
    ap without_empty cut ∙ ap (λ ws. (b ∷ take k bs) ∷ ws) (sym same)

same_length : (b : ℕ) (lines : List (List ℕ)) → length (onto_line b lines) ≡ length lines
same_length b [] = refl
same_length b (line ∷ lines) = refl

-- a line for each line feed
pub lines_counted : (bytes : List ℕ) → length (lines_of bytes) ≡ line_count bytes
lines_counted = is_count_by (λ bytes. length (lines_of bytes)) (λ b. b == 10) refl (λ b bs. by (b == 10) b bs)
  where
    by : (t : Bool) (b : ℕ) (bs : List ℕ) → length (if t then [] ∷ lines_of bs else onto_line b (lines_of bs)) ≡ cond t (1 + length (lines_of bs)) (length (lines_of bs))
    by true b bs = omega arith
    by false b bs = same_length b (lines_of bs)

pub count_more : (bytes more : List ℕ) → line_count (bytes ++ more) ≡ line_count bytes + line_count more
count_more bytes more = sum_by-append (λ b. cond (b == 10) 1 0) bytes more
