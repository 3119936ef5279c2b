-- What stands between two tokens, and behind the last, as the manual says it.
use Rattle.std.proofs.Common.{◌≡◌, ◌⊎◌, ℕ, zero, suc, ◌≤◌, List, [], ◌∷◌, ◌++◌, length, Bool, true, false, refl, ap, ◌∙◌, sym, subst, arith, inl, inr, ⊎_elim, append_assoc, append-nil}
use Rattle.std.proofs.lemmas.Bool.{true≢false}
use Rattle.aud_lex.specs.Why.Cut.{is_gap}
use Rattle.aud_lex.specs.Why.Manual.{The, ◌then◌, ◌or◌, Repeated, never, again, EndOfLine, Separator, CommentCharacter, Comment, Between, BehindLast}
use Rattle.aud_lex.specs.Why.Laws.{GapsAreSeparators}
use Rattle.aud_lex.proofs.Gaps.{Piece, passed, Split, passes, view, no_gap, shorter}
use Rattle.aud_lex.proofs.Recognized.{longer}

-- A gap is what the manual says

-- behind the last token the text may end in a comment
abbrev Tail : Bool → List ℕ → Type 0
Tail is_last x = (x ≡ []) ⊎ ((is_last ≡ true) × Comment x)

abbrev Outside : Bool → List ℕ → Type 0
Outside is_last = Between then Tail is_last

-- what begins within a comment or not
abbrev Gap : Bool → Bool → List ℕ → Type 0
Gap is_last true x = (Repeated CommentCharacter then EndOfLine then Outside is_last) x ⊎ ((is_last ≡ true) × Repeated CommentCharacter x)
Gap is_last false x = Outside is_last x

-- a comment that ends with its line
commented : (is_last : Bool) (p x : List ℕ) → The "--" p → (Repeated CommentCharacter then EndOfLine then Outside is_last) x → Outside is_last (p ++ x)
commented is_last p x d h =
    let w = h.4 in
    let e : p ++ x ≡ ((p ++ h.0) ++ w.0) ++ w.1 =
    ap (λ z. p ++ z) (h.2 ∙ ap (λ z. h.0 ++ z) w.2) ∙ sym (append_assoc p h.0 (w.0 ++ w.1)) ∙ sym (append_assoc (p ++ h.0) w.0 w.1) in
    subst (Outside is_last) (sym e)
    (longer (Separator or Comment then EndOfLine) (Tail is_last) ((p ++ h.0) ++ w.0) w.1 (inr (p ++ h.0, w.0, refl, (p, h.0, refl, d, h.3), w.3)) w.4)

-- one piece more
more_gap : (is_last c d : Bool) (p x : List ℕ) → Piece c d p → Gap is_last d x → Gap is_last c (p ++ x)
more_gap is_last false false p x h g = longer (Separator or Comment then EndOfLine) (Tail is_last) p x (inl h) g
more_gap is_last false true p x h g = ⊎_elim (commented is_last p x h) (λ k. ([], p ++ x, refl, never, inr (k.0, (p, x, refl, h, k.1)))) g
more_gap is_last true true p x h g = ⊎_elim
    (λ k. inl (longer CommentCharacter (EndOfLine then Outside is_last) p x h k))
    (λ k. inr (k.0, again p x h k.1)) g
more_gap is_last true false p x h g = inl ([], p ++ x, refl, never, (p, x, refl, h, g))

gap_said : (k : ℕ) (is_last c : Bool) (bs : List ℕ) → length bs ≤ k → is_gap is_last c bs ≡ true → Gap is_last c bs
gap_said k true true [] l e = inr (refl, never)
gap_said k false true [] l e = cc
gap_said k is_last false [] l e = ([], [], refl, never, inl refl)
gap_said zero is_last c (b ∷ bs) l e = absurd (omega arith)
gap_said (suc k) is_last c (b ∷ bs) l e =
    ⊎_elim (piece (gap_said k is_last)) (λ s. absurd (true≢false (sym e ∙ no_gap is_last c b bs s))) (view c b bs)
  where
    piece : ((d : Bool) (x : List ℕ) → length x ≤ k → is_gap is_last d x ≡ true → Gap is_last d x) → Split c (b ∷ bs) → Gap is_last c (b ∷ bs)
    piece later s =
        let goes_on : is_gap is_last s.stays s.rest ≡ true = sym ((passes c (b ∷ bs) s).gap is_last s.rest) ∙ ap (is_gap is_last c) (sym s.text) ∙ e in
        subst (Gap is_last c) (sym s.text)
        (more_gap is_last c s.stays (s.first ∷ s.more) s.rest s.is (later s.stays s.rest (shorter s.first k s.more s.rest (b ∷ bs) l s.text) goes_on))

-- What the manual says is a gap

characters_pass : (is_last : Bool) (x y : List ℕ) → Repeated CommentCharacter x → is_gap is_last true (x ++ y) ≡ is_gap is_last true y
characters_pass is_last _ y never = refl
characters_pass is_last _ y (again front rest h hs) =
    ap (is_gap is_last true) (append_assoc front rest y) ∙ (passed true true front h).gap is_last (rest ++ y) ∙ characters_pass is_last rest y hs

comment_passes : (is_last : Bool) (x y : List ℕ) → Comment x → is_gap is_last false (x ++ y) ≡ is_gap is_last true y
comment_passes is_last x y h =
    ap (λ z. is_gap is_last false (z ++ y)) h.2 ∙ ap (is_gap is_last false) (append_assoc h.0 h.1 y)
    ∙ (passed false true h.0 h.3).gap is_last (h.1 ++ y) ∙ characters_pass is_last h.1 y h.4

whole_comment_passes : (is_last : Bool) (x y : List ℕ) → (Comment then EndOfLine) x → is_gap is_last false (x ++ y) ≡ is_gap is_last false y
whole_comment_passes is_last x y h =
    ap (λ z. is_gap is_last false (z ++ y)) h.2 ∙ ap (is_gap is_last false) (append_assoc h.0 h.1 y)
    ∙ comment_passes is_last h.0 (h.1 ++ y) h.3 ∙ (passed true false h.1 h.4).gap is_last y

between_passes : (is_last : Bool) (x y : List ℕ) → Between x → is_gap is_last false (x ++ y) ≡ is_gap is_last false y
between_passes is_last _ y never = refl
between_passes is_last _ y (again front rest h hs) =
    ap (is_gap is_last false) (append_assoc front rest y)
    ∙ ⊎_elim (λ s. (passed false false front s).gap is_last (rest ++ y)) (whole_comment_passes is_last front (rest ++ y)) h
    ∙ between_passes is_last rest y hs

between_is_gap : (x : List ℕ) → Between x → is_gap false false x ≡ true
between_is_gap x h = ap (is_gap false false) (sym (append-nil x)) ∙ between_passes false x [] h

last_is_gap : (x : List ℕ) → BehindLast x → is_gap true false x ≡ true
last_is_gap x h =
    ap (is_gap true false) h.2 ∙ between_passes true h.0 h.1 h.3
    ∙ ⊎_elim (λ e. ap (is_gap true false) e) (λ k. ap (is_gap true false) (sym (append-nil h.1)) ∙ comment_passes true h.1 [] k) h.4

between_said : (x : List ℕ) → Outside false x → Between x
between_said x h = ⊎_elim (λ e. subst Between (sym (h.2 ∙ ap (λ z. h.0 ++ z) e ∙ append-nil h.0)) h.3) (λ k. cc (k.0)) h.4

last_said : (x : List ℕ) → Outside true x → BehindLast x
last_said x h = (h.0, h.1, h.2, h.3, ⊎_elim (λ e. inl e) (λ k. inr k.1) h.4)

pub gaps_are_separators : GapsAreSeparators
gaps_are_separators x = (
  (λ e. between_said x (gap_said (length x) false false x (omega arith) e), between_is_gap x),
  (λ e. last_said x (gap_said (length x) true false x (omega arith) e), last_is_gap x),
)
