-- How symbols are passed: words, tokens, levels, loops, and the exit of a function at a fault.
use Rattle.std.proofs.Common.{◌≡◌, ℕ, suc, ◌+◌, ◌≤◌, List, [], ◌∷◌, ◌++◌, length, ap, Bool, true, false, refl, sym, arith, subst, ◌∙◌}
use Rattle.std.specs.Prelude.{◌==◌, if◌then◌else◌, Vec, Result, Ok, Err, IsErrAnd}
use Rattle.std.specs.Global.{Global}
use Rattle.std.proofs.lemmas.Bool.{eqb-true}
use Rattle.aud_text.specs.Name.{capitals}
use Rattle.std.proofs.lemmas.Result.{err_from_is_err_and}
use Rattle.aud_lex.specs.Element.{Element}
use Rattle.aud_lex.specs.Kinds.{kind_number}
use Rattle.aud_lex.specs.declared.token.Kind.{Kind}
use Rattle.aud_grammar.specs.Grammar.{Word, Phrase, Symbol, T, P, W, N, L, Down, Rep, rule}
use Rattle.aud_grammar.specs.First.{next_in, is_spelled, next_spelled, same_text, spelling, firsts}
use Rattle.aud_grammar.specs.Parsed.{Verdict, Wrong, Deep}
use Rattle.aud_grammar.specs.Actions.{Item, token, none, listed, made}
use Rattle.aud_grammar.specs.Ties.Outcome.{Out, o_level, o_down, o_rule, o_deep, o_shut, o_word, o_token, o_spelled, o_more, o_stop}
use Rattle.aud_cursor.specs.Ties.Items.{list_item, vec_item}
use Rattle.aud_cursor.specs.declared.cursor.Rest.{Rest}
use Rattle.aud_cursor.specs.declared.cursor.Fault.{Fault}
use Rattle.aud_cursor.specs.declared.cursor.Fault.TheVariants as fault
use Rattle.aud_cursor.specs.Ties.Reads.{Passes, FailsAt, Comes, NoMore, Reading, MayRead, FlatReading}
use Rattle.aud_grammar.proofs.Choices.{or_left, or_right}

pub next_there : (ks : List Kind) (ts : List Element) → next_in ks ts ≡ true → 1 ≤ length ts
next_there ks [] e = cc
next_there ks (t ∷ ts) e = omega arith

-- a word and a token, where they come next

pub word_passes : {c : Kind} {r : ℕ} {ts ts' : List Element} {t : Element} → (next_in (c ∷ []) ts ≡ true) × (ts ≡ t ∷ ts') → Passes (T c) r ts (λ ds. ds) r ts'
word_passes h k ds v o = rw h.1 (o_word (rw h.1 at h.0) o)

pub token_passes : {c : Kind} {r : ℕ} {ts ts' : List Element} {t : Element} → (next_in (c ∷ []) ts ≡ true) × (ts ≡ t ∷ ts') → Passes (P c) r ts (λ ds. token t ∷ ds) r ts'
token_passes h k ds v o = rw h.1 (o_token (rw h.1 at h.0) o)

-- an identifier that the grammar names, where it comes next

pub next_spelled_there : (wanted : List ℕ) (ts : List Element) → next_spelled wanted ts ≡ true → 1 ≤ length ts
next_spelled_there wanted [] e = cc
next_spelled_there wanted (t ∷ ts) e = omega arith

pub spelled_passes : {w : Word} {wanted : List ℕ} {ts ts' : List Element} {t : Element} (r : ℕ) → spelling w ≡ wanted → next_spelled wanted ts ≡ true → ts ≡ t ∷ ts' → Passes (W w) r ts (λ ds. token t ∷ ds) r ts'
spelled_passes {w} {wanted} {t = t} r s e is k ds v o =
    let h : is_spelled wanted t ≡ true = rw is at e in
    rw is (o_spelled (subst (λ l. is_spelled l t ≡ true) (sym s) h) o)

pub more_text : (xs ys : List ℕ) → (length xs == 0) ≡ false → (length ys == 0) ≡ true → false ≡ same_text (capitals xs) ys
more_text [] ys h i = cc
more_text (x ∷ xs) [] h i = refl
more_text (x ∷ xs) (y ∷ ys) h i = absurd (omega (arith, eqb-true (length (y ∷ ys)) 0 i))

-- the next token is of one of some kinds

pub in_this : (c : Kind) (cs : List Kind) (ts : List Element) → next_in (c ∷ []) ts ≡ true → next_in (c ∷ cs) ts ≡ true
in_this c cs [] h = cc
in_this c cs (t ∷ ts) h = or_left (kind_number t.kind == kind_number c) _ (is_one (kind_number t.kind == kind_number c) h)
  where
    is_one : (b : Bool) → (if b then true else false) ≡ true → b ≡ true
    is_one true e = refl
    is_one false e = cc

pub in_others : (c : Kind) (cs : List Kind) (ts : List Element) → next_in cs ts ≡ true → next_in (c ∷ cs) ts ≡ true
in_others c cs [] h = h
in_others c cs (t ∷ ts) h = or_right (kind_number t.kind == kind_number c) _ h

pub in_none : (c : Kind) (cs : List Kind) (ts : List Element) → next_in (c ∷ []) ts ≡ false → next_in cs ts ≡ false → next_in (c ∷ cs) ts ≡ false
in_none c cs [] h i = refl
in_none c cs (t ∷ ts) h i = neither (kind_number t.kind == kind_number c) h i
  where
    neither : (b : Bool) {x : Bool} → (if b then true else false) ≡ false → x ≡ false → (if b then true else x) ≡ false
    neither true e f = cc
    neither false e f = f

-- one level deeper, and back

pub level_in : {p : Phrase} {k : List Symbol} {r q : ℕ} {ts : List Element} {ds : List Item} {v : Verdict} → r ≡ q + 1 → Out (N p ∷ k) q ts ds v → Out (L p ∷ k) r ts ds v
level_in {p} {k} {r} {q} {ts} {ds} {v} e o = let i : suc q ≡ r = omega (arith, e) in subst (λ n. Out (L p ∷ k) n ts ds v) i (o_level o)

pub level_out : {k : List Symbol} {r q : ℕ} {ts : List Element} {ds : List Item} {v : Verdict} → r ≡ q + 1 → Out k r ts ds v → Out (Down ∷ k) q ts ds v
level_out {k} {r} {q} {ts} {ds} {v} e o = let i : r ≡ suc q = omega (arith, e) in o_down (subst (λ n. Out k n ts ds v) i o)

-- a list of trees in front of what its end is read to
abbrev pub fronted : {X : Type 0} → (X → Item) → List X → List Item → List Item
fronted f [] ds = ds
fronted f (x ∷ xs) ds = listed (f x ∷ fronted f xs ds)

-- the turns of a loop so far
pub record Turns {X : Type 0} (f : X → Item) (p : Phrase) (r : ℕ) (ts : List Element) (xs : List X) (ts' : List Element) : Type 0 where
  pub by : (k : List Symbol) (ds : List Item) (v : Verdict) → Out (Rep p ∷ k) r ts' ds v → Out (Rep p ∷ k) r ts (fronted f xs ds) v

pub turns_none : {X : Type 0} (f : X → Item) (p : Phrase) (r : ℕ) (ts : List Element) → Turns f p r ts [] ts
turns_none f p r ts = record { by = λ k ds v o. o }

front_push : {X : Type 0} (f : X → Item) (xs : List X) (x : X) (ds : List Item) → fronted f (xs ++ x ∷ []) ds ≡ fronted f xs (listed (f x ∷ ds))
front_push f [] x ds = refl
front_push f (y ∷ xs) x ds = ap (λ z. listed (f y ∷ z)) (front_push f xs x ds)

items_front : {X : Type 0} (f : X → Item) (xs : List X) (ds : List Item) → list_item f xs ∷ ds ≡ fronted f xs (none ∷ ds)
items_front f [] ds = refl
items_front f (y ∷ xs) ds = ap (λ z. listed (f y ∷ z)) (items_front f xs ds)

pub turns_push : {X : Type 0} {f : X → Item} {p : Phrase} {r : ℕ} {ts ts' ts'' : List Element} {xs ys : List X} (x : X) →
    Turns f p r ts xs ts' → next_in (firsts p) ts' ≡ true → Passes (N p) r ts' (λ ds. f x ∷ ds) r ts'' → ys ≡ xs ++ x ∷ [] → Turns f p r ts ys ts''
turns_push {p = p} x t e s is = record {
  by = λ k ds v o.
      rw (is, front_push) (t.by k _ v (o_more e (s (Rep p ∷ k) ds v o)));
}

-- the same of a tree that is pushed as this item
pub turns_pushed : {X : Type 0} {f : X → Item} {p : Phrase} {r : ℕ} {ts ts' ts'' : List Element} {xs ys : List X} {item : Item} → (x : X) × (ys ≡ xs ++ x ∷ []) × (f x ≡ item) →
    Turns f p r ts xs ts' → next_in (firsts p) ts' ≡ true → Passes (N p) r ts' (λ ds. item ∷ ds) r ts'' → Turns f p r ts ys ts''
turns_pushed w t e s = turns_push w.0 t e (λ k ds v o. rw w.2 (s k ds v o)) w.1

pub turns_end : {X : Type 0} {f : X → Item} {p : Phrase} {r : ℕ} {ts ts' : List Element} {xs : List X} → Turns f p r ts xs ts' → next_in (firsts p) ts' ≡ false → Passes (Rep p) r ts (λ ds. list_item f xs ∷ ds) r ts'
turns_end {f = f} {p} {r} {ts} {xs = xs} t e k ds v o = subst (λ z. Out (Rep p ∷ k) r ts z v) (sym (items_front f xs ds)) (t.by k _ v (o_stop e o))

-- what a loop returns
pub turns_over : {X : Type 0} {f : X → Item} {p : Phrase} {r : ℕ} {start rest : Rest} {all : Vec X Global} → Turns f p r start.tokens.now all.items rest.tokens.now → next_in (firsts p) rest.tokens.now ≡ false → NoMore rest start →
    MayRead (vec_item f) (Rep p) r start (Ok (all, rest))
turns_over t e m = record { reads = turns_end t e; shorter = m }

-- how a function fails with a fault, and so do those that have passed something before it
pub fails_through : {s0 s : Symbol} {r r' : ℕ} {ts ts' : List Element} {K : List Symbol → List Symbol} {f : List Item → List Item} (e : Fault) →
    FailsAt s r' ts' e → ((k : List Symbol) (ds : List Item) (v : Verdict) → Out (s ∷ K k) r' ts' ds v → Out (s0 ∷ k) r ts (f ds) v) → FailsAt s0 r ts e
fails_through fault.Memory h g = tt
fails_through {K = K} {f} (fault.Wrong rest) h g = λ k. let o = h (K k) in (f o.0, g k o.0 _ o.1)
fails_through {K = K} {f} (fault.Deep rest) h g = λ k. let o = h (K k) in (f o.0, g k o.0 _ o.1)

-- the exit by a `?`
pub exit : {Left : Rest → Rest → Type 0} {s0 s : Symbol} {r r' : ℕ} {start : Rest} {ts' : List Element} {K : List Symbol → List Symbol} {f : List Item → List Item} {X : Type 0} (x : X → Item) (e : Fault) (res : Result (X × Rest) Fault) →
    IsErrAnd res (λ y. y ≡ e) → FailsAt s r' ts' e → ((k : List Symbol) (ds : List Item) (v : Verdict) → Out (s ∷ K k) r' ts' ds v → Out (s0 ∷ k) r start.tokens.now (f ds) v) → Reading Left x s0 r start res
exit x e res is h g =
    let p = err_from_is_err_and res is in
    rw (p.1, p.2) (record { reads = fails_through e h g; shorter = tt })

-- the same where no level is opened
pub exit_flat : {Left : Rest → Rest → Type 0} {s0 s : Symbol} {start : Rest} {ts' : List Element} {K : List Symbol → List Symbol} {f : List Item → List Item} {X : Type 0} (x : X → Item) (e : Fault) (res : Result (X × Rest) Fault) →
    IsErrAnd res (λ y. y ≡ e) → ((room : ℕ) → FailsAt s room ts' e) → ((room : ℕ) (k : List Symbol) (ds : List Item) (v : Verdict) → Out (s ∷ K k) room ts' ds v → Out (s0 ∷ k) room start.tokens.now (f ds) v) → FlatReading Left x s0 start res
exit_flat x e res is h g =
    let p = err_from_is_err_and res is in
    rw (p.1, p.2) (record { reads = λ room. fails_through e (h room) (g room); shorter = tt })

-- a function that hands on the answer of another, behind what it has passed
pub hand_after : {s0 s : Symbol} {r : ℕ} {X : Type 0} (x : X → Item) (start mid : Rest) (res : Result (X × Rest) Fault) → Comes x s r mid res →
    ((k : List Symbol) (ds : List Item) (v : Verdict) → Out (s ∷ k) r mid.tokens.now ds v → Out (s0 ∷ k) r start.tokens.now ds v) → Comes x s0 r start res
hand_after x start mid (Ok p) h g = λ k ds v o. g k _ v (h k ds v o)
hand_after x start mid (Err e) h g = fails_through e h g

pub hand_on : {s0 s : Symbol} {r : ℕ} {X : Type 0} (x : X → Item) (start : Rest) (res : Result (X × Rest) Fault) → Comes x s r start res →
    ((k : List Symbol) (ds : List Item) (v : Verdict) → Out (s ∷ k) r start.tokens.now ds v → Out (s0 ∷ k) r start.tokens.now ds v) → Comes x s0 r start res
hand_on x start res h g = hand_after x start start res h g

-- the same one level deeper
pub level_on : {s0 : Symbol} {q : Phrase} {r : ℕ} {X : Type 0} (x : X → Item) (start : Rest) (i : ℕ) (res : Result (X × Rest) Fault) → r ≡ i + 1 → Comes x (N q) i start res →
    ((k : List Symbol) (ds : List Item) (v : Verdict) → Out (L q ∷ Down ∷ k) r start.tokens.now ds v → Out (s0 ∷ k) r start.tokens.now ds v) → Comes x s0 r start res
level_on x start i (Ok p) e h g = λ k ds v o. g k _ v (level_in e (h (Down ∷ k) ds v (level_out e o)))
level_on x start i (Err e') e h g = fails_through {K = λ k. Down ∷ k} {f = λ ds. ds} e' h (λ k ds v o. g k ds v (level_in e o))

-- the exit where no level is left
pub no_level : {Left : Rest → Rest → Type 0} {X : Type 0} (x : X → Item) (p q : Phrase) (r : ℕ) (ts : Rest) (b : Bool) (e : Fault) (res : Result (X × Rest) Fault) → rule p ≡ L q ∷ Down ∷ [] →
    IsErrAnd res (λ y. y ≡ e) → (r ≡ 0) × (e ≡ (if b then fault.Deep ts else fault.Wrong ts)) → b ≡ next_in (firsts q) ts.tokens.now → Reading Left x (N p) r ts res
no_level x p q r ts b e res h is at t =
    let i = err_from_is_err_and res is in
    rw (i.1, i.2, at.0, at.1) (record { reads = here b t; shorter = tt })
  where
    here : (b : Bool) → b ≡ next_in (firsts q) ts.tokens.now → FailsAt (N p) 0 ts.tokens.now (if b then fault.Deep ts else fault.Wrong ts)
    here true t = λ k. (made p [], o_rule (subst (λ l. Out (l ++ k) 0 ts.tokens.now [] (Deep ts.tokens.now)) (sym h) (o_deep (sym t))))
    here false t = λ k. (made p [], o_rule (subst (λ l. Out (l ++ k) 0 ts.tokens.now [] (Wrong ts.tokens.now)) (sym h) (o_shut (sym t))))

-- the same items, written otherwise
pub to : {s : List Symbol} {r : ℕ} {ts : List Element} {ds es : List Item} {v : Verdict} → Out s r ts ds v → ds ≡ es → Out s r ts es v
to {s} {r} {ts} {v = v} o e = subst (λ z. Out s r ts z v) e o

-- what the trees of some turns, of which the last is followed by one more, make of what that one is read to
abbrev pub headed : {X : Type 0} → (X → Item) → List X → List Item → List Item
headed f [] ds = ds
headed f (x ∷ xs) ds = f x ∷ listed (headed f xs ds)

-- the turns so far of a loop that has one at least: it reads q, and each further one is phrase of a p
pub record Heads {X : Type 0} (f : X → Item) (q p : Phrase) (r : ℕ) (ts : List Element) (xs : List X) (ts' : List Element) : Type 0 where
  pub by : (k : List Symbol) (ds : List Item) (v : Verdict) → Out (N q ∷ Rep p ∷ k) r ts' ds v → Out (N q ∷ Rep p ∷ k) r ts (headed f xs ds) v

headed_push : {X : Type 0} (f : X → Item) (xs : List X) (x : X) (ds : List Item) → headed f (xs ++ x ∷ []) ds ≡ headed f xs (f x ∷ listed ds)
headed_push f [] x ds = refl
headed_push f (y ∷ xs) x ds = ap (λ z. f y ∷ listed z) (headed_push f xs x ds)

pub headed_items : {X : Type 0} (f : X → Item) (xs : List X) (x : X) (ds : List Item) → listed (headed f xs (f x ∷ none ∷ ds)) ≡ list_item f (xs ++ x ∷ []) ∷ ds
headed_items f [] x ds = refl
headed_items f (y ∷ xs) x ds = ap (λ z. listed (f y ∷ z)) (headed_items f xs x ds)

pub heads_none : {X : Type 0} {f : X → Item} {q p : Phrase} {r : ℕ} {ts : List Element} {xs : List X} → xs ≡ [] → Heads f q p r ts xs ts
heads_none e = rw e (record { by = λ k ds v o. o })

pub heads_push : {X : Type 0} {f : X → Item} {q p : Phrase} {r : ℕ} {ts ts' ts'' us : List Element} {xs ys : List X} (x : X) →
    Heads f q p r ts xs ts' → Passes (N q) r ts' (λ ds. f x ∷ ds) r ts'' → ((k : List Symbol) (ds : List Item) (v : Verdict) → Out (N q ∷ Rep p ∷ k) r us ds v → Out (Rep p ∷ k) r ts'' (listed ds) v) → ys ≡ xs ++ x ∷ [] →
    Heads f q p r ts ys us
heads_push {p = p} x t s g is = record { by = λ k ds v o. rw (is, headed_push) (t.by k _ v (s (Rep p ∷ k) _ v (g k ds v o))) }

-- the last turn, and what is read behind the list
pub heads_on : {X : Type 0} {f : X → Item} {q p : Phrase} {r : ℕ} {ts ts' ts'' : List Element} {xs : List X} (x : X) → Heads f q p r ts xs ts' → Passes (N q) r ts' (λ ds. f x ∷ ds) r ts'' → next_in (firsts p) ts'' ≡ false →
    (k : List Symbol) (ds : List Item) (v : Verdict) → Out k r ts'' ds v → Out (N q ∷ Rep p ∷ k) r ts (headed f xs (f x ∷ none ∷ ds)) v
heads_on {p = p} x t s e k ds v o = t.by k _ v (s (Rep p ∷ k) _ v (o_stop e o))

pub heads_end : {X : Type 0} {f : X → Item} {s0 : Symbol} {q p : Phrase} {r : ℕ} {ts ts' ts'' : List Element} {xs ys : List X} (x : X) →
    Heads f q p r ts xs ts' → Passes (N q) r ts' (λ ds. f x ∷ ds) r ts'' → next_in (firsts p) ts'' ≡ false → ys ≡ xs ++ x ∷ [] →
    ((k : List Symbol) (ds : List Item) (v : Verdict) → Out (N q ∷ Rep p ∷ k) r ts ds v → Out (s0 ∷ k) r ts (listed ds) v) → Passes s0 r ts (λ ds. list_item f ys ∷ ds) r ts''
heads_end {f = f} {xs = xs} x t s e is g k ds v o =
    to (g k _ v (heads_on x t s e k ds v o)) (headed_items f xs x ds ∙ ap (λ l. list_item f l ∷ ds) (sym is))
