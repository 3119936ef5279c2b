-- What a function reads that hands its trees on while it reads.
use Rattle.std.proofs.Common.{◌≡◌, ℕ, List, ◌∷◌, ◌++◌, ap, sym, arith, ◌∙◌}
use Rattle.std.specs.Prelude.{Result, Ok, Err, IfOk, IsErrAnd}
use Rattle.std.proofs.lemmas.Result.{err_from_is_err_and}
use Rattle.aud_lex.specs.Element.{Element}
use Rattle.aud_lex.specs.declared.token.Kind.{Kind}
use Rattle.aud_grammar.specs.Grammar.{Symbol, T}
use Rattle.aud_grammar.specs.Parsed.{Verdict}
use Rattle.aud_grammar.specs.Actions.{Item}
use Rattle.aud_grammar.specs.Ties.Outcome.{Out}
use Rattle.aud_cursor.specs.declared.cursor.Rest.{Rest}
use Rattle.aud_cursor.specs.declared.cursor.Fault.{Fault}
use Rattle.aud_cursor.specs.declared.cursor.Fault.TheVariants as fault
use Rattle.aud_cursor.specs.Ties.Reads.{Passes, FailsAt, FailsIn, Comes, Fewer, NoMore, Reading, FlatReading}
use Rattle.aud_cursor.specs.Ties.Behind.{Ends, both}
use Rattle.aud_cursor.proofs.Passing.{to, fails_through}

-- what has passed the word is what has passed the phrase
comes_with : {s0 : Symbol} {c : Kind} {r : ℕ} (start mid : Rest) {f : List Item → List Item} {X : Type 0} (x : X → Item) {tree : X} (res : Result (X × Rest) Fault) →
    Ends c tree mid res → ((k : List Symbol) (ds : List Item) (v : Verdict) → Out (T c ∷ k) r mid.tokens.now ds v → Out (s0 ∷ k) r start.tokens.now (f ds) v) → ((ds : List Item) → f ds ≡ x tree ∷ ds) → Comes x s0 r start res
comes_with {r = r} start mid x (Ok p) e before is = λ k ds v o. to (before k ds v (e.reads.1 r k ds v o)) (is ds ∙ ap (λ t. x t ∷ ds) (sym e.reads.0))
comes_with {r = r} start mid x (Err e) h before is = fails_through {K = λ k. k} e (h.reads r) before

pub fewer_still : {X : Type 0} (start mid : Rest) (res : Result (X × Rest) Fault) → IfOk res (λ p. Fewer p.1 mid) → NoMore mid start → IfOk res (λ p. Fewer p.1 start)
fewer_still start mid (Ok p) h m = omega (arith, h, m)
fewer_still start mid (Err e) h m = tt

-- the same where no token need be passed
pub no_more_still : {X : Type 0} (start mid : Rest) (res : Result (X × Rest) Fault) → IfOk res (λ p. Fewer p.1 mid) → NoMore mid start → IfOk res (λ p. NoMore p.1 start)
no_more_still start mid (Ok p) h m = omega (arith, h, m)
no_more_still start mid (Err e) h m = tt

-- a phrase that ends in a word
pub ends : {s0 : Symbol} {c : Kind} {r : ℕ} (start mid : Rest) {f : List Item → List Item} {X : Type 0} (x : X → Item) {tree : X} (res : Result (X × Rest) Fault) → Ends c tree mid res → NoMore mid start →
    ((k : List Symbol) (ds : List Item) (v : Verdict) → Out (T c ∷ k) r mid.tokens.now ds v → Out (s0 ∷ k) r start.tokens.now (f ds) v) → ((ds : List Item) → f ds ≡ x tree ∷ ds) → Reading Fewer x s0 r start res
ends start mid x res e m before is = record { reads = comes_with start mid x res e before is; shorter = fewer_still start mid res e.shorter m }

-- the same with any room
pub ends_flat : {s0 : Symbol} {c : Kind} (start mid : Rest) {f : List Item → List Item} {X : Type 0} (x : X → Item) {tree : X} (res : Result (X × Rest) Fault) → Ends c tree mid res → NoMore mid start →
    ((r : ℕ) (k : List Symbol) (ds : List Item) (v : Verdict) → Out (T c ∷ k) r mid.tokens.now ds v → Out (s0 ∷ k) r start.tokens.now (f ds) v) → ((ds : List Item) → f ds ≡ x tree ∷ ds) → FlatReading Fewer x s0 start res
ends_flat start mid x res e m before is = record { reads = λ r. comes_with start mid x res e (before r) is; shorter = fewer_still start mid res e.shorter m }

-- what is read behind a tree, which stays as it is
pub record Joined {X Y : Type 0} (Left : Rest → Rest → Type 0) (y : Y → Item) (s : Symbol) (r : ℕ) (start : Rest) (x : X) (a : X) (b : Y) (rest : Rest) : Type 0 where
  pub first : a ≡ x
  pub reads : Passes s r start.tokens.now (λ ds. y b ∷ ds) r rest.tokens.now
  pub shorter : Left rest start

pub joined : {X Y : Type 0} {Left : Rest → Rest → Type 0} {y : Y → Item} {s : Symbol} {r : ℕ} {start : Rest} {x a : X} {b : Y} {rest : Rest} (next : Result (Y × Rest) Fault) →
    Ok ((a, b), rest) ≡ both x next → Reading Left y s r start next → Joined Left y s r start x a b rest
joined {X} {Y} {x = x} {a} {b} {rest} (Ok p) e h =
    let q : ((a, b), rest) ≡ ((x, p.0), p.1) = cc in
    let i : b ≡ p.0 = ap (λ (z : (X × Y) × Rest). z.0.1) q in
    let j : rest ≡ p.1 = ap (λ (z : (X × Y) × Rest). z.1) q in
    rw (i, j) (record { first = ap (λ (z : (X × Y) × Rest). z.0.0) q; reads = h.reads; shorter = h.shorter })
joined (Err e') e h = cc

pub not_joined : {X Y : Type 0} {Left : Rest → Rest → Type 0} {y : Y → Item} {s : Symbol} {r : ℕ} {start : Rest} (x : X) {e : Fault} (next : Result (Y × Rest) Fault) →
    Err e ≡ both x next → Reading Left y s r start next → FailsAt s r start.tokens.now e
not_joined x (Ok p) e h = cc
not_joined x {e} (Err e') i h = let j : e ≡ e' = cc in rw j h.reads

-- the same behind two trees
pub record JoinedTwice {X Y Z : Type 0} (Left : Rest → Rest → Type 0) (z : Z → Item) (s : Symbol) (r : ℕ) (start : Rest) (x : X) (y : Y) (a : X) (b : Y) (c : Z) (rest : Rest) : Type 0 where
  pub outer : a ≡ x
  pub first : b ≡ y
  pub reads : Passes s r start.tokens.now (λ ds. z c ∷ ds) r rest.tokens.now
  pub shorter : Left rest start

pub joined_twice : {X Y Z : Type 0} {Left : Rest → Rest → Type 0} {z : Z → Item} {s : Symbol} {r : ℕ} {start : Rest} {x a : X} {y b : Y} {c : Z} {rest : Rest} {inner : Result ((Y × Z) × Rest) Fault} (next : Result (Z × Rest) Fault) →
    Ok ((a, (b, c)), rest) ≡ both x inner → inner ≡ both y next → Reading Left z s r start next → JoinedTwice Left z s r start x y a b c rest
joined_twice {X} {Y} {Z} {x = x} {a} {y} {b} {c} {rest} {inner} (Ok p) e i h =
    let f : Ok ((a, (b, c)), rest) ≡ Ok ((x, (y, p.0)), p.1) = e ∙ ap (λ w. both x w) i in
    let q : ((a, (b, c)), rest) ≡ ((x, (y, p.0)), p.1) = cc in
    let j : c ≡ p.0 = ap (λ (w : (X × (Y × Z)) × Rest). w.0.1.1) q in
    let k : rest ≡ p.1 = ap (λ (w : (X × (Y × Z)) × Rest). w.1) q in
    rw (j, k) (record { outer = ap (λ (w : (X × (Y × Z)) × Rest). w.0.0) q; first = ap (λ (w : (X × (Y × Z)) × Rest). w.0.1.0) q; reads = h.reads; shorter = h.shorter })
joined_twice {x = x} (Err e') e i h = let f = e ∙ ap (λ w. both x w) i in cc

pub not_joined_twice : {X Y Z : Type 0} {Left : Rest → Rest → Type 0} {z : Z → Item} {s : Symbol} {r : ℕ} {start : Rest} (x : X) (y : Y) {e : Fault} {inner : Result ((Y × Z) × Rest) Fault} (next : Result (Z × Rest) Fault) →
    Err e ≡ both x inner → inner ≡ both y next → Reading Left z s r start next → FailsAt s r start.tokens.now e
not_joined_twice x y next h i reads = not_joined y next (joined_err x h i) reads
  where
    joined_err : {X Y : Type 0} (x : X) {e : Fault} {inner joint : Result (Y × Rest) Fault} → Err e ≡ both x inner → inner ≡ joint → Err e ≡ joint
    joined_err x {inner = Ok p} h i = cc
    joined_err x {e} {inner = Err e'} h i = let k : e ≡ e' = cc in ap Err k ∙ i

-- what is read with any room
pub at_room : {X : Type 0} {Left : Rest → Rest → Type 0} {x : X → Item} {s : Symbol} {start : Rest} {res : Result (X × Rest) Fault} (r : ℕ) → FlatReading Left x s start res → Reading Left x s r start res
at_room r h = record { reads = h.reads r; shorter = h.shorter }

-- several symbols that are read behind others, as part of one

fails_all : {s0 : Symbol} (S : List Symbol) (K : List Symbol → List Symbol) {r r' : ℕ} {ts ts' : List Element} {f : List Item → List Item} (e : Fault) →
    FailsIn S r' ts' e → ((k : List Symbol) (ds : List Item) (v : Verdict) → Out (S ++ K k) r' ts' ds v → Out (s0 ∷ k) r ts (f ds) v) → FailsAt s0 r ts e
fails_all S K fault.Memory h before = tt
fails_all S K {f = f} (fault.Wrong rest) h before = λ k. let o = h (K k) in (f o.0, before k o.0 _ o.1)
fails_all S K {f = f} (fault.Deep rest) h before = λ k. let o = h (K k) in (f o.0, before k o.0 _ o.1)

-- the exit by a `?` of what has read them
pub exit_all : {Left : Rest → Rest → Type 0} {s0 : Symbol} (S : List Symbol) (K : List Symbol → List Symbol) {r r' : ℕ} {start : Rest} {ts' : List Element} {f : List Item → List Item} {X : Type 0} (x : X → Item) (e : Fault)
    (res : Result (X × Rest) Fault) → IsErrAnd res (λ y. y ≡ e) → FailsIn S r' ts' e →
    ((k : List Symbol) (ds : List Item) (v : Verdict) → Out (S ++ K k) r' ts' ds v → Out (s0 ∷ k) r start.tokens.now (f ds) v) → Reading Left x s0 r start res
exit_all S K x e res is h before =
    let p = err_from_is_err_and res is in
    rw (p.1, p.2) (record { reads = fails_all S K e h before; shorter = tt })
