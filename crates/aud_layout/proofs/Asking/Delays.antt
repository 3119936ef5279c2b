-- The delays of open alternatives: the code goes over all alternatives, the meaning over those that are open.
use Rattle.std.proofs.Common.{◌≡◌, ℕ, suc, ◌+◌, ◌-◌, ◌<◌, ◌⊎◌, inl, inr, List, [], ◌∷◌, ◌++◌, length, Bool, true, false, Result, Ok, Err, nat_eq, if◌then◌else◌, refl, sym, ap, subst, ◌∙◌, arith, append_assoc, append-nil}
use Rattle.std.proofs.lemmas.Bool.Decides.{eqb_tells}
use Rattle.aud_text.specs.declared.raise.Raise.{Raise}
use Rattle.aud_typed.specs.Tree.{DelayExpression, BooleanExpression, Part, Alternatives, no_alternatives, accepting, delaying, terminating}
use Rattle.aud_meaning.specs.declared.state.OpenDelay.{OpenDelay}
use Rattle.aud_meaning.specs.Configuration.{Waits}
use Rattle.aud_meaning.specs.Evaluation.{Sight, with_value, delay_of, decided}
use Rattle.aud_meaning.specs.Control.{Scene}
use Rattle.aud_meaning.specs.Statements.{if_open, guards_from, delay_expression, timed_from, region_of}
use Rattle.aud_code.specs.Instruction.{Instruction, PassUnlessNext, SetTime, Operands, Ended}
use Rattle.aud_code.specs.Eval.{on_result, sees, eval, is_next, later}
use Rattle.aud_layout.specs.Instructions.{delay_code, timed_code, delays_code}
use Rattle.aud_layout.proofs.Asking.Evals.{then_value, Ends, passes, eval_delay}

-- these are open, of alternatives that are numbered from n on
abbrev pub Opens : ℕ → Alternatives → List OpenDelay → Type 0
Opens n no_alternatives ds = ds ≡ []
Opens n (accepting g at e d p more) ds = Opens (suc n) more ds
Opens n (delaying g e p more) ds = ((rest : List OpenDelay) × (ds ≡ record { alternative = n; time = 0 } ∷ rest) × Opens (suc n) more rest) ⊎ Opens (suc n) more ds
Opens n (terminating g more) ds = Opens (suc n) more ds

abbrev pub IfWaits : (Waits → Type 0) → Result Waits Raise → Type 0
IfWaits P (Ok w) = P w
IfWaits P (Err raise) = Unit {0}

guard_opens : (d : Result Bool Raise) (f : Waits → Waits) (r : Result Waits Raise) (P Q : Waits → Type 0) → IfWaits P r → ((w : Waits) → P w → Q w) → ((w : Waits) → P w → Q (f w)) → IfWaits Q (with_value d (λ b. if_open b f r))
guard_opens (Err raise) f r P Q h c o = tt
guard_opens (Ok false) f (Ok w) P Q h c o = c w h
guard_opens (Ok false) f (Err raise) P Q h c o = tt
guard_opens (Ok true) f (Ok w) P Q h c o = o w h
guard_opens (Ok true) f (Err raise) P Q h c o = tt

pub guards_open : (offered : Alternatives) (n : ℕ) (s : Sight) → IfWaits (λ w. Opens n offered w.delays) (guards_from n offered s)
guards_open no_alternatives n s = refl
guards_open (accepting g at e d p more) n s =
    guard_opens (decided g s) (λ w. record w { accepts = record { alternative = n; entry = e; at = at; region = region_of d } ∷ w.accepts }) (guards_from (suc n) more s) (λ w. Opens (suc n) more w.delays) (λ w. Opens (suc n) more w.delays) (guards_open more (suc n) s) (λ w h. h) (λ w h. h)
guards_open (delaying g e p more) n s =
    guard_opens (decided g s) (λ w. record w { delays = record { alternative = n; time = 0 } ∷ w.delays }) (guards_from (suc n) more s) (λ w. Opens (suc n) more w.delays) (λ w. Opens n (delaying g e p more) w.delays) (guards_open more (suc n) s) (λ w h. inr h) (λ w h. inl (w.delays, refl, h))
guards_open (terminating g more) n s =
    guard_opens (decided g s) (λ w. record w { terminate = true }) (guards_from (suc n) more s) (λ w. Opens (suc n) more w.delays) (λ w. Opens (suc n) more w.delays) (guards_open more (suc n) s) (λ w h. h) (λ w h. h)

-- with the expressions found in another way
abbrev pub timed_by : (ℕ → DelayExpression) → List OpenDelay → ℕ → Sight → Result (List OpenDelay) Raise
timed_by f [] clock s = Ok []
timed_by f (d ∷ ds) clock s = with_value (delay_of (f d.alternative) s) (λ ms. with_value (timed_by f ds clock s) (λ rest. Ok (record d { time = clock + ms } ∷ rest)))

pub same_timed : (ds : List OpenDelay) (offered : Alternatives) (clock : ℕ) (s : Sight) → timed_by (λ k. delay_expression k offered) ds clock s ≡ timed_from ds offered clock s
same_timed [] offered clock s = refl
same_timed (d ∷ ds) offered clock s = ap (λ r. with_value (delay_of (delay_expression d.alternative offered) s) (λ ms. with_value r (λ rest. Ok (record d { time = clock + ms } ∷ rest)))) (same_timed ds offered clock s)

-- an open delay is none of an alternative before
not_next : (offered : Alternatives) (m n : ℕ) (ds : List OpenDelay) → m < n → Opens n offered ds → is_next m ds ≡ false
not_next no_alternatives m n ds l h = ap (is_next m) h
not_next (accepting g at e d p more) m n ds l h = let l' : m < suc n = omega (arith, l) in not_next more m (suc n) ds l' h
not_next (terminating g more) m n ds l h = let l' : m < suc n = omega (arith, l) in not_next more m (suc n) ds l' h
not_next (delaying g e p more) m n ds l (inr h) = let l' : m < suc n = omega (arith, l) in not_next more m (suc n) ds l' h
not_next (delaying g e p more) m n ds l (inl h) = ap (is_next m) h.1 ∙ differs (eqb_tells n m)
  where
    differs : ((nat_eq n m ≡ true) × (n ≡ m)) ⊎ ((nat_eq n m ≡ false) × (n ≡ m → ⊥)) → nat_eq n m ≡ false
    differs (inr x) = x.0
    differs (inl x) = let e = x.1 in absurd (omega (arith, l, e))

is_next_self : (n : ℕ) → nat_eq n n ≡ true
is_next_self n = go (eqb_tells n n)
  where
    go : ((nat_eq n n ≡ true) × (n ≡ n)) ⊎ ((nat_eq n n ≡ false) × (n ≡ n → ⊥)) → nat_eq n n ≡ true
    go (inl x) = x.0
    go (inr x) = absurd (x.1 refl)

step : (n k : ℕ) → suc n + k ≡ n + suc k
step n k = omega arith

less : (k : ℕ) → suc (suc k) - 1 ≡ suc k
less k = omega arith

not_one : (k : ℕ) → nat_eq (suc (suc k)) 1 ≡ false
not_one k = go (eqb_tells (suc (suc k)) 1)
  where
    go : ((nat_eq (suc (suc k)) 1 ≡ true) × (suc (suc k) ≡ 1)) ⊎ ((nat_eq (suc (suc k)) 1 ≡ false) × (suc (suc k) ≡ 1 → ⊥)) → nat_eq (suc (suc k)) 1 ≡ false
    go (inl x) = let e = x.1 in absurd (omega (arith, e))
    go (inr x) = x.0

-- the expressions of the alternatives behind a delay
behind_delay : (g : BooleanExpression) (e : DelayExpression) (p : Part) (more : Alternatives) (n : ℕ) (f : ℕ → DelayExpression) → ((k : ℕ) → f (n + k) ≡ delay_expression (suc k) (delaying g e p more)) → (k : ℕ) → f (suc n + k) ≡ delay_expression (suc k) more
behind_delay g e p more n f found k =
    let a : delay_expression (suc (suc k)) (delaying g e p more) ≡ delay_expression (suc (suc k) - 1) more = ap (λ b. if b then e else delay_expression (suc (suc k) - 1) more) (not_one k) in
    let b : f (n + suc k) ≡ delay_expression (suc (suc k) - 1) more = found (suc k) ∙ a in
    ap f (step n k) ∙ b ∙ ap (λ j. delay_expression j more) (less k)

module _ (stops : Bool) (s : Scene) where
  -- with these delays left without a time
  abbrev pub left : List OpenDelay → Operands → Operands
  left ds o = record o { delay = 0; waits = record o.waits { delays = ds } }

  abbrev Timed : Operands → List Instruction → List OpenDelay → Ended
  Timed o rest ts = Ends stops s rest (record (left [] o) { timed = o.timed ++ ts })

  pub eval_delays : (offered : Alternatives) (n : ℕ) (f : ℕ → DelayExpression) (ds : List OpenDelay) (rest : List Instruction) (o : Operands) → Opens n offered ds → ((k : ℕ) → f (n + k) ≡ delay_expression (suc k) offered) → Ends stops s (delays_code n offered ++ rest) (left ds o) ≡ on_result (timed_by f ds s.clock (sees stops s o)) (λ ts. Ends stops s rest (record (left [] o) { timed = o.timed ++ ts }))
  eval_delays no_alternatives n f ds rest o h found =
      subst (λ ds. Ends stops s rest (left ds o) ≡ on_result (timed_by f ds s.clock (sees stops s o)) (Timed o rest)) (sym h) (ap (λ ts. Ends stops s rest (record (left [] o) { timed = ts })) (sym (append-nil o.timed)))
  eval_delays (accepting g at e d p more) n f ds rest o h found = eval_delays more (suc n) f ds rest o h (λ k. ap f (step n k) ∙ found (suc k) ∙ ap (λ j. delay_expression j more) (less k))
  eval_delays (terminating g more) n f ds rest o h found = eval_delays more (suc n) f ds rest o h (λ k. ap f (step n k) ∙ found (suc k) ∙ ap (λ j. delay_expression j more) (less k))
  eval_delays (delaying g e p more) n f ds rest o (inr h) found =
      let cs = delays_code (suc n) more in
      let ct = timed_code n e in
      let flat : delays_code n (delaying g e p more) ++ rest ≡ PassUnlessNext n (length ct) ∷ (ct ++ (cs ++ rest)) = simp append_assoc in
      let l : n < suc n = omega arith in
      ap (λ is. Ends stops s is (left ds o)) flat
      ∙ ap (λ b. if b then Ends stops s (ct ++ (cs ++ rest)) (left (later ds) o) else eval stops s (ct ++ (cs ++ rest)) (length ct) (left ds o)) (not_next more n (suc n) ds l h)
      ∙ passes stops s ct (cs ++ rest) (left ds o) ∙ eval_delays more (suc n) f ds rest o h (λ k. behind_delay g e p more n f found k)
  eval_delays (delaying g e p more) n f ds rest o (inl h) found =
      let cs = delays_code (suc n) more in
      let ct = timed_code n e in
      let d : OpenDelay = record { alternative = n; time = 0 } in
      let others = h.0 in
      let flat : delays_code n (delaying g e p more) ++ rest ≡ PassUnlessNext n (length ct) ∷ (ct ++ (cs ++ rest)) = simp append_assoc in
      let timed_flat : ct ++ (cs ++ rest) ≡ delay_code e ++ (SetTime n ∷ (cs ++ rest)) = simp append_assoc in
      let is_e : f n ≡ e = ap f (sym (none_more n)) ∙ found 0 in
      let tail = timed_by f others s.clock (sees stops s o) in
      let o' = left others o in
      subst (λ ds. Ends stops s (delays_code n (delaying g e p more) ++ rest) (left ds o) ≡ on_result (timed_by f ds s.clock (sees stops s o)) (Timed o rest)) (sym h.1)
      (ap (λ is. Ends stops s is (left (d ∷ others) o)) flat
      ∙ ap (λ b. if b then Ends stops s (ct ++ (cs ++ rest)) o' else eval stops s (ct ++ (cs ++ rest)) (length ct) (left (d ∷ others) o)) (is_next_self n)
      ∙ ap (λ is. Ends stops s is o') timed_flat
      ∙ then_value (delay_of e (sees stops s o)) (λ ms. with_value tail (λ ts. Ok (record d { time = s.clock + ms } ∷ ts))) (Timed o rest) (λ ms. Ends stops s (SetTime n ∷ (cs ++ rest)) (record o' { delay = ms })) _ (eval_delay stops s e (SetTime n ∷ (cs ++ rest)) o') (λ ms.
      then_value tail (λ ts. Ok (record d { time = s.clock + ms } ∷ ts)) (Timed o rest) (λ ts. Ends stops s rest (record (left [] o) { timed = (o.timed ++ record d { time = s.clock + ms } ∷ []) ++ ts })) _
      (eval_delays more (suc n) f others rest (record o { timed = o.timed ++ record d { time = s.clock + ms } ∷ [] }) h.2 (λ k. behind_delay g e p more n f found k))
      (λ ts. ap (λ ts. Ends stops s rest (record (left [] o) { timed = ts })) (append_assoc o.timed (record d { time = s.clock + ms } ∷ []) ts)))
      ∙ ap (λ x. on_result (with_value (delay_of x (sees stops s o)) (λ ms. with_value tail (λ ts. Ok (record d { time = s.clock + ms } ∷ ts)))) (Timed o rest)) (sym is_e))
    where
      none_more : (n : ℕ) → n + 0 ≡ n
      none_more n = omega arith
