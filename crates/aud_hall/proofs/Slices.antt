-- What a bench promises of its slices is what a slice is here.
use Rattle.std.specs.Prelude.{min, ◌||◌, if◌then◌else◌}
use Rattle.std.proofs.Common.{◌≡◌, ℕ, ◌+◌, ◌<◌, Option, Some, None, Bool, true, false, refl, sym, ap, ◌∙◌, arith}
use Rattle.aud_bench.specs.Seen.{Seen as Bench}
use Rattle.aud_hall.specs.Slices.{sliced, done, lesser, until, is_cut}
use Rattle.aud_hall.specs.Ties.Said.{cut_in}
use Rattle.aud_hall.proofs.Truths.{lt_true}

-- the clauses of a slice of so many units, which did d of them
pub record IsSlice (units : ℕ) (b after : Bench) (d : ℕ) : Type 0 where
  pub limits : after.limits ≡ b.limits
  pub journal : after.journal ≡ b.journal
  pub taken : after.taken ≡ b.taken
  pub units_are : after.units ≡ b.units + d
  pub spent : b.spent ≡ true → (after.spent ≡ true) × (d ≡ 0)
  pub exact : after.spent ≡ false → d ≡ lesser units b
  pub cut : b.spent ≡ false → after.spent ≡ true → d < lesser units b

pub same_bench : (x y : Bench) → x.limits ≡ y.limits → x.journal ≡ y.journal → x.units ≡ y.units → x.taken ≡ y.taken → x.spent ≡ y.spent → x ≡ y
same_bench x y l j u t c =
    ap (λ v. record { limits = v; journal = x.journal; units = x.units; taken = x.taken; spent = x.spent }) l
    ∙ ap (λ v. record { limits = y.limits; journal = v; units = x.units; taken = x.taken; spent = x.spent }) j
    ∙ ap (λ v. record { limits = y.limits; journal = y.journal; units = v; taken = x.taken; spent = x.spent }) u
    ∙ ap (λ v. record { limits = y.limits; journal = y.journal; units = y.units; taken = v; spent = x.spent }) t
    ∙ ap (λ v. record { limits = y.limits; journal = y.journal; units = y.units; taken = y.taken; spent = v }) c

pub slice_is : (units : ℕ) (b after : Bench) (d : ℕ) → IsSlice units b after d → (after ≡ sliced units (cut_in after.spent d) b) × (d ≡ done units (cut_in after.spent d) b)
slice_is units b after d s = by b.spent after.spent refl refl
  where
    done_is : (o : Option ℕ) → d ≡ done units o b → (b.spent || is_cut o (lesser units b)) ≡ after.spent → (after ≡ sliced units o b) × (d ≡ done units o b)
    done_is o e c = (same_bench after (sliced units o b) s.limits s.journal (s.units_are ∙ ap (λ k. b.units + k) e) s.taken (sym c), e)

    by : (c c' : Bool) → b.spent ≡ c → after.spent ≡ c' → (after ≡ sliced units (cut_in c' d) b) × (d ≡ done units (cut_in c' d) b)
    by true true e f = done_is (Some d) ((s.spent e).1 ∙ sym (ap (λ c. if c then 0 else until (Some d) (lesser units b)) e)) (ap (λ c. c || is_cut (Some d) (lesser units b)) e ∙ sym f)
    by true false e f = let never = (s.spent e).0 in absurd (cc)
    by false false e f = done_is None (s.exact f ∙ sym (ap (λ c. if c then 0 else until None (lesser units b)) e)) (ap (λ c. c || is_cut None (lesser units b)) e ∙ sym f)
    by false true e f =
        let less = s.cut e f in
        let least : min d (lesser units b) ≡ d = omega (arith, less) in
        done_is (Some d) (sym (ap (λ c. if c then 0 else until (Some d) (lesser units b)) e ∙ least)) (ap (λ c. c || is_cut (Some d) (lesser units b)) e ∙ lt_true d (lesser units b) less ∙ sym f)
