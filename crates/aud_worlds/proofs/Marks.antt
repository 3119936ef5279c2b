-- The parcels that were sent out for a session, by its own numbers.
use Rattle.std.proofs.Common.{◌≡◌, ℕ, zero, suc, List, [], ◌∷◌, ◌++◌, length, Option, Some, None, Bool, true, false, refl, sym, ap, ◌∙◌, arith, append-nil}
use Rattle.aud_bench.specs.Seen.{Seen as Bench}
use Rattle.aud_hall.specs.Numbered.{put, one_on}
use Rattle.aud_hall.specs.Replies.{Reply, Accepted, Refused, Sent, Worked, Taken, Stranger, Answers, Nothing}
use Rattle.aud_hall.specs.Parcels.{Parcel, bench_of}
use Rattle.aud_worlds.specs.World.{parcel_at, parcels, out_after}
use Rattle.aud_worlds.specs.Session.{bench_at, own_parcels, without}
use Rattle.aud_worlds.specs.Mine.{marked, own_number, marks_of}

abbrev pub put_own : List (Option Bench) → Option ℕ → Option Bench → List (Option Bench)
put_own xs None y = xs
put_own xs (Some i) y = put xs i y

put_none : (o : Option ℕ) (y : Option Bench) → put_own [] o y ≡ []
put_none None y = refl
put_none (Some i) y = refl

put_later : (x : Option Bench) (xs : List (Option Bench)) (o : Option ℕ) (y : Option Bench) → x ∷ put_own xs o y ≡ put_own (x ∷ xs) (one_on o) y
put_later x xs None y = refl
put_later x xs (Some i) y = refl

pub marked_put : (ms : List Bool) (out : List (Option Parcel)) (n : ℕ) (y : Option Parcel) → marked ms (put out n y) ≡ put_own (marked ms out) (own_number ms n) (bench_of y)
marked_put [] out n y = refl
marked_put (m ∷ ms) [] n y = sym (put_none (own_number (m ∷ ms) n) (bench_of y))
marked_put (true ∷ ms) (x ∷ out) zero y = refl
marked_put (false ∷ ms) (x ∷ out) zero y = refl
marked_put (true ∷ ms) (x ∷ out) (suc n) y = ap (λ xs. bench_of x ∷ xs) (marked_put ms out n y) ∙ put_later (bench_of x) (marked ms out) (own_number ms n) (bench_of y)
marked_put (false ∷ ms) (x ∷ out) (suc n) y = marked_put ms out n y

pub marked_at : (ms : List Bool) (out : List (Option Parcel)) (n i : ℕ) → own_number ms n ≡ Some i → bench_at (marked ms out) i ≡ bench_of (parcel_at out n)
marked_at [] out n i e = absurd (cc)
marked_at (m ∷ ms) [] n i e = refl
marked_at (true ∷ ms) (x ∷ out) zero i e = by i (cc)
  where
    by : (i : ℕ) → i ≡ 0 → bench_at (bench_of x ∷ marked ms out) i ≡ bench_of x
    by zero e = refl
    by (suc i) e = absurd (omega arith)
marked_at (false ∷ ms) (x ∷ out) zero i e = absurd (cc)
marked_at (true ∷ ms) (x ∷ out) (suc n) i e = by (own_number ms n) i refl e (λ j f. marked_at ms out n j f)
  where
    by : (o : Option ℕ) (i : ℕ) → own_number ms n ≡ o → one_on o ≡ Some i → ((j : ℕ) → own_number ms n ≡ Some j → bench_at (marked ms out) j ≡ bench_of (parcel_at out n)) → bench_at (bench_of x ∷ marked ms out) i ≡ bench_of (parcel_at out n)
    by None i f e rest = absurd (cc)
    by (Some j) zero f e rest = absurd (let same : suc j ≡ 0 = cc in omega (arith, same))
    by (Some j) (suc i) f e rest = let same : suc j ≡ suc i = cc in let less : j ≡ i = omega (arith, same) in rest i (f ∙ ap Some less)
marked_at (false ∷ ms) (x ∷ out) (suc n) i e = marked_at ms out n i e

-- one parcel more
abbrev pub if_own : Bool → List (Option Bench) → List (Option Bench)
if_own true xs = xs
if_own false xs = []

marked_one : (ms : List Bool) (out : List (Option Parcel)) (m : Bool) (x : Option Parcel) → length ms ≡ length out → marked (ms ++ m ∷ []) (out ++ x ∷ []) ≡ marked ms out ++ if_own m (bench_of x ∷ [])
marked_one [] [] true x h = refl
marked_one [] [] false x h = refl
marked_one [] (y ∷ out) m x h = absurd (omega arith)
marked_one (n ∷ ms) [] m x h = absurd (omega arith)
marked_one (true ∷ ms) (y ∷ out) m x h = ap (λ xs. bench_of y ∷ xs) (marked_one ms out m x (omega (arith, h)))
marked_one (false ∷ ms) (y ∷ out) m x h = marked_one ms out m x (omega (arith, h))

none_own : (m : Bool) → if_own m [] ≡ []
none_own true = refl
none_own false = refl

pub marked_sent : (ms : List Bool) (out : List (Option Parcel)) (m : Bool) (j : ℕ) (gone : Option Bench) → length ms ≡ length out → marked (ms ++ marks_of m (Sent gone)) (out ++ parcels j gone) ≡ marked ms out ++ if_own m (own_parcels gone)
marked_sent ms out m j None h =
    ap (λ xs. marked xs (out ++ [])) (append-nil ms) ∙ ap (marked ms) (append-nil out) ∙ sym (append-nil (marked ms out)) ∙ ap (λ xs. marked ms out ++ xs) (sym (none_own m))
marked_sent ms out m j (Some b) h = marked_one ms out m (Some (record { seat = j; bench = b })) h

-- one that may have been taken in
pub marked_out_after : (ms : List Bool) (out : List (Option Parcel)) (n : ℕ) (reply : Reply) → marked ms (out_after out n reply) ≡ without (marked ms out) (own_number ms n) reply
marked_out_after ms out n (Taken next) = marked_put ms out n None ∙ by (own_number ms n)
  where
    by : (o : Option ℕ) → put_own (marked ms out) o None ≡ without (marked ms out) o (Taken next)
    by None = refl
    by (Some i) = refl
marked_out_after ms out n Accepted = same (own_number ms n)
  where
    same : (o : Option ℕ) → marked ms out ≡ without (marked ms out) o Accepted
    same None = refl
    same (Some i) = refl
marked_out_after ms out n (Refused fault) = same (own_number ms n)
  where
    same : (o : Option ℕ) → marked ms out ≡ without (marked ms out) o (Refused fault)
    same None = refl
    same (Some i) = refl
marked_out_after ms out n (Sent gone) = same (own_number ms n)
  where
    same : (o : Option ℕ) → marked ms out ≡ without (marked ms out) o (Sent gone)
    same None = refl
    same (Some i) = refl
marked_out_after ms out n (Worked done left) = same (own_number ms n)
  where
    same : (o : Option ℕ) → marked ms out ≡ without (marked ms out) o (Worked done left)
    same None = refl
    same (Some i) = refl
marked_out_after ms out n (Stranger why) = same (own_number ms n)
  where
    same : (o : Option ℕ) → marked ms out ≡ without (marked ms out) o (Stranger why)
    same None = refl
    same (Some i) = refl
marked_out_after ms out n (Answers answers) = same (own_number ms n)
  where
    same : (o : Option ℕ) → marked ms out ≡ without (marked ms out) o (Answers answers)
    same None = refl
    same (Some i) = refl
marked_out_after ms out n Nothing = same (own_number ms n)
  where
    same : (o : Option ℕ) → marked ms out ≡ without (marked ms out) o Nothing
    same None = refl
    same (Some i) = refl
