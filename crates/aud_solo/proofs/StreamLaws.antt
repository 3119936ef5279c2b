-- What is left to read, what was read, and what stands there, over several calls.
use Rattle.std.proofs.Common.{◌≡◌, ℕ, List, [], ◌∷◌, ◌++◌, take, drop, Option, Some, None, refl, sym, ◌∙◌, ap, append_assoc, append-nil, subst}
use Rattle.std.proofs.lemmas.List.{take-append-drop}
use Rattle.std.proofs.lemmas.List.Folds.{concat-append}
use Rattle.std.specs.Io.KnownBytes.{Appends, Consumes, Keeps}
use Rattle.std.specs.List.{concat}
use Rattle.aud_solo.specs.Streams.{Grows, AppendsFirst, AppendsPrefix}

-- bytes are written, and then the writer is flushed
pub kept_behind : (a b c : Option (List ℕ)) (bytes : List ℕ) → Appends a b bytes → Keeps b c → Appends a c bytes
kept_behind None b c bytes h k = tt
kept_behind (Some xs) None c bytes h k = absurd h
kept_behind (Some xs) (Some ys) None bytes h k = absurd k
kept_behind (Some xs) (Some ys) (Some zs) bytes h k = k ∙ h

pub consumes_none : (a : Option (List ℕ)) → Consumes a a []
consumes_none None = tt
consumes_none (Some xs) = refl

pub keeps_consumes : (a b : Option (List ℕ)) → Keeps a b → Consumes a b []
keeps_consumes None b h = tt
keeps_consumes (Some xs) None h = absurd h
keeps_consumes (Some xs) (Some ys) h = sym h

pub consumes_more : (a b c : Option (List ℕ)) (xs ys : List ℕ) → Consumes a b xs → Consumes b c ys → Consumes a c (xs ++ ys)
consumes_more None b c xs ys h k = tt
consumes_more (Some all) None c xs ys h k = absurd h
consumes_more (Some all) (Some rest) None xs ys h k = absurd k
consumes_more (Some all) (Some rest) (Some end) xs ys h k = h ∙ ap (λ t. xs ++ t) k ∙ sym (append_assoc xs ys end)

-- some bytes are read, and then nothing
pub consumes_kept : (a b c : Option (List ℕ)) (xs : List ℕ) → Consumes a b xs → Keeps b c → Consumes a c xs
consumes_kept None b c xs h k = tt
consumes_kept (Some all) None c xs h k = absurd h
consumes_kept (Some all) (Some rest) None xs h k = absurd k
consumes_kept (Some all) (Some rest) (Some end) xs h k = h ∙ ap (λ t. xs ++ t) (sym k)

-- ---- pieces read

-- one piece more
pub concat_more : (pieces : List (List ℕ)) (piece : List ℕ) → concat (pieces ++ piece ∷ []) ≡ concat pieces ++ piece
concat_more pieces piece = concat-append pieces (piece ∷ []) ∙ ap (λ t. concat pieces ++ t) (append-nil piece)

pub reads_more : (old middle new pieces : List (List ℕ)) (piece : List ℕ) → middle ≡ old ++ pieces → new ≡ middle ++ piece ∷ [] → new ≡ old ++ (pieces ++ piece ∷ [])
reads_more old middle new pieces piece h k = k ∙ ap (λ t. t ++ piece ∷ []) h ∙ append_assoc old pieces (piece ∷ [])

-- ---- bytes written

pub appends_none : (a : Option (List ℕ)) → Appends a a []
appends_none None = tt
appends_none (Some xs) = sym (append-nil xs)

pub appends_more : (a b c : Option (List ℕ)) (xs ys : List ℕ) → Appends a b xs → Appends b c ys → Appends a c (xs ++ ys)
appends_more None b c xs ys h k = tt
appends_more (Some old) None c xs ys h k = absurd h
appends_more (Some old) (Some middle) None xs ys h k = absurd k
appends_more (Some old) (Some middle) (Some new) xs ys h k = k ∙ (ap (λ zs. zs ++ ys) h ∙ append_assoc old xs ys)

pub grows_none : (a : Option (List ℕ)) → Grows a a
grows_none a = ([], appends_none a)

pub grows_more : (a b c : Option (List ℕ)) → Grows a b → Grows b c → Grows a c
grows_more a b c (xs, h) (ys, k) = (xs ++ ys, appends_more a b c xs ys h k)

-- bytes are written, and then others
pub first_grown : (a b c : Option (List ℕ)) (xs : List ℕ) → Appends a b xs → Grows b c → AppendsFirst a c xs
first_grown a b c xs h (ys, k) = (ys, appends_more a b c xs ys h k)

pub first_more : (a b c : Option (List ℕ)) (xs : List ℕ) → AppendsFirst a b xs → Grows b c → AppendsFirst a c xs
first_more a b c xs (ys, h) (zs, k) = (ys ++ zs, subst (Appends a c) (append_assoc xs ys zs) (appends_more a b c (xs ++ ys) zs h k))

-- n bytes more are written
pub written_more : (old middle new : Option (List ℕ)) (bytes rest : List ℕ) (n : ℕ) → (some : List ℕ) × Appends old middle some × (bytes ≡ some ++ rest) →
    Appends middle new (take n rest) → (some : List ℕ) × Appends old new some × (bytes ≡ some ++ drop n rest)
written_more old middle new bytes rest n (some, h, e) k = (
  some ++ take n rest,
  appends_more old middle new some (take n rest) h k,
  e ∙ ap (λ t. some ++ t) (sym (take-append-drop n rest)) ∙ sym (append_assoc some (take n rest) (drop n rest)),
)

-- behind them a prefix of the others
pub written_front : (old middle new : Option (List ℕ)) (bytes rest : List ℕ) → (some : List ℕ) × Appends old middle some × (bytes ≡ some ++ rest) →
    AppendsPrefix middle new rest → AppendsPrefix old new bytes
written_front old middle new bytes rest (some, h, e) (xs, ys, k, f) =
    (some ++ xs, ys, appends_more old middle new some xs h k, e ∙ ap (λ t. some ++ t) f ∙ sym (append_assoc some xs ys))
