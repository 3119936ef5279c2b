-- The answers to requests that are kept are those of a private server.
use Rattle.std.specs.Prelude.{nat_le, ◌&&◌, if◌then◌else◌}
use Rattle.std.proofs.Common.{◌≡◌, ℕ, ◌+◌, ◌-◌, List, [], ◌∷◌, ◌++◌, length, Option, None, Bool, true, false, refl, sym, ap, ◌∙◌, arith, zero-add}
use Rattle.aud_text.specs.declared.limits.Limits.{Limits}
use Rattle.aud_bench.specs.declared.request.Request.{Request}
use Rattle.aud_bench.specs.declared.request.Answer.{Answer}
use Rattle.aud_bench.specs.Alone.{Loaded, Server, is_quit, fits, kept, fresh, replied, answers_from, alone, cost, made_from, made}
use Rattle.aud_bench.specs.Size.{size, bytes_of}
use Rattle.aud_bench.specs.Seen.{has_quit}
use Rattle.aud_bench.specs.Ties.Kept.{ends_there, kept_behind, is_kept, FrontLaw, WholeLaw}
use Rattle.aud_bench.specs.Ties.Standing.{answers_to}
use Rattle.aud_bench.proofs.Sessions.{last_one, goes_on}
use Rattle.aud_bench.proofs.Made.{all_from}
use Rattle.aud_bench.proofs.Truths.{and_left, and_right, and_both, or_left, or_right}

module _ (limits : Limits) where
  -- kept requests are answered one by one
  answers_kept : (s : Server) (journal : List Request) → kept_behind s.requests s.bytes journal ≡ true → answers_from limits s journal ≡ answers_to limits s.loaded journal
  answers_kept s [] h = refl
  answers_kept s (r ∷ rs) h =
      let others = ends_there (is_quit r) rs && kept_behind (s.requests + 1) (s.bytes + size r) rs in
      let fitting : fits s.requests s.bytes r ≡ true = and_left (fits s.requests s.bytes r) others h in
      let both : others ≡ true = and_right (fits s.requests s.bytes r) others h in
      by (is_quit r) rs refl (and_left (ends_there (is_quit r) rs) (kept_behind (s.requests + 1) (s.bytes + size r) rs) both)
      fitting (answers_kept (kept s r (replied limits s.loaded r).loaded) rs (and_right (ends_there (is_quit r) rs) (kept_behind (s.requests + 1) (s.bytes + size r) rs) both))
    where
      by : (b : Bool) (xs : List Request) → is_quit r ≡ b → ends_there (is_quit r) xs ≡ true → fits s.requests s.bytes r ≡ true → answers_from limits (kept s r (replied limits s.loaded r).loaded) xs ≡ answers_to limits (replied limits s.loaded r).loaded xs → answers_from limits s (r ∷ xs) ≡ answers_to limits s.loaded (r ∷ xs)
      by true [] e ends fitting rest = last_one limits s r [] fitting e
      by true (x ∷ xs) e ends fitting rest =
          let never : false ≡ true = sym (ap (λ b. ends_there b (x ∷ xs)) e) ∙ ends in
          absurd (cc)
      by false xs e ends fitting rest = goes_on limits s r xs fitting e ∙ ap (λ others. (replied limits s.loaded r).answer ∷ others) rest

  -- what is made is a front of the answers
  front : (loaded : Option Loaded) (journal : List Request) (units : ℕ) → (rest : List Answer) × (answers_to limits loaded journal ≡ made_from limits loaded journal units ++ rest)
  front loaded [] units = ([], refl)
  front loaded (r ∷ rs) units = by (nat_le (replied limits loaded r).cost units) (front (replied limits loaded r).loaded rs (units - (replied limits loaded r).cost))
    where
      by : (b : Bool) → ((rest : List Answer) × (answers_to limits (replied limits loaded r).loaded rs ≡ made_from limits (replied limits loaded r).loaded rs (units - (replied limits loaded r).cost) ++ rest)) → (rest : List Answer) × (answers_to limits loaded (r ∷ rs) ≡ (if b then (replied limits loaded r).answer ∷ made_from limits (replied limits loaded r).loaded rs (units - (replied limits loaded r).cost) else []) ++ rest)
      by true others = (others.0, ap (λ xs. (replied limits loaded r).answer ∷ xs) others.1)
      by false others = (answers_to limits loaded (r ∷ rs), refl)

pub front_law : FrontLaw
unfolding alone made
front_law limits journal units kept =
    let f = front limits None journal units in
    (f.0, answers_kept limits fresh journal kept ∙ f.1)

pub whole_law : WholeLaw
unfolding alone made cost
whole_law limits journal kept = answers_kept limits fresh journal kept ∙ sym (all_from limits None journal)

pub none_kept : is_kept [] ≡ true
none_kept = refl

kept_behind_more : (requests bytes : ℕ) (journal : List Request) (r : Request) → kept_behind requests bytes journal ≡ true → has_quit journal ≡ false → fits (requests + length journal) (bytes + bytes_of journal) r ≡ true → kept_behind requests bytes (journal ++ r ∷ []) ≡ true
kept_behind_more requests bytes [] r h going fitting =
    let n : requests + 0 ≡ requests = omega arith in
    let b : bytes + 0 ≡ bytes = omega arith in
    let here : fits requests bytes r ≡ true = sym (ap (λ k. fits k (bytes + 0) r) n ∙ ap (λ k. fits requests k r) b) ∙ fitting in
    and_both (fits requests bytes r) (ends_there (is_quit r) [] && true) here (and_both (ends_there (is_quit r) []) true (none (is_quit r)) refl)
  where
    none : (b : Bool) → ends_there b [] ≡ true
    none true = refl
    none false = refl
kept_behind_more requests bytes (x ∷ journal) r h going fitting =
    let rest = kept_behind (requests + 1) (bytes + size x) journal in
    let others = ends_there (is_quit x) journal && rest in
    let both : others ≡ true = and_right (fits requests bytes x) others h in
    let no_quit : is_quit x ≡ false = or_left (is_quit x) (has_quit journal) going in
    let n : requests + length (x ∷ journal) ≡ (requests + 1) + length journal = omega arith in
    let b : bytes + bytes_of (x ∷ journal) ≡ (bytes + size x) + bytes_of journal = omega arith in
    let fits_on : fits ((requests + 1) + length journal) ((bytes + size x) + bytes_of journal) r ≡ true =
    sym (ap (λ k. fits k (bytes + bytes_of (x ∷ journal)) r) n ∙ ap (λ k. fits ((requests + 1) + length journal) k r) b) ∙ fitting in
    let on = kept_behind_more (requests + 1) (bytes + size x) journal r (and_right (ends_there (is_quit x) journal) rest both) (or_right (is_quit x) (has_quit journal) going) fits_on in
    and_both (fits requests bytes x) (ends_there (is_quit x) (journal ++ r ∷ []) && kept_behind (requests + 1) (bytes + size x) (journal ++ r ∷ [])) (and_left (fits requests bytes x) others h)
    (and_both (ends_there (is_quit x) (journal ++ r ∷ [])) (kept_behind (requests + 1) (bytes + size x) (journal ++ r ∷ [])) (ap (λ q. ends_there q (journal ++ r ∷ [])) no_quit) on)

-- one request more that fits, behind requests of which none ends the session
pub kept_more : (journal : List Request) (r : Request) → is_kept journal ≡ true → has_quit journal ≡ false → fits (length journal) (bytes_of journal) r ≡ true → is_kept (journal ++ r ∷ []) ≡ true
kept_more journal r kept going fitting =
    kept_behind_more 0 0 journal r kept going (ap (λ n. fits n (0 + bytes_of journal) r) (zero-add (length journal)) ∙ ap (λ n. fits (length journal) n r) (zero-add (bytes_of journal)) ∙ fitting)
