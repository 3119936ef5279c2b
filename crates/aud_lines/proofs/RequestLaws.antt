-- The first request of a stream, and the lines of a LOAD one by one.
use Rattle.std.proofs.Common.{◌≡◌, ℕ, zero, suc, ◌<◌, List, [], ◌∷◌, ◌++◌, Option, Some, None, refl, sym, ◌∙◌, ap, append-nil, append_assoc, arith}
use Rattle.std.specs.Option.{option_or}
use Rattle.std.specs.Prelude.{MatchOption}
use Rattle.aud_bench.specs.declared.request.BadRequest.{BadRequest}
use Rattle.aud_bench.specs.declared.request.Request.{Request}
use Rattle.aud_lines.specs.Lines.{lines_of, trimmed}
use Rattle.aud_lines.specs.Requests.{Command, Whole, Loads, command, line_fault, Reading, Ready, Gathering, first_fault, load_of, gathered, requests_from, requests}

-- what a first line leads to, by what the lines behind it are
abbrev pub led_to : Command → (Reading → List Request) → List Request
led_to (Whole r) others = r ∷ others Ready
led_to (Loads k) others = gathered k [] None others

pub requests_none : (bytes : List ℕ) → lines_of bytes ≡ [] → requests bytes ≡ []
unfolding requests
requests_none bytes e = ap (λ ls. requests_from ls Ready) e

pub after_first : (line : List ℕ) (lines : List (List ℕ)) → requests_from (line ∷ lines) Ready ≡ led_to (command line) (requests_from lines)
after_first line lines =
    elim (command line) as (λ d. (elim d as (λ _. List Request) [ Whole r ↦ r ∷ requests_from lines Ready | Loads k ↦ gathered k [] None (requests_from lines) ]) ≡ led_to d (requests_from lines)) [ Whole r ↦ refl | Loads k ↦ refl ]

pub requests_first : (bytes line rest : List ℕ) (c : Command) → lines_of bytes ≡ line ∷ lines_of rest → c ≡ command line → requests bytes ≡ led_to c (requests_from (lines_of rest))
unfolding requests
requests_first bytes line rest c e is =
    ap (λ ls. requests_from ls Ready) e ∙ (after_first line (lines_of rest) ∙ ap (λ d. led_to d (requests_from (lines_of rest))) (sym is))

pub first_of_two : (fault other : Option BadRequest) → option_or fault other ≡ first_fault fault other
first_of_two None other = refl
first_of_two (Some why) other = refl

-- one line more of a LOAD
pub gathered_more : (n m : ℕ) (before source : List ℕ) (fault : Option BadRequest) (bytes line rest : List ℕ) → n ≡ suc m → lines_of bytes ≡ line ∷ lines_of rest →
    gathered n (before ++ source) fault (requests_from (lines_of bytes)) ≡ gathered m (before ++ (source ++ (trimmed line ++ 10 ∷ []))) (option_or fault (line_fault line)) (requests_from (lines_of rest))
gathered_more n m before source fault bytes line rest left e =
    ap (λ k. gathered k (before ++ source) fault (requests_from (lines_of bytes))) left
    ∙ ap (λ ls. requests_from ls (Gathering (suc m) (before ++ source) fault)) e
    ∙ ap (λ f. gathered m ((before ++ source) ++ (trimmed line ++ 10 ∷ [])) f (requests_from (lines_of rest))) (sym (first_of_two fault (line_fault line)))
    ∙ ap (λ s. gathered m s (option_or fault (line_fault line)) (requests_from (lines_of rest))) (append_assoc before source (trimmed line ++ 10 ∷ []))

-- where no line comes, a LOAD that wants one is none
gathered_none : (n : ℕ) (source : List ℕ) (fault : Option BadRequest) (bytes : List ℕ) → 0 < n → lines_of bytes ≡ [] → gathered n source fault (requests_from (lines_of bytes)) ≡ []
gathered_none zero source fault bytes some e = absurd (omega arith)
gathered_none (suc n) source fault bytes some e = ap (λ ls. requests_from ls (Gathering (suc n) source fault)) e

-- so many lines have been gathered of a LOAD
module _ (k n : ℕ) (source : List ℕ) (fault : Option BadRequest) (bytes rest : List ℕ)
    (whole : (before more : List ℕ) → gathered k before None (requests_from (lines_of (bytes ++ more))) ≡ gathered n (before ++ source) fault (requests_from (lines_of (rest ++ more)))) where
  -- not all
  pub load_none : 0 < n → lines_of rest ≡ [] → gathered k [] None (requests_from (lines_of bytes)) ≡ []
  load_none some e =
      ap (λ xs. gathered k [] None (requests_from (lines_of xs))) (sym (append-nil bytes))
      ∙ whole [] []
      ∙ ap (λ xs. gathered n source fault (requests_from (lines_of xs))) (append-nil rest)
      ∙ gathered_none n source fault rest some e

  -- all
  pub load_all : n ≡ 0 → (more : List ℕ) → gathered k [] None (requests_from (lines_of (bytes ++ more))) ≡ load_of source fault ∷ requests (rest ++ more)
  unfolding requests
  load_all none more = whole [] more ∙ ap (λ m. gathered m source fault (requests_from (lines_of (rest ++ more)))) none

-- a request that the bytes begin, or none, where a LOAD is what they begin with
pub load_first : {X : Type 0} (o : Option X) (request : X → Request) (rest : X → List ℕ) (bytes behind : List ℕ) (n : ℕ) →
    ((more : List ℕ) → requests (bytes ++ more) ≡ gathered n [] None (requests_from (lines_of (behind ++ more)))) →
    MatchOption o (gathered n [] None (requests_from (lines_of behind)) ≡ [])
    (λ f. (more : List ℕ) → gathered n [] None (requests_from (lines_of (behind ++ more))) ≡ request f ∷ requests (rest f ++ more)) →
    MatchOption o (requests bytes ≡ []) (λ f. (more : List ℕ) → requests (bytes ++ more) ≡ request f ∷ requests (rest f ++ more))
load_first None request rest bytes behind n is none =
    ap requests (sym (append-nil bytes)) ∙ is [] ∙ ap (λ xs. gathered n [] None (requests_from (lines_of xs))) (append-nil behind) ∙ none
load_first (Some f) request rest bytes behind n is some = λ more. is more ∙ some more
