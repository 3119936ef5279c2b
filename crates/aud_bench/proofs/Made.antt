-- How what is made of requests, and what they cost, grow with the requests and with the units.
use Rattle.std.specs.Prelude.{nat_le, if◌then◌else◌}
use Rattle.std.proofs.Common.{◌≡◌, ℕ, suc, ◌+◌, ◌-◌, ◌<◌, ◌≤◌, List, [], ◌∷◌, ◌++◌, length, Option, None, Bool, true, false, refl, ap, ◌∙◌, arith}
use Rattle.aud_text.specs.declared.limits.Limits.{Limits}
use Rattle.aud_bench.specs.declared.request.Request.{Request}
use Rattle.aud_bench.specs.declared.request.Answer.{Answer}
use Rattle.aud_bench.specs.Alone.{Loaded, replied, cost_from, cost, made_from, made}
use Rattle.aud_bench.specs.Ties.Standing.{answers_to}
use Rattle.aud_bench.specs.Why.Made.{MoreLaw, GrowsLaw, ShortLaw, CostLaw}
use Rattle.aud_bench.proofs.Serving.{costs_some}
use Rattle.aud_bench.proofs.Standing.{paid, unpaid}
use Rattle.aud_bench.proofs.Truths.{true_le, false_le}

if_case : (b : Bool) (x y z : List Answer) → (b ≡ true → x ≡ y) → (if b then x else z) ≡ (if b then y else z)
if_case true x y z h = h refl
if_case false x y z h = refl

module _ (limits : Limits) where
  none_made : (loaded : Option Loaded) (rs : List Request) → made_from limits loaded rs 0 ≡ []
  none_made loaded [] = refl
  none_made loaded (r ∷ rs) = unpaid limits (replied limits loaded r) 0 (λ next left. made_from limits next rs left) (omega (arith, costs_some limits r loaded))

  more_from : (loaded : Option Loaded) (journal more : List Request) (units : ℕ) → units ≤ cost_from limits loaded journal → made_from limits loaded (journal ++ more) units ≡ made_from limits loaded journal units
  more_from loaded [] more units h = let e : units ≡ 0 = omega arith in ap (made_from limits loaded more) e ∙ none_made loaded more
  more_from loaded (r ∷ rs) more units h =
      let reply = replied limits loaded r in
      if_case (nat_le reply.cost units) (reply.answer ∷ made_from limits reply.loaded (rs ++ more) (units - reply.cost)) (reply.answer ∷ made_from limits reply.loaded rs (units - reply.cost)) []
      (λ e.
      let within : reply.cost ≤ units = true_le reply.cost units e in
      ap (λ xs. reply.answer ∷ xs) (more_from reply.loaded rs more (units - reply.cost) (omega (arith, within, h))))

  grows_from : (loaded : Option Loaded) (rs : List Request) (units more : ℕ) → units ≤ more → (rest : List Answer) × (made_from limits loaded rs more ≡ made_from limits loaded rs units ++ rest)
  grows_from loaded [] units more h = ([], refl)
  grows_from loaded (r ∷ rs) units more h = by (nat_le (replied limits loaded r).cost units) refl (grows_from (replied limits loaded r).loaded rs (units - (replied limits loaded r).cost) (more - (replied limits loaded r).cost) (omega (arith, h)))
    where
      by : (b : Bool) → nat_le (replied limits loaded r).cost units ≡ b → ((rest : List Answer) × (made_from limits (replied limits loaded r).loaded rs (more - (replied limits loaded r).cost) ≡ made_from limits (replied limits loaded r).loaded rs (units - (replied limits loaded r).cost) ++ rest)) → (rest : List Answer) × (made_from limits loaded (r ∷ rs) more ≡ (if b then (replied limits loaded r).answer ∷ made_from limits (replied limits loaded r).loaded rs (units - (replied limits loaded r).cost) else []) ++ rest)
      by true e others =
          let within : (replied limits loaded r).cost ≤ units = true_le _ _ e in (
            others.0,
            paid limits (replied limits loaded r) more (more - (replied limits loaded r).cost) (λ next left. made_from limits next rs left) (omega (arith, within, h)) ∙ ap (λ xs. (replied limits loaded r).answer ∷ xs) others.1,
          )
      by false e others = (made_from limits loaded (r ∷ rs) more, refl)

  length_from : (loaded : Option Loaded) (rs : List Request) (units : ℕ) → length (made_from limits loaded rs units) ≤ length rs
  length_from loaded [] units = omega arith
  length_from loaded (r ∷ rs) units = by (nat_le (replied limits loaded r).cost units) (length_from (replied limits loaded r).loaded rs (units - (replied limits loaded r).cost))
    where
      by : (b : Bool) → length (made_from limits (replied limits loaded r).loaded rs (units - (replied limits loaded r).cost)) ≤ length rs → length (if b then (replied limits loaded r).answer ∷ made_from limits (replied limits loaded r).loaded rs (units - (replied limits loaded r).cost) else []) ≤ length (r ∷ rs)
      by true h = omega (arith, h)
      by false h = omega arith

  short_from : (loaded : Option Loaded) (rs : List Request) (units : ℕ) → units < cost_from limits loaded rs → length (made_from limits loaded rs units) < length rs
  short_from loaded [] units h = absurd (omega arith)
  short_from loaded (r ∷ rs) units h = by (nat_le (replied limits loaded r).cost units) refl (λ k. short_from (replied limits loaded r).loaded rs (units - (replied limits loaded r).cost) k)
    where
      by : (b : Bool) → nat_le (replied limits loaded r).cost units ≡ b → (units - (replied limits loaded r).cost < cost_from limits (replied limits loaded r).loaded rs → length (made_from limits (replied limits loaded r).loaded rs (units - (replied limits loaded r).cost)) < length rs) → length (if b then (replied limits loaded r).answer ∷ made_from limits (replied limits loaded r).loaded rs (units - (replied limits loaded r).cost) else []) < length (r ∷ rs)
      by true e rest =
          let within : (replied limits loaded r).cost ≤ units = true_le _ _ e in
          omega (arith, rest (omega (arith, within, h)))
      by false e rest = omega arith

  -- all units make all answers
  pub all_from : (loaded : Option Loaded) (rs : List Request) → made_from limits loaded rs (cost_from limits loaded rs) ≡ answers_to limits loaded rs
  all_from loaded [] = refl
  all_from loaded (r ∷ rs) =
      let reply = replied limits loaded r in
      paid limits reply (cost_from limits loaded (r ∷ rs)) (cost_from limits reply.loaded rs) (λ next left. made_from limits next rs left) (omega arith)
      ∙ ap (λ others. reply.answer ∷ others) (all_from reply.loaded rs)

  pub length_answers : (loaded : Option Loaded) (rs : List Request) → length (answers_to limits loaded rs) ≡ length rs
  length_answers loaded [] = refl
  length_answers loaded (r ∷ rs) = ap suc (length_answers (replied limits loaded r).loaded rs)

  cost_more_from : (loaded : Option Loaded) (journal more : List Request) → cost_from limits loaded journal + length more ≤ cost_from limits loaded (journal ++ more)
  cost_more_from loaded [] [] = omega arith
  cost_more_from loaded [] (r ∷ rs) = omega (arith, costs_some limits r loaded, cost_more_from (replied limits loaded r).loaded [] rs)
  cost_more_from loaded (r ∷ rs) more = omega (arith, cost_more_from (replied limits loaded r).loaded rs more)

-- requests that are given later change nothing of what is made
pub made_more : MoreLaw
unfolding made cost
made_more limits journal more units h = more_from limits None journal more units h

pub made_grows : GrowsLaw
unfolding made
made_grows limits journal units more h = grows_from limits None journal units more h

pub made_within : (limits : Limits) (journal : List Request) (units : ℕ) → length (made limits journal units) ≤ length journal
unfolding made
made_within limits journal units = length_from limits None journal units

pub made_short : (limits : Limits) (journal : List Request) (units : ℕ) → units < cost limits journal → length (made limits journal units) < length journal
unfolding made cost
made_short limits journal units h = short_from limits None journal units h

-- all of it, where all units are done
pub made_all : (limits : Limits) (journal : List Request) → length (made limits journal (cost limits journal)) ≡ length journal
unfolding made cost
made_all limits journal = ap length (all_from limits None journal) ∙ length_answers limits None journal

made_whole : (limits : Limits) (journal : List Request) (units : ℕ) → units ≡ cost limits journal → length (made limits journal units) ≡ length journal
made_whole limits journal units e = ap (λ n. length (made limits journal n)) e ∙ made_all limits journal

pub short_law : ShortLaw
short_law limits journal units = record {
  within = made_within limits journal units;
  fewer = made_short limits journal units;
  whole = made_whole limits journal units;
}

pub cost_more : CostLaw
unfolding cost
cost_more limits journal more = cost_more_from limits None journal more

pub none_done : (limits : Limits) → made limits [] 0 ≡ []
unfolding made
none_done limits = refl

-- some request is not answered: some units are left
pub some_left : (limits : Limits) (journal : List Request) (units : ℕ) → units ≤ cost limits journal → 1 ≤ length journal - length (made limits journal units) → units < cost limits journal
some_left limits journal units within some = by (nat_le (cost limits journal) units) refl
  where
    by : (b : Bool) → nat_le (cost limits journal) units ≡ b → units < cost limits journal
    by false e = false_le _ _ e
    by true e =
        let all = true_le _ _ e in
        let none = made_whole limits journal units (omega (arith, all, within)) in
        absurd (omega (arith, none, some))
