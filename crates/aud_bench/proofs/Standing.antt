-- Requests that are worked off one after the other come to what their answers cost together.
use Rattle.std.specs.Prelude.{nat_le, if◌then◌else◌}
use Rattle.std.proofs.Common.{◌≡◌, ℕ, ◌+◌, ◌-◌, ◌<◌, ◌≤◌, inl, List, [], ◌∷◌, ◌++◌, take, drop, Option, Some, None, true, refl, sym, ap, ◌∙◌, subst, arith, append-nil, take-append-drop}
use Rattle.aud_text.specs.declared.limits.Limits.{Limits}
use Rattle.aud_machine.specs.Shown.{Shown}
use Rattle.aud_bench.specs.declared.request.Request.{Request}
use Rattle.aud_bench.specs.declared.request.Request.TheVariants as request
use Rattle.aud_bench.specs.declared.request.Answer.{Answer}
use Rattle.aud_bench.specs.Alone.{Loaded, Reply, replied, cost_from, cost, made_after, made_from, made}
use Rattle.aud_bench.specs.Ties.Serving.{IsLoaded, UnderWay}
use Rattle.aud_bench.specs.Ties.Standing.{loaded_after, answers_to, units_done, AtFirst}
use Rattle.aud_bench.proofs.Serving.{costs_some}
use Rattle.aud_bench.proofs.Truths.{le_true, le_false}

module _ (limits : Limits) where
  pub cost_append : (loaded : Option Loaded) (past rest : List Request) → cost_from limits loaded (past ++ rest) ≡ cost_from limits loaded past + cost_from limits (loaded_after limits loaded past) rest
  cost_append loaded [] rest = omega arith
  cost_append loaded (r ∷ past) rest = omega (arith, cost_append (replied limits loaded r).loaded past rest)

  -- an answer that is paid for, and one that is not
  pub paid : (reply : Reply) (units left : ℕ) (others : Option Loaded → ℕ → List Answer) → units ≡ reply.cost + left → made_after reply units others ≡ reply.answer ∷ others reply.loaded left
  paid reply units left others e =
      let within : nat_le reply.cost units ≡ true = le_true reply.cost units (omega (arith, e)) in
      let rest : units - reply.cost ≡ left = omega (arith, e) in
      ap (λ b. if b then reply.answer ∷ others reply.loaded (units - reply.cost) else []) within ∙ ap (λ k. reply.answer ∷ others reply.loaded k) rest

  pub unpaid : (reply : Reply) (units : ℕ) (others : Option Loaded → ℕ → List Answer) → units < reply.cost → made_after reply units others ≡ []
  unpaid reply units others h = ap (λ b. if b then reply.answer ∷ others reply.loaded (units - reply.cost) else []) (le_false reply.cost units h)

  -- the answers to what is past, and those that the units left come to
  pub made_past : (loaded : Option Loaded) (past rest : List Request) (p : ℕ) → made_from limits loaded (past ++ rest) (cost_from limits loaded past + p) ≡ answers_to limits loaded past ++ made_from limits (loaded_after limits loaded past) rest p
  made_past loaded [] rest p =
      let e : 0 + p ≡ p = omega arith in
      ap (made_from limits loaded rest) e
  made_past loaded (r ∷ past) rest p =
      let reply = replied limits loaded r in
      paid reply (cost_from limits loaded (r ∷ past) + p) (cost_from limits reply.loaded past + p) (λ next left. made_from limits next (past ++ rest) left) (omega arith)
      ∙ ap (λ others. reply.answer ∷ others) (made_past reply.loaded past rest p)

  -- the first request is not paid for yet
  pub made_none : (loaded : Option Loaded) (rest : List Request) (p : ℕ) (machine : Option Shown) → AtFirst limits loaded rest p machine → made_from limits loaded rest p ≡ []
  made_none loaded [] p machine h = refl
  made_none loaded (r ∷ rest) p machine h = unpaid (replied limits loaded r) p (λ next left. made_from limits next rest left) h.unanswered

  -- what is done is at most what all requests cost
  pub within_cost : (loaded : Option Loaded) (rest : List Request) (p : ℕ) (machine : Option Shown) → AtFirst limits loaded rest p machine → p ≤ cost_from limits loaded rest
  within_cost loaded [] p machine h = omega (arith, h.0)
  within_cost loaded (r ∷ rest) p machine h = omega (arith, h.unanswered)

  -- nothing is done yet of requests before which the machine is loaded
  pub opens : (loaded : Option Loaded) (rest : List Request) (machine : Option Shown) → IsLoaded limits machine loaded → AtFirst limits loaded rest 0 machine
  opens loaded [] machine h = (refl, h)
  opens loaded (r ∷ rest) machine h = by r loaded h
    where
      some : (r : Request) (loaded : Option Loaded) → 0 < (replied limits loaded r).cost
      some r loaded = omega (arith, costs_some limits r loaded)

      by : (r : Request) (loaded : Option Loaded) → IsLoaded limits machine loaded → UnderWay limits r loaded 0 machine
      by (request.Load source) loaded h = record { unanswered = some (request.Load source) loaded; is_behind = h; stepped = tt }
      by request.Reset loaded h = record { unanswered = some request.Reset loaded; is_behind = h; stepped = tt }
      by (request.Run n) None h = record { unanswered = some (request.Run n) None; is_behind = h; stepped = tt }
      by (request.Run n) (Some l) h = record { unanswered = some (request.Run n) (Some l); is_behind = h; stepped = record { steps = omega arith; room = inl refl } }
      by (request.Step n) loaded h = record { unanswered = some (request.Step n) loaded; is_behind = h; stepped = tt }
      by (request.Choose choices) loaded h = record { unanswered = some (request.Choose choices) loaded; is_behind = h; stepped = tt }
      by (request.Advance milliseconds) loaded h = record { unanswered = some (request.Advance milliseconds) loaded; is_behind = h; stepped = tt }
      by request.Clock loaded h = record { unanswered = some request.Clock loaded; is_behind = h; stepped = tt }
      by (request.List listing) loaded h = record { unanswered = some (request.List listing) loaded; is_behind = h; stepped = tt }
      by request.Output loaded h = record { unanswered = some request.Output loaded; is_behind = h; stepped = tt }
      by (request.Seat number) loaded h = record { unanswered = some (request.Seat number) loaded; is_behind = h; stepped = tt }
      by request.Quit loaded h = record { unanswered = some request.Quit loaded; is_behind = h; stepped = tt }
      by (request.Bad why) loaded h = record { unanswered = some (request.Bad why) loaded; is_behind = h; stepped = tt }

  -- one request more at the end
  pub still_first : (loaded : Option Loaded) (rest : List Request) (r : Request) (p : ℕ) (machine : Option Shown) → AtFirst limits loaded rest p machine → AtFirst limits loaded (rest ++ r ∷ []) p machine
  still_first loaded [] r p machine h = subst (λ k. AtFirst limits loaded (r ∷ []) k machine) (sym h.0) (opens loaded (r ∷ []) machine h.1)
  still_first loaded (x ∷ rest) r p machine h = h

  pub loaded_append : (loaded : Option Loaded) (past rest : List Request) → loaded_after limits loaded (past ++ rest) ≡ loaded_after limits (loaded_after limits loaded past) rest
  loaded_append loaded [] rest = refl
  loaded_append loaded (r ∷ past) rest = loaded_append (replied limits loaded r).loaded past rest

  pub answers_append : (loaded : Option Loaded) (past rest : List Request) → answers_to limits loaded (past ++ rest) ≡ answers_to limits loaded past ++ answers_to limits (loaded_after limits loaded past) rest
  answers_append loaded [] rest = refl
  answers_append loaded (r ∷ past) rest = ap (λ others. (replied limits loaded r).answer ∷ others) (answers_append (replied limits loaded r).loaded past rest)

  -- the first requests are answered, and the next one is under way: that many units make those answers
  pub made_is : (journal : List Request) (answered p : ℕ) (machine : Option Shown) → AtFirst limits (loaded_after limits None (take answered journal)) (drop answered journal) p machine → made limits journal (units_done limits journal answered p) ≡ answers_to limits None (take answered journal)
  unfolding made cost
  made_is journal answered p machine h =
      let past = take answered journal in
      let rest = drop answered journal in
      ap (λ j. made_from limits None j (cost_from limits None past + p)) (sym (take-append-drop answered journal))
      ∙ made_past None past rest p
      ∙ ap (λ others. answers_to limits None past ++ others) (made_none (loaded_after limits None past) rest p machine h)
      ∙ append-nil (answers_to limits None past)

  -- all work is within the cost of all requests
  pub units_within : (journal : List Request) (answered p : ℕ) (machine : Option Shown) → AtFirst limits (loaded_after limits None (take answered journal)) (drop answered journal) p machine → units_done limits journal answered p ≤ cost limits journal
  unfolding cost
  units_within journal answered p machine h =
      let past = take answered journal in
      let rest = drop answered journal in
      let whole : cost_from limits None (past ++ rest) ≡ cost_from limits None journal = ap (cost_from limits None) (take-append-drop answered journal) in
      omega (arith, whole, cost_append None past rest, within_cost (loaded_after limits None past) rest p machine h)
