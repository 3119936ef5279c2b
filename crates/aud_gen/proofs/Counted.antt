-- Lengths are counted up to the largest number, and so are the ways out that they depend on.
use Rattle.std.proofs.Common.{◌≡◌, ℕ, suc, ◌+◌, ◌-◌, ◌<◌, ◌^◌, refl, arith}
use Rattle.std.specs.Prelude.{Result, Ok, Err, IfOk}
use Rattle.std.specs.declared.alloc.AllocError.{AllocError}
use Rattle.aud_typed.specs.Tree.{Statement, sequence, if_then, plain_loop, while_loop, for_loop, block, entry_call, accept, select, Part, nothing, some, Handlers, no_handlers, handler, Body, body, Alternatives, no_alternatives, accepting, delaying, terminating}
use Rattle.aud_layout.specs.Layout.{end_place_by, statement_size_by, part_size_by, handlers_size_by, body_size_by, offered_size_by}
use Rattle.aud_layout.specs.Written.{flat_step}
use Rattle.aud_gen.specs.Writes.{counted, Code, Finds}

-- the place behind so many lines, where that has not stopped at the largest number
pub exactly_behind : (r : Result ℕ AllocError) (place stopped whole : ℕ) → stopped ≡ counted whole → IfOk r (λ n. n ≡ place + stopped) → IfOk r (λ n. n < 2 ^ 64 - 1) → IfOk r (λ n. n ≡ place + whole)
exactly_behind (Ok n) place stopped whole e h less = omega arith
exactly_behind (Err refused) place stopped whole e h less = tt

-- numbers that are counted alike
abbrev Alike : ℕ → ℕ → Type 0
Alike n m = counted n ≡ counted m

-- as many ways lead out, as they are counted
mutual
  pub of_statement : (s : Statement) (n m : ℕ) → Alike n m → Alike (statement_size_by flat_step s n) (statement_size_by flat_step s m)
  of_statement (sequence a b) n m h = omega (arith, of_statement a n m h, of_statement b n m h)
  of_statement (plain_loop a) n m h = of_statement a (suc n) (suc m) (omega (arith, h))
  of_statement (if_then at c a p) n m h = omega (arith, of_statement a n m h, of_part p n m h)
  of_statement (while_loop at c a) n m h = omega (arith, of_statement a (suc n) (suc m) (omega (arith, h)))
  of_statement (for_loop f x y a) n m h = omega (arith, of_statement a (suc n) (suc m) (omega (arith, h)))
  of_statement (block at k b) n m h = omega (arith, h, of_body b n m h)
  of_statement (entry_call at c p q) n m h = omega (arith, of_part p n m h, of_part q n m h)
  of_statement (accept at k d) n m h = refl
  of_statement (select at offered p) n m h = omega (arith, of_offered offered n m h, of_part p n m h)
  of_statement s n m h = refl

  pub of_part : (p : Part) (n m : ℕ) → Alike n m → Alike (part_size_by flat_step p n) (part_size_by flat_step p m)
  of_part nothing n m h = refl
  of_part (some s) n m h = of_statement s n m h

  of_handlers : (hs : Handlers) (n m : ℕ) → Alike n m → Alike (handlers_size_by flat_step hs n) (handlers_size_by flat_step hs m)
  of_handlers no_handlers n m h = refl
  of_handlers (handler others choices s more) n m h = omega (arith, of_statement s n m h, of_handlers more n m h)

  of_body : (b : Body) (n m : ℕ) → Alike n m → Alike (body_size_by flat_step b n) (body_size_by flat_step b m)
  of_body (body d begin s hs end) n m h = omega (arith, of_part d n m h, of_statement s n m h, of_handlers hs n m h)

  pub of_offered : (offered : Alternatives) (n m : ℕ) → Alike n m → Alike (offered_size_by flat_step offered n) (offered_size_by flat_step offered m)
  of_offered no_alternatives n m h = refl
  of_offered (accepting g at k d p more) n m h = omega (arith, of_part p n m h, of_offered more n m h)
  of_offered (delaying g x p more) n m h = omega (arith, of_part p n m h, of_offered more n m h)
  of_offered (terminating g more) n m h = of_offered more n m h

pub of_end : (b : Body) (place n m : ℕ) → Alike n m → Alike (end_place_by flat_step b place n) (end_place_by flat_step b place m)
of_end (body d begin s hs end) place n m h = omega (arith, of_part d n m h, of_statement s n m h, of_handlers hs n m h)

-- what stands behind so many lines is found
pub found_behind : {old new : Code} (place result stopped whole : ℕ) → stopped ≡ counted whole → Finds old new ((result ≡ place + stopped) × (result < 2 ^ 64 - 1)) → Finds old new (result ≡ place + whole)
found_behind place result stopped whole e h = record {
  same = h.same;
  unless_refused = λ k. let it = h.unless_refused k in (it.0, omega (arith, it.1.0, it.1.1, e));
}

-- in a loop, out of which one way more leads
pub in_loop_counted : (s : Statement) (ways more : ℕ) → more ≡ counted (suc ways) → counted (statement_size_by flat_step s more) ≡ counted (statement_size_by flat_step s (suc ways))
in_loop_counted s ways more is = of_statement s more (suc ways) (omega (arith, is))
