-- How much the lines of each part count together, where a statement's own line counts by the statement and every other is one.
use Rattle.std.proofs.Common.{◌≡◌, ℕ, suc, ◌+◌, List, [], ◌∷◌, ◌++◌, length, map, Option, Some, refl, ap, ◌∙◌, arith, length-append}
use Rattle.aud_text.specs.declared.place.Pos.{Pos}
use Rattle.aud_typed.specs.Tree.{Statement, sequence, if_then, plain_loop, while_loop, for_loop, block, entry_call, accept, select, Part, nothing, some, Handlers, no_handlers, handler, Body, body, Doing, without_do, with_do, Alternatives, no_alternatives, accepting, delaying, terminating}
use Rattle.aud_meaning.specs.declared.state.Construct.{Construct}
use Rattle.aud_meaning.specs.declared.state.Construct.TheVariants as construct
use Rattle.aud_code.specs.Places.{Way}
use Rattle.aud_layout.specs.Layout.{What, does, continues, guards, ends, leaves, Line, Around, in_loop, in_for, in_block, in_call, around_out, ways_count, statement_size_by, part_size_by, handlers_size_by, main_size_by, body_size_by, doing_size_by, offered_size_by, end_place_by, one_more, stubs, stub_ways, stubs_of, statement_code_by, part_code_by, handlers_code_by, body_code_by, doing_code_by, offered_code_by}

-- behind the end of a body is the place behind the body
pub last_is : (behind : Statement → ℕ → ℕ) (b : Body) (at e : ℕ) → suc (end_place_by behind b at e) ≡ at + body_size_by behind b e
last_is behind (body d begin s h end) at e = omega arith

-- How many ways lead out of what is inside.

length-stub_ways : (ws : List Way) (at : ℕ) → length (stub_ways ws at) ≡ length ws
length-stub_ways [] at = refl
length-stub_ways (w ∷ ws) at = ap suc (length-stub_ways ws (suc at))

length-more_ways : (ws : List Way) → length (map one_more ws) ≡ length ws
length-more_ways [] = refl
length-more_ways (w ∷ ws) = ap suc (length-more_ways ws)

pub count-block : (place last : ℕ) (a : Around) → ways_count (in_block place last a) ≡ ways_count a
count-block place last a = ap suc (length-stub_ways a.exits (suc last))

pub count-for : (place next : ℕ) (a : Around) → ways_count (in_for place next a) ≡ suc (ways_count a)
count-for place next a = ap (λ n. suc (suc n)) (length-more_ways a.exits)

module _ (behind : Statement → ℕ → ℕ) (adds : (s : Statement) (m n : ℕ) → behind s (m + n) ≡ behind s m + n) where
  abbrev pub counted : What → ℕ → ℕ
  counted (does s) n = behind s n
  counted (continues f) n = suc n
  counted (guards gs) n = suc n
  counted (ends c next) n = suc n
  counted (leaves n next) m = suc m

  abbrev pub total : List Line → ℕ
  total [] = 0
  total (l ∷ ls) = counted l.what (total ls)

  counted_more : (w : What) (m n : ℕ) → counted w (m + n) ≡ counted w m + n
  counted_more (does s) m n = adds s m n
  counted_more (continues f) m n = omega arith
  counted_more (guards gs) m n = omega arith
  counted_more (ends c next) m n = omega arith
  counted_more (leaves k next) m n = omega arith

  total-append : (a b : List Line) → total (a ++ b) ≡ total a + total b
  total-append [] b = omega arith
  total-append (l ∷ ls) b = ap (counted l.what) (total-append ls b) ∙ counted_more l.what (total ls) (total b)

  -- these lines count so much together
  pub record Total (lines : List Line) (n : ℕ) : Type 0 where
    pub is : total lines ≡ n

  no_lines : Total [] 0
  no_lines = record { is = refl }

  both : {a b : List Line} {m n : ℕ} → Total a m → Total b n → Total (a ++ b) (m + n)
  both {a} {b} h k = let e = h.is in let f = k.is in record { is = omega (arith, e, f, total-append a b) }

  -- a line, and what it and the others count
  one_and : (l : Line) {ls : List Line} {n : ℕ} → Total ls n → Total (l ∷ ls) (counted l.what n)
  one_and l h = record { is = ap (counted l.what) h.is }

  same : {ls : List Line} {m n : ℕ} → Total ls m → m ≡ n → Total ls n
  same h e = record { is = h.is ∙ e }

  total_stubs : (ws : List Way) (end : Pos) (within : Option ℕ) (at : ℕ) → Total (stubs ws end within at) (length ws)
  total_stubs [] end within at = no_lines
  total_stubs (w ∷ ws) end within at = one_and _ (total_stubs ws end within (suc at))

  total_stubs_of : (b : Body) (ws : List Way) (w : Way) (within : Option ℕ) (at : ℕ) → Total (stubs_of b (ws ++ w ∷ []) within at) (suc (length ws))
  total_stubs_of (body d begin s h end) ws w within at = same (total_stubs (ws ++ w ∷ []) end within at) (let n = length-append ws (w ∷ []) in omega (arith, n))

  -- what lines count does not depend on what is laid out behind a statement's own step
  module _ (laid : Statement → ℕ → ℕ) where
    mutual
      pub total-statement : (s : Statement) (at next : ℕ) (a : Around) → Total (statement_code_by laid s at next a) (statement_size_by behind s (ways_count a))
      total-statement (sequence x y) at next a = both (total-statement x at _ a) (total-statement y _ next a)
      total-statement (plain_loop x) at next a = total-statement x at at (in_loop next a)
      total-statement (if_then pos c x p) at next a = one_and _ (both (total-statement x _ next a) (total-part p _ next a))
      total-statement (while_loop pos c x) at next a = one_and _ (total-statement x _ at (in_loop next a))
      total-statement (for_loop f x y s) at next a = one_and _ (one_and _ (same (total-statement s _ _ (in_for at next a)) (ap (statement_size_by behind s) (count-for at next a))))
      total-statement (block pos n b) at next a =
          let first = laid (block pos n b) at in
          let end = end_place_by laid b first (ways_count a) in
          let inner = in_block at end a in
          one_and _ (both (same (total-body construct.Block b first next a.out inner) (ap (body_size_by behind b) (count-block at end a))) (total_stubs_of b a.exits a.back (Some at) (suc end)))
      total-statement (entry_call pos c p q) at next a = one_and _ (both (total-part p _ next a) (total-part q _ next a))
      total-statement (accept pos n d) at next a = one_and _ (total-doing d at _ next a.out)
      total-statement (select pos offered p) at next a = one_and _ (both (total-offered offered at _ next a) (total-part p _ next a))
      total-statement s at next a = one_and _ no_lines

      pub total-part : (p : Part) (at next : ℕ) (a : Around) → Total (part_code_by laid p at next a) (part_size_by behind p (ways_count a))
      total-part nothing at next a = no_lines
      total-part (some s) at next a = total-statement s at next a

      pub total-handlers : (h : Handlers) (at next : ℕ) (a : Around) → Total (handlers_code_by laid h at next a) (handlers_size_by behind h (ways_count a))
      total-handlers no_handlers at next a = no_lines
      total-handlers (handler others choices s more) at next a = both (total-statement s at next a) (total-handlers more _ next a)

      pub total-body : (c : Construct) (b : Body) (at next out : ℕ) (a : Around) → Total (body_code_by laid c b at next out a) (body_size_by behind b (ways_count a))
      total-body c (body d begin s h end) at next out a =
          let last = at + part_size_by laid d (ways_count a) + main_size_by laid s h (ways_count a) in
          both (total-part d at _ (around_out last a)) (both (total-statement s _ last (around_out _ a)) (one_and _ (both (total-handlers h _ last (around_out last a)) (one_and _ no_lines))))

      pub total-doing : (d : Doing) (opener at next out : ℕ) → Total (doing_code_by laid d opener at next out) (doing_size_by behind d)
      total-doing without_do opener at next out = no_lines
      total-doing (with_do n b) opener at next out = total-body construct.Accept b at next out (in_call (Some opener) (end_place_by laid b at 1))

      pub total-offered : (o : Alternatives) (opener at next : ℕ) (a : Around) → Total (offered_code_by laid o opener at next a) (offered_size_by behind o (ways_count a))
      total-offered no_alternatives opener at next a = no_lines
      total-offered (accepting g at n d p more) opener place next a = both (total-doing d opener place _ a.out) (both (total-part p _ next a) (total-offered more opener _ next a))
      total-offered (delaying g x p more) opener at next a = both (total-part p at next a) (total-offered more opener _ next a)
      total-offered (terminating g more) opener at next a = total-offered more opener at next a
