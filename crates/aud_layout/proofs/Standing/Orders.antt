-- What orders do: wherever a task stands, its place in code and what it has left to do stay together.
use Rattle.std.proofs.Common.{◌≡◌, ℕ, zero, suc, ◌+◌, List, [], ◌∷◌, ◌++◌, refl, sym, ap, subst, slice_get, Some}
use Rattle.aud_typed.specs.Tree.{Statement, sequence, declare, if_then, plain_loop, while_loop, for_loop, block, entry_call, select, Body, body, Alternatives, no_alternatives, accepting, delaying, terminating}
use Rattle.aud_meaning.specs.declared.state.Construct.TheVariants as construct
use Rattle.aud_meaning.specs.Configuration.{Item, Do, InLoop, InFor}
use Rattle.aud_meaning.specs.Items.{before, body_before, takes_by, follows, one_part, accepts_offer, part_in, offer_at, place}
use Rattle.aud_code.specs.Places.{goes_there}
use Rattle.aud_layout.specs.Layout.{Line, Around, in_loop, in_for, in_block, ways_count, part_size, doing_size, end_place, end_line, stubs, stubs_of, line, statement_code, part_code, part_place, parts_from, bodies_from, body_code, offered_code, Code, line_at}
use Rattle.aud_layout.specs.Shows.{HasAt, IsStep, EndsAt, Stands, ShowsControl}
use Rattle.aud_layout.proofs.Standing.Places.{has_front, has_back, has_tail, has_moved, has_same, offer_has, line_is, length-statement, length-part, length-offered}
use Rattle.aud_layout.proofs.Standing.Sizes.{count-block}
use Rattle.aud_layout.proofs.Standing.Control.{First, at_place, enters, resumes, body_stands, before_stands, part_stands, has_end, doing_stands}

module _ (code : Code) where
  -- the line where the next item stands
  pub step_line : (s : Statement) (around : Around) (place next : ℕ) → IsStep s → HasAt code.lines place (statement_code s place next around) → (f : First s place next around) → line_at code place ≡ line s f.ways f.bodies f.out around
  step_line s around place next is has f = line_is code place (line s f.ways f.bodies f.out around) f.more (has_same code.lines place _ _ f.is has)

  -- in a block or a loop
  pub block_stands : (b : Body) (outer : Around) (opener place next : ℕ) (returns : List ℕ) (rest : List Item) → HasAt code.lines place (body_code construct.Block b place next outer.out (in_block opener (end_place b place (ways_count outer)) outer) ++ stubs_of b (outer.exits ++ outer.back ∷ []) (Some opener) (suc (end_place b place (ways_count outer)))) → Stands code outer next returns rest → ShowsControl code (at_place code place returns) (body_before construct.Block b rest)
  block_stands (body d begin s h end) outer opener place next returns rest has st =
      let b = body d begin s h end in
      let last = end_place b place (ways_count outer) in
      let inner = in_block opener last outer in
      let same : end_place b place (ways_count inner) ≡ last = ap (end_place b place) (count-block opener last outer) in
      let tail = stubs (outer.exits ++ outer.back ∷ []) end (Some opener) (suc last) in
      let ends = has_moved code.lines (end_place b place (ways_count inner)) last (end_line construct.Block end next outer.out (Some opener) ∷ tail) same (has_end code construct.Block d begin s h end place next outer.out inner tail has) in
      let at_end : EndsAt construct.Block (λ a p rs. Stands code a p rs rest) code end inner.exits inner.back inner.within last returns rest = (next, outer, refl, refl, ends, st) in
      body_stands code returns construct.Block b inner place next outer.out rest (has_front code.lines place (body_code construct.Block b place next outer.out inner) tail has)
      (subst (λ p. EndsAt construct.Block (λ a p rs. Stands code a p rs rest) code end inner.exits inner.back inner.within p returns rest) (sym same) at_end)

  module _ (returns : List ℕ) where
    -- where a way leads
    abbrev pub Leads : ℕ → List ℕ → ℕ → List Item → Type 0
    Leads place ways n items = ShowsControl code (goes_there (slice_get ways n) (at_place code place returns)) items

    -- a statement with one way
    one_way : (s : Statement) (around : Around) (place next : ℕ) (rest : List Item) → IsStep s → HasAt code.lines place (statement_code s place next around) → Stands code around next returns rest → (n : ℕ) → Leads place (next ∷ []) n (follows (one_part n) s rest)
    one_way s around place next rest is has st zero = resumes code returns rest around next st
    one_way s around place next rest is has st (suc n) = record { around = around; stands = (next, has, st); settled = is }

    -- what follows an alternative of a selective accept, and what its accept does
    abbrev pub OfferStands : Alternatives → Statement → Around → ℕ → ℕ → ℕ → List Item → ℕ → Type 0
    OfferStands offered s around place at next rest n =
        Leads place (parts_from offered at next (ways_count around)) n (follows (part_in (offer_at offered n)) s rest)
        × Leads place (bodies_from offered at next (ways_count around)) n (accepts_offer (offer_at offered n) s rest)

    pub offers : (offered : Alternatives) (s : Statement) (around : Around) (place at next : ℕ) (rest : List Item) → ShowsControl code (at_place code place returns) (Do s ∷ rest) → HasAt code.lines at (offered_code offered place at next around) → Stands code around next returns rest → (n : ℕ) → OfferStands offered s around place at next rest n
    offers no_alternatives s around place at next rest all has st n = (all, all)
    offers (accepting g pos m d p more) s around place at next rest all has st zero =
        let after = at + doing_size d in
        let it = offer_has code.lines d p more place at next around has in (
          part_stands code returns p around after next rest it.part st,
          doing_stands code returns d around place at (part_place p after next) (before p rest) it.doing (before_stands code returns p around after next rest it.part st),
        )
    offers (accepting g pos m d p more) s around place at next rest all has st (suc n) =
        let it = offer_has code.lines d p more place at next around has in
        offers more s around place _ next rest all it.others st n
    offers (delaying g x p more) s around place at next rest all has st zero =
        let part = part_stands code returns p around at next rest (has_front code.lines at (part_code p at next around) _ has) st in
        (part, part)
    offers (delaying g x p more) s around place at next rest all has st (suc n) =
        offers more s around place _ next rest all (has_back code.lines at (part_size p (ways_count around)) (part_code p at next around) _ (length-part p at next around) has) st n
    offers (terminating g more) s around place at next rest all has st zero =
        let behind = resumes code returns rest around next st in
        (behind, behind)
    offers (terminating g more) s around place at next rest all has st (suc n) = offers more s around place at next rest all has st n

    abbrev pub Taken : Statement → ℕ → List Item → ℕ → Type 0
    Taken s place rest n = Leads place (line_at code place).ways n (takes_by s n rest)

    by_line : (place : ℕ) (l : Line) (n : ℕ) (items : List Item) → line_at code place ≡ l → Leads place l.ways n items → Leads place (line_at code place).ways n items
    by_line place l n items e h = subst (λ x. Leads place x.ways n items) (sym e) h

    pub takes_do : (s : Statement) (around : Around) (place next : ℕ) (rest : List Item) → IsStep s → HasAt code.lines place (statement_code s place next around) → Stands code around next returns rest → (n : ℕ) → Taken s place rest n
    takes_do (sequence x y) around place next rest is has st n = absurd is
    takes_do (plain_loop x) around place next rest is has st n = absurd is
    takes_do (declare pos m e) around place next rest is has st zero = by_line place _ zero _ (line_is code place _ _ has) (resumes code returns rest around next st)
    takes_do (declare pos m e) around place next rest is has st (suc zero) = by_line place _ 1 _ (line_is code place _ _ has) (record { around = around; stands = (next, has, st); settled = tt })
    takes_do (declare pos m e) around place next rest is has st (suc (suc n)) = by_line place _ (suc (suc n)) _ (line_is code place _ _ has) (record { around = around; stands = (next, has, st); settled = tt })
    takes_do (if_then pos c x p) around place next rest is has st zero =
        by_line place _ zero _ (line_is code place _ _ has) (part_stands code returns p around _ next rest (has_back code.lines (suc place) _ _ _ (length-statement x (suc place) next around) (has_tail code.lines place _ _ has)) st)
    takes_do (if_then pos c x p) around place next rest is has st (suc zero) =
        by_line place _ 1 _ (line_is code place _ _ has) (enters code returns x around (suc place) next rest (has_front code.lines (suc place) (statement_code x (suc place) next around) _ (has_tail code.lines place _ _ has)) st)
    takes_do (if_then pos c x p) around place next rest is has st (suc (suc n)) = by_line place _ (suc (suc n)) _ (line_is code place _ _ has) (record { around = around; stands = (next, has, st); settled = tt })
    takes_do (while_loop pos c x) around place next rest is has st zero = by_line place _ zero _ (line_is code place _ _ has) (resumes code returns rest around next st)
    takes_do (while_loop pos c x) around place next rest is has st (suc zero) =
        by_line place _ 1 _ (line_is code place _ _ has) (enters code returns x (in_loop next around) (suc place) place (InLoop (while_loop pos c x) ∷ rest) (has_tail code.lines place _ _ has) (next, around, refl, has, st))
    takes_do (while_loop pos c x) around place next rest is has st (suc (suc n)) = by_line place _ (suc (suc n)) _ (line_is code place _ _ has) (record { around = around; stands = (next, has, st); settled = tt })
    takes_do (for_loop f x y b) around place next rest is has st zero = by_line place _ zero _ (line_is code place _ _ has) (resumes code returns rest around next st)
    takes_do (for_loop f x y b) around place next rest is has st (suc zero) =
        by_line place _ 1 _ (line_is code place _ _ has)
        (enters code returns b (in_for place next around) (suc (suc place)) (suc place) (InFor (for_loop f x y b) ∷ rest) (has_tail code.lines (suc place) _ _ (has_tail code.lines place _ _ has)) (next, around, place, refl, refl, tt, has, st))
    takes_do (for_loop f x y b) around place next rest is has st (suc (suc n)) = by_line place _ (suc (suc n)) _ (line_is code place _ _ has) (record { around = around; stands = (next, has, st); settled = tt })
    takes_do (block pos m b) around place next rest is has st zero = by_line place _ zero _ (line_is code place _ _ has) (resumes code returns rest around next st)
    takes_do (block pos m b) around place next rest is has st (suc zero) = by_line place _ 1 _ (line_is code place _ _ has) (block_stands b around place (suc place) next returns rest (has_tail code.lines place _ _ has) st)
    takes_do (block pos m b) around place next rest is has st (suc (suc n)) = by_line place _ (suc (suc n)) _ (line_is code place _ _ has) (record { around = around; stands = (next, has, st); settled = tt })
    takes_do (entry_call pos c p q) around place next rest is has st zero =
        by_line place _ zero _ (line_is code place _ _ has) (part_stands code returns p around (suc place) next rest (has_front code.lines (suc place) (part_code p (suc place) next around) _ (has_tail code.lines place _ _ has)) st)
    takes_do (entry_call pos c p q) around place next rest is has st (suc zero) =
        by_line place _ 1 _ (line_is code place _ _ has) (part_stands code returns q around _ next rest (has_back code.lines (suc place) _ (part_code p (suc place) next around) _ (length-part p (suc place) next around) (has_tail code.lines place _ _ has)) st)
    takes_do (entry_call pos c p q) around place next rest is has st (suc (suc n)) = by_line place _ (suc (suc n)) _ (line_is code place _ _ has) (record { around = around; stands = (next, has, st); settled = tt })
    takes_do (select pos offered p) around place next rest is has st zero =
        by_line place _ zero _ (line_is code place _ _ has) (part_stands code returns p around _ next rest (has_back code.lines (suc place) _ (offered_code offered place (suc place) next around) _ (length-offered offered place (suc place) next around) (has_tail code.lines place _ _ has)) st)
    takes_do (select pos offered p) around place next rest is has st (suc n) =
        let all : ShowsControl code (at_place code place returns) (Do (select pos offered p) ∷ rest) = record { around = around; stands = (next, has, st); settled = tt } in
        let it = offers offered (select pos offered p) around place (suc place) next rest all (has_front code.lines (suc place) (offered_code offered place (suc place) next around) _ (has_tail code.lines place _ _ has)) st n in
        by_line place _ (suc n) _ (line_is code place _ _ has) it.0
    takes_do s around place next rest is has st way = by_line place _ way _ (line_is code place _ _ has) (one_way s around place next rest tt has st way)
