-- The code of a program is its layout with the places of instructions: each place of the layout moves to where its step begins.
use Rattle.std.proofs.Common.{◌≡◌, ℕ, suc, ◌+◌, List, [], ◌∷◌, ◌++◌, map, Some, None, refl, sym, ap, ◌∙◌, append-nil}
use Rattle.aud_typed.specs.Tree.{Statement, sequence, declare, if_then, plain_loop, while_loop, for_loop, exit, return, return_value, block, entry_call, accept, select, Part, nothing, some, Handlers, no_handlers, handler, Body, body, Doing, without_do, with_do, Alternatives, no_alternatives, accepting, delaying, terminating, requeue}
use Rattle.aud_meaning.specs.declared.state.Construct.{Construct}
use Rattle.aud_meaning.specs.declared.state.Construct.TheVariants as construct
use Rattle.aud_meaning.specs.Items.{no_body}
use Rattle.aud_layout.specs.Layout.{one_line, Line, Around, in_loop, in_for, in_block, in_call, around_out, ways_count, statement_size, part_size, body_size, doing_size, main_size, end_place, part_place, stubs_of, statement_code, part_code, handlers_code, body_code, doing_code, offered_code, unit_code, units_code, starts_from, spare_from, body_size_by, end_place_by, statement_code_by, part_code_by, handlers_code_by, body_code_by, doing_code_by, offered_code_by, unit_code_by, units_code_by, starts_from_by, spare_from_by}
use Rattle.aud_layout.specs.Assembly.{offset}
use Rattle.aud_layout.specs.Instructions.{condition_code}
use Rattle.aud_layout.specs.Written.{flat_step, written, WrittenLaw}
use Rattle.aud_layout.specs.Shows.{HasAt}
use Rattle.aud_layout.proofs.Standing.Places.{has_moved, has_all, body_at, offer_has}
use Rattle.aud_layout.proofs.Flat.Assembly.{offset_zero}
use Rattle.aud_layout.proofs.Flat.Moving.{moved, Moves, none_moved, more_moved, same_lines, both_moved, count_moved, out_moved, loop_moved, for_moved, exit_moved}
use Rattle.aud_layout.proofs.Flat.Parts.{place_more, one_place, two_places, part_place_moved, doing_place_moved, offers_moved, around_block, stubs_of_moved, out_same, within_same, line_same, line_out, line_alone, next_moved, guard_moved_to, end_moved}
use Rattle.aud_layout.proofs.Standing.Sizes.{last_is, count-block}
use Rattle.aud_layout.proofs.Flat.Behind.{behind_line, behind_plain, statement_and, part_and, offered_and, body_and, Halves, behind_main, passed_body, passed_offer}

module _ (lines : List Line) where
  abbrev F : ℕ → ℕ
  F = offset lines

  mutual
    statement_moved : (s : Statement) (at next : ℕ) (a : Around) (at' next' : ℕ) (b : Around) → HasAt lines at (statement_code s at next a) → F at ≡ at' → F next ≡ next' → moved F a ≡ b → Moves F (statement_code s at next a) (statement_code_by flat_step s at' next' b)
    statement_moved (sequence x y) at next a at' next' b h ea en eb =
        let it = statement_and lines x at _ a _ at' _ h ea (count_moved F a b eb) in
        both_moved F (statement_moved x at _ a at' _ b it.front ea it.behind eb) (statement_moved y _ next a _ next' b it.back it.behind en eb)
    statement_moved (plain_loop x) at next a at' next' b h ea en eb = statement_moved x at at (in_loop next a) at' at' (in_loop next' b) h ea ea (loop_moved F next next' a b en eb)
    statement_moved (declare pos n e) at next a at' next' b h ea en eb = more_moved F (line_same lines (declare pos n e) _ [] _ [] a b (two_places lines next at next' at' en ea) refl eb) (none_moved F)
    statement_moved (if_then pos c x p) at next a at' next' b h ea en eb =
        let own = behind_line lines _ _ at at' h ea in
        let it = statement_and lines x (suc at) next a _ _ _ own.rest own.behind (count_moved F a b eb) in
        let ways = two_places lines _ (suc at) _ _ (part_place_moved lines p _ next _ next' it.behind en) own.behind in
        more_moved F (line_same lines (if_then pos c x p) _ [] _ [] a b ways refl eb)
        (both_moved F (statement_moved x (suc at) next a _ next' b it.front own.behind en eb) (part_moved p _ next a _ next' b it.back it.behind en eb))
    statement_moved (while_loop pos c x) at next a at' next' b h ea en eb =
        let own = behind_line lines _ _ at at' h ea in
        more_moved F (line_same lines (while_loop pos c x) _ [] _ [] a b (two_places lines next (suc at) next' _ en own.behind) refl eb)
        (statement_moved x (suc at) at (in_loop next a) _ at' (in_loop next' b) own.rest own.behind ea (loop_moved F next next' a b en eb))
    statement_moved (for_loop f x y z) at next a at' next' b h ea en eb =
        let own = behind_line lines _ _ at at' h ea in
        let after = behind_line lines _ _ (suc at) _ own.rest own.behind in
        let inside = behind_plain lines _ _ (suc at) _ refl own.rest own.behind in
        let ways = two_places lines next (suc (suc at)) next' _ en inside in
        more_moved F (line_same lines (for_loop f x y z) _ [] _ [] a b ways refl eb)
        (more_moved F (next_moved lines f at at' a b _ _ ea ways eb) (statement_moved z (suc (suc at)) (suc at) (in_for at next a) _ _ (in_for at' next' b) after.rest inside own.behind (for_moved F at at' next next' a b ea en eb)))
    statement_moved (block pos n x) at next a at' next' b h ea en eb =
        let w = ways_count a in
        let end = end_place x (suc at) w in
        let inner = in_block at end a in
        let own = behind_line lines _ _ at at' h ea in
        let counts = count-block at end a ∙ count_moved F a b eb in
        let it = body_and lines construct.Block x (suc at) next a.out inner _ _ _ own.rest own.behind counts in
        let ends : F end ≡ end_place_by flat_step x (suc (at' + _)) (ways_count b) = ap (λ k. F (end_place x (suc at) k)) (sym (count-block at end a)) ∙ behind_main lines construct.Block x (suc at) next a.out inner _ _ it.front own.behind counts in
        let same : suc at + body_size x (ways_count inner) ≡ suc end = ap (λ k. suc at + body_size x k) (count-block at end a) ∙ sym (last_is one_line x (suc at) w) in
        let hs = has_moved lines _ _ (stubs_of x (a.exits ++ a.back ∷ []) (Some at) (suc end)) same it.back in
        let past : F (suc end) ≡ suc (end_place_by flat_step x _ (ways_count b)) = ap F (sym same) ∙ it.behind ∙ sym (last_is flat_step x _ (ways_count b)) in
        more_moved F (line_same lines (block pos n x) _ [] _ [] a b (two_places lines next (suc at) next' _ en own.behind) refl eb)
        (both_moved F
        (body_moved construct.Block x (suc at) next a.out inner _ next' b.out _ it.front own.behind en (out_same lines a b eb) (around_block lines x at at' end _ a b hs ea ends past eb))
        (stubs_of_moved lines x a b at at' (suc end) _ hs ea past eb))
    statement_moved (entry_call pos c p q) at next a at' next' b h ea en eb =
        let own = behind_line lines _ _ at at' h ea in
        let it = part_and lines p (suc at) next a _ _ _ own.rest own.behind (count_moved F a b eb) in
        let ways = two_places lines _ _ _ _ (part_place_moved lines p _ next _ next' own.behind en) (part_place_moved lines q _ next _ next' it.behind en) in
        more_moved F (line_same lines (entry_call pos c p q) _ [] _ [] a b ways refl eb)
        (both_moved F (part_moved p (suc at) next a _ next' b it.front own.behind en eb) (part_moved q _ next a _ next' b it.back it.behind en eb))
    statement_moved (accept pos n d) at next a at' next' b h ea en eb =
        let own = behind_line lines _ _ at at' h ea in
        more_moved F
        (line_same lines (accept pos n d) _ _ _ _ a b (one_place lines next next' en) (one_place lines _ _ (doing_place_moved lines d (suc at) next _ next' own.behind en)) eb)
        (doing_moved d at (suc at) next a.out at' _ next' b.out own.rest ea own.behind en (out_same lines a b eb))
    statement_moved (select pos offered p) at next a at' next' b h ea en eb =
        let own = behind_line lines _ _ at at' h ea in
        let ec = count_moved F a b eb in
        let it = offered_and lines offered at (suc at) next a _ _ _ own.rest own.behind ec in
        let places = offers_moved lines offered at (suc at) next a _ next' _ it.front own.behind en ec in
        let ways = place_more lines _ _ _ _ (part_place_moved lines p _ next _ next' it.behind en) places.parts in
        more_moved F (line_same lines (select pos offered p) _ _ _ _ a b ways (place_more lines at at' _ _ ea places.bodies) eb)
        (both_moved F (offered_moved offered at (suc at) next a at' _ next' b it.front ea own.behind en eb) (part_moved p _ next a _ next' b it.back it.behind en eb))
    statement_moved (exit pos n c) at next a at' next' b h ea en eb = line_out lines (exit pos n c) next next' _ _ a b en (exit_moved F a b n next next' en eb) eb
    statement_moved (return pos) at next a at' next' b h ea en eb = line_out lines (return pos) next next' _ _ a b en (ap (λ (c : Around). c.back) eb) eb
    statement_moved (return_value pos x) at next a at' next' b h ea en eb = line_out lines (return_value pos x) next next' _ _ a b en (ap (λ (c : Around). c.back) eb) eb
    statement_moved (requeue pos r) at next a at' next' b h ea en eb = line_out lines (requeue pos r) next next' _ _ a b en (ap (λ (c : Around). c.back) eb) eb
    statement_moved s at next a at' next' b h ea en eb = line_alone lines s next next' a b en eb

    part_moved : (p : Part) (at next : ℕ) (a : Around) (at' next' : ℕ) (b : Around) → HasAt lines at (part_code p at next a) → F at ≡ at' → F next ≡ next' → moved F a ≡ b → Moves F (part_code p at next a) (part_code_by flat_step p at' next' b)
    part_moved nothing at next a at' next' b h ea en eb = none_moved F
    part_moved (some s) at next a at' next' b h ea en eb = statement_moved s at next a at' next' b h ea en eb

    handlers_moved : (hs : Handlers) (at next : ℕ) (a : Around) (at' next' : ℕ) (b : Around) → HasAt lines at (handlers_code hs at next a) → F at ≡ at' → F next ≡ next' → moved F a ≡ b → Moves F (handlers_code hs at next a) (handlers_code_by flat_step hs at' next' b)
    handlers_moved no_handlers at next a at' next' b h ea en eb = none_moved F
    handlers_moved (handler others choices s more) at next a at' next' b h ea en eb =
        let it = statement_and lines s at next a _ at' _ h ea (count_moved F a b eb) in
        both_moved F (statement_moved s at next a at' next' b it.front ea en eb) (handlers_moved more _ next a _ next' b it.back it.behind en eb)

    body_moved : (c : Construct) (x : Body) (at next out : ℕ) (a : Around) (at' next' out' : ℕ) (b : Around) → HasAt lines at (body_code c x at next out a) → F at ≡ at' → F next ≡ next' → F out ≡ out' → moved F a ≡ b → Moves F (body_code c x at next out a) (body_code_by flat_step c x at' next' out' b)
    body_moved c (body d begin s hs end) at next out a at' next' out' b h ea en eo eb =
        let w = ways_count a in
        let ec = count_moved F a b eb in
        let guard = at + part_size d w + statement_size s w in
        let last = at + part_size d w + main_size s hs w in
        let it = body_at lines c d begin s hs end at next out a [] (has_all lines at _ h) in
        let is = passed_body lines c d s hs end at next out a [] at' _ it ea ec in
        let al = out_moved F last _ a b is.handlers eb in
        both_moved F (part_moved d at _ (around_out last a) at' _ _ it.declarations ea is.declarations al)
        (both_moved F (statement_moved s _ last (around_out guard a) _ _ _ it.main.statements is.declarations is.handlers (out_moved F guard _ a b is.statements eb))
        (more_moved F (guard_moved_to lines hs end (suc guard) last (around_out last a) _ _ _ b.within it.main.handlers is.guarding is.handlers ec (within_same lines a b eb))
        (both_moved F (handlers_moved hs (suc guard) last (around_out last a) _ _ _ it.main.handlers is.guarding is.handlers al) (end_moved lines c end next out next' out' a.within b.within en eo (within_same lines a b eb)))))

    doing_moved : (d : Doing) (opener at next out : ℕ) (opener' at' next' out' : ℕ) → HasAt lines at (doing_code d opener at next out) → F opener ≡ opener' → F at ≡ at' → F next ≡ next' → F out ≡ out' → Moves F (doing_code d opener at next out) (doing_code_by flat_step d opener' at' next' out')
    doing_moved without_do opener at next out opener' at' next' out' h ep ea en eo = none_moved F
    doing_moved (with_do n x) opener at next out opener' at' next' out' h ep ea en eo =
        let inner = in_call (Some opener) (end_place x at 1) in
        let last' = end_place_by flat_step x at' 1 in
        let ends = behind_main lines construct.Accept x at next out inner at' 1 h ea refl in
        body_moved construct.Accept x at next out inner at' next' out' (in_call (Some opener') last') h ea en eo (ap (in_call (Some (F opener))) ends ∙ ap (λ p. in_call (Some p) last') ep)

    offered_moved : (o : Alternatives) (opener at next : ℕ) (a : Around) (opener' at' next' : ℕ) (b : Around) → HasAt lines at (offered_code o opener at next a) → F opener ≡ opener' → F at ≡ at' → F next ≡ next' → moved F a ≡ b → Moves F (offered_code o opener at next a) (offered_code_by flat_step o opener' at' next' b)
    offered_moved no_alternatives opener at next a opener' at' next' b h ep ea en eb = none_moved F
    offered_moved (accepting g pos n d p more) opener at next a opener' at' next' b h ep ea en eb =
        let after = at + doing_size d in
        let it = offer_has lines d p more opener at next a h in
        let is = passed_offer lines d p more opener at next a at' _ it ea (count_moved F a b eb) in
        both_moved F (doing_moved d opener at (part_place p after next) a.out opener' at' _ _ it.doing ep ea (part_place_moved lines p after next _ next' is.after en) (out_same lines a b eb))
        (both_moved F (part_moved p after next a _ next' b it.part is.after en eb) (offered_moved more opener _ next a opener' _ next' b it.others ep is.later en eb))
    offered_moved (delaying g x p more) opener at next a opener' at' next' b h ep ea en eb =
        let it = part_and lines p at next a _ at' _ h ea (count_moved F a b eb) in
        both_moved F (part_moved p at next a at' next' b it.front ea en eb) (offered_moved more opener _ next a opener' _ next' b it.back ep it.behind en eb)
    offered_moved (terminating g more) opener at next a opener' at' next' b h ep ea en eb = offered_moved more opener at next a opener' at' next' b h ep ea en eb

  -- Bodies, one after the other.

  module _ (zero_is : F 0 ≡ 0) where
    unit_moved : (x : Body) (at at' : ℕ) → HasAt lines at (unit_code x at) → F at ≡ at' → Moves F (unit_code x at) (unit_code_by flat_step x at')
    unit_moved x at at' h e =
        let end = end_place x at 1 in
        let ends = behind_main lines construct.Unit x at 0 end (in_call None end) at' 1 h e refl in
        body_moved construct.Unit x at 0 end (in_call None end) at' 0 _ _ h e zero_is ends (ap (in_call None) ends)

    unit_and : (x : Body) (at : ℕ) (more : List Line) (at' : ℕ) → HasAt lines at (unit_code x at ++ more) → F at ≡ at' → Halves lines (unit_code x at) more at (body_size x 1) at' (body_size_by flat_step x 1)
    unit_and x at more at' h e = body_and lines construct.Unit x at 0 _ (in_call None (end_place x at 1)) more at' 1 h e refl

    units_moved : (xs : List Body) (at at' : ℕ) → HasAt lines at (units_code xs at) → F at ≡ at' → Moves F (units_code xs at) (units_code_by flat_step xs at')
    units_moved [] at at' h e = unit_moved no_body at at' h e
    units_moved (x ∷ xs) at at' h e =
        let it = unit_and x at _ at' h e in
        both_moved F (unit_moved x at at' it.front e) (units_moved xs _ _ it.back it.behind)

    starts_moved : (xs : List Body) (at at' : ℕ) → HasAt lines at (units_code xs at) → F at ≡ at' → map F (starts_from xs at) ≡ starts_from_by flat_step xs at'
    starts_moved [] at at' h e = refl
    starts_moved (x ∷ xs) at at' h e =
        let it = unit_and x at _ at' h e in
        place_more lines at at' _ _ e (starts_moved xs _ _ it.back it.behind)

    spare_moved : (xs : List Body) (at at' : ℕ) → HasAt lines at (units_code xs at) → F at ≡ at' → F (spare_from xs at) ≡ spare_from_by flat_step xs at'
    spare_moved [] at at' h e = e
    spare_moved (x ∷ xs) at at' h e =
        let it = unit_and x at _ at' h e in
        spare_moved xs _ _ it.back it.behind

pub written_law : WrittenLaw
written_law program =
    let bs = program.bodies in
    let lines = units_code bs 0 in
    let z = offset_zero lines in
    let all : HasAt lines 0 lines = record { rest = []; is = sym (append-nil lines) } in
    let barriers = map condition_code program.barriers in
    let moves = units_moved lines z bs 0 0 all z in
    ap (λ ls. record { lines = ls; starts = map (offset lines) (starts_from bs 0); spare = offset lines (spare_from bs 0); barriers = barriers })
    (same_lines (offset lines) lines ∙ ap written moves.is)
    ∙ ap (λ ns. record { lines = written (units_code_by flat_step bs 0); starts = ns; spare = offset lines (spare_from bs 0); barriers = barriers }) (starts_moved lines z bs 0 0 all z)
    ∙ ap (λ n. record { lines = written (units_code_by flat_step bs 0); starts = starts_from_by flat_step bs 0; spare = n; barriers = barriers }) (spare_moved lines z bs 0 0 all z)
