-- The lines of each part of a program fit the frames around it.
use Rattle.std.proofs.Common.{◌≡◌, inl, ℕ, suc, ◌+◌, List, [], ◌∷◌, ◌++◌, map, slice_get, Option, Some, None, refl, sym, ap, ◌∙◌}
use Rattle.aud_typed.specs.Tree.{Statement, sequence, declare, if_then, plain_loop, while_loop, for_loop, exit, return, return_value, block, entry_call, accept, select, Part, nothing, some, Handlers, no_handlers, handler, Body, body, Doing, without_do, with_do, Alternatives, no_alternatives, accepting, delaying, terminating, Callee, of_task, of_object, CallForm, requeue}
use Rattle.aud_meaning.specs.declared.state.Construct.{Construct}
use Rattle.aud_meaning.specs.declared.state.Construct.TheVariants as construct
use Rattle.aud_code.specs.Places.{Way}
use Rattle.aud_code.specs.Instruction.{Instruction, Ending, Accept, Select}
use Rattle.aud_code.specs.Flat.{Does, EndLine, FlatLine}
use Rattle.aud_code.specs.Frames.{OpensLoop, OpensBlock, TakesExceptions, IsEnd, At, OutOf, OutFits, WayFits, WaysAt, BodiesAt, EitherAt, Behind, LastFits, EachOpened, IsWritten, BodyAt}
use Rattle.aud_layout.specs.Layout.{one_line, Line, Around, line, in_loop, in_for, in_block, in_call, around_out, ways_count, statement_size, part_size, body_size, doing_size, offered_size, main_size, end_place, stubs_of, part_place, bodies_from, statement_code, part_code, handlers_code, body_code, doing_code, offered_code}
use Rattle.aud_layout.specs.Assembly.{offset, within_moved, end_line, assembled_from}
use Rattle.aud_layout.specs.Instructions.{call_end, ending_of}
use Rattle.aud_layout.specs.Shows.{HasAt}
use Rattle.aud_layout.proofs.Standing.Sizes.{count-block, last_is}
use Rattle.aud_layout.proofs.Standing.Places.{has_tail, has_moved, has_all, body_at, offer_has, length-statement, length-part, length-handlers, length-body, length-doing, length-offered}
use Rattle.aud_layout.proofs.Flat.Frames.{its_step, found_is, at_line, EachFits, no_lines, one_and, both, split, WayOut, AroundFits, InsideFits, within_inside, EndFits, AcceptFits, accept_fits}
use Rattle.aud_layout.proofs.Flat.Opening.{NoAccepts, requeue_has_none, select_opened}
use Rattle.aud_layout.proofs.Flat.FramesWays.{statement_begins, part_begins, body_begins, doing_begins, guards_fit, offers_fit, exit_fits, loop_fits, for_fits, all_stubs_fit, block_fits, call_fits}

module _ (lines : List Line) where
  abbrev F : ℕ → ℕ
  F = offset lines

  abbrev X : List FlatLine
  X = assembled_from (offset lines) lines

  abbrev M : Option ℕ → Option ℕ
  M = within_moved (offset lines)

  -- a call of an entry
  entry_fits : (c : Callee) (entry : ℕ) (form : CallForm) (at : ℕ) (l : EndLine) → WaysAt X l.within l.within l.ways → EitherAt X l.within at l.bodies × (WayFits X l.within l.exit × OutFits X l.within l.out) → LastFits X (Does (call_end c entry form)) at l
  entry_fits (of_task t) entry form at l w b = (w, b)
  entry_fits (of_object v) entry form at l w b = (w, b)

  none_stand : (e : Ending) (w : Option ℕ) (at : ℕ) → NoAccepts e → BodiesAt X e w at []
  none_stand (Accept entry region) w at h = absurd h
  none_stand (Select has_else) w at h = absurd h
  none_stand e w at h = tt

  -- a statement that leads out
  way_fits : (s : Statement) (at next : ℕ) (w : Way) (a : Around) → NoAccepts (ending_of s) → At X (F next) (M a.within) → WayOut lines (M a.within) w → AroundFits lines a → EachFits lines at (line s (next ∷ []) [] (Some w) a ∷ [])
  way_fits s at next w a n k o i = one_and (record { is = ((k, tt), (none_stand (ending_of s) (M a.within) (F at) n, (o, i.out))) }) no_lines

  mutual
    pub statement_fits : (s : Statement) (at next : ℕ) (a : Around) → HasAt lines at (statement_code s at next a) → At X (F next) (M a.within) → AroundFits lines a → EachFits lines at (statement_code s at next a)
    statement_fits (sequence x y) at next a h k i =
        let middle = at + statement_size x (ways_count a) in
        let it = split lines _ _ at _ (length-statement x at middle a) h in
        it.join (statement_fits x at middle a it.front (statement_begins lines y middle next a it.back) i) (statement_fits y middle next a it.back k i)
    statement_fits (plain_loop x) at next a h k i =
        statement_fits x at at (in_loop next a) h (statement_begins lines x at at (in_loop next a) h) (loop_fits lines next a k i)
    statement_fits (declare pos n e) at next a h k i =
        one_and (record { is = ((k, (at_line lines at _ _ h, tt)), (tt, (tt, i.out))) }) no_lines
    statement_fits (if_then pos c x p) at next a h k i =
        let second = suc at + statement_size x (ways_count a) in
        let it = split lines _ _ (suc at) _ (length-statement x (suc at) next a) (has_tail lines at _ _ h) in
        one_and (record { is = ((part_begins lines p second next a it.back k, (statement_begins lines x (suc at) next a it.front, tt)), (tt, (tt, i.out))) })
        (it.join (statement_fits x (suc at) next a it.front k i) (part_fits p second next a it.back k i))
    statement_fits (while_loop pos c x) at next a h k i =
        let rest = has_tail lines at _ _ h in
        one_and (record { is = ((k, (statement_begins lines x (suc at) at (in_loop next a) rest, tt)), (tt, (tt, i.out))) })
        (statement_fits x (suc at) at (in_loop next a) rest (at_line lines at _ _ h) (loop_fits lines next a k i))
    statement_fits (for_loop f x y s) at next a h k i =
        let inner = in_for at next a in
        let after = has_tail lines at _ _ h in
        let rest = has_tail lines (suc at) _ _ after in
        let inside = statement_begins lines s (suc (suc at)) (suc at) inner rest in
        let out : OutFits X (Some (F at)) (F a.out) = found_is lines at _ _ (λ e. OutOf X e.last (F at) e.out (F a.out)) h refl in
        let continued = found_is lines at _ _ (λ e. OpensLoop e.last × WaysAt X e.within (Some (F at)) (F next ∷ F (suc (suc at)) ∷ [])) h (tt, (k, (inside, tt))) in
        one_and (record { is = ((k, (inside, tt)), (tt, (tt, i.out))) })
        (one_and (record { is = continued })
        (statement_fits s (suc (suc at)) (suc at) inner rest (at_line lines (suc at) _ _ after) (for_fits lines at _ _ h tt next a refl out k i)))
    statement_fits (block pos n b) at next a h k i =
        let w = ways_count a in
        let end = end_place b (suc at) w in
        let inner = in_block at end a in
        let it = split lines _ _ (suc at) _ (length-body construct.Block b (suc at) next a.out inner) (has_tail lines at _ _ h) in
        let same : suc at + body_size b (ways_count inner) ≡ suc end = ap (λ m. suc at + body_size b m) (count-block at end a) ∙ sym (last_is one_line b (suc at) w) in
        let stubs_at = has_moved lines _ _ (stubs_of b (a.exits ++ a.back ∷ []) (Some at) (suc end)) same it.back in
        let ends : EndFits lines construct.Block next a.out (Some at) = λ m p. record { is = found_is lines at _ _ (λ e. OpensBlock e.last × Behind X (F next) (F a.out) e.within) h (tt, (k, i.out)) } in
        one_and (record { is = ((k, (body_begins lines construct.Block b (suc at) next a.out inner it.front, tt)), (tt, (tt, i.out))) })
        (it.join
        (body_fits construct.Block b (suc at) next a.out inner it.front (block_fits lines at _ _ h tt b end a stubs_at) ends)
        (all_stubs_fit lines at _ _ h tt b a (suc at + body_size b (ways_count inner)) (suc end) i.exits i.back))
    statement_fits (entry_call pos c p q) at next a h k i =
        let second = suc at + part_size p (ways_count a) in
        let it = split lines _ _ (suc at) _ (length-part p (suc at) next a) (has_tail lines at _ _ h) in
        let own = line (entry_call pos c p q) (part_place p (suc at) next ∷ part_place q second next ∷ []) [] None a in
        let to : WaysAt X (M a.within) (M a.within) (map F own.ways) = (part_begins lines p (suc at) next a it.front k, (part_begins lines q second next a it.back k, tt)) in
        one_and (record { is = entry_fits c.callee c.entry c.form (F at) (end_line F own) to (tt, (tt, i.out)) })
        (it.join (part_fits p (suc at) next a it.front k i) (part_fits q second next a it.back k i))
    statement_fits (accept pos n d) at next a h k i =
        let rest = has_tail lines at _ _ h in
        let opens = accept_fits lines at _ _ h tt in
        one_and (record { is = ((k, tt), ((doing_begins lines d at (suc at) next a.out (M a.within) rest k, tt), (tt, i.out))) })
        (doing_fits d at (suc at) next a.out a.within rest k i.out opens)
    statement_fits (select pos offered p) at next a h k i =
        let e = ways_count a in
        let second = suc at + offered_size offered e in
        let it = split lines _ _ (suc at) _ (length-offered offered at (suc at) next a) (has_tail lines at _ _ h) in
        let places = offers_fit lines offered at (suc at) next a it.front k in
        let opens = accept_fits lines at _ _ h tt in
        let Opened : List Instruction → Type 0 = λ is. EachOpened is (λ x. IsWritten (slice_get (F at ∷ map F (bodies_from offered (suc at) next e)) x.alternative) (BodyAt X x.region (M a.within) (F at))) in
        let does = its_step lines at _ _ Opened h (select_opened F (λ region b. BodyAt X region (M a.within) (F at) b) offered (F at) (suc at) next e places.does) in
        one_and (record { is = ((part_begins lines p second next a it.back k, places.parts), (((inl (at_line lines at _ _ h), places.bodies), does), (tt, i.out))) })
        (it.join (offered_fits offered at (suc at) next a it.front k i opens) (part_fits p second next a it.back k i))
    statement_fits (exit pos n c) at next a h k i = way_fits (exit pos n c) at next _ a tt k (exit_fits lines (M a.within) a.exits n next i.exits k) i
    statement_fits (return pos) at next a h k i = way_fits (return pos) at next a.back a tt k i.back i
    statement_fits (return_value pos x) at next a h k i = way_fits (return_value pos x) at next a.back a tt k i.back i
    statement_fits (requeue pos r) at next a h k i = way_fits (requeue pos r) at next a.back a (requeue_has_none r.callee r) k i.back i
    statement_fits s at next a h k i = one_and (record { is = ((k, tt), (tt, (tt, i.out))) }) no_lines

    part_fits : (p : Part) (at next : ℕ) (a : Around) → HasAt lines at (part_code p at next a) → At X (F next) (M a.within) → AroundFits lines a → EachFits lines at (part_code p at next a)
    part_fits nothing at next a h k i = no_lines
    part_fits (some s) at next a h k i = statement_fits s at next a h k i

    handlers_fit : (hs : Handlers) (at next : ℕ) (a : Around) → HasAt lines at (handlers_code hs at next a) → At X (F next) (M a.within) → AroundFits lines a → EachFits lines at (handlers_code hs at next a)
    handlers_fit no_handlers at next a h k i = no_lines
    handlers_fit (handler others choices s more) at next a h k i =
        let it = split lines _ _ at _ (length-statement s at next a) h in
        it.join (statement_fits s at next a it.front k i) (handlers_fit more (at + statement_size s (ways_count a)) next a it.back k i)

    pub body_fits : (c : Construct) (b : Body) (at next out : ℕ) (a : Around) → HasAt lines at (body_code c b at next out a) → InsideFits lines a → EndFits lines c next out a.within → EachFits lines at (body_code c b at next out a)
    body_fits c (body d begin s hs end) at next out a h i ends =
        let e = ways_count a in
        let first = at + part_size d e in
        let guard = first + statement_size s e in
        let last = first + main_size s hs e in
        let it = body_at lines c d begin s hs end at next out a [] (has_all lines at _ h) in
        let to_end = within_inside lines last a i (found_is lines last _ _ (λ l. TakesExceptions l.last × (l.within ≡ M a.within)) it.main.ended (tt, refl)) in
        let to_guard = within_inside lines guard a i (found_is lines guard _ _ (λ l. TakesExceptions l.last × (l.within ≡ M a.within)) it.main.guarding (tt, refl)) in
        let before = statement_begins lines s first last (around_out guard a) it.main.statements in
        let behind = at_line lines last _ _ it.main.ended in
        let left = found_is lines last _ _ (λ l. IsEnd l.last × (l.within ≡ M a.within)) it.main.ended (tt, refl) in
        both lines _ _ at _ (length-part d at first (around_out last a)) (part_fits d at first (around_out last a) it.declarations before to_end)
        (both lines _ _ first _ (length-statement s first last (around_out guard a)) (statement_fits s first last (around_out guard a) it.main.statements behind to_guard)
        (one_and (record { is = (guards_fit lines hs (suc guard) last (around_out last a) it.main.handlers, left) })
        (both lines _ _ (suc guard) _ (length-handlers hs (suc guard) last (around_out last a)) (handlers_fit hs (suc guard) last (around_out last a) it.main.handlers behind to_end)
        (one_and (ends _ end) no_lines))))

    -- what an accept does, whose step stands within w
    doing_fits : (d : Doing) (opener at next out : ℕ) (w : Option ℕ) → HasAt lines at (doing_code d opener at next out) → At X (F next) (M w) → OutFits X (M w) (F out) → AcceptFits lines opener w → EachFits lines at (doing_code d opener at next out)
    doing_fits without_do opener at next out w h k o opens = no_lines
    doing_fits (with_do n b) opener at next out w h k o opens =
        let inner = call_fits lines construct.Accept b at next out (Some opener) h opens.goes in
        let ends : EndFits lines construct.Accept next out (Some opener) = λ m p. record { is = opens.ends (F next) (F out) (k, o) } in
        body_fits construct.Accept b at next out (in_call (Some opener) (end_place b at 1)) h inner ends

    offered_fits : (o : Alternatives) (opener at next : ℕ) (a : Around) → HasAt lines at (offered_code o opener at next a) → At X (F next) (M a.within) → AroundFits lines a → AcceptFits lines opener a.within → EachFits lines at (offered_code o opener at next a)
    offered_fits no_alternatives opener at next a h k i opens = no_lines
    offered_fits (accepting g pos n d p more) opener at next a h k i opens =
        let after = at + doing_size d in
        let it = offer_has lines d p more opener at next a h in
        let to = part_begins lines p after next a it.part k in
        both lines _ _ at _ (length-doing d opener at (part_place p after next) a.out) (doing_fits d opener at (part_place p after next) a.out a.within it.doing to i.out opens)
        (both lines _ _ after _ (length-part p after next a) (part_fits p after next a it.part k i) (offered_fits more opener (after + part_size p (ways_count a)) next a it.others k i opens))
    offered_fits (delaying g x p more) opener at next a h k i opens =
        let it = split lines _ _ at _ (length-part p at next a) h in
        it.join (part_fits p at next a it.front k i) (offered_fits more opener (at + part_size p (ways_count a)) next a it.back k i opens)
    offered_fits (terminating g more) opener at next a h k i opens = offered_fits more opener at next a h k i opens
