-- Behind each activation a statement begins, where declarative parts alone activate.
use Rattle.std.proofs.Common.{◌≡◌, Bool, true, false, ℕ, suc, ◌+◌, List, [], ◌∷◌, ◌++◌, map, Option, Some, None}
use Rattle.std.proofs.lemmas.Bool.{false≢true}
use Rattle.aud_text.specs.declared.place.Pos.{Pos}
use Rattle.aud_typed.specs.Tree.{Statement, sequence, activate, if_then, plain_loop, while_loop, for_loop, block, entry_call, accept, select, Part, nothing, some, Handlers, no_handlers, handler, Body, body, Doing, without_do, with_do, Alternatives, no_alternatives, accepting, delaying, terminating, Callee, of_task, of_object, CallForm, Program, requeue, Requeue}
use Rattle.aud_meaning.specs.declared.state.Construct.{Construct}
use Rattle.aud_meaning.specs.declared.state.Construct.TheVariants as construct
use Rattle.aud_meaning.specs.Items.{no_body}
use Rattle.aud_code.specs.Places.{Way}
use Rattle.aud_code.specs.Flat.{Does, FlatLine}
use Rattle.aud_code.specs.Frames.{found, Found}
use Rattle.aud_code.specs.Sound.{IsStatement, ActivatesBefore}
use Rattle.aud_layout.specs.Layout.{Line, Around, in_loop, in_for, in_block, in_call, around_out, ways_count, statement_size, part_size, body_size, doing_size, offered_size, main_size, end_place, stubs, stubs_of, part_place, statement_code, part_code, handlers_code, body_code, doing_code, offered_code, unit_code, units_code, code_of}
use Rattle.aud_layout.specs.Assembly.{offset, last_by, assembled_from}
use Rattle.aud_layout.specs.Instructions.{call_end, requeue_end}
use Rattle.aud_layout.specs.Shows.{HasAt}
use Rattle.aud_layout.specs.Activations.{StatementActivates, PartActivates, HandlersActivate, BodyActivates, DoingActivates, OfferedActivates, BodiesActivate, ActivatesInParts}
use Rattle.aud_layout.proofs.Standing.Places.{has_front, has_back, has_tail, has_all, body_at, offer_has, length-statement, length-part, length-offered, length-unit}
use Rattle.aud_layout.proofs.Flat.Frames.{found_is}
use Rattle.aud_layout.proofs.Flat.FramesLaw.{whole}

-- Lines among which each activation stands before a statement.

module _ (f : ℕ → ℕ) (X : List FlatLine) where
  pub record LineActivates (l : Line) : Type 0 where
    pub before : ActivatesBefore X (last_by f l.what) (map f l.ways)

  pub data EachActivates : List Line → Type 0 where
    no_more : EachActivates []
    one_then : {l : Line} {ls : List Line} → LineActivates l → EachActivates ls → EachActivates (l ∷ ls)

  both : {a b : List Line} → EachActivates a → EachActivates b → EachActivates (a ++ b)
  both no_more k = k
  both (one_then h hs) k = one_then h (both hs k)

  stubs_activate : (ws : List Way) (end : Pos) (w : Option ℕ) (at : ℕ) → EachActivates (stubs ws end w at)
  stubs_activate [] end w at = no_more
  stubs_activate (x ∷ ws) end w at = one_then (record { before = tt }) (stubs_activate ws end w (suc at))

  stubs_of_activate : (b : Body) (ws : List Way) (w : Option ℕ) (at : ℕ) → EachActivates (stubs_of b ws w at)
  stubs_of_activate (body d begin s h end) ws w at = stubs_activate ws end w at

  calls_activate : (c : Callee) (entry : ℕ) (form : CallForm) (ns : List ℕ) → ActivatesBefore X (Does (call_end c entry form)) ns
  calls_activate (of_task t) entry form ns = tt
  calls_activate (of_object v) entry form ns = tt

  requeue_activates : (c : Callee) (r : Requeue) (ns : List ℕ) → ActivatesBefore X (Does (requeue_end c r)) ns
  requeue_activates (of_task t) r ns = tt
  requeue_activates (of_object v) r ns = tt

module _ (lines : List Line) where
  abbrev F : ℕ → ℕ
  F = offset lines

  abbrev X : List FlatLine
  X = assembled_from (offset lines) lines

  -- a statement begins at a place
  abbrev Begins : ℕ → Type 0
  Begins n = Found (found X (F n)) (λ e. IsStatement e.last)

  abbrev Each : List Line → Type 0
  Each ls = EachActivates (offset lines) (assembled_from (offset lines) lines) ls

  begins : (s : Statement) (at next : ℕ) (a : Around) → HasAt lines at (statement_code s at next a) → Begins at
  begins (sequence x y) at next a h = begins x at (at + statement_size x (ways_count a)) a (has_front lines at _ _ h)
  begins (plain_loop x) at next a h = begins x at at (in_loop next a) h
  begins s at next a h = found_is lines at _ _ (λ e. IsStatement e.last) h tt

  -- behind what declares, a statement begins
  abbrev Behind : Bool → ℕ → Type 0
  Behind declares next = declares ≡ true → Begins next

  inside : (next : ℕ) → Behind false next
  inside next is = absurd (false≢true is)

  mutual
    statement_activates : (declares : Bool) (s : Statement) (at next : ℕ) (a : Around) → HasAt lines at (statement_code s at next a) → Behind declares next → StatementActivates declares s → Each (statement_code s at next a)
    statement_activates declares (sequence x y) at next a h to k =
        let middle = at + statement_size x (ways_count a) in
        let rest = has_back lines at _ _ _ (length-statement x at middle a) h in
        both F X (statement_activates declares x at middle a (has_front lines at _ _ h) (λ is. begins y middle next a rest) k.0) (statement_activates declares y middle next a rest to k.1)
    statement_activates declares (activate pos) at next a h to k = one_then (record { before = to k }) no_more
    statement_activates declares (plain_loop x) at next a h to k = statement_activates false x at at (in_loop next a) h (inside at) k
    statement_activates declares (if_then pos c x p) at next a h to k =
        let second = suc at + statement_size x (ways_count a) in
        let rest = has_tail lines at _ _ h in
        one_then (record { before = tt })
        (both F X (statement_activates false x (suc at) next a (has_front lines (suc at) _ _ rest) (inside next) k.0) (part_activates false p second next a (has_back lines (suc at) _ _ _ (length-statement x (suc at) next a) rest) (inside next) k.1))
    statement_activates declares (while_loop pos c x) at next a h to k = one_then (record { before = tt }) (statement_activates false x (suc at) at (in_loop next a) (has_tail lines at _ _ h) (inside at) k)
    statement_activates declares (for_loop f x y s) at next a h to k =
        let rest = has_tail lines (suc at) _ _ (has_tail lines at _ _ h) in
        one_then (record { before = tt }) (one_then (record { before = tt }) (statement_activates false s (suc (suc at)) (suc at) (in_for at next a) rest (inside (suc at)) k))
    statement_activates declares (block pos n b) at next a h to k =
        let end = end_place b (suc at) (ways_count a) in
        let inner = in_block at end a in
        let rest = has_front lines (suc at) _ _ (has_tail lines at _ _ h) in
        one_then (record { before = tt })
        (both F X (body_activates construct.Block b (suc at) next a.out inner rest k) (stubs_of_activate F X b (a.exits ++ a.back ∷ []) (Some at) (suc end)))
    statement_activates declares (entry_call pos c p q) at next a h to k =
        let second = suc at + part_size p (ways_count a) in
        let rest = has_tail lines at _ _ h in
        one_then (record { before = calls_activate F X c.callee c.entry c.form (map F (part_place p (suc at) next ∷ part_place q second next ∷ [])) })
        (both F X (part_activates false p (suc at) next a (has_front lines (suc at) _ _ rest) (inside next) k.0) (part_activates false q second next a (has_back lines (suc at) _ _ _ (length-part p (suc at) next a) rest) (inside next) k.1))
    statement_activates declares (accept pos n d) at next a h to k = one_then (record { before = tt }) (doing_activates d at (suc at) next a.out (has_tail lines at _ _ h) k)
    statement_activates declares (select pos offered p) at next a h to k =
        let second = suc at + offered_size offered (ways_count a) in
        let rest = has_tail lines at _ _ h in
        one_then (record { before = tt })
        (both F X (offered_activates offered at (suc at) next a (has_front lines (suc at) _ _ rest) k.0) (part_activates false p second next a (has_back lines (suc at) _ _ _ (length-offered offered at (suc at) next a) rest) (inside next) k.1))
    statement_activates declares (requeue pos r) at next a h to k = one_then (record { before = requeue_activates F X r.callee r (map F (next ∷ [])) }) no_more
    statement_activates declares s at next a h to k = one_then (record { before = tt }) no_more

    part_activates : (declares : Bool) (p : Part) (at next : ℕ) (a : Around) → HasAt lines at (part_code p at next a) → Behind declares next → PartActivates declares p → Each (part_code p at next a)
    part_activates declares nothing at next a h to k = no_more
    part_activates declares (some s) at next a h to k = statement_activates declares s at next a h to k

    handlers_activate : (hs : Handlers) (at next : ℕ) (a : Around) → HasAt lines at (handlers_code hs at next a) → HandlersActivate hs → Each (handlers_code hs at next a)
    handlers_activate no_handlers at next a h k = no_more
    handlers_activate (handler others choices s more) at next a h k =
        let rest = has_back lines at _ _ _ (length-statement s at next a) h in
        both F X (statement_activates false s at next a (has_front lines at _ _ h) (inside next) k.0) (handlers_activate more (at + statement_size s (ways_count a)) next a rest k.1)

    body_activates : (c : Construct) (b : Body) (at next out : ℕ) (a : Around) → HasAt lines at (body_code c b at next out a) → BodyActivates b → Each (body_code c b at next out a)
    body_activates c (body d begin s hs end) at next out a h k =
        let first = at + part_size d (ways_count a) in
        let guard = first + statement_size s (ways_count a) in
        let last = first + main_size s hs (ways_count a) in
        let it = body_at lines c d begin s hs end at next out a [] (has_all lines at _ h) in
        both F X (part_activates true d at first (around_out last a) it.declarations (λ is. begins s first last (around_out guard a) it.main.statements) k.0)
        (both F X (statement_activates false s first last (around_out guard a) it.main.statements (inside last) k.1.0)
        (one_then (record { before = tt })
        (both F X (handlers_activate hs (suc guard) last (around_out last a) it.main.handlers k.1.1)
        (one_then (record { before = tt }) no_more))))

    doing_activates : (d : Doing) (opener at next out : ℕ) → HasAt lines at (doing_code d opener at next out) → DoingActivates d → Each (doing_code d opener at next out)
    doing_activates without_do opener at next out h k = no_more
    doing_activates (with_do n b) opener at next out h k = body_activates construct.Accept b at next out (in_call (Some opener) (end_place b at 1)) h k

    offered_activates : (o : Alternatives) (opener at next : ℕ) (a : Around) → HasAt lines at (offered_code o opener at next a) → OfferedActivates o → Each (offered_code o opener at next a)
    offered_activates no_alternatives opener at next a h k = no_more
    offered_activates (accepting g pos n d p more) opener at next a h k =
        let after = at + doing_size d in
        let it = offer_has lines d p more opener at next a h in
        both F X (doing_activates d opener at (part_place p after next) a.out it.doing k.0)
        (both F X (part_activates false p after next a it.part (inside next) k.1.0) (offered_activates more opener (after + part_size p (ways_count a)) next a it.others k.1.1))
    offered_activates (delaying g x p more) opener at next a h k =
        both F X (part_activates false p at next a (has_front lines at _ _ h) (inside next) k.0)
        (offered_activates more opener (at + part_size p (ways_count a)) next a (has_back lines at _ _ _ (length-part p at next a) h) k.1)
    offered_activates (terminating g more) opener at next a h k = offered_activates more opener at next a h k

  unit_activates : (b : Body) (at : ℕ) → HasAt lines at (unit_code b at) → BodyActivates b → Each (unit_code b at)
  unit_activates b at h k = body_activates construct.Unit b at 0 (end_place b at 1) (in_call None (end_place b at 1)) h k

  units_activate : (bs : List Body) (at : ℕ) → HasAt lines at (units_code bs at) → BodiesActivate bs → Each (units_code bs at)
  units_activate [] at h k = unit_activates no_body at h (tt, (tt, tt))
  units_activate (b ∷ bs) at h k =
      both F X (unit_activates b at (has_front lines at _ _ h) k.0)
      (units_activate bs (at + body_size b 1) (has_back lines at _ _ _ (length-unit b at) h) k.1)

pub each_activates : (program : Program) → ActivatesInParts program → let lines = (code_of program).lines in EachActivates (offset lines) (assembled_from (offset lines) lines) lines
each_activates program k = units_activate (code_of program).lines program.bodies 0 (whole (code_of program).lines) k
