-- The places in the layout's lines, the ways out of a block and single lines, moved to where steps begin.
use Rattle.std.proofs.Common.{◌≡◌, ℕ, suc, ◌+◌, List, [], ◌∷◌, ◌++◌, length, map, Option, Some, None, refl, sym, ap, ◌∙◌, arith}
use Rattle.std.proofs.lemmas.List.{length-map, map-append}
use Rattle.aud_text.specs.declared.place.Pos.{Pos}
use Rattle.aud_typed.specs.Tree.{For, Statement, Part, nothing, some, Handlers, no_handlers, handler, Body, body, Doing, without_do, with_do, Alternatives, no_alternatives, accepting, delaying, terminating}
use Rattle.aud_meaning.specs.declared.state.Construct.{Construct}
use Rattle.aud_code.specs.Places.{Way}
use Rattle.aud_layout.specs.Layout.{Line, continues, guards, Around, in_block, ways_count, statement_size, doing_size, line, part_place, doing_place, stub_line, stubs, stub_ways, stubs_of, end_line, guard_line, guards_of, parts_from, bodies_from, handlers_code, offered_code, guards_of_by, parts_from_by, bodies_from_by, guard_line_by}
use Rattle.aud_layout.specs.Assembly.{offset, guard_moved, within_moved}
use Rattle.aud_layout.specs.Written.{flat_step}
use Rattle.aud_layout.specs.Shows.{HasAt}
use Rattle.aud_layout.proofs.Standing.Places.{has_tail, offer_has}
use Rattle.aud_layout.proofs.Flat.Moving.{way_to, moved, MovesLine, Moves, none_moved, more_moved}
use Rattle.aud_layout.proofs.Flat.Behind.{behind_plain, statement_and, part_and, passed_offer}

module _ (lines : List Line) where
  abbrev F : ℕ → ℕ
  F = offset lines

  -- Lists of places.

  pub place_more : (n m : ℕ) (ns ms : List ℕ) → F n ≡ m → map F ns ≡ ms → map F (n ∷ ns) ≡ m ∷ ms
  place_more n m ns ms h k = ap (λ x. x ∷ map F ns) h ∙ ap (λ xs. m ∷ xs) k

  pub one_place : (n m : ℕ) → F n ≡ m → map F (n ∷ []) ≡ m ∷ []
  one_place n m h = ap (λ x. x ∷ []) h

  pub two_places : (n k m l : ℕ) → F n ≡ m → F k ≡ l → map F (n ∷ k ∷ []) ≡ m ∷ l ∷ []
  two_places n k m l h e = ap (λ x. x ∷ F k ∷ []) h ∙ ap (λ x. m ∷ x ∷ []) e

  pub part_place_moved : (p : Part) (at next at' next' : ℕ) → F at ≡ at' → F next ≡ next' → F (part_place p at next) ≡ part_place p at' next'
  part_place_moved nothing at next at' next' h k = k
  part_place_moved (some s) at next at' next' h k = h

  pub doing_place_moved : (d : Doing) (at next at' next' : ℕ) → F at ≡ at' → F next ≡ next' → F (doing_place d at next) ≡ doing_place d at' next'
  doing_place_moved without_do at next at' next' h k = k
  doing_place_moved (with_do n b) at next at' next' h k = h

  guards_moved : (hs : Handlers) (at next : ℕ) (a : Around) (at' e : ℕ) → HasAt lines at (handlers_code hs at next a) → F at ≡ at' → ways_count a ≡ e → map (guard_moved F) (guards_of hs at (ways_count a)) ≡ guards_of_by flat_step hs at' e
  guards_moved no_handlers at next a at' e h ea ec = refl
  guards_moved (handler others choices s more) at next a at' e h ea ec =
      let it = statement_and lines s at next a _ at' e h ea ec in
      let rest = guards_moved more _ next a _ e it.back it.behind ec in
      ap (λ n. record { others = others; choices = choices; to = n } ∷ map (guard_moved F) (guards_of more (at + statement_size s (ways_count a)) (ways_count a))) ea ∙ ap (λ gs. record { others = others; choices = choices; to = at' } ∷ gs) rest

  -- what follows the alternatives of a selective accept, and what their accepts do
  pub record OffersMoved (o : Alternatives) (at next e at' next' e' : ℕ) : Type 0 where
    pub parts : map F (parts_from o at next e) ≡ parts_from_by flat_step o at' next' e'
    pub bodies : map F (bodies_from o at next e) ≡ bodies_from_by flat_step o at' next' e'

  pub offers_moved : (o : Alternatives) (opener at next : ℕ) (a : Around) (at' next' e : ℕ) → HasAt lines at (offered_code o opener at next a) → F at ≡ at' → F next ≡ next' → ways_count a ≡ e → OffersMoved o at next (ways_count a) at' next' e
  offers_moved no_alternatives opener at next a at' next' e h ea en ec = record { parts = refl; bodies = refl }
  offers_moved (accepting g pos n d p more) opener at next a at' next' e h ea en ec =
      let it = offer_has lines d p more opener at next a h in
      let is = passed_offer lines d p more opener at next a at' e it ea ec in
      let to = part_place_moved p (at + doing_size d) next _ next' is.after en in
      let rest = offers_moved more opener _ next a _ next' e it.others is.later en ec in
      record { parts = place_more _ _ _ _ to rest.parts; bodies = place_more _ _ _ _ (doing_place_moved d at _ at' _ ea to) rest.bodies }
  offers_moved (delaying g x p more) opener at next a at' next' e h ea en ec =
      let it = part_and lines p at next a _ at' e h ea ec in
      let to = part_place_moved p at next at' next' ea en in
      let rest = offers_moved more opener _ next a _ next' e it.back it.behind en ec in
      record { parts = place_more _ _ _ _ to rest.parts; bodies = place_more _ _ _ _ to rest.bodies }
  offers_moved (terminating g more) opener at next a at' next' e h ea en ec =
      let rest = offers_moved more opener at next a at' next' e h ea en ec in
      record { parts = place_more _ _ _ _ en rest.parts; bodies = place_more _ _ _ _ en rest.bodies }

  -- Blocks: the ways out of them.

  stub_ways_moved : (ws more : List Way) (end : Pos) (within : Option ℕ) (at at' : ℕ) → HasAt lines at (stubs (ws ++ more) end within at) → F at ≡ at' → map (way_to F) (stub_ways ws at) ≡ stub_ways (map (way_to F) ws) at'
  stub_ways_moved [] more end within at at' h e = refl
  stub_ways_moved (w ∷ ws) more end within at at' h e =
      let l = stub_line w.loops w.to end within at in
      let rest = stub_ways_moved ws more end within (suc at) (suc at') (has_tail lines at l _ h) (behind_plain lines l _ at at' refl h e) in
      ap (λ n. record { to = n; loops = 0 } ∷ map (way_to F) (stub_ways ws (suc at))) e ∙ ap (λ xs. record { to = at'; loops = 0 } ∷ xs) rest

  behind_stubs : (ws more : List Way) (end : Pos) (within : Option ℕ) (at at' : ℕ) → HasAt lines at (stubs (ws ++ more) end within at) → F at ≡ at' → F (at + length ws) ≡ at' + length ws
  behind_stubs [] more end within at at' h e = let same : at + 0 ≡ at = omega arith in omega (arith, ap F same, e)
  behind_stubs (w ∷ ws) more end within at at' h e =
      let l = stub_line w.loops w.to end within at in
      let rest = behind_stubs ws more end within (suc at) (suc at') (has_tail lines at l _ h) (behind_plain lines l _ at at' refl h e) in
      let same : at + suc (length ws) ≡ suc at + length ws = omega arith in
      omega (arith, ap F same, rest)

  stubs_moved : (ws : List Way) (end : Pos) (within : Option ℕ) (at at' : ℕ) → HasAt lines at (stubs ws end within at) → F at ≡ at' → Moves F (stubs ws end within at) (stubs (map (way_to F) ws) end (within_moved F within) at')
  stubs_moved [] end within at at' h e = none_moved F
  stubs_moved (w ∷ ws) end within at at' h e =
      let l = stub_line w.loops w.to end within at in
      more_moved F (record { is = ap (λ n. stub_line w.loops (F w.to) end (within_moved F within) n) e }) (stubs_moved ws end within (suc at) (suc at') (has_tail lines at l _ h) (behind_plain lines l _ at at' refl h e))

  block_moved : (place place' last last' : ℕ) (a b : Around) (end : Pos) → HasAt lines (suc last) (stubs (a.exits ++ a.back ∷ []) end (Some place) (suc last)) → F place ≡ place' → F last ≡ last' → F (suc last) ≡ suc last' → moved F a ≡ b → moved F (in_block place last a) ≡ in_block place' last' b
  block_moved place place' last last' a b end h ep e es ab =
      let ways = stub_ways_moved a.exits (a.back ∷ []) end (Some place) (suc last) (suc last') h es in
      let behind : F (suc last + length a.exits) ≡ suc last' + length (map (way_to F) a.exits) = behind_stubs a.exits (a.back ∷ []) end (Some place) (suc last) (suc last') h es ∙ ap (λ n. suc last' + n) (sym (length-map a.exits (way_to F))) in
      ap (λ n. record { out = n; within = Some (F place); exits = map (way_to F) (stub_ways a.exits (suc last)); back = record { to = F (suc last + length a.exits); loops = 0 } }) e
      ∙ ap (λ ws. record { out = last'; within = Some (F place); exits = ws; back = record { to = F (suc last + length a.exits); loops = 0 } }) ways
      ∙ ap (λ n. record { out = last'; within = Some (F place); exits = stub_ways (map (way_to F) a.exits) (suc last'); back = record { to = n; loops = 0 } }) behind
      ∙ ap (λ p. in_block p last' (moved F a)) ep
      ∙ ap (in_block place' last') ab

  -- Single lines.

  pub out_same : (a b : Around) → moved F a ≡ b → F a.out ≡ b.out
  out_same a b e = ap (λ (c : Around). c.out) e

  pub within_same : (a b : Around) → moved F a ≡ b → within_moved F a.within ≡ b.within
  within_same a b e = ap (λ (c : Around). c.within) e

  pub line_same : (s : Statement) (ways bodies ways' bodies' : List ℕ) (a b : Around) → map F ways ≡ ways' → map F bodies ≡ bodies' → moved F a ≡ b → MovesLine F (line s ways bodies None a) (line s ways' bodies' None b)
  line_same s ways bodies ways' bodies' a b hw hb e = record { is = ap (λ ns. line s ns (map F bodies) None (moved F a)) hw ∙ ap (λ ns. line s ways' ns None (moved F a)) hb ∙ ap (line s ways' bodies' None) e }

  pub line_out : (s : Statement) (next next' : ℕ) (w w' : Way) (a b : Around) → F next ≡ next' → way_to F w ≡ w' → moved F a ≡ b → Moves F (line s (next ∷ []) [] (Some w) a ∷ []) (line s (next' ∷ []) [] (Some w') b ∷ [])
  line_out s next next' w w' a b h k e =
      more_moved F (record { is = ap (λ n. line s (n ∷ []) [] (Some (way_to F w)) (moved F a)) h ∙ ap (λ x. line s (next' ∷ []) [] (Some x) (moved F a)) k ∙ ap (λ c. line s (next' ∷ []) [] (Some w') c) e }) (none_moved F)

  pub line_alone : (s : Statement) (next next' : ℕ) (a b : Around) → F next ≡ next' → moved F a ≡ b → Moves F (line s (next ∷ []) [] None a ∷ []) (line s (next' ∷ []) [] None b ∷ [])
  line_alone s next next' a b h e = more_moved F (line_same s (next ∷ []) [] (next' ∷ []) [] a b (one_place next next' h) refl e) (none_moved F)

  -- the step next of a for loop, the line that guards statements, the end of a construct
  pub next_moved : (f : For) (p q : ℕ) (a b : Around) (ways ways' : List ℕ) → F p ≡ q → map F ways ≡ ways' → moved F a ≡ b → MovesLine F (record { what = continues f; at = f.next_at; out = a.out; within = Some p; ways = ways; bodies = []; exit = None }) (record { what = continues f; at = f.next_at; out = b.out; within = Some q; ways = ways'; bodies = []; exit = None })
  next_moved f p q a b ways ways' k h e =
      record { is = ap (λ n. record { what = continues f; at = f.next_at; out = n; within = Some (F p); ways = map F ways; bodies = []; exit = None }) (out_same a b e) ∙ ap (λ ns. record { what = continues f; at = f.next_at; out = b.out; within = Some (F p); ways = ns; bodies = []; exit = None }) h ∙ ap (λ n. record { what = continues f; at = f.next_at; out = b.out; within = Some n; ways = ways'; bodies = []; exit = None }) k }

  pub guard_moved_to : (hs : Handlers) (end : Pos) (handling last : ℕ) (a : Around) (handling' last' e : ℕ) (v : Option ℕ) → HasAt lines handling (handlers_code hs handling last a) → F handling ≡ handling' → F last ≡ last' → ways_count a ≡ e → within_moved F a.within ≡ v →
      MovesLine F (guard_line hs end handling last (ways_count a) a.within) (guard_line_by flat_step hs end handling' last' e v)
  guard_moved_to hs end handling last a handling' last' e v h eh el ec ev =
      let w = within_moved F a.within in
      record { is = ap (λ gs. record { what = guards gs; at = end; out = F last; within = w; ways = []; bodies = []; exit = None }) (guards_moved hs handling last a handling' e h eh ec) ∙ ap (λ n. guard_line_by flat_step hs end handling' n e w) el ∙ ap (guard_line_by flat_step hs end handling' last' e) ev }

  pub end_moved : (c : Construct) (end : Pos) (next out next' out' : ℕ) (w v : Option ℕ) → F next ≡ next' → F out ≡ out' → within_moved F w ≡ v → Moves F (end_line c end next out w ∷ []) (end_line c end next' out' v ∷ [])
  end_moved c end next out next' out' w v h k e =
      more_moved F (record { is = ap (λ n. end_line c end n (F out) (within_moved F w)) h ∙ ap (λ n. end_line c end next' n (within_moved F w)) k ∙ ap (end_line c end next' out') e }) (none_moved F)

  -- a block with its end at a place, and what stands behind it
  pub around_block : (x : Body) (place place' last last' : ℕ) (a b : Around) → HasAt lines (suc last) (stubs_of x (a.exits ++ a.back ∷ []) (Some place) (suc last)) → F place ≡ place' → F last ≡ last' → F (suc last) ≡ suc last' → moved F a ≡ b → moved F (in_block place last a) ≡ in_block place' last' b
  around_block (body d begin s hs end) place place' last last' a b h ep e es eb = block_moved place place' last last' a b end h ep e es eb

  pub stubs_of_moved : (x : Body) (a b : Around) (place place' at at' : ℕ) → HasAt lines at (stubs_of x (a.exits ++ a.back ∷ []) (Some place) at) → F place ≡ place' → F at ≡ at' → moved F a ≡ b → Moves F (stubs_of x (a.exits ++ a.back ∷ []) (Some place) at) (stubs_of x (b.exits ++ b.back ∷ []) (Some place') at')
  stubs_of_moved (body d begin s hs end) a b place place' at at' h ep e eb =
      let it = stubs_moved (a.exits ++ a.back ∷ []) end (Some place) at at' h e in
      let w : Option ℕ = Some (F place) in
      record { is = it.is ∙ ap (λ ws. stubs ws end w at') (map-append (way_to F) a.exits (a.back ∷ [])) ∙ ap (λ (c : Around). stubs (c.exits ++ c.back ∷ []) end w at') eb ∙ ap (λ p. stubs (b.exits ++ b.back ∷ []) end (Some p) at') ep }
