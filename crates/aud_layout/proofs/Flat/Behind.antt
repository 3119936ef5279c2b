-- Where the steps begin in a program's code: behind each part of the layout are the instructions and endings of its lines.
use Rattle.std.proofs.Common.{◌≡◌, ℕ, zero, suc, ◌+◌, List, [], ◌∷◌, ◌++◌, length, drop, refl, sym, ap, ◌∙◌, subst, arith}
use Rattle.aud_text.specs.declared.place.Pos.{Pos}
use Rattle.aud_typed.specs.Tree.{Statement, Part, Handlers, Body, body, Doing, Alternatives}
use Rattle.aud_meaning.specs.declared.state.Construct.{Construct}
use Rattle.aud_layout.specs.Layout.{one_line, part_place, What, does, continues, guards, ends, leaves, Line, Around, ways_count, around_out, statement_size, part_size, handlers_size, body_size, doing_size, offered_size, main_size, end_place, statement_code, part_code, handlers_code, body_code, doing_code, offered_code, statement_size_by, part_size_by, handlers_size_by, body_size_by, doing_size_by, offered_size_by, main_size_by, end_place_by}
use Rattle.aud_layout.specs.Assembly.{instructions_by, line_size, offset}
use Rattle.aud_layout.specs.Written.{flat_step}
use Rattle.aud_layout.specs.Shows.{HasAt}
use Rattle.aud_layout.proofs.Standing.Places.{has_front, has_back, has_tail, has_all, BodyAt, body_at, OfferAt, length-statement, length-part, length-handlers, length-body, length-doing, length-offered}
use Rattle.aud_layout.proofs.Flat.Assembly.{offset_zero}
use Rattle.aud_layout.proofs.Standing.Sizes.{total, Total, total-statement, total-part, total-handlers, total-body, total-doing, total-offered}

-- the place behind a line
next_offset : (lines : List Line) (n : ℕ) (l : Line) (rest : List Line) → drop n lines ≡ l ∷ rest → offset lines (suc n) ≡ offset lines n + line_size l
next_offset lines zero l rest e = subst (λ ls. offset ls (suc zero) ≡ offset ls zero + line_size l) (sym e) (omega (arith, offset_zero rest))
next_offset [] (suc n) l rest e = absurd (omega (arith, ap length e))
next_offset (x ∷ xs) (suc n) l rest e = omega (arith, next_offset xs n l rest e)

pub adds : (s : Statement) (m n : ℕ) → flat_step s (m + n) ≡ flat_step s m + n
adds s m n = omega arith

-- a line counts with its instructions
pub total_more : (l : Line) (ls : List Line) → total flat_step adds (l ∷ ls) ≡ line_size l + total flat_step adds ls
total_more l ls = by_what l.what
  where
    by_what : (w : What) → total flat_step adds (record l { what = w } ∷ ls) ≡ suc (length (instructions_by w)) + total flat_step adds ls
    by_what (does s) = omega arith
    by_what (continues f) = omega arith
    by_what (guards gs) = omega arith
    by_what (ends c next) = omega arith
    by_what (leaves n next) = omega arith

module _ (lines : List Line) where
  abbrev F : ℕ → ℕ
  F = offset lines

  -- behind these lines
  behind_lines : (part : List Line) (at : ℕ) → HasAt lines at part → F (at + length part) ≡ F at + total flat_step adds part
  behind_lines [] at h = let same : at + 0 ≡ at = omega arith in omega (arith, ap F same)
  behind_lines (l ∷ ls) at h =
      let same : at + suc (length ls) ≡ suc at + length ls = omega arith in
      let more = behind_lines ls (suc at) (has_tail lines at l ls h) in
      let one = next_offset lines at l (ls ++ h.rest) h.is in
      omega (arith, ap F same, more, one, total_more l ls)

  -- behind lines as many as n, which become m
  past : (part : List Line) (at at' n m m' : ℕ) → HasAt lines at part → length part ≡ n → Total flat_step adds part m → m ≡ m' → F at ≡ at' → F (at + n) ≡ at' + m'
  past part at at' n m m' h en em e ea = sym (ap (λ k. F (at + k)) en) ∙ behind_lines part at h ∙ ap (λ k. F at + k) (em.is ∙ e) ∙ ap (λ k. k + m') ea

  -- behind the first of these lines
  pub record BehindLine (l : Line) (more : List Line) (at at' : ℕ) : Type 0 where
    pub rest : HasAt lines (suc at) more
    pub behind : F (suc at) ≡ suc (at' + length (instructions_by l.what))

  pub behind_line : (l : Line) (rest : List Line) (at at' : ℕ) → HasAt lines at (l ∷ rest) → F at ≡ at' → BehindLine l rest at at'
  behind_line l rest at at' h e = record { rest = has_tail lines at l rest h; behind = next_offset lines at l (rest ++ h.rest) h.is ∙ ap (λ k. k + line_size l) e ∙ omega arith }

  -- behind a line without instructions
  pub behind_plain : (l : Line) (rest : List Line) (at at' : ℕ) → instructions_by l.what ≡ [] → HasAt lines at (l ∷ rest) → F at ≡ at' → F (suc at) ≡ suc at'
  behind_plain l rest at at' none h e =
      let k = ap length none in
      let it = behind_line l rest at at' h e in
      omega (arith, it.behind, k)

  behind_statement : (s : Statement) (at next : ℕ) (a : Around) (at' e : ℕ) → HasAt lines at (statement_code s at next a) → F at ≡ at' → ways_count a ≡ e → F (at + statement_size s (ways_count a)) ≡ at' + statement_size_by flat_step s e
  behind_statement s at next a at' e h ea ec =
      past (statement_code s at next a) at at' _ _ _ h (length-statement s at next a) (total-statement flat_step adds one_line s at next a) (ap (statement_size_by flat_step s) ec) ea

  behind_part : (p : Part) (at next : ℕ) (a : Around) (at' e : ℕ) → HasAt lines at (part_code p at next a) → F at ≡ at' → ways_count a ≡ e → F (at + part_size p (ways_count a)) ≡ at' + part_size_by flat_step p e
  behind_part p at next a at' e h ea ec =
      past (part_code p at next a) at at' _ _ _ h (length-part p at next a) (total-part flat_step adds one_line p at next a) (ap (part_size_by flat_step p) ec) ea

  behind_handlers : (hs : Handlers) (at next : ℕ) (a : Around) (at' e : ℕ) → HasAt lines at (handlers_code hs at next a) → F at ≡ at' → ways_count a ≡ e → F (at + handlers_size hs (ways_count a)) ≡ at' + handlers_size_by flat_step hs e
  behind_handlers hs at next a at' e h ea ec =
      past (handlers_code hs at next a) at at' _ _ _ h (length-handlers hs at next a) (total-handlers flat_step adds one_line hs at next a) (ap (handlers_size_by flat_step hs) ec) ea

  behind_doing : (d : Doing) (opener at next out : ℕ) (at' : ℕ) → HasAt lines at (doing_code d opener at next out) → F at ≡ at' → F (at + doing_size d) ≡ at' + doing_size_by flat_step d
  behind_doing d opener at next out at' h ea = past (doing_code d opener at next out) at at' _ _ _ h (length-doing d opener at next out) (total-doing flat_step adds one_line d opener at next out) refl ea

  behind_offered : (o : Alternatives) (opener at next : ℕ) (a : Around) (at' e : ℕ) → HasAt lines at (offered_code o opener at next a) → F at ≡ at' → ways_count a ≡ e → F (at + offered_size o (ways_count a)) ≡ at' + offered_size_by flat_step o e
  behind_offered o opener at next a at' e h ea ec =
      past (offered_code o opener at next a) at at' _ _ _ h (length-offered o opener at next a) (total-offered flat_step adds one_line o opener at next a) (ap (offered_size_by flat_step o) ec) ea

  behind_body : (c : Construct) (b : Body) (at next out : ℕ) (a : Around) (at' e : ℕ) → HasAt lines at (body_code c b at next out a) → F at ≡ at' → ways_count a ≡ e → F (at + body_size b (ways_count a)) ≡ at' + body_size_by flat_step b e
  behind_body c b at next out a at' e h ea ec =
      past (body_code c b at next out a) at at' _ _ _ h (length-body c b at next out a) (total-body flat_step adds one_line c b at next out a) (ap (body_size_by flat_step b) ec) ea

  -- the first of two parts, the second, and what is behind the first
  pub record Halves (first second : List Line) (at n at' m : ℕ) : Type 0 where
    pub front : HasAt lines at first
    pub back : HasAt lines (at + n) second
    pub behind : F (at + n) ≡ at' + m

  halves : (first second : List Line) (at n at' m : ℕ) → length first ≡ n → HasAt lines at (first ++ second) → (HasAt lines at first → F (at + n) ≡ at' + m) → Halves first second at n at' m
  halves first second at n at' m e h behind =
      let front = has_front lines at first second h in
      record { front = front; back = has_back lines at n first second e h; behind = behind front }

  pub statement_and : (s : Statement) (at next : ℕ) (a : Around) (more : List Line) (at' e : ℕ) → HasAt lines at (statement_code s at next a ++ more) → F at ≡ at' → ways_count a ≡ e → Halves (statement_code s at next a) more at (statement_size s (ways_count a)) at' (statement_size_by flat_step s e)
  statement_and s at next a more at' e h ea ec = halves (statement_code s at next a) more at _ at' _ (length-statement s at next a) h (λ k. behind_statement s at next a at' e k ea ec)

  pub part_and : (p : Part) (at next : ℕ) (a : Around) (more : List Line) (at' e : ℕ) → HasAt lines at (part_code p at next a ++ more) → F at ≡ at' → ways_count a ≡ e → Halves (part_code p at next a) more at (part_size p (ways_count a)) at' (part_size_by flat_step p e)
  part_and p at next a more at' e h ea ec = halves (part_code p at next a) more at _ at' _ (length-part p at next a) h (λ k. behind_part p at next a at' e k ea ec)

  pub offered_and : (o : Alternatives) (opener at next : ℕ) (a : Around) (more : List Line) (at' e : ℕ) → HasAt lines at (offered_code o opener at next a ++ more) → F at ≡ at' → ways_count a ≡ e → Halves (offered_code o opener at next a) more at (offered_size o (ways_count a)) at' (offered_size_by flat_step o e)
  offered_and o opener at next a more at' e h ea ec = halves (offered_code o opener at next a) more at _ at' _ (length-offered o opener at next a) h (λ k. behind_offered o opener at next a at' e k ea ec)

  pub body_and : (c : Construct) (b : Body) (at next out : ℕ) (a : Around) (more : List Line) (at' e : ℕ) → HasAt lines at (body_code c b at next out a ++ more) → F at ≡ at' → ways_count a ≡ e → Halves (body_code c b at next out a) more at (body_size b (ways_count a)) at' (body_size_by flat_step b e)
  body_and c b at next out a more at' e h ea ec = halves (body_code c b at next out a) more at _ at' _ (length-body c b at next out a) h (λ k. behind_body c b at next out a at' e k ea ec)

  -- behind the parts of a body
  pub record PassedBody (d : Part) (s : Statement) (hs : Handlers) (at : ℕ) (a : Around) (at' e : ℕ) : Type 0 where
    pub declarations : F (at + part_size d (ways_count a)) ≡ at' + part_size_by flat_step d e
    pub statements : F (at + part_size d (ways_count a) + statement_size s (ways_count a)) ≡ at' + part_size_by flat_step d e + statement_size_by flat_step s e
    pub guarding : F (suc (at + part_size d (ways_count a) + statement_size s (ways_count a))) ≡ suc (at' + part_size_by flat_step d e + statement_size_by flat_step s e)
    pub handlers : F (at + part_size d (ways_count a) + main_size s hs (ways_count a)) ≡ at' + part_size_by flat_step d e + main_size_by flat_step s hs e

  pub passed_body : (c : Construct) (d : Part) (s : Statement) (hs : Handlers) (end : Pos) (at next out : ℕ) (a : Around) (more : List Line) (at' e : ℕ) → BodyAt lines c d s hs end at next out a more → F at ≡ at' → ways_count a ≡ e → PassedBody d s hs at a at' e
  passed_body c d s hs end at next out a more at' e it ea ec =
      let w = ways_count a in
      let guard = at + part_size d w + statement_size s w in
      let last = at + part_size d w + main_size s hs w in
      let p1 = behind_part d at _ (around_out last a) at' e it.declarations ea ec in
      let p2 = behind_statement s _ last (around_out guard a) _ e it.main.statements p1 ec in
      let p3 = behind_plain _ _ guard _ refl it.main.guarding p2 in
      let p4 = behind_handlers hs (suc guard) last (around_out last a) _ e it.main.handlers p3 ec in
      let same : last ≡ suc guard + handlers_size hs w = omega arith in
      record { declarations = p1; statements = p2; guarding = p3; handlers = ap F same ∙ p4 ∙ omega arith }

  -- the end of a body
  pub behind_main : (c : Construct) (b : Body) (at next out : ℕ) (a : Around) (at' e : ℕ) → HasAt lines at (body_code c b at next out a) → F at ≡ at' → ways_count a ≡ e → F (end_place b at (ways_count a)) ≡ end_place_by flat_step b at' e
  behind_main c (body d begin s hs end) at next out a at' e h ea ec =
      let it = passed_body c d s hs end at next out a [] at' e (body_at lines c d begin s hs end at next out a [] (has_all lines at _ h)) ea ec in
      it.handlers

  -- behind what an accept of a select does, behind what follows it
  pub record PassedOffer (d : Doing) (p : Part) (at : ℕ) (a : Around) (at' e : ℕ) : Type 0 where
    pub after : F (at + doing_size d) ≡ at' + doing_size_by flat_step d
    pub later : F (at + doing_size d + part_size p (ways_count a)) ≡ at' + doing_size_by flat_step d + part_size_by flat_step p e

  pub passed_offer : (d : Doing) (p : Part) (more : Alternatives) (opener at next : ℕ) (a : Around) (at' e : ℕ) → OfferAt lines d p more opener at next a → F at ≡ at' → ways_count a ≡ e → PassedOffer d p at a at' e
  passed_offer d p more opener at next a at' e it ea ec =
      let behind = behind_doing d opener at (part_place p (at + doing_size d) next) a.out at' it.doing ea in
      record { after = behind; later = behind_part p (at + doing_size d) next a _ e it.part behind ec }
