-- Steps looked up where they stand, and what it means that lines fit their frames.
use Rattle.std.proofs.Common.{◌≡◌, ℕ, zero, suc, ◌+◌, List, [], ◌∷◌, ◌++◌, length, drop, map, Option, Some, None, refl, sym, ap, ◌∙◌, subst, arith}
use Rattle.std.proofs.Math.Seq.{drop-nil}
use Rattle.aud_text.specs.declared.place.Pos.{Pos}
use Rattle.aud_meaning.specs.declared.state.Construct.{Construct}
use Rattle.aud_code.specs.Places.{Way}
use Rattle.aud_code.specs.Instruction.{Instruction, Accept, Select, Block}
use Rattle.aud_code.specs.Flat.{Last, Does, EndLine, FlatLine, instructs, end, instructions_from}
use Rattle.aud_code.specs.Frames.{found_from, Found, OpensBlock, OpensAccept, found, At, AcceptAround, OutOfLoops, GoTo, OutOf, OutFits, Behind, LastFits}
use Rattle.aud_layout.specs.Layout.{Line, Around, around_out, end_line}
use Rattle.aud_layout.specs.Assembly as assembly
use Rattle.aud_layout.specs.Assembly.{instructions_by, offset, last_by, within_moved, assembled_from}
use Rattle.aud_layout.specs.Shows.{HasAt}
use Rattle.aud_layout.proofs.Standing.Places.{has_front, has_back}
use Rattle.aud_layout.proofs.Flat.Assembly.{its_instructions, from_step}

its_end : (is : List Instruction) (l : EndLine) (rest : List FlatLine) → found_from ((map instructs is ++ end l ∷ []) ++ rest) ≡ Some l
its_end [] l rest = refl
its_end (i ∷ is) l rest = its_end is l rest

module _ (f : ℕ → ℕ) where
  pub found_at : (lines : List Line) (n : ℕ) (l : Line) (rest : List Line) → drop n lines ≡ l ∷ rest → found_from (drop (offset lines n) (assembled_from f lines)) ≡ Some (assembly.end_line f l)
  found_at lines zero l rest e = subst (λ ls. found_from (drop (offset ls zero) (assembled_from f ls)) ≡ Some (assembly.end_line f l)) (sym e) (its_end (instructions_by l.what) (assembly.end_line f l) (assembled_from f rest))
  found_at [] (suc n) l rest e = absurd (omega (arith, ap length e))
  found_at (x ∷ xs) (suc n) l rest e = ap found_from (from_step f x xs (offset xs n)) ∙ found_at xs n l rest e

  pub instructions_found : (lines : List Line) (n : ℕ) (l : Line) (rest : List Line) → drop n lines ≡ l ∷ rest → instructions_from (drop (offset lines n) (assembled_from f lines)) ≡ instructions_by l.what
  instructions_found lines zero l rest e = subst (λ ls. instructions_from (drop (offset ls zero) (assembled_from f ls)) ≡ instructions_by l.what) (sym e) (its_instructions (instructions_by l.what) (assembly.end_line f l) (assembled_from f rest))
  instructions_found [] (suc n) l rest e = absurd (omega (arith, ap length e))
  instructions_found (x ∷ xs) (suc n) l rest e = ap instructions_from (from_step f x xs (offset xs n)) ∙ instructions_found xs n l rest e

  -- nothing stands behind all lines
  pub found_none : (lines : List Line) (n : ℕ) → drop n lines ≡ [] → found_from (drop (offset lines n) (assembled_from f lines)) ≡ None
  found_none [] n e = ap found_from (drop-nil n)
  found_none (x ∷ xs) zero e = absurd (omega (arith, ap length e))
  found_none (x ∷ xs) (suc n) e = ap found_from (from_step f x xs (offset xs n)) ∙ found_none xs n e

module _ (lines : List Line) where
  abbrev F : ℕ → ℕ
  F = offset lines

  abbrev X : List FlatLine
  X = assembled_from (offset lines) lines

  abbrev M : Option ℕ → Option ℕ
  M = within_moved (offset lines)

  -- Steps that stand at a place of the layout.

  pub at_step : (at : ℕ) (l : Line) (b : List Line) → HasAt lines at (l ∷ b) → found X (F at) ≡ Some (assembly.end_line F l)
  at_step at l b h = found_at F lines at l (b ++ h.rest) h.is

  -- its instructions
  pub its_step : (at : ℕ) (l : Line) (b : List Line) (P : List Instruction → Type 0) → HasAt lines at (l ∷ b) → P (instructions_by l.what) → P (instructions_from (drop (F at) X))
  its_step at l b P h p = subst P (sym (instructions_found F lines at l (b ++ h.rest) h.is)) p

  pub found_is : (at : ℕ) (l : Line) (b : List Line) (P : EndLine → Type 0) → HasAt lines at (l ∷ b) → P (assembly.end_line F l) → Found (found X (F at)) P
  found_is at l b P h p = subst (λ o. Found o P) (sym (at_step at l b h)) p

  pub at_line : (at : ℕ) (l : Line) (b : List Line) → HasAt lines at (l ∷ b) → At X (F at) (M l.within)
  at_line at l b h = found_is at l b (λ e. e.within ≡ M l.within) h refl

  -- Lines that fit, the first of them at a place.

  pub record LineFits (at : ℕ) (l : Line) : Type 0 where
    pub is : LastFits X (last_by F l.what) (F at) (assembly.end_line F l)

  pub data EachFits : ℕ → List Line → Type 0 where
    no_lines : {at : ℕ} → EachFits at []
    one_and : {at : ℕ} {l : Line} {ls : List Line} → LineFits at l → EachFits (suc at) ls → EachFits at (l ∷ ls)

  pub both : (a b : List Line) (at n : ℕ) → length a ≡ n → EachFits at a → EachFits (at + n) b → EachFits at (a ++ b)
  both [] b at n e h k = let same : at + n ≡ at = omega (arith, e) in subst (λ m. EachFits m b) same k
  both (l ∷ ls) b at n e (one_and h hs) k =
      let same : at + n ≡ suc at + length ls = omega (arith, e) in
      one_and h (both ls b (suc at) (length ls) refl hs (subst (λ m. EachFits m b) same k))

  -- lines in two parts
  pub record Split (a b : List Line) (at n : ℕ) : Type 0 where
    pub front : HasAt lines at a
    pub back : HasAt lines (at + n) b
    pub join : EachFits at a → EachFits (at + n) b → EachFits at (a ++ b)

  pub split : (a b : List Line) (at n : ℕ) → length a ≡ n → HasAt lines at (a ++ b) → Split a b at n
  split a b at n e h = record { front = has_front lines at a b h; back = has_back lines at n a b e h; join = both a b at n e }

  -- What surrounds a statement, and what is within a construct.

  abbrev pub WayOut : Option ℕ → Way → Type 0
  WayOut w x = OutOfLoops X x.loops w (At X (F x.to))

  abbrev pub WaysOut : Option ℕ → List Way → Type 0
  WaysOut w [] = Unit {0}
  WaysOut w (x ∷ xs) = WayOut w x × WaysOut w xs

  pub record AroundFits (a : Around) : Type 0 where
    pub exits : WaysOut (M a.within) a.exits
    pub back : WayOut (M a.within) a.back
    pub out : OutFits X (M a.within) (F a.out)

  -- there exceptions go to a line that guards statements, or to the construct's end
  pub record InsideFits (a : Around) : Type 0 where
    pub exits : WaysOut (M a.within) a.exits
    pub back : WayOut (M a.within) a.back
    pub goes : (n : ℕ) → GoTo X (M a.within) n → OutFits X (M a.within) n

  pub within_inside : (n : ℕ) (a : Around) → InsideFits a → GoTo X (M a.within) (F n) → AroundFits (around_out n a)
  within_inside n a i g = record { exits = i.exits; back = i.back; out = i.goes (F n) g }

  -- the end of a construct fits, wherever it stands
  abbrev pub EndFits : Construct → ℕ → ℕ → Option ℕ → Type 0
  EndFits c next out w = (at : ℕ) (pos : Pos) → LineFits at (end_line c pos next out w)

  -- Steps that open frames.

  block_goes : (last : Last) (m loops_out out : ℕ) → OpensBlock last → GoTo X (Some m) out → OutOf X last m loops_out out
  block_goes (Does (Block region)) m loops_out out h g = g
  block_goes last m loops_out out h g = absurd h

  accept_goes : (last : Last) (m loops_out out : ℕ) → OpensAccept last → GoTo X (Some m) out → OutOf X last m loops_out out
  accept_goes (Does (Accept entry region)) m loops_out out h g = g
  accept_goes (Does (Select has_else)) m loops_out out h g = g
  accept_goes last m loops_out out h g = absurd h

  pub block_out : (at : ℕ) (l : Line) (b : List Line) → HasAt lines at (l ∷ b) → OpensBlock (last_by F l.what) → (n : ℕ) → GoTo X (Some (F at)) n → OutFits X (Some (F at)) n
  block_out at l b h o n g = found_is at l b (λ e. OutOf X e.last (F at) e.out n) h (block_goes (last_by F l.what) (F at) (F l.out) n o g)

  -- the step of an accept or of a selective accept, which stands within w
  pub record AcceptFits (opener : ℕ) (w : Option ℕ) : Type 0 where
    pub ends : (next out : ℕ) → Behind X next out (M w) → AcceptAround X (Some (F opener)) (Behind X next out)
    pub goes : (n : ℕ) → GoTo X (Some (F opener)) n → OutFits X (Some (F opener)) n

  pub accept_fits : (at : ℕ) (l : Line) (b : List Line) → HasAt lines at (l ∷ b) → OpensAccept (last_by F l.what) → AcceptFits at l.within
  accept_fits at l b h o = record {
    ends = λ next out g. found_is at l b (λ e. OpensAccept e.last × Behind X next out e.within) h (o, g);
    goes = λ n g. found_is at l b (λ e. OutOf X e.last (F at) e.out n) h (accept_goes (last_by F l.what) (F at) (F l.out) n o g);
  }
