-- A task that has something left to do stands at a line.
use Rattle.std.proofs.Common.{◌≡◌, ℕ, suc, ◌<◌, List, [], ◌∷◌, ◌++◌, length, drop, sym, ap, subst, arith, length-drop, Option}
use Rattle.aud_text.specs.declared.place.Pos.{Pos}
use Rattle.aud_meaning.specs.declared.state.Construct.{Construct}
use Rattle.aud_meaning.specs.declared.state.Construct.TheVariants as construct
use Rattle.aud_meaning.specs.Configuration.{Item, Do, InLoop, InFor, Begin, Ends, Leaving}
use Rattle.aud_code.specs.Places.{Way, Spot}
use Rattle.aud_layout.specs.Layout.{Line, Around, Code, line, statement_code}
use Rattle.aud_layout.specs.Shows.{HasAt, IsSettled, EndsAt, Stands, ShowsControl}
use Rattle.aud_layout.specs.Law.{IsLeft}
use Rattle.aud_layout.proofs.Standing.Places.{has_same, has_tail}
use Rattle.aud_layout.proofs.Standing.Control.{first}
use Rattle.aud_layout.proofs.Standing.Items.{for_by}

module _ (code : Code) where
  in_range : (place : ℕ) (l : Line) (b : List Line) → HasAt code.lines place (l ∷ b) → place < length code.lines
  in_range place l b h =
      let len : length (drop place code.lines) ≡ suc (length (b ++ h.rest)) = ap length h.is in
      omega (arith, len, length-drop place code.lines)

  end_in_range : (c : Construct) (end : Pos) (exits : List Way) (back : Way) (within : Option ℕ) (place : ℕ) (returns : List ℕ) (rest : List Item) → EndsAt c (λ a p rs. Stands code a p rs rest) code end exits back within place returns rest → place < length code.lines
  end_in_range construct.Block end exits back within place returns rest es = in_range place _ _ es.4
  end_in_range construct.Accept end exits back within place returns rest es = in_range place _ _ es.4
  end_in_range construct.Unit end exits back within place returns rest es = in_range place _ _ es.2

  at_line : (items : List Item) (around : Around) (place : ℕ) (returns : List ℕ) → Stands code around place returns items → IsSettled items → IsLeft items → place < length code.lines
  at_line [] around place returns st is some = absurd some
  at_line (Do s ∷ rest) around place returns st is some =
      let f = first s place st.0 around is in
      in_range place (line s f.ways f.bodies f.out around) f.more (has_same code.lines place _ _ f.is st.1)
  at_line (InLoop s ∷ rest) around place returns st is some = absurd is
  at_line (InFor s ∷ rest) around place returns st is some =
      for_by (λ s. HasAt code.lines st.2 (statement_code s st.2 st.0 st.1) → place < length code.lines)
      (λ f x y b has. subst (λ p. p < length code.lines) (sym st.3) (in_range (suc st.2) _ _ (has_tail code.lines st.2 _ _ has))) s st.5 st.6
  at_line (Begin c s h end ∷ rest) around place returns st is some = absurd is
  at_line (Ends c h end ∷ rest) around place returns st is some = end_in_range c end around.exits around.back around.within place returns rest st.1
  at_line (Leaving m end ∷ rest) around place returns st is some = in_range place _ _ st.3

pub place_law : (code : Code) (s : Spot) (items : List Item) → ShowsControl code s items → IsLeft items → s.place < length code.lines
place_law code s items h some = at_line code items h.around s.place s.returns h.stands h.settled some
