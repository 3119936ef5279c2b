-- A block that is left together with loops around it; an exception behind an activation.
use Rattle.std.proofs.Common.{◌≡◌, ℕ, suc, List, [], ◌∷◌, drop, length, Option, None, Some, refl, sym, subst, slice_get, inl, inr}
use Rattle.std.proofs.lemmas.Option.{same_Some}
use Rattle.aud_meaning.specs.declared.state.Pending.{Pending}
use Rattle.aud_meaning.specs.Configuration.{Purpose, for_body, for_block, for_loop, for_procedure, for_operation, for_entry, for_accept, Opened, Own}
use Rattle.aud_meaning.specs.Effects.{closed_by, out_of}
use Rattle.aud_code.specs.Instruction.{Activate}
use Rattle.aud_code.specs.Flat.{Flat, EndLine, Last, Does, Leaves}
use Rattle.aud_code.specs.Frames.{found, Found, At, LastFits, OpensBlock, OutOfLoops, BlockAround}
use Rattle.aud_code.specs.Seen.{IsSeen, Fewer, WithinSees, LastSees}
use Rattle.aud_code.specs.Sound.{Counts, IsSound, IsStart, IsStatement, ActivatesBefore}
use Rattle.aud_framed.specs.Held.{has_left, MayPend, OpenedBy, IsOpenAt, StandsBy, Holds, StandsAt}
use Rattle.aud_framed.specs.Ways.{StandsAtStep, LeavesBlock}
use Rattle.aud_framed.proofs.Steps.{less_one, fewer_one, end_sees, led_from, here, sees, led, loops_out, part_framed}
use Rattle.aud_framed.proofs.Bodies.{statement_stays}

is_block : (last : Last) (p : Purpose) → OpensBlock last → OpenedBy last p → p ≡ for_block
is_block last for_body b h = absurd h
is_block last for_block b h = refl
is_block last for_loop b h = absurd (subst OpensBlock h.1 b)
is_block last (for_procedure r) b h = absurd h
is_block last (for_operation n r) b h = absurd h
is_block last (for_entry n id served back) b h = absurd h
is_block last (for_accept id) b (inl h) = absurd (subst OpensBlock h.2 b)
is_block last (for_accept id) b (inr h) = absurd (subst OpensBlock h.1 b)

module _ (code : Flat) (table : List Counts) (tasks barriers seen : List ℕ) (sound : IsSound code) (fits : IsSeen code table tasks barriers seen) where
  pub leaves_framed : (place loops next : ℕ) (returns : List ℕ) (own : Own) (l : EndLine) → StandsAtStep code seen place l returns own.display own.opened → l.last ≡ Leaves loops next → LeavesBlock code seen loops next returns own
  leaves_framed place loops next returns own l s leaves = by l.within (subst (λ last. LastFits code.lines last place l) leaves (led code table tasks barriers seen sound fits place returns own.display own.opened l s)) (sees code table tasks barriers seen sound fits place returns own.display own.opened l s).within own.opened refl (here code table tasks barriers seen sound fits place returns own.display own.opened l s).1
    where
      many : Fewer seen (suc loops) (length own.display) next
      many = subst (λ last. LastSees code tasks barriers seen last (length own.display) l) leaves (sees code table tasks barriers seen sound fits place returns own.display own.opened l s).last

      at : (m : ℕ) (o : Opened) (os : List Opened) → own.opened ≡ o ∷ os → Fewer seen 1 (length own.display) m → (x : Option EndLine) → found code.lines m ≡ x → Found x (λ b. OpensBlock b.last × OutOfLoops code.lines loops b.within (At code.lines next)) → Found x (λ b. OpenedBy b.last o.purpose × (IsOpenAt code.lines seen m (length o.saved) × Holds code.lines seen b.within returns os × IsStart code.lines m)) → LeavesBlock code seen loops next returns own
      at m o os is one None e f h = absurd f
      at m o os is one (Some b) e f h =
          let suc_is = less_one code table tasks barriers seen sound fits (slice_get seen m) (length own.display) (length o.saved) one h.1.0 in
          record {
            o = o;
            os = os;
            opened = is;
            block = is_block b.last o.purpose f.0 h.0;
            stands = subst (λ xs. StandsAt code.lines seen None (record { place = next; returns = returns }) (out_of loops (closed_by xs own)).display (out_of loops (closed_by xs own)).opened) (sym is)
                (loops_out code table tasks barriers seen sound fits loops next returns b.within (record own { display = o.saved; opened = os }) f.1
                (end_sees code table tasks barriers seen sound fits m (length o.saved) (drop m code.lines) b refl e h.1.0).within
                (fewer_one code table tasks barriers seen sound fits (slice_get seen next) loops (length own.display) (length o.saved) many suc_is) h.1.1);
          }

      by : (w : Option ℕ) → BlockAround code.lines w (λ v. OutOfLoops code.lines loops v (At code.lines next)) → WithinSees seen w (length own.display) → (os : List Opened) → own.opened ≡ os → Holds code.lines seen w returns os → LeavesBlock code seen loops next returns own
      by None f t os is h = absurd f
      by (Some m) f t [] is h = absurd h
      by (Some m) f t (o ∷ os) is h = at m o os is t (found code.lines m) refl f h

  -- where a statement begins an exception may be pending
  pends : (go : Option ℕ → Type 0) (p : Pending) (place : ℕ) (display : List ℕ) (x : Option EndLine) → Found x (λ b. IsStatement b.last) → Found x (λ b. MayPend None b.last × StandsBy code.lines seen go (has_left None b.last) b place display) → Found x (λ b. MayPend (Some p) b.last × StandsBy code.lines seen go (has_left (Some p) b.last) b place display)
  pends go p place display None h s = absurd h
  pends go p place display (Some b) h s =
      let t = statement_stays code table tasks barriers seen sound fits (Some p) b.last h in
      (t.0, subst (λ gone. StandsBy code.lines seen go gone b place display) (sym t.1) s.1)

  first_statement : (next : ℕ) (ways : List ℕ) → slice_get ways 0 ≡ Some next → ActivatesBefore code.lines (Does Activate) ways → Found (found code.lines next) (λ b. IsStatement b.last)
  first_statement next [] e h = absurd cc
  first_statement next (x ∷ xs) e h = subst (λ y. Found (found code.lines y) (λ b. IsStatement b.last)) (same_Some x next e) h

  pub activates_framed : (place next : ℕ) (returns display : List ℕ) (os : List Opened) (l : EndLine) (p : Pending) → StandsAtStep code seen place l returns display os → l.last ≡ Does Activate → slice_get l.ways 0 ≡ Some next → StandsAt code.lines seen (Some p) (record { place = next; returns = returns }) display os
  activates_framed place next returns display os l p s does way =
      let led_on = (led_from code table tasks barriers seen sound fits place (drop place code.lines) l refl s.is).activates in
      pends (λ w. Holds code.lines seen w returns os) p next display (found code.lines next)
      (first_statement next l.ways way (subst (λ last. ActivatesBefore code.lines last l.ways) does led_on))
      (part_framed code table tasks barriers seen sound fits place returns display os l s 0 next Activate does (λ w. refl) (λ n. refl) way)
