-- The accepts that a step opens are those of its instructions, and lead into what they do.
use Rattle.std.proofs.Common.{◌≡◌, ℕ, zero, suc, List, [], ◌∷◌, ◌++◌, drop, length, Option, None, Some, Bool, true, false, Result, Ok, Err, if◌then◌else◌, refl, sym, subst, slice_get}
use Rattle.aud_text.specs.declared.raise.Raise.{Raise}
use Rattle.aud_meaning.specs.declared.state.OpenAccept.{OpenAccept}
use Rattle.aud_meaning.specs.Configuration.{Opened, Waits}
use Rattle.aud_meaning.specs.Control.{Scene}
use Rattle.aud_code.specs.Instruction.{Instruction, Push, Load, LoadElement, OnOne, OnTwo, Count, Check, Cell, PushTruth, Truth, Negate, Relate, Compare, Combine, PassIfFalse, PassIfTrue, IsCallable, IsTerminated, Find, FindElement, LoadFound, Pass, PassCopy, AppendText, AppendImage, AppendTruth, AppendNewLine, Name, Milliseconds, Seconds, BeginObject, Component, OpensAccept, OpensDelay, OpensTerminate, Mark, PassUnlessNext, SetTime, Operands, Ended, Marked, Accept, Select, no_operands, Reached, Raised, Lost}
use Rattle.aud_code.specs.Eval.{on_result, on_one, on_two, Then, act, eval, is_next, opens_accept, opens_delay, opens_terminate}
use Rattle.aud_code.specs.Flat.{Flat, FlatLine, instructs, end, EndLine, Does, instructions_from, instructions_at}
use Rattle.aud_code.specs.Frames.{found_from, IsWritten, OpensWith, EachOpened, BodyAt, BodiesAt, LastFits}
use Rattle.aud_code.specs.Seen.{IsSeen, DoingSees, BodiesSee, OpenedSees, StepSees, LastSees, LineSees}
use Rattle.aud_code.specs.Sound.{Counts, IsSound}
use Rattle.aud_framed.specs.Waiting.{IsOffered, EachOffered}
use Rattle.aud_framed.specs.Ways.{StandsAtStep}
use Rattle.aud_framed.proofs.Steps.{line_at, as_many, here, sees, led}

-- Evaluation.

module _ (P : OpenAccept → Type 0) where
  abbrev pub Each : List OpenAccept → Type 0
  Each [] = Unit {0}
  Each (a ∷ more) = P a × Each more

  one_more : (xs : List OpenAccept) (a : OpenAccept) → Each xs → P a → Each (xs ++ a ∷ [])
  one_more [] a h p = (p, tt {0})
  one_more (x ∷ xs) a h p = (h.0, one_more xs a h.1 p)

  -- all that are open once the ending is reached
  abbrev pub Opens : Ended → Type 0
  Opens (Reached o) = Each o.waits.accepts
  Opens (Marked o) = Unit {0}
  Opens (Raised raise) = Unit {0}
  Opens Lost = Unit {0}

  result : {A : Type 0} (r : Result A Raise) (go : A → Ended) → ((x : A) → Opens (go x)) → Opens (on_result r go)
  result (Ok x) go h = h x
  result (Err raise) go h = tt {0}

  one : {A : Type 0} (xs : List A) (go : A → List A → Ended) → ((x : A) (rest : List A) → Opens (go x rest)) → Opens (on_one xs go)
  one [] go k = tt {0}
  one (x ∷ rest) go k = k x rest

  two : {A : Type 0} (xs : List A) (go : A → A → List A → Ended) → ((x y : A) (rest : List A) → Opens (go x y rest)) → Opens (on_two xs go)
  two [] go k = tt {0}
  two (y ∷ []) go k = tt {0}
  two (y ∷ x ∷ rest) go k = k x y rest

  either : (b : Bool) (x y : Ended) → Opens x → Opens y → Opens (if b then x else y)
  either true x y h k = h
  either false x y h k = k

  opens : (a : OpenAccept) (b : Bool) (w : Waits) → Each w.accepts → P a → Each (opens_accept a b w).accepts
  opens a true w h p = one_more w.accepts a h p
  opens a false w h p = h

  delays : (n : ℕ) (b : Bool) (w : Waits) → Each w.accepts → Each (opens_delay n b w).accepts
  delays n true w h = h
  delays n false w h = h

  terminates : (b : Bool) (w : Waits) → Each w.accepts → Each (opens_terminate b w).accepts
  terminates true w h = h
  terminates false w h = h

  module _ (s : Scene) (go : Then) (k : (n : ℕ) (o : Operands) → Each o.waits.accepts → Opens (go n o)) where
    keeps : (i : Instruction) (o : Operands) → OpensWith i P → Each o.waits.accepts → Opens (act false s i go o)
    keeps (Push z) o p h = k 0 _ h
    keeps (Load v) o p h = k 0 _ h
    keeps (LoadElement a) o p h = one o.integers _ (λ x rest. result _ _ (λ v. k 0 _ h))
    keeps (OnOne operator) o p h = one o.integers _ (λ x rest. result _ _ (λ v. k 0 _ h))
    keeps (OnTwo operator) o p h = two o.integers _ (λ x y rest. result _ _ (λ v. k 0 _ h))
    keeps (Count v entry) o p h = k 0 _ h
    keeps (Check t) o p h = one o.integers _ (λ x rest. result _ _ (λ v. k 0 _ h))
    keeps Cell o p h = one o.booleans _ (λ x rest. k 0 _ h)
    keeps (PushTruth b) o p h = k 0 _ h
    keeps Truth o p h = one o.integers _ (λ x rest. k 0 _ h)
    keeps Negate o p h = one o.booleans _ (λ x rest. k 0 _ h)
    keeps (Relate operator) o p h = two o.integers _ (λ x y rest. k 0 _ h)
    keeps (Compare operator) o p h = two o.booleans _ (λ x y rest. k 0 _ h)
    keeps (Combine operator) o p h = two o.booleans _ (λ x y rest. k 0 _ h)
    keeps (PassIfFalse n) o p h = one o.booleans _ (λ b rest. either b _ _ (k 0 _ h) (k n _ h))
    keeps (PassIfTrue n) o p h = one o.booleans _ (λ b rest. either b _ _ (k n _ h) (k 0 _ h))
    keeps IsCallable o p h = one o.integers _ (λ x rest. k 0 _ h)
    keeps IsTerminated o p h = one o.integers _ (λ x rest. k 0 _ h)
    keeps (Find v t) o p h = k 0 _ h
    keeps (FindElement a t) o p h = one o.integers _ (λ x rest. result _ _ (λ v. k 0 _ h))
    keeps LoadFound o p h = one o.targets _ (λ x rest. k 0 _ h)
    keeps Pass o p h = one o.integers _ (λ x rest. k 0 _ h)
    keeps (PassCopy n) o p h = one o.integers _ (λ x rest. one o.targets _ (λ t targets. k 0 _ h))
    keeps (AppendText text) o p h = k 0 _ h
    keeps AppendImage o p h = one o.integers _ (λ x rest. k 0 _ h)
    keeps AppendTruth o p h = one o.booleans _ (λ x rest. k 0 _ h)
    keeps AppendNewLine o p h = k 0 _ h
    keeps Name o p h = one o.integers _ (λ x rest. k 0 _ h)
    keeps (Milliseconds n) o p h = k 0 _ h
    keeps Seconds o p h = one o.integers _ (λ x rest. k 0 _ h)
    keeps BeginObject o p h = k 0 _ h
    keeps Component o p h = one o.integers _ (λ x rest. k 0 _ h)
    keeps (OpensAccept a) o p h = one o.booleans _ (λ b rest. k 0 _ (opens a b o.waits h p))
    keeps (OpensDelay n) o p h = one o.booleans _ (λ b rest. k 0 _ (delays n b o.waits h))
    keeps OpensTerminate o p h = one o.booleans _ (λ b rest. k 0 _ (terminates b o.waits h))
    keeps Mark o p h = k 0 _ h
    keeps (PassUnlessNext n m) o p h = either (is_next n o.waits.delays) _ _ (k 0 _ h) (k m _ h)
    keeps (SetTime n) o p h = k 0 _ h

  pub all_open : (s : Scene) (is : List Instruction) (n : ℕ) (o : Operands) → EachOpened is P → Each o.waits.accepts → Opens (eval false s is n o)
  all_open s [] n o p h = h
  all_open s (i ∷ is) (suc n) o p h = all_open s is n o p.1 h
  all_open s (i ∷ is) zero o p h = keeps s (eval false s is) (λ m q k. all_open s is m q p.1 k) i o p.0 h

-- Code.

each_both : (is : List Instruction) (P Q R : OpenAccept → Type 0) → ((a : OpenAccept) → P a → Q a → R a) → EachOpened is P → EachOpened is Q → EachOpened is R
each_both [] P Q R f p q = tt {0}
each_both (i ∷ is) P Q R f p q = (with_both i p.0 q.0, each_both is P Q R f p.1 q.1)
  where
    with_both : (i : Instruction) → OpensWith i P → OpensWith i Q → OpensWith i R
    with_both (Push z) p q = tt {0}
    with_both (Load v) p q = tt {0}
    with_both (LoadElement a) p q = tt {0}
    with_both (OnOne operator) p q = tt {0}
    with_both (OnTwo operator) p q = tt {0}
    with_both (Count v entry) p q = tt {0}
    with_both (Check t) p q = tt {0}
    with_both Cell p q = tt {0}
    with_both (PushTruth b) p q = tt {0}
    with_both Truth p q = tt {0}
    with_both Negate p q = tt {0}
    with_both (Relate operator) p q = tt {0}
    with_both (Compare operator) p q = tt {0}
    with_both (Combine operator) p q = tt {0}
    with_both (PassIfFalse n) p q = tt {0}
    with_both (PassIfTrue n) p q = tt {0}
    with_both IsCallable p q = tt {0}
    with_both IsTerminated p q = tt {0}
    with_both (Find v t) p q = tt {0}
    with_both (FindElement a t) p q = tt {0}
    with_both LoadFound p q = tt {0}
    with_both Pass p q = tt {0}
    with_both (PassCopy n) p q = tt {0}
    with_both (AppendText text) p q = tt {0}
    with_both AppendImage p q = tt {0}
    with_both AppendTruth p q = tt {0}
    with_both AppendNewLine p q = tt {0}
    with_both Name p q = tt {0}
    with_both (Milliseconds n) p q = tt {0}
    with_both Seconds p q = tt {0}
    with_both BeginObject p q = tt {0}
    with_both Component p q = tt {0}
    with_both (OpensAccept a) p q = f a p q
    with_both (OpensDelay n) p q = tt {0}
    with_both OpensTerminate p q = tt {0}
    with_both Mark p q = tt {0}
    with_both (PassUnlessNext n m) p q = tt {0}
    with_both (SetTime n) p q = tt {0}

each_offered : (code : Flat) (seen : List ℕ) (l : EndLine) (place n : ℕ) (xs : List OpenAccept) → Each (IsOffered code.lines seen l place n) xs → EachOffered code.lines seen l place n xs
each_offered code seen l place n [] h = tt {0}
each_offered code seen l place n (a ∷ more) h = (h.0, each_offered code seen l place n more h.1)

both_written : (x : Option ℕ) (P Q : ℕ → Type 0) → IsWritten x P → IsWritten x Q → IsWritten x (λ n. P n × Q n)
both_written None P Q p q = absurd p
both_written (Some n) P Q p q = (p, q)

module _ (code : Flat) (table : List Counts) (tasks barriers seen : List ℕ) (sound : IsSound code) (fits : IsSeen code table tasks barriers seen) where
  -- the table says it of each accept that a step's instructions open
  opened_sees : (p n : ℕ) (ls : List FlatLine) (l : EndLine) → drop p code.lines ≡ ls → found_from ls ≡ Some l → slice_get seen p ≡ Some n → EachOpened (instructions_from ls) (λ a. OpenedSees seen l.last l.bodies n a)
  opened_sees p n [] l d f s = tt {0}
  opened_sees p n (end x ∷ ls) l d f s = tt {0}
  opened_sees p n (instructs i ∷ ls) l d f s =
      let g = line_at code table tasks barriers seen sound fits p code.lines (instructs i) ls d in
      let h = subst (λ o. IsWritten o (LineSees code table tasks barriers seen (slice_get code.lines p) p)) s (fits.each p g.within) in
      let k = subst (λ o. LineSees code table tasks barriers seen o p n) g.at h in (
        subst (λ x. OpensWith i (λ a. StepSees seen x n a)) (subst (λ ls. found_from ls ≡ Some l) (sym d) f) k.1.1,
        opened_sees (suc p) n ls l g.behind f (as_many code table tasks barriers seen sound fits (slice_get seen (suc p)) n k.1.0),
      )

  module _ (place : ℕ) (returns display : List ℕ) (os : List Opened) (l : EndLine) (s : StandsAtStep code seen place l returns display os) where
    abbrev pub Offered : OpenAccept → Type 0
    Offered a = IsOffered code.lines seen l place (length display) a

    fit : LastFits code.lines l.last place l
    fit = led code table tasks barriers seen sound fits place returns display os l s

    seeing : LastSees code tasks barriers seen l.last (length display) l
    seeing = (sees code table tasks barriers seen sound fits place returns display os l s).last

    first : (entry : ℕ) (region : Option ℕ) (bs : List ℕ) → BodiesAt code.lines (Accept entry region) l.within place bs → BodiesSee seen (Accept entry region) (length display) bs → IsWritten (slice_get bs 0) (λ b. BodyAt code.lines region l.within place b × DoingSees seen region (length display) b)
    first entry region [] f g = absurd f
    first entry region (b ∷ bs) f g = (f.0, g.0)

    pub accept_offers : (a : OpenAccept) → a.alternative ≡ 0 → l.last ≡ Does (Accept a.entry a.region) → IsOffered code.lines seen l place (length display) a
    accept_offers a zero_is does =
        let f = subst (λ last. LastFits code.lines last place l) does fit in
        let g = subst (λ last. LastSees code tasks barriers seen last (length display) l) does seeing in
        subst (λ k. IsWritten (slice_get l.bodies k) (λ b. BodyAt code.lines a.region l.within place b × DoingSees seen a.region (length display) b)) (sym zero_is) (first a.entry a.region l.bodies f.1.0 g.1.1.0)

    pub select_offers : (has_else : Bool) (scene : Scene) (o : Operands) → l.last ≡ Does (Select has_else) → eval false scene (instructions_at code place) 0 no_operands ≡ Reached o → EachOffered code.lines seen l place (length display) o.waits.accepts
    select_offers has_else scene o does reached =
        let f = subst (λ last. LastFits code.lines last place l) does fit in
        let many = (here code table tasks barriers seen sound fits place returns display os l s).0 in
        let g = subst (λ last. EachOpened (instructions_at code place) (λ a. OpenedSees seen last l.bodies (length display) a)) does (opened_sees place (length display) (drop place code.lines) l refl s.is many) in
        let h = each_both (instructions_at code place) (λ a. IsWritten (slice_get l.bodies a.alternative) (BodyAt code.lines a.region l.within place)) (λ a. OpenedSees seen (Does (Select has_else)) l.bodies (length display) a) Offered
        (λ a p q. both_written (slice_get l.bodies a.alternative) (BodyAt code.lines a.region l.within place) (DoingSees seen a.region (length display)) p q) f.1.0.1 g in
        each_offered code seen l place (length display) o.waits.accepts (subst (Opens Offered) reached (all_open Offered scene (instructions_at code place) 0 no_operands h (tt {0})))
