-- Code whose table fits finds its operands.
use Rattle.std.proofs.Common.{◌≡◌, ℕ, zero, suc, ◌+◌, ◌<◌, List, [], ◌∷◌, length, drop, map, Option, Some, None, refl, sym, ap, subst, arith}
use Rattle.std.proofs.lemmas.List.{length-map}
use Rattle.aud_code.specs.declared.counts.Counts.{Counts as InMemory}
use Rattle.aud_code.specs.declared.line.Line.{Line}
use Rattle.aud_code.specs.View.{plain_line}
use Rattle.aud_code.specs.Instruction.{Instruction, Push, Load, LoadElement, OnOne, OnTwo, Count, Check, Cell, PushTruth, Truth, Negate, Relate, Compare, Combine, PassIfFalse, PassIfTrue, IsCallable, IsTerminated, Find, FindElement, LoadFound, Pass, PassCopy, AppendText, AppendImage, AppendTruth, AppendNewLine, Name, Milliseconds, Seconds, BeginObject, Component, OpensAccept, OpensDelay, OpensTerminate, Mark, PassUnlessNext, SetTime}
use Rattle.aud_code.specs.Flat.{FlatLine, instructs, end, EndLine, instructions_from, end_from}
use Rattle.aud_code.specs.Sound.{Counts, no_counts, Takes, AndThen, InstructionFine, AreFine, LastFine, IsStart}
use Rattle.aud_code.specs.Tabled.{counts, LeadsTo, BeginsWithNone, Tabled, IsTabled, FirstTabled}

module _ (P Q : AndThen) (k : (n : ℕ) (c : Counts) → P n c → Q n c) where
  takes : (n : ℕ) (A B : ℕ → Type 0) → ((m : ℕ) → A m → B m) → Takes n A → Takes n B
  takes zero A B f h = absurd h
  takes (suc n) A B f h = f n h

  -- what goes on so goes on so too
  pub goes_too : (i : Instruction) (c : Counts) → InstructionFine i P c → InstructionFine i Q c
  goes_too (Push z) c h = k 0 _ h
  goes_too (Load v) c h = k 0 _ h
  goes_too (LoadElement a) c h = takes c.integers _ _ (λ n h. k 0 _ h) h
  goes_too (OnOne f) c h = takes c.integers _ _ (λ n h. k 0 _ h) h
  goes_too (OnTwo f) c h = takes c.integers _ _ (λ n h. takes n _ _ (λ m h. k 0 _ h) h) h
  goes_too (Count v entry) c h = k 0 _ h
  goes_too (Check t) c h = takes c.integers _ _ (λ n h. k 0 _ h) h
  goes_too Cell c h = takes c.booleans _ _ (λ n h. k 0 _ h) h
  goes_too (PushTruth b) c h = k 0 _ h
  goes_too Truth c h = takes c.integers _ _ (λ n h. k 0 _ h) h
  goes_too Negate c h = takes c.booleans _ _ (λ n h. k 0 _ h) h
  goes_too (Relate f) c h = takes c.integers _ _ (λ n h. takes n _ _ (λ m h. k 0 _ h) h) h
  goes_too (Compare f) c h = takes c.booleans _ _ (λ n h. takes n _ _ (λ m h. k 0 _ h) h) h
  goes_too (Combine f) c h = takes c.booleans _ _ (λ n h. takes n _ _ (λ m h. k 0 _ h) h) h
  goes_too (PassIfFalse p) c h = takes c.booleans _ _ (λ n h. (k 0 _ h.0, k p _ h.1)) h
  goes_too (PassIfTrue p) c h = takes c.booleans _ _ (λ n h. (k 0 _ h.0, k p _ h.1)) h
  goes_too IsCallable c h = takes c.integers _ _ (λ n h. k 0 _ h) h
  goes_too IsTerminated c h = takes c.integers _ _ (λ n h. k 0 _ h) h
  goes_too (Find v t) c h = k 0 _ h
  goes_too (FindElement a t) c h = takes c.integers _ _ (λ n h. k 0 _ h) h
  goes_too LoadFound c h = takes c.targets _ _ (λ n h. k 0 _ h) h
  goes_too Pass c h = takes c.integers _ _ (λ n h. k 0 _ h) h
  goes_too (PassCopy p) c h = takes c.integers _ _ (λ n h. takes c.targets _ _ (λ m h. k 0 _ h) h) h
  goes_too (AppendText text) c h = k 0 _ h
  goes_too AppendImage c h = takes c.integers _ _ (λ n h. k 0 _ h) h
  goes_too AppendTruth c h = takes c.booleans _ _ (λ n h. k 0 _ h) h
  goes_too AppendNewLine c h = k 0 _ h
  goes_too Name c h = takes c.integers _ _ (λ n h. k 0 _ h) h
  goes_too (Milliseconds ms) c h = k 0 _ h
  goes_too Seconds c h = takes c.integers _ _ (λ n h. k 0 _ h) h
  goes_too BeginObject c h = k 0 _ h
  goes_too Component c h = takes c.integers _ _ (λ n h. k 0 _ h) h
  goes_too (OpensAccept a) c h = takes c.booleans _ _ (λ n h. k 0 _ h) h
  goes_too (OpensDelay p) c h = takes c.booleans _ _ (λ n h. k 0 _ h) h
  goes_too OpensTerminate c h = takes c.booleans _ _ (λ n h. k 0 _ h) h
  goes_too Mark c h = k 0 _ h
  goes_too (PassUnlessNext n p) c h = (k 0 _ h.0, k p _ h.1)
  goes_too (SetTime n) c h = k 0 _ h

abbrev OnSome : (Counts → Type 0) → Option Counts → Type 0
OnSome P None = Unit {0}
OnSome P (Some c) = P c

written : (P : Counts → Type 0) (c d : Counts) → Some c ≡ Some d → P c → P d
written P c d e h = subst (OnSome P) e h

-- so many instructions are passed, and then these operands are written
fine_on : (ls : List FlatLine) (cs : List Counts) (k n : ℕ) (c : Counts) → Tabled ls cs → LeadsTo ls cs n c → AreFine (LastFine (end_from ls k).last) (instructions_from ls) n c
fine_on [] cs k n c h leads = tt
fine_on (l ∷ ls) [] k n c h leads = absurd h
fine_on (end l ∷ ls) (d ∷ cs) k zero c h leads = written (LastFine l.last) d c leads.1 h.0.0
fine_on (end l ∷ ls) (d ∷ cs) k (suc n) c h leads = absurd (omega (arith, leads.0))
fine_on (instructs i ∷ ls) (d ∷ cs) k zero c h leads =
    let P = AreFine (LastFine (end_from ls k).last) (instructions_from ls) in
    written (InstructionFine i P) d c leads.1 (goes_too (LeadsTo ls cs) P (λ m e to. fine_on ls cs k m e h.1 to) i d h.0)
fine_on (instructs i ∷ ls) (d ∷ cs) k (suc n) c h leads = fine_on ls cs k n c h.1 (omega (arith, leads.0), leads.1)

fine_first : (ls : List FlatLine) (cs : List Counts) (k : ℕ) → BeginsWithNone cs → Tabled ls cs → AreFine (LastFine (end_from ls k).last) (instructions_from ls) 0 no_counts
fine_first [] cs k none h = tt
fine_first (l ∷ ls) [] k none h = absurd h
fine_first (l ∷ ls) (c ∷ cs) k none h = fine_on (l ∷ ls) (c ∷ cs) k 0 no_counts h (omega arith, ap (λ x. Some x) none)

begins_here : (l : FlatLine) (e : EndLine) (ls : List FlatLine) (c : Counts) (cs : List Counts) → Tabled (l ∷ ls) (c ∷ cs) → Some l ≡ Some (end e) → BeginsWithNone cs
begins_here (end l) e ls c cs h is = h.0.1
begins_here (instructs i) e ls c cs h is = cc

-- wherever a step begins
pub fine_at : (ls : List FlatLine) (cs : List Counts) (n k : ℕ) → IsTabled ls cs → IsStart ls n → AreFine (LastFine (end_from (drop n ls) k).last) (instructions_from (drop n ls)) 0 no_counts
fine_at ls cs zero k h start = fine_first ls cs k h.0 h.1
fine_at [] cs (suc n) k h start = tt
fine_at (l ∷ ls) [] (suc n) k h start = absurd h.1
fine_at (l ∷ ls) (c ∷ cs) (suc zero) k h start = fine_first ls cs k (begins_here l start.0 ls c cs h.1 start.1) h.1.1
fine_at (l ∷ ls) (c ∷ cs) (suc (suc n)) k h start = later ls cs n h.1.1 start
  where
    later : (ls : List FlatLine) (cs : List Counts) (n : ℕ) → Tabled ls cs → IsStart ls (suc n) → AreFine (LastFine (end_from (drop (suc n) ls) k).last) (instructions_from (drop (suc n) ls)) 0 no_counts
    later [] cs n h start = tt
    later (l ∷ ls) [] n h start = absurd h
    later (l ∷ ls) (c ∷ cs) zero h start = fine_first ls cs k (begins_here l start.0 ls c cs h start.1) h.1
    later (l ∷ ls) (c ∷ cs) (suc n) h start = later ls cs n h.1 start

-- The table of the lines from a place on.

pub tabled_behind : (ls : List FlatLine) (cs : List Counts) (n : ℕ) → Tabled ls cs → Tabled (drop n ls) (drop n cs)
tabled_behind ls cs zero h = h
tabled_behind [] [] (suc n) h = tt
tabled_behind [] (c ∷ cs) (suc n) h = absurd h
tabled_behind (l ∷ ls) [] (suc n) h = absurd h
tabled_behind (l ∷ ls) (c ∷ cs) (suc n) h = tabled_behind ls cs n h.1

pub first_of : (ls : List FlatLine) (cs : List Counts) → Tabled ls cs → FirstTabled ls cs
first_of [] cs h = tt
first_of (l ∷ ls) [] h = tt
first_of (l ∷ ls) (c ∷ cs) h = h.0

pub one_tabled : (ls : List FlatLine) (cs : List Counts) (n m : ℕ) → m ≡ n + 1 → length ls ≡ length cs → n < length ls → FirstTabled (drop n ls) (drop n cs) → Tabled (drop m ls) (drop m cs) → Tabled (drop n ls) (drop n cs)
one_tabled [] cs n m is same within one more = absurd (omega (arith, within))
one_tabled (l ∷ ls) [] n m is same within one more = absurd (omega (arith, same))
one_tabled (l ∷ ls) (c ∷ cs) zero m is same within one more = let e : m ≡ suc zero = omega (arith, is) in (one, rw e at more)
one_tabled (l ∷ ls) (c ∷ cs) (suc n) zero is same within one more = absurd (omega (arith, is))
one_tabled (l ∷ ls) (c ∷ cs) (suc n) (suc m) is same within one more = one_tabled ls cs n m (omega (arith, is)) (omega (arith, same)) (omega (arith, within)) one more

same_length : (ls : List FlatLine) (cs : List Counts) → Tabled ls cs → length ls ≡ length cs
same_length [] [] h = refl
same_length [] (c ∷ cs) h = absurd h
same_length (l ∷ ls) [] h = absurd h
same_length (l ∷ ls) (c ∷ cs) h = ap suc (same_length ls cs h.1)

pub as_long : (xs : List Line) (ts : List InMemory) → Tabled (map plain_line xs) (map counts ts) → length xs ≡ length ts
as_long xs ts h = simp length-map at (same_length (map plain_line xs) (map counts ts) h)

-- where there is no line left, and no operand of the table
none_left : (ls : List FlatLine) (cs : List Counts) (n : ℕ) → length ls ≡ n → length cs ≡ n → Tabled (drop n ls) (drop n cs)
none_left [] [] zero e f = tt
none_left [] [] (suc n) e f = tt
none_left [] (c ∷ cs) n e f = absurd (omega (arith, e, f))
none_left (l ∷ ls) [] n e f = absurd (omega (arith, e, f))
none_left (l ∷ ls) (c ∷ cs) zero e f = absurd (omega (arith, e))
none_left (l ∷ ls) (c ∷ cs) (suc n) e f = none_left ls cs n (omega (arith, e)) (omega (arith, f))

pub nothing_left : (xs : List Line) (ts : List InMemory) → length xs ≡ length ts → Tabled (drop (length xs) (map plain_line xs)) (drop (length xs) (map counts ts))
nothing_left xs ts same = none_left (map plain_line xs) (map counts ts) (length xs) (simp length-map refl) (simp length-map (sym same))
