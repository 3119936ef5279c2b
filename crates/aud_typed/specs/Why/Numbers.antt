-- The table of each frame is there, and each exit leaves a loop of its own body that is around it (RM 5.7).
use Rattle.std.specs.Prelude.{ℕ, suc, ◌<◌, List, [], ◌∷◌}
use Rattle.aud_typed.specs.Tree.{Statement, sequence, if_then, plain_loop, while_loop, for_loop, exit, block, entry_call, accept, select, Part, nothing, some, Handlers, no_handlers, handler, Body, body, Doing, without_do, with_do, Alternatives, no_alternatives, accepting, delaying, terminating, UnitPlan}

-- of so many tables, within so many loops of the same body
module _ (tables : ℕ) where
  abbrev mutual
    pub StatementNumbers : (loops : ℕ) → Statement → Type 0
    StatementNumbers loops (sequence a b) = StatementNumbers loops a × StatementNumbers loops b
    StatementNumbers loops (if_then at c a p) = StatementNumbers loops a × PartNumbers loops p
    StatementNumbers loops (plain_loop a) = StatementNumbers (suc loops) a
    StatementNumbers loops (while_loop at c a) = StatementNumbers (suc loops) a
    StatementNumbers loops (for_loop f x y a) = (f.region < tables) × StatementNumbers (suc loops) a
    StatementNumbers loops (exit at n c) = n < loops
    StatementNumbers loops (block at n b) = (n < tables) × BodyNumbers loops b
    StatementNumbers loops (entry_call at c p q) = PartNumbers loops p × PartNumbers loops q
    StatementNumbers loops (accept at n d) = DoingNumbers d
    StatementNumbers loops (select at offered p) = OfferedNumbers loops offered × PartNumbers loops p
    StatementNumbers loops s = Unit {0}

    pub PartNumbers : (loops : ℕ) → Part → Type 0
    PartNumbers loops nothing = Unit {0}
    PartNumbers loops (some s) = StatementNumbers loops s

    pub HandlersNumbers : (loops : ℕ) → Handlers → Type 0
    HandlersNumbers loops no_handlers = Unit {0}
    HandlersNumbers loops (handler others choices s more) = StatementNumbers loops s × HandlersNumbers loops more

    -- the declarations of a body leave nothing
    pub BodyNumbers : (loops : ℕ) → Body → Type 0
    BodyNumbers loops (body d begin s h end) = PartNumbers 0 d × (StatementNumbers loops s × HandlersNumbers loops h)

    -- no exit leaves an accept
    pub DoingNumbers : Doing → Type 0
    DoingNumbers without_do = Unit {0}
    DoingNumbers (with_do n b) = (n < tables) × BodyNumbers 0 b

    pub OfferedNumbers : (loops : ℕ) → Alternatives → Type 0
    OfferedNumbers loops no_alternatives = Unit {0}
    OfferedNumbers loops (accepting g at n d p more) = DoingNumbers d × (PartNumbers loops p × OfferedNumbers loops more)
    OfferedNumbers loops (delaying g x p more) = PartNumbers loops p × OfferedNumbers loops more
    OfferedNumbers loops (terminating g more) = OfferedNumbers loops more

  abbrev pub UnitsNumbers : List UnitPlan → List Body → Type 0
  UnitsNumbers [] [] = Unit {0}
  UnitsNumbers (u ∷ us) (b ∷ bs) = (u.region < tables) × BodyNumbers 0 b × UnitsNumbers us bs
  UnitsNumbers _ _ = ⊥
