-- Programs in which tasks are activated by declarative parts (RM 9.2(3)), and by no statement.
use Rattle.std.specs.Prelude.{◌≡◌, List, [], ◌∷◌, Bool, true, false}
use Rattle.aud_typed.specs.Tree.{Statement, sequence, activate, if_then, plain_loop, while_loop, for_loop, block, entry_call, accept, select, Part, nothing, some, Handlers, no_handlers, handler, Body, body, Doing, without_do, with_do, Alternatives, no_alternatives, accepting, delaying, terminating, Program}

abbrev mutual
  -- by the declarative parts within it; and a declaration by itself
  pub StatementActivates : (declares : Bool) → Statement → Type 0
  StatementActivates declares (sequence a b) = StatementActivates declares a × StatementActivates declares b
  StatementActivates declares (activate at) = declares ≡ true
  StatementActivates declares (if_then at c a p) = StatementActivates false a × PartActivates false p
  StatementActivates declares (plain_loop a) = StatementActivates false a
  StatementActivates declares (while_loop at c a) = StatementActivates false a
  StatementActivates declares (for_loop f x y a) = StatementActivates false a
  StatementActivates declares (block at n b) = BodyActivates b
  StatementActivates declares (entry_call at c p q) = PartActivates false p × PartActivates false q
  StatementActivates declares (accept at n d) = DoingActivates d
  StatementActivates declares (select at offered p) = OfferedActivates offered × PartActivates false p
  StatementActivates declares s = Unit {0}

  pub PartActivates : (declares : Bool) → Part → Type 0
  PartActivates declares nothing = Unit {0}
  PartActivates declares (some s) = StatementActivates declares s

  pub HandlersActivate : Handlers → Type 0
  HandlersActivate no_handlers = Unit {0}
  HandlersActivate (handler others choices s more) = StatementActivates false s × HandlersActivate more

  pub BodyActivates : Body → Type 0
  BodyActivates (body d begin s h end) = PartActivates true d × (StatementActivates false s × HandlersActivate h)

  pub DoingActivates : Doing → Type 0
  DoingActivates without_do = Unit {0}
  DoingActivates (with_do n b) = BodyActivates b

  pub OfferedActivates : Alternatives → Type 0
  OfferedActivates no_alternatives = Unit {0}
  OfferedActivates (accepting g at n d p more) = DoingActivates d × (PartActivates false p × OfferedActivates more)
  OfferedActivates (delaying g x p more) = PartActivates false p × OfferedActivates more
  OfferedActivates (terminating g more) = OfferedActivates more

abbrev pub BodiesActivate : List Body → Type 0
BodiesActivate [] = Unit {0}
BodiesActivate (b ∷ bs) = BodyActivates b × BodiesActivate bs

abbrev pub ActivatesInParts : Program → Type 0
ActivatesInParts program = BodiesActivate program.bodies
