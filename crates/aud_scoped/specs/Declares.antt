-- Programs in which tasks are declared by declarative parts (RM 3.11), and by no statement.
use Rattle.std.specs.Prelude.{◌≡◌, List, [], ◌∷◌, Bool, true, false}
use Rattle.aud_typed.specs.Tree.{Statement, sequence, declare_tasks, if_then, plain_loop, while_loop, for_loop, block, entry_call, accept, select, Part, nothing, some, Handlers, no_handlers, handler, Body, body, Doing, without_do, with_do, Alternatives, no_alternatives, accepting, delaying, terminating, Program}

abbrev mutual
  -- by the declarative parts within it; and a declaration by itself
  pub StatementDeclares : (declares : Bool) → Statement → Type 0
  StatementDeclares declares (sequence a b) = StatementDeclares declares a × StatementDeclares declares b
  StatementDeclares declares (declare_tasks at ts) = declares ≡ true
  StatementDeclares declares (if_then at c a p) = StatementDeclares false a × PartDeclares false p
  StatementDeclares declares (plain_loop a) = StatementDeclares false a
  StatementDeclares declares (while_loop at c a) = StatementDeclares false a
  StatementDeclares declares (for_loop f x y a) = StatementDeclares false a
  StatementDeclares declares (block at n b) = BodyDeclares b
  StatementDeclares declares (entry_call at c p q) = PartDeclares false p × PartDeclares false q
  StatementDeclares declares (accept at n d) = DoingDeclares d
  StatementDeclares declares (select at offered p) = OfferedDeclare offered × PartDeclares false p
  StatementDeclares declares s = Unit {0}

  pub PartDeclares : (declares : Bool) → Part → Type 0
  PartDeclares declares nothing = Unit {0}
  PartDeclares declares (some s) = StatementDeclares declares s

  pub HandlersDeclare : Handlers → Type 0
  HandlersDeclare no_handlers = Unit {0}
  HandlersDeclare (handler others choices s more) = StatementDeclares false s × HandlersDeclare more

  pub BodyDeclares : Body → Type 0
  BodyDeclares (body d begin s h end) = PartDeclares true d × (StatementDeclares false s × HandlersDeclare h)

  pub DoingDeclares : Doing → Type 0
  DoingDeclares without_do = Unit {0}
  DoingDeclares (with_do n b) = BodyDeclares b

  pub OfferedDeclare : Alternatives → Type 0
  OfferedDeclare no_alternatives = Unit {0}
  OfferedDeclare (accepting g at n d p more) = DoingDeclares d × (PartDeclares false p × OfferedDeclare more)
  OfferedDeclare (delaying g x p more) = PartDeclares false p × OfferedDeclare more
  OfferedDeclare (terminating g more) = OfferedDeclare more

abbrev pub BodiesDeclare : List Body → Type 0
BodiesDeclare [] = Unit {0}
BodiesDeclare (b ∷ bs) = BodyDeclares b × BodiesDeclare bs

abbrev pub DeclaresInParts : Program → Type 0
DeclaresInParts program = BodiesDeclare program.bodies
