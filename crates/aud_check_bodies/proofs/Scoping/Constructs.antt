-- What is said of each construct that has no faults: it uses what is elaborated, or there.
use Rattle.std.specs.List.{AllByRecursion}
use Rattle.std.proofs.Common.{◌≡◌, ◌⊎◌, ◌≤◌, ℕ, List, [], ◌∷◌, ◌++◌}
use Rattle.aud_syntax.specs.declared.tree.Ident.{Ident}
use Rattle.aud_syntax.specs.Plain as plain
use Rattle.aud_typed.specs.Tree as tree
use Rattle.aud_typed.specs.Tree.{Plan}
use Rattle.aud_typed.specs.Why.Scoped.{Scope, none_yet, Elaborated, Entry, all_formals, formals_of, StatementScoped, PartScoped, HandlersScoped, DoingScoped}
use Rattle.aud_names.specs.declared.awaited.AwaitedPart.{AwaitedPart}
use Rattle.aud_names.specs.Names as names
use Rattle.aud_names.specs.Names.{Region, Place}
use Rattle.aud_check_bodies.specs.Tables.{Tables}
use Rattle.aud_check_bodies.specs.Operations.{BodyPlaces}
use Rattle.aud_check_bodies.specs.Statements as s
use Rattle.aud_check_bodies.specs.Statements.{Around}
use Rattle.aud_check_bodies.proofs.Scoping.Names.{Fits}
use Rattle.aud_check_bodies.proofs.Scoping.Declarations.{Waiting, waits_in, elaborated, RegionScoped, InBody, DeclaredScoped}
use Rattle.aud_check_bodies.proofs.Scoping.Plans.{seen, InPlan}
use Rattle.aud_check_bodies.proofs.Scoping.Entries.{in_operation, in_bodies, in_statement, in_accept, in_doing, in_alternative, in_alternatives, in_otherwise, in_arms, in_statements, in_others, in_body, in_handlers, in_declaration, in_declarations, Ready}
use Rattle.aud_check_bodies.proofs.Scoping.Units.{Waits_in, IsUnitOf, EachIs, Stay, Units, Barred, InPart}
use Rattle.aud_check_bodies.proofs.Scoping.Operations.{PartsAre}
use Rattle.aud_check_bodies.proofs.Scoping.Single.{IsStatement, AcceptScoped, AlternativeScoped, ArmScoped, HandlerScoped}

module _ (plan : Plan) (entries : List Entry) where
  -- A construct at a place, if it has no faults, the plan has its tables, and its units' entries stand among all.

  -- what is made of statements, and of the units in them
  abbrev pub IsFine : Tables → Tables → Type 0 → Type 0
  IsFine t u made = made × Units plan entries t u

  -- What is said of each construct stands under a name of its own, so that the recursion over them looks at nothing else.

  unfoldable pub StatementFine : plain.Statement → Around → Place → Tables → Scope → Type 0
  StatementFine x around n t scope =
      Fits (seen plan entries t) scope n → InPlan plan t (s.checked_statement x around n t).tables → Ready entries t (in_statement x around n t scope) → (s.checked_statement x around n t).faults ≡ []
      → IsFine t (s.checked_statement x around n t).tables (IsStatement (seen plan entries t) scope (s.checked_statement x around n t).made)

  unfoldable pub ArmsFine : plain.Arms → Around → Place → Tables → Scope → Type 0
  ArmsFine x around n t scope =
      Fits (seen plan entries t) scope n → InPlan plan t (s.checked_arms x around n t).tables → Ready entries t (in_arms x around n t scope) → (s.checked_arms x around n t).faults ≡ []
      → IsFine t (s.checked_arms x around n t).tables (AllByRecursion (ArmScoped (seen plan entries t) scope) (s.checked_arms x around n t).made)

  unfoldable pub StatementsFine : plain.Statements → Around → Place → Tables → Scope → Type 0
  StatementsFine x around n t scope =
      Fits (seen plan entries t) scope n → InPlan plan t (s.checked_statements x around n t).tables → Ready entries t (in_statements x around n t scope) → (s.checked_statements x around n t).faults ≡ []
      → IsFine t (s.checked_statements x around n t).tables (StatementScoped plan entries (s.sequence_of (s.checked_statements x around n t).made) scope)

  unfoldable pub OthersFine : plain.MoreStatements → Around → Place → Tables → Scope → Type 0
  OthersFine x around n t scope =
      Fits (seen plan entries t) scope n → InPlan plan t (s.checked_others x around n t).tables → Ready entries t (in_others x around n t scope) → (s.checked_others x around n t).faults ≡ []
      → IsFine t (s.checked_others x around n t).tables (AllByRecursion (IsStatement (seen plan entries t) scope) (s.checked_others x around n t).made)

  unfoldable pub BodyFine : plain.Body → Around → Place → Tables → Scope → Type 0
  BodyFine x around n t scope =
      Fits (seen plan entries t) scope n → InPlan plan t (s.checked_body x around n t).tables → Ready entries t (in_body x around n t scope) → (s.checked_body x around n t).faults ≡ []
      → IsFine t (s.checked_body x around n t).tables (StatementScoped plan entries (s.checked_body x around n t).made.statements scope × HandlersScoped plan entries (s.checked_body x around n t).made.handlers scope)

  unfoldable pub HandlersFine : plain.Handlers → Around → Place → Tables → Scope → Type 0
  HandlersFine x around n t scope =
      Fits (seen plan entries t) scope n → InPlan plan t (s.checked_handlers x around n t).tables → Ready entries t (in_handlers x around n t scope) → (s.checked_handlers x around n t).faults ≡ []
      → IsFine t (s.checked_handlers x around n t).tables (AllByRecursion (HandlerScoped (seen plan entries t) scope) (s.checked_handlers x around n t).made)

  -- of declarations: at a place of a part that is entered in these frames, and whose frame has all this behind it
  unfoldable pub DeclarationsFine : plain.Declarations → Place → Tables → Scope → Elaborated → ℕ → Type 0
  DeclarationsFine x n t outer full base =
      InBody (seen plan entries t) outer full n → InPart plan entries base (outer ++ full ∷ []) (waits_in (names.innermost n)) t → (names.innermost (s.checked_declarations x n t).made.place).cells ≤ full.cells
      → InPlan plan t (s.checked_declarations x n t).tables → Ready entries t (in_declarations x n t (outer ++ full ∷ [])) → (s.checked_declarations x n t).faults ≡ []
      → DeclaredScoped (seen plan entries (s.checked_declarations x n t).tables) outer full n (s.checked_declarations x n t).made
      × InPart plan entries base (outer ++ full ∷ []) (waits_in (names.innermost (s.checked_declarations x n t).made.place)) (s.checked_declarations x n t).tables
      × Stay base t (s.checked_declarations x n t).tables
      × (Barred plan entries t → Barred plan entries (s.checked_declarations x n t).tables)

  unfoldable pub DeclarationFine : plain.Declaration → Place → Tables → Scope → Elaborated → ℕ → Type 0
  DeclarationFine x n t outer full base =
      InBody (seen plan entries t) outer full n → InPart plan entries base (outer ++ full ∷ []) (waits_in (names.innermost n)) t → (names.innermost (s.checked_declaration x n t).made.place).cells ≤ full.cells
      → InPlan plan t (s.checked_declaration x n t).tables → Ready entries t (in_declaration x n t (outer ++ full ∷ [])) → (s.checked_declaration x n t).faults ≡ []
      → DeclaredScoped (seen plan entries (s.checked_declaration x n t).tables) outer full n (s.checked_declaration x n t).made
      × InPart plan entries base (outer ++ full ∷ []) (waits_in (names.innermost (s.checked_declaration x n t).made.place)) (s.checked_declaration x n t).tables
      × Stay base t (s.checked_declaration x n t).tables
      × (Barred plan entries t → Barred plan entries (s.checked_declaration x n t).tables)

  unfoldable pub AcceptFine : plain.Accept → Around → Place → Tables → Scope → Type 0
  AcceptFine x around n t scope =
      Fits (seen plan entries t) scope n → InPlan plan t (s.checked_accept x around n t).tables → Ready entries t (in_accept x around n t scope) → (s.checked_accept x around n t).faults ≡ []
      → IsFine t (s.checked_accept x around n t).tables (AcceptScoped (seen plan entries t) scope (s.checked_accept x around n t).made)

  -- in a region of an entry's formals, each with one cell
  unfoldable pub DoingFine : plain.Doing → Ident → Region → Around → Place → Tables → Scope → Type 0
  DoingFine x i r around n t scope =
      (entry : ℕ) → RegionScoped (seen plan entries t) scope none_yet r → elaborated r ≡ all_formals (formals_of plan entry)
      → Fits (seen plan entries t) scope n → InPlan plan t (s.checked_doing x i r around n t).tables → Ready entries t (in_doing x r around n t scope) → (s.checked_doing x i r around n t).faults ≡ []
      → IsFine t (s.checked_doing x i r around n t).tables (DoingScoped plan entries entry (s.checked_doing x i r around n t).made scope)

  unfoldable pub AlternativeFine : plain.Alternative → plain.MaybeExpression → Around → Place → Tables → Scope → Type 0
  AlternativeFine x guard around n t scope =
      Fits (seen plan entries t) scope n → InPlan plan t (s.checked_alternative x guard around n t).tables → Ready entries t (in_alternative x guard around n t scope) → (s.checked_alternative x guard around n t).faults ≡ []
      → IsFine t (s.checked_alternative x guard around n t).tables (AlternativeScoped (seen plan entries t) scope (s.checked_alternative x guard around n t).made)

  unfoldable pub AlternativesFine : plain.Alternatives → Around → Place → Tables → Scope → Type 0
  AlternativesFine x around n t scope =
      Fits (seen plan entries t) scope n → InPlan plan t (s.checked_alternatives x around n t).tables → Ready entries t (in_alternatives x around n t scope) → (s.checked_alternatives x around n t).faults ≡ []
      → IsFine t (s.checked_alternatives x around n t).tables (AllByRecursion (AlternativeScoped (seen plan entries t) scope) (s.checked_alternatives x around n t).made)

  unfoldable pub OtherwiseFine : plain.Otherwise → Around → Place → Tables → Scope → Type 0
  OtherwiseFine x around n t scope =
      Fits (seen plan entries t) scope n → InPlan plan t (s.checked_otherwise x around n t).tables → Ready entries t (in_otherwise x around n t scope) → (s.checked_otherwise x around n t).faults ≡ []
      → IsFine t (s.checked_otherwise x around n t).tables (PartScoped plan entries (tree.part_of (s.checked_otherwise x around n t).made) scope)

  -- bodies of operations, in the frames of their object

  unfoldable pub OperationFine : plain.OperationBody → BodyPlaces → List AwaitedPart → Tables → Scope → ℕ → Waiting → Type 0
  OperationFine x o awaited t frames base w =
      Fits (seen plan entries t) frames o.inside → Fits (seen plan entries t) frames o.in_function → PartsAre plan entries base t frames o.object o.parts → EachIs plan entries base (λ n. Waits_in w n ⊎ IsUnitOf n awaited) t
      → InPlan plan t (s.checked_operation x o awaited t).tables → Ready entries t (in_operation x o awaited t frames) → (s.checked_operation x o awaited t).faults ≡ []
      → EachIs plan entries base (λ n. Waits_in w n ⊎ IsUnitOf n (s.checked_operation x o awaited t).made) (s.checked_operation x o awaited t).tables
      × Stay base t (s.checked_operation x o awaited t).tables
      × (Barred plan entries t → Barred plan entries (s.checked_operation x o awaited t).tables)

  unfoldable pub BodiesFine : plain.OperationBodies → BodyPlaces → List AwaitedPart → Tables → Scope → ℕ → Waiting → Type 0
  BodiesFine x o awaited t frames base w =
      Fits (seen plan entries t) frames o.inside → Fits (seen plan entries t) frames o.in_function → PartsAre plan entries base t frames o.object o.parts → EachIs plan entries base (λ n. Waits_in w n ⊎ IsUnitOf n awaited) t
      → InPlan plan t (s.checked_bodies x o awaited t).tables → Ready entries t (in_bodies x o awaited t frames) → (s.checked_bodies x o awaited t).faults ≡ []
      → EachIs plan entries base (λ n. Waits_in w n ⊎ IsUnitOf n (s.checked_bodies x o awaited t).made) (s.checked_bodies x o awaited t).tables
      × Stay base t (s.checked_bodies x o awaited t).tables
      × (Barred plan entries t → Barred plan entries (s.checked_bodies x o awaited t).tables)
