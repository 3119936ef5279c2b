-- Instructions agree with the layout's lines, one for each step: places move, and nothing else.
use Rattle.std.proofs.Common.{◌≡◌, ℕ, List, [], ◌∷◌, map, slice_get, slice_index_or, Bool, true, false, ◌||◌, Option, Some, None, if◌then◌else◌, refl, ap, ◌∙◌}
use Rattle.std.specs.Option.{option_map}
use Rattle.std.proofs.lemmas.Option.{slice_get-map}
use Rattle.std.proofs.Math.ListN.{get_or-map}
use Rattle.aud_text.specs.declared.place.Pos.{Pos}
use Rattle.aud_typed.specs.declared.program.Exception.{Exception}
use Rattle.aud_typed.specs.Tree.{Program, BooleanExpression, truth}
use Rattle.aud_meaning.specs.declared.state.Construct.TheVariants as construct
use Rattle.aud_meaning.specs.declared.state.Pending.{Pending}
use Rattle.aud_meaning.specs.Evaluation.{Sight, decided}
use Rattle.aud_meaning.specs.Control.{Scene}
use Rattle.aud_meaning.specs.Items.{names_it}
use Rattle.aud_meaning.specs.Statements.{coming_raised, handled_or_left}
use Rattle.aud_code.specs.Places.{Way, Guard, Spot, goes_there, goes_way, loops_of, guarded, is_there}
use Rattle.aud_layout.specs.Layout.{What, does, continues, guards, ends, leaves, Code, line_at, handler_by, asked_by, coming_by, start_of}
use Rattle.aud_layout.specs.Layout as layout
use Rattle.aud_code.specs.Instruction.{no_operands}
use Rattle.aud_code.specs.Eval.{eval}
use Rattle.aud_layout.specs.Instructions.{condition_code}
use Rattle.aud_code.specs.Flat.{EndLine, Flat, instructions_at, end_at, back_to, ended_in, out_of_end, end_by, left_by, handler_in, handler_at, asked_last, coming_last, asked_at, coming_at, start_at, barrier_at, no_scene, decided_by}
use Rattle.aud_layout.specs.Assembly.{offset, guard_moved, last_by, way_moved, end_line, flat_of, instructions_by}
use Rattle.aud_layout.proofs.Flat.Assembly.{offset_zero, instructions_at_step, end_at_step, length_assembled}
use Rattle.aud_layout.proofs.Asking.Steps.{asked_law, coming_law, barrier_law}
use Rattle.aud_layout.specs.Law.{spot_at}
use Rattle.aud_layout.proofs.Flat.Within.{AtIs, LinesIn, at_is}

module _ (f : ℕ → ℕ) where
  -- orders by number
  goes_option : (n : Option ℕ) (c : Spot) → goes_there (option_map f n) (spot_at f c) ≡ spot_at f (goes_there n c)
  goes_option None c = refl
  goes_option (Some n) c = refl

  pub goes_number : (ways : List ℕ) (n : ℕ) (c : Spot) → goes_there (slice_get (map f ways) n) (spot_at f c) ≡ spot_at f (goes_there (slice_get ways n) c)
  goes_number ways n c = ap (λ o. goes_there o (spot_at f c)) (slice_get-map f ways n) ∙ goes_option (slice_get ways n) c

  pub goes_out : (w : Option Way) (c : Spot) → goes_way (way_moved f w) (spot_at f c) ≡ spot_at f (goes_way w c)
  goes_out None c = refl
  goes_out (Some w) c = refl

  pub same_loops : (w : Option Way) → loops_of (way_moved f w) ≡ loops_of w
  same_loops None = refl
  same_loops (Some w) = refl

  -- handlers
  if_there : (b : Bool) (n : ℕ) (o : Option ℕ) (p : Option ℕ) → o ≡ option_map f p → (if b then Some (f n) else o) ≡ option_map f (if b then Some n else p)
  if_there true n o p h = refl
  if_there false n o p h = h

  guards_moved : (x : Exception) (gs : List Guard) → guarded x (map (guard_moved f) gs) ≡ option_map f (guarded x gs)
  guards_moved x [] = refl
  guards_moved x (g ∷ gs) = if_there (g.others || names_it x g.choices) g.to (guarded x (map (guard_moved f) gs)) (guarded x gs) (guards_moved x gs)

  pub handlers_moved : (x : Exception) (w : What) → handler_in (last_by f w) x ≡ option_map f (handler_by w x)
  handlers_moved x (does a) = refl
  handlers_moved x (continues g) = refl
  handlers_moved x (guards gs) = guards_moved x gs
  handlers_moved x (ends c next) = refl
  handlers_moved x (leaves n next) = refl

  pub same_there : (o : Option ℕ) → is_there (option_map f o) ≡ is_there o
  same_there None = refl
  same_there (Some n) = refl

  pub goes_handler : (x : Exception) (w : What) (c : Spot) → goes_there (handler_in (last_by f w) x) (spot_at f c) ≡ spot_at f (goes_there (handler_by w x) c)
  goes_handler x w c = ap (λ o. goes_there o (spot_at f c)) (handlers_moved x w) ∙ goes_option (handler_by w x) c

module _ (code : Code) (barriers : List BooleanExpression) where
  abbrev F : ℕ → ℕ
  F = offset code.lines

  abbrev X : Flat
  X = flat_of code barriers

  pub end_is : (n : ℕ) → end_at X (F n) ≡ end_line F (line_at code n)
  end_is n = end_at_step F code.lines n n (offset_zero code.lines)

  pub instructions_are : (n : ℕ) → instructions_at X (F n) ≡ instructions_by (line_at code n).what
  instructions_are n = instructions_at_step F code.lines n n

  -- Behind a construct.
  goes_back : (returns : List ℕ) → back_to X (map F returns) ≡ spot_at F (layout.back_to code returns)
  goes_back [] = ap (λ n. record { place = n; returns = [] }) (length_assembled F code.lines)
  goes_back (r ∷ rs) = refl

  pub goes_behind : (w : What) (c : Spot) → ended_in X (last_by F w) (spot_at F c) ≡ spot_at F (layout.ended_by code w c)
  goes_behind (does a) c = refl
  goes_behind (continues g) c = refl
  goes_behind (guards gs) c = refl
  goes_behind (ends construct.Unit next) c = goes_back c.returns
  goes_behind (ends construct.Block next) c = refl
  goes_behind (ends construct.Accept next) c = refl
  goes_behind (leaves n next) c = refl

  goes_out_of : (w : What) (n : ℕ) (c : Spot) → out_of_end X (last_by F w) (F n) (spot_at F c) ≡ spot_at F (layout.out_of_end code w n c)
  goes_out_of (does a) n c = refl
  goes_out_of (continues g) n c = refl
  goes_out_of (guards gs) n c = refl
  goes_out_of (ends construct.Unit next) n c = goes_back c.returns
  goes_out_of (ends construct.Block next) n c = refl
  goes_out_of (ends construct.Accept next) n c = refl
  goes_out_of (leaves m next) n c = refl

  ends_by : (w : What) (n : ℕ) → end_by X (last_by F w) (F n) ≡ F (layout.end_by code w n)
  ends_by (does a) n = refl
  ends_by (continues g) n = refl
  ends_by (guards gs) n = ap (λ (l : EndLine). l.out) (end_is n)
  ends_by (ends c next) n = refl
  ends_by (leaves m next) n = refl

  pub goes_left : (n : ℕ) (c : Spot) → left_by X (F n) (spot_at F c) ≡ spot_at F (layout.left_by code n c)
  goes_left n c =
      let w = (line_at code n).what in
      let m = layout.end_by code w n in
      let to : end_by X (end_at X (F n)).last (F n) ≡ F m = ap (λ (l : EndLine). end_by X l.last (F n)) (end_is n) ∙ ends_by w n in
      ap (λ k. out_of_end X (end_at X k).last k (spot_at F c)) to ∙ ap (λ (l : EndLine). out_of_end X l.last (F m) (spot_at F c)) (end_is m) ∙ goes_out_of (line_at code m).what m c

  -- What is read.
  pub handler_is : (x : Exception) (c : Spot) → is_there (handler_at X x (spot_at F c)) ≡ is_there (handler_by (line_at code (line_at code c.place).out).what x)
  handler_is x c =
      let n = (line_at code c.place).out in
      ap (λ (l : EndLine). is_there (handler_in (end_at X l.out).last x)) (end_is c.place) ∙ ap (λ (l : EndLine). is_there (handler_in l.last x)) (end_is n)
      ∙ ap is_there (handlers_moved F x (line_at code n).what) ∙ same_there F (handler_by (line_at code n).what x)

  pub handles_at : (x : Exception) (c : Spot) → goes_there (handler_in (end_at X (end_at X (F c.place)).out).last x) (spot_at F c) ≡ spot_at F (goes_there (handler_by (line_at code (line_at code c.place).out).what x) c)
  handles_at x c =
      let n = (line_at code c.place).out in
      ap (λ (l : EndLine). goes_there (handler_in (end_at X l.out).last x) (spot_at F c)) (end_is c.place) ∙ ap (λ (l : EndLine). goes_there (handler_in l.last x) (spot_at F c)) (end_is n)
      ∙ goes_handler F x (line_at code n).what c

  pub asks_by : (w : What) (at : Pos) (loops : ℕ) (s : Scene) → AtIs w at → asked_last (last_by F w) loops at s (eval false s (instructions_by w) 0 no_operands) ≡ asked_by w loops s
  asks_by (does a) at loops s h = ap (λ p. asked_last (last_by F (does a)) loops p s (eval false s (instructions_by (does a)) 0 no_operands)) h ∙ asked_law a loops s
  asks_by (continues g) at loops s h = refl
  asks_by (guards gs) at loops s h = refl
  asks_by (ends c next) at loops s h = refl
  asks_by (leaves n next) at loops s h = refl

  pub comes_by : (program : Program) (w : What) (s : Sight) → coming_last program.plan (last_by F w) s (eval true (no_scene s) (instructions_by w) 0 no_operands) ≡ coming_by program w s
  comes_by program (does a) s = coming_law program.plan a s
  comes_by program (continues g) s = refl
  comes_by program (guards gs) s = refl
  comes_by program (ends c next) s = refl
  comes_by program (leaves n next) s = refl

  pub asked_same : (program : Program) (T : ℕ) → LinesIn T code.lines → (p : Option Pending) (s : Scene) (c : Spot) → asked_at X p s (spot_at F c) ≡ layout.asked_at program code p s c
  asked_same program T within None s c =
      let l = line_at code c.place in
      ap (λ (e : EndLine). asked_last e.last (loops_of e.exit) e.at s (eval false s (instructions_at X (F c.place)) 0 no_operands)) (end_is c.place)
      ∙ ap (λ is. asked_last (last_by F l.what) (loops_of (way_moved F l.exit)) l.at s (eval false s is 0 no_operands)) (instructions_are c.place)
      ∙ ap (λ n. asked_last (last_by F l.what) n l.at s (eval false s (instructions_by l.what) 0 no_operands)) (same_loops F l.exit)
      ∙ asks_by l.what l.at (loops_of l.exit) s (at_is T code.lines c.place c.place within)
  asked_same program T within (Some p) s c = ap (λ b. handled_or_left b p) (handler_is p.exception c)

  pub coming_same : (program : Program) (p : Option Pending) (s : Sight) (c : Spot) → coming_at X program.plan p s (spot_at F c) ≡ layout.coming_at program code p s c
  coming_same program None s c =
      let l = line_at code c.place in
      ap (λ (e : EndLine). coming_last program.plan e.last s (eval true (no_scene s) (instructions_at X (F c.place)) 0 no_operands)) (end_is c.place)
      ∙ ap (λ is. coming_last program.plan (last_by F l.what) s (eval true (no_scene s) is 0 no_operands)) (instructions_are c.place)
      ∙ comes_by program l.what s
  coming_same program (Some p) s c = ap coming_raised (handler_is p.exception c)

  pub start_is : (n : ℕ) → start_at X n ≡ F (start_of code n)
  start_is n = get_or-map F code.starts n code.spare

  pub barrier_is : (n : ℕ) (s : Sight) → barrier_at X n s ≡ decided (slice_index_or barriers n (truth true)) s
  barrier_is n s = ap (λ is. decided_by (eval false (no_scene s) is 0 no_operands)) (get_or-map condition_code barriers n (truth true)) ∙ barrier_law (slice_index_or barriers n (truth true)) s
