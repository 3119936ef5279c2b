-- The code of lists of expressions: names, components, guards.
use Rattle.std.proofs.Common.{◌≡◌, ℕ, ℤ, suc, List, [], ◌∷◌, ◌++◌, Bool, true, false, ◌||◌, Some, Result, Ok, refl, sym, ap, ◌∙◌, append_assoc, append-nil}
use Rattle.aud_text.specs.declared.raise.Raise.{Raise}
use Rattle.aud_typed.specs.Tree.{TaskName, ValueExpression, BooleanExpression, Alternatives, no_alternatives, accepting, delaying, terminating}
use Rattle.aud_meaning.specs.declared.state.OpenAccept.{OpenAccept}
use Rattle.aud_meaning.specs.declared.state.OpenDelay.{OpenDelay}
use Rattle.aud_meaning.specs.Configuration.{Waits}
use Rattle.aud_meaning.specs.Evaluation.{with_value, task_named, value_of, decided}
use Rattle.aud_meaning.specs.Control.{Scene}
use Rattle.aud_meaning.specs.Statements.{names_tasks, components, if_open, guards_from, region_of}
use Rattle.aud_code.specs.Instruction.{Instruction, Name, Component, OpensAccept, OpensDelay, OpensTerminate, Operands}
use Rattle.aud_code.specs.Eval.{on_result, sees, seen_in, opens_accept, opens_delay, opens_terminate}
use Rattle.aud_layout.specs.Instructions.{task_code, value_code, condition_code, names_code, components_code, guards_code}
use Rattle.aud_layout.proofs.Asking.Evals.{then_value, Ends, eval_task, eval_value, eval_condition}

-- what is open already, and what opens then
abbrev pub joined : Waits → Waits → Waits
joined a b = record { accepts = a.accepts ++ b.accepts; delays = a.delays ++ b.delays; terminate = a.terminate || b.terminate }

or_false : (b : Bool) → b ≡ b || false
or_false true = refl
or_false false = refl

or_true : (b : Bool) → true ≡ b || true
or_true true = refl
or_true false = refl

module _ (stops : Bool) (s : Scene) where
  pub eval_names : (ts : List TaskName) (rest : List Instruction) (o : Operands) → Ends stops s (names_code ts ++ rest) o ≡ on_result (names_tasks ts (sees stops s o)) (λ ns. Ends stops s rest (record o { names = o.names ++ ns }))
  eval_names [] rest o = ap (λ ns. Ends stops s rest (record o { names = ns })) (sym (append-nil o.names))
  eval_names (t ∷ ts) rest o =
      let cs = names_code ts in
      let flat : names_code (t ∷ ts) ++ rest ≡ task_code t ++ (Name ∷ (cs ++ rest)) = simp append_assoc in
      let end = λ (ns : List ℕ). Ends stops s rest (record o { names = o.names ++ ns }) in
      let go = λ (n : ℕ). Ends stops s (cs ++ rest) (record o { names = o.names ++ n ∷ [] }) in
      then_value (task_named t (sees stops s o)) (λ n. with_value (names_tasks ts (sees stops s o)) (λ ns. Ok (n ∷ ns))) end go _ (ap (λ is. Ends stops s is o) flat ∙ eval_task stops s t Name (cs ++ rest) o go (λ z. refl)) (λ n.
      then_value (names_tasks ts (sees stops s o)) (λ ns. Ok (n ∷ ns)) end (λ ns. Ends stops s rest (record o { names = (o.names ++ n ∷ []) ++ ns })) _ (eval_names ts rest (record o { names = o.names ++ n ∷ [] }))
      (λ ns. ap (λ ns. Ends stops s rest (record o { names = ns })) (append_assoc o.names (n ∷ []) ns)))

  pub eval_components : (es : List ValueExpression) (cells : List ℤ) (rest : List Instruction) (o : Operands) → Ends stops s (components_code es ++ rest) (record o { cells = Some cells }) ≡ on_result (components es cells s.sight) (λ zs. Ends stops s rest (record o { cells = Some zs }))
  eval_components [] cells rest o = refl
  eval_components (e ∷ es) cells rest o =
      let cs = components_code es in
      let flat : components_code (e ∷ es) ++ rest ≡ value_code e ++ (Component ∷ (cs ++ rest)) = simp append_assoc in
      then_value (value_of e (seen_in (Some cells) s.sight)) (λ z. components es (cells ++ z ∷ []) s.sight) (λ zs. Ends stops s rest (record o { cells = Some zs }))
      (λ z. Ends stops s (Component ∷ (cs ++ rest)) (record o { integers = z ∷ o.integers; cells = Some cells })) _
      (ap (λ is. Ends stops s is (record o { cells = Some cells })) flat ∙ eval_value stops s e (Component ∷ (cs ++ rest)) (record o { cells = Some cells }))
      (λ z. eval_components es (cells ++ z ∷ []) rest o)

  -- a guard, and what opens where it holds
  guarded : (g : BooleanExpression) (i : Instruction) (is rest : List Instruction) (o : Operands) (opens : Bool → Waits → Waits) (f : Waits → Waits) (r : Result Waits Raise) →
      ((b : Bool) → Ends stops s (i ∷ (is ++ rest)) (record o { booleans = b ∷ o.booleans }) ≡ Ends stops s (is ++ rest) (record o { waits = opens b o.waits })) →
      ((b : Bool) → Ends stops s (is ++ rest) (record o { waits = opens b o.waits }) ≡ on_result r (λ w. Ends stops s rest (record o { waits = joined (opens b o.waits) w }))) →
      opens false o.waits ≡ o.waits →
      ((w : Waits) → joined (opens true o.waits) w ≡ joined o.waits (f w)) →
      Ends stops s (condition_code g ++ (i ∷ (is ++ rest))) o ≡ on_result (with_value (decided g (sees stops s o)) (λ b. if_open b f r)) (λ w. Ends stops s rest (record o { waits = joined o.waits w }))
  guarded g i is rest o opens f r acts follows shut wide =
      then_value (decided g (sees stops s o)) (λ b. if_open b f r) (λ w. Ends stops s rest (record o { waits = joined o.waits w })) (λ b. Ends stops s (i ∷ (is ++ rest)) (record o { booleans = b ∷ o.booleans })) _
      (eval_condition stops s g (i ∷ (is ++ rest)) o) (go)
    where
      go : (b : Bool) → Ends stops s (i ∷ (is ++ rest)) (record o { booleans = b ∷ o.booleans }) ≡ on_result (if_open b f r) (λ w. Ends stops s rest (record o { waits = joined o.waits w }))
      go true = then_value r (λ w. Ok (f w)) (λ w. Ends stops s rest (record o { waits = joined o.waits w })) (λ w. Ends stops s rest (record o { waits = joined (opens true o.waits) w })) _ (acts true ∙ follows true) (λ w. ap (λ x. Ends stops s rest (record o { waits = x })) (wide w))
      go false = acts false ∙ follows false ∙ ap (λ x. on_result r (λ w. Ends stops s rest (record o { waits = joined x w }))) shut

  pub eval_guards : (offered : Alternatives) (n : ℕ) (rest : List Instruction) (o : Operands) → Ends stops s (guards_code n offered ++ rest) o ≡ on_result (guards_from n offered (sees stops s o)) (λ w. Ends stops s rest (record o { waits = joined o.waits w }))
  eval_guards no_alternatives n rest o =
      ap (λ xs. Ends stops s rest (record o { waits = record o.waits { accepts = xs } })) (sym (append-nil o.waits.accepts))
      ∙ ap (λ xs. Ends stops s rest (record o { waits = record o.waits { accepts = o.waits.accepts ++ []; delays = xs } })) (sym (append-nil o.waits.delays))
      ∙ ap (λ b. Ends stops s rest (record o { waits = record { accepts = o.waits.accepts ++ []; delays = o.waits.delays ++ []; terminate = b } })) (or_false o.waits.terminate)
  eval_guards (accepting g at e d p more) n rest o =
      let a : OpenAccept = record { alternative = n; entry = e; at = at; region = region_of d } in
      let cs = guards_code (suc n) more in
      let flat : guards_code n (accepting g at e d p more) ++ rest ≡ condition_code g ++ (OpensAccept a ∷ (cs ++ rest)) = simp append_assoc in
      ap (λ is. Ends stops s is o) flat ∙ guarded g (OpensAccept a) cs rest o (opens_accept a) (λ w. record w { accepts = a ∷ w.accepts }) (guards_from (suc n) more (sees stops s o)) (λ b. refl)
      (λ b. eval_guards more (suc n) rest (record o { waits = opens_accept a b o.waits })) refl
      (λ w. ap (λ xs. record { accepts = xs; delays = o.waits.delays ++ w.delays; terminate = o.waits.terminate || w.terminate }) (append_assoc o.waits.accepts (a ∷ []) w.accepts))
  eval_guards (delaying g e p more) n rest o =
      let d : OpenDelay = record { alternative = n; time = 0 } in
      let cs = guards_code (suc n) more in
      let flat : guards_code n (delaying g e p more) ++ rest ≡ condition_code g ++ (OpensDelay n ∷ (cs ++ rest)) = simp append_assoc in
      ap (λ is. Ends stops s is o) flat ∙ guarded g (OpensDelay n) cs rest o (opens_delay n) (λ w. record w { delays = d ∷ w.delays }) (guards_from (suc n) more (sees stops s o)) (λ b. refl)
      (λ b. eval_guards more (suc n) rest (record o { waits = opens_delay n b o.waits })) refl
      (λ w. ap (λ xs. record { accepts = o.waits.accepts ++ w.accepts; delays = xs; terminate = o.waits.terminate || w.terminate }) (append_assoc o.waits.delays (d ∷ []) w.delays))
  eval_guards (terminating g more) n rest o =
      let cs = guards_code (suc n) more in
      let flat : guards_code n (terminating g more) ++ rest ≡ condition_code g ++ (OpensTerminate ∷ (cs ++ rest)) = simp append_assoc in
      ap (λ is. Ends stops s is o) flat ∙ guarded g OpensTerminate cs rest o opens_terminate (λ w. record w { terminate = true }) (guards_from (suc n) more (sees stops s o)) (λ b. refl)
      (λ b. eval_guards more (suc n) rest (record o { waits = opens_terminate b o.waits })) refl
      (λ w. ap (λ b. record { accepts = o.waits.accepts ++ w.accepts; delays = o.waits.delays ++ w.delays; terminate = b }) (or_true o.waits.terminate))
