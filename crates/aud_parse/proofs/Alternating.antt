-- The alternatives of a selective accept, one behind another.
use Rattle.std.proofs.Common.{◌≡◌, ℕ, List, [], ◌∷◌, ◌++◌, Bool, true, false, refl, sym, ap, ◌∙◌, arith}
use Rattle.std.specs.Prelude.{◌==◌, if◌then◌else◌, Option, Some, None, Box, Vec, Result, Ok, Err, IsErrAnd}
use Rattle.std.specs.Global.{Global}
use Rattle.std.proofs.lemmas.Result.{err_from_is_err_and}
use Rattle.std.proofs.lemmas.Bool.{eqb-true}
use Rattle.aud_lex.specs.Kinds.{kind_number}
use Rattle.aud_lex.specs.Element.{Element}
use Rattle.aud_lex.specs.declared.token.Kind.TheVariants as kind
use Rattle.aud_syntax.specs.declared.tree.Expression.{Expression}
use Rattle.aud_syntax.specs.declared.tree.Statements.{Statements}
use Rattle.aud_syntax.specs.declared.tree.Alternative.{Alternative}
use Rattle.aud_syntax.specs.declared.tree.Guarded.{Guarded}
use Rattle.aud_syntax.specs.Plain as m
use Rattle.aud_syntax.specs.Ties.View.{plain_alternative, plain_others, guarded_list}
use Rattle.aud_grammar.specs.Grammar as g
use Rattle.aud_grammar.specs.Grammar.{Symbol, T, N, Opt, Rep}
use Rattle.aud_grammar.specs.First.{among, next_in}
use Rattle.aud_grammar.specs.Parsed.{Verdict}
use Rattle.aud_grammar.specs.Actions.{Item, made, further, unguarded, first_alternative, other_alternatives, else_part, top, pop}
use Rattle.aud_grammar.specs.Ties.Outcome.{Out, o_rule, o_this, o_other, o_last, o_yes, o_more, o_stop, o_no_word}
use Rattle.aud_cursor.specs.declared.cursor.Rest.{Rest}
use Rattle.aud_cursor.specs.declared.cursor.Fault.{Fault}
use Rattle.aud_cursor.specs.declared.cursor.Fault.TheVariants as fault
use Rattle.aud_cursor.specs.Ties.Reads.{Passes, FailsAt, FailsIn, Comes, MayRead, Completing, Completes}
use Rattle.aud_parse_expr.specs.Ties.Items.{expression_item}
use Rattle.aud_cursor.specs.Ties.Items.{opt_item}
use Rattle.aud_parse.specs.declared.select.Form.{Form}
use Rattle.aud_parse.specs.declared.select.Seen.{Seen}
use Rattle.aud_parse.specs.declared.select.Seen.TheVariants as seen
use Rattle.aud_parse.specs.Ties.Items.{guard_item, alternative_item, boxed_alternative_item, else_item, last_item, further_item}
use Rattle.aud_parse.specs.Ties.Parts.{else_statements, unboxed}
use Rattle.aud_parse.specs.Ties.Alternatives.{alternative_of, remaining, followed, Begins, b_accept, b_delay, b_terminate, Goes, g_accept, g_delay, g_terminate, g_delays, g_needed, g_either, g_or, g_first, g_more, MayComplete}
use Rattle.aud_cursor.proofs.Passing.{in_others}
use Rattle.aud_parse.proofs.Rolls.{opt_expression_is}

-- the next token is one word, and so it is no other
or_no_else : (ts : List Element) → next_in (kind.Or ∷ []) ts ≡ true → next_in (kind.Else ∷ []) ts ≡ false
or_no_else [] h = refl
or_no_else (t ∷ ts) h =
    let e : kind_number t.kind ≡ kind_number kind.Or = eqb-true (kind_number t.kind) (kind_number kind.Or) (is_one (kind_number t.kind == kind_number kind.Or) h) in
    ap (λ n. among (kind.Else ∷ []) n) e
  where
    is_one : (b : Bool) → (if b then true else false) ≡ true → b ≡ true
    is_one true i = refl
    is_one false i = cc

-- the symbols that read an alternative behind `or` and its guard, and those behind it
abbrev pub turn : Seen → List Symbol
turn seen.Accepts = N g.AnyAlternative ∷ []
turn seen.Delays = N g.NeedAccept ∷ []
turn seen.AcceptsAndDelays = N g.Either ∷ Rep g.OrEither ∷ []
turn seen.Terminate = N g.AcceptAlternative ∷ Rep g.OrAccept ∷ []
turn seen.AcceptsAndTerminate = N g.AcceptAlternative ∷ Rep g.OrAccept ∷ []

-- what these symbols read, as one item
abbrev pub turned : Seen → List Item → List Item
turned seen.Accepts st = unguarded (first_alternative (top st)) (other_alternatives (top st)) (else_part (top st)) ∷ pop st
turned seen.Delays st = unguarded (first_alternative (top st)) (other_alternatives (top st)) (else_part (top st)) ∷ pop st
turned seen.AcceptsAndDelays st = made g.DelaysAccept st
turned seen.Terminate st = made g.DelaysAccept st
turned seen.AcceptsAndTerminate st = made g.DelaysAccept st

-- with which alternative a selective accept begins
pub begins_on : {ts : List Element} {f : Form} {s : Seen} {r : ℕ} → Begins ts f s → (k : List Symbol) (ds : List Item) (v : Verdict) → Out (N (alternative_of f) ∷ remaining s ++ k) r ts ds v →
    (es : List Item) × Out (N g.FirstAlternative ∷ k) r ts es v × (es ≡ made g.AcceptsOnly (top ds ∷ followed s (pop ds)))
begins_on (b_accept a) k ds v o = (_, o_rule (o_this a (o_rule o)), refl)
begins_on (b_delay a d) k ds v o = (_, o_rule (o_other a (o_this d (o_rule o))), refl)
begins_on (b_terminate a d) k ds v o = (_, o_rule (o_other a (o_other d (o_last (o_rule o)))), refl)

-- one more, behind `or` and its guard
pub goes_on : {s s' : Seen} {ts : List Element} {f : Form} {r : ℕ} → Goes s ts f s' → (k : List Symbol) (ds : List Item) (v : Verdict) → Out (N (alternative_of f) ∷ remaining s' ++ k) r ts ds v →
    (es : List Item) × Out (turn s ++ k) r ts es v × (turned s es ≡ made g.AcceptsOnly (top ds ∷ followed s' (pop ds)))
goes_on (g_accept a) k ds v o = (_, o_rule (o_this a (o_rule o)), refl)
goes_on (g_delay a d) k ds v o = (_, o_rule (o_other a (o_this d (o_rule o))), refl)
goes_on (g_terminate a d) k ds v o = (_, o_rule (o_other a (o_other d (o_last (o_rule o)))), refl)
goes_on (g_delays d) k ds v o = (_, o_rule (o_this d (o_rule o)), refl)
goes_on (g_needed d) k ds v o = (_, o_rule (o_other d (o_last (o_rule o))), refl)
goes_on (g_either a) k ds v o = (_, o_rule (o_this a o), refl)
goes_on (g_or a) k ds v o = (_, o_rule (o_other a (o_last o)), refl)
goes_on g_first k ds v o = (ds, o, refl)
goes_on g_more k ds v o = (ds, o, refl)

pub or_on : (s : Seen) {ts ts' : List Element} {r : ℕ} → next_in (kind.Or ∷ []) ts ≡ true → Passes (T kind.Or) r ts (λ ds. ds) r ts' → (k : List Symbol) (ds : List Item) (v : Verdict) → Out (Opt g.Guard ∷ turn s ++ k) r ts' ds v →
    (es : List Item) × Out (remaining s ++ k) r ts es v × (followed s es ≡ made g.OrAny (top ds ∷ turned s (pop ds)))
or_on seen.Accepts {ts} h p k ds v o = (_, o_yes (in_others kind.Else (kind.Or ∷ []) ts h) (o_rule (o_other (or_no_else ts h) (o_last (o_rule (p _ ds v o))))), refl)
or_on seen.Delays h p k ds v o = (_, p _ ds v o, refl)
or_on seen.AcceptsAndDelays h p k ds v o = (_, o_more h (o_rule (p _ ds v o)), refl)
or_on seen.Terminate h p k ds v o = (_, o_rule (p _ ds v o), refl)
or_on seen.AcceptsAndTerminate h p k ds v o = (_, o_more h (o_rule (p _ ds v o)), refl)

-- alternatives in front of what follows them
abbrev pub in_front : List Guarded → List Item → List Item
in_front [] st = st
in_front (y ∷ ys) st = made g.OrAny (opt_item expression_item y.guard ∷ made g.AcceptsOnly (alternative_item y.alternative ∷ in_front ys st))

front_push : (ys : List Guarded) (y : Guarded) (st : List Item) → in_front (ys ++ y ∷ []) st ≡ in_front ys (in_front (y ∷ []) st)
front_push [] y st = refl
front_push (z ∷ ys) y st = ap (λ l. made g.OrAny (opt_item expression_item z.guard ∷ made g.AcceptsOnly (alternative_item z.alternative ∷ l))) (front_push ys y st)

pub front_items : (ys : List Guarded) (inner : m.MoreStatements) (ds : List Item) → in_front ys (further m.no_alternatives inner ∷ ds) ≡ further (guarded_list ys) inner ∷ ds
front_items [] inner ds = refl
front_items (y ∷ ys) inner ds =
    ap (λ l. made g.OrAny (opt_item expression_item y.guard ∷ made g.AcceptsOnly (alternative_item y.alternative ∷ l))) (front_items ys inner ds)
    ∙ ap (λ z. further (m.more_alternatives z (plain_alternative y.alternative) (guarded_list ys)) inner ∷ ds) (opt_expression_is y.guard)

-- the alternatives so far behind the first
pub record Chain (s : Seen) (r : ℕ) (ts : List Element) (xs : List Guarded) (s' : Seen) (ts' : List Element) : Type 0 where
  pub by : (k : List Symbol) (ds : List Item) (v : Verdict) → Out (remaining s' ++ k) r ts' ds v → (es : List Item) × Out (remaining s ++ k) r ts es v × (followed s es ≡ in_front xs (followed s' ds))

pub chain_none : (s : Seen) (r : ℕ) (ts : List Element) {xs : List Guarded} → xs ≡ [] → Chain s r ts xs s ts
chain_none s r ts e = rw e (record { by = λ k ds v o. (ds, o, refl) })

-- behind `or` and a guard
pub chain_turn : {s0 s : Seen} {r : ℕ} {ts ts' ts1 : List Element} {xs : List Guarded} → Chain s0 r ts xs s ts' → next_in (kind.Or ∷ []) ts' ≡ true → Passes (T kind.Or) r ts' (λ ds. ds) r ts1 →
    (k : List Symbol) (ds : List Item) (v : Verdict) → Out (Opt g.Guard ∷ turn s ++ k) r ts1 ds v →
    (es : List Item) × Out (remaining s0 ++ k) r ts es v × (followed s0 es ≡ in_front xs (made g.OrAny (top ds ∷ turned s (pop ds))))
chain_turn {s = s} {xs = xs} c h p k ds v o =
    let w = or_on s h p k ds v o in
    let u = c.by k w.0 v w.1 in
    (u.0, u.1, u.2 ∙ ap (λ l. in_front xs l) w.2)

-- the same with the alternative behind them
pub chain_alternative : {s0 s s' : Seen} {r : ℕ} {ts ts' ts1 ts2 : List Element} {xs : List Guarded} {f : Form} {guard : Item} → Chain s0 r ts xs s ts' → next_in (kind.Or ∷ []) ts' ≡ true → Passes (T kind.Or) r ts' (λ ds. ds) r ts1 →
    Passes (Opt g.Guard) r ts1 (λ ds. guard ∷ ds) r ts2 → Goes s ts2 f s' → (k : List Symbol) (ds : List Item) (v : Verdict) → Out (N (alternative_of f) ∷ remaining s' ++ k) r ts2 ds v →
    (es : List Item) × Out (remaining s0 ++ k) r ts es v × (followed s0 es ≡ in_front xs (made g.OrAny (guard ∷ made g.AcceptsOnly (top ds ∷ followed s' (pop ds)))))
chain_alternative {s = s} {xs = xs} {guard = guard} c h p q t k ds v o =
    let w = goes_on t k ds v o in
    let u = chain_turn c h p k (guard ∷ w.0) v (q (turn s ++ k) w.0 v w.1) in
    (u.0, u.1, u.2 ∙ ap (λ l. in_front xs (made g.OrAny (guard ∷ l))) w.2)

pub chain_push : {s0 s s' : Seen} {r : ℕ} {ts ts' ts1 ts2 ts3 : List Element} {xs ys : List Guarded} {f : Form} (guard : Option (Box Expression Global)) (x : Box Alternative Global) (y : Box Guarded Global) →
    Chain s0 r ts xs s ts' → next_in (kind.Or ∷ []) ts' ≡ true → Passes (T kind.Or) r ts' (λ ds. ds) r ts1 → Passes (Opt g.Guard) r ts1 (λ ds. guard_item guard ∷ ds) r ts2 → Goes s ts2 f s' →
    Passes (N (alternative_of f)) r ts2 (λ ds. boxed_alternative_item x ∷ ds) r ts3 → y.value ≡ record { guard = unboxed guard; alternative = x.value } → ys ≡ xs ++ y.value ∷ [] → Chain s0 r ts ys s' ts3
chain_push {s' = s'} {xs = xs} guard x y c h p q t a e is = record {
  by = λ k ds v o.
      let w = chain_alternative c h p q t k (boxed_alternative_item x ∷ ds) v (a (remaining s' ++ k) ds v o) in
      (w.0, w.1, w.2 ∙ ap (λ (z : Guarded). in_front xs (in_front (z ∷ []) (followed s' ds))) (sym e) ∙ sym (front_push xs y.value (followed s' ds)) ∙ ap (λ l. in_front l (followed s' ds)) (sym is));
}

-- the last, and what follows it
pub chain_end : {s0 s : Seen} {r : ℕ} (start mid rest : Rest) (all : Vec Guarded Global) (otherwise : Option (Box Statements Global)) → Chain s0 r start.tokens.now all.items s mid.tokens.now →
    Completing (followed s) last_item (remaining s) r mid (Ok (otherwise, rest)) → Completing (followed s0) further_item (remaining s0) r start (Ok ((all, otherwise), rest))
chain_end {s0} {s} start mid rest all otherwise c h = λ k ds v o.
    let w = h k ds v o in
    let u = c.by k w.0 v w.1 in
    (u.0, u.1, u.2 ∙ ap (λ l. in_front all.items l) w.2 ∙ front_items all.items (plain_others (else_statements otherwise)) ds)

-- what follows the last alternative

last_is : (x : Option (Box Statements Global)) (ds : List Item) → followed seen.Accepts (opt_item else_item x ∷ ds) ≡ last_item x ∷ ds
last_is None ds = refl
last_is (Some x) ds = refl

pub accepts_end : {r : ℕ} (start : Rest) (res : Result (Option (Box Statements Global) × Rest) Fault) → MayRead (opt_item else_item) (Opt g.AfterAccept) r start res → MayComplete (followed seen.Accepts) last_item (remaining seen.Accepts) r start res
accepts_end {r} start res h = record { reads = by res h.reads; shorter = h.shorter }
  where
    by : (res : Result (Option (Box Statements Global) × Rest) Fault) → Comes (opt_item else_item) (Opt g.AfterAccept) r start res → Completing (followed seen.Accepts) last_item (remaining seen.Accepts) r start res
    by (Ok p) h = λ k ds v o. (_, h k ds v o, last_is p.0 ds)
    by (Err fault.Memory) h = tt
    by (Err (fault.Wrong rest)) h = h
    by (Err (fault.Deep rest)) h = h

pub delays_end : {r : ℕ} (start : Rest) → next_in (kind.Or ∷ []) start.tokens.now ≡ false → MayComplete (followed seen.AcceptsAndDelays) last_item (remaining seen.AcceptsAndDelays) r start (Ok (None, start))
delays_end start h = record { reads = λ k ds v o. (_, o_stop h o, refl); shorter = omega arith }

pub terminate_end : {r : ℕ} (start : Rest) → next_in (kind.Or ∷ []) start.tokens.now ≡ false → MayComplete (followed seen.AcceptsAndTerminate) last_item (remaining seen.AcceptsAndTerminate) r start (Ok (None, start))
terminate_end start h = record { reads = λ k ds v o. (_, o_stop h o, refl); shorter = omega arith }

pub no_accept : {r : ℕ} (start : Rest) → next_in (kind.Or ∷ []) start.tokens.now ≡ false → MayComplete (followed seen.Delays) last_item (remaining seen.Delays) r start (Err (fault.Wrong start))
no_accept start h = record { reads = λ k. ([], o_no_word h); shorter = tt }

pub no_first : {r : ℕ} (start : Rest) → next_in (kind.Or ∷ []) start.tokens.now ≡ false → MayComplete (followed seen.Terminate) last_item (remaining seen.Terminate) r start (Err (fault.Wrong start))
no_first start h = record { reads = λ k. (_, o_rule (o_no_word h)); shorter = tt }

-- reading fails behind what is read already
pub fails_on : (S : List Symbol) {s : Symbol} {r r' : ℕ} {ts ts' : List Element} (K : List Symbol → List Symbol) (e : Fault) → FailsAt s r' ts' e →
    ((k : List Symbol) (ds : List Item) (v : Verdict) → Out (s ∷ K k) r' ts' ds v → (es : List Item) × Out (S ++ k) r ts es v) → FailsIn S r ts e
fails_on S K fault.Memory h before = tt
fails_on S K (fault.Wrong rest) h before = λ k. let o = h (K k) in before k o.0 _ o.1
fails_on S K (fault.Deep rest) h before = λ k. let o = h (K k) in before k o.0 _ o.1

pub fails_more_on : (S S' : List Symbol) {r r' : ℕ} {ts ts' : List Element} (e : Fault) → FailsIn S' r' ts' e →
    ((k : List Symbol) (ds : List Item) (v : Verdict) → Out (S' ++ k) r' ts' ds v → (es : List Item) × Out (S ++ k) r ts es v) → FailsIn S r ts e
fails_more_on S S' fault.Memory h before = tt
fails_more_on S S' (fault.Wrong rest) h before = λ k. let o = h k in before k o.0 _ o.1
fails_more_on S S' (fault.Deep rest) h before = λ k. let o = h k in before k o.0 _ o.1

-- the exits by a `?`

pub exit_completes : {make : List Item → List Item} {S : List Symbol} {r : ℕ} {start : Rest} {X : Type 0} (x : X → Item) (e : Fault) (res : Result (X × Rest) Fault) → IsErrAnd res (λ y. y ≡ e) → FailsIn S r start.tokens.now e → Completes make x S r start res
exit_completes x e res is h =
    let p = err_from_is_err_and res is in
    rw (p.1, p.2) (record { reads = h; shorter = tt })

pub exit_may : {make : List Item → List Item} {S : List Symbol} {r : ℕ} {start : Rest} {X : Type 0} (x : X → Item) (e : Fault) (res : Result (X × Rest) Fault) → IsErrAnd res (λ y. y ≡ e) → FailsIn S r start.tokens.now e → MayComplete make x S r start res
exit_may x e res is h =
    let p = err_from_is_err_and res is in
    rw (p.1, p.2) (record { reads = h; shorter = tt })
