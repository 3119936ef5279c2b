-- The phrases of one word each among which a table of words chooses.
use Rattle.std.proofs.Common.{◌≡◌, ℕ, ◌+◌, ◌<◌, ◌≤◌, List, [], ◌∷◌, ◌++◌, length, drop, slice_index_or, Bool, true, false, refl, sym, ap, subst, ◌∙◌}
use Rattle.std.proofs.lemmas.List.{drop_all, drop_more}
use Rattle.std.specs.Prelude.{Option, Some, None}
use Rattle.aud_lex.specs.Element.{Element}
use Rattle.aud_lex.specs.declared.token.Kind.{Kind}
use Rattle.aud_grammar.specs.Grammar.{Phrase, Symbol, T, P, N, A, rule}
use Rattle.aud_grammar.specs.First.{next_in, firsts}
use Rattle.aud_grammar.specs.Actions.{Item, token, made}
use Rattle.aud_grammar.specs.Ties.Outcome.{Out, o_rule, o_this, o_other, o_last}
use Rattle.aud_cursor.specs.Ties.Reads.{Passes, Chosen, c_none, c_this, c_other}
use Rattle.aud_grammar.proofs.Choices.{heads}
use Rattle.aud_cursor.proofs.Passing.{to, word_passes, token_passes, in_this, in_others, in_none}

abbrev pub kinds : {X : Type 0} → List (Kind × X) → List Kind
kinds [] = []
kinds (e ∷ table) = e.0 ∷ kinds table

-- how a word is passed, and what is kept of it
pub record Keeps (s : Kind → Symbol) (keep : Element → List Item → List Item) : Type 0 where
  pub passes : {c : Kind} {r : ℕ} {ts ts' : List Element} {t : Element} → (next_in (c ∷ []) ts ≡ true) × (ts ≡ t ∷ ts') → Passes (s c) r ts (keep t) r ts'

-- the phrases are words, and make the trees that stand beside these

-- a phrase's symbols, the kinds with which it begins, and the items that it makes
abbrev Made : Type 0
Made = List Symbol × List Kind × List Item

abbrev parts_of : (Element → List Item → List Item) → List Phrase → Element → List Item → List Made
parts_of keep [] t ds = []
parts_of keep (p ∷ ps) t ds = (rule p, firsts p, made p (keep t ds)) ∷ parts_of keep ps t ds

abbrev parts_in : {X : Type 0} → (Kind → Symbol) → (Element → X → Item) → List (Kind × X) → Element → List Item → List Made
parts_in s f [] t ds = []
parts_in s f (e ∷ table) t ds = (s e.0 ∷ [], e.0 ∷ [], f t e.1 ∷ ds) ∷ parts_in s f table t ds

pub record Fits {X : Type 0} (s : Kind → Symbol) (keep : Element → List Item → List Item) (f : Element → X → Item) (ps : List Phrase) (table : List (Kind × X)) : Type 0 where
  pub by : (t : Element) (ds : List Item) → parts_of keep ps t ds ≡ parts_in s f table t ds

pub chosen_next : {X : Type 0} {table : List (Kind × X)} {ts : List Element} {x : X} → Chosen table ts (Some x) → next_in (kinds table) ts ≡ true
chosen_next {ts = ts} (c_this {e} {table} h) = in_this e.0 (kinds table) ts h
chosen_next {ts = ts} (c_other {e} {table} n c) = in_others e.0 (kinds table) ts (chosen_next c)

nothing_next : (ts : List Element) → next_in [] ts ≡ false
nothing_next [] = refl
nothing_next (t ∷ ts) = refl

pub not_chosen : {X : Type 0} {table : List (Kind × X)} {ts : List Element} → Chosen table ts None → next_in (kinds table) ts ≡ false
not_chosen {ts = ts} c_none = nothing_next ts
not_chosen {ts = ts} (c_other {e} {table} n c) = in_none e.0 (kinds table) ts n (not_chosen c)

first_fits : {X : Type 0} {s : Kind → Symbol} {keep : Element → List Item → List Item} {f : Element → X → Item} {p : Phrase} {ps : List Phrase} {e : Kind × X} {table : List (Kind × X)} → Fits s keep f (p ∷ ps) (e ∷ table) →
    (t : Element) (ds : List Item) → (rule p ≡ s e.0 ∷ []) × (firsts p ≡ e.0 ∷ []) × (made p (keep t ds) ≡ f t e.1 ∷ ds)
first_fits h t ds =
    let q = (heads (h.by t ds)).0 in
    (ap (λ (z : Made). z.0) q, ap (λ (z : Made). z.1) q, ap (λ (z : Made). z.2) q)

others_fit : {X : Type 0} {s : Kind → Symbol} {keep : Element → List Item → List Item} {f : Element → X → Item} {p : Phrase} {ps : List Phrase} {e : Kind × X} {table : List (Kind × X)} → Fits s keep f (p ∷ ps) (e ∷ table) → Fits s keep f ps table
others_fit h = record { by = λ t ds. (heads (h.by t ds)).1 }

begun_by : {X : Type 0} {s : Kind → Symbol} {keep : Element → List Item → List Item} {f : Element → X → Item} {p : Phrase} {ps : List Phrase} {e : Kind × X} {table : List (Kind × X)} {b : Bool} → Fits s keep f (p ∷ ps) (e ∷ table) →
    (t : Element) (ts : List Element) → next_in (e.0 ∷ []) ts ≡ b → next_in (firsts p) ts ≡ b
begun_by h t ts n = ap (λ l. next_in l ts) (first_fits h t []).1 ∙ n

one : {X : Type 0} {s : Kind → Symbol} {keep : Element → List Item → List Item} {f : Element → X → Item} {p : Phrase} {ps : List Phrase} {e : Kind × X} {table : List (Kind × X)} {ts ts' : List Element} {t : Element} → Keeps s keep →
    Fits s keep f (p ∷ ps) (e ∷ table) → next_in (e.0 ∷ []) ts ≡ true → ts ≡ t ∷ ts' → (r : ℕ) → Passes (N p) r ts (λ ds. f t e.1 ∷ ds) r ts'
one {keep = keep} {ts = ts} {t = t} way h n is r k ds v o =
    let q = first_fits h t ds in
    to (o_rule (subst (λ l. Out (l ++ k) r ts (keep t ds) v) (sym q.0) (way.passes (n, is) k ds v o))) q.2

-- the word that is chosen is passed
pub choice : {X : Type 0} {s : Kind → Symbol} {keep : Element → List Item → List Item} → Keeps s keep → (f : Element → X → Item) {ps : List Phrase} {table : List (Kind × X)} {ts ts' : List Element} {t : Element} {x : X} →
    Fits s keep f ps table → Chosen table ts (Some x) → ts ≡ t ∷ ts' → (r : ℕ) → Passes (A ps) r ts (λ ds. f t x ∷ ds) r ts'
choice way f {ps = []} {t = t} h (c_this n) is r = let q = h.by t [] in cc
choice way f {ps = []} {t = t} h (c_other n c) is r = let q = h.by t [] in cc
choice way f {ps = p ∷ []} h (c_this n) is r = λ k ds v o. o_last (one way h n is r k ds v o)
choice way f {ps = p ∷ q ∷ ps} {ts = ts} {t = t} h (c_this n) is r = λ k ds v o. o_this (begun_by h t ts n) (one way h n is r k ds v o)
choice way f {ps = p ∷ []} {table = e ∷ []} h (c_other n c) is r = elim c [ ]
choice way f {ps = p ∷ []} {table = e ∷ e' ∷ table} {t = t} h (c_other n c) is r = let q = (heads (h.by t [])).1 in cc
choice way f {ps = p ∷ q ∷ ps} {ts = ts} {t = t} h (c_other n c) is r = λ k ds v o. o_other (begun_by h t ts n) (choice way f (others_fit h) c is r k ds v o)

pub words : Keeps T (λ t ds. ds)
words = record { passes = word_passes }

pub tokens : Keeps P (λ t ds. token t ∷ ds)
tokens = record { passes = token_passes }

-- going through a table: what the rest of it chooses, the whole one does

abbrev pub Remains : {X : Type 0} → List (Kind × X) → List (Kind × X) → List Element → Type 0
Remains {X} rest table ts = (x : Option X) → Chosen rest ts x → Chosen table ts x

next_entry : {A : Type 0} (xs : List A) (i : ℕ) (x : A) → i < length xs → x ≡ slice_index_or xs i x → drop i xs ≡ x ∷ drop (i + 1) xs
next_entry xs i x h is = drop_more xs i x h ∙ ap (λ z. z ∷ drop (i + 1) xs) (sym is)

pub remains_this : {X : Type 0} {table : List (Kind × X)} {e : Kind × X} {ts : List Element} (i : ℕ) → i < length table → e ≡ slice_index_or table i e → Remains (drop i table) table ts → next_in (e.0 ∷ []) ts ≡ true → Chosen table ts (Some e.1)
remains_this {table = table} {e} {ts} i h is r n = r _ (subst (λ l. Chosen l ts (Some e.1)) (sym (next_entry table i e h is)) (c_this n))

pub remains_other : {X : Type 0} {table : List (Kind × X)} {e : Kind × X} {ts : List Element} (i : ℕ) → i < length table → e ≡ slice_index_or table i e → Remains (drop i table) table ts → next_in (e.0 ∷ []) ts ≡ false → Remains (drop (i + 1) table) table ts
remains_other {table = table} {e} {ts} i h is r n = λ x c. r x (subst (λ l. Chosen l ts x) (sym (next_entry table i e h is)) (c_other n c))

pub remains_none : {X : Type 0} {table : List (Kind × X)} {ts : List Element} (i : ℕ) → length table ≤ i → Remains (drop i table) table ts → Chosen table ts None
remains_none {table = table} {ts} i h r = r None (subst (λ l. Chosen l ts None) (sym (drop_all i table h)) c_none)
