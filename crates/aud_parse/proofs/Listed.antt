-- Lists of one tree at least that are read behind what opens them.
use Rattle.std.proofs.Common.{◌≡◌, ℕ, List, [], ◌∷◌, ◌++◌, ap, sym, ◌∙◌, true, false}
use Rattle.std.specs.Prelude.{Result, IsErrAnd}
use Rattle.aud_lex.specs.Element.{Element}
use Rattle.aud_grammar.specs.Grammar.{Phrase, Symbol, N, L, Down, Opt, Rep, rule}
use Rattle.aud_grammar.specs.First.{next_in, firsts}
use Rattle.aud_grammar.specs.Parsed.{Verdict}
use Rattle.aud_grammar.specs.Actions.{Item, listed}
use Rattle.aud_grammar.specs.Ties.Outcome.{Out, o_yes}
use Rattle.aud_cursor.specs.Ties.Items.{list_item}
use Rattle.aud_cursor.specs.Ties.Reads.{Passes, MayRead, NoMore}
use Rattle.aud_cursor.specs.declared.cursor.Rest.{Rest}
use Rattle.aud_cursor.specs.declared.cursor.Fault.{Fault}
use Rattle.aud_cursor.specs.declared.cursor.Fault.TheVariants as fault
use Rattle.aud_cursor.proofs.Passing.{to, hand_on, no_level, Heads, heads_on, headed_items}

-- the symbol opens a list of these phrases, which is read from the tokens us, in front of K
abbrev pub Heading_on : Symbol → Phrase → ℕ → List Element → (List Symbol → List Symbol) → ℕ → List Element → Type 0
Heading_on s q r ts K r' us = (k : List Symbol) (ds : List Item) (v : Verdict) → Out (N q ∷ Rep q ∷ K k) r' us ds v → Out (s ∷ k) r ts (listed ds) v

-- the list with its last tree
pub list_ends : {X : Type 0} {f : X → Item} {s : Symbol} {q : Phrase} {K : List Symbol → List Symbol} {r r' : ℕ} {ts us ts' ts'' : List Element} {xs ys : List X} (x : X) → Heading_on s q r ts K r' us → Heads f q q r' us xs ts' → Passes (N q) r' ts' (λ ds. f x ∷ ds) r' ts'' →
    next_in (firsts q) ts'' ≡ false → ys ≡ xs ++ x ∷ [] → ((k : List Symbol) (ds : List Item) (v : Verdict) → Out k r ts'' ds v → Out (K k) r' ts'' ds v) → Passes s r ts (λ ds. list_item f ys ∷ ds) r ts''
list_ends {f = f} {xs = xs} x opened t p e is back k ds v o = to (opened k _ v (heads_on x t p e _ ds v (back k ds v o))) (headed_items f xs x ds ∙ ap (λ l. list_item f l ∷ ds) (sym is))

-- the exit where no level is left for a phrase that may be missing, and is there
pub no_level_of : {X : Type 0} (x : X → Item) (p q : Phrase) (r : ℕ) (ts : Rest) (e : Fault) (res : Result (X × Rest) Fault) → rule p ≡ L q ∷ Down ∷ [] → firsts p ≡ firsts q →
    IsErrAnd res (λ y. y ≡ e) → (r ≡ 0) × (e ≡ fault.Deep ts) → next_in (firsts p) ts.tokens.now ≡ true → MayRead x (Opt p) r ts res
no_level_of x p q r ts e res is same err at begins =
    let h : MayRead x (N p) r ts res = no_level {Left = NoMore} x p q r ts true e res is err at (sym begins ∙ ap (λ l. next_in l ts.tokens.now) same) in
    record { reads = hand_on x ts res h.reads (λ k ds v o. o_yes begins o); shorter = h.shorter }
