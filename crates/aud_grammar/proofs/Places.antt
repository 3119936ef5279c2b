-- Tokens that are alike are read alike.
use Rattle.std.proofs.Common.{◌≡◌, ℕ, suc, List, [], ◌∷◌, length, refl, sym, ap, ◌∙◌, subst, Bool, true, false}
use Rattle.std.proofs.lemmas.Bool.{eqb-true}
use Rattle.std.specs.Prelude.{◌==◌, if◌then◌else◌, ℤ, Option, Ok}
use Rattle.aud_text.specs.declared.limits.TheConstants.{LEVELS}
use Rattle.aud_lex.specs.declared.token.Kind.{Kind}
use Rattle.aud_lex.specs.declared.token.Kind.TheVariants as kind
use Rattle.aud_lex.specs.Element.{Element}
use Rattle.aud_lex.specs.Kinds.{kind_number}
use Rattle.aud_text.specs.Name.{capitals}
use Rattle.aud_syntax.specs.Why.Bare.{nowhere, bare}
use Rattle.aud_grammar.specs.Values.{whole_part, decimals}
use Rattle.aud_grammar.specs.Grammar as g
use Rattle.aud_grammar.specs.Grammar.{Word, Phrase, Symbol, P, W, N}
use Rattle.aud_grammar.specs.First.{spelling, among, same_text, is_word, next_word, next_in, firsts}
use Rattle.aud_grammar.specs.Actions as a
use Rattle.aud_grammar.specs.Actions.{Item, token, none, top, pop, listed, made, the_unit}
use Rattle.aud_grammar.specs.Parsed.{Verdict, Good, Wrong, Deep, budget, parsed, judged}
use Rattle.aud_grammar.specs.Ties.Outcome.{Out, o_end, o_rest, o_word, o_token, o_no_word, o_no_token, o_spelled, o_misspelled, o_rule, o_level, o_deep, o_shut, o_down, o_this, o_other, o_last, o_yes, o_no, o_more, o_stop}
use Rattle.aud_grammar.specs.Why.Alike.{Alike, AllAlike, stripped}
use Rattle.aud_grammar.specs.Why.Laws.{AlikeRead}
use Rattle.aud_grammar.proofs.Reading.{enough_budget}
use Rattle.aud_grammar.proofs.Total.{out}
use Rattle.aud_grammar.proofs.Verdicts.{parsed_is}
use Rattle.aud_grammar.proofs.Bared.{bare_item, bares, bare_listed, bare_the_unit, bare_made}

next_alike : (ks : List Kind) (ts us : List Element) → AllAlike ts us → next_in ks us ≡ next_in ks ts
next_alike ks [] [] h = refl
next_alike ks [] (u ∷ us) h = absurd h
next_alike ks (t ∷ ts) [] h = absurd h
next_alike ks (t ∷ ts) (u ∷ us) h = ap (among ks) (sym h.0.kind)

length_alike : (ts us : List Element) → AllAlike ts us → length ts ≡ length us
length_alike [] [] h = refl
length_alike [] (u ∷ us) h = absurd h
length_alike (t ∷ ts) [] h = absurd h
length_alike (t ∷ ts) (u ∷ us) h = ap suc (length_alike ts us h.1)

-- two verdicts at places of one number
abbrev Matches : Verdict → Verdict → Type 0
Matches Good Good = Unit {0}
Matches (Wrong ts) (Wrong us) = length ts ≡ length us
Matches (Deep ts) (Deep us) = length ts ≡ length us
Matches _ _ = ⊥

-- the other tokens are read to these items, but for places, and this end
record Follows (s : List Symbol) (r : ℕ) (us : List Element) (ds : List Item) (v : Verdict) : Type 0 where
  items : List Item
  end : Verdict
  reads : Out s r us items end
  bared : bares ds ≡ bares items
  ended : Matches v end

-- a step that makes nothing
same_items : {s t : List Symbol} {q r : ℕ} {ts us : List Element} {ds : List Item} {v : Verdict} → Follows s q ts ds v → ((es : List Item) (w : Verdict) → Out s q ts es w → Out t r us es w) → Follows t r us ds v
same_items f step = record { items = f.items; end = f.end; reads = step f.items f.end f.reads; bared = f.bared; ended = f.ended }

-- a step that makes an item of what is read
new_items : {s t : List Symbol} {q r : ℕ} {ts us : List Element} {ds : List Item} {v : Verdict} (make : List Item → List Item) →
    ((st : List Item) → bares (make st) ≡ make (bares st)) → Follows s q ts ds v → ((es : List Item) (w : Verdict) → Out s q ts es w → Out t r us (make es) w) → Follows t r us (make ds) v
new_items {ds = ds} make h f step = record {
  items = make f.items;
  end = f.end;
  reads = step f.items f.end f.reads;
  bared = h ds ∙ ap make f.bared ∙ sym (h f.items);
  ended = f.ended;
}

-- a token in front
token_follows : {c : Kind} {k : List Symbol} {r : ℕ} {t : Element} {ds : List Item} {v : Verdict} (u : Element) (us : List Element) → among (c ∷ []) (kind_number u.kind) ≡ true → Follows k r us ds v → Follows (P c ∷ k) r (u ∷ us) (token t ∷ ds) v
token_follows u us h f = record { items = token u ∷ f.items; end = f.end; reads = o_token h f.reads; bared = ap (λ z. bare_item (token u) ∷ z) f.bared; ended = f.ended }

spelled_follows : {w : Word} {k : List Symbol} {r : ℕ} {t : Element} {ds : List Item} {v : Verdict} (u : Element) (us : List Element) → is_word w u ≡ true → Follows k r us ds v → Follows (W w ∷ k) r (u ∷ us) (token t ∷ ds) v
spelled_follows u us h f = record { items = token u ∷ f.items; end = f.end; reads = o_spelled h f.reads; bared = ap (λ z. bare_item (token u) ∷ z) f.bared; ended = f.ended }

tested : (b : Bool) → (if b then true else false) ≡ true → b ≡ true
tested true e = refl
tested false e = cc

pub is_code : (c : Kind) (n : ℕ) → among (c ∷ []) n ≡ true → n ≡ kind_number c
is_code c n e = eqb-true n (kind_number c) (tested (n == kind_number c) e)

alike_among : (c : Kind) (t u : Element) → Alike t u → among (c ∷ []) (kind_number t.kind) ≡ true → among (c ∷ []) (kind_number u.kind) ≡ true
alike_among c t u h e = subst (λ n. among (c ∷ []) n ≡ true) h.kind e

word_in : (w : Word) (t u : Element) → Alike t u → (b : Bool) → (kind_number u.kind == kind_number kind.Identifier) ≡ b →
    (if (if b then true else false) then same_text (capitals t.text) (spelling w) else false) ≡ (if (if b then true else false) then same_text (capitals u.text) (spelling w) else false)
word_in w t u h true e =
    let i : kind_number u.kind ≡ kind_number kind.Identifier = eqb-true (kind_number u.kind) (kind_number kind.Identifier) e in
    ap (λ (z : List ℕ). same_text z (spelling w)) (h.name (h.kind ∙ i))
word_in w t u h false e = refl

word_alike : (w : Word) (t u : Element) → Alike t u → is_word w t ≡ is_word w u
word_alike w t u h =
    ap (λ n. if among (kind.Identifier ∷ []) n then same_text (capitals t.text) (spelling w) else false) h.kind
    ∙ word_in w t u h (kind_number u.kind == kind_number kind.Identifier) refl

next_word_alike : (w : Word) (ts us : List Element) → AllAlike ts us → next_word w us ≡ next_word w ts
next_word_alike w [] [] h = refl
next_word_alike w [] (u ∷ us) h = absurd h
next_word_alike w (t ∷ ts) [] h = absurd h
next_word_alike w (t ∷ ts) (u ∷ us) h = sym (word_alike w t u h.0)

fault_follows : {s : List Symbol} {r : ℕ} {us : List Element} (items : List Item) (v w : Verdict) → Out s r us items w → Matches v w → Follows s r us items v
fault_follows items v w o e = record { items = items; end = w; reads = o; bared = refl; ended = e }

mutual
  follows : {s : List Symbol} {r : ℕ} {ts : List Element} {ds : List Item} {v : Verdict} → Out s r ts ds v → (us : List Element) → AllAlike ts us → Follows s r us ds v
  follows o_end [] h = record { items = []; end = Good; reads = o_end; bared = refl; ended = tt }
  follows o_end (u ∷ us) h = absurd h
  follows (o_rest {r} {t} {ts}) [] h = absurd h
  follows (o_rest {r} {t} {ts}) (u ∷ us) h = fault_follows [] (Wrong (t ∷ ts)) (Wrong (u ∷ us)) o_rest (ap suc (length_alike ts us h.1))
  follows (o_word e o) [] h = absurd h
  follows (o_word {c} {k} {r} {t} {ts} {ds} {v} e o) (u ∷ us) h = same_items (follows o us h.1) (λ es w x. o_word (alike_among c t u h.0 e) x)
  follows (o_token e o) [] h = absurd h
  follows (o_token {c} {k} {r} {t} {ts} {ds} {v} e o) (u ∷ us) h = token_follows u us (alike_among c t u h.0 e) (follows o us h.1)
  follows (o_no_word {c} {k} {r} {ts} e) us h = fault_follows [] (Wrong ts) (Wrong us) (o_no_word (next_alike (c ∷ []) ts us h ∙ e)) (length_alike ts us h)
  follows (o_no_token {c} {k} {r} {ts} e) us h = fault_follows [] (Wrong ts) (Wrong us) (o_no_token (next_alike (c ∷ []) ts us h ∙ e)) (length_alike ts us h)
  follows (o_spelled e o) [] h = absurd h
  follows (o_spelled {w} {k} {r} {t} {ts} {ds} {v} e o) (u ∷ us) h = spelled_follows u us (sym (word_alike w t u h.0) ∙ e) (follows o us h.1)
  follows (o_misspelled {w} {k} {r} {ts} e) us h = fault_follows [] (Wrong ts) (Wrong us) (o_misspelled (next_word_alike w ts us h ∙ e)) (length_alike ts us h)
  follows (o_rule {p = g.Identifier} o) us h =
      leaf_follows o us h g.Identifier (λ x. a.an_ident (a.ident_of x)) (λ k r us es w x. o_rule x)
      (λ t u e i. ap (λ (z : List ℕ). a.an_ident (record { name = z; at = nowhere })) (e.name i))
  follows (o_rule {p = g.Number} o) us h =
      leaf_follows o us h g.Number (λ x. a.a_number (a.number_of x)) (λ k r us es w x. o_rule x)
      (λ t u e i. ap (λ (z : Option ℤ). a.a_number (record { value = z; at = nowhere })) (e.number i))
  follows (o_rule {p = g.Literal} o) us h =
      leaf_follows o us h g.Literal (λ x. a.a_literal (a.literal_of x)) (λ k r us es w x. o_rule x)
      (λ t u e i. ap (λ (z : List ℕ). a.a_literal (record { text = z; at = nowhere })) (e.literal i))
  follows (o_rule {p = g.Real} o) us h =
      leaf_follows o us h g.Real (λ x. a.a_real (a.real_of x)) (λ k r us es w x. o_rule x)
      (λ t u e i. ap (λ (z : Option ℤ). a.a_real (record { whole = z; thousandths = decimals t.text; at = nowhere })) (e.whole i) ∙ ap (λ (z : Option ℕ). a.a_real (record { whole = whole_part u.text; thousandths = z; at = nowhere })) (e.fraction i))
  follows (o_rule {p = p} o) us h = new_items (made p) (bare_made p refl) (follows o us h) (λ es w x. o_rule x)
  follows (o_level o) us h = same_items (follows o us h) (λ es w x. o_level x)
  follows (o_deep {p} {k} {ts} e) us h = fault_follows [] (Deep ts) (Deep us) (o_deep (next_alike (firsts p) ts us h ∙ e)) (length_alike ts us h)
  follows (o_shut {p} {k} {ts} e) us h = fault_follows [] (Wrong ts) (Wrong us) (o_shut (next_alike (firsts p) ts us h ∙ e)) (length_alike ts us h)
  follows (o_down o) us h = same_items (follows o us h) (λ es w x. o_down x)
  follows (o_this {p} {q} {ps} {k} {r} {ts} e o) us h = same_items (follows o us h) (λ es w x. o_this (next_alike (firsts p) ts us h ∙ e) x)
  follows (o_other {p} {q} {ps} {k} {r} {ts} e o) us h = same_items (follows o us h) (λ es w x. o_other (next_alike (firsts p) ts us h ∙ e) x)
  follows (o_last o) us h = same_items (follows o us h) (λ es w x. o_last x)
  follows (o_yes {p} {k} {r} {ts} e o) us h = same_items (follows o us h) (λ es w x. o_yes (next_alike (firsts p) ts us h ∙ e) x)
  follows (o_no {p} {k} {r} {ts} e o) us h = new_items (λ st. none ∷ st) (λ st. refl) (follows o us h) (λ es w x. o_no (next_alike (firsts p) ts us h ∙ e) x)
  follows (o_more {p} {k} {r} {ts} e o) us h = new_items listed bare_listed (follows o us h) (λ es w x. o_more (next_alike (firsts p) ts us h ∙ e) x)
  follows (o_stop {p} {k} {r} {ts} e o) us h = new_items (λ st. none ∷ st) (λ st. refl) (follows o us h) (λ es w x. o_stop (next_alike (firsts p) ts us h ∙ e) x)

  -- a phrase of one token, which is made of what alike tokens share
  leaf_follows : {c : Kind} {k : List Symbol} {r : ℕ} {ts : List Element} {ds : List Item} {v : Verdict} → Out (P c ∷ k) r ts ds v → (us : List Element) → AllAlike ts us → (p : Phrase) (f : Item → Item) →
      ((k : List Symbol) (r : ℕ) (us : List Element) (es : List Item) (w : Verdict) → Out (P c ∷ k) r us es w → Out (N p ∷ k) r us (f (top es) ∷ pop es) w) →
      ((t u : Element) → Alike t u → kind_number t.kind ≡ kind_number c → bare_item (f (token t)) ≡ bare_item (f (token u))) → Follows (N p ∷ k) r us (f (top ds) ∷ pop ds) v
  leaf_follows (o_token e o) [] h p f step same = absurd h
  leaf_follows (o_token {c} {k} {r} {t} {ts} {ds} {v} e o) (u ∷ us) h p f step same =
      let o' = follows o us h.1 in
      record {
        items = f (token u) ∷ o'.items;
        end = o'.end;
        reads = step k r (u ∷ us) (token u ∷ o'.items) o'.end (o_token (alike_among c t u h.0 e) o'.reads);
        bared = ap (λ z. z ∷ bares ds) (same t u h.0 (is_code c (kind_number t.kind) e)) ∙ ap (λ z. bare_item (f (token u)) ∷ z) o'.bared;
        ended = o'.ended;
      }
  leaf_follows (o_no_token {c} {k} {r} {ts} e) us h p f step same =
      fault_follows (f none ∷ []) (Wrong ts) (Wrong us) (step k r us [] (Wrong us) (o_no_token (next_alike (c ∷ []) ts us h ∙ e))) (length_alike ts us h)

top_bares : (ds : List Item) → the_unit (top (bares ds)) ≡ bare (the_unit (top ds))
top_bares [] = refl
top_bares (x ∷ ds) = bare_the_unit x

judged_alike : (n k : ℕ) (ds es : List Item) (v w : Verdict) → n ≡ k → bares ds ≡ bares es → Matches v w → stripped (judged the_unit n ds v) ≡ stripped (judged the_unit k es w)
judged_alike n k ds es Good Good e b h = ap (λ z. Ok z) (sym (top_bares ds) ∙ ap (λ z. the_unit (top z)) b ∙ top_bares es)
judged_alike n k ds es (Wrong ts) (Wrong us) e b h = let i : length ts ≡ length us = h in cc
judged_alike n k ds es (Deep ts) (Deep us) e b h = let i : length ts ≡ length us = h in cc
judged_alike n k ds es Good (Wrong us) e b h = absurd h
judged_alike n k ds es Good (Deep us) e b h = absurd h
judged_alike n k ds es (Wrong ts) Good e b h = absurd h
judged_alike n k ds es (Wrong ts) (Deep us) e b h = absurd h
judged_alike n k ds es (Deep ts) Good e b h = absurd h
judged_alike n k ds es (Deep ts) (Wrong us) e b h = absurd h

alike_out : (ts us : List Element) (ds : List Item) (v : Verdict) → Out (N g.Unit ∷ []) LEVELS ts ds v → AllAlike ts us → stripped (parsed ts) ≡ stripped (parsed us)
alike_out ts us ds v o h =
    let f : Follows (N g.Unit ∷ []) LEVELS us ds v = follows o us h in
    ap stripped (parsed_is the_unit g.Unit LEVELS ts ds v o)
    ∙ judged_alike (length ts) (length us) ds f.items v f.end (length_alike ts us h) f.bared f.ended
    ∙ ap stripped (sym (parsed_is the_unit g.Unit LEVELS us f.items f.end f.reads))

pub alike_read : AlikeRead
alike_read ts us h = alike_out ts us _ _ (out ts budget (N g.Unit ∷ []) LEVELS tt (enough_budget (N g.Unit ∷ []))) h
