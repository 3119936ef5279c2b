-- What is read is derived, and what is derived is read.
use Rattle.std.specs.Prelude.{◌≡◌, ℕ, List, [], ◌∷◌, true, false}
use Rattle.std.proofs.Common.{◌∙◌}
use Rattle.aud_lex.specs.Element.{Element}
use Rattle.aud_grammar.specs.Grammar.{Phrase, Symbol, N, A}
use Rattle.aud_grammar.specs.First.{next_in, firsts}
use Rattle.aud_grammar.specs.Parsed.{Verdict, Good}
use Rattle.aud_grammar.specs.Actions.{Item}
use Rattle.aud_grammar.specs.Ties.Outcome.{Out, o_end, o_rest, o_word, o_token, o_no_word, o_no_token, o_spelled, o_misspelled, o_rule, o_level, o_deep, o_shut, o_down, o_this, o_other, o_last, o_yes, o_no, o_more, o_stop}
use Rattle.aud_grammar.specs.Why.Derives.{Member, here, later, Derives, d_end, d_word, d_token, d_spelled, d_rule, d_level, d_down, d_one, d_yes, d_no, d_more, d_stop}
use Rattle.aud_grammar.proofs.Tables.{follow}
use Rattle.aud_grammar.proofs.Choices.{mem, next_code, next_is, is_false, Sub, Apart, fs, fs_all, first_seq, AllFollow, Distinct, Clean, clean_rule, fin, member_first, starts}

-- what is read is derived

pub push_one : (p : Phrase) {ps : List Phrase} {k : List Symbol} {r : ℕ} {ds : List Item} {ts : List Element} → Derives (A ps ∷ k) r ds ts → Derives (A (p ∷ ps) ∷ k) r ds ts
push_one p (d_one m d) = d_one (later m) d

pub sound : {s : List Symbol} {r : ℕ} {ts : List Element} {ds : List Item} {v : Verdict} → Out s r ts ds v → v ≡ Good → Derives s r ds ts
sound o_end e = d_end
sound o_rest e = cc
sound (o_word h o) e = d_word h (sound o e)
sound (o_token h o) e = d_token h (sound o e)
sound (o_no_word h) e = cc
sound (o_no_token h) e = cc
sound (o_spelled h o) e = d_spelled h (sound o e)
sound (o_misspelled h) e = cc
sound (o_rule o) e = d_rule (sound o e)
sound (o_level o) e = d_level (sound o e)
sound (o_deep h) e = cc
sound (o_shut h) e = cc
sound (o_down o) e = d_down (sound o e)
sound (o_this h o) e = d_one here (sound o e)
sound (o_other {p} h o) e = push_one p (sound o e)
sound (o_last o) e = d_one here (sound o e)
sound (o_yes h o) e = d_yes (sound o e)
sound (o_no h o) e = d_no (sound o e)
sound (o_more h o) e = d_more (sound o e)
sound (o_stop h o) e = d_stop (sound o e)

-- so reading, which looks one token ahead, takes the one way that there is

next_yes : (p : Phrase) (ts : List Element) → mem (fs p) (next_code ts) ≡ true → next_in (firsts p) ts ≡ true
next_yes p ts h = next_is (firsts p) ts ∙ h

next_no : (p : Phrase) (F : List ℕ) (ts : List Element) → Apart (fs p) F → mem F (next_code ts) ≡ true → next_in (firsts p) ts ≡ false
next_no p F ts h m = next_is (firsts p) ts ∙ is_false _ (λ e. h _ e m)

member_follow : {p : Phrase} {ps : List Phrase} → Member p ps → (G : List ℕ) → AllFollow ps G → Sub G (follow p)
member_follow here G h = h.0
member_follow (later m) G h = member_follow m G h.1

choose : {p : Phrase} {ps : List Phrase} (m : Member p ps) (k : List Symbol) (r : ℕ) (ds : List Item) (ts : List Element) (v : Verdict) → Distinct ps → mem (fs p) (next_code ts) ≡ true →
    Out (N p ∷ k) r ts ds v → Out (A ps ∷ k) r ts ds v
choose (here {ps = []}) k r ds ts v dis h o = o_last o
choose {p} (here {ps = q ∷ ps}) k r ds ts v dis h o = o_this (next_yes p ts h) o
choose {p} (later {q} {ps = []} m) k r ds ts v dis h o = elim m [ ]
choose {p} (later {q} {ps = x ∷ ps} m) k r ds ts v dis h o =
    o_other (next_no q (fs_all (x ∷ ps)) ts dis.0 (member_first m (next_code ts) h)) (choose m k r ds ts v dis.1 h o)

pub complete : {s : List Symbol} {r : ℕ} {ds : List Item} {ts : List Element} → Derives s r ds ts → Clean s fin → Out s r ts ds Good
complete d_end c = o_end
complete (d_word h d) c = o_word h (complete d c)
complete (d_token h d) c = o_token h (complete d c)
complete (d_spelled h d) c = o_spelled h (complete d c)
complete (d_rule {p} {k} d) c = o_rule (complete d (clean_rule p k fin c))
complete (d_level d) c = o_level (complete d c)
complete (d_down d) c = o_down (complete d c)
complete (d_one m d) c = choose m _ _ _ _ _ c.1 (starts d) (complete d (member_follow m _ c.0, c.2))
complete (d_yes {p} {ts = ts} d) c = o_yes (next_yes p ts (starts d)) (complete d (c.1, c.2))
complete (d_no {p} {k} {ts = ts} d) c = o_no (next_no p (first_seq k fin) ts c.0 (starts d)) (complete d c.2)
complete (d_more {p} {ts = ts} d) c = o_more (next_yes p ts (starts d)) (complete d (c.1, c))
complete (d_stop {p} {k} {ts = ts} d) c = o_stop (next_no p (first_seq k fin) ts c.0 (starts d)) (complete d c.2)
