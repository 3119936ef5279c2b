-- A program that was read from a text is read again from its canonical text.
use Rattle.std.proofs.Common.{◌≡◌, List, [], ◌∷◌, map, refl, sym, ap, ◌∙◌, subst, true}
use Rattle.std.specs.Prelude.{◌&&◌, Result, Ok, Err}
use Rattle.std.specs.List.{list_all}
use Rattle.aud_text.specs.Name.{capitals}
use Rattle.aud_lex.specs.declared.token.Kind.{Kind}
use Rattle.aud_lex.specs.Element.{Element}
use Rattle.aud_lex.specs.Kinds.{kind_number}
use Rattle.aud_lex.specs.Tokens.{is_token, kind_of}
use Rattle.aud_lex.specs.Lexed.{lexed, element}
use Rattle.aud_lex.specs.Why.Spaced.{Word}
use Rattle.aud_lex.proofs.Elements.{are_tokens}
use Rattle.aud_lex.proofs.Spacing.{read_back}
use Rattle.aud_syntax.specs.Plain as m
use Rattle.aud_syntax.specs.Why.Bare.{bare}
use Rattle.aud_syntax.specs.Why.Printed.{unit_words, printed}
use Rattle.aud_grammar.specs.Values.{number_value, whole_part, decimals, unquoted}
use Rattle.aud_grammar.specs.Parsed.{parsed, Fault}
use Rattle.aud_grammar.specs.Why.Alike.{Alike, AllAlike, stripped}
use Rattle.aud_grammar.specs.Why.Laws.{RoundTrip, OneText}
use Rattle.aud_grammar.proofs.Answered.{the_spelled}
use Rattle.aud_grammar.proofs.Places.{alike_read}
use Rattle.aud_grammar.proofs.Canonical.{Stays, spelling, written, stays}
use Rattle.aud_grammar.proofs.SameWords.{texts, Same}
use Rattle.aud_grammar.proofs.Worded.{words_of}

-- each token is of the kind that its bytes say
abbrev Kinds : List Element → Type 0
Kinds es = map (λ e. element e.text e.at) es ≡ es

kept : (t : Element) → element t.text t.at ≡ t → Stays (kind_number t.kind) t.text (written t).bytes
kept t e = subst (λ (k : Kind). Stays (kind_number k) t.text (spelling (kind_number k) t.text)) (ap (λ (z : Element). z.kind) e) (stays t.text)

written_tokens : (ts : List Element) → Kinds ts → list_all (λ w. is_token w.bytes) (map written ts) ≡ true
written_tokens [] k = refl
written_tokens (t ∷ ts) k =
    let h : element t.text t.at ≡ t = cc in
    let l : Kinds ts = cc in
    ap (λ b. b && list_all (λ w. is_token w.bytes) (map written ts)) (kept t h).token ∙ written_tokens ts l

all_tokens : (ws : List Word) → list_all (λ w. is_token w.bytes) ws ≡ list_all is_token (texts ws)
all_tokens [] = refl
all_tokens (w ∷ ws) = ap (λ b. is_token w.bytes && b) (all_tokens ws)

one_alike : (t e : Element) → element t.text t.at ≡ t → element e.text e.at ≡ e → e.text ≡ (written t).bytes → Alike t e
one_alike t e h k p =
    let s : Stays (kind_number t.kind) t.text (written t).bytes = kept t h in
    record {
      kind = sym s.kind ∙ ap (λ b. kind_number (kind_of b)) (sym p) ∙ ap (λ (z : Element). kind_number z.kind) k;
      name = λ i. s.name i ∙ ap capitals (sym p);
      number = λ i. s.number i ∙ ap number_value (sym p);
      whole = λ i. s.whole i ∙ ap whole_part (sym p);
      fraction = λ i. s.fraction i ∙ ap decimals (sym p);
      literal = λ i. s.literal i ∙ ap unquoted (sym p);
    }

all_alike : (ts es : List Element) → Kinds ts → Kinds es → map (λ e. e.text) es ≡ map (λ w. w.bytes) (map written ts) → AllAlike ts es
all_alike [] [] k l p = tt
all_alike [] (e ∷ es) k l p = cc
all_alike (t ∷ ts) [] k l p = cc
all_alike (t ∷ ts) (e ∷ es) k l p =
    let h : element t.text t.at ≡ t = cc in
    let i : element e.text e.at ≡ e = cc in
    let q : e.text ≡ (written t).bytes = cc in
    let ks : Kinds ts = cc in
    let ls : Kinds es = cc in
    let ps : map (λ e. e.text) es ≡ map (λ w. w.bytes) (map written ts) = cc in
    (one_alike t e h i q, all_alike ts es ks ls ps)

again : (x : Result m.Unit Fault) (u : m.Unit) → Ok (bare u) ≡ stripped x → (v : m.Unit) × (x ≡ Ok v) × (bare v ≡ bare u)
again (Ok v) u e = (v, refl, cc)
again (Err f) u e = cc

pub round_trip : RoundTrip
round_trip source ts u e p =
    let k : Kinds ts = (are_tokens source ts e).1 in
    let w : Same (unit_words u) (map written ts) = words_of ts u ((the_spelled ts u).0 p) in
    let b = read_back (unit_words u) (all_tokens (unit_words u) ∙ ap (list_all is_token) w ∙ sym (all_tokens (map written ts)) ∙ written_tokens ts k) in
    let l : Kinds b.0 = (are_tokens (printed u) b.0 b.1).1 in
    let r = again (parsed b.0) u (ap stripped (sym p) ∙ alike_read ts b.0 (all_alike ts b.0 k l (b.2 ∙ w))) in
    (b.0, r.0, b.1, r.1, r.2)

one_answer : {X E : Type 0} (r : Result X E) (x y : X) → r ≡ Ok x → r ≡ Ok y → x ≡ y
one_answer r x y e f = cc

pub one_text : OneText
one_text a b ts us u v p q e f h =
    let x = round_trip a ts u p e in
    let y = round_trip b us v q f in
    let t : x.0 ≡ y.0 = one_answer (lexed (printed u)) x.0 y.0 x.2 (ap lexed h ∙ y.2) in
    let w : x.1 ≡ y.1 = one_answer (parsed x.0) x.1 y.1 x.3 (ap parsed t ∙ y.3) in
    sym x.4 ∙ ap bare w ∙ y.4
