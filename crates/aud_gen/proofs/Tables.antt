-- The table of operands, written line by line.
use Rattle.std.proofs.Common.{◌≡◌, ℕ, ◌+◌, ◌<◌, ◌≤◌, List, [], ◌∷◌, ◌++◌, length, drop, get_or, map, sym, ap, ◌∙◌, append_assoc, append-nil}
use Rattle.std.proofs.lemmas.List.{drop_all, map-append}
use Rattle.aud_code.specs.declared.counts.Counts.{Counts as InMemory}
use Rattle.aud_code.specs.declared.line.Line.{Line}
use Rattle.aud_code.specs.Sound.{Counts}
use Rattle.aud_code.specs.Tabled.{behind_line, counts, table_from, table_of}
use Rattle.aud_code.specs.View.{plain_line}
use Rattle.aud_gen.proofs.Loops.{dropped}

-- what is written so far, and what is to come from a line on
abbrev pub Whole : List InMemory → Counts → List Line → List Line → Type 0
Whole table before left all = map counts table ++ table_from before (map plain_line left) ≡ table_of (map plain_line all)

pub one_more : (all : List Line) (i : ℕ) (x : Line) (table new : List InMemory) (before next : InMemory) → i < length all → x ≡ get_or all i x → new ≡ table ++ before ∷ [] → counts next ≡ behind_line (plain_line x) (counts before) → Whole table (counts before) (drop i all) all → Whole new (counts next) (drop (i + 1) all) all
one_more all i x table new before next within is grown goes h =
    let rest = map plain_line (drop (i + 1) all) in
    let first = ap (λ ls. map counts table ++ table_from (counts before) (map plain_line ls)) (sym (dropped all i x within is)) in
    let later = ap (λ c. map counts table ++ (counts before ∷ table_from c rest)) goes in
    let joined : map counts (table ++ before ∷ []) ++ table_from (counts next) rest ≡ map counts table ++ (counts before ∷ table_from (counts next) rest) = simp (map-append, append_assoc) in
    ap (λ t. map counts t ++ table_from (counts next) rest) grown ∙ (joined ∙ (later ∙ (first ∙ h)))

pub all_there : (all : List Line) (i : ℕ) (table : List InMemory) (before : Counts) → length all ≤ i → Whole table before (drop i all) all → map counts table ≡ table_of (map plain_line all)
all_there all i table before over h =
    let none = ap (λ ls. map counts table ++ table_from before (map plain_line ls)) (drop_all i all over) in
    sym (append-nil (map counts table)) ∙ (sym none ∙ h)
