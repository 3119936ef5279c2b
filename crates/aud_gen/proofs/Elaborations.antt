-- What a body does before its statements: its declarations, and the activation at its `begin`.
use Rattle.std.proofs.Common.{◌≡◌, ℕ, ◌+◌, List, [], ◌∷◌, ◌++◌, length, true, refl, ap, sym, ◌∙◌, arith, append_assoc}
use Rattle.aud_text.specs.declared.place.Pos.{Pos}
use Rattle.aud_typed.specs.Tree as tree
use Rattle.aud_typed.specs.Tree.{before, part_of, activate, sequence, activation}
use Rattle.aud_code.specs.Flat.{FlatLine}
use Rattle.aud_code.specs.declared.line.Among.TheVariants.{Activate}
use Rattle.aud_code.specs.declared.line.Last.TheVariants.{Concerns}
use Rattle.aud_layout.specs.Layout.{Around, ways_count, statement_size_by, part_size_by, statement_code_by}
use Rattle.aud_layout.specs.Written.{flat_step}
use Rattle.aud_layout.proofs.Flat.Assembly.{assembled_append}
use Rattle.aud_gen.specs.Writes.{ended, statement_lines, part_lines}
use Rattle.aud_gen.proofs.Lists.{before_length}

abbrev size : tree.Statement → ℕ → ℕ
size s ways = statement_size_by flat_step s ways

abbrev sizes : List tree.Statement → ℕ → ℕ
sizes ss ways = part_size_by flat_step (part_of ss) ways

-- How many lines.

pub activated_length : (xs : List tree.Statement) (at : Pos) (ways : ℕ) → sizes (xs ++ activation true at) ways ≡ sizes xs ways + 1
activated_length [] at ways = refl
activated_length (x ∷ xs) at ways = omega (arith, before_length x (xs ++ activation true at) ways, before_length x xs ways, activated_length xs at ways)

-- The lines. A statement stands behind others.

two_lines : (x y : tree.Statement) (place next : ℕ) (a : Around) → let middle = place + size x (ways_count a) in statement_lines (sequence x y) place next a ≡ statement_lines x place middle a ++ statement_lines y middle next a
two_lines x y place next a =
    let middle = place + size x (ways_count a) in
    assembled_append (λ n. n) (statement_code_by flat_step x place middle a) (statement_code_by flat_step y middle next a)

-- one statement more is before them
one_before : (s x y t : tree.Statement) (place next : ℕ) (a : Around) →
    let middle = place + size s (ways_count a) in
    let behind = middle + size x (ways_count a) in
    let last = place + size (sequence s x) (ways_count a) in
    statement_lines y middle next a ≡ statement_lines x middle behind a ++ statement_lines t behind next a →
    statement_lines (sequence s y) place next a ≡ statement_lines (sequence s x) place last a ++ statement_lines t last next a
one_before s x y t place next a h =
    let middle = place + size s (ways_count a) in
    let behind = middle + size x (ways_count a) in
    let last = place + size (sequence s x) (ways_count a) in
    let there : behind ≡ last = omega arith in
    let first = statement_lines s place middle a in
    two_lines s y place next a
    ∙ ap (λ ls. first ++ ls) h
    ∙ ap (λ n. first ++ (statement_lines x middle n a ++ statement_lines t n next a)) there
    ∙ sym (append_assoc first (statement_lines x middle last a) (statement_lines t last next a))
    ∙ ap (λ ls. ls ++ statement_lines t last next a) (sym (two_lines s x place last a))

last_of : (s : tree.Statement) (ss : List tree.Statement) (t : tree.Statement) (place next : ℕ) (a : Around) →
    let behind = place + size (before s ss) (ways_count a) in
    statement_lines (before s (ss ++ t ∷ [])) place next a ≡ statement_lines (before s ss) place behind a ++ statement_lines t behind next a
last_of s [] t place next a = two_lines s t place next a
last_of s (u ∷ us) t place next a = one_before s (before u us) (before u (us ++ t ∷ [])) t place next a (last_of u us t (place + size s (ways_count a)) next a)

activated_lines : (xs : List tree.Statement) (at : Pos) (place next : ℕ) (a : Around) →
    let behind = place + sizes xs (ways_count a) in
    part_lines (part_of xs) place behind a ++ ended (Concerns Activate next) at a.out a.within ≡ part_lines (part_of (xs ++ activation true at)) place next a
activated_lines [] at place next a = refl
activated_lines (x ∷ xs) at place next a = sym (last_of x xs (activate at) place next a)

-- by what is written of them
pub whole_activated : (xs : List tree.Statement) (at : Pos) (old mid new : List FlatLine) (behind next : ℕ) (a : Around) → behind ≡ length old + sizes xs (ways_count a) →
    mid ≡ old ++ part_lines (part_of xs) (length old) behind a → new ≡ mid ++ ended (Concerns Activate next) at a.out a.within →
    new ≡ old ++ (part_lines (part_of (xs ++ activation true at)) (length old) next a)
whole_activated xs at old mid new behind next a e h k =
    let A = part_lines (part_of xs) (length old) in
    let L = ended (Concerns Activate next) at a.out a.within in
    k
    ∙ ap (λ ls. ls ++ L) h
    ∙ ap (λ n. (old ++ A n a) ++ L) e
    ∙ append_assoc old (A (length old + sizes xs (ways_count a)) a) L
    ∙ ap (λ ls. old ++ ls) (activated_lines xs at (length old) next a)
