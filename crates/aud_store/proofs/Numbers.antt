-- The numbers of open frames in memory, of which the innermost one is the last.
use Rattle.std.proofs.Common.{◌≡◌, ℕ, List, [], ◌∷◌, ◌++◌, Bool, true, false, cond, filter, map, reverse, slice_get, Option, Some, refl, ap, ◌∙◌}
use Rattle.std.specs.Option.{unwrap_or}
use Rattle.std.proofs.lemmas.List.{reverse-append}
use Rattle.aud_meaning.specs.Configuration.{Back, Opened}
use Rattle.aud_meaning.specs.Effects.{outermost}
use Rattle.aud_meaning.specs.Parts.{is_master}
use Rattle.aud_store.specs.declared.purpose.Purpose.{Purpose}
use Rattle.aud_store.specs.declared.purpose.Purpose.TheVariants.{Accept, Body, Block, Entry, Loop, Operation, Procedure}
use Rattle.aud_store.specs.declared.stack.Open.{Open}
use Rattle.aud_store.specs.Ties.Display.{Display, seen, put_back}
use Rattle.aud_store.specs.Ties.Stored.{own_backs, outer_backs, plain_open, plain_opened}

pub frames_plain : (d : Display) (os : List Open) (bs : List Back) → map (λ (o : Opened). o.frame) (plain_opened d os bs) ≡ map (λ (o : Open). o.frame) os
frames_plain d [] bs = refl
frames_plain d (o ∷ os) bs = ap (λ l. o.frame ∷ l) (frames_plain (put_back o.replaced d) os (outer_backs o.purpose bs))

-- whatever it sees and copies back
same_master : (o : Open) (p : Purpose) (saved : List ℕ) (bs : List Back) → is_master (plain_open (record o { purpose = p }) saved bs) ≡ is_master (plain_open (record o { purpose = p }) [] [])
same_master o Body saved bs = refl
same_master o Block saved bs = refl
same_master o Loop saved bs = refl
same_master o (Accept call) saved bs = refl
same_master o (Procedure level r) saved bs = refl
same_master o (Operation object r) saved bs = refl
same_master o (Entry object call served resumed) saved bs = refl

abbrev pub is_open_master : Open → Bool
is_open_master o = is_master (plain_open o [] [])

one_more : (a b : Bool) (x : Opened) (o : Open) (xs : List Opened) (os : List Open) → a ≡ b → x.frame ≡ o.frame → map (λ (y : Opened). y.frame) xs ≡ map (λ (y : Open). y.frame) os → map (λ (y : Opened). y.frame) (cond a (x ∷ xs) xs) ≡ map (λ (y : Open). y.frame) (cond b (o ∷ os) os)
one_more true true x o xs os is frame rest = ap (λ n. n ∷ map (λ (y : Opened). y.frame) xs) frame ∙ ap (λ l. o.frame ∷ l) rest
one_more false false x o xs os is frame rest = rest
one_more true false x o xs os is frame rest = absurd cc
one_more false true x o xs os is frame rest = absurd cc

pub masters_plain : (d : Display) (os : List Open) (bs : List Back) → map (λ (o : Opened). o.frame) (filter is_master (plain_opened d os bs)) ≡ map (λ (o : Open). o.frame) (filter is_open_master os)
masters_plain d [] bs = refl
masters_plain d (o ∷ os) bs =
    let saved = seen (put_back o.replaced d) in
    let own = own_backs o.purpose bs in
    one_more (is_master (plain_open o saved own)) (is_open_master o) (plain_open o saved own) o _ _ (same_master o o.purpose saved own) refl (masters_plain (put_back o.replaced d) os (outer_backs o.purpose bs))

outermost_last : (d : Display) (os : List Open) (o : Open) (bs : List Back) → outermost (plain_opened d (os ++ o ∷ []) bs) ≡ o.frame
outermost_last d [] o bs = refl
outermost_last d (x ∷ []) o bs = refl
outermost_last d (x ∷ y ∷ os) o bs = outermost_last (put_back x.replaced d) (y ∷ os) o (outer_backs x.purpose bs)

outermost_first : (d : Display) (x : Open) (xs : List Open) (bs : List Back) → outermost (plain_opened d (reverse (x ∷ xs)) bs) ≡ x.frame
outermost_first d x xs bs = ap (λ os. outermost (plain_opened d os bs)) (reverse-append (x ∷ []) xs) ∙ outermost_last d (reverse xs) x bs

pub outermost_got : (d : Display) (xs : List Open) (x : Open) (bs : List Back) → slice_get xs 0 ≡ Some x → outermost (plain_opened d (reverse xs) bs) ≡ x.frame
outermost_got d [] x bs at = absurd cc
outermost_got d (y ∷ ys) x bs at = outermost_first d y ys bs ∙ ap (λ (o : Option Open). (unwrap_or o y).frame) at
