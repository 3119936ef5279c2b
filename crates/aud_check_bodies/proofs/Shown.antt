-- Names that are shown, and exceptions that are chosen, one after the other.
use Rattle.std.specs.Prelude.{ℕ, nat_eq, Bool, List, [], ◌∷◌, ◌++◌, length, Option, Some, None}
use Rattle.std.proofs.Math.Dec.{eqb-suc-zero}
use Rattle.std.proofs.Common.{◌≡◌, refl, sym, ◌∙◌, ap, append_assoc}
use Rattle.aud_syntax.specs.declared.tree.Ident.{Ident}
use Rattle.aud_syntax.specs.declared.tree.Handler.{Handler}
use Rattle.aud_syntax.specs.Ties.View.{handler_list, plain_choices}
use Rattle.aud_typed.specs.declared.program.Exception.{Exception}
use Rattle.aud_typed.specs.Tree as tree
use Rattle.aud_names.specs.Names.{Symbol, Place, visible}
use Rattle.aud_check_bodies.specs.Regions.{shown, shown_before}
use Rattle.aud_fault.specs.declared.fault.Fault.{Fault}
use Rattle.aud_fault.specs.Least.{noted}
use Rattle.aud_check_bodies.specs.Handlers.{exception_meant, with_meant, exceptions_of, Chosen, is_last, choices_faults, chosen_after, all_choices_faults}
use Rattle.aud_typing.proofs.Notes.{noted_append}

shown_more : (name : List ℕ) (s : Option tree.Shown) (rest : List tree.Named) → shown_before name s rest ≡ shown_before name s [] ++ rest
shown_more name None rest = refl
shown_more name (Some s) rest = refl

-- one more name is shown
pub shown_ahead : (now next : List tree.Named) (x : Symbol) (rest all : List tree.Named) → next ≡ now ++ shown_before x.0 (shown x.1) [] → now ++ shown_before x.0 (shown x.1) rest ≡ all → next ++ rest ≡ all
shown_ahead now next x rest all p h =
    ap (λ l. l ++ rest) p ∙ append_assoc now (shown_before x.0 (shown x.1) []) rest ∙ ap (λ l. now ++ l) (sym (shown_more x.0 (shown x.1) rest)) ∙ h

meant_more : (m : Option Exception) (rest : List Exception) → with_meant m rest ≡ with_meant m [] ++ rest
meant_more None rest = refl
meant_more (Some x) rest = refl

-- one more exception is added
pub exceptions_ahead : (place : Place) (now next all : List Exception) (i : Ident) (xs ys : List Ident) → xs ≡ i ∷ ys → next ≡ now ++ exceptions_of (i ∷ []) place → now ++ exceptions_of xs place ≡ all → next ++ exceptions_of ys place ≡ all
exceptions_ahead place now next all i xs ys e p h =
    let m : Option Exception = exception_meant (visible i.name place) in
    let rest : List Exception = exceptions_of ys place in
    ap (λ l. l ++ rest) p ∙ append_assoc now (with_meant m []) rest ∙ ap (λ l. now ++ l) (sym (meant_more m rest)) ∙ sym (ap (λ l. now ++ exceptions_of l place) e) ∙ h

-- the choices of one handler more are checked
last_of : (hs : List Handler) → is_last (handler_list hs) ≡ nat_eq (length hs) 0
last_of [] = refl
last_of (h ∷ hs) = sym (eqb-suc-zero (length hs))

pub choices_ahead : (place : Place) (old mid new : Option Fault) (now next : Chosen) (all : List Fault) (h : Handler) (xs ys : List Handler) (last : Bool) → xs ≡ h ∷ ys → last ≡ nat_eq (length ys) 0
    → noted mid (all_choices_faults (handler_list xs) now place) ≡ noted old all
    → next ≡ chosen_after (plain_choices h.choices) now place
    → new ≡ noted mid (choices_faults (plain_choices h.choices) last now place)
    → noted new (all_choices_faults (handler_list ys) next place) ≡ noted old all
choices_ahead place old mid new now next all h xs ys last p l a c f =
    let own = plain_choices h.choices in
    let rest : Chosen → List Fault = λ z. all_choices_faults (handler_list ys) z place in
    let faults : Bool → List Fault = λ b. choices_faults own b now place in
    ap (λ z. noted z (rest next)) f ∙ ap (λ z. noted (noted mid (faults last)) (rest z)) c
    ∙ ap (λ b. noted (noted mid (faults b)) (rest (chosen_after own now place))) (l ∙ sym (last_of ys))
    ∙ sym (noted_append mid (faults (is_last (handler_list ys))) (rest (chosen_after own now place)))
    ∙ sym (ap (λ z. noted mid (all_choices_faults (handler_list z) now place)) p) ∙ a
