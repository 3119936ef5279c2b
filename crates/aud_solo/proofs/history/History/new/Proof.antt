-- It makes the empty struct, with the pieces that its clause names.
use Rattle.std.proofs.Common.{List, [], ◌∷◌, refl}
use Rattle.std.proofs.raw_atomic.Walks.{proved}
use mir.Val.{Val, vstruct, vnil}
use types.Kit.{raw, ◌$◌, ◌∵◌, !, qed, keep, join, fjoin, fpack, feq_i, suffices, done}
use types.Run.{enter, returns, no_more}
use types.Part.{agg}
use types.ByLocal.{alloc_all, pass_all, free_all, look_at, sets}
use denote.RattleType.{Valss}
use denote.Steps.{nothing}
use denote.Struct.Struct.{within}
use denote.Triple.Entry.{on_entry}
use denote.Triple.Walked.{says, Stays, walk_of, ends_at}
use Rattle.aud_solo.specs.declared.history.History.{History}
use Rattle.aud_solo.specs.contracts.history.History.new as f
use Rattle.aud_solo.proofs.history.History.new.Statement.{statement}
use Rattle.aud_solo.proofs.history.History.new.Code as code

abbrev stayed : Stays f.ended.signature.params f.ended.kept
stayed = tt

abbrev made : History
made = record { pieces = [] }

abbrev none : Val
none = vstruct vnil

pub new_spec : {M : Type 1} → statement M
new_spec 𝓤 𝓛 𝓜 𝓡 wired =
    let c = f.clauses 𝓛 𝓜.mem 𝓡.returns in let W = walk_of 𝓛 f.ended stayed c in
    proved 𝓛 f.ended stayed c 𝓜 𝓡 tt
    f.Key.name code.function (code.unfolded 𝓤 𝓛.H 𝓜 𝓡 wired)
    (λ κs. tt) (λ κs. tt) (λ κs qs bounds a g are.
    let y : W.Ghost = ((κs, qs, bounds, a, tt), g) in
    qed 𝓛 (raw (on_entry 𝓛 f.signature κs qs a y.0.4) ∷ raw ((c κs a).requires g) ∷ []) ∵ keep ! [] $
    enter ! _ _ _ _ _ $ alloc_all ! (λ l. pass_all ! refl tt $
    sets ! (agg ! (no_more !)) refl (tt, tt) $
    returns ! (look_at ! 0 refl) $ free_all ! refl $
    suffices ! _ (ends_at 𝓛 f.ended stayed c y none made tt tt) $ says ! refl $
    nothing ! $ nothing ! $ feq_i ! (List Val) (none ∷ []) (none ∷ []) refl $ fjoin ! $
    fpack ! (Valss []) (within (record { name = []; args = []; types = []; fields = [] }) tt (none ∷ [])) tt $ fjoin ! $
    nothing ! $ join ! $ nothing ! $ done !))
