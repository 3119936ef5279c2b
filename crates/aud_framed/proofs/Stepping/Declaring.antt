-- A protected object is declared.
use Rattle.std.proofs.Common.{◌≡◌, ◌⊎◌, ◌<◌, ℕ, zero, suc, ℤ, pos, List, [], ◌∷◌, ◌++◌, length, Some, None, Bool, true, false, refl, sym, ap, ◌∙◌, subst, inr, if◌then◌else◌, slice_get, length-append, arith}
use Rattle.std.proofs.lemmas.Bool.{false≢true}
use Rattle.std.specs.Prelude.{nat_le, not}
use Rattle.aud_text.specs.declared.limits.TheConstants.{OBJECTS}
use Rattle.aud_text.specs.declared.place.Pos.{Pos}
use Rattle.aud_text.specs.declared.raise.Raise.TheVariants.{Storage}
use Rattle.aud_typed.specs.Tree.{Plan}
use Rattle.aud_meaning.specs.declared.state.Action.{Action}
use Rattle.aud_meaning.specs.declared.state.Status.TheVariants.{Running}
use Rattle.aud_meaning.specs.Configuration.{Opened, Own, Object, TaskAt, All, Acting}
use Rattle.aud_meaning.specs.Effects as own
use Rattle.aud_meaning.specs.Effects.{changed_first}
use Rattle.aud_meaning.specs.Parts.{acting, acts_on, alone, any, call_of, object_of, object_plan, own_of}
use Rattle.aud_meaning.specs.Step as step
use Rattle.aud_code.specs.Places.{Spot}
use Rattle.aud_code.specs.Flat.{Does, Flat, end_at, flat_controls}
use Rattle.aud_code.specs.Instruction.{DeclareObject}
use Rattle.aud_code.specs.Seen.{IsSeen}
use Rattle.aud_code.specs.Sound.{Counts, IsSound}
use Rattle.aud_code.proofs.Starts.{moved_kept}
use Rattle.aud_meaning.specs.Control.{here, takes_part}
use Rattle.aud_framed.specs.Held.{StandsAt}
use Rattle.aud_framed.specs.Waiting.{TaskFramed}
use Rattle.aud_framed.specs.Calls.{objects_in, with_served}
use Rattle.aud_framed.specs.Framed.{AllObjectsFit, EntriesFit, IsFramed}
use Rattle.aud_framed.specs.Stepping.{HasWays}
use Rattle.aud_framed.proofs.Stepping.Actions.{EachKeeps, KeepsActs, entry_still, object_at, serves_objects, with_objects}
use Rattle.aud_framed.proofs.Stepping.Blocks.{raised_in_part}
use Rattle.aud_framed.proofs.Stepping.Ending.{Good}
use Rattle.aud_framed.proofs.Stepping.Entering.{alone_after, put_good}
use Rattle.aud_framed.proofs.Stepping.Frames.{Alike, first_frames, stands_as}
use Rattle.aud_framed.proofs.Stepping.Going.{part_goes}
use Rattle.aud_framed.proofs.Stepping.Lone.{at_step, spot_of}
use Rattle.aud_framed.proofs.Stepping.Parts.{follows, like_framed, own_got}
use Rattle.aud_framed.proofs.Stepping.Refusing.{orders}
use Rattle.aud_framed.proofs.Stepping.Tasks.{unchanged}

-- An object more, on which nobody acts.

module _ (o : Object) (unused : o.actions ≡ []) where
  appended_keeps : (n i : ℕ) (os : List Object) → KeepsActs n (object_at i os) (object_at i (os ++ o ∷ []))
  appended_keeps n i [] = (λ h. absurd (false≢true h), λ h. absurd (false≢true h))
  appended_keeps n zero (x ∷ xs) = (λ h. h, λ h. h)
  appended_keeps n (suc i) (x ∷ xs) = appended_keeps n i xs

  appended_each : (P : Object → Type 0) (i : ℕ) (os : List Object) → ((j : ℕ) → P (object_at j os)) → P o → P (object_at i (os ++ o ∷ []))
  appended_each P zero [] h g = g
  appended_each P (suc i) [] h g = h i
  appended_each P zero (x ∷ xs) h g = h 0
  appended_each P (suc i) (x ∷ xs) h g = appended_each P i xs (λ j. h (suc j)) g

  appended_display : (i : ℕ) (os : List Object) → i < length os → (object_at i (os ++ o ∷ [])).display ≡ (object_at i os).display
  appended_display i [] less = absurd (omega (arith, less))
  appended_display zero (x ∷ xs) less = refl
  appended_display (suc i) (x ∷ xs) less = let fewer : i < length xs = omega (arith, less) in appended_display i xs fewer

  appended_fit : (plan : Plan) (os : List Object) → AllObjectsFit plan os → EntriesFit plan (length o.display) (object_plan plan o.declaration).entries → AllObjectsFit plan (os ++ o ∷ [])
  appended_fit plan [] h g = (g, tt)
  appended_fit plan (x ∷ xs) h g = (h.0, appended_fit plan xs h.1 g)

  longer : (i : ℕ) (os : List Object) → i < length os → i < length (os ++ o ∷ [])
  longer i os less = let l = length-append os (o ∷ []) in omega (arith, l, less)

  module _ (plan : Plan) (code : Flat) (seen : List ℕ) (c : All Spot) where
    still_there : (i : ℕ) → i < length c.shared.objects → (i < length (c.shared.objects ++ o ∷ [])) × ((object_at i (c.shared.objects ++ o ∷ [])).display ≡ (object_of i c).display)
    still_there i less = (longer i c.shared.objects less, appended_display i c.shared.objects less)

    each_keeps : (n : ℕ) (is : List ℕ) → EachKeeps plan c (c.shared.objects ++ o ∷ []) still_there n is
    each_keeps n [] = tt
    each_keeps n (i ∷ is) = (appended_keeps n i c.shared.objects, each_keeps n is)

    pub object_more : EntriesFit plan (length o.display) (object_plan plan o.declaration).entries → IsFramed plan code seen c → IsFramed plan code seen (with_objects (c.shared.objects ++ o ∷ []) c)
    object_more entries w = record {
      tasks = w.tasks;
      objects = appended_fit plan c.shared.objects w.objects entries;
      calls = w.calls;
      queued = λ i e. entry_still plan c (c.shared.objects ++ o ∷ []) still_there (call_of i c).owner (call_of i c).entry (w.queued i e);
      stays = w.stays;
      serves = λ n live. serves_objects plan c (c.shared.objects ++ o ∷ []) still_there n (own_of n c) (each_keeps n (with_served (own_of n c).serving (objects_in (own_of n c).opened))) (w.serves n live);
      alone = λ i.
          appended_each (λ (x : Object). (n m : ℕ) → acts_on n x ≡ true → acts_on m x ≡ true → (n ≡ m) ⊎ (any (λ (a : Action). not a.reading) x.actions ≡ false)) i c.shared.objects w.alone
          (λ n m h k. inr (ap (λ xs. any (λ (a : Action). not a.reading) xs) unused));
    }

module _ (plan : Plan) (code : Flat) (table : List Counts) (tasks barriers seen : List ℕ) (sound : IsSound code) (fits : IsSeen code table tasks barriers seen) (ways : HasWays code) where
  abbrev pub Kept : All Spot → Type 0
  Kept c = Good plan code table tasks barriers seen sound fits ways c

  either_kept : (b : Bool) (x y : All Spot) → Kept x → Kept y → Kept (if b then x else y)
  either_kept true x y h k = h
  either_kept false x y h k = k

  module _ (at : Pos) (declaration : ℕ) (cells : List ℤ) (n : ℕ) (c : All Spot) (t : TaskAt Spot) (w : Kept c) (is : slice_get c.tasks n ≡ Some t) (running : t.own.status ≡ Running) (none : t.own.pending ≡ None) (still : t.own.again ≡ None) (line : (end_at code t.control.place).last ≡ Does (DeclareObject declaration)) (entries : EntriesFit plan (suc (length t.own.display)) (object_plan plan declaration).entries) where
    abbrev object : Object
    object = record { declaration = declaration; display = (own_of n c).display ++ length c.shared.frames ∷ []; actions = [] }

    abbrev more : All Spot
    more = with_objects (c.shared.objects ++ object ∷ []) c

    abbrev made : All Spot
    made = record c { shared = record c.shared { frames = c.shared.frames ++ cells ∷ []; objects = c.shared.objects ++ object ∷ [] } }

    sees_one_more : length object.display ≡ suc (length t.own.display)
    sees_one_more =
        let l = length-append (own_of n c).display (length c.shared.frames ∷ []) in
        let plain : length object.display ≡ suc (length (own_of n c).display) = omega (arith, l) in
        plain ∙ ap (λ (x : Own). suc (length x.display)) (own_got n c.tasks t is)

    made_good : Kept made
    made_good = record {
      framed =
          like_framed plan code seen more made refl refl refl
          (object_more object refl plan code seen c (subst (λ k. EntriesFit plan k (object_plan plan declaration).entries) (sym sees_one_more) entries) w.framed);
      spots = w.spots;
    }

    abbrev counted : List Opened
    counted = changed_first (λ (o : Opened). record o { elaborated = suc o.elaborated }) t.own.opened

    alike : Alike plan code.lines seen made n t.own.opened counted
    alike = first_frames plan code.lines seen made n (λ (o : Opened). record o { elaborated = suc o.elaborated }) (λ o. refl) (λ o. refl) t.own.opened

    framed : TaskFramed plan code seen t.own.status (record { control = (orders plan code table tasks barriers seen sound fits ways).takes 0 t.control; own = record t.own { opened = counted } })
    framed =
        let control : Spot = (orders plan code table tasks barriers seen sound fits ways).takes 0 t.control in
        subst (λ st. TaskFramed plan code seen st (record { control = (orders plan code table tasks barriers seen sound fits ways).takes 0 t.control; own = record t.own { opened = counted } })) (sym running)
        (subst (λ p. StandsAt code.lines seen p control t.own.display counted) (sym none)
        (stands_as code.lines seen t.own.opened counted None control t.own.display (λ v. alike.holds v control.returns)
        (part_goes code table tasks barriers seen sound fits ways t.control.place t.control.returns t.own.display t.own.opened (end_at code t.control.place) (at_step plan code seen n c t w.spots is running none w.framed) 0 (DeclareObject declaration, (line, tt)))))

    pub declared : Kept (step.object_declared (orders plan code table tasks barriers seen sound fits ways) plan (flat_controls plan code).barrier at declaration cells n c)
    declared =
        let f : Acting Spot → Acting Spot = (λ (x : Acting Spot). step.moves_on (orders plan code table tasks barriers seen sound fits ways) plan (flat_controls plan code).barrier 0 (own.declares (pos (length c.shared.objects) ∷ []) x)) in
        either_kept (nat_le (suc (length c.shared.objects)) OBJECTS) _ _
        (subst (λ ts. Kept (alone f n (record made { tasks = ts }))) (unchanged n (λ (x : TaskAt Spot). x) c.tasks (λ x. refl))
        (subst (λ d. Kept d) (sym (alone_after f n (λ (x : TaskAt Spot). x) made t is))
        (put_good plan code table tasks barriers seen sound fits ways n (f (acting t made.shared)) made t made_good is refl refl framed
        (follows plan made n t.own (record t.own { opened = counted }) refl (λ r e. let wrong : None ≡ Some r = sym still ∙ e in absurd cc) alike.likens)
        (moved_kept code sound plan (takes_part 0 here) t.control (spot_of code.lines n c.tasks t is w.spots)))))
        (raised_in_part plan code table tasks barriers seen sound fits ways Storage at n c t w is running none still (DeclareObject declaration, line))
