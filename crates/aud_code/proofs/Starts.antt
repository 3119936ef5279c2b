-- Tasks stand where steps begin, whatever is ordered.
use Rattle.std.proofs.Common.{◌≡◌, ◌⊎◌, inl, inr, ℕ, zero, suc, List, [], ◌∷◌, drop, Option, None, Some, Bool, true, false, refl, sym, subst, slice_get, slice_index_or, map, if◌then◌else◌}
use Rattle.std.specs.Prelude.{◌||◌}
use Rattle.aud_typed.specs.declared.program.Exception.{Exception}
use Rattle.aud_typed.specs.Tree.{Plan}
use Rattle.aud_text.specs.declared.limits.Limits.{Limits}
use Rattle.aud_meaning.specs.declared.state.Construct.TheVariants as construct
use Rattle.aud_meaning.specs.Items.{names_it}
use Rattle.aud_meaning.specs.Configuration.{TaskAt, All}
use Rattle.aud_meaning.specs.Control.{Moved, here, takes_part, does_accept, enters_body, begins_body, gets_out, passes_end, to_handler, out_by, moved, all_moved, ordered}
use Rattle.aud_meaning.specs.declared.state.Move.{Move}
use Rattle.aud_meaning.specs.Run.{orders, seen, scene_of, step_of, step_with}
use Rattle.aud_code.specs.Places.{Spot, Way, Guard, goes_there, goes_way, guarded}
use Rattle.aud_code.specs.Flat.{FlatLine, instructs, end, EndLine, Last, Does, Continues, Guards, Ends, Leaves, Flat, no_end, end_from, end_at, handler_in, back_to, ended_in, out_of_end, end_by, left_by, start_at, flat_controls}
use Rattle.aud_code.specs.Sound.{IsStart, EachStart, WayStart, GuardsStart, LastLeads, Leads, IsSound}
use Rattle.aud_code.specs.Starts.{IsPlace, ArePlaces, IsSpot, AreSpots}

-- the ending that is found stands on some line, or there is none
pub record Stands (lines : List FlatLine) (l : EndLine) : Type 0 where
  pub at : ℕ
  pub is : slice_get lines at ≡ Some (end l)

found_in : (lines : List FlatLine) (k : ℕ) → Stands lines (end_from lines k) ⊎ (end_from lines k ≡ no_end k)
found_in [] k = inr refl
found_in (instructs i ∷ ls) k = by (found_in ls k)
  where
    by : Stands ls (end_from ls k) ⊎ (end_from ls k ≡ no_end k) → Stands (instructs i ∷ ls) (end_from ls k) ⊎ (end_from ls k ≡ no_end k)
    by (inl s) = inl (record { at = suc s.at; is = s.is })
    by (inr e) = inr e
found_in (end l ∷ ls) k = inl (record { at = 0; is = refl })

found_from : (n : ℕ) (lines : List FlatLine) (k : ℕ) → Stands lines (end_from (drop n lines) k) ⊎ (end_from (drop n lines) k ≡ no_end k)
found_from zero lines k = found_in lines k
found_from (suc n) [] k = inr refl
found_from (suc n) (x ∷ ls) k = by (found_from n ls k)
  where
    by : Stands ls (end_from (drop n ls) k) ⊎ (end_from (drop n ls) k ≡ no_end k) → Stands (x ∷ ls) (end_from (drop n ls) k) ⊎ (end_from (drop n ls) k ≡ no_end k)
    by (inl s) = inl (record { at = suc s.at; is = s.is })
    by (inr e) = inr e

module _ (code : Flat) (sound : IsSound code) where
  abbrev lines : List FlatLine
  lines = code.lines

  abbrev P : ℕ → Type 0
  P n = IsPlace lines n

  found_at : (n : ℕ) → Leads lines (end_at code n) ⊎ (end_at code n ≡ no_end n)
  found_at n = by (found_from n lines n)
    where
      by : Stands lines (end_at code n) ⊎ (end_at code n ≡ no_end n) → Leads lines (end_at code n) ⊎ (end_at code n ≡ no_end n)
      by (inl s) = inl (sound.leads s.at (end_at code n) s.is)
      by (inr e) = inr e

  -- where it leads
  each : (n : ℕ) (ns : List ℕ) → EachStart lines ns → (s : Spot) → IsSpot lines s → IsSpot lines (goes_there (slice_get ns n) s)
  each n [] h s is = is
  each zero (m ∷ ms) h s is = record { place = inl h.0; returns = is.returns }
  each (suc n) (m ∷ ms) h s is = each n ms h.1 s is

  takes_kept : (n : ℕ) (s : Spot) → IsSpot lines s → IsSpot lines (goes_there (slice_get (end_at code s.place).ways n) s)
  takes_kept n s is = by (found_at s.place)
    where
      by : Leads lines (end_at code s.place) ⊎ (end_at code s.place ≡ no_end s.place) → IsSpot lines (goes_there (slice_get (end_at code s.place).ways n) s)
      by (inl l) = each n (end_at code s.place).ways l.ways s is
      by (inr e) = subst (λ (x : EndLine). IsSpot lines (goes_there (slice_get x.ways n) s)) (sym e) is

  accepts_kept : (n : ℕ) (s : Spot) → IsSpot lines s → IsSpot lines (goes_there (slice_get (end_at code s.place).bodies n) s)
  accepts_kept n s is = by (found_at s.place)
    where
      by : Leads lines (end_at code s.place) ⊎ (end_at code s.place ≡ no_end s.place) → IsSpot lines (goes_there (slice_get (end_at code s.place).bodies n) s)
      by (inl l) = each n (end_at code s.place).bodies l.bodies s is
      by (inr e) = subst (λ (x : EndLine). IsSpot lines (goes_there (slice_get x.bodies n) s)) (sym e) is

  started : (n : ℕ) → IsStart lines (start_at code n)
  started n = by n code.starts sound.starts.0
    where
      by : (n : ℕ) (ns : List ℕ) → EachStart lines ns → IsStart lines (slice_index_or ns n code.spare)
      by n [] h = sound.starts.1
      by zero (m ∷ ms) h = h.0
      by (suc n) (m ∷ ms) h = by n ms h.1

  way_kept : (w : Option Way) → WayStart lines w → (s : Spot) → IsSpot lines s → IsSpot lines (goes_way w s)
  way_kept None h s is = is
  way_kept (Some w) h s is = record { place = inl h; returns = is.returns }

  out_kept : (s : Spot) → IsSpot lines s → IsSpot lines (goes_way (end_at code s.place).exit s)
  out_kept s is = by (found_at s.place)
    where
      by : Leads lines (end_at code s.place) ⊎ (end_at code s.place ≡ no_end s.place) → IsSpot lines (goes_way (end_at code s.place).exit s)
      by (inl l) = way_kept (end_at code s.place).exit l.exit s is
      by (inr e) = subst (λ (x : EndLine). IsSpot lines (goes_way x.exit s)) (sym e) is

  back_kept : (rs : List ℕ) → ArePlaces lines rs → IsSpot lines (back_to code rs)
  back_kept [] h = record { place = inr refl; returns = tt }
  back_kept (r ∷ rs) h = record { place = h.0; returns = h.1 }

  ended_kept : (last : Last) → LastLeads lines last → (s : Spot) → IsSpot lines s → IsSpot lines (ended_in code last s)
  ended_kept (Does e) h s is = is
  ended_kept (Continues f) h s is = is
  ended_kept (Guards gs) h s is = is
  ended_kept (Ends construct.Unit next) h s is = back_kept s.returns is.returns
  ended_kept (Ends construct.Block next) h s is = record { place = inl h; returns = is.returns }
  ended_kept (Ends construct.Accept next) h s is = record { place = inl h; returns = is.returns }
  ended_kept (Leaves n next) h s is = record { place = inl h; returns = is.returns }

  behind_kept : (s : Spot) → IsSpot lines s → IsSpot lines (ended_in code (end_at code s.place).last s)
  behind_kept s is = by (found_at s.place)
    where
      by : Leads lines (end_at code s.place) ⊎ (end_at code s.place ≡ no_end s.place) → IsSpot lines (ended_in code (end_at code s.place).last s)
      by (inl l) = ended_kept (end_at code s.place).last l.last s is
      by (inr e) = subst (λ (x : EndLine). IsSpot lines (ended_in code x.last s)) (sym e) (back_kept s.returns is.returns)

  guards_kept : (x : Exception) (gs : List Guard) → GuardsStart lines gs → (s : Spot) → IsSpot lines s → IsSpot lines (goes_there (guarded x gs) s)
  guards_kept x [] h s is = is
  guards_kept x (g ∷ gs) h s is = by (g.others || names_it x g.choices) (guards_kept x gs h.1 s is)
    where
      by : (b : Bool) → IsSpot lines (goes_there (guarded x gs) s) → IsSpot lines (goes_there (if b then Some g.to else guarded x gs) s)
      by true later = record { place = inl h.0; returns = is.returns }
      by false later = later

  handler_kept : (x : Exception) (last : Last) → LastLeads lines last → (s : Spot) → IsSpot lines s → IsSpot lines (goes_there (handler_in last x) s)
  handler_kept x (Does e) h s is = is
  handler_kept x (Continues f) h s is = is
  handler_kept x (Guards gs) h s is = guards_kept x gs h s is
  handler_kept x (Ends c next) h s is = is
  handler_kept x (Leaves n next) h s is = is

  handling_kept : (x : Exception) (s : Spot) → IsSpot lines s → IsSpot lines (goes_there (handler_in (end_at code (end_at code s.place).out).last x) s)
  handling_kept x s is = by (found_at (end_at code s.place).out)
    where
      by : Leads lines (end_at code (end_at code s.place).out) ⊎ (end_at code (end_at code s.place).out ≡ no_end (end_at code s.place).out) → IsSpot lines (goes_there (handler_in (end_at code (end_at code s.place).out).last x) s)
      by (inl l) = handler_kept x (end_at code (end_at code s.place).out).last l.last s is
      by (inr e) = subst (λ (y : EndLine). IsSpot lines (goes_there (handler_in y.last x) s)) (sym e) is

  -- where exceptions go
  out_place : (n : ℕ) → P n → P (end_at code n).out
  out_place n h = by (found_at n)
    where
      by : Leads lines (end_at code n) ⊎ (end_at code n ≡ no_end n) → P (end_at code n).out
      by (inl l) = inl l.out
      by (inr e) = subst (λ (x : EndLine). P x.out) (sym e) h

  end_place : (last : Last) (out : ℕ) → P out → P (end_by code last out)
  end_place (Does e) out h = h
  end_place (Continues f) out h = h
  end_place (Guards gs) out h = out_place out h
  end_place (Ends c next) out h = h
  end_place (Leaves n next) out h = h

  out_of_kept : (last : Last) (place : ℕ) → P place → (s : Spot) → IsSpot lines s → IsSpot lines (out_of_end code last place s)
  out_of_kept (Does e) place h s is = is
  out_of_kept (Continues f) place h s is = is
  out_of_kept (Guards gs) place h s is = is
  out_of_kept (Ends construct.Unit next) place h s is = back_kept s.returns is.returns
  out_of_kept (Ends construct.Block next) place h s is = record { place = h; returns = is.returns }
  out_of_kept (Ends construct.Accept next) place h s is = record { place = h; returns = is.returns }
  out_of_kept (Leaves n next) place h s is = record { place = h; returns = is.returns }

  left_kept : (s : Spot) → IsSpot lines s → IsSpot lines (left_by code (end_at code s.place).out s)
  left_kept s is =
      let out = (end_at code s.place).out in
      let place = end_by code (end_at code out).last out in
      out_of_kept (end_at code place).last place (end_place (end_at code out).last out (out_place s.place is.place)) s is

  module _ (plan : Plan) where
    pub moved_kept : (o : Moved) (s : Spot) → IsSpot lines s → IsSpot lines (moved (flat_controls plan code) s o)
    moved_kept here s is = is
    moved_kept (takes_part n o) s is = takes_kept n _ (moved_kept o s is)
    moved_kept (does_accept n o) s is = accepts_kept n _ (moved_kept o s is)
    moved_kept (enters_body n o) s is = let h = moved_kept o s is in record { place = inl (started n); returns = (h.place, h.returns) }
    moved_kept (begins_body n) s is = record { place = inl (started n); returns = tt }
    moved_kept (gets_out o) s is = out_kept _ (moved_kept o s is)
    moved_kept (passes_end o) s is = behind_kept _ (moved_kept o s is)
    moved_kept (to_handler x o) s is = handling_kept x _ (moved_kept o s is)
    moved_kept (out_by x o) s is = left_kept _ (moved_kept o s is)

    first : Spot
    first = record { place = start_at code 0; returns = [] }

    all_kept : (ts : List (TaskAt Spot)) (ms : List (TaskAt Moved)) → AreSpots lines ts → AreSpots lines (all_moved (flat_controls plan code) ts ms)
    all_kept ts [] h = tt
    all_kept [] (m ∷ ms) h = (moved_kept m.control (record { place = start_at code 0; returns = [] }) (record { place = inl (started 0); returns = tt }), all_kept [] ms tt)
    all_kept (t ∷ ts) (m ∷ ms) h = (moved_kept m.control t.control h.0, all_kept ts ms h.1)

    -- whatever a step orders
    pub ordered_kept : (c : All Spot) (f : All Moved → All Moved) → AreSpots lines c.tasks → AreSpots lines (ordered (flat_controls plan code) c f).tasks
    ordered_kept c f h = all_kept c.tasks (f (record { tasks = map (λ (t : TaskAt Spot). record { control = here; own = t.own }) c.tasks; shared = c.shared; choices = c.choices; clock = c.clock; steps = c.steps })).tasks h

    pub step_kept : (limits : Limits) (c : All Spot) (m : Move) → AreSpots lines c.tasks → AreSpots lines (step_with plan (flat_controls plan code) limits c m).tasks
    step_kept limits c m h = by (slice_get c.tasks m.task)
      where
        by : (t : Option (TaskAt Spot)) → AreSpots lines (step_of plan (flat_controls plan code) limits t m c).tasks
        by None = h
        by (Some t) = ordered_kept (record c { steps = suc c.steps }) (orders plan (flat_controls plan code).barrier limits (seen plan (flat_controls plan code) c) ((flat_controls plan code).asks t.own.pending (scene_of plan (flat_controls plan code) m.task c) t.control) m) h
