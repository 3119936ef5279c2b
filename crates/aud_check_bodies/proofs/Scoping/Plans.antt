-- What a construct enters stands in the plan, as it is behind the construct.
use Rattle.std.proofs.Common.{◌≡◌, ◌<◌, ◌≤◌, ℕ, true, List, [], ◌∷◌, ◌++◌, length, slice_index_or, arith, refl, ◌∙◌, ap}
use Rattle.std.proofs.lemmas.List.{length_push, length-append, length-set, get_or-set_same, get_or-set_other, get_or_append_left, get_or_push}
use Rattle.aud_typed.specs.Tree as tree
use Rattle.aud_typed.specs.Tree.{Plan}
use Rattle.aud_typed.specs.Why.Scoped.{table, no_task, no_object, no_entry_plan, Entry}
use Rattle.aud_check_bodies.specs.Tables.{Tables, with_region, region_kept, region_named, entry_at}
use Rattle.aud_check_bodies.proofs.Scoping.Names.{Known}
use Rattle.aud_check_bodies.proofs.Scoping.Tables.{Grows}

pub record InPlan (plan : Plan) (t u : Tables) : Type 0 where
  pub regions : (n : ℕ) → length t.regions ≤ n → n < length u.regions → table plan n ≡ slice_index_or u.regions n []
  pub exceptions : length u.exceptions ≤ length plan.exceptions
  pub objects : (n : ℕ) → n < length u.objects → (n < length plan.objects) × (slice_index_or plan.objects n no_object ≡ slice_index_or u.objects n no_object)
  pub entries : (n : ℕ) → n < length u.entries → (n < length plan.entries) × (slice_index_or plan.entries n no_entry_plan ≡ tree.plan_of_entry (entry_at n u))
  pub tasks : (n : ℕ) → n < length u.tasks → (n < length plan.tasks) × (slice_index_or plan.tasks n no_task ≡ slice_index_or u.tasks n no_task)

module _ (plan : Plan) where
  regions_longer : (t u : Tables) → Grows t u → length t.regions ≤ length u.regions
  regions_longer t u g = omega (arith, ap length g.regions, length-append t.regions g.more_regions)

  -- the first of two parts, and the second
  pub first_in_plan : (t u v : Tables) → Grows u v → InPlan plan t v → InPlan plan t u
  first_in_plan t u v g h = record {
    regions = λ n after before. h.regions n after (omega (arith, before, regions_longer u v g)) ∙ ap (λ z. slice_index_or z n []) g.regions ∙ get_or_append_left u.regions g.more_regions [] n before;
    exceptions = omega (arith, g.exceptions, h.exceptions);
    objects = λ n lt.
        let there = h.objects n (omega (arith, lt, g.objects)) in
        (there.0, there.1 ∙ g.stay n lt);
    entries = λ n lt.
        let there = h.entries n (omega (arith, lt, g.entries)) in
        (there.0, there.1 ∙ g.planned n lt);
    tasks = λ n lt.
        let there = h.tasks n (omega (arith, lt, ap length g.tasks, length-append u.tasks g.more_tasks)) in
        (there.0, there.1 ∙ ap (λ z. slice_index_or z n no_task) g.tasks ∙ get_or_append_left u.tasks g.more_tasks no_task n lt);
  }

  pub second_in_plan : (t u v : Tables) → Grows t u → InPlan plan t v → InPlan plan u v
  second_in_plan t u v g h = record { regions = λ n after before. h.regions n (omega (arith, after, regions_longer t u g)) before; exceptions = h.exceptions; objects = h.objects; entries = h.entries; tasks = h.tasks }

  kept_longer : (t u : Tables) → Grows (region_kept t) u → length t.regions < length u.regions
  kept_longer t u g = omega (arith, regions_longer (region_kept t) u g, length_push t.regions [])

  -- a region whose place was kept stands there, and what its declarations entered
  pub named_table : (shown : List tree.Named) (t u : Tables) → Grows (region_kept t) u → InPlan plan t (region_named (length t.regions) shown u) → table plan (length t.regions) ≡ shown
  named_table shown t u g h =
      let long = length-set u.regions (length t.regions) shown in
      h.regions (length t.regions) (omega arith) (omega (arith, long, kept_longer t u g)) ∙ get_or-set_same u.regions (length t.regions) shown [] (kept_longer t u g)

  pub kept_in_plan : (shown : List tree.Named) (t u : Tables) → InPlan plan t (region_named (length t.regions) shown u) → InPlan plan (region_kept t) u
  kept_in_plan shown t u h = record {
    regions = λ n after before.
        let long = length-set u.regions (length t.regions) shown in
        let one = length_push t.regions [] in
        h.regions n (omega (arith, after, one)) (omega (arith, before, long)) ∙ get_or-set_other u.regions (length t.regions) n shown [] (λ e. omega (arith, e, after, one));
    exceptions = h.exceptions;
    objects = h.objects;
    entries = h.entries;
    tasks = h.tasks;
  }

  -- a region that is entered with its names
  pub entered_table : (shown : List tree.Named) (t u : Tables) → Grows (with_region shown t) u → InPlan plan t u → table plan (length t.regions) ≡ shown
  entered_table shown t u g h =
      let one = length_push t.regions shown in
      h.regions (length t.regions) (omega arith) (omega (arith, one, regions_longer (with_region shown t) u g))
      ∙ ap (λ z. slice_index_or z (length t.regions) []) g.regions ∙ get_or_append_left (t.regions ++ shown ∷ []) g.more_regions [] (length t.regions) (omega (arith, one)) ∙ get_or_push t.regions shown [] (length t.regions) refl

-- what is known where these are the tables
abbrev pub seen : Plan → List Entry → Tables → Known
seen plan entries t = record { plan = plan; entries = entries; profiles = t.profiles; entry_profiles = t.entry_profiles; complete = true }
