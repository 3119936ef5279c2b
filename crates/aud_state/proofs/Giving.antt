-- What is given back is over.
use Rattle.std.proofs.Common.{◌≡◌, ◌+◌, ℕ, zero, suc, List, [], ◌∷◌, ◌++◌, length, slice_index_or, Bool, true, false, if◌then◌else◌, refl, ap, sym, ◌∙◌, inl, arith}
use Rattle.std.proofs.lemmas.Bool.{or_left, or_right}
use Rattle.std.specs.Prelude.{◌||◌, ◌&&◌, nat_eq, not}
use Rattle.aud_meaning.specs.Configuration.{Frame, TaskAt, All}
use Rattle.aud_meaning.specs.Parts.{any, contains, depends, owns}
use Rattle.aud_code.specs.Places.{Spot}
use Rattle.aud_store.specs.Ties.Frames.{named_from, only_named}
use Rattle.aud_over.specs.Law.{LikeCalls, LikeFrames}
use Rattle.aud_over.specs.Over.{forgotten, frame_if, frames_left, is_named, is_served, object_names, own_names, with_kept}
use Rattle.aud_over.proofs.Like.{kept_left}
use Rattle.aud_calls.proofs.Lists.{append_names, or_joined}
use Rattle.aud_state.specs.Held.{given_back, is_held, is_kept, keeps}

-- Numbers that come after others.

pub turned_behind : (a b c : Bool) → ((a || b) || c) ≡ (a || (c || b))
turned_behind true b c = refl
turned_behind false true true = refl
turned_behind false true false = refl
turned_behind false false true = refl
turned_behind false false false = refl

-- of one task
pub kept_more : (f : ℕ) (old mid new masters : List ℕ) (names over : Bool) → contains f mid ≡ (contains f old || names) → new ≡ mid ++ (if over then [] else masters) → contains f new ≡ (contains f old || (names || (not over && contains f masters)))
kept_more f old mid new masters names over told is =
    ap (contains f) is ∙ append_names f mid (if over then [] else masters)
    ∙ ap (λ b. contains f mid || b) (among over)
    ∙ ap (λ b. b || (not over && contains f masters)) told
    ∙ or_joined (contains f old) names (not over && contains f masters)
  where
    among : (b : Bool) → contains f (if b then [] else masters) ≡ (not b && contains f masters)
    among true = refl
    among false = refl

-- Frames that are left.

chosen : (b : Bool) (f : Frame) → b ≡ true → (if b then f else []) ≡ f
chosen true f h = refl
chosen false f h = absurd (cc (h))

named_length : (n : ℕ) (ks : List ℕ) (fs : List Frame) → length (named_from n ks fs) ≡ length fs
named_length n ks [] = refl
named_length n ks (f ∷ fs) = ap suc (named_length (suc n) ks fs)

named_there : (n f : ℕ) (ks : List ℕ) (fs : List Frame) → (nat_eq (n + f) 0 || contains (n + f) ks) ≡ true → slice_index_or (named_from n ks fs) f [] ≡ slice_index_or fs f []
named_there n f ks [] h = refl
named_there n zero ks (x ∷ fs) h = let z : n + 0 ≡ n = omega arith in chosen (nat_eq n 0 || contains n ks) x (sym (ap (λ k. nat_eq k 0 || contains k ks) z) ∙ h)
named_there n (suc f) ks (x ∷ fs) h =
    let z : suc n + f ≡ n + suc f = omega arith in named_there (suc n) f ks fs (ap (λ k. nat_eq k 0 || contains k ks) z ∙ h)

pub still_there : (f : ℕ) (ks : List ℕ) (fs : List Frame) → (nat_eq f 0 || contains f ks) ≡ true → slice_index_or (only_named ks fs) f [] ≡ slice_index_or fs f []
still_there f ks fs h = let z : 0 + f ≡ f = omega arith in named_there 0 f ks fs (ap (λ k. nat_eq k 0 || contains k ks) z ∙ h)

named_left : (kept : ℕ → Bool) (ks : List ℕ) → ((f : ℕ) → (nat_eq f 0 || contains f ks) ≡ kept f) → (n : ℕ) (fs : List Frame) → named_from n ks fs ≡ frames_left kept n fs
named_left kept ks same n [] = refl
named_left kept ks same n (f ∷ fs) =
    ap (λ l. (if nat_eq n 0 || contains n ks then f else []) ∷ l) (named_left kept ks same (suc n) fs)
    ∙ ap (λ g. g ∷ frames_left kept (suc n) fs) (ap (λ b. if b then f else []) (same n) ∙ by (kept n))
  where
    by : (b : Bool) → (if b then f else []) ≡ frame_if b f
    by true = refl
    by false = refl

-- What tasks and objects name is kept, and nothing else.

keeps_parts : (f : ℕ) (ts : List (TaskAt Spot)) → any (keeps f) ts ≡ (any (own_names f) (owns ts) || any (λ (t : TaskAt Spot). depends f t.own) ts)
keeps_parts f [] = refl
keeps_parts f (t ∷ ts) =
    ap (λ b. (own_names f t.own || depends f t.own) || b) (keeps_parts f ts)
    ∙ by (own_names f t.own) (depends f t.own) (any (own_names f) (owns ts)) (any (λ (u : TaskAt Spot). depends f u.own) ts)
  where
    by : (a b c d : Bool) → ((a || b) || (c || d)) ≡ ((a || c) || (b || d))
    by true b c d = refl
    by false true true d = refl
    by false true false d = refl
    by false false c d = refl

module _ (c : All Spot) (some all : List ℕ) (tasks : (f : ℕ) → contains f some ≡ any (keeps f) c.tasks) (objects : (f : ℕ) → contains f all ≡ (contains f some || any (object_names f) c.shared.objects)) where
  kept_so : (f : ℕ) → (nat_eq f 0 || contains f all) ≡ is_kept f c
  kept_so f =
      ap (λ b. nat_eq f 0 || b) (objects f ∙ ap (λ b. b || any (object_names f) c.shared.objects) (tasks f ∙ keeps_parts f c.tasks))
      ∙ by (nat_eq f 0) (any (own_names f) (owns c.tasks)) (is_held f c) (any (object_names f) c.shared.objects)
    where
      by : (a n h o : Bool) → (a || ((n || h) || o)) ≡ ((a || (n || o)) || h)
      by true n h o = refl
      by false true h o = refl
      by false false true true = refl
      by false false true false = refl
      by false false false true = refl
      by false false false false = refl

  named_kept : (f : ℕ) → is_named (owns c.tasks) c.shared.objects f ≡ true → (nat_eq f 0 || contains f all) ≡ true
  named_kept f h = kept_so f ∙ or_left (is_named (owns c.tasks) c.shared.objects f) (is_held f c) h

  pub given_back_so : with_kept (only_named all c.shared.frames) c.shared.calls c ≡ given_back c
  given_back_so = ap (λ fs. with_kept fs c.shared.calls c) (named_left (λ f. is_kept f c) all kept_so 0 c.shared.frames)

  pub given_left : forgotten (with_kept (only_named all c.shared.frames) c.shared.calls c) ≡ forgotten c
  given_left =
      let frames : LikeFrames (is_named (owns c.tasks) c.shared.objects) c.shared.frames (only_named all c.shared.frames) = record {
        many = sym (named_length 0 all c.shared.frames);
        same = λ f h. sym (still_there f all c.shared.frames (named_kept f h));
      } in
      let calls : LikeCalls (is_served (owns c.tasks)) c.shared.calls c.shared.calls = record { many = refl; same = λ i. inl refl } in
      sym (kept_left c (only_named all c.shared.frames) c.shared.calls frames calls)

  pub given_held : (f : ℕ) → is_held f c ≡ true → slice_index_or (only_named all c.shared.frames) f [] ≡ slice_index_or c.shared.frames f []
  given_held f h = still_there f all c.shared.frames (kept_so f ∙ or_right (is_named (owns c.tasks) c.shared.objects f) (is_held f c) h)
