-- Calls in memory with their queues.
use Rattle.std.proofs.Common.{◌≡◌, true, false, ◌<◌, ℕ, zero, suc, List, [], ◌∷◌, ◌++◌, length, get_or, map, refl, ap, sym, ◌∙◌, arith, Bool, if◌then◌else◌, nat_eq, not, slice_get, slice_index_or}
use Rattle.std.specs.Prelude.{◌&&◌}
use Rattle.std.proofs.lemmas.Bool.{false≢true}
use Rattle.std.proofs.lemmas.List.{map-append}
use Rattle.aud_meaning.specs.declared.state.CallState.TheVariants.{Queued}
use Rattle.aud_meaning.specs.Configuration.{Call}
use Rattle.aud_meaning.specs.Parts.{Waiting, changed, is_queued, no_call, owner_number, queue}
use Rattle.aud_over.specs.Over.{calls_left}
use Rattle.aud_calls.specs.declared.queues.Queues.{Queues}
use Rattle.aud_calls.specs.Queues.{AreInLine, is_at, oldest, waiting, without}
use Rattle.aud_calls.proofs.CallLaws.Queueing.{all_but, arrived, before_changed, before_left, before_made, before_more, behind, gone, is_on, left, made, untouched}

abbrev numbered : List Waiting → List ℕ
numbered q = map (λ (w : Waiting). w.call) q

numbered_without : (id : ℕ) (q : List Waiting) → without id (numbered q) ≡ numbered (all_but id q)
numbered_without id [] = refl
numbered_without id (w ∷ q) =
    ap (λ l. if not (nat_eq w.call id) then w.call ∷ l else l) (numbered_without id q) ∙ by (not (nat_eq w.call id))
  where
    by : (b : Bool) → (if b then w.call ∷ numbered (all_but id q) else numbered (all_but id q)) ≡ numbered (if b then w ∷ all_but id q else all_but id q)
    by true = refl
    by false = refl

-- the oldest one comes first
pub oldest_first : (q : List Waiting) → slice_get (numbered q) 0 ≡ oldest q
oldest_first [] = refl
oldest_first (w ∷ q) = refl

-- what is read of a list in another view
pub seen_at : {A B : Type 0} (view : A → B) (xs : List A) (n : ℕ) (x : A) → n < length xs → x ≡ get_or xs n x → view x ≡ get_or (map view xs) n (view x)
seen_at view [] n x within at = absurd (omega (arith, within))
seen_at view (y ∷ ys) zero x within at = ap view at
seen_at view (y ∷ ys) (suc n) x within at = seen_at view ys n x (omega (arith, within)) at

pub read_at : {A B : Type 0} (view : A → B) (xs : List A) (n : ℕ) (x : A) (none : B) → n < length xs → x ≡ get_or xs n x → slice_index_or (map view xs) n none ≡ view x
read_at view [] n x none within at = absurd (omega (arith, within))
read_at view (y ∷ ys) zero x none within at = ap view (sym at)
read_at view (y ∷ ys) (suc n) x none within at = read_at view ys n x none (omega (arith, within)) at

pub changed_twice : {A : Type 0} (f g : A → A) (n : ℕ) (xs : List A) → changed n f (changed n g xs) ≡ changed n (λ x. f (g x)) xs
changed_twice f g n [] = refl
changed_twice f g zero (x ∷ xs) = refl
changed_twice f g (suc n) (x ∷ xs) = ap (λ ys. x ∷ ys) (changed_twice f g n xs)

pub idle_now : (f : Call → Call) (n : ℕ) (cs : List Call) → ((c : Call) → is_queued (f c).state ≡ false) → is_queued (slice_index_or (changed n f cs) n no_call).state ≡ false
idle_now f n [] never = refl
idle_now f zero (c ∷ cs) never = never c
idle_now f (suc n) (c ∷ cs) never = idle_now f n cs never

-- what a call in no queue leaves, and one in its queue
pub stays : (o e id : ℕ) (c : Call) (old : List ℕ) → is_queued c.state ≡ false → old ≡ (if is_at o e c then without id old else old)
stays o e id c old idle = ap (λ (b : Bool). if b && nat_eq c.entry e && nat_eq (owner_number c.owner) o then without id old else old) (sym idle)

pub leaves : (o e id n : ℕ) (c : Call) (old new : List ℕ) → is_queued c.state ≡ true → n ≡ owner_number c.owner → new ≡ (if nat_eq c.entry e && nat_eq n o then without id old else old) → new ≡ (if is_at o e c then without id old else old)
leaves o e id n c old new queued number is =
    is
    ∙ ap (λ m. if nat_eq c.entry e && nat_eq m o then without id old else old) number
    ∙ ap (λ (b : Bool). if b && nat_eq c.entry e && nat_eq (owner_number c.owner) o then without id old else old) (sym queued)

module _ (calls : List Call) (k : ℕ) (old : Queues) (lined : AreInLine calls k old) where
  pub same_lines : (new : Queues) → ((o e : ℕ) → waiting o e new ≡ waiting o e old) → AreInLine calls k new
  same_lines new same = record { lines = λ o e. same o e ∙ lined.lines o e; before = lined.before }

  -- some that are over are given back
  pub left_lines : (served : ℕ → Bool) → AreInLine (calls_left served 0 calls) k old
  left_lines served = record {
    lines = λ o e. lined.lines o e ∙ ap numbered (sym (left o e served 0 calls));
    before = before_left served k 0 calls lined.before;
  }

  -- an arrival of no call
  pub later_lines : AreInLine calls (suc k) old
  later_lines = record { lines = lined.lines; before = before_more k (suc k) calls (omega arith) lined.before }

  -- a call is made
  pub made_lines : (x : Call) → is_queued x.state ≡ false → AreInLine (calls ++ x ∷ []) k old
  made_lines x idle = record {
    lines = λ o e. lined.lines o e ∙ ap numbered (sym (made o e 0 x calls (ap (λ (b : Bool). b && nat_eq x.entry e && nat_eq (owner_number x.owner) o) idle)));
    before = before_made k x calls idle lined.before;
  }

  module _ (n : ℕ) (x : Call) (within : n < length calls) (at : x ≡ get_or calls n x) (new : Queues) where
    -- it is queued no more
    pub settled_lines : (f : Call → Call) → ((c : Call) → is_queued (f c).state ≡ false) → ((o e : ℕ) → waiting o e new ≡ (if is_at o e x then without n (waiting o e old) else waiting o e old)) → AreInLine (changed n f calls) k new
    settled_lines f never left = record {
      lines = λ o e. left o e ∙ by o e (is_at o e x) refl;
      before = before_changed k n f calls (λ c queued. absurd (false≢true (sym (never c) ∙ queued))) lined.before;
    }
      where
        by : (o e : ℕ) (b : Bool) → is_at o e x ≡ b → (if b then without n (waiting o e old) else waiting o e old) ≡ numbered (queue o e (changed n f calls))
        by o e true is =
            ap (without n) (lined.lines o e)
            ∙ numbered_without n (queue o e calls)
            ∙ ap numbered (sym (gone o e f 0 n n calls never (omega arith)))
        by o e false is =
            lined.lines o e
            ∙ ap numbered (sym (untouched o e f 0 n x calls within at is (ap (λ (b : Bool). b && nat_eq (f x).entry e && nat_eq (owner_number (f x).owner) o) (never x))))

    -- it arrives
    pub arrived_lines : is_queued x.state ≡ false → ((o e : ℕ) → waiting o e new ≡ (if nat_eq x.entry e && nat_eq (owner_number x.owner) o then waiting o e old ++ n ∷ [] else waiting o e old)) →
        AreInLine (changed n (λ (a : Call). record a { state = Queued; arrival = k }) calls) (suc k) new
    arrived_lines idle joined = record {
      lines = λ o e. joined o e ∙ by o e (is_on o e x) ∙ ap numbered (sym (arrived o e k 0 n n x calls within at (omega arith) idle lined.before));
      before = before_changed (suc k) n (λ (a : Call). record a { state = Queued; arrival = k }) calls (λ c queued. omega arith) (before_more k (suc k) calls (omega arith) lined.before);
    }
      where
        by : (o e : ℕ) (b : Bool) → (if b then waiting o e old ++ n ∷ [] else waiting o e old) ≡ numbered (behind o e b (queue o e calls) (record { call = n; arrival = k; caller = x.caller }))
        by o e true = ap (λ l. l ++ n ∷ []) (lined.lines o e) ∙ sym (map-append (λ (w : Waiting). w.call) (queue o e calls) (record { call = n; arrival = k; caller = x.caller } ∷ []))
        by o e false = lined.lines o e
