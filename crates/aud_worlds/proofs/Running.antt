-- What one call makes of a world in memory, and a list of them.
use Rattle.std.specs.Prelude.{map, is_some, IfSome}
use Rattle.std.proofs.Common.{◌≡◌, ℕ, ◌<◌, ◌≤◌, List, [], ◌∷◌, ◌++◌, length, get_or, set, Option, Some, None, refl, sym, ap, ◌∙◌, subst}
use Rattle.aud_text.specs.declared.limits.Limits.{Limits}
use Rattle.aud_bench.specs.declared.bench.Work.{Work}
use Rattle.aud_bench.specs.Seen.{unanswered}
use Rattle.aud_hall.specs.Numbered.{joined}
use Rattle.aud_hall.specs.Replies.{Reply, Accepted, Refused, Sent, Worked, Taken, Stranger, Answers, Nothing, Then}
use Rattle.aud_hall.specs.Slices.{done, sliced}
use Rattle.aud_hall.specs.Halls.{Place, sends_out}
use Rattle.aud_hall.specs.Parcels.{Parcel, bench_of}
use Rattle.aud_worlds.specs.declared.event.Event.{Event as Call}
use Rattle.aud_worlds.specs.declared.event.Event.TheVariants as call
use Rattle.aud_worlds.specs.declared.reply.Reply.{Reply as InMemory}
use Rattle.aud_worlds.specs.declared.reply.Reply.TheVariants as in_memory
use Rattle.aud_worlds.specs.World as world
use Rattle.aud_worlds.specs.World.{World, SendOut, Slice, CheckIn, sending_away, slicing, checking, coming_in, out_after, parcels}
use Rattle.aud_worlds.specs.Ties.Calls.{Told, told_by, plain_reply, IsRun}
use Rattle.aud_worlds.specs.Ties.Runs.{seen, Makes, slicing_there, SlicesThere, left_after, ChecksThere}
use Rattle.aud_hall.proofs.Places.{at_here, at_past, put_is, set_same}
use Rattle.aud_worlds.proofs.Calls.{one_call}

-- ## A list of calls

told_more : (xs : List InMemory) (x : InMemory) → map plain_reply (xs ++ x ∷ []) ≡ map plain_reply xs ++ plain_reply x ∷ []
told_more [] x = refl
told_more (y ∷ xs) x = ap (λ ts. plain_reply y ∷ ts) (told_more xs x)

pub run_more : (limits : List Limits) (calls : List Call) (c : Call) (w after : World) (xs : List InMemory) (x : InMemory) → IsRun limits calls w (map plain_reply xs) → Makes c w x after
    → IsRun limits (calls ++ c ∷ []) after (map plain_reply (xs ++ x ∷ []))
run_more limits calls c w after xs x run m =
    let one = one_call limits calls w (map plain_reply xs) m.event after m.reply run m.happens_is in
    let called : IsRun limits (calls ++ c ∷ []) after (map plain_reply xs ++ told_by m.reply ∷ []) = subst (λ d. IsRun limits (calls ++ d ∷ []) after (map plain_reply xs ++ told_by m.reply ∷ [])) m.call_is one in
    subst (IsRun limits (calls ++ c ∷ []) after) (ap (λ t. map plain_reply xs ++ t ∷ []) m.tells ∙ sym (told_more xs x)) called

-- ## A bench goes out

abbrev pub slots : Option Parcel → List (Option Parcel)
slots None = []
slots (Some p) = Some p ∷ []

sent_slots : (k : ℕ) (o : Option Parcel) → IfSome o (λ p. p.seat ≡ k) → parcels k (bench_of o) ≡ slots o
sent_slots k None is = refl
sent_slots k (Some p) is =
    let numbered : ℕ → List (Option Parcel) = λ n. Some (record { seat = n; bench = p.bench }) ∷ [] in
    ap numbered (sym is)

sent_told : (o : Option Parcel) → told_by (Sent (bench_of o)) ≡ plain_reply (in_memory.Sent (is_some o))
sent_told None = refl
sent_told (Some p) = refl

pub sent_makes : (k : ℕ) (hall hall' : List Place) (out : List (Option Parcel)) (o : Option Parcel) → IfSome o (λ p. p.seat ≡ k)
    → ((refused : Option ℕ) × (sends_out k refused hall ≡ record { hall = hall'; gone = bench_of o }))
    → Makes (call.SendOut k) (seen hall out) (in_memory.Sent (is_some o)) (seen hall' (out ++ slots o))
sent_makes k hall hall' out o numbered sends =
    let then : List (Option Parcel) → Then World = λ more. record { now = seen hall' (out ++ more); reply = Sent (bench_of o) } in
    record {
      event = SendOut k sends.0;
      reply = Sent (bench_of o);
      call_is = refl;
      happens_is = ap (sending_away k (seen hall out)) sends.1 ∙ ap then (sent_slots k o numbered);
      tells = sent_told o;
    }

-- ## At the place of one parcel

no_parcel : (out : List (Option Parcel)) (n : ℕ) → length out ≤ n → world.parcel_at out n ≡ None
no_parcel out n past = ap (λ (o : Option (Option Parcel)). joined o) (at_past out n past)

parcel_there : (out : List (Option Parcel)) (n : ℕ) (there : Option Parcel) → n < length out → there ≡ get_or out n there → world.parcel_at out n ≡ there
parcel_there out n there here is = ap (λ (o : Option (Option Parcel)). joined o) (at_here out n there here is)

pub no_slice : (n units : ℕ) (w : World) → length w.out ≤ n → Makes (call.Slice n units) w in_memory.Nothing w
no_slice n units w past = record {
  event = Slice n units None;
  reply = Nothing;
  call_is = refl;
  happens_is = ap (slicing n units None w) (no_parcel w.out n past);
  tells = refl;
}

pub no_check : (n k : ℕ) (w : World) → length w.out ≤ n → Makes (call.CheckIn n k) w in_memory.Nothing w
no_check n k w past = record {
  event = CheckIn n k;
  reply = Nothing;
  call_is = refl;
  happens_is = ap (checking n k w) (no_parcel w.out n past);
  tells = refl;
}

module _ (n : ℕ) (hall : List Place) (out : List (Option Parcel)) where
  sliced_there : (units : ℕ) (refused : Option ℕ) (there : Option Parcel) → there ≡ get_or out n there
      → slicing n units refused (seen hall out) there ≡ record { now = seen hall (set out n (slicing_there units refused there).now); reply = (slicing_there units refused there).reply }
  sliced_there units refused None is =
      let then : List (Option Parcel) → Then World = λ o. record { now = seen hall o; reply = Nothing } in
      ap then (sym (set_same out n None is))
  sliced_there units refused (Some p) is =
      let then : List (Option Parcel) → Then World = λ o. record { now = seen hall o; reply = (slicing_there units refused (Some p)).reply } in
      ap then (put_is out n (slicing_there units refused (Some p)).now)

  pub slice_makes : (units : ℕ) (there after : Option Parcel) (x : InMemory) → n < length out → there ≡ get_or out n there → SlicesThere units there x after
      → Makes (call.Slice n units) (seen hall out) x (seen hall (set out n after))
  slice_makes units there after x here is (refused, now, tells) =
      let reply = (slicing_there units refused there).reply in
      let then : Option Parcel → Then World = λ o. record { now = seen hall (set out n o); reply = reply } in
      record {
        event = Slice n units refused;
        reply = reply;
        call_is = refl;
        happens_is = ap (slicing n units refused (seen hall out)) (parcel_there out n there here is) ∙ sliced_there units refused there is ∙ ap then (sym now);
        tells = tells;
      }

  left_out : (reply : Reply) (p : Parcel) → Some p ≡ get_or out n (Some p) → out_after out n reply ≡ set out n (left_after reply (Some p))
  left_out (Taken next) p is = put_is out n None
  left_out Accepted p is = sym (set_same out n (Some p) is)
  left_out (Refused fault) p is = sym (set_same out n (Some p) is)
  left_out (Sent _) p is = sym (set_same out n (Some p) is)
  left_out (Worked done left) p is = sym (set_same out n (Some p) is)
  left_out (Stranger why) p is = sym (set_same out n (Some p) is)
  left_out (Answers answers) p is = sym (set_same out n (Some p) is)
  left_out Nothing p is = sym (set_same out n (Some p) is)

  pub check_makes : (k : ℕ) (hall' : List Place) (there after : Option Parcel) (x : InMemory) → n < length out → there ≡ get_or out n there → ChecksThere k hall there x hall' after
      → Makes (call.CheckIn n k) (seen hall out) x (seen hall' (set out n after))
  check_makes k hall' None after x here is (same, none, told) =
      let then : List Place → List (Option Parcel) → Then World = λ h o. record { now = seen h o; reply = Nothing } in
      record {
        event = CheckIn n k;
        reply = Nothing;
        call_is = refl;
        happens_is =
            ap (checking n k (seen hall out)) (parcel_there out n None here is)
            ∙ ap (λ h. then h out) (sym same)
            ∙ ap (then hall') (sym (set_same out n None is) ∙ ap (set out n) (sym none));
        tells = ap plain_reply (sym told);
      }
  check_makes k hall' (Some p) after x here is (reply, checks, now, tells) =
      let then : List (Option Parcel) → Then World = λ o. record { now = seen hall' o; reply = reply } in
      record {
        event = CheckIn n k;
        reply = reply;
        call_is = refl;
        happens_is =
            ap (checking n k (seen hall out)) (parcel_there out n (Some p) here is)
            ∙ ap (coming_in n (seen hall out)) checks
            ∙ ap then (left_out reply p is ∙ ap (set out n) (sym now));
        tells = tells;
      }

-- a slice of the parcel that is there
pub slices_there : (units : ℕ) (p after : Parcel) (refused : Option ℕ) (work : Work) → after ≡ record p { bench = sliced units refused p.bench } → work.done ≡ done units refused p.bench → work.left ≡ unanswered after.bench
    → (there : Option Parcel) → there ≡ Some p → SlicesThere units there (in_memory.Worked work) (Some after)
slices_there units p after refused work e d l there is =
    let told : ℕ → ℕ → Told = λ m n. told_by (Worked m n) in
    subst (λ (t : Option Parcel). SlicesThere units t (in_memory.Worked work) (Some after)) (sym is) (
      refused,
      ap (λ q. Some q) e,
      ap (λ (q : Parcel). told (done units refused p.bench) (unanswered q.bench)) (sym e) ∙ ap (λ m. told m (unanswered after.bench)) (sym d) ∙ ap (told work.done) (sym l),
    )
