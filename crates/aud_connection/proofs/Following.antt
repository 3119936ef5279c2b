-- What a private server keeps and answers, request by request.
use Rattle.std.specs.Prelude.{slice_get, if◌then◌else◌}
use Rattle.std.proofs.Common.{◌≡◌, ℕ, zero, suc, ◌+◌, ◌-◌, List, [], ◌∷◌, ◌++◌, length, Some, None, Bool, true, false, refl, sym, ap, ◌∙◌, arith, append-nil, append_assoc, length-append}
use Rattle.aud_text.specs.declared.refusal.Refusal.TheVariants as refusal
use Rattle.aud_text.specs.declared.limits.Limits.{Limits}
use Rattle.aud_bench.specs.declared.request.Request.{Request}
use Rattle.aud_bench.specs.declared.request.Answer.{Answer}
use Rattle.aud_bench.specs.declared.request.Answer.TheVariants.{Refused}
use Rattle.aud_bench.specs.Alone.{Server, Reply, is_quit, fits, kept, replied, answers_from, alone}
use Rattle.aud_bench.specs.Seen.{has_quit}
use Rattle.aud_bench.specs.Size.{bytes_of}
use Rattle.aud_bench.proofs.Journals.{bytes_append, last_quits}
use Rattle.aud_bench.proofs.Sessions.{not_kept, last_one, goes_on}
use Rattle.aud_bench.proofs.Standing.{loaded_append}
use Rattle.aud_connection.specs.Ties.Following.{server_behind, answers_behind, Keeps}

-- lists that end so end in the same
pub last_same : (xs ys : List Answer) (a b : Answer) → xs ++ a ∷ [] ≡ ys ++ b ∷ [] → a ≡ b
last_same [] [] a b e = cc
last_same [] (y ∷ ys) a b e = absurd (omega (arith, ap length e, length-append ys (b ∷ [])))
last_same (x ∷ xs) [] a b e = absurd (omega (arith, ap length e, length-append xs (a ∷ [])))
last_same (x ∷ xs) (y ∷ ys) a b e =
    let rest : xs ++ a ∷ [] ≡ ys ++ b ∷ [] = cc in
    last_same xs ys a b rest

ends_at : (xs : List Answer) (n : ℕ) (a : Answer) → n + 1 ≡ length xs → slice_get xs n ≡ Some a → (front : List Answer) × (xs ≡ front ++ a ∷ [])
ends_at [] n a count is = absurd (cc)
ends_at (x ∷ []) zero a count is =
    let same : x ≡ a = cc in
    ([], ap (λ y. y ∷ []) same)
ends_at (x ∷ []) (suc n) a count is = absurd (omega (arith, count))
ends_at (x ∷ y ∷ xs) zero a count is = absurd (omega (arith, count))
ends_at (x ∷ y ∷ xs) (suc n) a count is =
    let rest = ends_at (y ∷ xs) n a (omega (arith, count)) is in
    (x ∷ rest.0, ap (λ ys. x ∷ ys) rest.1)

-- a list ends in its last item
pub ends_so : (xs : List Answer) (a : Answer) → slice_get xs (length xs - 1) ≡ Some a → (front : List Answer) × (xs ≡ front ++ a ∷ [])
ends_so [] a is = absurd (cc)
ends_so (x ∷ xs) a is =
    let n : length (x ∷ xs) - 1 ≡ length xs = omega arith in
    ends_at (x ∷ xs) (length xs) a (omega arith) (ap (slice_get (x ∷ xs)) (sym n) ∙ is)

same_server : (s t : Server) → s.requests ≡ t.requests → s.bytes ≡ t.bytes → s.loaded ≡ t.loaded → s ≡ t
same_server s t n b l =
    ap (λ k. record { requests = k; bytes = s.bytes; loaded = s.loaded }) n
    ∙ ap (λ k. record { requests = t.requests; bytes = k; loaded = s.loaded }) b
    ∙ ap (λ k. record { requests = t.requests; bytes = t.bytes; loaded = k }) l

module _ (limits : Limits) where
  pub keeps_none : Keeps limits [] []
  unfolding alone
  keeps_none more = refl

  module _ (asked sent : List Request) (keeps : Keeps limits asked sent) where
    abbrev pub behind : Server
    behind = server_behind limits sent

    -- behind a QUIT nothing is answered
    module _ (quit : has_quit sent ≡ true) where
      pub over_still : (more : List Request) → alone limits (asked ++ more) ≡ alone limits asked
      over_still more =
          keeps more ∙ ap (λ q. alone limits asked ++ (if q then [] else answers_from limits behind more)) quit ∙ append-nil (alone limits asked)

      pub keeps_over : (some : List Request) → Keeps limits (asked ++ some) sent
      keeps_over some more =
          ap (alone limits) (append_assoc asked some more)
          ∙ over_still (some ++ more)
          ∙ sym (append-nil (alone limits asked))
          ∙ ap (λ xs. xs ++ []) (sym (over_still some))
          ∙ ap (λ q. alone limits (asked ++ some) ++ (if q then [] else answers_from limits behind more)) (sym quit)

    module _ (r : Request) (going : has_quit sent ≡ false) where
      abbrev pub reply : Reply
      reply = replied limits behind.loaded r

      goes : (more : List Request) → alone limits (asked ++ more) ≡ alone limits asked ++ answers_from limits behind more
      goes more = keeps more ∙ ap (λ q. alone limits asked ++ (if q then [] else answers_from limits behind more)) going

      -- it fits, and is answered
      module _ (room : fits (length sent) (bytes_of sent) r ≡ true) where
        only : answers_from limits behind (r ∷ []) ≡ reply.answer ∷ []
        only = by (is_quit r) refl
          where
            by : (q : Bool) → is_quit r ≡ q → answers_from limits behind (r ∷ []) ≡ reply.answer ∷ []
            by true e = last_one limits behind r [] room e
            by false e = goes_on limits behind r [] room e

        pub taken_one : alone limits (asked ++ r ∷ []) ≡ alone limits asked ++ reply.answer ∷ []
        taken_one = goes (r ∷ []) ∙ ap (λ xs. alone limits asked ++ xs) only

        next_is : kept behind r reply.loaded ≡ server_behind limits (sent ++ r ∷ [])
        next_is =
            same_server (kept behind r reply.loaded) (server_behind limits (sent ++ r ∷ []))
            (sym (length-append sent (r ∷ [])))
            (sym (bytes_append sent r))
            (sym (loaded_append limits None sent (r ∷ [])))

        rest_is : (more : List Request) → answers_from limits behind (r ∷ more) ≡ reply.answer ∷ answers_behind limits (sent ++ r ∷ []) more
        rest_is more = by (is_quit r) refl
          where
            by : (q : Bool) → is_quit r ≡ q → answers_from limits behind (r ∷ more) ≡ reply.answer ∷ answers_behind limits (sent ++ r ∷ []) more
            by true e =
                last_one limits behind r more room e
                ∙ ap (λ q. reply.answer ∷ (if q then [] else answers_from limits (server_behind limits (sent ++ r ∷ [])) more)) (sym (last_quits sent r going ∙ e))
            by false e =
                goes_on limits behind r more room e
                ∙ ap (λ s. reply.answer ∷ answers_from limits s more) next_is
                ∙ ap (λ q. reply.answer ∷ (if q then [] else answers_from limits (server_behind limits (sent ++ r ∷ [])) more)) (sym (last_quits sent r going ∙ e))

        pub keeps_taken : Keeps limits (asked ++ r ∷ []) (sent ++ r ∷ [])
        keeps_taken more =
            ap (alone limits) (append_assoc asked (r ∷ []) more)
            ∙ goes (r ∷ more)
            ∙ ap (λ xs. alone limits asked ++ xs) (rest_is more)
            ∙ sym (append_assoc (alone limits asked) (reply.answer ∷ []) (answers_behind limits (sent ++ r ∷ []) more))
            ∙ ap (λ xs. xs ++ answers_behind limits (sent ++ r ∷ []) more) (sym taken_one)

      -- it does not fit, and is not kept
      module _ (none : fits (length sent) (bytes_of sent) r ≡ false) where
        pub full_one : alone limits (asked ++ r ∷ []) ≡ alone limits asked ++ Refused refusal.JournalFull ∷ []
        full_one = goes (r ∷ []) ∙ ap (λ xs. alone limits asked ++ xs) (not_kept limits behind r [] none)

        pub keeps_full : Keeps limits (asked ++ r ∷ []) sent
        keeps_full more =
            ap (alone limits) (append_assoc asked (r ∷ []) more)
            ∙ goes (r ∷ more)
            ∙ ap (λ xs. alone limits asked ++ xs) (not_kept limits behind r more none)
            ∙ sym (append_assoc (alone limits asked) (Refused refusal.JournalFull ∷ []) (answers_from limits behind more))
            ∙ ap (λ xs. xs ++ answers_from limits behind more) (sym full_one)
            ∙ ap (λ q. alone limits (asked ++ r ∷ []) ++ (if q then [] else answers_from limits behind more)) (sym going)
