-- What a stream's bytes come to as more of them come.
use Rattle.std.proofs.Common.{◌≡◌, ℕ, zero, suc, ◌+◌, ◌<◌, List, [], ◌∷◌, ◌++◌, length, take, Option, None, refl, sym, ◌∙◌, ap, subst, subst₂, append_assoc, append-nil, arith}
use Rattle.aud_text.specs.declared.limits.TheConstants.{LINE, REQUEST_BYTES}
use Rattle.aud_bench.specs.declared.request.BadRequest.{BadRequest}
use Rattle.aud_bench.specs.declared.request.Request.{Request}
use Rattle.aud_lines.specs.Ties.Begun.{Begun, nothing, reading_of, requests_behind, IsShortLoad, IsBegun}
use Rattle.aud_lines.specs.Ties.Splits.{Splits}
use Rattle.aud_lines.specs.Lines.{lines_of}
use Rattle.aud_lines.specs.Requests.{Loads, command, Reading, Ready, Gathering, load_of, gathered, requests_from, requests}
use Rattle.aud_lines.specs.Ties.Pieces.{Piece, all_bytes, all_given, Feeds, PiecesLaw}
use Rattle.aud_lines.proofs.CutLaws.{front_not_ended, both_not_ended, front_short, line_same, source_same}
use Rattle.aud_lines.proofs.RequestLaws.{load_all, requests_first}

-- ---- what is begun

-- the requests of bytes are no request
pub no_request : {A : Type 0} (all : List ℕ → List Request) (bytes : List ℕ) (r : Request) (others : List Request) → all bytes ≡ [] → all (bytes ++ []) ≡ r ∷ others → A
no_request all bytes r others none some = absurd (omega (arith, ap length (sym none ∙ ap all (sym (append-nil bytes)) ∙ some)))

gathering : (n : ℕ) (source : List ℕ) (fault : Option BadRequest) (lines : List (List ℕ)) → 0 < n → gathered n source fault (requests_from lines) ≡ requests_from lines (Gathering n source fault)
gathering zero source fault lines some = absurd (omega arith)
gathering (suc n) source fault lines some = refl

-- no request is whole in a line that has not ended
pub none_whole : (begun : Begun) → lines_of begun.line ≡ [] → requests_behind begun [] ≡ []
unfolding requests_behind
none_whole begun e = ap (λ bytes. requests_from (lines_of bytes) begun.reading) (append-nil begun.line) ∙ ap (λ lines. requests_from lines begun.reading) e

pub begun_line : (bytes : List ℕ) → lines_of bytes ≡ [] → (more : List ℕ) → requests (bytes ++ more) ≡ requests_behind (record { reading = Ready; line = take (LINE + 1) bytes }) more
unfolding requests requests_behind
begun_line bytes e more = sym (line_same Ready bytes more e)

-- lines of a LOAD that has not all its lines
gathered_begun : (n : ℕ) (source : List ℕ) (fault : Option BadRequest) (rest : List ℕ) → 0 < n → lines_of rest ≡ [] → (more : List ℕ) →
    gathered n source fault (requests_from (lines_of (rest ++ more)))
    ≡ requests_behind (record { reading = Gathering n (take (REQUEST_BYTES + 1) source) fault; line = take (LINE + 1) rest }) more
unfolding requests_behind
gathered_begun n source fault rest some e more =
    sym (source_same n source fault (lines_of (rest ++ more)))
    ∙ gathering n (take (REQUEST_BYTES + 1) source) fault (lines_of (rest ++ more)) some
    ∙ sym (line_same (Gathering n (take (REQUEST_BYTES + 1) source) fault) rest more e)

-- a LOAD whose lines have not all come
module _ (k n : ℕ) (source : List ℕ) (fault : Option BadRequest) (bytes rest : List ℕ)
    (whole : (before more : List ℕ) → gathered k before None (requests_from (lines_of (bytes ++ more))) ≡ gathered n (before ++ source) fault (requests_from (lines_of (rest ++ more)))) where
  pub some_missing : gathered k [] None (requests_from (lines_of bytes)) ≡ [] → 0 < n
  some_missing none = by n refl
    where
      by : (m : ℕ) → n ≡ m → 0 < n
      by zero e = no_request (λ xs. gathered k [] None (requests_from (lines_of xs))) bytes _ _ none (load_all k n source fault bytes rest whole e [])
      by (suc m) e = omega (arith, e)

  pub load_begun : 0 < n → lines_of rest ≡ [] → (more : List ℕ) →
      gathered k [] None (requests_from (lines_of (bytes ++ more)))
      ≡ requests_behind (record { reading = Gathering n (take (REQUEST_BYTES + 1) source) fault; line = take (LINE + 1) rest }) more
  load_begun some e more = whole [] more ∙ gathered_begun n source fault rest some e more

-- where no request is whole, none is in a LOAD with which the bytes begin
pub behind_none : (bytes line behind : List ℕ) (k : ℕ) → ((more : List ℕ) → lines_of (bytes ++ more) ≡ line ∷ lines_of (behind ++ more)) → Loads k ≡ command line →
    requests bytes ≡ [] → gathered k [] None (requests_from (lines_of behind)) ≡ []
behind_none bytes line behind k first is none =
    ap (λ xs. gathered k [] None (requests_from (lines_of xs))) (sym (append-nil behind))
    ∙ sym (requests_first (bytes ++ []) line (behind ++ []) (Loads k) (first []) is)
    ∙ ap requests (append-nil bytes)
    ∙ none

-- bytes of a LOAD that is under way
module _ (k : ℕ) (source : List ℕ) (fault : Option BadRequest) (line bytes : List ℕ) (n : ℕ) (further : List ℕ) (next : Option BadRequest) (rest : List ℕ)
    (missing : 0 < k)
    (whole : (before more : List ℕ) → gathered k before fault (requests_from (lines_of ((line ++ bytes) ++ more))) ≡ gathered n (before ++ further) next (requests_from (lines_of (rest ++ more)))) where
  abbrev begun : Begun
  begun = record { reading = Gathering k source fault; line = line }

  led : (more : List ℕ) → requests_behind begun (bytes ++ more) ≡ gathered n (source ++ further) next (requests_from (lines_of (rest ++ more)))
  unfolding requests_behind
  led more =
      ap (λ xs. requests_from (lines_of xs) (Gathering k source fault)) (sym (append_assoc line bytes more))
      ∙ sym (gathering k source fault (lines_of ((line ++ bytes) ++ more)) missing)
      ∙ whole source more

  -- which has not come to its end
  pub load_goes_on : 0 < n → lines_of rest ≡ [] → Splits begun bytes [] (record { reading = Gathering n (take (REQUEST_BYTES + 1) (source ++ further)) next; line = take (LINE + 1) rest })
  load_goes_on some e = record {
    whole = λ more. led more ∙ gathered_begun n (source ++ further) next rest some e more;
    none = none_whole _ (front_not_ended (LINE + 1) rest e);
  }

  -- which is whole
  pub load_ends : n ≡ 0 → (given : List Request) (behind : Begun) →
      ((more : List ℕ) → (load_of (source ++ further) next ∷ []) ++ requests (rest ++ more) ≡ given ++ requests_behind behind more) →
      requests_behind behind [] ≡ [] → Splits begun bytes given behind
  unfolding requests
  load_ends none given behind goes_on begins_none = record {
    whole = λ more. led more ∙ ap (λ k. gathered k (source ++ further) next (requests_from (lines_of (rest ++ more)))) none ∙ goes_on more;
    none = begins_none;
  }

-- bytes behind a line that has not ended
pub line_goes_on : (line bytes : List ℕ) (given : List Request) (behind : Begun) →
    ((more : List ℕ) → [] ++ requests ((line ++ bytes) ++ more) ≡ given ++ requests_behind behind more) →
    requests_behind behind [] ≡ [] → Splits (record { reading = Ready; line = line }) bytes given behind
unfolding requests requests_behind
line_goes_on line bytes given behind goes_on begins_none = record {
  whole = λ more. ap requests (sym (append_assoc line bytes more)) ∙ goes_on more;
  none = begins_none;
}

-- bytes that end no line
pub line_longer : (begun : Begun) (bytes : List ℕ) → lines_of begun.line ≡ [] → lines_of bytes ≡ [] → Splits begun bytes [] (record begun { line = take (LINE + 1) (begun.line ++ bytes) })
unfolding requests_behind
line_longer begun bytes e f =
    let both = both_not_ended begun.line bytes e f in
    record {
      whole =
          λ more.
          ap (λ xs. requests_from (lines_of xs) begun.reading) (sym (append_assoc begun.line bytes more)) ∙ sym (line_same begun.reading (begun.line ++ bytes) more both);
      none = none_whole (record begun { line = take (LINE + 1) (begun.line ++ bytes) }) (front_not_ended (LINE + 1) (begun.line ++ bytes) both);
    }

-- ---- what is kept

pub line_kept : (reading : Reading) (line : List ℕ) → IsShortLoad reading → lines_of line ≡ [] → IsBegun (record { reading = reading; line = take (LINE + 1) line })
line_kept reading line short e = ((short, front_short (LINE + 1) line), front_not_ended (LINE + 1) line e)

pub load_kept : (n : ℕ) (source : List ℕ) (fault : Option BadRequest) (line : List ℕ) → lines_of line ≡ [] →
    IsBegun (record { reading = Gathering n (take (REQUEST_BYTES + 1) source) fault; line = take (LINE + 1) line })
load_kept n source fault line e = line_kept (Gathering n (take (REQUEST_BYTES + 1) source) fault) line (front_short (REQUEST_BYTES + 1) source) e

-- what is said of it, of how it lies in memory
pub as_load : (Says : Begun → Type 0) (n : ℕ) (kept source : List ℕ) (fault : Option BadRequest) (kept_line line : List ℕ) → 0 < n → kept ≡ take (REQUEST_BYTES + 1) source → kept_line ≡ take (LINE + 1) line →
    Says (record { reading = Gathering n (take (REQUEST_BYTES + 1) source) fault; line = take (LINE + 1) line }) → Says (record { reading = reading_of n kept fault; line = kept_line })
as_load Says zero kept source fault kept_line line some e f h = absurd (omega arith)
as_load Says (suc n) kept source fault kept_line line some e f h = subst₂ (λ s l. Says (record { reading = Gathering (suc n) s fault; line = l })) (sym e) (sym f) h

pub as_under_way : (Says : Begun → Type 0) (n : ℕ) (source : List ℕ) (fault : Option BadRequest) (line : List ℕ) → 0 < n →
    Says (record { reading = Gathering n source fault; line = line }) → Says (record { reading = reading_of n source fault; line = line })
as_under_way Says zero source fault line some h = absurd (omega arith)
as_under_way Says (suc n) source fault line some h = h

pub as_ready : (Says : Begun → Type 0) (n : ℕ) (source : List ℕ) (fault : Option BadRequest) (line : List ℕ) → n ≡ 0 →
    Says (record { reading = Ready; line = line }) → Says (record { reading = reading_of n source fault; line = line })
as_ready Says n source fault line none h = subst (λ k. Says (record { reading = reading_of k source fault; line = line })) (sym none) h

pub as_line : (Says : Begun → Type 0) (n : ℕ) (source : List ℕ) (fault : Option BadRequest) (kept_line line : List ℕ) → n ≡ 0 → kept_line ≡ take (LINE + 1) line →
    Says (record { reading = Ready; line = take (LINE + 1) line }) → Says (record { reading = reading_of n source fault; line = kept_line })
as_line Says n source fault kept_line line none f h = subst₂ (λ k l. Says (record { reading = reading_of k source fault; line = l })) (sym none) (sym f) h

-- ---- piece after piece

-- what is given for a piece stands behind what was given before
pub fed_more : (before piece : List ℕ) (feed next : Begun) (asked given : List Request) →
    ((more : List ℕ) → requests (before ++ more) ≡ asked ++ requests_behind feed more) → Splits feed piece given next →
    (more : List ℕ) → requests ((before ++ piece) ++ more) ≡ (asked ++ given) ++ requests_behind next more
fed_more before piece feed next asked given so_far split more =
    ap requests (append_assoc before piece more)
    ∙ so_far (piece ++ more)
    ∙ ap (λ rs. asked ++ rs) (split.whole more)
    ∙ sym (append_assoc asked given (requests_behind next more))

-- with nothing behind the bytes, the requests given are theirs
pub fed_all : (begun : Begun) (bytes : List ℕ) (rest : Begun) (given : List Request) → Splits begun bytes given rest → requests_behind begun bytes ≡ given
fed_all begun bytes rest given split =
    ap (requests_behind begun) (sym (append-nil bytes))
    ∙ split.whole []
    ∙ ap (λ rs. given ++ rs) split.none
    ∙ append-nil given

-- nothing has come yet
pub of_nothing : (more : List ℕ) → requests_behind nothing more ≡ requests more
unfolding requests requests_behind
of_nothing more = refl

pieces_behind : (before : List ℕ) (feed : Begun) (asked : List Request) (pieces : List Piece) (rest : Begun) →
    ((more : List ℕ) → requests (before ++ more) ≡ asked ++ requests_behind feed more) → requests_behind feed [] ≡ [] → Feeds feed pieces rest →
    Splits nothing (before ++ all_bytes pieces) (asked ++ all_given pieces) rest
pieces_behind before feed asked [] rest so_far none is = record {
  whole =
      λ more.
      of_nothing ((before ++ []) ++ more)
      ∙ ap (λ xs. requests (xs ++ more)) (append-nil before)
      ∙ so_far more
      ∙ ap (λ b. asked ++ requests_behind b more) (sym is)
      ∙ ap (λ rs. rs ++ requests_behind rest more) (sym (append-nil asked));
  none = ap (λ b. requests_behind b []) is ∙ none;
}
pieces_behind before feed asked (piece ∷ pieces) rest so_far none (next, split, others) =
    let behind = pieces_behind (before ++ piece.bytes) next (asked ++ piece.given) pieces rest (fed_more before piece.bytes feed next asked piece.given so_far split) split.none others in
    subst₂ (λ xs rs. Splits nothing xs rs rest) (append_assoc before piece.bytes (all_bytes pieces)) (append_assoc asked piece.given (all_given pieces)) behind

pub pieces_law : PiecesLaw
pieces_law pieces rest fed =
    let split = pieces_behind [] nothing [] pieces rest (λ more. sym (of_nothing more)) (none_whole nothing refl) fed in
    (sym (fed_all nothing (all_bytes pieces) rest (all_given pieces) split) ∙ of_nothing (all_bytes pieces), split)
