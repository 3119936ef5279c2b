-- What `clap` makes of one argument, for a command whose only flag is `--solo`.
use Rattle.std.proofs.Common.{◌≡◌, ◌∙◌, ◌+◌, ◌||◌, ◌↔◌, ap, ap₂, eqb-true, refl, subst, sym, cond, not, true≢false, arith}
use Rattle.std.proofs.Common.{ℕ, suc, zero, Bool, true, false, List, [], ◌∷◌, length, take, codes, Option, Some, None, Result, Ok, Err, IfErr, IsErrAnd, is_some, IsTrue}
use Rattle.std.specs.Prelude.{◌==◌, slice_get, if◌then◌else◌, option_and_then, unwrap_or}
use Rattle.std.specs.Option.{option_map_or}
use Rattle.std.specs.Str.{bytes_eq, chars}
use Rattle.std.specs.List.{after_first, before_first, list_any, prefix_len}
use Rattle.std.proofs.lemmas.Slice.Eq.{bytes_eq-Decides}
use Rattle.clap.specs.Lexer.{long_of, long_of_rest, short_of, strip_byte}
use Rattle.clap.specs.Words.{AddsArg, App, HasMatchesOf, Rule, Shape, Text, app_of, built, found_of, is_simple, matches_of, new_app, new_rule, one_of, one_text, rule_of, takes, with_rule}
use Rattle.clap.specs.Simple.{on_top}
use Rattle.clap.specs.Walk.{Held, Step, after_flag, after_step, bundle_step, bundle_met, finished, idle, long_or_other, long_word, nothing_held}
use Rattle.clap.specs.Walk.{plain, short_or_plain, trailing, walk_from, word_met}
use Rattle.clap.specs.declared.builder.ArgAction.TheVariants.{SetTrue}
use Rattle.clap.specs.declared.builder.arg.Arg.{Arg}
use Rattle.clap.specs.declared.builder.command.Command.{Command}
use Rattle.clap.specs.declared.parser.matches.ArgMatches.{ArgMatches}
use Rattle.clap.specs.declared.error.ErrorKind.{ErrorKind}
use Rattle.clap.specs.declared.error.ErrorKind.TheVariants.{OutOfMemory}
use Rattle.clap.proofs.WalkLemmas.{one_text-rows}
use Rattle.clap.proofs.OnLiterals.{clap_on_literals}
use Rattle.aud_server.specs.declared.program.ProgramFault.{ProgramFault}
use Rattle.aud_server.specs.declared.program.ProgramFault.TheVariants.{Server}
use Rattle.aud_solo.specs.declared.serving.ServeFault.TheVariants as server
use Rattle.aud_server.specs.Program.{AsksSolo, of_kind}

abbrev pub solo : Text
solo = codes "solo"

abbrev pub flag : Rule
flag = record (new_rule solo) { long = Some solo; action = Some SetTrue }

abbrev pub without_help : Shape → Shape
without_help s = record s { disable_help_flag = true }

abbrev pub without_version : Shape → Shape
without_version s = record s { disable_version_flag = true }

abbrev pub app : App
app = with_rule (on_top without_version (on_top without_help (new_app (codes "aud")))) flag

abbrev pub flag_text : Text → Text → Option Text
flag_text name word = one_of solo (matches_of app (name ∷ word ∷ []))

-- the command that `is_solo` makes
pub app_of_command : (start help version command : Command) (a : Arg) → app_of start ≡ new_app (codes "aud")
    → app_of help ≡ on_top without_help (app_of start) → app_of version ≡ on_top without_version (app_of help)
    → rule_of a ≡ flag → a.global ≡ false → AddsArg version a command → app_of command ≡ app
app_of_command start help version command a new no_help no_version rule local added =
    added.shape local ∙ ap₂ with_rule (no_version ∙ ap (on_top without_version) (no_help ∙ ap (on_top without_help) new)) rule

pub app_is_simple : is_simple app ≡ true
unfolding clap_on_literals
app_is_simple = refl

pub takes_solo : (name : Text) → takes app (name ∷ codes "--solo" ∷ []) ≡ true
unfolding clap_on_literals
takes_solo name = refl

pub solo_is_true : (name : Text) → flag_text name (codes "--solo") ≡ Some (codes "true")
unfolding clap_on_literals
solo_is_true name = refl

-- ---- another argument leaves the flag as it is

abbrev flags : List Rule
flags = (built app).top.rules

-- what the flag says after a step
abbrev after : Text → Held × Step → Option Text
after word met = one_of solo (finished flags (after_step flags word (walk_from nothing_held) met.0 met.1).held)

is_after : (name word : Text) → flag_text name word ≡ after word (word_met flags [] false idle 1 word nothing_held)
unfolding clap_on_literals
is_after name word = refl

whole_name : (text : Text) → list_any (λ x. x == 61) text ≡ false → before_first (λ x. x == 61) text ≡ text
whole_name [] none = refl
whole_name (x ∷ xs) none = go (x == 61) none (whole_name xs)
  where
    go : (b : Bool) → (b || list_any (λ x. x == 61) xs) ≡ false → (list_any (λ x. x == 61) xs ≡ false → before_first (λ x. x == 61) xs ≡ xs)
        → take (cond (not b) (1 + prefix_len (λ x. not (x == 61)) xs) 0) (x ∷ xs) ≡ x ∷ xs
    go true e rest = absurd (true≢false e)
    go false e rest =
        let next : 1 + prefix_len (λ x. not (x == 61)) xs ≡ suc (prefix_len (λ x. not (x == 61)) xs) = omega arith in
        subst (λ n. take n (x ∷ xs) ≡ x ∷ xs) (sym next) (ap (λ l. x ∷ l) (rest e))

-- a word that begins with the byte c, from what is left of it
began : (c : ℕ) (word rest : Text) → strip_byte c word ≡ Some rest → word ≡ c ∷ rest
began c [] rest e = cc
began c (x ∷ xs) rest e = go (x == c) refl e
  where
    go : (b : Bool) → (x == c) ≡ b → (if b then Some xs else None) ≡ Some rest → ◌≡◌ {A = Text} (x ∷ xs) (c ∷ rest)
    go true at e =
        let same = eqb-true x c at in
        let left = ap (λ (o : Option Text). unwrap_or o []) e in
        ap₂ (λ (y : ℕ) (l : Text). y ∷ l) same left
    go false at e = cc

-- the name of a long flag, and whether a value is with it
abbrev parted : Bool → Text → Text × Option Text
parted b text = (before_first (λ x. x == 61) text, if b then Some (after_first (λ x. x == 61) text) else None)

valueless : (b : Bool) (text name : Text) → list_any (λ x. x == 61) text ≡ b → Some (parted b text) ≡ Some (name, None) → text ≡ name
valueless true text name at e =
    let bad : true ≡ false = ap (λ (o : Option (Text × Option Text)). option_map_or (λ p. is_some p.1) o false) e in
    absurd (true≢false bad)
valueless false text name at e = sym (whole_name text at) ∙ ap (λ (o : Option (Text × Option Text)). option_map_or (λ p. p.0) o []) e

named : (rest name : Text) → long_of_rest rest ≡ Some (name, None) → rest ≡ name
named [] name e = cc
named (x ∷ xs) name e = valueless (list_any (λ y. y == 61) (x ∷ xs)) (x ∷ xs) name refl e

-- the only word that names a long flag and no value is `--` and that name
long_word_is : (word name : Text) → long_of word ≡ Some (name, None) → word ≡ 45 ∷ 45 ∷ name
long_word_is word name e = first (strip_byte 45 word) refl e
  where
    second : (rest : Text) (o : Option Text) → strip_byte 45 rest ≡ o → option_and_then long_of_rest o ≡ Some (name, None) → rest ≡ 45 ∷ name
    second rest None at e = cc
    second rest (Some r) at e = began 45 rest r at ∙ ap (λ l. 45 ∷ l) (named r name e)

    first : (o : Option Text) → strip_byte 45 word ≡ o → option_and_then long_of_rest (option_and_then (strip_byte 45) o) ≡ Some (name, None) → word ≡ 45 ∷ 45 ∷ name
    first None at e = cc
    first (Some r) at e = began 45 word r at ∙ ap (λ l. 45 ∷ l) (second r (strip_byte 45 r) refl e)

abbrev unset : Option Text
unset = Some (codes "false")

-- no letter behind one hyphen is a flag
no_letter : (word : Text) (k : ℕ) (text : Text)
    → after word (after_flag flags idle word (bundle_met flags k text 0 plain nothing_held).0 (bundle_met flags k text 0 plain nothing_held).1) ≡ unset
unfolding bundle_met
no_letter word zero text = refl
no_letter word (suc k) text = go (slice_get (chars text) 0)
  where
    go : (o : Option ℕ)
        → let met = bundle_step flags o text 0 plain nothing_held (bundle_met flags k) in after word (after_flag flags idle word met.0 met.1) ≡ unset
    go None = refl
    go (Some x) = refl

not_long : (word : Text) (o : Option Text) → after word (short_or_plain flags idle word o nothing_held) ≡ unset
not_long word None = refl
not_long word (Some text) = no_letter word (length text) text

long : (word name : Text) (v : Option Text) → long_of word ≡ Some (name, v) → (word ≡ codes "--solo" → ⊥)
    → after word (long_word flags idle word name v nothing_held) ≡ unset
long word name v is other = go (bytes_eq solo name) refl v is
  where
    go : (b : Bool) → bytes_eq solo name ≡ b → (v : Option Text) → long_of word ≡ Some (name, v)
        → after word (long_word flags idle word name v nothing_held) ≡ unset
    go true e None is = absurd (other (long_word_is word name is ∙ ap (λ l. 45 ∷ 45 ∷ l) (sym ((bytes_eq-Decides solo name).0 e))))
    go true e (Some v) is = rw e refl
    go false e v is = rw e refl

-- an argument that is not `--solo` leaves the flag unset, where it is taken
pub other_is_false : (name word : Text) → (word ≡ codes "--solo" → ⊥) → flag_text name word ≡ Some (codes "false")
other_is_false name word other = is_after name word ∙ go (bytes_eq word (45 ∷ 45 ∷ []))
  where
    unnamed : (o : Option (Text × Option Text)) → long_of word ≡ o → after word (long_or_other flags idle word o nothing_held) ≡ unset
    unnamed None is = not_long word (short_of word)
    unnamed (Some p) is = long word p.0 p.1 is other

    go : (b : Bool) → after word (if b then (nothing_held, trailing 1) else long_or_other flags idle word (long_of word) nothing_held) ≡ unset
    go true = refl
    go false = unnamed (long_of word) refl

-- ---- two words

pub takes_asked : (words : List Text) → AsksSolo words → takes app words ≡ true
takes_asked [] asks = absurd asks
takes_asked (name ∷ []) asks = absurd asks
takes_asked (name ∷ word ∷ []) asks = ap (λ w. takes app (name ∷ w ∷ [])) asks ∙ takes_solo name
takes_asked (name ∷ word ∷ other ∷ rest) asks = absurd asks

pub flag_told : (words : List Text) (m : ArgMatches) (r : Bool) → length words ≡ 2 → HasMatchesOf app words m
    → (one_text (found_of m) solo ≡ Some (codes "true") → r ≡ true) → (one_text (found_of m) solo ≡ Some (codes "false") → r ≡ false)
    → IsTrue r ↔ AsksSolo words
flag_told [] m r two has if_set if_unset = absurd (omega arith)
flag_told (name ∷ []) m r two has if_set if_unset = absurd (omega arith)
flag_told (name ∷ word ∷ other ∷ rest) m r two has if_set if_unset = absurd (omega arith)
flag_told (name ∷ word ∷ []) m r two has if_set if_unset = go (bytes_eq word (codes "--solo")) refl
  where
    read : one_text (found_of m) solo ≡ flag_text name word
    read = one_text-rows (found_of m) solo ∙ ap (one_of solo) (has app_is_simple).0

    go : (b : Bool) → bytes_eq word (codes "--solo") ≡ b → IsTrue r ↔ (word ≡ codes "--solo")
    go true e =
        let same : word ≡ codes "--solo" = (bytes_eq-Decides word (codes "--solo")).0 e in
        let is : r ≡ true = if_set (read ∙ ap (flag_text name) same ∙ solo_is_true name) in
        ((λ _. same), (λ _. is))
    go false e =
        let other : word ≡ codes "--solo" → ⊥ = λ same. true≢false (sym ((bytes_eq-Decides word (codes "--solo")).1 same) ∙ e) in
        let is : r ≡ false = if_unset (read ∙ other_is_false name word other) in
        ((λ t. absurd (true≢false (sym t ∙ is))), (λ same. absurd (other same)))

pub memory_told : {T : Type 0} (r : Result T ProgramFault) (k : ErrorKind)
    → IsErrAnd r (λ e. e ≡ of_kind k) → k ≡ OutOfMemory → IfErr r (λ e. e ≡ Server server.Memory)
memory_told (Ok x) k is out = tt
memory_told (Err e) k is out = is ∙ ap of_kind out
