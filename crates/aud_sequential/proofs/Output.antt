-- A text that does not fit into the output.
use Rattle.std.proofs.Common.{◌≡◌, ℕ, ◌+◌, ◌-◌, ◌<◌, ◌≤◌, List, ◌++◌, length, take, true, false, refl, sym, ap, ◌∙◌, arith, length-append}
use Rattle.std.proofs.Math.Seq.{take-append-add}
use Rattle.std.specs.Prelude.{nat_le}
use Rattle.aud_text.specs.declared.limits.TheConstants.{OUTPUT}
use Rattle.aud_meaning.specs.Ties.Part.{Part}
use Rattle.aud_code.specs.Places.{Spot}
use Rattle.aud_sequential.specs.Steps.{written}

cut_at : (limit : ℕ) (out text : List ℕ) → length out ≤ limit → take limit (out ++ text) ≡ out ++ take (limit - length out) text
cut_at limit out text le =
    let e : limit ≡ length out + (limit - length out) = omega arith in
    ap (λ n. take n (out ++ text)) e ∙ take-append-add out text (limit - length out)

pub put_cut : (text : List ℕ) (p : Part Spot) (out : List ℕ) → length p.output ≤ OUTPUT → OUTPUT - length p.output < length text → out ≡ p.output ++ take (OUTPUT - length p.output) text → record p { output = out; cut = true } ≡ written text p
put_cut text p out le lt is =
    let whole = p.output ++ text in
    let long : nat_le (length whole) OUTPUT ≡ false = simp length-append (grind arith) in
    ap (λ o. record p { output = o; cut = true }) (is ∙ sym (cut_at OUTPUT p.output text le)) ∙ rw long refl
