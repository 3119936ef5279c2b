-- What holds of a result that is handed on.
use Rattle.std.specs.Prelude.{IfOk, OnOk, Result, Ok, Err}

pub on_ok : {T E : Type 0} (r : Result T E) (P Q : Type 0) → OnOk r P → (P → Q) → OnOk r Q
on_ok (Ok x) P Q h f = f h
on_ok (Err e) P Q h f = tt

pub if_ok : {T E : Type 0} (r : Result T E) (P Q : T → Type 0) → IfOk r P → ((x : T) → P x → Q x) → IfOk r Q
if_ok (Ok x) P Q h f = f x h
if_ok (Err e) P Q h f = tt

-- what holds whatever is told
pub if_on_ok : {T E : Type 0} (r : Result T E) (P Q : Type 0) → OnOk r P → (P → Q) → IfOk r (λ x. Q)
if_on_ok (Ok x) P Q h f = f h
if_on_ok (Err e) P Q h f = tt
