-- What holds of a result that is Ok.
use Rattle.std.proofs.Common.{Result, Ok, Err}
use Rattle.std.specs.Prelude.{OnOk}

pub on-ok-one : {T E P Q : Type 0} (r : Result T E) → OnOk r P → (P → Q) → OnOk r Q
on-ok-one (Ok x) p f = f p
on-ok-one (Err e) p f = tt

pub on-ok-two : {T E P Q R : Type 0} (r : Result T E) → OnOk r P → OnOk r Q → (P → Q → R) → OnOk r R
on-ok-two (Ok x) p q f = f p q
on-ok-two (Err e) p q f = tt

pub on-ok-three : {T E P Q R S : Type 0} (r : Result T E) → OnOk r P → OnOk r Q → OnOk r R → (P → Q → R → S) → OnOk r S
on-ok-three (Ok x) p q s f = f p q s
on-ok-three (Err e) p q s f = tt
