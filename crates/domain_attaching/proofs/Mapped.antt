-- What is so at Ok, or at Err, is another so.
use Rattle.std.proofs.Common.{Result, Ok, Err, IfErr, IfOk}

pub ok_too : {A E : Type 0} (r : Result A E) (P Q : A → Type 0) → ((x : A) → P x → Q x) → IfOk r P → IfOk r Q
ok_too (Ok x) P Q on is = on x is
ok_too (Err e) P Q on is = tt

pub err_too : {A E : Type 0} (r : Result A E) (P Q : E → Type 0) → ((e : E) → P e → Q e) → IfErr r P → IfErr r Q
err_too (Ok x) P Q on is = tt
err_too (Err e) P Q on is = on e is

-- two things at once
pub ok_both : {A E : Type 0} (r : Result A E) (P Q S : A → Type 0) → ((x : A) → P x → Q x → S x) → IfOk r P → IfOk r Q → IfOk r S
ok_both (Ok x) P Q S on one other = on x one other
ok_both (Err e) P Q S on one other = tt
