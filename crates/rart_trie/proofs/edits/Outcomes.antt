-- Facts on one outcome of a result, from others on the same outcome.
use Rattle.std.proofs.Common.{Result, Ok, Err, Option, Some, None}
use Rattle.std.specs.Prelude.{OnOk, OnErr, OnSome, IfNone, IfOk, IfErr}

module _ {A E : Type 0} where
  pub err-any : {P : Type 0} (r : Result A E) → P → OnErr r P
  err-any (Ok x) p = tt
  err-any (Err x) p = p

  pub on_err_from : {P Q : Type 0} (r : Result A E) → OnErr r P → (P → Q) → OnErr r Q
  on_err_from (Ok x) p f = tt
  on_err_from (Err e) p f = f p

  pub if_ok_weaker : {P Q : A → Type 0} (r : Result A E) → ((x : A) → P x → Q x) → IfOk r P → IfOk r Q
  if_ok_weaker (Ok x) f p = f x p
  if_ok_weaker (Err x) f p = tt

  pub if_ok_weaker_on : {P : Type 0} {Q R : A → Type 0} (r : Result A E) → ((x : A) → P → Q x → R x) → OnOk r P
      → IfOk r Q → IfOk r R
  if_ok_weaker_on (Ok x) f p q = f x p q
  if_ok_weaker_on (Err x) f p q = tt

  pub if_err_weaker : {P Q : E → Type 0} (r : Result A E) → ((e : E) → P e → Q e) → IfErr r P → IfErr r Q
  if_err_weaker (Ok x) f p = tt
  if_err_weaker (Err e) f p = f e p

  pub on_ok_both : {P Q R : Type 0} (r : Result A E) → (P → Q → R) → OnOk r P → OnOk r Q → OnOk r R
  on_ok_both (Ok x) f p q = f p q
  on_ok_both (Err x) f p q = tt

pub on_some_weaker : {A P Q : Type 0} (r : Option A) → (P → Q) → OnSome r P → OnSome r Q
on_some_weaker None f p = tt
on_some_weaker (Some x) f p = f p

pub if_none_weaker : {A P Q : Type 0} (r : Option A) → (P → Q) → IfNone r P → IfNone r Q
if_none_weaker None f p = f p
if_none_weaker (Some x) f p = tt
