-- From one clause on a result to another.
use Rattle.std.proofs.Common.{◌≡◌, Result, Ok, Err, refl, sym, subst}
use Rattle.std.specs.Prelude.{IsErr}
use Rattle.std.specs.Result.{IfOk, MatchResult}

-- weakening the claims on both kinds of result
pub match_map : {A E : Type 0} → (r : Result A E) (P R : A → Type 0) (Q S : E → Type 0) → MatchResult r P Q → ((x : A) → P x → R x) → ((e : E) → Q e → S e) → MatchResult r R S
match_map (Ok x) P R Q S h ok err = ok x h
match_map (Err e) P R Q S h ok err = err e h

-- an error that meets its claim meets the clause
pub err_at : {A E : Type 0} → (r : Result A E) (e : E) (P : A → Type 0) (Q : E → Type 0) → r ≡ Err e → Q e → MatchResult r P Q
err_at r e P Q is h = subst (λ t. MatchResult t P Q) (sym is) h

-- a clause on both kinds of result gives one on success
pub ok_from : {A E : Type 0} → (r : Result A E) (P R : A → Type 0) (Q : E → Type 0) → MatchResult r P Q → ((x : A) → P x → R x) → IfOk r R
ok_from (Ok x) P R Q h ok = ok x h
ok_from (Err e) P R Q h ok = tt

-- weakening a claim on success
pub ok_map : {A E : Type 0} → (r : Result A E) (P R : A → Type 0) → IfOk r P → ((x : A) → P x → R x) → IfOk r R
ok_map (Ok x) P R h ok = ok x h
ok_map (Err e) P R h ok = tt

-- an error is an error, whatever its value
pub err_is_err : {A B : Type 0} (r : Result A B) (f : B) → r ≡ Err f → IsErr r
err_is_err (Ok x) f e = cc
err_is_err (Err g) f e = refl

-- a success is no error
pub ok_is_no_err : {A B : Type 0} (r : Result A B) (x : A) → r ≡ Ok x → IsErr r → ⊥
ok_is_no_err (Ok y) x e h = cc
ok_is_no_err (Err g) x e h = cc
