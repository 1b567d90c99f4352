-- Units with one neighbor in their district.
use Rattle.std.proofs.Common.{◌≡◌, ℕ, zero, suc, ◌<◌, Bool, true, cond, not, ◌&&◌, ◌==◌, List, get_or, sym, ap, subst, inl, inr, arith}
use Rattle.std.proofs.lemmas.Bool.{cases_Bool, cases_eq, ne_eqb, and_from, not_from_false}
use Rattle.audit_model.specs.Below.{count_below}
use Rattle.audit_model.specs.District.{in_district}
use Rattle.audit_model.specs.Graph.{Graph, IsGraph, IsIn}
use Rattle.audit_model.specs.Local.{is_mate, stays_behind, MayLeave}
use Rattle.audit_model.specs.Path.{HasPath, IsConnected}
use Rattle.audit_model.proofs.Below.{count_below_without, count_below_zero}
use Rattle.audit_model.proofs.Paths.{path_one}
use Rattle.district_sums.proofs.Moving.{count_below_more}
use Rattle.contig.proofs.Growing.{mate_stays}
use Rattle.contig.proofs.Leaving.{leaves}
use Rattle.district_sums.specs.Following.{count_near}

-- if a count is not 0, some number passes
pub some_counted : (n : ℕ) (test : ℕ → Bool) → 0 < count_below n test → (k : ℕ) × (k < n) × (test k ≡ true)
some_counted zero test l = absurd (omega (arith, l, count_below_zero test))
some_counted (suc n) test l = elim (cases_Bool (test n)) [
  | inl passes ↦ (n, omega arith, passes)
  | inr fails ↦
      let none : cond {A = ℕ} (test n) 1 0 ≡ 0 = ap (λ b. cond {A = ℕ} b 1 0) fails in
      let rest = some_counted n test (omega (arith, l, none, count_below_more n test)) in
      (rest.0, omega (arith, rest.1), rest.2)
]

-- if a count is 1, all numbers that pass are equal
pub one_counted : (n : ℕ) (test : ℕ → Bool) (x y : ℕ) → count_below n test ≡ 1 → x < n → y < n → test x ≡ true → test y ≡ true → x ≡ y
one_counted n test x y one lx ly px py = elim (cases_eq x y) [
  | inl e ↦ e
  | inr off ↦
      let without = count_below_without n test x lx px in
      let other = count_below_without n (λ k. test k && not (k == x)) y ly
      (and_from (test y) (not (y == x)) py (not_from_false (y == x) (ne_eqb y x (λ e. off (sym e))))) in
      absurd (omega (arith, without, other, one))
]

-- a unit with one neighbor in its district may leave it
pub one_leaves : (g : Graph) (plan : List ℕ) (u : ℕ) → IsGraph g → u < g.units → IsConnected g (in_district plan (get_or plan u 0))
    → count_near g plan u (get_or plan u 0) ≡ 1 → MayLeave g plan u
one_leaves g plan u graph lt connected one =
    let test : ℕ → Bool = is_mate g plan u in
    let mate = some_counted g.units test (omega (arith, one)) in
    let i = mate_stays g plan u mate.0 graph (mate.1, mate.2) in
    let same : (v : ℕ) → IsIn g (is_mate g plan u) v → v ≡ mate.0 = λ v iv. one_counted g.units test v mate.0 one iv.0 mate.1 iv.1 mate.2 in
    leaves g plan u graph lt connected mate.0 i
    (λ a b ia ib. subst (λ t. HasPath g (stays_behind plan u) t b) (sym (same a ia))
    (subst (λ t. HasPath g (stays_behind plan u) mate.0 t) (sym (same b ib)) (path_one g (stays_behind plan u) mate.0 i)))
