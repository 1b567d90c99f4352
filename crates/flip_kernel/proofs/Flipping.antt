-- The plan after a draw, and the draw that leads back, by the proposal.
use Rattle.std.proofs.Common.{◌≡◌, ℕ, ◌+◌, ◌-◌, ◌*◌, ◌/◌, ◌%◌, ◌<◌, Bool, true, false, cond, List, length, get_or, set, Option, Some, None, refl, sym, ap, ◌∙◌, inl, inr, arith}
use Rattle.std.specs.Prelude.{◌↔◌, ◌&&◌, nat_lt, bytes_eq, IsTrue, IsFalse}
use Rattle.std.proofs.Math.Nat.{mod-le}
use Rattle.std.proofs.lemmas.Bool.{cases_Bool, cases_eq, cond-true, cond-false, false_from_ne_true, both_ways, and_from, and_parts}
use Rattle.std.proofs.lemmas.List.{set-get_or, get_or-set_same}
use Rattle.std.proofs.lemmas.Nat.{div-add-mod'}
use Rattle.std.proofs.lemmas.Slice.Eq.{bytes_eq-Decides}
use Rattle.audit_model.specs.Job.{Job}
use Rattle.audit_model.specs.Plan.{is_legal}
use Rattle.audit_model.specs.Proposal.{counted_draws, proposal}
use Rattle.audit_model.specs.Weight.{is_taken}
use Rattle.audit_model.specs.Step.{changed, next, turned_back, mirrored}
use Rattle.audit_model.proofs.Legal.{legal_passes, passes_legal}
use Rattle.flip_kernel.specs.ChainState.{ChainState, IsMove, IsStep}

-- a choice between two equal plans
both_same : (b : Bool) (plan : List ℕ) → cond b plan plan ≡ plan
both_same true plan = refl
both_same false plan = refl

-- a proposal, as the draw's place in its block
record IsPlace (units districts draw unit district : ℕ) : Type 0 where
  same_unit : draw % (units * districts) / districts ≡ unit
  same_district : draw % (units * districts) % districts ≡ district

-- a proposed pair has the draw's place in its block
is_place : (units districts draw unit district : ℕ) → proposal units districts draw ≡ Some (unit, district) → IsPlace units districts draw unit district
is_place units districts draw unit district is = elim (cases_Bool (nat_lt draw (counted_draws units districts))) [
  | inl counted ↦
      let other : ◌≡◌ {A = Option (ℕ × ℕ)} (Some (draw % (units * districts) / districts, draw % (units * districts) % districts)) (Some (unit, district)) =
      sym (cond-true _ _ _ counted) ∙ is in
      let same : ◌≡◌ {A = ℕ × ℕ} (draw % (units * districts) / districts, draw % (units * districts) % districts) (unit, district) = cc in
      record { same_unit = ap (λ (p : ℕ × ℕ). p.0) same; same_district = ap (λ (p : ℕ × ℕ). p.1) same }
  | inr unchanged ↦ let other : ◌≡◌ {A = Option (ℕ × ℕ)} None (Some (unit, district)) = sym (cond-false _ _ _ unchanged) ∙ is in absurd (cc)
]

-- the pair's place is the draw's place in its block
pub proposed_place : (units districts draw unit district : ℕ) → proposal units districts draw ≡ Some (unit, district)
    → unit * districts + district ≡ draw % (units * districts)
proposed_place units districts draw unit district is =
    let place = is_place units districts draw unit district is in
    ap (λ (u : ℕ). u * districts + district) (sym place.same_unit) ∙ ap (λ (d : ℕ). draw % (units * districts) / districts * districts + d) (sym place.same_district)
    ∙ div-add-mod' (draw % (units * districts)) districts

module _ (job : Job) (plan : List ℕ) (draw : ℕ) where
  next_at : (o : Option (ℕ × ℕ)) → proposal job.graph.units job.districts draw ≡ o
      → next job plan draw ≡ cond (is_taken job plan (changed plan o) draw && is_legal job (changed plan o)) (changed plan o) plan
  unfolding next
  next_at o is = ap (λ p. cond (is_taken job plan (changed plan p) draw && is_legal job (changed plan p)) (changed plan p) plan) is

  -- without a proposal, the plan stays
  pub next_rejected : proposal job.graph.units job.districts draw ≡ None → next job plan draw ≡ plan
  next_rejected is = next_at None is ∙ both_same (is_taken job plan plan draw && is_legal job plan) plan

  -- a proposed step changes the plan
  pub next_moved : (unit district : ℕ) → proposal job.graph.units job.districts draw ≡ Some (unit, district) → IsStep job plan draw unit district
      → next job plan draw ≡ set plan unit district
  next_moved unit district is step =
      next_at (Some (unit, district)) is
      ∙ cond-true _ _ _ (and_from (is_taken job plan (set plan unit district) draw) (is_legal job (set plan unit district)) step.taken (legal_passes job (set plan unit district) step.move.legal))

  -- if the proposal is not a step, the plan stays
  pub next_stays : (unit district : ℕ) → proposal job.graph.units job.districts draw ≡ Some (unit, district) → (IsStep job plan draw unit district → ⊥)
      → next job plan draw ≡ plan
  next_stays unit district is still = elim (cases_eq (get_or plan unit 0) district) [
    | inl here ↦
        let same : set plan unit district ≡ plan = ap (λ (d : ℕ). set plan unit d) (sym here) ∙ set-get_or plan unit 0 in
        next_at (Some (unit, district)) is ∙ ap (λ (p : List ℕ). cond (is_taken job plan p draw && is_legal job p) p plan) same
        ∙ both_same (is_taken job plan plan draw && is_legal job plan) plan
    | inr elsewhere ↦
        let after : List ℕ = set plan unit district in
        next_at (Some (unit, district)) is
        ∙ cond-false _ _ _ (false_from_ne_true (is_taken job plan after draw && is_legal job after)
        (λ passes.
        let both = and_parts (is_taken job plan after draw) (is_legal job after) passes in
        still (record { move = record { elsewhere = elsewhere; legal = passes_legal job after both.1 }; taken = both.0 })))
  ]

  -- a move changes the plan
  pub move_differs : (unit district : ℕ) → unit < length plan → IsMove job plan unit district → set plan unit district ≡ plan → ⊥
  move_differs unit district l move same =
      move.elsewhere (sym (ap (λ (p : List ℕ). get_or p unit 0) same) ∙ get_or-set_same plan unit district 0 l)

  pub mirrored_moved : (unit district : ℕ) → proposal job.graph.units job.districts draw ≡ Some (unit, district) → (next job plan draw ≡ plan → ⊥)
      → mirrored job plan draw ≡ draw - draw % (job.graph.units * job.districts) + (unit * job.districts + get_or plan unit 0)
  unfolding mirrored
  mirrored_moved unit district is differs =
      cond-false _ _ _ (false_from_ne_true (bytes_eq (next job plan draw) plan) (λ same. differs ((bytes_eq-Decides (next job plan draw) plan).0 same)))
      ∙ ap (λ o. turned_back job.graph.units job.districts plan draw o) is

  -- the mirrored draw, computed from the two districts
  pub mirrored_turned : (unit district : ℕ) → proposal job.graph.units job.districts draw ≡ Some (unit, district) → (next job plan draw ≡ plan → ⊥)
      → mirrored job plan draw ≡ draw - district + get_or plan unit 0
  mirrored_turned unit district is differs =
      let place = proposed_place job.graph.units job.districts draw unit district is in
      omega (arith, mirrored_moved unit district is differs, place, mod-le draw (job.graph.units * job.districts))

-- the result of a flip that is made exactly if it is a step
module _ (job : Job) (old new : ChainState) (draw unit district : ℕ) (result : Bool)
    (is : proposal job.graph.units job.districts draw ≡ Some (unit, district)) (inside : unit < length old.plan)
    (moves : IsTrue result ↔ IsStep job old.plan draw unit district)
    (moved : IsTrue result → new ≡ record { job = old.job; plan = set old.plan unit district }) (unchanged : IsFalse result → new ≡ old) where
  pub flip_next : new ≡ record { job = old.job; plan = next job old.plan draw }
  flip_next = elim (cases_Bool result) [
    | inl yes-moved ↦
        moved yes-moved
        ∙ ap (λ (p : List ℕ). (let h : ChainState = record { job = old.job; plan = p } in h)) (sym (next_moved job old.plan draw unit district is (moves.0 yes-moved)))
    | inr not-moved ↦
        unchanged not-moved
        ∙ ap (λ (p : List ℕ). (let h : ChainState = record { job = old.job; plan = p } in h))
        (sym (next_stays job old.plan draw unit district is (λ step. both_ways result not-moved (moves.1 step))))
  ]

  pub flip_rejected : IsFalse result ↔ (new.plan ≡ old.plan)
  flip_rejected = (
    λ not-moved. ap (λ (h : ChainState). h.plan) (unchanged not-moved),
    λ same. false_from_ne_true result (λ yes-moved. move_differs job old.plan draw unit district inside (moves.0 yes-moved).move
        (sym (ap (λ (h : ChainState). h.plan) (moved yes-moved)) ∙ same)),
  )
