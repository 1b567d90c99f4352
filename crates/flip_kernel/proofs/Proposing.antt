-- The proposal of a draw, and pairs that are not open.
use Rattle.std.proofs.Common.{◌≡◌, ℕ, ◌+◌, ◌*◌, ◌/◌, ◌%◌, ◌^◌, ◌<◌, Bool, true, false, List, Option, Some, None, sym, ap, ◌∙◌, subst, inl, inr, arith}
use Rattle.std.specs.Prelude.{nat_lt}
use Rattle.std.proofs.lemmas.Bool.{cases_Bool, cond-true, cond-false, both_ways}
use Rattle.std.proofs.lemmas.Nat.{div-add-mod', mod_below, div_below}
use Rattle.audit_model.specs.Job.{Job}
use Rattle.audit_model.specs.Proposal.{proposal}
use Rattle.audit_model.specs.Step.{next}
use Rattle.district_sums.specs.Following.{Following}
use Rattle.contig.specs.Counts.{Counted}
use Rattle.contig.specs.Table.{Faced}
use Rattle.flip_kernel.specs.declared.proposal.Pairs.{Pairs}
use Rattle.flip_kernel.specs.Blocks.{place_in}
use Rattle.flip_kernel.specs.ChainState.{IsUpToDate, ProposesOpen}
use Rattle.flip_kernel.specs.OpenPairs.{is_open}
use Rattle.flip_kernel.proofs.Flipping.{next_rejected, next_stays}
use Rattle.flip_kernel.proofs.Moves.{move_is_open}

-- a draw without a place proposes nothing
proposed_none : (units districts size draw : ℕ) → size ≡ units * districts → None ≡ place_in size draw → proposal units districts draw ≡ None
proposed_none units districts size draw is rejected = elim (cases_Bool (nat_lt draw (2 ^ 64 / size * size))) [
  | inl yes-counted ↦ let other : ◌≡◌ {A = Option ℕ} None (Some (draw % size)) = rejected ∙ cond-true _ _ _ yes-counted in absurd (cc)
  | inr not-counted ↦ cond-false _ _ _ (ap (λ (n : ℕ). nat_lt draw (2 ^ 64 / n * n)) (sym is) ∙ not-counted)
]

-- the place of a draw that has one
record IsPlaceOf (size draw found : ℕ) : Type 0 where
  counted : nat_lt draw (2 ^ 64 / size * size) ≡ true
  place : found ≡ draw % size

-- a draw's place is its remainder, and its block is whole
is_place_of : (size draw found : ℕ) → Some found ≡ place_in size draw → IsPlaceOf size draw found
is_place_of size draw found is = elim (cases_Bool (nat_lt draw (2 ^ 64 / size * size))) [
  | inl yes-counted ↦
      let same : ◌≡◌ {A = Option ℕ} (Some found) (Some (draw % size)) = is ∙ cond-true _ _ _ yes-counted in
      record { counted = yes-counted; place = cc }
  | inr not-counted ↦ let other : ◌≡◌ {A = Option ℕ} (Some found) None = is ∙ cond-false _ _ _ not-counted in absurd (cc)
]

-- a draw with a place proposes the pair there
proposed_some : (units districts size draw found : ℕ) → size ≡ units * districts → IsPlaceOf size draw found
    → proposal units districts draw ≡ Some (found / districts, found % districts)
proposed_some units districts size draw found is of =
    cond-true _ _ _ (ap (λ (n : ℕ). nat_lt draw (2 ^ 64 / n * n)) (sym is) ∙ of.counted)
    ∙ ap (λ (n : ℕ). Some (draw % n / districts, draw % n % districts)) (sym is)
    ∙ ap (λ (n : ℕ). Some (n / districts, n % districts)) (sym of.place)

module _ (job : Job) (plan : List ℕ) (sums : Following) (marks : ℕ) (table : List Bool) (pairs : Pairs) (low high : ℕ) (faced : Faced) (counted : Counted) (nearby : List ℕ)
    (current : IsUpToDate job plan sums marks table pairs low high faced counted nearby) (draw : ℕ) where
  -- a draw after the last whole block changes nothing
  pub still_rejected : None ≡ place_in pairs.count draw → next job plan draw ≡ plan
  still_rejected is = next_rejected job plan draw (proposed_none job.graph.units job.districts pairs.count draw current.numbers.count is)

  module _ (found : ℕ) (flag : Bool) (shown : (u d : ℕ) → u < job.graph.units → d < job.districts → found ≡ u * job.districts + d → flag ≡ is_open job.graph plan u d)
      (is : Some found ≡ place_in pairs.count draw) where
    found_below : found < job.graph.units * job.districts
    found_below =
        let place = (is_place_of pairs.count draw found is).place in
        omega (arith, place, mod_below draw pairs.count current.numbers.blocks.some, current.numbers.count)

    some_district : 0 < job.districts
    some_district = omega (arith, current.numbers.sound.within.input.two)

    unit_below : found / job.districts < job.graph.units
    unit_below = div_below found job.districts job.graph.units some_district found_below

    district_below : found % job.districts < job.districts
    district_below = mod_below found job.districts some_district

    flag_is : flag ≡ is_open job.graph plan (found / job.districts) (found % job.districts)
    flag_is = shown (found / job.districts) (found % job.districts) unit_below district_below (sym (div-add-mod' found job.districts))

    proposal_is : proposal job.graph.units job.districts draw ≡ Some (found / job.districts, found % job.districts)
    proposal_is = proposed_some job.graph.units job.districts pairs.count draw found current.numbers.count (is_place_of pairs.count draw found is)

    -- if the pair is not open, the plan stays
    still_closed : flag ≡ false → next job plan draw ≡ plan
    still_closed closed = next_stays job plan draw (found / job.districts) (found % job.districts) proposal_is
        (λ step. both_ways (is_open job.graph plan (found / job.districts) (found % job.districts)) (sym flag_is ∙ closed)
        (move_is_open job plan (found / job.districts) (found % job.districts) current.numbers.sound current.summed.legal unit_below district_below step.move.elsewhere step.move))

    -- if the pair is open, it is the proposed one
    pub is_proposed : (districts : ℕ) → districts ≡ job.districts → flag ≡ true → ProposesOpen job plan draw (found / districts) (found % districts)
    is_proposed districts same opened =
        subst (λ (n : ℕ). ProposesOpen job plan draw (found / n) (found % n)) (sym same)
        (record { sound = current.numbers.sound; proposed = proposal_is; unit_below = unit_below; inside = omega (arith, unit_below, current.summed.legal.complete); district_below = district_below; beside = sym flag_is ∙ opened })

  -- if the pair at a draw's remainder is not open, the plan stays
  pub closed_stays : (rest : ℕ) (flag : Bool) → ((u d : ℕ) → u < job.graph.units → d < job.districts → rest ≡ u * job.districts + d → flag ≡ is_open job.graph plan u d)
      → rest ≡ draw % pairs.count → flag ≡ false → next job plan draw ≡ plan
  closed_stays rest flag shown is closed = elim (cases_Bool (nat_lt draw (2 ^ 64 / pairs.count * pairs.count))) [
    | inl yes-counted ↦ still_closed rest flag shown (ap (λ (n : ℕ). Some n) is ∙ sym (cond-true _ _ _ yes-counted)) closed
    | inr not-counted ↦ still_rejected (sym (cond-false _ _ _ not-counted))
  ]
