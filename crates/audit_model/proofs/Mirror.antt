-- The mirrored draw leads back, and the chain is reversible.
use Rattle.std.proofs.Common.{◌≡◌, ℕ, suc, zero, ◌+◌, ◌-◌, ◌*◌, ◌/◌, ◌%◌, ◌^◌, ◌<◌, ◌≤◌, Bool, true, false, cond, List, set, Option, Some, None, refl, sym, ap, ◌∙◌, subst, inl, inr, arith}
use Rattle.std.specs.Prelude.{◌⊎◌, ◌&&◌, ◌||◌, nat_lt, slice_index, bytes_eq}
use Rattle.std.proofs.Math.Nat.{mul_comm}
use Rattle.std.proofs.lemmas.Bool.{cases_Bool, cases_eq, cond-true, cond-false, ltb-true, lt-ltb, both_ways, and_parts, and_from, eq-eqb}
use Rattle.std.proofs.lemmas.List.{set-set, set-get_or, get_or-set_same}
use Rattle.std.proofs.lemmas.Nat.{div-add-mod', mul-add-lt, div-mul-add, mod-mul-add, div_below, mod_below}
use Rattle.std.proofs.lemmas.Slice.Eq.{bytes_eq-Decides}
use Rattle.audit_model.specs.Proposal.{counted_draws, proposal}
use Rattle.audit_model.specs.Job.{Job}
use Rattle.audit_model.specs.Plan.{IsLegal, cut_edges, is_legal}
use Rattle.audit_model.specs.Step.{changed, next, ways, turned_back, mirrored}
use Rattle.audit_model.specs.Trajectory.{visit}
use Rattle.audit_model.specs.Weight.{factors, is_taken, largest_change, passes}
use Rattle.audit_model.proofs.Below.{count_below_into}
use Rattle.audit_model.proofs.Legal.{legal_passes, passes_legal}
use Rattle.audit_model.proofs.Numbers.{place_below}
use Rattle.audit_model.proofs.ListFacts.{bytes_other}

-- ---- draws of one block

-- a draw minus its place is the first draw of its block
block : (draw size : ℕ) → draw - draw % size ≡ draw / size * size
block draw size = omega (arith, div-add-mod' draw size)

-- another place of a whole block is in it
pub same_block_below : (draw size blocks place : ℕ) → 0 < size → draw < blocks * size → place < size → draw / size * size + place < blocks * size
same_block_below draw size blocks place pos l p =
    subst (λ m. draw / size * size + place < m) (mul_comm size blocks) (mul-add-lt (draw / size) size place blocks (div_below draw size blocks pos l) p)

-- ---- the weight

-- with a weight of 64, every draw takes every change
pub even_takes : (job : Job) (from to : List ℕ) (draw : ℕ) → job.setting.cut_weight ≡ 256 → is_taken job from to draw ≡ true
unfolding is_taken
even_takes job from to draw even = ap (λ b. b || passes (factors job.setting.cut_weight (cut_edges job.graph from) (cut_edges job.graph to - cut_edges job.graph from)) (job.graph.units * job.districts) (largest_change (job.graph.units * job.districts)) draw
    (cut_edges job.graph to - cut_edges job.graph from) (cut_edges job.graph from - cut_edges job.graph to)) (eq-eqb job.setting.cut_weight 256 even)

-- ---- the proposal of a draw

-- a draw that does not count proposes nothing
proposal_none : (units districts draw : ℕ) → nat_lt draw (counted_draws units districts) ≡ false → proposal units districts draw ≡ None
proposal_none units districts draw h = cond-false _ _ _ h

-- a draw that counts proposes the pair of its remainder
pub proposal_some : (units districts draw : ℕ) → draw < counted_draws units districts
    → proposal units districts draw ≡ Some (draw % (units * districts) / districts, draw % (units * districts) % districts)
proposal_some units districts draw h = cond-true _ _ _ (lt-ltb draw (counted_draws units districts) h)

module _ (job : Job) where
  unfoldable pub size : ℕ
  size = job.graph.units * job.districts

  unfoldable pub unit_of : ℕ → ℕ
  unit_of draw = draw % (job.graph.units * job.districts) / job.districts

  unfoldable pub district_of : ℕ → ℕ
  district_of draw = draw % (job.graph.units * job.districts) % job.districts

  pub next_at : (plan : List ℕ) (draw : ℕ) (o : Option (ℕ × ℕ)) → proposal job.graph.units job.districts draw ≡ o
      → next job plan draw ≡ cond (is_taken job plan (changed plan o) draw && is_legal job (changed plan o)) (changed plan o) plan
  unfolding next
  next_at plan draw o h = ap (λ p. cond (is_taken job plan (changed plan p) draw && is_legal job (changed plan p)) (changed plan p) plan) h

  -- a draw that changes the plan
  pub record Move (plan : List ℕ) (draw : ℕ) : Type 0 where
    pub counted : draw < counted_draws job.graph.units job.districts
    pub taken : is_taken job plan (set plan (unit_of draw) (district_of draw)) draw ≡ true
    pub legal : is_legal job (set plan (unit_of draw) (district_of draw)) ≡ true
    pub after : next job plan draw ≡ set plan (unit_of draw) (district_of draw)

  pub cases_next : (plan : List ℕ) (draw : ℕ) → (next job plan draw ≡ plan) ⊎ Move plan draw
  unfolding unit_of district_of
  cases_next plan draw = elim (cases_Bool (nat_lt draw (counted_draws job.graph.units job.districts))) [
    | inr rejected ↦ inl (next_at plan draw None (proposal_none _ _ draw rejected) ∙ both_same (is_taken job plan plan draw && is_legal job plan))
    | inl counted ↦
        let below = ltb-true draw (counted_draws job.graph.units job.districts) counted in
        let at = next_at plan draw (Some (unit_of draw, district_of draw)) (proposal_some _ _ draw below) in
        let to : List ℕ = set plan (unit_of draw) (district_of draw) in
        elim (cases_Bool (is_taken job plan to draw && is_legal job to)) [
          | inr rejected ↦ inl (at ∙ cond-false _ _ _ rejected)
          | inl passes ↦
              let both = and_parts (is_taken job plan to draw) (is_legal job to) passes in
              inr (record { counted = below; taken = both.0; legal = both.1; after = at ∙ cond-true _ _ _ passes })
        ]
  ]
    where
      both_same : (b : Bool) → cond b plan plan ≡ plan
      both_same true = refl
      both_same false = refl

  -- a step from a legal plan leads to a legal plan
  pub next_stays_legal : (plan : List ℕ) (draw : ℕ) → IsLegal job plan → IsLegal job (next job plan draw)
  next_stays_legal plan draw h = elim (cases_next plan draw) [
    | inl same ↦ subst (λ p. IsLegal job p) (sym same) h
    | inr move ↦ subst (λ p. IsLegal job p) (sym move.after) (passes_legal job (set plan (unit_of draw) (district_of draw)) move.legal)
  ]

-- the second factor of a positive product is positive
pub second_above_zero : (a b : ℕ) → 0 < a * b → 0 < b
second_above_zero a b h = elim (cases_eq b 0) [
  | inl e ↦ let none : a * b ≡ a * 0 = ap (λ m. a * m) e in absurd (omega (arith, none))
  | inr off ↦ omega (arith, off)
]

module _ (job : Job) (plan : List ℕ) (draw : ℕ) (legal : IsLegal job plan) (move : Move job plan draw) where
  blocks : ℕ
  blocks = 2 ^ 64 / size job

  -- the place in the block that leads back
  unfoldable pub back_place : ℕ
  back_place = unit_of job draw * job.districts + slice_index plan (unit_of job draw)

  unfoldable pub back : ℕ
  back = draw / size job * size job + back_place

  pub size_above_zero : 0 < size job
  unfolding size
  size_above_zero = second_above_zero (2 ^ 64 / size job) (size job) (omega (arith, move.counted))

  districts_above_zero : 0 < job.districts
  unfolding size
  districts_above_zero = second_above_zero job.graph.units job.districts size_above_zero

  unit_below : unit_of job draw < job.graph.units
  unfolding unit_of size
  unit_below = div_below (draw % size job) job.districts job.graph.units districts_above_zero (mod_below draw (size job) size_above_zero)

  old_below : slice_index plan (unit_of job draw) < job.districts
  old_below = legal.in_range (unit_of job draw) unit_below

  pub back_place_below : back_place < size job
  unfolding back_place size
  back_place_below = place_below (unit_of job draw) (slice_index plan (unit_of job draw)) job.graph.units job.districts unit_below old_below

  back_counted : back < counted_draws job.graph.units job.districts
  unfolding back size
  back_counted = same_block_below draw (size job) (2 ^ 64 / size job) back_place size_above_zero move.counted back_place_below

  back_rest : back % size job ≡ back_place
  unfolding back
  back_rest = mod-mul-add (draw / size job) (size job) back_place back_place_below

  pub back_block : back / size job ≡ draw / size job
  unfolding back
  back_block = div-mul-add (draw / size job) (size job) back_place back_place_below

  back_unit : unit_of job back ≡ unit_of job draw
  unfolding unit_of size back_place
  back_unit = ap (λ r. r / job.districts) back_rest ∙ div-mul-add (unit_of job draw) job.districts (slice_index plan (unit_of job draw)) old_below

  back_district : district_of job back ≡ slice_index plan (unit_of job draw)
  unfolding district_of size back_place
  back_district = ap (λ r. r % job.districts) back_rest ∙ mod-mul-add (unit_of job draw) job.districts (slice_index plan (unit_of job draw)) old_below

  -- moving the unit back gives the old plan
  undone : set (set plan (unit_of job draw) (district_of job draw)) (unit_of job back) (district_of job back) ≡ plan
  undone =
      ap (λ u. set (set plan (unit_of job draw) (district_of job draw)) u (district_of job back)) back_unit
      ∙ ap (λ d. set (set plan (unit_of job draw) (district_of job draw)) (unit_of job draw) d) back_district
      ∙ set-set plan (unit_of job draw) (district_of job draw) (slice_index plan (unit_of job draw))
      ∙ set-get_or plan (unit_of job draw) 0

  back_leads_back : is_taken job (set plan (unit_of job draw) (district_of job draw)) plan back ≡ true
      → next job (set plan (unit_of job draw) (district_of job draw)) back ≡ plan
  unfolding unit_of district_of
  back_leads_back taken =
      next_at job (set plan (unit_of job draw) (district_of job draw)) back (Some (unit_of job back, district_of job back))
      (proposal_some job.graph.units job.districts back back_counted)
      ∙ cond-true _ _ _ (ap (λ p. is_taken job (set plan (unit_of job draw) (district_of job draw)) p back && is_legal job p) undone
      ∙ and_from (is_taken job (set plan (unit_of job draw) (district_of job draw)) plan back) (is_legal job plan) taken (legal_passes job plan legal))
      ∙ undone

  -- if the step changes the plan, the mirrored draw is the one that leads back
  pub mirrored_is_back : bytes_eq (next job plan draw) plan ≡ false → mirrored job plan draw ≡ back
  unfolding mirrored back back_place size unit_of
  mirrored_is_back changes =
      cond-false _ _ _ changes
      ∙ ap (λ o. turned_back job.graph.units job.districts plan draw o) (proposal_some job.graph.units job.districts draw move.counted)
      ∙ ap (λ first. first + back_place) (block draw (size job))

  -- mirroring again gives the draw
  back_of_back : back / size job * size job + (unit_of job back * job.districts + slice_index (set plan (unit_of job draw) (district_of job draw)) (unit_of job back)) ≡ draw
  unfolding unit_of district_of size
  back_of_back =
      ap (λ b. b * size job + (unit_of job back * job.districts + slice_index (set plan (unit_of job draw) (district_of job draw)) (unit_of job back))) back_block
      ∙ ap (λ u. draw / size job * size job + (u * job.districts + slice_index (set plan (unit_of job draw) (district_of job draw)) u)) back_unit
      ∙ ap (λ d. draw / size job * size job + (unit_of job draw * job.districts + d))
      (get_or-set_same plan (unit_of job draw) (district_of job draw) 0 (subst (λ n. unit_of job draw < n) (sym legal.complete) unit_below))
      ∙ ap (λ r. draw / size job * size job + r) (div-add-mod' (draw % size job) job.districts)
      ∙ div-add-mod' draw (size job)

-- if the step changes nothing, the mirrored draw is the draw
pub mirrored_stays : (job : Job) (plan : List ℕ) (draw : ℕ) → next job plan draw ≡ plan → mirrored job plan draw ≡ draw
unfolding mirrored
mirrored_stays job plan draw same = cond-true _ _ _ ((bytes_eq-Decides (next job plan draw) plan).1 same)

-- if the step changes the plan, mirroring turns it back
mirrored_moves : (job : Job) (plan : List ℕ) (draw : ℕ) → bytes_eq (next job plan draw) plan ≡ false
    → mirrored job plan draw ≡ turned_back job.graph.units job.districts plan draw (proposal job.graph.units job.districts draw)
unfolding mirrored
mirrored_moves job plan draw changes = cond-false _ _ _ changes

module _ (job : Job) (plan : List ℕ) (draw : ℕ) (legal : IsLegal job plan)
    (returns : bytes_eq (next job plan draw) plan ≡ false → is_taken job (next job plan draw) plan (mirrored job plan draw) ≡ true) where
  -- the mirrored draw leads back if it takes the change back
  pub next-mirrored : next job (next job plan draw) (mirrored job plan draw) ≡ plan
  next-mirrored = elim (cases_Bool (bytes_eq (next job plan draw) plan)) [
    | inl stays ↦
        let same : next job plan draw ≡ plan = (bytes_eq-Decides (next job plan draw) plan).0 stays in
        ap (λ w. next job (next job plan draw) w) (mirrored_stays job plan draw same) ∙ ap (λ p. next job p draw) same ∙ same
    | inr changes ↦ elim (cases_next job plan draw) [
      | inl same ↦ absurd (both_ways (bytes_eq (next job plan draw) plan) changes ((bytes_eq-Decides (next job plan draw) plan).1 same))
      | inr move ↦
          ap (λ w. next job (next job plan draw) w) (mirrored_is_back job plan draw legal move changes)
          ∙ ap (λ p. next job p (back job plan draw legal move)) move.after
          ∙ back_leads_back job plan draw legal move
          (subst (λ p. is_taken job p plan (back job plan draw legal move) ≡ true) move.after
          (subst (λ w. is_taken job (next job plan draw) plan w ≡ true) (mirrored_is_back job plan draw legal move changes) (returns changes)))
    ]
  ]

  -- mirroring twice gives the draw
  pub mirrored-mirrored : mirrored job (next job plan draw) (mirrored job plan draw) ≡ draw
  unfolding back back_place unit_of size
  mirrored-mirrored = elim (cases_Bool (bytes_eq (next job plan draw) plan)) [
    | inl stays ↦
        let same : next job plan draw ≡ plan = (bytes_eq-Decides (next job plan draw) plan).0 stays in
        ap (λ w. mirrored job (next job plan draw) w) (mirrored_stays job plan draw same) ∙ ap (λ p. mirrored job p draw) same ∙ mirrored_stays job plan draw same
    | inr changes ↦ elim (cases_next job plan draw) [
      | inl same ↦ absurd (both_ways (bytes_eq (next job plan draw) plan) changes ((bytes_eq-Decides (next job plan draw) plan).1 same))
      | inr move ↦
          let after : List ℕ = next job plan draw in
          let w : ℕ = mirrored job plan draw in
          let w_is : w ≡ back job plan draw legal move = mirrored_is_back job plan draw legal move changes in
          let leads : next job after w ≡ plan = next-mirrored in
          let differs : plan ≡ after → ⊥ = λ e. both_ways (bytes_eq after plan) changes ((bytes_eq-Decides after plan).1 (sym e)) in
          let changes_back : bytes_eq (next job after w) after ≡ false = bytes_other (next job after w) after (λ e. differs (sym leads ∙ e)) in
          mirrored_moves job after w changes_back
          ∙ ap (λ v. turned_back job.graph.units job.districts after v (proposal job.graph.units job.districts v)) w_is
          ∙ ap (λ o. turned_back job.graph.units job.districts after (back job plan draw legal move) o)
          (proposal_some job.graph.units job.districts (back job plan draw legal move) (back_counted job plan draw legal move))
          ∙ ap (λ p. turned_back job.graph.units job.districts p (back job plan draw legal move)
          (Some (unit_of job (back job plan draw legal move), district_of job (back job plan draw legal move)))) move.after
          ∙ ap (λ first. first + (unit_of job (back job plan draw legal move) * job.districts
          + slice_index (set plan (unit_of job draw) (district_of job draw)) (unit_of job (back job plan draw legal move)))) (block (back job plan draw legal move) (size job))
          ∙ back_of_back job plan draw legal move
    ]
  ]

module _ (job : Job) (plan : List ℕ) (draw : ℕ) (legal : IsLegal job plan) where
  -- both draws are in one block
  pub mirrored_block : mirrored job plan draw / (job.graph.units * job.districts) ≡ draw / (job.graph.units * job.districts)
  unfolding size
  mirrored_block = elim (cases_Bool (bytes_eq (next job plan draw) plan)) [
    | inl stays ↦ ap (λ w. w / size job) (mirrored_stays job plan draw ((bytes_eq-Decides (next job plan draw) plan).0 stays))
    | inr changes ↦ elim (cases_next job plan draw) [
      | inl same ↦ absurd (both_ways (bytes_eq (next job plan draw) plan) changes ((bytes_eq-Decides (next job plan draw) plan).1 same))
      | inr move ↦ ap (λ w. w / size job) (mirrored_is_back job plan draw legal move changes) ∙ back_block job plan draw legal move
    ]
  ]

  -- the mirrored draw is below 2 ^ 64
  pub mirrored_below : draw < 2 ^ 64 → mirrored job plan draw < 2 ^ 64
  unfolding size
  mirrored_below l = elim (cases_Bool (bytes_eq (next job plan draw) plan)) [
    | inl stays ↦ subst (λ w. w < 2 ^ 64) (sym (mirrored_stays job plan draw ((bytes_eq-Decides (next job plan draw) plan).0 stays))) l
    | inr changes ↦ elim (cases_next job plan draw) [
      | inl same ↦ absurd (both_ways (bytes_eq (next job plan draw) plan) changes ((bytes_eq-Decides (next job plan draw) plan).1 same))
      | inr move ↦ subst (λ w. w < 2 ^ 64) (sym (mirrored_is_back job plan draw legal move changes))
          (omega (arith, back_counted job plan draw legal move, div-add-mod' (2 ^ 64) (job.graph.units * job.districts)))
    ]
  ]

-- at most as many ways lead to a plan as back
ways_le : (job : Job) (from to : List ℕ) → job.setting.cut_weight ≡ 256 → IsLegal job from → IsLegal job to → ways job from to ≤ ways job to from
unfolding ways
ways_le job from to even legal_from legal_to =
    count_below_into (2 ^ 64) (2 ^ 64) (λ draw. bytes_eq (next job from draw) to) (λ draw. bytes_eq (next job to draw) from) (mirrored job from)
    (λ draw l h. (
      mirrored_below job from draw legal_from l,
      (bytes_eq-Decides (next job to (mirrored job from draw)) from).1
          (ap (λ p. next job p (mirrored job from draw)) (sym (leads draw h)) ∙ next-mirrored job from draw legal_from (λ _. even_takes job (next job from draw) from (mirrored job from draw) even)),
    ))
    (λ j k lj lk hj hk e. sym (again j hj) ∙ ap (λ w. mirrored job to w) e ∙ again k hk)
  where
    leads : (draw : ℕ) → bytes_eq (next job from draw) to ≡ true → next job from draw ≡ to
    leads draw h = (bytes_eq-Decides (next job from draw) to).0 h

    again : (draw : ℕ) → bytes_eq (next job from draw) to ≡ true → mirrored job to (mirrored job from draw) ≡ draw
    again draw h = ap (λ p. mirrored job p (mirrored job from draw)) (sym (leads draw h)) ∙ mirrored-mirrored job from draw legal_from (λ _. even_takes job (next job from draw) from (mirrored job from draw) even)

-- equally many draws lead from one legal plan to another as back
pub ways_symmetric : (job : Job) (from to : List ℕ) → job.setting.cut_weight ≡ 256 → IsLegal job from → IsLegal job to → ways job from to ≡ ways job to from
ways_symmetric job from to even legal_from legal_to = omega (arith, ways_le job from to even legal_from legal_to, ways_le job to from even legal_to legal_from)

-- each plan visited from a legal plan is legal
pub visit_stays_legal : (job : Job) (draws : ℕ → ℕ) (plan : List ℕ) (i : ℕ) → IsLegal job plan → IsLegal job (visit job draws plan i)
unfolding visit
visit_stays_legal job draws plan zero h = h
visit_stays_legal job draws plan (suc i) h = next_stays_legal job (visit job draws plan i) (draws i) (visit_stays_legal job draws plan i h)
