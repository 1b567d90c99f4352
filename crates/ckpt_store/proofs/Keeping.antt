-- Saves in turn keep the newest slot from before or make a newer one.
use Rattle.std.proofs.Common.{◌≡◌, ℕ, zero, suc, ◌+◌, ◌-◌, ◌%◌, ◌<◌, ◌⊎◌, Bool, true, false, cond, List, [], ◌∷◌, length, take, Option, Some, None, option_map, refl, sym, ap, ap₂, ◌∙◌, subst, inl, inr, arith}
use Rattle.std.specs.Prelude.{◌==◌, IsTrue}
use Rattle.std.specs.List.{All, list_all}
use Rattle.std.proofs.lemmas.Bool.{cases_lt}
use Rattle.std.proofs.lemmas.List.{take_all}
use Rattle.std.proofs.lemmas.List.Elements.{All-cons, All-nil}
use Rattle.audit_model.specs.Pair.{Pair, Stored, stored}
use Rattle.audit_model.specs.Attempts.{Try}
use Rattle.audit_model.specs.declared.outcome.Outcome.{Outcome}
use Rattle.audit_model.specs.Job.{Job}
use Rattle.audit_model.specs.Run.{fits}
use Rattle.audit_statement.specs.Checkpoint.{IsCheckpoint, checkpoint}
use Rattle.audit_statement.specs.Slots.{IsAfterStop, Slot, generation_after, generation_of, newest_of, place_beside, slot_at, slot_of, newest_for, place_for}
use Rattle.audit_statement.specs.Histories.{AreCarriedOut, AreInTurn, HasFailed, IsCarriedOut, IsEnded, IsLatest, IsNotValid, IsSaveAt, KeepsNewest, bytes_at, newest_bytes, stopped_in}
use Rattle.ckpt_store.specs.Laws.{SavesKeepTheNewest, IsSavedAs}
use Rattle.ckpt_store.proofs.Prefixes.{cut_is_broken}
use Rattle.ckpt_store.proofs.Turns.{place_by_generations, place_of, saved_slots_are_newest}

-- ---- the place and the newest

-- the generation of the slot that is not at the place
abbrev beside_of : ℕ → Option ℕ → Option ℕ → Option ℕ
beside_of zero first second = second
beside_of (suc n) first second = first

abbrev number_if : ℕ → Option ℕ → Option ℕ
number_if n generation = option_map (λ (_ : ℕ). n) generation

-- of two valid slots, the newest is the one beside the place of the next save
newest_by_turn : (g h : ℕ) (follows : Bool) → let at : ℕ × ℕ = cond follows (0, (h + 1) % 3) (1, (g + 1) % 3) in
    cond follows (Some 1) (Some 0) ≡ number_if (1 - at.0) (beside_of at.0 (Some g) (Some h))
newest_by_turn g h true = refl
newest_by_turn g h false = refl

-- the newest slot is the one that is not at the place, if that is valid
newest_by_place : (first second : Option ℕ) → let at = place_of first second in newest_of first second ≡ number_if (1 - at.0) (beside_of at.0 first second)
newest_by_place None None = refl
newest_by_place None (Some h) = refl
newest_by_place (Some g) None = refl
newest_by_place (Some g) (Some h) = newest_by_turn g h (h == (g + 1) % 3)

-- the place is slot 0 or slot 1
below_two : (g h : ℕ) (follows : Bool) → let at : ℕ × ℕ = cond follows (0, (h + 1) % 3) (1, (g + 1) % 3) in at.0 < 2
below_two g h true = omega arith
below_two g h false = omega arith

-- the place is slot 0 or slot 1, whatever the slots are
place_below : (first second : Option ℕ) → (place_of first second).0 < 2
place_below None None = omega arith
place_below None (Some h) = omega arith
place_below (Some g) None = omega arith
place_below (Some g) (Some h) = below_two g h (h == (g + 1) % 3)

-- if slot 0 is not valid, slot 1 is the newest if it is valid
alone_first : (g : Option ℕ) → newest_of None g ≡ number_if 1 g
alone_first None = refl
alone_first (Some g) = refl

-- if slot 1 is not valid, slot 0 is the newest if it is valid
alone_second : (g : Option ℕ) → newest_of g None ≡ number_if 0 g
alone_second None = refl
alone_second (Some g) = refl

-- equal slots have equal newest bytes
bytes_where : (p q : Pair) (n : ℕ) (g : Option ℕ) → stored p n ≡ stored q n → bytes_at p (number_if n g) ≡ bytes_at q (number_if n g)
bytes_where p q n None same = refl
bytes_where p q n (Some g) same = same

module _ (job : Job) (digest : List ℕ) where
  abbrev slot : Stored → Slot
  slot s = slot_of job digest s

  abbrev gen : Stored → Option ℕ
  gen s = generation_of (slot_of job digest s)

  abbrev newest : Pair → Stored
  newest p = newest_bytes job digest p

  -- the place as a function of the generations
  at_place : (p : Pair) (number generation : ℕ) → place_for job digest p ≡ (number, generation) → place_of (gen p.zero_slot) (gen p.one_slot) ≡ (number, generation)
  at_place p number generation is = sym (place_by_generations (slot p.zero_slot) (slot p.one_slot)) ∙ is

  number_below : (p : Pair) (number generation : ℕ) → place_for job digest p ≡ (number, generation) → number < 2
  number_below p number generation is =
      subst (λ (at : ℕ × ℕ). at.0 < 2) (at_place p number generation is) (place_below (gen p.zero_slot) (gen p.one_slot))

  newest_is : (p : Pair) (number generation : ℕ) → place_for job digest p ≡ (number, generation)
      → newest_for job digest p ≡ number_if (1 - number) (beside_of number (gen p.zero_slot) (gen p.one_slot))
  newest_is p number generation is =
      subst (λ (at : ℕ × ℕ). newest_for job digest p ≡ number_if (1 - at.0) (beside_of at.0 (gen p.zero_slot) (gen p.one_slot)))
      (at_place p number generation is) (newest_by_place (gen p.zero_slot) (gen p.one_slot))

  -- ---- the effect of a write at the place on the newest slot

  -- the newest slot after a write that is not valid
  corrupted : (base p : Pair) (number generation : ℕ) → number < 2 → place_for job digest base ≡ (number, generation)
      → stored p (1 - number) ≡ stored base (1 - number) → gen (stored p number) ≡ None → newest p ≡ newest base
  corrupted base p zero generation below at beside none =
      let of_base = newest_is base 0 generation at in
      let of_p : newest_for job digest p ≡ number_if 1 (gen base.one_slot) = ap₂ newest_of none (ap gen beside) ∙ alone_first (gen base.one_slot) in
      ap (bytes_at p) of_p ∙ bytes_where p base 1 (gen base.one_slot) beside ∙ ap (bytes_at base) (sym of_base)
  corrupted base p (suc zero) generation below at beside none =
      let of_base = newest_is base 1 generation at in
      let of_p : newest_for job digest p ≡ number_if 0 (gen base.zero_slot) = ap₂ newest_of (ap gen beside) none ∙ alone_second (gen base.zero_slot) in
      ap (bytes_at p) of_p ∙ bytes_where p base 0 (gen base.zero_slot) beside ∙ ap (bytes_at base) (sym of_base)
  corrupted base p (suc (suc n)) generation below at beside none = absurd (omega (arith, below))

  -- both slots are unchanged
  both_same : (p q : Pair) (number : ℕ) → number < 2 → stored q (1 - number) ≡ stored p (1 - number) → stored q number ≡ stored p number → q ≡ p
  both_same p q zero below beside here = λ k. record { zero_slot = here k; one_slot = beside k }
  both_same p q (suc zero) below beside here = λ k. record { zero_slot = beside k; one_slot = here k }
  both_same p q (suc (suc n)) below beside here = absurd (omega (arith, below))

  slot_at_is : (p : Pair) (number : ℕ) → slot_at (slot p.zero_slot) (slot p.one_slot) number ≡ slot (stored p number)
  slot_at_is p zero = refl
  slot_at_is p (suc n) = refl

  -- the newest slot after a valid checkpoint
  module _ (base p : Pair) (number generation : ℕ) (at : place_for job digest base ≡ (number, generation)) (beside : stored p (1 - number) ≡ stored base (1 - number))
      (version : ℕ) (outcomes : List Outcome) (sound : IsCheckpoint (checkpoint version digest generation outcomes) version digest generation outcomes) (fit : IsTrue (list_all (fits job) outcomes))
      (whole : stored p number ≡ Some (checkpoint version digest generation outcomes)) where
    abbrev saved : IsSavedAs job version digest number generation outcomes p
    saved = saved_slots_are_newest job version digest base p number generation outcomes at sound fit whole beside

    pub written : newest p ≡ Some (checkpoint version digest generation outcomes)
    written = ap (bytes_at p) saved.newest ∙ whole

    pub next_place : place_for job digest p ≡ (1 - number, (generation + 1) % 3)
    next_place =
        ap (place_beside (slot p.zero_slot) (slot p.one_slot)) saved.newest
        ∙ ap (λ (g : Option ℕ). (1 - number, generation_after g)) (ap generation_of (slot_at_is p number ∙ saved.slot))

  -- ---- one save

  beside_stop : (number : ℕ) (p q : Pair) → number < 2 → IsAfterStop number p.zero_slot p.one_slot q.zero_slot q.one_slot → stored q (1 - number) ≡ stored p (1 - number)
  beside_stop zero p q below stop = stop
  beside_stop (suc zero) p q below stop = stop
  beside_stop (suc (suc n)) p q below stop = absurd (omega (arith, below))

  -- the place is that of the first slots, and no save has succeeded since
  record Stands (base p : Pair) (number generation : ℕ) : Type 0 where
    at : place_for job digest base ≡ (number, generation)
    beside : stored p (1 - number) ≡ stored base (1 - number)

  -- the newest slot after more saves
  abbrev Ends : Pair → Pair → List Try → Pair → Type 0
  Ends base p carried after =
      (All HasFailed carried × ((newest after ≡ newest p) ⊎ (newest after ≡ newest base)))
      ⊎ ((bytes : List ℕ) × IsLatest carried bytes × (newest after ≡ Some bytes))

  -- the effect of a failed save on the newest slot
  abbrev Steps : Pair → Pair → Pair → List ℕ → Type 0
  Steps base p m bytes = (newest m ≡ newest p) ⊎ (newest m ≡ newest base) ⊎ (newest m ≡ Some bytes)

  more_latest : (c : Try) (rest : List Try) (bytes : List ℕ) → IsLatest rest bytes → IsLatest (c ∷ rest) bytes
  more_latest c rest bytes l = record { earlier = c ∷ l.earlier; save = l.save; later = l.later; split = ap (λ (xs : List Try). c ∷ xs) l.split; failed = l.failed; same = l.same }

  this_latest : (c : Try) (rest : List Try) (bytes : List ℕ) → All HasFailed rest → c.bytes ≡ bytes → IsLatest (c ∷ rest) bytes
  this_latest c rest bytes failed same = record { earlier = []; save = c; later = rest; split = refl; failed = failed; same = same }

  module _ (base p m : Pair) (number generation : ℕ) (c : Try) (s : Stands base p number generation) (save : IsSaveAt job digest number generation c)
      (beside : stored m (1 - number) ≡ stored p (1 - number)) where
    abbrev bytes : List ℕ
    bytes = checkpoint save.version digest generation save.outcomes

    below : number < 2
    below = number_below base number generation s.at

    whole_step : stored m number ≡ Some bytes → newest m ≡ Some bytes
    whole_step whole = written base m number generation s.at (beside ∙ s.beside) save.version save.outcomes save.sound save.fit whole

    spoiled_step : gen (stored m number) ≡ None → newest m ≡ newest base
    spoiled_step none = corrupted base m number generation below s.at (beside ∙ s.beside) none

    first_step : (n : ℕ) → stored m number ≡ Some (take n bytes) → Steps base p m bytes
    first_step n is = elim (cases_lt n (length bytes)) [
      | inl short ↦ inr (inl (spoiled_step (ap gen is ∙ ap generation_of (cut_is_broken job bytes save.version digest generation save.outcomes n save.sound short).1)))
      | inr long ↦ inr (inr (whole_step (is ∙ ap (λ (xs : List ℕ). Some xs) (take_all n bytes long))))
    ]

    failed_step : IsEnded IsNotValid job digest false (stored p number) bytes (stored m number) → Steps base p m bytes
    failed_step (inl same) = inl (ap newest (both_same p m number below beside same))
    failed_step (inr (inl first)) = first_step first.0 first.1
    failed_step (inr (inr none)) = inr (inl (spoiled_step none))

  -- the newest slot after a failed save
  after_failed : (base p m after : Pair) (c : Try) (rest : List Try) (wrote : List ℕ) → c.succeeded ≡ false → c.bytes ≡ wrote
      → Steps base p m wrote → Ends base m rest after → Ends base p (c ∷ rest) after
  after_failed base p m after c rest wrote fails same step (inr late) = inr (late.0, more_latest c rest late.0 late.1, late.2)
  after_failed base p m after c rest wrote fails same step (inl (failed, inr is)) = inl (All-cons HasFailed c rest fails failed, inr is)
  after_failed base p m after c rest wrote fails same (inl step) (inl (failed, inl is)) = inl (All-cons HasFailed c rest fails failed, inl (is ∙ step))
  after_failed base p m after c rest wrote fails same (inr (inl step)) (inl (failed, inl is)) = inl (All-cons HasFailed c rest fails failed, inr (is ∙ step))
  after_failed base p m after c rest wrote fails same (inr (inr step)) (inl (failed, inl is)) = inr (wrote, this_latest c rest wrote failed same, is ∙ step)

  -- the newest slot after a successful save
  after_saved : (base p m after : Pair) (c : Try) (rest : List Try) (wrote : List ℕ) → c.bytes ≡ wrote
      → newest m ≡ Some wrote → Ends m m rest after → Ends base p (c ∷ rest) after
  after_saved base p m after c rest wrote same step (inr late) = inr (late.0, more_latest c rest late.0 late.1, late.2)
  after_saved base p m after c rest wrote same step (inl (failed, inl is)) = inr (wrote, this_latest c rest wrote failed same, is ∙ step)
  after_saved base p m after c rest wrote same step (inl (failed, inr is)) = inr (wrote, this_latest c rest wrote failed same, is ∙ step)

  -- the effect of a save at the place, by its success
  ended_at : (number : ℕ) (p m : Pair) (c : Try) (wrote : List ℕ) → c.slot ≡ number → c.bytes ≡ wrote → IsCarriedOut IsNotValid job digest p m c
      → IsEnded IsNotValid job digest c.succeeded (stored p number) wrote (stored m number)
  ended_at number p m c wrote slot same out =
      subst (λ (q : ℕ × List ℕ). IsEnded IsNotValid job digest c.succeeded (stored p q.0) q.1 (stored m q.0)) (λ k. (slot k, same k)) out.ended

  beside_at : (number : ℕ) (p m : Pair) (c : Try) → c.slot ≡ number → IsCarriedOut IsNotValid job digest p m c → stored m (1 - number) ≡ stored p (1 - number)
  beside_at number p m c slot out = subst (λ (n : ℕ). stored m (1 - n) ≡ stored p (1 - n)) slot (beside_stop c.slot p m out.slot out.beside)

  module _ (base p m after : Pair) (number generation : ℕ) (c : Try) (rest : List Try) (s : Stands base p number generation) (save : IsSaveAt job digest number generation c)
      (out : IsCarriedOut IsNotValid job digest p m c) where
    goes_beside : stored m (1 - number) ≡ stored p (1 - number)
    goes_beside = beside_at number p m c save.slot out

    goes : (b : Bool) → c.succeeded ≡ b → IsEnded IsNotValid job digest b (stored p number) (checkpoint save.version digest generation save.outcomes) (stored m number)
    goes b is =
        subst (λ (x : Bool). IsEnded IsNotValid job digest x (stored p number) (checkpoint save.version digest generation save.outcomes) (stored m number)) is
        (ended_at number p m c (checkpoint save.version digest generation save.outcomes) save.slot save.bytes out)

    one : (b : Bool) → c.succeeded ≡ b → AreInTurn job digest (cond b (1 - number) number) (cond b ((generation + 1) % 3) generation) rest
        → (Stands base m number generation → AreInTurn job digest number generation rest → Ends base m rest after)
        → (Stands m m (1 - number) ((generation + 1) % 3) → AreInTurn job digest (1 - number) ((generation + 1) % 3) rest → Ends m m rest after)
        → Ends base p (c ∷ rest) after
    one false is turn failed keeps =
        after_failed base p m after c rest (checkpoint save.version digest generation save.outcomes) is save.bytes
        (failed_step base p m number generation c s save goes_beside (goes false is))
        (failed (record { at = s.at; beside = goes_beside ∙ s.beside }) turn)
    one true is turn failed keeps =
        let next : place_for job digest m ≡ (1 - number, (generation + 1) % 3) =
        next_place base m number generation s.at (goes_beside ∙ s.beside) save.version save.outcomes save.sound save.fit (goes true is) in
        after_saved base p m after c rest (checkpoint save.version digest generation save.outcomes) save.bytes
        (whole_step base p m number generation c s save goes_beside (goes true is))
        (keeps (record { at = next; beside = refl }) turn)

  keep : (carried : List Try) (base p after : Pair) (number generation : ℕ) → Stands base p number generation → AreInTurn job digest number generation carried
      → AreCarriedOut IsNotValid job digest p carried after → Ends base p carried after
  keep [] base p after number generation s turn out = inl (All-nil HasFailed, inl (ap newest out))
  keep (c ∷ rest) base p after number generation s turn out =
      one base p out.0 after number generation c rest s turn.0 out.1 c.succeeded refl turn.1
      (λ stands turns. keep rest base out.0 after number generation stands turns out.2)
      (λ stands turns. keep rest out.0 out.0 after (1 - number) ((generation + 1) % 3) stands turns out.2)

  ended_keep : (before after : Pair) (carried : List Try) → Ends before before carried after → KeepsNewest job digest before carried after
  ended_keep before after carried (inl (failed, inl is)) = inl (failed, is)
  ended_keep before after carried (inl (failed, inr is)) = inl (failed, is)
  ended_keep before after carried (inr late) = inr late

-- a front of saves in turn is in turn
stopped_in_turn : (job : Job) (digest : List ℕ) (n : ℕ) (attempts : List Try) (number generation : ℕ) → AreInTurn job digest number generation attempts
    → AreInTurn job digest number generation (stopped_in n attempts)
stopped_in_turn job digest n [] number generation turn = tt
stopped_in_turn job digest zero (t ∷ rest) number generation turn =
    (record { slot = turn.0.slot; version = turn.0.version; outcomes = turn.0.outcomes; bytes = turn.0.bytes; sound = turn.0.sound; fit = turn.0.fit }, tt)
stopped_in_turn job digest (suc n) (t ∷ rest) number generation turn =
    (turn.0, stopped_in_turn job digest n rest (cond t.succeeded (1 - number) number) (cond t.succeeded ((generation + 1) % 3) generation) turn.1)

-- the law on saves in turn
pub saves_keep_the_newest : SavesKeepTheNewest
saves_keep_the_newest job digest before after number generation attempts n at turn out =
    ended_keep job digest before after (stopped_in n attempts)
    (keep job digest (stopped_in n attempts) before before after number generation (record { at = at; beside = refl })
    (stopped_in_turn job digest n attempts number generation turn) out)
