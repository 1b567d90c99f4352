-- The changed units of a plan's line, one by one, and the greatest length of a line.
use Rattle.std.proofs.Common.{◌≡◌, ℕ, zero, suc, ◌+◌, ◌*◌, ◌<◌, ◌≤◌, Bool, true, false, cond, List, [], ◌∷◌, ◌++◌, length, map, refl, ap, sym, ◌∙◌, arith, append-nil, append_assoc, add-one, decimal, ℤ, ◌-◌, Ok, Err, codes}
use Rattle.std.proofs.lemmas.List.{map-append, length-append, length-map}
use Rattle.std.proofs.lemmas.Grind.{flat_map-append}
use Rattle.std.proofs.lemmas.Fmt.{length-decimal-le}
use Rattle.std.specs.Fmt.{signed_decimal}
use Rattle.std.specs.Prelude.{◌==◌, not, slice_index}
use Rattle.audit_model.specs.declared.setting.Ask.{Ask}
use Rattle.audit_model.specs.Below.{filter_below}
use Rattle.audit_model.specs.Job.{Job}
use Rattle.audit_model.specs.JobOf.{IsJob}
use Rattle.audit_model.specs.Plan.{IsLegal}
use Rattle.audit_model.specs.Trajectory.{plan_value}
use Rattle.audit_statement.specs.Along.{ask_values}
use Rattle.audit_statement.specs.Along.{own_steps}
use Rattle.audit_statement.specs.Trace.{change_word, change_words, plan_line, trace_id_line}
use Rattle.report.proofs.Limits.{small}
use Rattle.report.proofs.Widths.{length-decimal_any, length-line, length-signed_any, width, width-append}
use Rattle.audit_model.specs.Room.{RoomyBytes}
use Rattle.audit_model.specs.declared.memory.Memory.{Memory}
use Rattle.report.specs.Lines.{AppendsText, spaced}
use Rattle.report.proofs.Written.{appends-err, appends-two, appends-by}

-- nothing is appended
pub appends-none : (out : RoomyBytes) → AppendsText out out [] (Ok tt)
appends-none out = record { ok = sym (append-nil out.items); room = λ _. (refl, omega arith) }

module _ (word : ℕ → List ℕ) (test : ℕ → Bool) where
  -- the words of the numbers below n that pass
  abbrev pub observed : ℕ → List ℕ
  observed n = spaced (map word (filter_below n test))

  -- the words of one more number, which passes
  pub observed_more : (n : ℕ) → test n ≡ true → observed (n + 1) ≡ observed n ++ (32 ∷ word n)
  observed_more n is_true =
      rw (add-one n, is_true)
      (ap spaced (map-append word (filter_below n test) (n ∷ []))
      ∙ flat_map-append (λ (w : List ℕ). 32 ∷ w) (map word (filter_below n test)) (word n ∷ [])
      ∙ ap (λ (t : List ℕ). observed n ++ t) (append-nil (32 ∷ word n)))

  -- the words of one more number, which does not pass
  pub observed_same : (n : ℕ) → test n ≡ false → observed (n + 1) ≡ observed n
  observed_same n is_false = rw (add-one n, is_false) (ap (λ (ns : List ℕ). spaced (map word ns)) (append-nil (filter_below n test)))

  -- the words of more numbers begin with those of fewer
  pub observed_front : (n more : ℕ) → (rest : List ℕ) × (observed (n + more) ≡ observed n ++ rest)
  observed_front n zero = ([], ap observed (let e : n + 0 ≡ n = omega arith in e) ∙ sym (append-nil (observed n)))
  observed_front n (suc more) = let before = observed_front n more in let at : n + suc more ≡ (n + more) + 1 = omega arith in by (test (n + more)) refl before at
    where
      by : (b : Bool) → test (n + more) ≡ b → (rest : List ℕ) × (observed (n + more) ≡ observed n ++ rest) → n + suc more ≡ (n + more) + 1
          → (rest : List ℕ) × (observed (n + suc more) ≡ observed n ++ rest)
      by true e (rest, is) at = (rest ++ (32 ∷ word (n + more)), ap observed at ∙ observed_more (n + more) e ∙ ap (λ (t : List ℕ). t ++ (32 ∷ word (n + more))) is ∙ append_assoc (observed n) rest (32 ∷ word (n + more)))
      by false e (rest, is) at = (rest, ap observed at ∙ observed_same (n + more) e ∙ is)

  -- if one word cannot be appended, the whole cannot
  pub observed_err : (old now new : RoomyBytes) (n all : ℕ) (e : Memory) → n < all → test n ≡ true → AppendsText old now (observed n) (Ok tt)
      → AppendsText now new (32 ∷ word n) (Err e) → AppendsText old new (observed all) (Err e)
  observed_err old now new n all e below is_true before failed =
      let front = observed_front (n + 1) (all - (n + 1)) in
      let whole : observed all ≡ (observed n ++ (32 ∷ word n)) ++ front.0 =
      ap observed (let at : all ≡ (n + 1) + (all - (n + 1)) = omega arith in at) ∙ front.1 ∙ ap (λ (t : List ℕ). t ++ front.0) (observed_more n is_true) in
      appends-by old new ((observed n ++ (32 ∷ word n)) ++ front.0) (observed all) (Err e) (sym whole)
      (appends-err old new (observed n ++ (32 ∷ word n)) front.0 e (appends-two old now new (observed n) (32 ∷ word n) (Err e) before failed))

-- ---- the greatest length of a line

-- a unit with its district takes at most nine bytes
length-change : (plan : List ℕ) (u : ℕ) → u < 100000 → slice_index plan u < 1000 → length (change_word plan u) ≤ 9
length-change plan u few small =
    omega (
      arith,
      length-append (decimal u) (58 ∷ decimal (slice_index plan u)),
      length-decimal-le 5 u (omega arith) (omega arith) (omega arith),
      length-decimal-le 3 (slice_index plan u) (omega arith) (omega arith) (omega arith),
    )

-- all changes take at most ten bytes each, with the spaces
width-changes : (plan : List ℕ) (test : ℕ → Bool) (n : ℕ) → n ≤ 100000 → ((u : ℕ) → u < n → slice_index plan u < 1000)
    → width (map (change_word plan) (filter_below n test)) ≤ n * 10
width-changes plan test zero few small = omega arith
width-changes plan test (suc n) few small =
    let before = width-changes plan test n (omega arith) (λ u l. small u (omega arith)) in
    let parts = ap width (map-append (change_word plan) (filter_below n test) (cond (test n) (n ∷ []) [])) in
    let both = width-append (map (change_word plan) (filter_below n test)) (map (change_word plan) (cond (test n) (n ∷ []) [])) in
    let last = one (test n) (length-change plan n (omega arith) (small n (omega arith))) in
    omega (arith, before, parts, both, last)
  where
    one : (b : Bool) → length (change_word plan n) ≤ 9 → width (map (change_word plan) (cond b (n ∷ []) [])) ≤ 10
    one true l = omega arith
    one false l = omega arith

-- a value for each ask takes at most 66 bytes, with its space
width-values : (zs : List ℤ) → width (map signed_decimal zs) ≤ length zs * 66
width-values [] = omega arith
width-values (z ∷ zs) = omega (arith, length-signed_any z, width-values zs)

-- the length of the line of a legal plan
pub plan_line_le : (job : Job) (step moved : ℕ) (before plan : List ℕ) → IsJob job → IsLegal job plan → (units : ℕ) → units ≡ job.graph.units
    → length (plan_line step moved (ask_values job plan) before plan) ≤ 400 + units * 10
plan_line_le job step moved before plan sound legal units is =
    let values = ask_values job plan in
    let changes = change_words before plan in
    let whole = length-line (decimal step) (((decimal moved ∷ []) ++ map signed_decimal values) ++ changes) in
    let parts = width-append ((decimal moved ∷ []) ++ map signed_decimal values) changes in
    let numbers = width-values values in
    let asks = length-map job.setting.asks (λ (ask : Ask). plan_value job plan ask.score) in
    let few = (small job sound).few_asks in
    let units_few = sound.within.input.units in
    let observed_units = width-changes plan (λ u. not (slice_index plan u == slice_index before u)) (length plan)
    (omega (arith, legal.complete, units_few)) (λ u l. omega (arith, legal.in_range u (omega (arith, legal.complete)), sound.within.input.few)) in
    omega (arith, whole, parts, numbers, asks, few, observed_units, legal.complete, length-decimal_any step, length-decimal_any moved)

-- the length of the line that starts a trajectory
pub trace_id_line_le : (job : Job) (id thin units : ℕ) → length (trace_id_line job id thin) ≤ 400 + units * 10
trace_id_line_le job id thin units =
    let whole = length-line (codes "trace") (codes "id" ∷ decimal id ∷ codes "steps" ∷ decimal (own_steps job id) ∷ codes "thin" ∷ decimal thin ∷ []) in
    omega (arith, whole, length-decimal_any id, length-decimal_any (own_steps job id), length-decimal_any thin)
