use Rattle.std.proofs.Common.{◌∙◌, ◌++◌, ◌∷◌, [], ap, List, ℕ, append-nil, sym, decimal, map, Ok, Err, ℤ, Result, ◌≡◌}
use Rattle.std.specs.Fmt.{signed_decimal}
use Rattle.audit_statement.specs.Trace.{change_words, plan_line}
use Rattle.report.specs.Lines.{AppendsText, spaced}
use Rattle.std.proofs.lemmas.Result.{err_from_is_err_and}
use Rattle.report.proofs.Written.{appends-by, appends-err, appends-two, line-parts}
use Rattle.audit_model.specs.Room.{RoomyBytes}
use Rattle.audit_model.specs.declared.memory.Memory.{Memory}
use Rattle.report.proofs.trace.push_plan_line.Goals as goal

module _ (step moved : ℕ) (values : List ℤ) (before plan : List ℕ) where
  -- the line up to its moves
  abbrev first : List ℕ
  first = decimal step ++ spaced (decimal moved ∷ [])

  abbrev second : List ℕ
  second = first ++ spaced (map signed_decimal values)

  abbrev third : List ℕ
  third = second ++ spaced (change_words before plan)

  -- the three parts and the line feed are the whole line
  whole : third ++ 10 ∷ [] ≡ plan_line step moved values before plan
  whole = line-parts (decimal step) (decimal moved ∷ []) (map signed_decimal values) (change_words before plan)

  -- the step and the moves are appended one after the other
  first_two : (out one two : RoomyBytes) (s m : ℕ) (r : Result (Unit {0}) Memory) → s ≡ step → m ≡ moved → AppendsText out one (decimal s) (Ok tt) → AppendsText one two (32 ∷ decimal m) r
      → AppendsText out two first r
  first_two out one two s m r is its a b =
      appends-two out one two (decimal step) (spaced (decimal moved ∷ [])) r (appends-by out one (decimal s) (decimal step) (Ok tt) (ap decimal is) a)
      (appends-by one two (32 ∷ decimal m) (spaced (decimal moved ∷ [])) r (ap (λ (n : ℕ). 32 ∷ decimal n) its ∙ sym (append-nil (32 ∷ decimal moved))) b)

  -- if the values cannot be appended, the line cannot
  no_values : (out two three : RoomyBytes) (e : Memory) → AppendsText out two first (Ok tt) → AppendsText two three (spaced (map signed_decimal values)) (Err e)
      → AppendsText out three (plan_line step moved values before plan) (Err e)
  no_values out two three e a b =
      appends-by out three (third ++ 10 ∷ []) (plan_line step moved values before plan) (Err e) whole
      (appends-err out three third (10 ∷ []) e (appends-err out three second (spaced (change_words before plan)) e (appends-two out two three first (spaced (map signed_decimal values)) (Err e) a b)))

  -- if the changes cannot be appended, the line cannot
  no_changes : (out two three four : RoomyBytes) (e : Memory) → AppendsText out two first (Ok tt) → AppendsText two three (spaced (map signed_decimal values)) (Ok tt)
      → AppendsText three four (spaced (change_words before plan)) (Err e) → AppendsText out four (plan_line step moved values before plan) (Err e)
  no_changes out two three four e a b d =
      appends-by out four (third ++ 10 ∷ []) (plan_line step moved values before plan) (Err e) whole
      (appends-err out four third (10 ∷ []) e
      (appends-two out three four second (spaced (change_words before plan)) (Err e) (appends-two out two three first (spaced (map signed_decimal values)) (Ok tt) a b) d))

pub returns-in_err-push_values : goal.returns-in_err-push_values
returns-in_err-push_values c =
    let p = err_from_is_err_and c.from_residual-in_err-push_values.result c.from_residual-in_err-push_values.ensures.1 in
    rw (p.1, p.2)
    (no_values c.args.step c.args.moved c.args.values.now c.args.before.now c.args.plan.now c.args.out.now c.push_next.new.out c.push_values.new.out c.in_err-push_values.field-0.0
    (first_two c.args.step c.args.moved c.args.values.now c.args.before.now c.args.plan.now c.args.out.now c.push_number.new.out c.push_next.new.out _ _ _ c.from.ensures c.from-2.ensures c.in_ok-push_number.ensures c.in_ok-push_next.ensures)
    c.in_err-push_values.ensures)

pub returns-in_err-push_changes : goal.returns-in_err-push_changes
returns-in_err-push_changes c =
    let p = err_from_is_err_and c.from_residual-in_err-push_changes.result c.from_residual-in_err-push_changes.ensures.1 in
    rw (p.1, p.2)
    (no_changes c.args.step c.args.moved c.args.values.now c.args.before.now c.args.plan.now c.args.out.now c.push_next.new.out c.push_values.new.out c.push_changes.new.out c.in_err-push_changes.field-0.0
    (first_two c.args.step c.args.moved c.args.values.now c.args.before.now c.args.plan.now c.args.out.now c.push_number.new.out c.push_next.new.out _ _ _ c.from.ensures c.from-2.ensures c.in_ok-push_number.ensures c.in_ok-push_next.ensures)
    c.in_ok-push_values.ensures c.in_err-push_changes.ensures)

pub returns : goal.returns
returns c =
    let step = c.args.step in
    let moved = c.args.moved in
    let values = c.args.values.now in
    let before = c.args.before.now in
    let plan = c.args.plan.now in
    let out = c.args.out.now in
    let numbers = first_two step moved values before plan out c.push_number.new.out c.push_next.new.out _ _ _ c.from.ensures c.from-2.ensures c.in_ok-push_number.ensures c.in_ok-push_next.ensures in
    let three = appends-two out c.push_next.new.out c.push_values.new.out (first step moved values before plan) (spaced (map signed_decimal values)) _ numbers c.in_ok-push_values.ensures in
    let four = appends-two out c.push_values.new.out c.push_changes.new.out (second step moved values before plan) (spaced (change_words before plan)) _ three c.in_ok-push_changes.ensures in
    appends-by out c.push.new.self (third step moved values before plan ++ 10 ∷ []) (plan_line step moved values before plan) c.push.result (whole step moved values before plan)
    (appends-two out c.push_changes.new.out c.push.new.self (third step moved values before plan) (10 ∷ []) _ four (record { ok = c.push.ensures.ok; room = c.push.ensures.room }))
