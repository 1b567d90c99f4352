-- The lines of a trajectory and of a range, one after the other.
use Rattle.std.proofs.Common.{◌≡◌, ℕ, zero, suc, ◌+◌, ◌-◌, ◌*◌, ◌≤◌, List, [], ◌∷◌, ◌++◌, length, min, take, replicate, Ok, Err, Result, pos, ℤ, refl, sym, ap, ◌∙◌, subst, arith, add-one, append-nil, append_assoc, codes}
use Rattle.audit_io.specs.declared.source.Failed.{Failed}
use Rattle.audit_model.specs.Faults.{Rose}
use Rattle.audit_model.specs.Job.{Job}
use Rattle.audit_model.specs.State.{Stream}
use Rattle.audit_model.specs.Trajectory.{Draws, four_values}
use Rattle.audit_statement.specs.Along.{own_steps, plan_after}
use Rattle.audit_statement.specs.Report.{line}
use Rattle.audit_statement.specs.Trace.{count_shown, first_lines, line_at, shown, range_lines, trace_head, trace_id_line, trace_line, trace_text, trajectory_lines}
use Rattle.report.specs.AddedText.{WritesAllOf}
use Rattle.report.proofs.Appended.{appends_more, appends_nothing, part_after, part_of_more}

-- ---- one text after another

-- a text that was written in full, followed by another
pub wrote_then : (a b c : Stream) (xs ys : List ℕ) (r : Result (Unit {0}) Failed) → WritesAllOf a b xs (Ok tt) → WritesAllOf b c ys r → WritesAllOf a c (xs ++ ys) r
wrote_then a b c xs ys (Ok done) p q = (appends_more a.bytes b.bytes c.bytes xs ys p.0 q.0, q.1 ∙ p.1)
wrote_then a b c xs ys (Err failed) p q = (part_after a.bytes b.bytes c.bytes xs ys p.0 q.0, subst (λ (k : ℕ). Rose k c.faults) p.1 q.1)

-- a text that was written in part
pub wrote_part : (a b : Stream) (xs ys : List ℕ) (failed other : Failed) → WritesAllOf a b xs (Err failed) → WritesAllOf a b (xs ++ ys) (Err other)
wrote_part a b xs ys failed other p = (part_of_more a.bytes b.bytes xs ys p.0, p.1)

-- ---- strides

-- one more stride reaches the next shown step
pub shown_next : (thin steps place step : ℕ) → step ≡ shown thin steps place → step + min thin (steps - step) ≡ shown thin steps (place + 1)
shown_next thin steps place step at =
    let more : (place + 1) * thin ≡ place * thin + thin = grind arith in
    by (place * thin) at ∙ ap (λ (n : ℕ). min n steps) (sym more)
  where
    by : (p : ℕ) → step ≡ min p steps → step + min thin (steps - step) ≡ min (p + thin) steps
    by p e = omega arith

-- the values of the asks are the first of four
pub values_of_four : (values : List ℤ) → length values ≤ 4 → take (length values) (four_values values) ≡ values
values_of_four values few = elim_four values few
  where
    elim_four : (xs : List ℤ) → length xs ≤ 4 → take (length xs) (take 4 (xs ++ replicate 4 (pos 0))) ≡ xs
    elim_four [] l = refl
    elim_four (a ∷ []) l = refl
    elim_four (a ∷ b ∷ []) l = refl
    elim_four (a ∷ b ∷ c ∷ []) l = refl
    elim_four (a ∷ b ∷ c ∷ d ∷ []) l = refl
    elim_four (a ∷ b ∷ c ∷ d ∷ e ∷ xs) l = absurd (omega arith)

-- ---- lines

module _ (job : Job) (draws : Draws) (id thin : ℕ) where
  -- the lines before the first step
  pub first_line : first_lines job draws id thin 1 ≡ line_at job draws id job.start 0
  unfolding first_lines trace_line
  first_line = ap (line_at job draws id job.start) (at_first (own_steps job id))
    where
      at_first : (steps : ℕ) → min (0 * thin) steps ≡ 0
      at_first steps = omega arith

  -- one more line
  pub lines_more : (place step next : ℕ) → step ≡ shown thin (own_steps job id) place → next ≡ shown thin (own_steps job id) (place + 1)
      → first_lines job draws id thin (place + 1) ++ line_at job draws id (plan_after job draws id step) next ≡ first_lines job draws id thin (place + 1 + 1)
  unfolding first_lines trace_line
  lines_more place step next here there =
      ap (λ (s : ℕ). first_lines job draws id thin (place + 1) ++ line_at job draws id (plan_after job draws id s) next) here
      ∙ ap (λ (s : ℕ). first_lines job draws id thin (place + 1) ++ line_at job draws id (plan_after job draws id (shown thin (own_steps job id) place)) s) there
      ∙ again
    where
      again : first_lines job draws id thin (place + 1) ++ line_at job draws id (plan_after job draws id (shown thin (own_steps job id) place)) (shown thin (own_steps job id) (place + 1))
          ≡ first_lines job draws id thin (place + 1 + 1)
      again = rw (add-one (place + 1), add-one place) refl

  -- the first lines are a front of all lines
  pub lines_front : (n more : ℕ) → (rest : List ℕ) × (first_lines job draws id thin (n + more) ≡ first_lines job draws id thin n ++ rest)
  unfolding first_lines
  lines_front n zero = ([], ap (first_lines job draws id thin) (let e : n + 0 ≡ n = omega arith in e) ∙ sym (append-nil (first_lines job draws id thin n)))
  lines_front n (suc more) =
      let before = lines_front n more in
      let at : n + suc more ≡ suc (n + more) = omega arith in (
        before.0 ++ trace_line job draws id thin (n + more),
        ap (first_lines job draws id thin) at ∙ ap (λ (t : List ℕ). t ++ trace_line job draws id thin (n + more)) before.1
            ∙ append_assoc (first_lines job draws id thin n) before.0 (trace_line job draws id thin (n + more)),
      )

  -- if the first lines are cut off, all lines are
  pub lines_cut : (before after : Stream) (n all : ℕ) (failed other : Failed) → n ≤ all → WritesAllOf before after (first_lines job draws id thin n) (Err failed)
      → WritesAllOf before after (first_lines job draws id thin all) (Err other)
  lines_cut before after n all failed other few cut =
      let front = lines_front n (all - n) in
      let whole : first_lines job draws id thin all ≡ first_lines job draws id thin n ++ front.0 =
      ap (first_lines job draws id thin) (let at : all ≡ n + (all - n) = omega arith in at) ∙ front.1 in
      subst (λ (t : List ℕ). WritesAllOf before after t (Err other)) (sym whole) (wrote_part before after (first_lines job draws id thin n) front.0 failed other cut)

  -- the lines so far, followed by the next one
  pub lines_then : (before here after : Stream) (place step next : ℕ) (current : List ℕ) (r : Result (Unit {0}) Failed)
      → step ≡ shown thin (own_steps job id) place → next ≡ shown thin (own_steps job id) (place + 1) → current ≡ plan_after job draws id step
      → WritesAllOf before here (first_lines job draws id thin (place + 1)) (Ok tt) → WritesAllOf here after (line_at job draws id current next) r
      → WritesAllOf before after (first_lines job draws id thin (place + 1 + 1)) r
  lines_then before here after place step next current r from to is so_far line =
      subst (λ (t : List ℕ). WritesAllOf before after t r) (lines_more place step next from to)
      (wrote_then before here after (first_lines job draws id thin (place + 1)) (line_at job draws id (plan_after job draws id step) next) r so_far
      (subst (λ (q : List ℕ). WritesAllOf here after (line_at job draws id q next) r) is line))

  -- all lines are those so far, the next one and the rest
  pub lines_split : (place step next all : ℕ) → step ≡ shown thin (own_steps job id) place → next ≡ shown thin (own_steps job id) (place + 1) → place + 1 + 1 ≤ all
      → (rest : List ℕ) × (first_lines job draws id thin all ≡ first_lines job draws id thin (place + 1) ++ (line_at job draws id (plan_after job draws id step) next ++ rest))
  lines_split place step next all here there few =
      let front = lines_front (place + 1 + 1) (all - (place + 1 + 1)) in (
        front.0,
        ap (first_lines job draws id thin) (let at : all ≡ (place + 1 + 1) + (all - (place + 1 + 1)) = omega arith in at) ∙ front.1
            ∙ ap (λ (t : List ℕ). t ++ front.0) (sym (lines_more place step next here there))
            ∙ append_assoc (first_lines job draws id thin (place + 1)) (line_at job draws id (plan_after job draws id step) next) front.0,
      )

  -- a trajectory's lines are the line that starts it and those of its plans
  pub trajectory_parts : trajectory_lines job draws thin id ≡ trace_id_line job id thin ++ first_lines job draws id thin (count_shown thin (own_steps job id))
  unfolding trajectory_lines
  trajectory_parts = refl

-- ---- ranges

module _ (job : Job) (draws : Draws) (thin first : ℕ) where
  -- the lines before the first trajectory
  pub range_none : range_lines job draws thin first 0 ≡ []
  unfolding range_lines
  range_none = refl

  -- one more trajectory
  pub range_more : (count : ℕ) → range_lines job draws thin first (count + 1) ≡ range_lines job draws thin first count ++ trajectory_lines job draws thin (first + count)
  unfolding range_lines
  range_more count = rw (add-one count) refl

  -- the lines of the first trajectories are a front of all lines
  pub range_front : (n more : ℕ) → (rest : List ℕ) × (range_lines job draws thin first (n + more) ≡ range_lines job draws thin first n ++ rest)
  unfolding range_lines
  range_front n zero = ([], ap (range_lines job draws thin first) (let e : n + 0 ≡ n = omega arith in e) ∙ sym (append-nil (range_lines job draws thin first n)))
  range_front n (suc more) =
      let before = range_front n more in
      let at : n + suc more ≡ suc (n + more) = omega arith in (
        before.0 ++ trajectory_lines job draws thin (first + (n + more)),
        ap (range_lines job draws thin first) at ∙ ap (λ (t : List ℕ). t ++ trajectory_lines job draws thin (first + (n + more))) before.1
            ∙ append_assoc (range_lines job draws thin first n) before.0 (trajectory_lines job draws thin (first + (n + more))),
      )

  -- all lines are those of the first trajectories, of the next one and of the rest
  pub range_split : (count all : ℕ) → count + 1 ≤ all
      → (rest : List ℕ) × (range_lines job draws thin first all ≡ range_lines job draws thin first count ++ (trajectory_lines job draws thin (first + count) ++ rest))
  range_split count all few =
      let front = range_front (count + 1) (all - (count + 1)) in (
        front.0,
        ap (range_lines job draws thin first) (let at : all ≡ (count + 1) + (all - (count + 1)) = omega arith in at) ∙ front.1
            ∙ ap (λ (t : List ℕ). t ++ front.0) (range_more count)
            ∙ append_assoc (range_lines job draws thin first count) (trajectory_lines job draws thin (first + count)) front.0,
      )

  -- if the first trajectories are cut off, all are
  pub range_cut : (before after : Stream) (n all : ℕ) (failed other : Failed) → n ≤ all → WritesAllOf before after (range_lines job draws thin first n) (Err failed)
      → WritesAllOf before after (range_lines job draws thin first all) (Err other)
  range_cut before after n all failed other few cut =
      let front = range_front n (all - n) in
      let whole : range_lines job draws thin first all ≡ range_lines job draws thin first n ++ front.0 =
      ap (range_lines job draws thin first) (let at : all ≡ n + (all - n) = omega arith in at) ∙ front.1 in
      subst (λ (t : List ℕ). WritesAllOf before after t (Err other)) (sym whole) (wrote_part before after (range_lines job draws thin first n) front.0 failed other cut)

  -- the trajectories so far, followed by the next one
  pub range_then : (before here after : Stream) (count : ℕ) (r : Result (Unit {0}) Failed) → WritesAllOf before here (range_lines job draws thin first count) (Ok tt)
      → WritesAllOf here after (trajectory_lines job draws thin (first + count)) r → WritesAllOf before after (range_lines job draws thin first (count + 1)) r
  range_then before here after count r so_far next =
      subst (λ (t : List ℕ). WritesAllOf before after t r) (sym (range_more count))
      (wrote_then before here after (range_lines job draws thin first count) (trajectory_lines job draws thin (first + count)) r so_far next)

  -- nothing is written before the first trajectory
  pub range_begun : (here : Stream) → WritesAllOf here here (range_lines job draws thin first 0) (Ok tt)
  range_begun here = subst (λ (t : List ℕ). WritesAllOf here here t (Ok tt)) (sym range_none) (appends_nothing here.bytes, refl)

-- the text is its head, its range and its end
pub text_parts : (job : Job) (draws : Draws) (first last thin : ℕ)
    → trace_text job draws first last thin ≡ trace_head job ++ (range_lines job draws thin first (last + 1 - first) ++ line (codes "end" ∷ []))
unfolding trace_text
text_parts job draws first last thin = append_assoc (trace_head job) (range_lines job draws thin first (last + 1 - first)) (line (codes "end" ∷ []))
