-- A trajectory after one more step.
use Rattle.std.proofs.Common.{◌≡◌, ℕ, suc, ◌+◌, ◌≤◌, Bool, true, false, cond, not, List, refl, sym, ap, ◌∙◌, subst, arith, add-one}
use Rattle.std.specs.Prelude.{bytes_eq}
use Rattle.audit_model.specs.Below.{count_below}
use Rattle.audit_model.specs.Job.{Job}
use Rattle.audit_model.specs.Step.{next}
use Rattle.audit_model.specs.Trajectory.{visit, moves}
use Rattle.audit_model.proofs.Below.{count_below_le}
use Rattle.audit_statement.specs.Draw.{draw}
use mir.Val.{bool_byte}
use Rattle.chacha_draws.specs.DrawPlace.{DrawPlace}
use Rattle.flip_kernel.specs.ChainState.{ChainState}
use Rattle.walker.specs.Walked.{IsWalked}

-- a count over one more number
pub count_below_more : (n : ℕ) (test : ℕ → Bool) → count_below (n + 1) test ≡ count_below n test + cond (test n) 1 0
unfolding count_below
count_below_more n test = rw (add-one n) refl

module _ (job : Job) (draws : ℕ → ℕ) (plan : List ℕ) where
  pub visit_none : visit job draws plan 0 ≡ plan
  unfolding visit
  visit_none = refl

  pub visit_more : (i : ℕ) → visit job draws plan (i + 1) ≡ next job (visit job draws plan i) (draws i)
  unfolding visit
  visit_more i = rw (add-one i) refl

  pub moves_none : moves job draws plan 0 ≡ 0
  unfolding count_below
  moves_none = refl

  pub moves_le : (i : ℕ) → moves job draws plan i ≤ i
  moves_le i = count_below_le i (λ k. not (bytes_eq (visit job draws plan k) (visit job draws plan (suc k))))

  pub moves_more : (i : ℕ)
      → moves job draws plan (i + 1) ≡ moves job draws plan i + cond (not (bytes_eq (visit job draws plan i) (visit job draws plan (i + 1)))) 1 0
  moves_more i =
      count_below_more i (λ k. not (bytes_eq (visit job draws plan k) (visit job draws plan (suc k))))
      ∙ ap (λ (k : ℕ). moves job draws plan i + cond {A = ℕ} (not (bytes_eq (visit job draws plan i) (visit job draws plan k))) 1 0) (sym (add-one i))

-- before the first step, the plan is the first one
pub walked_none : (job : Job) (key : List ℕ) (stream : ℕ) (plan : List ℕ) (state : ChainState) (draws : DrawPlace) → state.job ≡ job → state.plan ≡ plan
    → draws.key ≡ key → draws.stream ≡ stream → draws.place ≡ 0 → IsWalked job key stream plan 0 state draws 0
walked_none job key stream plan state draws made at k s first = record {
  made = made;
  visited = at ∙ sym (visit_none job (draw key stream) plan);
  same_key = k;
  same_stream = s;
  same_place = first;
  counted = sym (moves_none job (draw key stream) plan);
}

-- a Boolean as a number
pub byte_cond : (b : Bool) → bool_byte b ≡ cond b 1 0
byte_cond true = refl
byte_cond false = refl

-- a Boolean as a number is at most 1
pub byte_le : (b : Bool) → bool_byte b ≤ 1
byte_le true = omega arith
byte_le false = omega arith

module _ (job : Job) (key : List ℕ) (stream : ℕ) (plan : List ℕ) (steps : ℕ) (state : ChainState) (draws : DrawPlace) (moved : ℕ)
    (walked : IsWalked job key stream plan steps state draws moved) where
  pub walked_small : moved ≤ steps
  walked_small = omega (arith, walked.counted, moves_le job (draw key stream) plan steps)

  -- facts for the moment at which all steps are taken
  module _ (all : ℕ) (e : steps ≡ all) where
    pub walked_state : (old : ChainState) → old.job ≡ job → state ≡ record { job = old.job; plan = visit job (draw key stream) plan all }
    walked_state old same =
        ap (λ (j : Job). (let h : ChainState = record { job = j; plan = state.plan } in h)) (walked.made ∙ sym same)
        ∙ ap (λ (p : List ℕ). (let h : ChainState = record { job = old.job; plan = p } in h)) (walked.visited ∙ ap (λ (n : ℕ). visit job (draw key stream) plan n) e)

    pub walked_moves : moved ≡ moves job (draw key stream) plan all
    walked_moves = walked.counted ∙ ap (λ (n : ℕ). moves job (draw key stream) plan n) e

  module _ (after : ChainState) (later : DrawPlace)
      (stepped : after ≡ record { job = state.job; plan = next job state.plan (draw draws.key draws.stream draws.place) })
      (drawn : later ≡ record { key = draws.key; stream = draws.stream; place = draws.place + 1 }) where
    visited_more : after.plan ≡ visit job (draw key stream) plan (steps + 1)
    visited_more =
        ap (λ (h : ChainState). h.plan) stepped
        ∙ ap (λ (k : List ℕ). next job state.plan (draw k draws.stream draws.place)) walked.same_key
        ∙ ap (λ (s : ℕ). next job state.plan (draw key s draws.place)) walked.same_stream
        ∙ ap (λ (p : ℕ). next job state.plan (draw key stream p)) walked.same_place
        ∙ ap (λ (p : List ℕ). next job p (draw key stream steps)) walked.visited
        ∙ sym (visit_more job (draw key stream) plan steps)

    pub walked_more : (more : ℕ) (changed : Bool) → changed ≡ not (bytes_eq state.plan after.plan) → more ≡ moved + cond changed 1 0
        → IsWalked job key stream plan (steps + 1) after later more
    walked_more more changed is added = record {
      made = ap (λ (h : ChainState). h.job) stepped ∙ walked.made;
      visited = visited_more;
      same_key = ap (λ (p : DrawPlace). p.key) drawn ∙ walked.same_key;
      same_stream = ap (λ (p : DrawPlace). p.stream) drawn ∙ walked.same_stream;
      same_place = ap (λ (p : DrawPlace). p.place) drawn ∙ ap (λ (n : ℕ). n + 1) walked.same_place;
      counted =
          added ∙ ap (λ (b : Bool). moved + cond {A = ℕ} b 1 0) is
          ∙ ap (λ (p : List ℕ). moved + cond {A = ℕ} (not (bytes_eq p after.plan)) 1 0) walked.visited
          ∙ ap (λ (p : List ℕ). moved + cond {A = ℕ} (not (bytes_eq (visit job (draw key stream) plan steps) p)) 1 0) visited_more
          ∙ ap (λ (n : ℕ). n + cond {A = ℕ} (not (bytes_eq (visit job (draw key stream) plan steps) (visit job (draw key stream) plan (steps + 1)))) 1 0) walked.counted
          ∙ sym (moves_more job (draw key stream) plan steps);
    }

-- continuing any trajectory in progress by some steps gives the same trajectory farther on
abbrev pub GoesOn : Job → ChainState → DrawPlace → ℕ → ChainState → DrawPlace → ℕ → Type 0
GoesOn job state draws steps after later more =
    (key : List ℕ) (stream : ℕ) (plan : List ℕ) (place moved : ℕ) → IsWalked job key stream plan place state draws moved
    → IsWalked job key stream plan (place + steps) after later (moved + more)

-- continuing by no step
pub goes_nowhere : (job : Job) (state : ChainState) (draws : DrawPlace) → GoesOn job state draws 0 state draws 0
goes_nowhere job state draws key stream plan place moved walked = record {
  made = walked.made;
  visited = walked.visited ∙ ap (λ (n : ℕ). visit job (draw key stream) plan n) (let e : place ≡ place + 0 = omega arith in e);
  same_key = walked.same_key;
  same_stream = walked.same_stream;
  same_place = omega (arith, walked.same_place);
  counted = (let e : moved + 0 ≡ moved = omega arith in e) ∙ walked.counted ∙ ap (λ (n : ℕ). moves job (draw key stream) plan n) (let e : place ≡ place + 0 = omega arith in e);
}

-- continuing by one more step
pub goes_farther : (job : Job) (state : ChainState) (draws : DrawPlace) (steps : ℕ) (now after : ChainState) (here later : DrawPlace) (more again : ℕ) (changed : Bool)
    → GoesOn job state draws steps now here more
    → after ≡ record { job = now.job; plan = next job now.plan (draw here.key here.stream here.place) }
    → later ≡ record { key = here.key; stream = here.stream; place = here.place + 1 }
    → changed ≡ not (bytes_eq now.plan after.plan) → again ≡ more + cond changed 1 0
    → GoesOn job state draws (steps + 1) after later again
goes_farther job state draws steps now after here later more again changed before stepped drawn is added key stream plan place moved walked =
    let one = walked_more job key stream plan (place + steps) now here (moved + more) (before key stream plan place moved walked) after later stepped drawn
    (moved + again) changed is (let e : moved + again ≡ moved + more + cond changed 1 0 = ap (λ (n : ℕ). moved + n) added ∙ sum moved more (cond changed 1 0) in e) in
    subst (λ (n : ℕ). IsWalked job key stream plan n after later (moved + again)) (sum_back place steps) one
  where
    sum : (a b c : ℕ) → a + (b + c) ≡ a + b + c
    sum a b c = omega arith

    sum_back : (a b : ℕ) → a + b + 1 ≡ a + (b + 1)
    sum_back a b = omega arith

-- a whole trajectory, continued from its first draw
pub walked_all : (job : Job) (key : List ℕ) (stream steps : ℕ) (old after : ChainState) (first later : DrawPlace) (moved : ℕ) → old.job ≡ job
    → first.key ≡ key → first.stream ≡ stream → first.place ≡ 0 → GoesOn job old first steps after later moved
    → IsWalked job key stream old.plan steps after later moved
walked_all job key stream steps old after first later moved made k s p onward =
    let none = walked_none job key stream old.plan old first made refl k s p in
    subst (λ (n : ℕ). IsWalked job key stream old.plan n after later moved) (none_more steps)
    (subst (λ (n : ℕ). IsWalked job key stream old.plan (0 + steps) after later n) (none_more moved) (onward key stream old.plan 0 0 none))
  where
    none_more : (n : ℕ) → 0 + n ≡ n
    none_more n = omega arith

-- the next draw's place, before and after a step
pub drawn_none : (d : DrawPlace) → d ≡ record { key = d.key; stream = d.stream; place = d.place + 0 }
drawn_none d = ap (λ (n : ℕ). (let p : DrawPlace = record { key = d.key; stream = d.stream; place = n } in p)) (let e : d.place ≡ d.place + 0 = omega arith in e)

pub drawn_more : (d here later : DrawPlace) (steps : ℕ) → here ≡ record { key = d.key; stream = d.stream; place = d.place + steps }
    → later ≡ record { key = here.key; stream = here.stream; place = here.place + 1 } → later ≡ record { key = d.key; stream = d.stream; place = d.place + (steps + 1) }
drawn_more d here later steps at next =
    next ∙ ap (λ (q : DrawPlace). (let p : DrawPlace = record { key = q.key; stream = q.stream; place = q.place + 1 } in p)) at
    ∙ ap (λ (n : ℕ). (let p : DrawPlace = record { key = d.key; stream = d.stream; place = n } in p)) (let e : d.place + steps + 1 ≡ d.place + (steps + 1) = omega arith in e)
