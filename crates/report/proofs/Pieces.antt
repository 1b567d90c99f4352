-- A list of pieces that are appended one by one.
use Rattle.std.proofs.Common.{◌≡◌, ℕ, zero, suc, ◌+◌, ◌*◌, ◌/◌, ◌<◌, ◌≤◌, drop, get_or, add-one, zero-add, drop-cons, List, [], ◌++◌, length, flat_map, refl, ap, sym, ◌∙◌, subst, arith, append-nil, length-append, Ok, Err, ◌∷◌}
use Rattle.std.proofs.lemmas.List.{drop_all}
use Rattle.std.specs.Prelude.{zip}
use Rattle.std.proofs.lemmas.Slice.Zip.{get_or-zip, length-zip}
use Rattle.std.proofs.lemmas.List.FromFn.{length-enumerate_from, get_or-enumerate_from}
use Rattle.audit_model.specs.Room.{RoomyBytes}
use Rattle.audit_model.specs.declared.memory.Memory.{Memory}
use Rattle.audit_model.specs.declared.outcome.Outcome.{Outcome}
use Rattle.audit_model.specs.declared.setting.Ask.{Ask}
use Rattle.audit_model.specs.declared.setting.Score.TheVariants.{Seats}
use Rattle.audit_model.specs.declared.setting.Tail.TheVariants.{Low}
use Rattle.audit_model.specs.Job.{Job}
use Rattle.report.specs.Lines.{AppendsText}
use Rattle.report.specs.Parts.{ask_at}
use Rattle.audit_model.specs.Stopping.{placed_asks}
use Rattle.audit_statement.specs.Report.{by_twos}
use Rattle.report.proofs.Written.{IsWritten, written-more, written-err}

-- the first i pieces are appended
pub record ArePieces {X : Type 0} (piece : X → List ℕ) (xs : List X) (i : ℕ) (old now : RoomyBytes) : Type 0 where
  pub written : IsWritten old now (flat_map piece xs) (flat_map piece (drop i xs))

-- the rest is the next piece and the rest after it
pieces-step : {X : Type 0} (piece : X → List ℕ) (xs : List X) (i : ℕ) (x d : X) → i < length xs → get_or xs i d ≡ x
    → flat_map piece (drop i xs) ≡ piece x ++ flat_map piece (drop (i + 1) xs)
pieces-step piece xs i x d below is =
    rw (add-one, drop-cons xs i d) (ap (λ y. piece y ++ flat_map piece (drop (suc i) xs)) is)

-- one more piece is appended
pub pieces-more : {X : Type 0} (piece : X → List ℕ) (xs : List X) (i : ℕ) (x d : X) (old now new : RoomyBytes)
    → i < length xs → get_or xs i d ≡ x → ArePieces piece xs i old now → AppendsText now new (piece x) (Ok tt) → ArePieces piece xs (i + 1) old new
pieces-more piece xs i x d old now new below is before more = record {
  written = written-more old now new (flat_map piece xs) (piece x) (flat_map piece (drop (i + 1) xs))
      (subst (λ t. IsWritten old now (flat_map piece xs) t) (pieces-step piece xs i x d below is) before.written) more;
}

-- if a piece cannot be appended, the whole cannot
pub pieces-err : {X : Type 0} (piece : X → List ℕ) (xs : List X) (i : ℕ) (x d : X) (old now new : RoomyBytes) (e : Memory)
    → i < length xs → get_or xs i d ≡ x → ArePieces piece xs i old now → AppendsText now new (piece x) (Err e) → AppendsText old new (flat_map piece xs) (Err e)
pieces-err piece xs i x d old now new e below is before failed =
    written-err old now new (flat_map piece xs) (piece x) (flat_map piece (drop (i + 1) xs)) e
    (subst (λ t. IsWritten old now (flat_map piece xs) t) (pieces-step piece xs i x d below is) before.written) failed

-- if each piece is appended, the whole is
pub pieces-all : {X : Type 0} (piece : X → List ℕ) (xs : List X) (i : ℕ) (old now : RoomyBytes)
    → length xs ≤ i → ArePieces piece xs i old now → AppendsText old now (flat_map piece xs) (Ok tt)
pieces-all piece xs i old now over before =
    let all : IsWritten old now (flat_map piece xs) [] = subst (λ t. IsWritten old now (flat_map piece xs) t) (ap (flat_map piece) (drop_all i xs over)) before.written in
    let items : now.items ≡ old.items ++ flat_map piece xs = sym (append-nil now.items) ∙ all.items in
    record {
      ok = items;
      room = λ enough.
          let sum : now.spare + length now.items ≡ old.spare + length old.items = all.room enough in
          let count : length now.items ≡ length old.items + length (flat_map piece xs) = ap length items ∙ length-append old.items (flat_map piece xs) in
          (refl, omega arith);
    }

-- ---- the asks, each with its place

-- the default for a missing ask
abbrev pub no_ask : Ask
no_ask = record { score = Seats; tail = Low }

-- the ask at a place
placed : (job : Job) (place : ℕ) → place < length job.setting.asks → get_or (placed_asks job) place (0, no_ask) ≡ (place, ask_at job place)
placed job place l = get_or-enumerate_from 0 job.setting.asks place (0, no_ask) l ∙ ap (λ k. (k, ask_at job place)) (zero-add place)

module _ (job : Job) (piece : ℕ × Ask → List ℕ) (place : ℕ) (old now : RoomyBytes) (before : ArePieces piece (placed_asks job) place old now) where
  -- the piece of one more ask is appended
  pub asks-more : (new : RoomyBytes) → place < length job.setting.asks → AppendsText now new (piece (place, ask_at job place)) (Ok tt) → ArePieces piece (placed_asks job) (place + 1) old new
  asks-more new l more =
      pieces-more piece (placed_asks job) place (place, ask_at job place) (0, no_ask) old now new (omega (arith, l, length-enumerate_from 0 job.setting.asks)) (placed job place l) before more

  -- if the piece of an ask cannot be appended, the whole cannot
  pub asks-err : (new : RoomyBytes) (e : Memory) → place < length job.setting.asks → AppendsText now new (piece (place, ask_at job place)) (Err e)
      → AppendsText old new (flat_map piece (placed_asks job)) (Err e)
  asks-err new e l failed =
      pieces-err piece (placed_asks job) place (place, ask_at job place) (0, no_ask) old now new e (omega (arith, l, length-enumerate_from 0 job.setting.asks)) (placed job place l) before failed

  -- if the piece of each ask is appended, the whole is
  pub asks-all : length job.setting.asks ≤ place → AppendsText old now (flat_map piece (placed_asks job)) (Ok tt)
  asks-all over = pieces-all piece (placed_asks job) place old now (omega (arith, over, length-enumerate_from 0 job.setting.asks)) before

-- ---- two outcomes at a time

-- half as many pairs as outcomes
pub length-by_twos : (os : List Outcome) → length (by_twos os) ≡ length os / 2
length-by_twos [] = omega arith
length-by_twos (first ∷ []) = omega arith
length-by_twos (first ∷ second ∷ rest) = omega (arith, length-by_twos rest)

-- the pair at a place has the outcomes at twice the place and next to it
pub get_or-by_twos : (os : List Outcome) (k : ℕ) (d : Outcome × Outcome) → k < length (by_twos os) → get_or (by_twos os) k d ≡ (get_or os (2 * k) d.0, get_or os (2 * k + 1) d.1)
get_or-by_twos [] k d l = absurd (omega arith)
get_or-by_twos (first ∷ []) k d l = absurd (omega arith)
get_or-by_twos (first ∷ second ∷ rest) zero d l = refl
get_or-by_twos (first ∷ second ∷ rest) (suc k) d l =
    let even : 2 * suc k ≡ suc (suc (2 * k)) = omega arith in
    let odd : 2 * suc k + 1 ≡ suc (suc (2 * k + 1)) = omega arith in
    get_or-by_twos rest k d (omega arith)
    ∙ ap (λ i. (get_or (first ∷ second ∷ rest) i d.0, get_or rest (2 * k + 1) d.1)) (sym even)
    ∙ ap (λ i. (get_or (first ∷ second ∷ rest) (2 * suc k) d.0, get_or (first ∷ second ∷ rest) i d.1)) (sym odd)

-- ---- the asks, each with the stop of its test

module _ (job : Job) (stops : List (List ℕ)) (place : ℕ) (count : length stops ≡ length job.setting.asks) where
  -- each place has the ask and the stop of that place
  pub zipped : place < length job.setting.asks → get_or (zip job.setting.asks stops) place (no_ask, []) ≡ (ask_at job place, get_or stops place [])
  zipped l = get_or-zip job.setting.asks stops place (no_ask, []) l (omega (arith, l, count))

  -- with as many stops as asks, zipping keeps the number
  zipped_length : length (zip job.setting.asks stops) ≡ length job.setting.asks
  zipped_length = length-zip job.setting.asks stops ∙ omega (arith, count)

  -- the place of an ask is one of the asks with their stops
  pub zipped_within : place < length job.setting.asks → place < length (zip job.setting.asks stops)
  zipped_within l = omega (arith, zipped_length, l)

  -- after the last ask there is no ask with its stop
  pub zipped_all : length job.setting.asks ≤ place → length (zip job.setting.asks stops) ≤ place
  zipped_all over = omega (arith, zipped_length, over)
