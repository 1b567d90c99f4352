-- Records read one after another to the end are all records of a text.
use Rattle.std.proofs.Common.{◌≡◌, ◌≤◌, ◌<◌, ◌+◌, ◌++◌, ℕ, zero, suc, List, [], ◌∷◌, length, Option, Some, None, Bool, true, false, if◌then◌else◌, refl, sym, ap, ◌∙◌, subst, arith}
use Rattle.csv.specs.Machine.{Read, next_record, step, is_end, fields_after, field_after, ends_at_end}
use Rattle.csv.specs.Reading.{AreRecords, Reached, records, records_from, records_next}
use Rattle.csv.specs.declared.parser.Config.{Config}
use Rattle.csv.specs.declared.parser.State.{State}
use Rattle.csv.specs.declared.parser.State.TheVariants as st

-- if neither of two readings leaves more than n bytes, the chosen one does not either
choose : (b : Bool) (a p : Read) (x : Option Read) (n : ℕ) → (if b then Some a else x) ≡ Some p → length a.2 ≤ n → (x ≡ Some p → length p.2 ≤ n) → length p.2 ≤ n
choose true a p x n e l k = let same : a ≡ p = cc in subst (λ (q : Read). length q.2 ≤ n) same l
choose false a p x n e l k = k e

-- a record that starts at a byte leaves fewer bytes
leaves : (cfg : Config) (rest : List ℕ) (s : State) (fields : List (List ℕ)) (field : List ℕ) (c : ℕ) (p : Read) → next_record cfg s fields field (c ∷ rest) ≡ Some p → length p.2 ≤ length rest
unfolding next_record
leaves cfg [] s fields field c p e =
    let s2 : State = (step cfg s c).0 in
    let fields2 : List (List ℕ) = fields_after (step cfg s c).1 fields field in
    let field2 : List ℕ = field_after (step cfg s c).1 c field in
    choose (is_end (step cfg s c).1) (fields2, s2, []) p (next_record cfg s2 fields2 field2 []) 0 e (omega arith)
    (λ e2. choose (ends_at_end s2) (fields2 ++ (field2 ∷ []), st.StartRecord, []) p None 0 e2 (omega arith) (λ e3. cc e3))
leaves cfg (d ∷ more) s fields field c p e =
    let s2 : State = (step cfg s c).0 in
    let fields2 : List (List ℕ) = fields_after (step cfg s c).1 fields field in
    let field2 : List ℕ = field_after (step cfg s c).1 c field in
    choose (is_end (step cfg s c).1) (fields2, s2, d ∷ more) p (next_record cfg s2 fields2 field2 (d ∷ more)) (suc (length more)) e (omega arith)
    (λ e2. omega (arith, leaves cfg more s2 fields2 field2 d p e2))

-- no record starts at the end of a text
at_end : (cfg : Config) (n : ℕ) (rows : List (List (List ℕ))) (s2 : State) (ys : List ℕ) → Reached cfg st.StartRecord [] rows s2 ys → records_from cfg n st.StartRecord [] ≡ rows
unfolding next_record records_from Reached
at_end cfg n (r ∷ rs) s2 ys h = cc h.1
at_end cfg zero [] s2 ys h = refl
at_end cfg (suc n) [] s2 ys h = refl

-- without another reading, the present one is the result
last_one : (b : Bool) (a p : Read) → (if b then Some a else None) ≡ Some p → a ≡ p
last_one true a p e = cc e
last_one false a p e = cc e

-- enough fuel gives the records that were read
turns : (cfg : Config) (n : ℕ) (rows : List (List (List ℕ))) (s : State) (xs : List ℕ) (s2 : State) (ys : List ℕ) → length xs < n → Reached cfg s xs rows s2 ys → next_record cfg s2 [] [] ys ≡ None
    → records_from cfg n s xs ≡ rows
unfolding next_record records_from Reached
turns cfg zero rows s xs s2 ys l h none = absurd (omega arith)
turns cfg (suc n) [] s xs s2 ys l h none =
    ap (records_next (records_from cfg n)) (ap (λ (t : State). next_record cfg t [] [] xs) h.0 ∙ ap (λ (t : List ℕ). next_record cfg s2 [] [] t) h.1 ∙ none)
turns cfg (suc n) (r ∷ rs) s [] s2 ys l h none =
    let p = h.0 in
    let same = last_one (ends_at_end s) ([] ∷ [], st.StartRecord, []) p h.1 in
    let more = subst (λ (q : Read). Reached cfg q.1 q.2 rs s2 ys) (sym same) h.3 in
    ap (records_next (records_from cfg n)) (h.1 ∙ ap Some (sym same))
    ∙ ap (λ t. ([] ∷ []) ∷ t) (at_end cfg n rs s2 ys more) ∙ ap (λ t. t ∷ rs) (ap (λ (q : Read). q.0) same ∙ sym h.2)
turns cfg (suc n) (r ∷ rs) s (c ∷ more) s2 ys l h none =
    let p = h.0 in
    let fewer = leaves cfg more s [] [] c p h.1 in
    ap (records_next (records_from cfg n)) h.1
    ∙ ap (λ t. p.0 ∷ t) (turns cfg n rs p.1 p.2 s2 ys (omega (arith, fewer, l)) h.3 none) ∙ ap (λ t. t ∷ rs) (sym h.2)

-- the records of the text are those read one after another
pub all_records : (cfg : Config) (xs : List ℕ) (rows : List (List (List ℕ))) → AreRecords cfg st.StartRecord xs rows → rows ≡ records cfg xs
all_records cfg xs rows h = sym (turns cfg (length xs + 1) rows st.StartRecord xs h.0 h.1 (omega arith) h.2 h.3)
