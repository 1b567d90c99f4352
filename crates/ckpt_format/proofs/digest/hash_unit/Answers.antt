use Rattle.std.proofs.Common.{◌≡◌, ℕ, List, get_or, length, ap, sym, subst, ◌∙◌, ◌<◌}
use Rattle.std.specs.Int.{w32, w64, to_be_bytes}
use Rattle.audit_model.specs.declared.outcome.Counts.{Counts}
use Rattle.ckpt_format.proofs.Hashing.{hashes_same, hashes_then}
use Rattle.ckpt_format.proofs.digest.hash_unit.Goals as goal

-- an index below a column's length, which is the number of units
within : (unit units : ℕ) (numbers column : List ℕ) → numbers ≡ column → length column ≡ units → unit < units → unit < length numbers
within unit units numbers column same long l = subst (λ n. unit < n) (sym (ap (length {A = ℕ}) same ∙ long)) l

pub hash_number_at-requires : goal.hash_number_at-requires
hash_number_at-requires c =
    within c.args.unit _ c.counts-counts.result.now.population _ (ap (λ (n : Counts). n.population) c.counts-counts.ensures.value) c.counts-counts.ensures.sound.within.input.population.width c.requires

pub hash_number_at-requires-2 : goal.hash_number_at-requires-2
hash_number_at-requires-2 c =
    within c.args.unit _ c.counts-counts.result.now.first _ (ap (λ (n : Counts). n.first) c.counts-counts.ensures.value) c.counts-counts.ensures.sound.within.input.first.width c.requires

pub hash_number_at-requires-3 : goal.hash_number_at-requires-3
hash_number_at-requires-3 c =
    within c.args.unit _ c.counts-counts.result.now.second _ (ap (λ (n : Counts). n.second) c.counts-counts.ensures.value) c.counts-counts.ensures.sound.within.input.second.width c.requires

pub returns : goal.returns
returns c =
    let unit = c.args.unit in
    let four = λ (numbers : List ℕ). to_be_bytes w32 (get_or numbers unit 0) in
    let eight = λ (numbers : List ℕ). to_be_bytes w64 (get_or numbers unit 0) in
    let population = hashes_same _ _ _ _ (ap eight (ap (λ (n : Counts). n.population) c.counts-counts.ensures.value)) c.hash_number_at.ensures in
    let first = hashes_same _ _ _ _ (ap eight (ap (λ (n : Counts). n.first) c.counts-counts.ensures.value)) c.hash_number_at-2.ensures in
    let second = hashes_same _ _ _ _ (ap eight (ap (λ (n : Counts). n.second) c.counts-counts.ensures.value)) c.hash_number_at-3.ensures in
    let district = hashes_same _ _ _ _ (ap four (c.as_slice.ensures ∙ c.start.ensures.value)) c.hash_u32.ensures in
    hashes_then _ _ _ _ _ (hashes_then _ _ _ _ _ (hashes_then _ _ _ _ _ population first) second) district
