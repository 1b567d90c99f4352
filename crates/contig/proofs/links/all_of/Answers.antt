use Rattle.std.proofs.Common.{◌≡◌, ◌≢◌, ℕ, ◌+◌, ◌<◌, Bool, true, false, not, ◌&&◌, ◌||◌, List, get_or, refl, inl, inr, arith}
use Rattle.std.specs.Prelude.{◌==◌}
use Rattle.std.proofs.lemmas.Bool.{or_cases, or_parts, not-true, both_ways, false≢true, eqb-true, eqb-false, not_from_false, cases_Bool}
use borrow.Author.Count.{below_more}
use Rattle.contig.proofs.links.all_of.Goals as goal

-- the classes of the mates among the first neighbors are all this class, or one is not
record Looked (plan row classes : List ℕ) (district class place : ℕ) (all : Bool) : Type 0 where
  yes : all ≡ true → (k : ℕ) → k < place → get_or plan (get_or row k 0) 0 ≡ district → get_or classes k 0 ≡ class
  no : all ≡ false → (i : ℕ) × (i < place) × (get_or plan (get_or row i 0) 0 ≡ district) × (get_or classes i 0 ≢ class)

-- one more neighbor
looked_more : (plan row classes : List ℕ) (district class place : ℕ) (all : Bool) → Looked plan row classes district class place all
    → Looked plan row classes district class (place + 1) (all && (not (get_or plan (get_or row place 0) 0 == district) || (get_or classes place 0 == class)))
looked_more plan row classes district class place true was = record {
  yes = λ h. below_more (λ k. get_or plan (get_or row k 0) 0 ≡ district → get_or classes k 0 ≡ class) place (was.yes refl)
      (λ e. elim (or_cases (not (get_or plan (get_or row place 0) 0 == district)) (get_or classes place 0 == class) h) [
        | inl off ↦ absurd (eqb-false (get_or plan (get_or row place 0) 0) district (not-true (get_or plan (get_or row place 0) 0 == district) off) e)
        | inr on ↦ eqb-true (get_or classes place 0) class on
      ]);
  no = λ h.
      let parts = or_parts (not (get_or plan (get_or row place 0) 0 == district)) (get_or classes place 0 == class) h in (
        place,
        omega arith,
        elim (cases_Bool (get_or plan (get_or row place 0) 0 == district)) [
          | inl on ↦ eqb-true (get_or plan (get_or row place 0) 0) district on
          | inr off ↦ absurd (both_ways (not (get_or plan (get_or row place 0) 0 == district)) parts.0 (not_from_false (get_or plan (get_or row place 0) 0 == district) off))
        ],
        eqb-false (get_or classes place 0) class parts.1,
      );
}
looked_more plan row classes district class place false was = record {
  yes = λ h. absurd (false≢true h);
  no = λ h. let old = was.no refl in (old.0, omega (arith, old.1), old.2, old.3);
}

pub loop-place-preserved : goal.loop-place-preserved
loop-place-preserved c =
    let more = looked_more c.args.leaving.plan.now c.neighbours-row.result.now c.args.classes.now (get_or c.args.leaving.plan.now c.args.leaving.unit 0) c.args.class c.loop-place.place c.loop-place.all
    (record { yes = c.loop-place.invariant.0; no = c.loop-place.invariant.1 }) in
    (more.yes, more.no)
