use Rattle.std.proofs.Common.{◌≡◌, ℕ, List, Result, Ok, Err, sym, ◌∙◌, subst}
use Rattle.std.specs.Prelude.{IfOk}
use Rattle.district_sums.specs.Following.{AreInputs, Following, StandsFor, districts_in}
use Rattle.flip_kernel.specs.ChainState.{IsSummed}
use Rattle.flip_kernel.proofs.Reading.{inputs_for, stands_for}
use Rattle.flip_kernel.proofs.start.sums_of.Goals as goal

-- two facts of an `Ok` that give a third
both : {E : Type 0} (r : Result Following E) (P Q R : Following → Type 0) → ((s : Following) → P s → Q s → R s) → IfOk r P → IfOk r Q → IfOk r R
both (Ok s) P Q R all p q = all s p q
both (Err e) P Q R all p q = tt

pub of-requires : goal.of-requires
of-requires c =
    let job = c.args.job.now in
    let sound = c.graph.ensures.sound in
    record {
      inputs =
          subst (λ (p : List ℕ). AreInputs c.graph.result.now c.counts.result.now c.districts.result p) (sym (c.as_slice.ensures ∙ c.start.ensures.value))
          (inputs_for job job.start c.graph.result.now c.counts.result.now c.districts.result sound sound.legal c.graph.ensures.value c.counts.ensures.value c.districts.ensures.value);
    }

pub returns : goal.returns
returns c =
    let job = c.args.job.now in
    let g = c.graph.result.now in
    let counts = c.counts.result.now in
    let plan : List ℕ = c.as_slice.result.now in
    both c.of.result (λ s. districts_in s ≡ c.districts.result) (λ s. StandsFor g counts plan s) (λ s. IsSummed job job.start s)
    (λ s places stands. record {
      legal = c.graph.ensures.sound.legal;
      places = places ∙ c.districts.ensures.value;
      stands = subst (λ (p : List ℕ). StandsFor job.graph job.counts p s) (c.as_slice.ensures ∙ c.start.ensures.value)
          (stands_for g job.graph counts job.counts plan s (sym c.graph.ensures.value) (sym c.counts.ensures.value) stands);
    })
    c.of.ensures.districts c.of.ensures.stands
