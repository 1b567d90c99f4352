use Rattle.std.proofs.Common.{◌≡◌, ℕ, ◌*◌, length, sym, ap, ◌∙◌, arith}
use Rattle.std.proofs.lemmas.List.{length-replicate}
use Rattle.audit_model.specs.Below.{above_all}
use Rattle.audit_model.proofs.ListFacts.{above_all_most}
use Rattle.region_guard.specs.declared.splits.SplitCounts.{SplitCounts}
use Rattle.region_guard.proofs.guard.RegionGuard.new.Goals as goal

pub zeros-requires-clause-few_rows : goal.zeros-requires-clause-few_rows
zeros-requires-clause-few_rows g c =
    let is_rows : c.row_count-rows.result ≡ above_all c.args.rules.regions = c.row_count-rows.ensures ∙ ap above_all c.as_slice.ensures in
    let few = above_all_most c.args.rules.regions 5000 (λ k l. c.requires.few_regions k 0 l) in
    omega (arith, is_rows, few)

pub returns-clause-table : goal.returns-clause-table
returns-clause-table g c =
    let rows : ℕ = c.row_count-rows.result in
    let is_rows : rows ≡ above_all c.args.rules.regions = c.row_count-rows.ensures ∙ ap above_all c.as_slice.ensures in
    let is = c.in_ok-splits.ensures in
    let wide = ap (λ (s : SplitCounts). length {A = ℕ} s.widths) is ∙ length-replicate rows 0 in
    let long = ap (λ (s : SplitCounts). length {A = ℕ} s.cells) is ∙ length-replicate (rows * c.args.districts) 0 in
    record {
      rows = wide ∙ is_rows;
      places = long ∙ ap (λ n. n * c.args.districts) (sym wide);
      few_rows = above_all_most c.args.rules.regions 5000 (λ k l. c.requires.few_regions k 0 l);
      some = c.requires.districts.0;
      few = c.requires.districts.1;
    }
