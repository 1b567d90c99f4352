use Rattle.std.proofs.Common.{◌∙◌, ap, arith, refl, rules}
use Rattle.std.proofs.lemmas.Grind.{common_steps}
use Rattle.audit_model.specs.declared.rules.Rules.{Rules}
use Rattle.audit_run.proofs.trace.trace_cut.Goals as goal

pub guards-requires-clause-no_regions : goal.guards-requires-clause-no_regions
guards-requires-clause-no_regions g c = ap (λ (r : Rules). r.regions) c.rules-rules.ensures.value ∙ c.requires.no_regions

pub guards-requires-clause-no_group : goal.guards-requires-clause-no_group
guards-requires-clause-no_group g c = ap (λ (r : Rules). r.group_districts) c.rules-rules.ensures.value ∙ c.requires.no_group

pub guards-requires-clause-no_frozen : goal.guards-requires-clause-no_frozen
guards-requires-clause-no_frozen g c = ap (λ (r : Rules). r.frozen) c.rules-rules.ensures.value ∙ c.requires.no_frozen

pub trace-requires-clause-judge : goal.trace-requires-clause-judge
trace-requires-clause-judge g c =
    let is = c.in-Ok.ensures.each 0 c.remove.result (omega (arith, c.in-Ok.ensures.count)) in
    rw c.remove.ensures.value (record {
      kept = (
        rw is.test_is (first_of (search rules, grind (arith, common_steps))),
        rw (is.test_is, is.rules_are) (first_of (search rules, grind (arith, common_steps))),
        ap (λ (r : Rules). r.regions) (is.rules_are ∙ c.rules-rules.ensures.value) ∙ c.requires.no_regions,
        ap (λ (r : Rules). r.group_districts) (is.rules_are ∙ c.rules-rules.ensures.value) ∙ c.requires.no_group,
        ap (λ (r : Rules). r.frozen) (is.rules_are ∙ c.rules-rules.ensures.value) ∙ c.requires.no_frozen,
      );
      ruled = is.rules_are ∙ c.rules-rules.ensures.value;
      taken = λ districts few. refl;
    })
