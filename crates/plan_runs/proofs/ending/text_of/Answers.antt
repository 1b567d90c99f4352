use Rattle.std.proofs.Common.{◌∙◌, ◌++◌, ℕ, List, Option, ap, subst, sym, take}
use Rattle.audit_model.specs.declared.outcome.Outcome.{Outcome}
use Rattle.audit_statement.specs.Report.{report}
use Rattle.report.specs.Outcomes.{AreOutcomesOf, AreStopsOf}
use Rattle.plan_runs.specs.Found.{listed_in, observed_in}
use Rattle.plan_runs.proofs.ending.text_of.Goals as goal

pub text-requires-clause-outcomes : goal.text-requires-clause-outcomes
text-requires-clause-outcomes g c =
    subst (AreOutcomesOf c.args.job.now) (sym (c.first_outcomes-outcomes.ensures ∙ ap (λ (os : List Outcome). take c.args.found.listed os) c.as_slice.ensures))
    (c.requires.reportable.outcomes c.requires.whole)

pub text-requires-clause-stops : goal.text-requires-clause-stops
text-requires-clause-stops g c = subst (AreStopsOf c.args.job.now) (sym c.first_stops-places.ensures) c.requires.reportable.stops

pub text-requires-clause-room : goal.text-requires-clause-room
text-requires-clause-room g c =
    let outcomes = c.first_outcomes-outcomes.ensures ∙ ap (λ (os : List Outcome). take c.args.found.listed os) c.as_slice.ensures in
    c.requires.reportable.report_room c.first_outcomes-outcomes.result.now c.first_stops-places.result.now c.test_serially-serial.result
    (subst (AreOutcomesOf c.args.job.now) (sym outcomes) (c.requires.reportable.outcomes c.requires.whole))
    (subst (AreStopsOf c.args.job.now) (sym c.first_stops-places.ensures) c.requires.reportable.stops)
    c.test_serially-serial.ensures.within

pub returns : goal.returns
returns g c =
    let job = c.args.job.now in
    let outcomes = c.first_outcomes-outcomes.ensures ∙ ap (λ (os : List Outcome). take c.args.found.listed os) c.as_slice.ensures in
    c.text.ensures.items
    ∙ ap (λ xs. xs ++ report job c.first_outcomes-outcomes.result.now c.first_stops-places.result.now c.test_serially-serial.result) c.requires.reportable.blank
    ∙ ap (λ (os : List Outcome). report job os c.first_stops-places.result.now c.test_serially-serial.result) outcomes
    ∙ ap (λ (stops : List (List ℕ)). report job (listed_in c.args.found) stops c.test_serially-serial.result) c.first_stops-places.ensures
    ∙ ap (λ (serial : Option (ℕ × List ℕ)). report job (listed_in c.args.found) (observed_in c.args.found) serial) c.test_serially-serial.ensures.found
