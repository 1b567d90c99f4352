use Rattle.std.proofs.Common.{◌<◌, ap, arith, length, map, sym, inl, inr, subst, get_or, List, ℕ}
use Rattle.std.proofs.lemmas.Result.{err_from_is_err_and}
use Rattle.audit_model.proofs.Results.{match_map}
use Rattle.csv.specs.Records.{fields_of}
use Rattle.plan_csv.proofs.Bridge.{unit_under}
use Rattle.plan_csv.proofs.Refused.{twice_first, missing_first, none_refused, all_records}
use Rattle.plan_csv.proofs.units.records_from.Goals as goal

pub places_of-requires-clause-within : goal.places_of-requires-clause-within
places_of-requires-clause-within c =
    let u = c.in_ok-units.ensures c.args.ids.now c.in_ok-index.ensures.1 in
    λ k l. subst (λ (us : List ℕ). get_or us k 0 < length c.args.ids.now) (sym c.as_slice.ensures.value)
    (unit_under c.args.ids.now (map fields_of c.args.entries.now) c.in_ok-units.units.items u.1 k (omega (arith, l, ap length c.as_slice.ensures.value, u.1.count)))

pub returns-in_err-places : goal.returns-in_err-places
returns-in_err-places c =
    let u = c.in_ok-units.ensures c.args.ids.now c.in_ok-index.ensures.1 in
    let p = err_from_is_err_and c.from_residual-in_err-places.result c.from_residual-in_err-places.ensures.1 in
    let why = rw (c.as_slice.ensures.value) at c.in_err-places.ensures in
    rw (p.1, p.2) (elim why [
      | inl memory ↦ inl memory
      | inr found ↦ inr (twice_first c.args.ids.now (map fields_of c.args.entries.now) c.in_ok-index.ensures.0 u.0 c.in_ok-units.units.items u.1 _ found)
    ])

pub returns : goal.returns
returns c =
    let u = c.in_ok-units.ensures c.args.ids.now c.in_ok-index.ensures.1 in
    let rows = map fields_of c.args.entries.now in
    let us = c.in_ok-units.units.items in
    let placed = rw (c.as_slice.ensures.value) at c.in_ok-places.ensures in
    let same = c.as_slice-2.ensures.value in
    match_map c.records_of.result _ _ _ _ c.records_of.ensures
    (λ records got. let have = rw same at got in (
      none_refused c.args.ids.now rows c.in_ok-index.ensures.0 u.0 us u.1 placed.0 c.in_ok-places.places.items placed.1 have.0,
      all_records c.args.ids.now rows c.in_ok-index.ensures.0 u.0 us u.1 placed.0 c.in_ok-places.places.items placed.1 records.items have.1,
    ))
    (λ f why. let reason = rw same at why in elim reason [
      | inl memory ↦ inl memory
      | inr found ↦ inr (missing_first c.args.ids.now rows c.in_ok-index.ensures.0 u.0 us u.1 placed.0 c.in_ok-places.places.items placed.1 f found)
    ])
