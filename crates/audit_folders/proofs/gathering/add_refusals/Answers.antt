use Rattle.std.proofs.Common.{◌+◌, ◌∙◌, [], ap, arith, length, map, ◌<◌, refl, sym}
use Rattle.std.specs.Prelude.{string_bytes}
use Rattle.std.proofs.lemmas.List.{get_or-map, length-map}
use Rattle.audit_folders.specs.FolderLines.{folder_refusal}
use Rattle.audit_folders.proofs.Texts.{adds_as, adds_both, adds_none, each_all, each_next, next_each, past}
use Rattle.audit_folders.proofs.gathering.add_refusals.Goals as goal

pub loop-place-init : goal.loop-place-init
loop-place-init g c = record { added = adds_none }

pub loop-place-preserved : goal.loop-place-preserved
loop-place-preserved g c =
    let names = map string_bytes c.args.names.now in
    let i = c.loop-place.place in
    let long = length-map c.args.names.now string_bytes in
    let less : i < length c.args.names.now = omega (arith, c.loop-place-test.true, c.min-count.ensures) in
    let name = c.as_str-name.ensures.value ∙ ap string_bytes c.index-names-place.is ∙ sym (get_or-map string_bytes c.args.names.now i c.index-names-place.result [] less) in
    record {
      added = adds_as (adds_both c.loop-place.invariant.added c.add_refusal-going.ensures)
          (each_next (folder_refusal names) names c.args.findings.now i (i + 1) _ _ name refl (omega (arith, less, long)) (omega (arith, c.loop-place-test.true, c.min-count.ensures)));
    }

pub returns : goal.returns
returns g c =
    adds_as c.loop-place.invariant.added (each_all (folder_refusal (map string_bytes c.args.names.now)) (map string_bytes c.args.names.now) c.args.findings.now c.loop-place.place
    (past _ _ _ c.loop-place.place (c.min-count.ensures) (length-map c.args.names.now string_bytes) c.loop-place-test.false))

pub add_refusal-going-requires : goal.add_refusal-going-requires
add_refusal-going-requires g c =
    let names = map string_bytes c.args.names.now in
    let i = c.loop-place.place in
    let long = length-map c.args.names.now string_bytes in
    let less : i < length c.args.names.now = omega (arith, c.loop-place-test.true, c.min-count.ensures) in
    let name = c.as_str-name.ensures.value ∙ ap string_bytes c.index-names-place.is ∙ sym (get_or-map string_bytes c.args.names.now i c.index-names-place.result [] less) in
    next_each (folder_refusal names) names c.args.findings.now i _ _ name (omega (arith, less, long)) (omega (arith, c.loop-place-test.true, c.min-count.ensures)) c.requires c.loop-place.invariant.added
