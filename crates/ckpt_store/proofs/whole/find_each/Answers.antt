use Rattle.std.proofs.Common.{◌<◌, ◌∙◌, get_or, ◌∷◌, [], ◌++◌, map, take, sym, subst, List, length, arith}
use Rattle.std.proofs.lemmas.List.{length-set}
use Rattle.audit_model.specs.State.{KeeperState}
use Rattle.ckpt_store.specs.declared.finding.Finding.{Finding}
use Rattle.ckpt_store.specs.Findings.{AreFound}
use Rattle.ckpt_store.proofs.FoundSlots.{found_more, left_next, rest_next, taken_next}
use Rattle.ckpt_store.proofs.whole.find_each.Goals as goal

pub loop-place-preserved : goal.loop-place-preserved
loop-place-preserved g c =
    let i = c.loop-place.invariant in
    let observed = λ (k : g.row.F.Denot). g.F.Keeper.state k in
    let now = c.loop-place.folders in
    let first = c.args.folders.now in
    let place = c.loop-place.place in
    let l : place < length now = omega (arith, i.2, c.loop-place-test.true) in
    let d = c.index-folders-place.result in
    let new = c.find_in.new.folder in
    let more : AreFound c.args.job.now c.args.digest.now (map observed (take place first) ++ observed (get_or now place d) ∷ []) (map observed (take place now) ++ observed new ∷ [])
    c.args.collection.now (c.loop-place.findings ++ c.in_ok-found.found ∷ []) c.find_in.new.collection =
    found_more c.args.job.now c.args.digest.now (map observed (take place first)) (map observed (take place now)) (observed (get_or now place d)) (observed new) c.args.collection.now
    c.loop-place.collection c.find_in.new.collection c.loop-place.findings c.in_ok-found.found i.4 c.in_ok-found.ensures.found in (
      c.in_ok-found.ensures.total ∙ i.0,
      c.in_ok-found.ensures.covered,
      length-set now place new ∙ i.2,
      rest_next observed now first place i.2 l i.3 d new,
      subst (λ (fs : List KeeperState × List KeeperState). AreFound c.args.job.now c.args.digest.now fs.0 fs.1 c.args.collection.now c.push.new.self c.find_in.new.collection)
          (λ k. (sym (taken_next observed now first place i.2 l i.3 d) k, sym (left_next observed now first place i.2 l i.3 d new) k))
          (subst (λ (fs : List Finding). AreFound c.args.job.now c.args.digest.now (map observed (take place first) ++ observed (get_or now place d) ∷ []) (map observed (take place now) ++ observed new ∷ [])
          c.args.collection.now fs c.find_in.new.collection)
          (sym c.in_ok-push.ensures.ok) more),
    )
