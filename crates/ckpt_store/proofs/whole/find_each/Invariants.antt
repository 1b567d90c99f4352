use Rattle.std.proofs.Common.{◌≡◌, map, take, drop, length}
use Rattle.ckpt_store.specs.Collected.{IsCovered}
use Rattle.ckpt_store.specs.Findings.{AreFound}
use Rattle.ckpt_store.proofs.whole.find_each.Given as goal

abbrev pub invariant-loop-place : goal.invariant-loop-place
invariant-loop-place g l =
    (l.collection.total ≡ l.initial.collection.total) × IsCovered l.collection × (length l.folders ≡ length l.initial.folders)
    × (drop l.place l.folders ≡ drop l.place l.initial.folders)
    × AreFound l.job l.digest (map (λ k. g.F.Keeper.state k) (take l.place l.initial.folders)) (map (λ k. g.F.Keeper.state k) (take l.place l.folders)) l.initial.collection l.findings l.collection
