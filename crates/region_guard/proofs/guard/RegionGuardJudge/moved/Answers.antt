use Rattle.std.proofs.Common.{◌≡◌, ℕ, length, sym, ap, ◌∙◌, subst}
use Rattle.region_guard.specs.declared.guard.RegionGuard.{RegionGuard}
use Rattle.region_guard.specs.Standing.{IsGroupTable}
use Rattle.region_guard.proofs.guard.RegionGuardJudge.moved.Goals as goal

pub returns-clause-kept : goal.returns-clause-kept
returns-clause-kept g c =
    let G : Type 0 = RegionGuard g.row.F.Denot g.row.T.Denot in
    let old : G = c.args.self.now in
    let new : G = c.move_region.new.self in
    let others = c.move_region.ensures.others in
    let kept = c.requires.kept in
    let long : length {A = ℕ} new.tally.members ≡ new.districts =
    ap (λ (s : G). length {A = ℕ} s.tally.members) others ∙ kept.6.members ∙ ap (λ (s : G). s.districts) (sym others) in
    let last : IsGroupTable new.rules.group new.districts c.record_move.new.self =
    subst (λ (n : ℕ). IsGroupTable new.rules.group n c.record_move.new.self) long c.record_move.ensures.table in
    let same : IsGroupTable old.rules.group old.districts c.record_move.new.self =
    subst (λ (s : G). IsGroupTable s.rules.group s.districts c.record_move.new.self) others last in
    rw others (kept.0, kept.1, kept.2, kept.3, kept.4, c.move_region.ensures.table, same, c.record_move.ensures.share ∙ ap (λ (s : G). s.tally.share) others ∙ kept.7, kept.8)
