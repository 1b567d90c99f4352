use Rattle.std.proofs.Common.{◌≡◌, length, map, take}
use Rattle.std.specs.Prelude.{string_bytes}
use Rattle.audit_folders.proofs.opened.open_all.Given as goal

abbrev pub invariant-loop-name : goal.invariant-loop-name
invariant-loop-name g l = record {
  count : length l.opened.items ≡ l.name-index;
  states : map (λ k. g.F.Slots.Keeper.state k) l.opened.items ≡ map (λ f. g.F.Folders.opens l.folders f l.locks) (map string_bytes (take l.name-index l.names));
}
