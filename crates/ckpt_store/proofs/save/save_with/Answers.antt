use Rattle.std.proofs.Common.{List, ℕ, rules, subst}
use Rattle.audit_model.specs.Pair.{HoldsBytes}
use Rattle.ckpt_store.proofs.Turns.{newest_where_observed}
use Rattle.ckpt_store.proofs.save.save_with.Goals as goal

pub returns-clause-saves : goal.returns-clause-saves
returns-clause-saves g c =
    let observed = (g.C.Keeper.state c.save.new.self).slots in
    let place = c.args.place.now in
    let holds = subst (λ (bytes : List ℕ). HoldsBytes observed place.slot bytes) c.as_slice.ensures c.in_ok-save.ensures.saved in
    record {
      sound = search rules;
      slot_bytes = search rules;
      newest = newest_where_observed c.encode_with.new.out.items 2 c.args.digest.now place.slot place.generation c.args.outcomes.now observed c.requires.slot c.encode_with.ensures.sound holds;
      other = search rules;
      cause = search rules;
      loads = search rules;
      attempted = search rules;
    }
