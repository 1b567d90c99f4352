-- Loading both slots, one after the other.
use Rattle.std.proofs.Common.{◌≡◌, Option, Some, None, ap, subst, ◌∙◌}
use Rattle.audit_model.specs.Pair.{Pair}
use Rattle.ckpt_store.specs.Holding.{HasLoaded}
use Rattle.ckpt_store.specs.declared.slot_content.Loaded.{Loaded}
use Rattle.audit_folders.specs.Shown.{HasLoadedBoth}

pub both_loaded : (observed later : Option Pair) (zero one : Loaded) → later ≡ observed → HasLoaded observed 0 zero → HasLoaded later 1 one → HasLoadedBoth observed zero one
both_loaded observed later zero one is first second = by observed first (subst (λ t. HasLoaded t 1 one) is second)
  where
    by : (observed : Option Pair) → HasLoaded observed 0 zero → HasLoaded observed 1 one → HasLoadedBoth observed zero one
    by None a b = record { pair = record { zero_slot = a.slot; one_slot = b.slot }; same = tt; first = a.is; second = b.is }
    by (Some p) a b = record {
      pair = record { zero_slot = a.slot; one_slot = b.slot };
      same = ap (λ t. record { zero_slot = t; one_slot = b.slot }) a.same ∙ ap (λ t. record { zero_slot = p.zero_slot; one_slot = t }) b.same;
      first = a.is;
      second = b.is;
    }
