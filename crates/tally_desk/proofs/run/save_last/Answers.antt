use Rattle.std.proofs.Common.{ℕ, subst}
use Rattle.ckpt_store.proofs.Ours.{checkpoints_are_ours}
use Rattle.ckpt_store.proofs.Turns.{saved_slots_are_newest}
use Rattle.tally_desk.specs.RunResult.{BothSaved}
use Rattle.tally_desk.proofs.InTurn.{unfailed_runs_save_in_turn}
use Rattle.tally_desk.proofs.LastSave.{has_run, lets_last}
use Rattle.tally_desk.proofs.run.save_last.Goals as goal

pub save_rest-rest-requires-clause-lets : goal.save_rest-rest-requires-clause-lets
save_rest-rest-requires-clause-lets g c = λ none.
    let closed = c.requires.closed in
    lets_last g.C.Keeper.state closed.0 closed.1.0 c.args.state closed.1.1.0 g.C.Keeper.lets closed.1.1.1 none

pub returns : goal.returns
returns g c = λ parts v k.
    let last = c.save_rest-rest.ensures in
    has_run g.C.Keeper.state (unfailed_runs_save_in_turn saved_slots_are_newest checkpoints_are_ours) parts v c.args.state c.save_rest-rest.new.state k
    c.save_rest-rest.result c.combine_results-saved.result last.rest
    (subst (λ (n : ℕ). BothSaved n c.save_rest-rest.result c.combine_results-saved.result) last.rest.failed c.combine_results-saved.ensures) last.sorted last.book last.all last.rising
