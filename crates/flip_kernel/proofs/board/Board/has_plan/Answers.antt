use Rattle.std.proofs.Common.{sym, ap, ◌∙◌}
use Rattle.flip_kernel.specs.ChainState.{ChainState}
use Rattle.std.proofs.lemmas.Bool.Decides.{Decides-eqb}
use Rattle.std.proofs.lemmas.Slice.Eq.{slice_eq-Decides}
use Rattle.flip_kernel.proofs.board.Board.has_plan.Goals as goal

pub returns : goal.returns
returns c = λ t. ap (λ (s : ChainState). s.plan) (sym c.self.view_is) ∙ sym c.as_slice.ensures ∙ (slice_eq-Decides Decides-eqb c.as_slice.result.now c.args.plan.now c.eq.result c.eq.ensures).0 t
