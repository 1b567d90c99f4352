use Rattle.flip_kernel.proofs.Dividing.{place_by}
use Rattle.flip_kernel.proofs.proposal.Pairs.is_past.Goals as goal

pub returns : goal.returns
returns c = place_by c.args.draw c.args.self.now.count c.args.self.now.last c.args.rest c.requires.blocks.some c.requires.blocks.last c.requires.rest
