use Rattle.tally_desk.proofs.Wholes.{posts_stay_whole}
use Rattle.tally_desk.proofs.laws.posts_stay_whole.Goals as goal

pub returns : goal.returns
returns c = posts_stay_whole
