use Rattle.tally_desk.proofs.Regular.{unfailed_posts_are_regular}
use Rattle.tally_desk.proofs.laws.unfailed_posts_are_regular.Goals as goal

pub returns : goal.returns
returns c = unfailed_posts_are_regular
