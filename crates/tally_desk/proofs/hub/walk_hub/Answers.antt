use Rattle.std.proofs.Common.{◌∙◌, ◌++◌, ◌≤◌, arith, drop, length, length-append}
use Rattle.std.proofs.lemmas.List.{length-drop, length-take-le}
use Rattle.std.proofs.lemmas.List.Elements.{All-set}
use Rattle.claim_counter.specs.Walkers.{IsWalker}
use Rattle.tally_desk.proofs.hub.walk_hub.Goals as goal

pub returns-then-needs_hub-clause-pool : goal.returns-then-needs_hub-clause-pool
returns-then-needs_hub-clause-pool g c =
    let was = c.requires.pool in
    let before = c.args.pool.now.hub in
    let now = c.hub_into.new.hub in
    let long : length before ≤ length (now ++ drop (length now) before) = omega (arith, length-append now (drop (length now) before), length-drop (length now) before) in
    record {
      walkers_are = All-set (IsWalker c.args.job.now) c.args.pool.now.walkers.items 0 c.hub_into.new.self c.hub_into.ensures.made was.walkers_are;
      count_is = was.count_is;
      blank = was.blank;
      room = was.room;
      buffer_count = was.buffer_count;
      buffer_rooms = was.buffer_rooms;
      few_buffered = was.few_buffered;
      hub_units = length-take-le (length before) (now ++ drop (length now) before) long ∙ was.hub_units;
    }

pub returns-else-needs_hub-clause-pool : goal.returns-else-needs_hub-clause-pool
returns-else-needs_hub-clause-pool g c = c.requires.pool
