use Rattle.std.proofs.Common.{◌<◌, ap, length, rules, arith, ◌∙◌}
use Rattle.std.proofs.lemmas.List.Elements.{All-from_get_or, recursion_from_All}
use Rattle.ckpt_format.proofs.Sizes.{length-checkpoint, length-head_bytes, length-outcomes}
use Rattle.ckpt_format.proofs.Writing.{written}
use Rattle.ckpt_format.proofs.encode.encode_as.Goals as goal

pub append_head-requires : goal.append_head-requires
append_head-requires c = omega (arith, c.clear.ensures.spare, c.requires.room)

pub append_outcomes-requires : goal.append_outcomes-requires
append_outcomes-requires c =
    let head = length-head_bytes c.args.version c.args.digest.now c.args.generation (length c.args.outcomes.now) (search rules) in
    omega (arith, head, c.clear.ensures.spare, c.append_head.ensures.spare, c.requires.room)

pub append_digest-requires : goal.append_digest-requires
append_digest-requires c =
    let head = length-head_bytes c.args.version c.args.digest.now c.args.generation (length c.args.outcomes.now) (search rules) in
    let outcomes = length-outcomes c.args.version c.args.outcomes.now c.append_outcomes.ensures.sound in
    omega (arith, head, outcomes, c.clear.ensures.spare, c.append_head.ensures.spare, c.append_outcomes.ensures.bytes.spare, c.requires.room)

pub returns-clause-bytes : goal.returns-clause-bytes
returns-clause-bytes c = written _ _ _ _ _ _ _ _ c.clear.ensures.items c.append_head.ensures c.append_outcomes.ensures.bytes c.append_digest.ensures

pub returns-clause-length : goal.returns-clause-length
returns-clause-length c =
    ap length (written _ _ _ _ _ _ _ _ c.clear.ensures.items c.append_head.ensures c.append_outcomes.ensures.bytes c.append_digest.ensures)
    ∙ length-checkpoint c.args.version c.args.digest.now c.args.generation c.args.outcomes.now (search rules) c.append_outcomes.ensures.sound

pub returns-clause-sound : goal.returns-clause-sound
returns-clause-sound c = λ storable. record {
  storable_histograms = storable;
  digest_length = search rules;
  digest_bytes = recursion_from_All (λ b. b < 256) c.args.digest.now (All-from_get_or (λ b. b < 256) c.args.digest.now 0 (λ i l. c.fits-digest i));
  generation_below = c.requires.generation;
  few = c.requires.few;
  rising = c.requires.rising;
  each = c.append_outcomes.ensures.sound;
  spelled = written _ _ _ _ _ _ _ _ c.clear.ensures.items c.append_head.ensures c.append_outcomes.ensures.bytes c.append_digest.ensures;
}
