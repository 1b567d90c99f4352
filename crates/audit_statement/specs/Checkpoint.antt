-- The bytes of a checkpoint, the digest of a job, and the first fault in bytes that are no checkpoint. FIPS 180-4 for
-- SHA-256, this project's format for the rest. A checkpoint is one whole text; the code reads fields at offsets.
use Rattle.std.specs.Prelude.{◌≡◌, ◌⊎◌, ℕ, ◌+◌, ◌-◌, ◌*◌, ◌^◌, ◌<◌, ◌≤◌, ◌==◌, ◌&&◌, ◌||◌, Bool, true, false, not, cond, nat_lt, nat_le, List, [], ◌∷◌, ◌++◌, length, map, take, drop, flat_map, codes, bytes_eq, slice_index, slice_range, FitsSigned, Option, Some, None, option_map}
use Rattle.std.specs.Int.{Width, w32, w64, byte_len, to_be_bytes, from_be_bytes, cast_unsigned}
use Rattle.std.specs.List.{AllByRecursion}
use Rattle.sha2.specs.Sha256.{sha256}
use Rattle.audit_model.specs.declared.fault.CkptFault.{CkptFault}
use Rattle.audit_model.specs.declared.fault.CkptFault.TheVariants.{TooShort, BadMagic, BadVersion, BadGeneration, BadCount, BadOrder, BadDigest}
use Rattle.audit_model.specs.declared.outcome.Outcome.{Outcome}
use Rattle.audit_model.specs.declared.rules.Group.{Group}
use Rattle.audit_model.specs.declared.rules.Rules.{Rules}
use Rattle.audit_model.specs.declared.setting.Score.{Score}
use Rattle.audit_model.specs.declared.setting.Score.TheVariants.{Seats, MeanMedian, Gap, CutEdges, CutLength}
use Rattle.audit_model.specs.declared.setting.Tail.{Tail}
use Rattle.audit_model.specs.declared.setting.Tail.TheVariants.{Low, High}
use Rattle.audit_model.specs.Below.{filter_below, map_below}
use Rattle.audit_model.specs.First.{first_some, first_below}
use Rattle.audit_model.specs.Graph.{Graph, adjacent, count_edges}
use Rattle.audit_model.specs.Job.{Job, rules}
use Rattle.audit_model.specs.Trajectory.{empty_histogram}
use Rattle.audit_model.specs.Limits.{most_trajectories, most_edges, most_regions, most_splits}

-- ---- writing

-- version 2 of the format holds histograms
abbrev pub has_histogram : ℕ → Bool
has_histogram version = version == 2

-- the histogram, if the version has one
abbrev pub bin_bytes : Bool → List ℕ → List ℕ
bin_bytes true bins = flat_map (to_be_bytes w32) bins
bin_bytes false bins = []

-- an outcome: its id, its moves and its values, and in version 2 its histogram
abbrev pub outcome_bytes : ℕ → Outcome → List ℕ
outcome_bytes version o =
    to_be_bytes w32 o.id ++ to_be_bytes w64 o.moved ++ flat_map (λ v. to_be_bytes w64 (cast_unsigned w64 v)) o.values ++ bin_bytes (has_histogram version) o.bins

-- all but the last 32 bytes
abbrev pub checkpoint_body : ℕ → List ℕ → ℕ → List Outcome → List ℕ
checkpoint_body version digest generation outcomes =
    codes "DISTCKPT" ++ to_be_bytes w32 version ++ digest ++ to_be_bytes w32 generation
    ++ to_be_bytes w32 (length outcomes) ++ flat_map (outcome_bytes version) outcomes

-- the checkpoint of a version, a job's digest, a generation and outcomes
unfoldable pub checkpoint : ℕ → List ℕ → ℕ → List Outcome → List ℕ
checkpoint version digest generation outcomes =
    let body = checkpoint_body version digest generation outcomes in body ++ sha256 body

-- each id is greater than the one before it
abbrev pub AreRising : List ℕ → Type 0
AreRising [] = Unit {0}
AreRising (x ∷ []) = Unit {0}
AreRising (x ∷ y ∷ rest) = (x < y) × AreRising (y ∷ rest)

-- the fields of an outcome are within their ranges
pub record IsOutcome (o : Outcome) : Type 0 where
  pub id : o.id < 2 ^ 32
  pub moved : o.moved < 2 ^ 64
  pub four : length o.values ≡ 4
  pub values : AllByRecursion (FitsSigned w64) o.values
  pub nine : length o.bins ≡ 9
  pub bins : AllByRecursion (λ n. n < 2 ^ 32) o.bins

-- version 2 holds any histograms, version 1 none
abbrev pub AreHistogramsStorable : ℕ → List Outcome → Type 0
AreHistogramsStorable version outcomes = (version ≡ 2) ⊎ ((version ≡ 1) × AllByRecursion (λ o. o.bins ≡ empty_histogram) outcomes)

-- the bytes are the checkpoint of this version, digest, generation and outcomes
pub record IsCheckpoint (bytes : List ℕ) (version : ℕ) (digest : List ℕ) (generation : ℕ) (outcomes : List Outcome) : Type 0 where
  pub storable_histograms : AreHistogramsStorable version outcomes
  pub digest_length : length digest ≡ 32
  pub digest_bytes : AllByRecursion (λ b. b < 256) digest
  pub generation_below : generation < 3
  pub few : length outcomes ≤ most_trajectories
  pub rising : AreRising (map (λ o. o.id) outcomes)
  pub each : AllByRecursion IsOutcome outcomes
  pub spelled : bytes ≡ checkpoint version digest generation outcomes

-- ---- the first fault

-- the big-endian number of this width at an offset
abbrev pub number_at : Width → ℕ → List ℕ → ℕ
number_at w at bytes = from_be_bytes w (slice_range bytes at (at + byte_len w))

-- the byte offsets of a checkpoint's parts; the version follows the eight bytes of the format's name
abbrev pub version_place : ℕ
version_place = 8

-- the offset of the digest
abbrev pub digest_place : ℕ
digest_place = 12

-- the offset of the generation
abbrev pub generation_place : ℕ
generation_place = 44

-- the offset of the number of outcomes
abbrev pub count_place : ℕ
count_place = 48

-- the offset of the outcomes
abbrev pub outcomes_place : ℕ
outcomes_place = 52

-- the number of bytes besides the outcomes: the parts before them, and the checksum
abbrev pub empty_length : ℕ
empty_length = 84

-- the version that the bytes state
abbrev pub stated_version : List ℕ → ℕ
stated_version bytes = number_at w32 version_place bytes

-- the number of bytes of an outcome
abbrev pub outcome_size : ℕ → ℕ
outcome_size version = cond (has_histogram version) 80 44

-- the offset of the outcome at a place
abbrev pub outcome_start : List ℕ → ℕ → ℕ
outcome_start bytes place = outcomes_place + outcome_size (stated_version bytes) * place

-- the number of outcomes that the bytes state
abbrev pub stated_count : List ℕ → ℕ
stated_count bytes = number_at w32 count_place bytes

-- the id of the outcome at a place
abbrev pub stated_id : List ℕ → ℕ → ℕ
stated_id bytes place = number_at w32 (outcome_start bytes place) bytes

-- the first reason why bytes are no checkpoint
unfoldable pub checkpoint_fault : List ℕ → Option CkptFault
checkpoint_fault bytes = first_some (
    cond (nat_lt (length bytes) empty_length) (Some (TooShort (length bytes))) None
    ∷ cond (bytes_eq (take version_place bytes) (codes "DISTCKPT")) None (Some BadMagic)
    ∷ cond ((stated_version bytes == 1) || (stated_version bytes == 2)) None (Some (BadVersion (stated_version bytes)))
    ∷ cond (nat_lt 2 (number_at w32 generation_place bytes)) (Some (BadGeneration (number_at w32 generation_place bytes))) None
    ∷ cond (nat_lt most_trajectories (stated_count bytes) || not (length bytes == empty_length + outcome_size (stated_version bytes) * stated_count bytes)) (Some (BadCount (stated_count bytes) (length bytes))) None
    ∷ option_map BadOrder (first_below (stated_count bytes) (λ place. nat_lt 0 place && nat_le (stated_id bytes place) (stated_id bytes (place - 1))))
    ∷ cond (bytes_eq (drop (length bytes - 32) bytes) (sha256 (take (length bytes - 32) bytes))) None
    (Some (BadDigest (drop (length bytes - 32) bytes) (sha256 (take (length bytes - 32) bytes))))
    ∷ [])

-- ---- the digest of a job

-- the number of a score in the digest
abbrev pub score_code : Score → ℕ
score_code Seats = 0
score_code MeanMedian = 1
score_code Gap = 2
score_code CutEdges = 3
score_code CutLength = 4

-- the number of a tail in the digest
abbrev pub tail_code : Tail → ℕ
tail_code Low = 0
tail_code High = 1

-- each edge, its smaller unit first, in rising order
abbrev pub edge_bytes : Graph → List ℕ
edge_bytes g = flat_map (λ u. flat_map (λ v. to_be_bytes w32 u ++ to_be_bytes w32 v) (filter_below g.units (λ v. nat_lt u v && adjacent g u v))) (map_below g.units (λ u. u))

-- the counts of a unit, and its district in the start plan
abbrev pub unit_bytes : Job → ℕ → List ℕ
unit_bytes job u =
    to_be_bytes w64 (slice_index job.counts.population u) ++ to_be_bytes w64 (slice_index job.counts.first u)
    ++ to_be_bytes w64 (slice_index job.counts.second u) ++ to_be_bytes w32 (slice_index job.start u)

-- the rules limit the splits in all or the split regions
abbrev pub limits_splits : Rules → Bool
limits_splits rules = (nat_lt rules.max_splits most_splits || nat_lt rules.max_split_regions most_regions) && not (length rules.regions == 0)

-- the rules have a group
abbrev pub has_group : Rules → Bool
has_group rules = not (length rules.group.members == 0)

-- the rules need version 3 of the digested bytes
abbrev pub has_further_rules : Rules → Bool
has_further_rules rules = limits_splits rules || has_group rules

-- a group is named with a share other than one half
abbrev pub has_share : Rules → Bool
has_share rules = has_group rules && not (rules.group_share == 5000)

-- a column of frozen units is named
abbrev pub has_frozen : Rules → Bool
has_frozen rules = not (length rules.frozen == 0)

-- a rule is present that the fourth version of the digested bytes adds
abbrev pub has_newer_rules : Rules → Bool
has_newer_rules rules = has_share rules || has_frozen rules

-- the rules limit the cut edges, or have regions, or a group, or frozen units
abbrev pub has_rules : Rules → Bool
has_rules rules = nat_lt rules.max_cut most_edges || not (length rules.regions == 0) || has_group rules || has_frozen rules

-- edges have lengths
abbrev pub has_lengths : List ℕ → Bool
has_lengths lengths = not (length lengths == 0)

-- the first digested bytes of a job without lengths, by the rules that the job has
abbrev pub digest_name : Bool → Bool → Bool → List ℕ
digest_name has_some has_further true = codes "district-job 4"
digest_name has_some true false = codes "district-job 3"
digest_name true false false = codes "district-job 2"
digest_name false false false = codes "district-job 1"

-- the first digested bytes of a job without a weight
abbrev pub even_bytes : Bool → Rules → List ℕ
even_bytes has rules = cond has (codes "district-job 5") (digest_name (has_rules rules) (has_further_rules rules) (has_newer_rules rules))

-- the cut edges have a weight, in units of 1 / 256
abbrev pub has_weight : ℕ → Bool
has_weight weight = nat_lt weight 256

-- the first digested bytes
abbrev pub first_bytes : Bool → Bool → Rules → List ℕ
first_bytes weighted has rules = cond weighted (codes "district-job 6") (even_bytes has rules)

-- the limit on districts per region, and each unit's region, if there are regions
abbrev pub region_bytes : ℕ → List ℕ → List ℕ
region_bytes max_split [] = []
region_bytes max_split (r ∷ rest) = to_be_bytes w32 max_split ++ flat_map (to_be_bytes w32) (r ∷ rest)

-- the limits on splits in all and on split regions, if one is set
abbrev pub split_bytes : Rules → List ℕ
split_bytes rules = cond (limits_splits rules) (to_be_bytes w32 rules.max_splits ++ to_be_bytes w32 rules.max_split_regions) []

-- the members and the base population of a group in a unit
abbrev pub member_bytes : Group → ℕ → List ℕ
member_bytes group u = to_be_bytes w64 (slice_index group.members u) ++ to_be_bytes w64 (slice_index group.whole u)

-- the required majorities, and the group's numbers in each unit, if there is a group
abbrev pub group_bytes : ℕ → Rules → List ℕ
group_bytes units rules =
    cond (has_group rules) (to_be_bytes w32 rules.group_districts ++ flat_map (member_bytes rules.group) (map_below units (λ u. u))) []

-- the share above which the group has a majority, if it is not one half
abbrev pub share_bytes : Rules → List ℕ
share_bytes rules = cond (has_share rules) (codes "group-share" ++ to_be_bytes w32 rules.group_share) []

-- 1 or 0 per unit, if a column of frozen units is named
abbrev pub frozen_bytes : Rules → List ℕ
frozen_bytes rules = cond (has_frozen rules) (codes "freeze" ++ flat_map (to_be_bytes w32) rules.frozen) []

-- the rules, if there are some
abbrev pub rule_bytes : Bool → ℕ → Rules → List ℕ
rule_bytes true units rules =
    to_be_bytes w32 rules.max_cut ++ region_bytes rules.max_split rules.regions ++ split_bytes rules ++ group_bytes units rules
    ++ share_bytes rules ++ frozen_bytes rules
rule_bytes false units rules = []

-- the limit on the total length of the cut edges, and the length of each edge in both directions, by the units at which
-- they begin, if edges have lengths
abbrev pub length_bytes : ℕ → List ℕ → List ℕ
length_bytes max_length lengths =
    cond (has_lengths lengths) (codes "length" ++ to_be_bytes w64 max_length ++ flat_map (to_be_bytes w32) lengths) []

-- the weight on cut edges, if there is one
abbrev pub weight_bytes : ℕ → List ℕ
weight_bytes weight = cond (has_weight weight) (to_be_bytes w32 weight) []

-- all that a job's outcomes depend on, except for asking for histograms
abbrev pub job_bytes : Job → List ℕ
job_bytes job =
    first_bytes (has_weight job.setting.cut_weight) (has_lengths job.counts.lengths) (rules job)
    ++ to_be_bytes w32 job.graph.units ++ to_be_bytes w32 (count_edges job.graph (λ u v. true)) ++ to_be_bytes w32 job.districts
    ++ edge_bytes job.graph
    ++ flat_map (unit_bytes job) (map_below job.graph.units (λ u. u))
    ++ to_be_bytes w32 job.setting.slack ++ job.setting.key
    ++ to_be_bytes w32 job.setting.walks ++ to_be_bytes w32 job.setting.steps
    ++ to_be_bytes w32 job.setting.ends ++ to_be_bytes w32 job.setting.hub_steps
    ++ to_be_bytes w32 (length job.setting.asks)
    ++ flat_map (λ ask. to_be_bytes w32 (score_code ask.score) ++ to_be_bytes w32 (tail_code ask.tail)) job.setting.asks
    ++ rule_bytes (has_rules (rules job)) job.graph.units (rules job)
    ++ length_bytes job.setting.max_length job.counts.lengths
    ++ weight_bytes job.setting.cut_weight

-- the digest of a job
unfoldable pub job_digest : Job → List ℕ
job_digest job = sha256 (job_bytes job)
