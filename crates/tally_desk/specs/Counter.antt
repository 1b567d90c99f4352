-- The laws of the counter as one record.
use Rattle.claim_counter.specs.RecordLaws.{StartIsCounted, NumberKeeps, EndKeeps, SplitKeeps, JoinKeeps, SoleHasAll, CountIsBounded}

pub record CounterLaws : Type 0 where
  pub start : StartIsCounted
  pub number : NumberKeeps
  pub past_end : EndKeeps
  pub split : SplitKeeps
  pub join : JoinKeeps
  pub sole : SoleHasAll
  pub bounded : CountIsBounded
