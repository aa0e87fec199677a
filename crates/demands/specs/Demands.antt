-- The three demands that rule everything, in their own words and at one place.
-- 1. "Every call takes arbitrary bytes, ends, and either succeeds or gives one refusal, the first by the written order. A refusal leaves each
--    lent buffer exactly as lent."
-- 2. "A message is accepted exactly if it keeps the rules of document 01; counts, parts and sheet are those that the rules give. A sheet that
--    is written and read returns byte for byte."
-- 3. "Newer senders can't shift our columns: content in places that the profile doesn't read never changes an answer."
use Rattle.unread.specs.Demand3.{Demand3}
use Rattle.demands.specs.Demand1.{Demand1}
use Rattle.demands.specs.Demand2.{Demand2}

pub record Demands : Type 0 where
  pub one : Demand1
  pub two : Demand2
  pub three : Demand3
