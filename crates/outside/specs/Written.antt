-- What is seen of a sink over a writer.
use Rattle.std.specs.Prelude.{ℕ, List, Option}

-- the bytes that the writer holds, where it tells, and how many writes failed
pub record Written : Type 0 where
  pub contents : Option (List ℕ)
  pub faults : ℕ
