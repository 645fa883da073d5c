-- How far a whole read has come.
use Rattle.std.proofs.Common.{◌+◌, ◌-◌, ◌≤◌, ℕ, List, ◌++◌, Option, length, arith, length-append}
use Rattle.std.specs.Io.KnownBytes.{Consumes, Keeps}
use Rattle.std.proofs.KnownBytes.{Consumes-kept, Consumes-trans}
use Rattle.outside.specs.Lost.{LosesAtMost}

-- the bytes that were read so far are within the limit, and are the first of those that the reader had left
pub record IsReadSoFar (old new : Option (List ℕ)) (bytes : List ℕ) (limit : ℕ) : Type 0 where
  pub within : length bytes ≤ limit
  pub read : Consumes old new bytes

-- one more read, which failed
pub loses_no_more : (old mid new : Option (List ℕ)) (bytes : List ℕ) (limit : ℕ) → IsReadSoFar old mid bytes limit → Keeps mid new
    → LosesAtMost old new limit
loses_no_more old mid new bytes limit so_far kept = record {
  lost = bytes;
  first = Consumes-kept old mid new bytes so_far.read kept;
  few = so_far.within;
}

-- with a byte to spare
pub loses_few : (old new : Option (List ℕ)) (limit : ℕ) → LosesAtMost old new limit → LosesAtMost old new (limit + 1)
loses_few old new limit loses = record {
  lost = loses.lost;
  first = loses.first;
  few = omega (arith, loses.few);
}

-- one more read, of no more bytes than are left below the limit and one
pub loses_more : (old mid new : Option (List ℕ)) (bytes more : List ℕ) (limit : ℕ) → IsReadSoFar old mid bytes limit
    → Consumes mid new more → length more ≤ limit - length bytes + 1 → LosesAtMost old new (limit + 1)
loses_more old mid new bytes more limit so_far read few = record {
  lost = bytes ++ more;
  first = Consumes-trans old mid new bytes more so_far.read read;
  few = omega (arith, so_far.within, length-append bytes more);
}
