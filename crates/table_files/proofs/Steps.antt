-- One byte of a reading, and its end.
use Rattle.std.proofs.Common.{◌≡◌, ℕ, ◌+◌, ◌<◌, ◌≤◌, List, ◌∷◌, length, drop, get_or, drop-cons, add-one, ap}
use Rattle.std.proofs.lemmas.List.{drop_all}
use Rattle.table_files.specs.TableText.{Reading, and_then, complete, ended, read_from, step}

-- one byte of the rest of a text
pub read_step : (size at : ℕ) (bytes : List ℕ) (reading : Reading) → at < length bytes
    → read_from size at (drop at bytes) reading
    ≡ and_then (step size at (get_or bytes at 0) reading) (read_from size (at + 1) (drop (at + 1) bytes))
read_step size at bytes reading below =
    let first : drop at bytes ≡ get_or bytes at 0 ∷ drop (at + 1) bytes = rw add-one (drop-cons bytes at 0 below) in
    ap (λ rest. read_from size at rest reading) first

-- no rest of a text
pub read_end : (size at : ℕ) (bytes : List ℕ) (reading : Reading) → length bytes ≤ at
    → read_from size at (drop at bytes) reading ≡ and_then (ended size reading.numbers reading.run) (complete size)
read_end size at bytes reading past = ap (λ rest. read_from size at rest reading) (drop_all at bytes past)
