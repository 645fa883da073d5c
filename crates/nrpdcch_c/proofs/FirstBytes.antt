-- The first byte that is no point, where no byte is large; and bytes of a block that are zero.
use Rattle.std.proofs.Common.{arith, ◌≡◌, ℕ, ◌+◌, ◌<◌, ◌≤◌, false, List, None, drop, get_or, length, ap, ◌∙◌, position}
use Rattle.std.proofs.Common.{replicate, sym, take}
use Rattle.std.specs.Prelude.{All}
use Rattle.std.proofs.lemmas.Grind.{common_steps}
use Rattle.std.proofs.lemmas.List.{get_or-drop, get_or-replicate, get_or-take}
use Rattle.std.proofs.lemmas.List.Elements.{All-get_or}
use Rattle.std.proofs.lemmas.List.Sums.{position_or_len_is}
use Rattle.nrpdcch_c.specs.Points.{is_no_point}

-- a byte of 4 or less is a point
pub is_point : (byte most : ℕ) → byte ≤ most → most ≤ 4 → is_no_point byte ≡ false
is_point byte most a b = grind (arith, common_steps)

-- no byte is no point, where none is larger than 4
pub none_is_no_point : (bytes : List ℕ) (most : ℕ) → All (λ byte. byte ≤ most) bytes → most ≤ 4
    → position is_no_point bytes ≡ None
none_is_no_point bytes most all few =
    let each : (k : ℕ) → k < length bytes → is_no_point (get_or bytes k 0) ≡ false =
    λ k lt. is_point (get_or bytes k 0) most (All-get_or (λ byte. byte ≤ most) bytes k 0 lt all) few in
    let past = position_or_len_is is_no_point bytes (length bytes) 0 (omega arith) each (λ lt. absurd (omega (arith, lt))) in
    grind (arith, common_steps)

-- a byte of a block whose twelve bytes are zero
pub zero_there : (bytes : List ℕ) (a k : ℕ) → take 12 (drop a bytes) ≡ replicate 12 0 → k < 12 → get_or bytes (a + k) 0 ≡ 0
zero_there bytes a k zeros lt =
    sym (get_or-drop a bytes k 0)
    ∙ sym (get_or-take 12 (drop a bytes) k 0 lt)
    ∙ ap (λ l. get_or l k 0) zeros
    ∙ get_or-replicate 12 k 0 0 lt
