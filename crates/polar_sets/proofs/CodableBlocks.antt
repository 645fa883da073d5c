-- The blocks of payloads can be coded at each aggregation level: 36 to 152 bits that are sent in 108, 216, 432, 864 or 1728,
-- where they are no more than that, have enough free positions.
use Rattle.std.proofs.Common.{◌≡◌, ℕ, zero, suc, ◌+◌, ◌-◌, ◌*◌, ◌^◌, ◌<◌, ◌≤◌, Bool, true, false, min, max, nat_lt, nat_le, inl}
use Rattle.std.proofs.Common.{inr, get_or, refl, ap, sym, subst, arith, lit≤, lit<}
use Rattle.std.specs.Prelude.{◌==◌}
use Rattle.std.specs.List.{range_with_len, list_all}
use Rattle.std.proofs.Math.Nat.{pow-le-pow_right}
use Rattle.std.proofs.lemmas.Bool.{cases_lt, le-ltb, leb-true, lt-ltb, ltb-true, ne_eqb}
use Rattle.std.proofs.lemmas.List.Folds.{list_any_none}
use Rattle.std.proofs.lemmas.List.Sums.{AllPass-from_list_all}
use Rattle.list_facts.specs.Counting.{count_below}
use Rattle.list_facts.proofs.Counting.{count_rises, count_yes}
use Rattle.polar_sets.specs.Enough.{Enough}
use Rattle.polar_sets.specs.FrozenPlaces.{frozen_front, is_free, is_frozen, stands_within}
use Rattle.polar_sets.proofs.Frozen.{free_repeated}
use Rattle.rate_match.specs.SubblockOrder.{position_at}
use Rattle.rate_match.specs.MotherCode.{exponent_of, least_power, length_of, powers_below}
use Rattle.rate_match.proofs.Lengths.{least_power_is}
use Rattle.rate_match.proofs.Sent.{matching_punctured, matching_shortened}

-- where the numbers from one up to another pass a test, so many pass it
count_between : (low high n : ℕ) (test : ℕ → Bool) → high ≤ n → ((p : ℕ) → low ≤ p → p < high → test p ≡ true)
    → high ≤ count_below n test + low
count_between low high zero test h f = omega (arith, h)
count_between low high (suc n) test h f =
    elim (cases_lt n high) [
      | inr g ↦
          (let rest = count_between low high n test g f in
          let more = count_rises (suc n) n test (omega arith) in
          omega (arith, rest, more))
      | inl l ↦ elim (cases_lt n low) [
        | inl below ↦ omega (arith, below, h)
        | inr from ↦
            (let rest = count_between low n n test (omega arith) (λ p a b. f p a (omega (arith, b, l))) in
            let one = count_yes n test (f n from l) in
            omega (arith, rest, one, h))
      ]
    ]

-- a position is not among some places whose positions are all below it, or all above it
nowhere_below : (n from count front p : ℕ)
    → list_all (λ m. nat_lt (position_at n m) front) (range_with_len from count) ≡ true → front ≤ p
    → stands_within n from count p ≡ false
unfolding stands_within
nowhere_below n from count front p e h =
    list_any_none (λ m. position_at n m == p) (range_with_len from count)
    (λ i d b.
    let at = AllPass-from_list_all (λ m. nat_lt (position_at n m) front) (range_with_len from count) e i d b in
    let l = ltb-true (position_at n (get_or (range_with_len from count) i d)) front at in
    ne_eqb (position_at n (get_or (range_with_len from count) i d)) p (λ same. omega (arith, l, h, same)))

nowhere_above : (n from count last p : ℕ) → list_all (λ m. nat_le last (position_at n m)) (range_with_len from count) ≡ true
    → p < last
    → stands_within n from count p ≡ false
unfolding stands_within
nowhere_above n from count last p e h =
    list_any_none (λ m. position_at n m == p) (range_with_len from count)
    (λ i d b.
    let at = AllPass-from_list_all (λ m. nat_le last (position_at n m)) (range_with_len from count) e i d b in
    let l = leb-true last (position_at n (get_or (range_with_len from count) i d)) at in
    ne_eqb (position_at n (get_or (range_with_len from count) i d)) p (λ same. omega (arith, l, h, same)))

-- with puncturing the positions behind the front are free, where the places left out are all before it
free_behind : (n k e p : ℕ) → e < n → 16 * k ≤ 7 * e → frozen_front n e ≤ p → p < n → stands_within n 0 (n - e) p ≡ false
    → is_free n k e p ≡ true
unfolding is_free is_frozen
free_behind n k e p f g l b s = rw (lt-ltb p n b, matching_punctured n k e f g, le-ltb p (frozen_front n e) l, s) refl

-- with shortening those before the places left out
free_before : (n k e p : ℕ) → e < n → 7 * e < 16 * k → p < n → stands_within n e (n - e) p ≡ false → is_free n k e p ≡ true
unfolding is_free is_frozen
free_before n k e p f g b s = rw (lt-ltb p n b, matching_shortened n k e f g, s) refl

punctured : (n k e front : ℕ) → e < n → 16 * k ≤ 7 * e → frozen_front n e ≡ front
    → list_all (λ m. nat_lt (position_at n m) front) (range_with_len 0 (n - e)) ≡ true → n ≤ count_below n (is_free n k e) + front
punctured n k e front f g is all =
    count_between front n n (is_free n k e) (omega arith)
    (λ p l b. free_behind n k e p f g (omega (arith, is, l)) b (nowhere_below n 0 (n - e) front p all l))

shortened : (n k e : ℕ) → e < n → 7 * e < 16 * k → list_all (λ m. nat_le e (position_at n m)) (range_with_len e (n - e)) ≡ true
    → e ≤ count_below n (is_free n k e)
shortened n k e f g all =
    let count = count_between 0 e n (is_free n k e) (omega (arith, f))
    (λ p l b. free_before n k e p f g (omega (arith, f, b)) (nowhere_above n e (n - e) e p all b)) in
    omega (arith, count)

repeated : (n k e : ℕ) → n ≤ e → n ≤ count_below n (is_free n k e)
repeated n k e h =
    let count = count_between 0 n n (is_free n k e) (omega arith) (λ p l b. free_repeated n k e p b h) in
    omega (arith, count)

-- the word of such a block has as many bits as its sent bits alone ask for, at most 512
power_past : (x : ℕ) → 288 ≤ x → (c : ℕ) → c < 9 → 2 ^ c < x
power_past x h c l =
    let m : c ≤ 8 = omega (arith, l) in
    let p : 2 ^ c ≤ 2 ^ 8 = pow-le-pow_right (lit< tt) m in
    omega (arith, p, h)

nine_near : (x : ℕ) → 288 ≤ x → x ≤ 1024 → 9 ≤ least_power x
nine_near x h l =
    elim (cases_lt 512 x) [
      | inl over ↦
          (let e : 10 ≡ least_power x = least_power_is x 10 (record {
            reaches = omega (arith, l);
            least =
                λ c m. let n : c ≤ 9 =
                omega (arith, m) in let p : 2 ^ c ≤ 2 ^ 9 = pow-le-pow_right (lit< tt) n in omega (arith, p, over);
          }) in
          omega (arith, e))
      | inr within ↦
          (let e : 9 ≡ least_power x = least_power_is x 9 (record { reaches = omega (arith, within); least = power_past x h }) in
          omega (arith, e))
    ]

nine : (x : ℕ) → 288 ≤ x → x ≤ 1216 → 9 ≤ least_power x
nine x h l =
    elim (cases_lt 1024 x) [
      | inl far ↦
          (let e : 11 ≡ least_power x = least_power_is x 11 (record {
            reaches = omega (arith, l);
            least =
                λ c m. let n : c ≤ 10 =
                omega (arith, m) in let p : 2 ^ c ≤ 2 ^ 10 = pow-le-pow_right (lit< tt) n in omega (arith, p, far);
          }) in
          omega (arith, e))
      | inr near ↦ nine_near x h near
    ]

word_len : (k e b : ℕ) → 36 ≤ k → k ≤ 152 → exponent_of k e (least_power e) ≡ b → length_of k e ≡ 2 ^ max (min b 9) 5
unfolding length_of
word_len k e b h l is =
    let nine_on = nine (8 * k) (omega (arith, h)) (omega (arith, l)) in
    let small : min (min (exponent_of k e (least_power e)) (least_power (8 * k))) 9 ≡ min b 9 = omega (arith, nine_on, is) in
    ap (λ (x : ℕ). 2 ^ max x 5) small

enough_from : (n k e : ℕ) → length_of k e ≡ n → k ≤ e → k ≤ count_below n (is_free n k e) → Enough k e
enough_from n k e is sent free =
    let P : ℕ → Type 0 = λ m. k ≤ count_below m (is_free m k e) in
    record { sent = sent; free = subst P (sym is) free }

word_108 : (k : ℕ) → 36 ≤ k → k ≤ 152 → length_of k 108 ≡ 128
unfolding powers_below
word_108 k h l = word_len k 108 7 h l refl

word_216 : (k : ℕ) → 36 ≤ k → k ≤ 152 → length_of k 216 ≡ 256
unfolding powers_below
word_216 k h l = word_len k 216 8 h l refl

word_432 : (k : ℕ) → 36 ≤ k → k ≤ 152 → length_of k 432 ≡ 512
unfolding powers_below
word_432 k h l = word_len k 432 9 h l refl

word_864 : (k : ℕ) → 36 ≤ k → k ≤ 152 → length_of k 864 ≡ 512
unfolding powers_below
word_864 k h l = word_len k 864 10 h l refl

word_1728 : (k : ℕ) → 36 ≤ k → k ≤ 152 → length_of k 1728 ≡ 512
unfolding powers_below
word_1728 k h l = word_len k 1728 11 h l refl

-- the places left out of a word
out_first_128 : list_all (λ m. nat_lt (position_at 128 m) 42) (range_with_len 0 (128 - 108)) ≡ true
unfolding position_at
out_first_128 = refl

out_last_128 : list_all (λ m. nat_le 108 (position_at 128 m)) (range_with_len 108 (128 - 108)) ≡ true
unfolding position_at
out_last_128 = refl

out_first_256 : list_all (λ m. nat_lt (position_at 256 m) 84) (range_with_len 0 (256 - 216)) ≡ true
unfolding position_at
out_first_256 = refl

out_last_256 : list_all (λ m. nat_le 216 (position_at 256 m)) (range_with_len 216 (256 - 216)) ≡ true
unfolding position_at
out_last_256 = refl

out_first_512 : list_all (λ m. nat_lt (position_at 512 m) 168) (range_with_len 0 (512 - 432)) ≡ true
unfolding position_at
out_first_512 = refl

-- 108 bits, of one CCE
pub enough_108 : (k : ℕ) → 36 ≤ k → k ≤ 108 → Enough k 108
enough_108 k h l =
    enough_from 128 k 108 (word_108 k h (omega (arith, l))) l
    (elim (cases_lt 756 (16 * k)) [
      | inl over ↦ (let c = shortened 128 k 108 (lit< tt) over out_last_128 in omega (arith, c, l))
      | inr within ↦ (let c = punctured 128 k 108 42 (lit< tt) within refl out_first_128 in omega (arith, c, within))
    ])

-- 216 bits, of two
pub enough_216 : (k : ℕ) → 36 ≤ k → k ≤ 152 → Enough k 216
enough_216 k h l =
    enough_from 256 k 216 (word_216 k h l) (omega (arith, l))
    (elim (cases_lt 1512 (16 * k)) [
      | inl over ↦ (let c = shortened 256 k 216 (lit< tt) over out_last_256 in omega (arith, c, l))
      | inr within ↦ (let c = punctured 256 k 216 84 (lit< tt) within refl out_first_256 in omega (arith, c, l))
    ])

-- 432 bits, of four
pub enough_432 : (k : ℕ) → 36 ≤ k → k ≤ 152 → Enough k 432
enough_432 k h l =
    enough_from 512 k 432 (word_432 k h l) (omega (arith, l))
    (let c = punctured 512 k 432 168 (lit< tt) (omega (arith, l)) refl out_first_512 in omega (arith, c, l))

-- 864 bits, of eight
pub enough_864 : (k : ℕ) → 36 ≤ k → k ≤ 152 → Enough k 864
enough_864 k h l =
    enough_from 512 k 864 (word_864 k h l) (omega (arith, l)) (let c = repeated 512 k 864 (lit≤ tt) in omega (arith, c, l))

-- 1728 bits, of sixteen
pub enough_1728 : (k : ℕ) → 36 ≤ k → k ≤ 152 → Enough k 1728
enough_1728 k h l =
    enough_from 512 k 1728 (word_1728 k h l) (omega (arith, l)) (let c = repeated 512 k 1728 (lit≤ tt) in omega (arith, c, l))
