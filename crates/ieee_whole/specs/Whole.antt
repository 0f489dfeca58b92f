-- Whole numbers near a float: m * 2 ^ e is the fraction m * up e / down e.
use Rattle.std.specs.Prelude.{◌≡◌, ℕ, ◌+◌, ◌-◌, ◌*◌, ◌/◌, ◌^◌, ◌<◌, ◌≤◌, min, true, false, cond, ℤ, Float}
use Rattle.std.specs.Float.{nan, inf, fin}
use Rattle.std.specs.Float.Ieee.{up, down}

-- Rust's `x.floor() as i64`, and 2 ^ 63 more: the whole number at or below x, held to the range of an `i64`; not-a-number is 0.
unfoldable pub floor_at : Float → ℕ
floor_at nan = 2 ^ 63
floor_at (inf s) = cond s 0 (2 ^ 64 - 1)
floor_at (fin false m e) = min (2 ^ 63 + m * up e / down e) (2 ^ 64 - 1)
floor_at (fin true m e) = 2 ^ 63 - (m * up e + (down e - 1)) / down e

-- Rust's `x.round() as u64`: the nearest whole number, a half away from zero, held to the range of a `u64`; not-a-number is 0.
unfoldable pub round_half_away : Float → ℕ
round_half_away nan = 0
round_half_away (inf s) = cond s 0 (2 ^ 64 - 1)
round_half_away (fin true m e) = 0
round_half_away (fin false m e) = min ((2 * (m * up e) + down e) / (2 * down e)) (2 ^ 64 - 1)

-- r is the whole number nearest to a / c, and of two that are as near the one farther from zero: r − 1/2 ≤ a/c < r + 1/2, times 2·c
pub record NearestWhole (a c r : ℕ) : Type 0 where
  pub low : 2 * r * c ≤ 2 * a + c
  pub high : 2 * a < (2 * r + 1) * c

-- the rounding of every value: the law `round_ieee` says this of `round_half_away`. What no `u64` holds becomes the nearest that it holds
pub record RoundedHalfAway : Type 0 where
  pub of_nan : round_half_away nan ≡ 0
  pub of-infinity : round_half_away (inf false) ≡ 2 ^ 64 - 1
  pub of-minus-infinity : round_half_away (inf true) ≡ 0
  pub of_negative : (m : ℕ) (e : ℤ) → round_half_away (fin true m e) ≡ 0
  pub of_number : (m : ℕ) (e : ℤ) → m * up e < (2 ^ 64 - 1) * down e → NearestWhole (m * up e) (down e) (round_half_away (fin false m e))
  pub of-large : (m : ℕ) (e : ℤ) → (2 ^ 64 - 1) * down e ≤ m * up e → round_half_away (fin false m e) ≡ 2 ^ 64 - 1
