-- No value of the format lies as near to the root as the one that `sqrt_of` gives. The root, cut to the format's digits, lies between q * 2 ^ k and (q + 1) * 2 ^ k.
-- No value lies between these two, the result is one of them, and by its digits the root is not their middle. Assumes nothing.
use Rattle.std.proofs.Common.{◌≡◌, ℕ, zero, suc, ◌+◌, ◌-◌, ◌*◌, ◌/◌, ◌^◌, ◌<◌, ◌≤◌, false, ◌⊎◌, sym, refl, ap, ◌∙◌, subst, inl, inr, le_trans, le_of_eq, lt_of_lt_of_le, lt_of_le_of_lt, le_of_lt, mul-le-mul_right, mul_assoc, mul_comm, add-mul, mul-le-mul_left, mul-lt-mul_of_pos_right, mul-pos, one-mul, lt_of_not-le, le-div_iff_mul-le, mul-add, not-le_of_lt, le_of_mul-le-mul_right, mul_left_comm, add-one, arith, lit≤, pow_pos, pow_mono, pow-add, shl_lt}
use Prim.Native.Nat.{compare, Ordering}
use native.Mathlib.Nat.{eq_of_mul-eq-mul_right, two-pow-succ}
use native.Mathlib.Decide.{dec_le}
use lib.Ieee.{Float, Format, binary32, binary64, prec, emax, low, size, nearest, units}
use lib.Ieee.Digits.{size_reaches, back}
use lib.Ieee.Exact.{units_val}
use lib.Ieee.Fits.{kept-lt, nearest-le, two, two-le_pos}
use lib.Ieee.Scale.{overflow}
use Rattle.ieee_root.specs.Sqrt.{isqrt, root_of, sqrt_of, Held, Nearest}
use Rattle.ieee_root.proofs.Integer.{sq-le, sq-lt, lt_of_sq-lt, sq-mul, sq-double, odd-square, Cmp, cmp, Cut, isqrt-is, root-le, root-cut}
use Rattle.ieee_root.proofs.Value.{Number, number, units-fits, sqrt-has}

-- ---- the root of v, cut to the format's digits

record Digits (f : Format) (v : ℕ) : Type 0 where
  pub q : ℕ
  pub k : ℕ
  pub is : root_of f v ≡ units f false (nearest q (compare (4 * v) ((2 * q + 1) * (2 * q + 1) * (2 ^ k * 2 ^ k)))) k
  pub short : q < 2 ^ prec f
  pub full : 0 < k → 2 ^ (prec f - 1) ≤ q
  pub some : 0 < q
  pub cut : Cut v (2 ^ k) q

-- where digits are dropped, the format's digits are all in use
kept_ge : (p r : ℕ) → 0 < p → 0 < size r - p → 2 ^ (p - 1) ≤ r / 2 ^ (size r - p)
kept_ge p r P h =
    (le-div_iff_mul-le (pow_pos (size r - p))).1 (le_trans (le_of_eq (sym (pow-add 2 (p - 1) (size r - p)))) (size_reaches r (p - 1 + (size r - p)) (all (size r) p P h)))
  where
    all : (z p : ℕ) → 0 < p → 0 < z - p → p - 1 + (z - p) < z
    all z p P h = omega arith

kept-some : (p r : ℕ) → 0 < p → 0 < r → 0 < r / 2 ^ (size r - p)
kept-some p r P R = go (size r - p) refl
  where
    go : (k : ℕ) → size r - p ≡ k → 0 < r / 2 ^ k
    go zero e = (le-div_iff_mul-le (pow_pos 0)).1 (le_trans (le_of_eq (one-mul (2 ^ 0))) R)
    go (suc k) e = lt_of_lt_of_le (pow_pos (p - 1)) (subst (λ (x : ℕ). 2 ^ (p - 1) ≤ r / 2 ^ x) e (kept_ge p r P (subst (λ (x : ℕ). 0 < x) (sym e) (above k))))
      where
        above : (k : ℕ) → 0 < suc k
        above k = omega arith

digits : (f : Format) (v : ℕ) → 0 < v → Digits f v
unfolding root_of
digits f v h =
    let r = isqrt v in
    let P : 0 < prec f = two-le_pos (prec f) (two f) in
    record {
      q = r / 2 ^ (size r - prec f);
      k = size r - prec f;
      is = refl;
      short = kept-lt (prec f) r;
      full = kept_ge (prec f) r P;
      some = kept-some (prec f) r P (root-le 1 v r h (isqrt-is v));
      cut = root-cut v (2 ^ (size r - prec f)) r (pow_pos (size r - prec f)) (isqrt-is v);
    }

-- ---- a value is m * 2 ^ j, with m of at most p digits: it does not lie between q * 2 ^ k and (q + 1) * 2 ^ k

abbrev Beside : ℕ → ℕ → ℕ → Type 0
Beside q c b = (b ≤ q * c) ⊎ ((q + 1) * c ≤ b)

module _ (p q k : ℕ) (P : 0 < p) (full : 0 < k → 2 ^ (p - 1) ≤ q) (m : ℕ) (short : m < 2 ^ p) where
  beside : (j : ℕ) → Beside q (2 ^ k) (m * 2 ^ j)
  beside j = go (dec_le k j)
    where
      room : (j k : ℕ) → j < k → p + j ≤ p - 1 + k
      room j k h = omega arith

      some : (j k : ℕ) → j < k → 0 < k
      some j k h = omega arith

      multiple : (t : ℕ) → Beside q (2 ^ k) (t * 2 ^ k)
      multiple t = at (dec_le t q)
        where
          at : Dec (t ≤ q) → Beside q (2 ^ k) (t * 2 ^ k)
          at (yes h) = inl (mul-le-mul_right (2 ^ k) h)
          at (no f) = inr (mul-le-mul_right (2 ^ k) (le_trans (le_of_eq (add-one q)) (lt_of_not-le f)))

      go : Dec (k ≤ j) → Beside q (2 ^ k) (m * 2 ^ j)
      go (yes h) =
          subst (λ (b : ℕ). Beside q (2 ^ k) b)
          (mul_assoc m (2 ^ (j - k)) (2 ^ k) ∙ ap (λ (x : ℕ). m * x) (sym (pow-add 2 (j - k) k) ∙ ap (λ (x : ℕ). 2 ^ x) (back j k h)))
          (multiple (m * 2 ^ (j - k)))
      go (no f) =
          let l : j < k = lt_of_not-le f in
          inl (le_trans (le_of_lt (shl_lt p j short)) (le_trans (pow_mono (room j k l)) (le_trans (le_of_eq (pow-add 2 (p - 1) k)) (mul-le-mul_right (2 ^ k) (full (some j k l))))))

  -- nor is the root of m * 2 ^ t the middle of the two: the middle's square has more digits than m
  no_tie : (t : ℕ) → 4 * (m * 2 ^ t) ≡ (2 * q + 1) * (2 * q + 1) * (2 ^ k * 2 ^ k) → ⊥
  no_tie t e = go (dec_le (t + 2) (k + k))
    where
      z : ℕ
      z = (2 * q + 1) * (2 * q + 1)

      same : m * 2 ^ (t + 2) ≡ z * 2 ^ (k + k)
      same =
          ap (λ (x : ℕ). m * x) (pow-add 2 t 2)
          ∙ sym (mul_assoc m (2 ^ t) 4)
          ∙ mul_comm (m * 2 ^ t) 4
          ∙ e
          ∙ ap (λ (x : ℕ). z * x) (sym (pow-add 2 k k))

      double : 2 ^ p ≡ 2 ^ (p - 1) + 2 ^ (p - 1)
      double = ap (λ (x : ℕ). 2 ^ x) (up p P) ∙ two-pow-succ (p - 1)
        where
          up : (p : ℕ) → 0 < p → p ≡ suc (p - 1)
          up p h = omega arith

      big : 2 ^ (p - 1) ≤ q → m < z
      big h = omega (arith, odd-square q, double)

      some : t + 2 ≤ k + k → 0 < k
      some h = omega arith

      even : (d : ℕ) → m * 2 ^ suc d ≡ z → ⊥
      even d h = clash (m * 2 ^ d) (sym (mul-add m (2 ^ d) (2 ^ d)) ∙ ap (λ (x : ℕ). m * x) (sym (two-pow-succ d)) ∙ h)
        where
          clash : (x : ℕ) → x + x ≡ z → ⊥
          clash x h = omega (arith, odd-square q)

      go : Dec (t + 2 ≤ k + k) → ⊥
      go (yes h) = not-le_of_lt (big (full (some h))) (le_of_mul-le-mul_right (le_trans (mul-le-mul_left z (pow_mono h)) (le_of_eq (sym same))) (pow_pos (t + 2)))
      go (no f) = even (t + 1 - (k + k)) (eq_of_mul-eq-mul_right (2 ^ (k + k)) (pow_pos (k + k)) (m * 2 ^ suc (t + 1 - (k + k))) z (mul_assoc m (2 ^ suc (t + 1 - (k + k))) (2 ^ (k + k)) ∙ ap (λ (x : ℕ). m * x) (sym (pow-add 2 (suc (t + 1 - (k + k))) (k + k)) ∙ ap (λ (x : ℕ). 2 ^ x) (rest t (k + k) (lt_of_not-le f))) ∙ same))
        where
          rest : (t u : ℕ) → u < t + 2 → suc (t + 1 - u) + u ≡ t + 2
          rest t u h = omega arith

-- ---- the one of the two that the comparison of v with the middle's square takes is nearer than any number beside them

module _ (v c q : ℕ) (cut : Cut v c q) where
  record Won (n : ℕ) : Type 0 where
    pub over : (b : ℕ) → Beside q c b → n < b → 4 * v < (n + b) * (n + b)
    pub under : (b : ℕ) → Beside q c b → b < n → (n + b) * (n + b) < 4 * v

  middle : q * c + (q + 1) * c ≡ (2 * q + 1) * c
  middle = sym (add-mul q (q + 1) c) ∙ ap (λ (x : ℕ). x * c) (twice q)
    where
      twice : (q : ℕ) → q + (q + 1) ≡ 2 * q + 1
      twice q = omega arith

  -- the double of x * c, squared
  doubled : (x : ℕ) → 2 * (x * c) * (2 * (x * c)) ≡ 4 * (x * x * (c * c))
  doubled x = sq-double (x * c) ∙ ap (λ (y : ℕ). 4 * y) (sq-mul x c)

  stays : 4 * v < (2 * q + 1) * (2 * q + 1) * (c * c) → Won (q * c)
  stays h = record {
    over = λ b s l. lt_of_lt_of_le h (le_trans (le_of_eq (sym (sq-mul (2 * q + 1) c))) (sq-le (le_trans (le_of_eq (sym middle)) (far b s l))));
    under = λ b s l. lt_of_lt_of_le (sq-lt (short (q * c) b l)) (le_trans (le_of_eq (doubled q)) (mul-le-mul_left 4 cut.below));
  }
    where
      short : (n b : ℕ) → b < n → n + b < 2 * n
      short n b l = omega arith

      far : (b : ℕ) → Beside q c b → q * c < b → q * c + (q + 1) * c ≤ q * c + b
      far b (inl g) l = omega arith
      far b (inr g) l = omega arith

  goes-up : (2 * q + 1) * (2 * q + 1) * (c * c) < 4 * v → Won ((q + 1) * c)
  goes-up h = record {
    over = λ b s l. lt_of_le_of_lt (le_trans (mul-le-mul_left 4 (le_of_lt cut.above)) (le_of_eq (sym (doubled (q + 1))))) (sq-lt (long ((q + 1) * c) b l));
    under = λ b s l. lt_of_le_of_lt (le_trans (sq-le (le_trans (far b s l) (le_of_eq middle))) (le_of_eq (sq-mul (2 * q + 1) c))) h;
  }
    where
      long : (n b : ℕ) → n < b → 2 * n < n + b
      long n b l = omega arith

      far : (b : ℕ) → Beside q c b → b < (q + 1) * c → (q + 1) * c + b ≤ q * c + (q + 1) * c
      far b (inl g) l = omega arith
      far b (inr g) l = omega arith

  won : (4 * v ≡ (2 * q + 1) * (2 * q + 1) * (c * c) → ⊥) → (o : Ordering) → Cmp o (4 * v) ((2 * q + 1) * (2 * q + 1) * (c * c)) → Won (nearest q o * c)
  won n Ordering.lt h = stays h
  won n Ordering.eq h = absurd (n h)
  won n Ordering.gt h = subst (λ (x : ℕ). Won (x * c)) (add-one q) (goes-up h)

-- ---- the law

-- the root of a number below the overflow is far below it
wide : (f : Format) → 2 ≤ suc (emax f)
wide binary32 = lit≤ tt
wide binary64 = lit≤ tt

no_overflow : (f : Format) (a n : ℕ) → a < overflow f → n * n ≤ 4 * (a * 2 ^ low f) → n < overflow f
no_overflow f a n h l =
    let l4 : 4 * 2 ^ low f ≤ overflow f = le_trans (le_of_eq (mul_comm 4 (2 ^ low f) ∙ sym (pow-add 2 (low f) 2))) (pow_mono (more (low f) (suc (emax f)) (wide f))) in
    lt_of_sq-lt
    (lt_of_le_of_lt (le_trans l (le_of_eq (mul_left_comm 4 a (2 ^ low f))))
    (lt_of_lt_of_le (mul-lt-mul_of_pos_right h (mul-pos (pow_pos 2) (pow_pos (low f)))) (mul-le-mul_left (overflow f) l4)))
  where
    more : (l e : ℕ) → 2 ≤ e → l + 2 ≤ l + e
    more l e h = omega arith

module _ (f : Format) (x : Float) (a : ℕ) (held : Held f x a) (some : 0 < a) where
  P : 0 < prec f
  P = two-le_pos (prec f) (two f)

  -- for a root whose digits are d, and the multiple of its unit that the comparison takes
  at : (d : Digits f (a * 2 ^ low f)) (n : ℕ) → root_of f (a * 2 ^ low f) ≡ units f false n d.k → n ≤ d.q + 1 → Won (a * 2 ^ low f) (2 ^ d.k) d.q d.cut (n * 2 ^ d.k) → Nearest f (a * 2 ^ low f) (sqrt_of f x)
  at d n is le won =
      let v = a * 2 ^ low f in
      let u = 2 ^ d.k in
      let twice : n * u ≤ 2 * (d.q * u) = le_trans (mul-le-mul_right u (le_trans le (up d.q d.some))) (le_of_eq (mul_assoc 2 d.q u)) in
      let fine : n * u < overflow f = no_overflow f a (n * u) (number f x a held).under (le_trans (sq-le twice) (le_trans (le_of_eq (doubled v u d.q d.cut d.q)) (mul-le-mul_left 4 d.cut.below))) in
      let same : units f false n d.k ≡ sqrt_of f x = sym (sqrt-has f x a some held.value ∙ is) in
      record {
        n = n * u;
        held = subst (λ (y : Float). Held f y (n * u)) same (record { fit = units-fits f n d.k (le_trans le (le_trans (le_of_eq (add-one d.q)) d.short)) fine; value = units_val f false n d.k fine });
        over = λ y b h. won.over b (outside d (number f y b h));
        under = λ y b h. won.under b (outside d (number f y b h));
      }
    where
      up : (q : ℕ) → 0 < q → q + 1 ≤ 2 * q
      up q h = omega arith

      outside : (d : Digits f (a * 2 ^ low f)) {b : ℕ} → Number f b → Beside d.q (2 ^ d.k) b
      outside d g = subst (λ (b : ℕ). Beside d.q (2 ^ d.k) b) (sym g.is) (beside (prec f) d.q d.k P d.full g.m g.short g.j)

  -- the law: an x of a smallest values is a * 2 ^ low smallest values squared, and `sqrt_of` gives the value nearest to its root
  pub sqrt_nearest : Nearest f (a * 2 ^ low f) (sqrt_of f x)
  sqrt_nearest =
      let v = a * 2 ^ low f in
      let d = digits f v (mul-pos some (pow_pos (low f))) in
      let w = (2 * d.q + 1) * (2 * d.q + 1) * (2 ^ d.k * 2 ^ d.k) in
      at d (nearest d.q (compare (4 * v) w)) d.is (le_trans (nearest-le d.q (compare (4 * v) w)) (le_of_eq (sym (add-one d.q))))
      (won v (2 ^ d.k) d.q d.cut (other d (number f x a held)) (compare (4 * v) w) (cmp (4 * v) w))
    where
      other : (d : Digits f (a * 2 ^ low f)) → Number f a → 4 * (a * 2 ^ low f) ≡ (2 * d.q + 1) * (2 * d.q + 1) * (2 ^ d.k * 2 ^ d.k) → ⊥
      other d g e =
          no_tie (prec f) d.q d.k P d.full g.m g.short (g.j + low f)
          (ap (λ (y : ℕ). 4 * y)
          (ap (λ (y : ℕ). g.m * y) (pow-add 2 g.j (low f))
          ∙ sym (mul_assoc g.m (2 ^ g.j) (2 ^ low f))
          ∙ ap (λ (y : ℕ). y * 2 ^ low f) (sym g.is))
          ∙ e)
