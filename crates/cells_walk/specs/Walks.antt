-- What a walk leaves, one column more and one plane more. Definitions only.
use Rattle.std.specs.Prelude.{ℕ, ◌+◌, ◌≤◌}

-- no cubes leave all as it was; cubes and then those next to them leave what both leave
pub record WalkLaws {S : Type 0} (Ready : S → Type 0) (Done : S → ℕ → ℕ → ℕ → ℕ → ℕ → ℕ → S → Type 0) : Type 0 where
  pub none-x : (s : S) (x y0 y1 z0 z1 : ℕ) → Ready s → Done s x x y0 y1 z0 z1 s
  pub none-y : (s : S) (x0 x1 y z0 z1 : ℕ) → Ready s → Done s x0 x1 y y z0 z1 s
  pub more-x : (s s' s'' : S) (x0 k y0 y1 z0 z1 : ℕ) → x0 ≤ k → Done s x0 k y0 y1 z0 z1 s' → Done s' k (k + 1) y0 y1 z0 z1 s'' → Done s x0 (k + 1) y0 y1 z0 z1 s''
  pub more-y : (s s' s'' : S) (x0 x1 y0 k z0 z1 : ℕ) → y0 ≤ k → Done s x0 x1 y0 k z0 z1 s' → Done s' x0 x1 k (k + 1) z0 z1 s'' → Done s x0 x1 y0 (k + 1) z0 z1 s''
