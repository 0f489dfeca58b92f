-- Elements met one box after the other are those of both. Assumes nothing.
use Rattle.std.proofs.Common.{◌≡◌, ◌∙◌, ap, ℕ, ◌+◌, ◌≤◌, ◌<◌, Bool, false, arith}
use lib.Ieee.{Float, nan}
use Rattle.lists.proofs.Bools.{and-left-false}
use Rattle.geom.specs.declared.Vec3.{Vec3}
use Rattle.cells.specs.Cells.{changed}
use Rattle.cells.proofs.Changed.{Grows, grows-over, changed-none, changed-more, changed-same}
use Rattle.cells.proofs.Boxes.{grows-x, grows-y, none-x, none-y}
use Rattle.filter_look.specs.Steps.{Lists, marked, nearer, near_box, Took}
use Rattle.filter_look.specs.declared.grid.Grid.{Grid}
use Rattle.filter_look.specs.declared.met.Met.{Met}

module _ (gain : ℕ → Float → Float) (m₀ : Met) where
  pub took_none : (p : ℕ → Bool) → ((j : ℕ) → p j ≡ false) → m₀.count ≡ marked m₀.stamp.now m₀.mark → Took p gain m₀ m₀
  took_none p h e = record { stamps = changed-none (λ _ _. m₀.mark) 0 p m₀.stamp.now h; weights = changed-none gain nan p m₀.weight.now h; counted = e }

  -- p's elements after q's are r's
  pub took_more : (p q r : ℕ → Bool) (m m' : Met) → ((j : ℕ) → Grows (p j) (q j) (r j)) → m.mark ≡ m₀.mark → Took q gain m₀ m → Took p gain m m' → Took r gain m₀ m'
  took_more p q r m m' h same a b =
      let stamps : m'.stamp.now ≡ changed p (λ _ _. m₀.mark) m.stamp.now = b.stamps ∙ ap (λ (k : ℕ). changed p (λ _ _. k) m.stamp.now) same in
      record {
        stamps = changed-more (λ _ _. m₀.mark) 0 p q r m₀.stamp.now m.stamp.now m'.stamp.now h a.stamps stamps;
        weights = changed-more gain nan p q r m₀.weight.now m.weight.now m'.weight.now h a.weights b.weights;
        counted = b.counted;
      }

  pub took_same : (p q : ℕ → Bool) (m : Met) (n : ℕ) → Lists n m₀ → ((j : ℕ) → j < n → p j ≡ q j) → Took p gain m₀ m → Took q gain m₀ m
  took_same p q m n l h a =
      record {
        stamps = a.stamps ∙ changed-same (λ _ _. m₀.mark) 0 p q m₀.stamp.now (λ j b. h j (omega (arith, l.stamps)));
        weights = a.weights ∙ changed-same gain nan p q m₀.weight.now (λ j b. h j (omega (arith, l.weights)));
        counted = a.counted;
      }

-- ---- boxes of cubes, one number more along an axis

module _ (g : Grid) (q : Vec3) where
  pub near_grows-x : (x0 k y0 y1 z0 z1 : ℕ) → x0 ≤ k → (i : ℕ) → Grows (near_box g q k (k + 1) y0 y1 z0 z1 i) (near_box g q x0 k y0 y1 z0 z1 i) (near_box g q x0 (k + 1) y0 y1 z0 z1 i)
  near_grows-x x0 k y0 y1 z0 z1 le i = grows-over (nearer g.centroids.now g.radius q i) _ _ _ (grows-x g.cell.now x0 k y0 y1 z0 z1 le i)

  pub near_grows-y : (x0 x1 y0 k z0 z1 : ℕ) → y0 ≤ k → (i : ℕ) → Grows (near_box g q x0 x1 k (k + 1) z0 z1 i) (near_box g q x0 x1 y0 k z0 z1 i) (near_box g q x0 x1 y0 (k + 1) z0 z1 i)
  near_grows-y x0 x1 y0 k z0 z1 le i = grows-over (nearer g.centroids.now g.radius q i) _ _ _ (grows-y g.cell.now x0 x1 y0 k z0 z1 le i)

  pub near_none-x : (x0 y0 y1 z0 z1 i : ℕ) → near_box g q x0 x0 y0 y1 z0 z1 i ≡ false
  near_none-x x0 y0 y1 z0 z1 i = and-left-false _ _ (none-x g.cell.now x0 y0 y1 z0 z1 i)

  pub near_none-y : (x0 x1 y0 z0 z1 i : ℕ) → near_box g q x0 x1 y0 y0 z0 z1 i ≡ false
  near_none-y x0 x1 y0 z0 z1 i = and-left-false _ _ (none-y g.cell.now x0 x1 y0 z0 z1 i)
