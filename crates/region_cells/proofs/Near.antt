-- A walk of a box of cells marks the near elements there. Assumes nothing.
use mathlib.Core.Path.{◌≡◌, refl, sym, ap, ◌∙◌}
use mathlib.Core.Bool.{Bool, true, false, ◌&&◌}
use mathlib.Core.List.{List}
use Prim.Native.Nat.{ℕ, ◌+◌, ◌≤◌, ◌<◌}
use native.Mathlib.Omega.{arith}
use lib.ListN.{length, get_or, set}
use lib.Seq.{set-get_or}
use lib.Ieee.{Float}
use Rattle.lists.specs.Lists.{choose}
use Rattle.lists.proofs.Laws.{both, choose-true, choose-false}
use Rattle.cells.specs.Cells.{in_box, changed}
use Rattle.cells.proofs.Changed.{Grows, grows-over, changed-none, changed-more}
use Rattle.cells.proofs.Walks.{Walked, walk-hit, walk_miss}
use Rattle.cells.proofs.Boxes.{box-own, box-cell, grows-x, grows-y, none-x, none-y}
use Rattle.region_cells.specs.Steps.{near_at, box_near, seen_at}
use Rattle.faces.specs.declared.Triangle.{Triangle}

-- an element that is marked stays so
pub marked-stays : (w : List Bool) (i : ℕ) (p : Bool) → get_or w i false ≡ true → w ≡ choose p (set w i true) w
unfolding choose
marked-stays w i true e = sym (ap (set w i) (sym e) ∙ set-get_or w i false)
marked-stays w i false e = refl

module _ (t : Triangle) (limit : Float) (centroids : List (List Float)) (cells : List (List ℕ)) where
  pub near_box_lem : (x0 x1 y0 y1 z0 z1 i : ℕ) → box_near t limit centroids cells x0 x1 y0 y1 z0 z1 i ≡ true → in_box cells x0 x1 y0 y1 z0 z1 i ≡ true
  unfolding box_near
  near_box_lem x0 x1 y0 y1 z0 z1 i e = (both (in_box cells x0 x1 y0 y1 z0 z1 i) _ e).0

  pub near-own : (x0 x1 y0 y1 z0 z1 i : ℕ) → box_near t limit centroids cells x0 x1 y0 y1 z0 z1 i ≡ true → i < length cells
  near-own x0 x1 y0 y1 z0 z1 i e = box-own cells x0 x1 y0 y1 z0 z1 i (near_box_lem x0 x1 y0 y1 z0 z1 i e)

  pub near-grows-x : (x0 k y0 y1 z0 z1 : ℕ) → x0 ≤ k → (i : ℕ)
      → Grows (box_near t limit centroids cells k (k + 1) y0 y1 z0 z1 i) (box_near t limit centroids cells x0 k y0 y1 z0 z1 i) (box_near t limit centroids cells x0 (k + 1) y0 y1 z0 z1 i)
  unfolding box_near
  near-grows-x x0 k y0 y1 z0 z1 le i = grows-over (near_at t limit centroids i) _ _ _ (grows-x cells x0 k y0 y1 z0 z1 le i)

  pub near-grows-y : (x0 x1 y0 k z0 z1 : ℕ) → y0 ≤ k → (i : ℕ)
      → Grows (box_near t limit centroids cells x0 x1 k (k + 1) z0 z1 i) (box_near t limit centroids cells x0 x1 y0 k z0 z1 i) (box_near t limit centroids cells x0 x1 y0 (k + 1) z0 z1 i)
  unfolding box_near
  near-grows-y x0 x1 y0 k z0 z1 le i = grows-over (near_at t limit centroids i) _ _ _ (grows-y cells x0 x1 y0 k z0 z1 le i)

  pub near-none-x : (marks : List Bool) (x0 y0 y1 z0 z1 : ℕ) → marks ≡ changed (box_near t limit centroids cells x0 x0 y0 y1 z0 z1) (λ _ _. true) marks
  unfolding box_near
  near-none-x marks x0 y0 y1 z0 z1 = changed-none (λ _ _. true) true _ marks (λ i. rw (none-x cells x0 y0 y1 z0 z1 i))

  pub near-none-y : (marks : List Bool) (x0 x1 y0 z0 z1 : ℕ) → marks ≡ changed (box_near t limit centroids cells x0 x1 y0 y0 z0 z1) (λ _ _. true) marks
  unfolding box_near
  near-none-y marks x0 x1 y0 z0 z1 = changed-none (λ _ _. true) true _ marks (λ i. rw (none-y cells x0 x1 y0 z0 z1 i))

  -- a plane more, and a column more
  pub near-more-x : (l w v : List Bool) (x0 k y0 y1 z0 z1 : ℕ) → x0 ≤ k → w ≡ changed (box_near t limit centroids cells x0 k y0 y1 z0 z1) (λ _ _. true) l → v ≡ changed (box_near t limit centroids cells k (k + 1) y0 y1 z0 z1) (λ _ _. true) w
      → v ≡ changed (box_near t limit centroids cells x0 (k + 1) y0 y1 z0 z1) (λ _ _. true) l
  near-more-x l w v x0 k y0 y1 z0 z1 le e ev = changed-more (λ _ _. true) true _ _ _ l w v (near-grows-x x0 k y0 y1 z0 z1 le) e ev

  pub near-more-y : (l w v : List Bool) (x0 x1 y0 k z0 z1 : ℕ) → y0 ≤ k → w ≡ changed (box_near t limit centroids cells x0 x1 y0 k z0 z1) (λ _ _. true) l → v ≡ changed (box_near t limit centroids cells x0 x1 k (k + 1) z0 z1) (λ _ _. true) w
      → v ≡ changed (box_near t limit centroids cells x0 x1 y0 (k + 1) z0 z1) (λ _ _. true) l
  near-more-y l w v x0 x1 y0 k z0 z1 le e ev = changed-more (λ _ _. true) true _ _ _ l w v (near-grows-y x0 x1 y0 k z0 z1 le) e ev

  module _ (order first : List ℕ) (m x y z0 z1 : ℕ) where
    seen-is : (k : ℕ) → get_or order k 0 < length cells → seen_at t limit k x y z0 z1 centroids cells order ≡ box_near t limit centroids cells x (x + 1) y (y + 1) z0 (z1 + 1) (get_or order k 0)
    unfolding seen_at box_near
    seen-is k lt = ap (λ (s : Bool). s && near_at t limit centroids (get_or order k 0)) (box-cell cells x (x + 1) y (y + 1) z0 (z1 + 1) (get_or order k 0) lt)

    -- one position more
    pub look-more : (marks : List Bool) (a k : ℕ) (w w' : List Bool) → a ≤ k → k < length cells → get_or order k 0 < length cells → length w ≡ length cells
        → Walked cells order first m (box_near t limit centroids cells x (x + 1) y (y + 1) z0 (z1 + 1)) (λ _ _. true) marks a k w
        → w' ≡ choose (seen_at t limit k x y z0 z1 centroids cells order) (set w (get_or order k 0) true) w
        → Walked cells order first m (box_near t limit centroids cells x (x + 1) y (y + 1) z0 (z1 + 1)) (λ _ _. true) marks a (k + 1) w'
    look-more marks a k w w' le lt own len inv e = go (seen_at t limit k x y z0 z1 centroids cells order) refl
      where
        p : ℕ → Bool
        p = box_near t limit centroids cells x (x + 1) y (y + 1) z0 (z1 + 1)

        go : (s : Bool) → seen_at t limit k x y z0 z1 centroids cells order ≡ s → Walked cells order first m p (λ _ _. true) marks a (k + 1) w'
        go true q f =
            e ∙ choose-true _ _ _ q
            ∙ walk-hit cells order first m p (near-own x (x + 1) y (y + 1) z0 (z1 + 1)) (λ _ _. true) true marks a k le lt w inv (sym (seen-is k own) ∙ q) (omega (arith, own)) true refl f
        go false q f =
            e ∙ choose-false _ _ _ q
            ∙ walk_miss cells order first m p (near-own x (x + 1) y (y + 1) z0 (z1 + 1)) (λ _ _. true) true marks a k le lt w inv (sym (seen-is k own) ∙ q) f
