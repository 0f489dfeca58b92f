-- What the steps of the code promise each other: one row written. What a caller must believe is said by `Build` of crate filter alone. Definitions only.
use Rattle.std.specs.Prelude.{◌≡◌, List, ℕ, ◌+◌, ◌≤◌, ◌<◌, length, get_or, take, Float}
use Rattle.std.specs.Float.{nan, binary64}
use Rattle.std.specs.Float.Ieee.{div}
use Rattle.lists.specs.Lists.{sum_to, zero64}
use Rattle.filter.specs.Filter.{chosen, columns, coefficient}
use Rattle.filter.specs.Steps.{room_refusal}
use Rattle.filter.specs.declared.work.TableMut.{TableMut}
use Rattle.filter_look.specs.Steps.{stamped}
use Rattle.filter_look.specs.declared.met.Met.{Met}
use Rattle.filter_entries.specs.Entries.{product_at, written, cleared}

-- the elements that bear the mark, as found, weighed by what stood in the weights
pub record Settled (e at : ℕ) (volumes : List Float) (m : Met) (t : TableMut) (number end : ℕ) (m' : Met) (t' : TableMut) : Type 0 where
  pub ends : end ≡ at + m.count
  pub numbers : number ≡ room_refusal e end (length t.near.now) (length t.coef.now)
  pub starts : t'.starts.now ≡ t.starts.now
  pub stamps : m'.stamp.now ≡ m.stamp.now
  pub count : m'.count ≡ m.count
  pub all : number ≡ 0 → take m.count m'.found.now ≡ chosen (stamped m.stamp.now m.mark) (length m.stamp.now)
  pub weights : number ≡ 0 → m'.weight.now ≡ cleared m'.found.now m.count m.weight.now
  pub nears : number ≡ 0 → t'.near.now ≡ written at (λ k. get_or m'.found.now k 0) m.count t.near.now
  pub coefs : number ≡ 0 → t'.coef.now ≡ written at (λ k. div binary64 (product_at m'.found.now m.weight.now volumes k) (sum_to (product_at m'.found.now m.weight.now volumes) m.count)) m.count t.coef.now

-- before row e: no weights, and no marks from e + 1 on
pub record Clean (n e : ℕ) (m : Met) : Type 0 where
  pub few : n < 65536
  pub stamps : length m.stamp.now ≡ n
  pub weights : length m.weight.now ≡ n
  pub maps : 1040 ≤ length m.bits.now
  pub founds : n ≤ length m.found.now
  pub zero : (i : ℕ) → i < n → get_or m.weight.now i nan ≡ zero64
  pub most : (i : ℕ) → i < n → get_or m.stamp.now i 0 ≤ e

-- row e written from `at` on
pub record Rowed (centroids : List (List Float)) (radius : Float) (planes : List (List Float)) (volumes : List Float) (e at : ℕ) (t : TableMut) (number end : ℕ) (t' : TableMut) : Type 0 where
  pub ends : end ≡ at + length (columns centroids radius planes e)
  pub numbers : number ≡ room_refusal e end (length t.near.now) (length t.coef.now)
  pub starts : t'.starts.now ≡ t.starts.now
  pub nears : number ≡ 0 → t'.near.now ≡ written at (λ k. get_or (columns centroids radius planes e) k 0) (length (columns centroids radius planes e)) t.near.now
  pub coefs : number ≡ 0 → t'.coef.now ≡ written at (λ k. coefficient centroids radius planes volumes e (get_or (columns centroids radius planes e) k 0)) (length (columns centroids radius planes e)) t.coef.now
