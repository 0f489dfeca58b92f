-- What the steps of the code promise each other: rows written one after the other. What a caller must believe is said by `Build` of crate filter alone. Definitions only.
use Rattle.std.specs.Prelude.{◌≡◌, List, ℕ, ◌+◌, ◌≤◌, ◌<◌, length, drop, Float}
use Rattle.lists.specs.Lists.{overwrite, overlay}
use Rattle.filter.specs.Filter.{start, neighbours, coefficients}
use Rattle.filter.specs.Build.{Working, rows_refusal}
use Rattle.filter.specs.declared.work.TableMut.{TableMut}

-- all rows written, or the first refusal
pub record Filled (centroids : List (List Float)) (radius : Float) (planes : List (List Float)) (volumes : List Float) (t : TableMut) (number : ℕ) (t' : TableMut) : Type 0 where
  pub numbers : number ≡ rows_refusal centroids radius planes (length t.near.now) (length t.coef.now) (length centroids)
  pub begins : number ≡ 0 → t'.starts.now ≡ overwrite (start centroids radius planes) (length centroids + 1) t.starts.now
  pub nears : number ≡ 0 → t'.near.now ≡ overlay (neighbours centroids radius planes (length centroids)) t.near.now
  pub coefs : number ≡ 0 → t'.coef.now ≡ overlay (coefficients centroids radius planes volumes (length centroids)) t.coef.now

-- how long the lists are: the working lists as long as needed
pub record Sized (n volumes planes starts : ℕ) (w : Working) : Type 0 where
  pub some : 0 < n
  pub few : n < 65536
  pub volumed : volumes ≡ n
  pub three : planes ≤ 3
  pub begun : n < starts
  pub cells : length w.cell ≡ n
  pub orders : length w.order ≡ n
  pub firsts : length w.first ≡ n + 1
  pub sorteds : length w.sorted ≡ n
  pub stamps : length w.stamp ≡ n
  pub weights : length w.weight ≡ n
  pub founds : length w.found ≡ n
  pub maps : length w.bits ≡ 1040

-- the same, the working lists at least as long
pub record Roomy (n volumes planes starts : ℕ) (w : Working) : Type 0 where
  pub some : 0 < n
  pub few : n < 65536
  pub volumed : volumes ≡ n
  pub three : planes ≤ 3
  pub begun : n < starts
  pub cells : n ≤ length w.cell
  pub orders : n ≤ length w.order
  pub firsts : n + 1 ≤ length w.first
  pub sorteds : n ≤ length w.sorted
  pub stamps : n ≤ length w.stamp
  pub weights : n ≤ length w.weight
  pub founds : n ≤ length w.found
  pub maps : 1040 ≤ length w.bits

-- the working lists are as lent past the places needed
pub record Past (n : ℕ) (w w' : Working) : Type 0 where
  pub cells : drop n w'.cell ≡ drop n w.cell
  pub orders : drop n w'.order ≡ drop n w.order
  pub firsts : drop (n + 1) w'.first ≡ drop (n + 1) w.first
  pub sorteds : drop n w'.sorted ≡ drop n w.sorted
  pub stamps : drop n w'.stamp ≡ drop n w.stamp
  pub weights : drop n w'.weight ≡ drop n w.weight
  pub founds : drop n w'.found ≡ drop n w.found
  pub maps : drop 1040 w'.bits ≡ drop 1040 w.bits
