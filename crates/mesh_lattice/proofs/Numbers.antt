-- Bounds of corners' numbers, over plain numbers first. Assumes nothing.
use mathlib.Core.Path.{◌≡◌}
use Prim.Native.Nat.{ℕ, ◌+◌, ◌*◌, ◌≤◌, ◌<◌}
use native.Mathlib.Omega.{arith}
use native.Mathlib.Nat.{mul-suc, mul_comm, mul_assoc, mul_left_comm, mul-pos, mul-le-mul, mul-le-mul_left, le-mul_of_pos_right, le_trans}
use Rattle.mesh_lattice.specs.declared.Grid.{Grid}
use Rattle.mesh_lattice.specs.declared.Corner.{Corner}
use Rattle.mesh_lattice.specs.Lattice.{number_of, corners_in, tets_in, nodes_in}
use Rattle.mesh_lattice.specs.Bounds.{Positive, Small, Inside}

-- a number of two digits
pub digit : (i x m n : ℕ) → i < x → m < n → i + x * m < x * n
digit i x m n h k = omega (arith, mul-suc x m, mul-le-mul_left x k)

pub at_most : (x m : ℕ) → 0 < x → m ≤ x * m
at_most x m h = rw (mul_comm x m) (le-mul_of_pos_right m h)

pub number_lt : (g : Grid) (c : Corner) → Inside g c → number_of g c < corners_in g
unfolding number_of
number_lt g c h =
    digit c.i (g.nx + 1) (c.j + (g.ny + 1) * c.k) ((g.ny + 1) * (g.nz + 1)) (omega (arith, h.x))
    (digit c.j (g.ny + 1) c.k (g.nz + 1) (omega (arith, h.y)) (omega (arith, h.z)))

-- ---- how many cells there may be

-- each number of cells is at most their product
pub x_most : (g : Grid) → Positive g → g.nx ≤ g.nx * (g.ny * g.nz)
x_most g p = le-mul_of_pos_right g.nx (mul-pos p.y p.z)

pub y_most : (g : Grid) → Positive g → g.ny ≤ g.nx * (g.ny * g.nz)
y_most g p = le_trans (le-mul_of_pos_right g.ny p.z) (at_most g.nx (g.ny * g.nz) p.x)

pub z_most : (g : Grid) → Positive g → g.nz ≤ g.nx * (g.ny * g.nz)
z_most g p = le_trans (at_most g.ny g.nz p.y) (at_most g.nx (g.ny * g.nz) p.x)

-- no product of the three overflows
pub two_fit : (a b : ℕ) → a ≤ 10922 → b ≤ 10922 → a * b ≤ 119290084
two_fit a b h k = mul-le-mul h k

pub three_fit : (a b c : ℕ) → a ≤ 10922 → b ≤ 10922 → c ≤ 10922 → a * (b * c) ≤ 1302886297448
three_fit a b c h k l = mul-le-mul h (two_fit b c k l)

double : (n : ℕ) → 0 < n → n + 1 ≤ 2 * n
double n h = omega arith

-- few tetrahedra, and so few cells and few corners
pub small_of : (g : Grid) → Positive g → tets_in g ≤ 65535 → Small g
small_of g p h =
    let eight : 2 * g.nx * (2 * g.ny * (2 * g.nz)) ≡ 8 * (g.nx * (g.ny * g.nz)) = simp (mul_assoc, mul_left_comm g.nx 2, mul_left_comm g.ny 2) (omega arith) in
    let most : corners_in g ≤ 2 * g.nx * (2 * g.ny * (2 * g.nz)) = mul-le-mul (double g.nx p.x) (mul-le-mul (double g.ny p.y) (double g.nz p.z)) in
    record {
      some-x = p.x;
      some-y = p.y;
      some-z = p.z;
      few-x = omega (arith, x_most g p);
      few-y = omega (arith, y_most g p);
      few-z = omega (arith, z_most g p);
      few = h;
      corners = omega arith;
    }

-- there are no more corners than nodes
pub corners-most : (g : Grid) → corners_in g ≤ nodes_in g
corners-most g =
    let x : g.nx + 1 ≤ 2 * g.nx + 1 = omega arith in
    let y : g.ny + 1 ≤ 2 * g.ny + 1 = omega arith in
    let z : g.nz + 1 ≤ 2 * g.nz + 1 = omega arith in
    mul-le-mul x (mul-le-mul y z)
