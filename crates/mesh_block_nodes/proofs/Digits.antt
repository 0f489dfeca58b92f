-- A corner's number and back, and the tetrahedra of a cell. Assumes nothing.
use mathlib.Core.Path.{◌≡◌, ap, ◌∙◌}
use Prim.Native.Nat.{ℕ, ◌+◌, ◌*◌, ◌/◌, ◌%◌, ◌<◌}
use native.Mathlib.Omega.{arith}
use native.Mathlib.Nat.{mod-eq_of_lt, div-eq_of_lt, add-mul-mod_self_left, add-mul-div_left, mod-add-div, zero-add}
use Rattle.mesh_lattice.specs.declared.Grid.{Grid}
use Rattle.mesh_lattice.specs.declared.Corner.{Corner}
use Rattle.mesh_lattice.specs.Lattice.{number_of, corner_of, tets_in, first_of}
use Rattle.mesh_lattice.specs.Bounds.{Inside}
use Rattle.mesh_lattice.proofs.Numbers.{digit}
use Rattle.mesh_lattice.proofs.Ways.{First}

-- ---- a number of two digits

last : (i x m : ℕ) → i < x → (i + x * m) % x ≡ i
last i x m h = add-mul-mod_self_left i x m ∙ mod-eq_of_lt h

front : (i x m : ℕ) → i < x → (i + x * m) / x ≡ m
front i x m h = add-mul-div_left i m (omega arith) ∙ ap (λ (n : ℕ). n + m) (div-eq_of_lt h) ∙ zero-add m

-- ---- corners

pub number-corner : (g : Grid) (n : ℕ) → number_of g (corner_of g n) ≡ n
unfolding number_of corner_of
number-corner g n = ap (λ (m : ℕ). n % (g.nx + 1) + (g.nx + 1) * m) (mod-add-div (n / (g.nx + 1)) (g.ny + 1)) ∙ mod-add-div n (g.nx + 1)

-- three digits: what is left after the first, and after the second
module _ (x y i j k : ℕ) (hx : i < x) (hy : j < y) where
  abbrev whole : ℕ
  whole = i + x * (j + y * k)

  first-digit : whole % x ≡ i
  first-digit = last i x (j + y * k) hx

  rest : whole / x ≡ j + y * k
  rest = front i x (j + y * k) hx

  second-digit : whole / x % y ≡ j
  second-digit = ap (λ (n : ℕ). n % y) rest ∙ last j y k hy

  third-digit : whole / x / y ≡ k
  third-digit = ap (λ (n : ℕ). n / y) rest ∙ front j y k hy

pub corner-number : (g : Grid) (c : Corner) → Inside g c → corner_of g (number_of g c) ≡ c
unfolding number_of corner_of
corner-number g c h =
    let a : c.i < g.nx + 1 = omega (arith, h.x) in
    let b : c.j < g.ny + 1 = omega (arith, h.y) in
    λ t. record {
      i = first-digit (g.nx + 1) (g.ny + 1) c.i c.j c.k a b t;
      j = second-digit (g.nx + 1) (g.ny + 1) c.i c.j c.k a b t;
      k = third-digit (g.nx + 1) (g.ny + 1) c.i c.j c.k a b t;
    }

-- ---- tetrahedra

-- tetrahedron w of the cell whose first corner is p
pub tet_at : Grid → Corner → ℕ → ℕ
tet_at g p w = w + 6 * (p.i + g.nx * (p.j + g.ny * p.k))

module _ (g : Grid) (p : Corner) (h : First g p) (w : ℕ) (l : w < 6) where
  pub tet-lt : tet_at g p w < tets_in g
  unfolding tet_at
  tet-lt = digit w 6 (p.i + g.nx * (p.j + g.ny * p.k)) (g.nx * (g.ny * g.nz)) l (digit p.i g.nx (p.j + g.ny * p.k) (g.ny * g.nz) h.x (digit p.j g.ny p.k g.nz h.y h.z))

  pub tet_way : tet_at g p w % 6 ≡ w
  unfolding tet_at
  tet_way = last w 6 (p.i + g.nx * (p.j + g.ny * p.k)) l

  cell : tet_at g p w / 6 ≡ p.i + g.nx * (p.j + g.ny * p.k)
  unfolding tet_at
  cell = front w 6 (p.i + g.nx * (p.j + g.ny * p.k)) l

  pub tet-first : first_of g (tet_at g p w) ≡ p
  unfolding first_of
  tet-first =
      (λ t. record { i = cell t % g.nx; j = cell t / g.nx % g.ny; k = cell t / g.nx / g.ny })
      ∙ (λ t. record {
        i = first-digit g.nx g.ny p.i p.j p.k h.x h.y t;
        j = second-digit g.nx g.ny p.i p.j p.k h.x h.y t;
        k = third-digit g.nx g.ny p.i p.j p.k h.x h.y t;
      })
