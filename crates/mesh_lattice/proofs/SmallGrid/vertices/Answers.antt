-- `SmallGrid::vertices` meets its contract: the way's corners are inside, and change places by the test. Assumes nothing.
use Rattle.std.proofs.Common.{◌≡◌, ℕ, ◌<◌, List, [], ◌∷◌, true, false, ap, sym, ◌∙◌, subst}
use Rattle.lists.specs.Lists.{choose, zero64}
use Rattle.mesh.specs.Mesh.{triple}
use Rattle.mesh_lattice.proofs.Ways.{way-inside, turns, vertices_are}
use Rattle.mesh_lattice.proofs.SmallGrid.vertices.Goals as goal
use Rattle.mesh_lattice.specs.Bounds.{Small, InsideAll}
use Rattle.mesh_lattice.specs.Lattice.{tets_in, nth, way_of, vertex_of}
use Rattle.mesh_lattice.specs.declared.Corner.{Corner}
use Rattle.mesh_lattice.specs.declared.Grid.{Grid}
use Rattle.mesh_lattice.specs.declared.Vertex.{Vertex}
use lib.Ieee.{Float, lt}

-- the way's corners are inside
inside : (g : Grid) (e : ℕ) (w : List Corner) → Small g → e < tets_in g → w ≡ way_of g e → InsideAll g w
inside g e w small h is = subst (InsideAll g) (sym is) (way-inside g e small h)

-- the corner that the code names, by the definition's way
named : (g : Grid) (e m : ℕ) (w : List Corner) (v : Vertex) → w ≡ way_of g e → v ≡ vertex_of g (nth w m) → v ≡ vertex_of g (nth (way_of g e) m)
named g e m w v is made = made ∙ ap (λ (w : List Corner). vertex_of g (nth w m)) is

-- what is tested
tested : (g : Grid) (e : ℕ) (a b c d : Vertex) (r : Float) → r ≡ triple a.place b.place c.place d.place
    → a ≡ vertex_of g (nth (way_of g e) 0) → b ≡ vertex_of g (nth (way_of g e) 1) → c ≡ vertex_of g (nth (way_of g e) 2) → d ≡ vertex_of g (nth (way_of g e) 3)
    → turns g (way_of g e) ≡ lt r zero64
tested g e a b c d r is ea eb ec ed = sym (ap (λ (v : Float). lt v zero64) (is ∙ (λ i. triple (ea i).place (eb i).place (ec i).place (ed i).place)))

pub vertex-a-requires : goal.vertex-a-requires
vertex-a-requires c = (inside _ _ _ c.args.self.small c.requires c.way.ensures).a

pub vertex-b-requires : goal.vertex-b-requires
vertex-b-requires c = (inside _ _ _ c.args.self.small c.requires c.way.ensures).b

pub vertex-c-requires : goal.vertex-c-requires
vertex-c-requires c = (inside _ _ _ c.args.self.small c.requires c.way.ensures).c

pub vertex-d-requires : goal.vertex-d-requires
vertex-d-requires c = (inside _ _ _ c.args.self.small c.requires c.way.ensures).d

pub returns-then-triple : goal.returns-then-triple
unfolding choose
returns-then-triple c =
    let g = c.args.self.grid in
    let e = c.args.e in
    let a = named g e 0 _ _ c.way.ensures c.vertex-a.ensures in
    let b = named g e 1 _ _ c.way.ensures c.vertex-b.ensures in
    let r = named g e 2 _ _ c.way.ensures c.vertex-c.ensures in
    let d = named g e 3 _ _ c.way.ensures c.vertex-d.ensures in
    (λ i. a i ∷ r i ∷ b i ∷ d i ∷ []) ∙ vertices_are g e true (tested g e _ _ _ _ _ c.triple.ensures a b r d ∙ c.if-triple.true)

pub returns : goal.returns
unfolding choose
returns c =
    let g = c.args.self.grid in
    let e = c.args.e in
    let a = named g e 0 _ _ c.way.ensures c.vertex-a.ensures in
    let b = named g e 1 _ _ c.way.ensures c.vertex-b.ensures in
    let r = named g e 2 _ _ c.way.ensures c.vertex-c.ensures in
    let d = named g e 3 _ _ c.way.ensures c.vertex-d.ensures in
    (λ i. a i ∷ b i ∷ r i ∷ d i ∷ []) ∙ vertices_are g e false (tested g e _ _ _ _ _ c.triple.ensures a b r d ∙ c.if-triple.false)
