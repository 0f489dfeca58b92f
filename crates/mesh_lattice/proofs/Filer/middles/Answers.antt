-- `Filer::middles` meets its contract: the six calls' promises, put one into the other; each call finds the lists as long as they were. Assumes nothing.
use Rattle.std.proofs.Common.{ℕ, ◌≤◌, ◌<◌, arith}
use Rattle.mesh_lattice.proofs.Filed.{look_then, look_none, Kept, keeps-one, keeps-more}
use Rattle.mesh_lattice.proofs.Filer.middles.Goals as goal
use Rattle.mesh_lattice.specs.Filing.{Filing, filing, Ready}
use Rattle.mesh_lattice.specs.Lattice.{corners_in}
use Rattle.mesh_lattice.specs.declared.Grid.{Grid}

-- what a call asks once k edges are looked up
ready : (g : Grid) (a b x y k : ℕ) (s t : Filing) → k ≤ 5 → Ready g a b 6 s → x < corners_in g → y < corners_in g → Kept k s t → Ready g x y 1 t
ready g a b x y k s t le asked low high kept =
    record {
      low = low;
      high = high;
      fit = omega (arith, kept.nodes-long, asked.fit);
      room = omega (arith, kept.edges-long, asked.room);
      few = omega (arith, kept.few, asked.few);
    }

pub look-requires-2 : goal.look-requires-2
look-requires-2 c =
    let k1 : Kept 1 (filing c.args.self.now) (filing c.look.new.self) = keeps-one _ _ _ _ c.look.ensures.filed in
    ready _ _ _ _ _ 1 _ _ (omega arith) c.requires.first (omega (arith, c.requires.first.low, c.requires.first.high)) (omega (arith, c.requires.second.low, c.requires.second.high)) k1

pub look-requires-3 : goal.look-requires-3
look-requires-3 c =
    let k1 : Kept 1 (filing c.args.self.now) (filing c.look.new.self) = keeps-one _ _ _ _ c.look.ensures.filed in
    let k2 : Kept 2 (filing c.args.self.now) (filing c.look-2.new.self) = keeps-more _ 1 _ _ _ _ k1 c.look-2.ensures.filed in
    ready _ _ _ _ _ 2 _ _ (omega arith) c.requires.first c.requires.second.low c.requires.first.low k2

pub look-requires-4 : goal.look-requires-4
look-requires-4 c =
    let k1 : Kept 1 (filing c.args.self.now) (filing c.look.new.self) = keeps-one _ _ _ _ c.look.ensures.filed in
    let k2 : Kept 2 (filing c.args.self.now) (filing c.look-2.new.self) = keeps-more _ 1 _ _ _ _ k1 c.look-2.ensures.filed in
    let k3 : Kept 3 (filing c.args.self.now) (filing c.look-3.new.self) = keeps-more _ 2 _ _ _ _ k2 c.look-3.ensures.filed in
    ready _ _ _ _ _ 3 _ _ (omega arith) c.requires.first c.requires.first.low c.requires.second.high k3

pub look-requires-5 : goal.look-requires-5
look-requires-5 c =
    let k1 : Kept 1 (filing c.args.self.now) (filing c.look.new.self) = keeps-one _ _ _ _ c.look.ensures.filed in
    let k2 : Kept 2 (filing c.args.self.now) (filing c.look-2.new.self) = keeps-more _ 1 _ _ _ _ k1 c.look-2.ensures.filed in
    let k3 : Kept 3 (filing c.args.self.now) (filing c.look-3.new.self) = keeps-more _ 2 _ _ _ _ k2 c.look-3.ensures.filed in
    let k4 : Kept 4 (filing c.args.self.now) (filing c.look-4.new.self) = keeps-more _ 3 _ _ _ _ k3 c.look-4.ensures.filed in
    ready _ _ _ _ _ 4 _ _ (omega arith) c.requires.first c.requires.second.low c.requires.second.high k4

pub look-requires-6 : goal.look-requires-6
look-requires-6 c =
    let k1 : Kept 1 (filing c.args.self.now) (filing c.look.new.self) = keeps-one _ _ _ _ c.look.ensures.filed in
    let k2 : Kept 2 (filing c.args.self.now) (filing c.look-2.new.self) = keeps-more _ 1 _ _ _ _ k1 c.look-2.ensures.filed in
    let k3 : Kept 3 (filing c.args.self.now) (filing c.look-3.new.self) = keeps-more _ 2 _ _ _ _ k2 c.look-3.ensures.filed in
    let k4 : Kept 4 (filing c.args.self.now) (filing c.look-4.new.self) = keeps-more _ 3 _ _ _ _ k3 c.look-4.ensures.filed in
    let k5 : Kept 5 (filing c.args.self.now) (filing c.look-5.new.self) = keeps-more _ 4 _ _ _ _ k4 c.look-5.ensures.filed in
    ready _ _ _ _ _ 5 _ _ (omega arith) c.requires.first c.requires.first.high c.requires.second.high k5

pub returns-clause-filed : goal.returns-clause-filed
returns-clause-filed c =
    look_then _ _ _ _ _ _ _ _ c.look.ensures.filed c.look.ensures.number
    (look_then _ _ _ _ _ _ _ _ c.look-2.ensures.filed c.look-2.ensures.number
    (look_then _ _ _ _ _ _ _ _ c.look-3.ensures.filed c.look-3.ensures.number
    (look_then _ _ _ _ _ _ _ _ c.look-4.ensures.filed c.look-4.ensures.number
    (look_then _ _ _ _ _ _ _ _ c.look-5.ensures.filed c.look-5.ensures.number
    (look_then _ _ _ _ _ _ _ _ c.look-6.ensures.filed c.look-6.ensures.number
    (look_none _ _))))))
