-- `region_by_nodes::by_nodes` meets its contract: the flags are those of the kept nodes. Assumes nothing.
use Rattle.region_by_nodes.proofs.Flags.{marked}
use Rattle.region_by_nodes.proofs.by_nodes.Goals as goal
use borrow.Author.Rules.{rules}
use lib.ListN.{length}

pub returns : goal.returns
returns c = let a = c.args in
    marked (length a.keep.now) a.b.tris.now a.b.surfaces.now a.b.starts.now a.b.kept.now a.held.now a.loaded.now a.b.sets
    c.fill.new.self c.flag_all.new.keep c.flag_all-2.new.keep c.flag_sets.new.keep c.mark.new.marks a.tets.now (search rules) c.flag_all.ensures c.flag_all-2.ensures c.flag_sets.ensures c.mark.ensures
