-- `topo_moduli::level_below` meets its contract: the level before the first whose modulus is above x. Assumes nothing.
use Rattle.topo_moduli.proofs.Levels.{ends, below-first, below_none}
use Rattle.topo_moduli.proofs.level_below.Goals as goal

pub returns-then-not-inside : goal.returns-then-not-inside
returns-then-not-inside c = below_none _ (ends _ _ _ _ c.modulus_at.ensures c.modulus_at-2.ensures c.if-not-inside.true)

pub returns : goal.returns
returns c =
    let e = c.not_above-level.ensures in
    below-first _ _ (ends _ _ _ _ c.modulus_at.ensures c.modulus_at-2.ensures c.if-not-inside.false) e.within e.below e.above
