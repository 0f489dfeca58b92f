use Rattle.update_defined.proofs.defined.Defined.kept.Goals as goal
use Rattle.update_rates.specs.Rates.{reckoned}

pub returns : goal.returns
unfolding reckoned
returns c = c.kept.ensures
