-- The same by what the volumes are reckoned by. Definitions only.
use Rattle.std.specs.Prelude.{◌≡◌, ℕ, Some, List, length, Float}
use Rattle.lists.specs.Lists.{sum_to}
use Rattle.filter_table.specs.Lent.{seen_at}
use Rattle.oc_record.specs.Record.{dot}
use Rattle.oc_seen.specs.Seen.{seen_density}
use Rattle.update_two.specs.declared.Reckoning.{Reckoning}
use Rattle.update_two.specs.Part.{bent, part}

-- what element e's tanh is taken of
abbrev pub bent_at : Reckoning → List Float → ℕ → Float
bent_at r x e = bent r.at.beta (seen_at r.formed.table x e)

-- the volume that the first n elements keep
abbrev pub volume_to : Reckoning → List Float → ℕ → Float
volume_to r x n = sum_to (part r.at.beta r.formed.table.starts.now r.formed.table.near.now r.formed.table.coef.now r.volumes.now r.passive.now x) n

-- designs that the table is for
abbrev pub Designs : Reckoning → List Float → List Float → Type 0
Designs r x y = (r.formed.columns ≡ length x) × (length y ≡ length x)

-- the volume that a design keeps
abbrev pub volume_of : Reckoning → List Float → Float
volume_of r x = dot r.volumes.now (seen_density (Some r.at.beta) r.formed.table.starts.now r.formed.table.near.now r.formed.table.coef.now r.passive.now x)
