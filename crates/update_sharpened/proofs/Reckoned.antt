-- The volumes of a `Reckoning` are those of the update. Assumes nothing.
use mathlib.Core.Path.{◌≡◌, ap}
use mathlib.Core.List.{List}
use mathlib.Core.Bool.{Bool}
use Rattle.std.proofs.Common.{Some}
use lib.Ieee.{Float}
use Rattle.oc_kept.specs.Kept.{kept_of}
use Rattle.oc_record.specs.Record.{dot}
use Rattle.oc_seen.specs.Seen.{seen_density}
use Rattle.update_rates.specs.Rates.{reckoned}
use Rattle.update_two.specs.Sums.{volume_of}
use Rattle.update_sharpened.specs.declared.sharp.Sharp.{Sharp}
use Rattle.update_sharpened.specs.Ahead.{sharp_of}

pub volume-is : (s : Sharp) (y : List Float) → volume_of s.reckoning y ≡ reckoned (sharp_of s) y
unfolding reckoned kept_of
volume-is s y =
    let r = s.reckoning in
    let t = r.formed.table in
    ap (λ (l : List Bool). dot r.volumes.now (seen_density (Some r.at.beta) t.starts.now t.near.now t.coef.now l y)) s.passive_is
