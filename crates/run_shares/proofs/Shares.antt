-- The table of the plain run is the one that the definitions give. Assumes nothing.
use Rattle.filter_shares.proofs.Claims.{defined-near-one, defined-move}
use Rattle.run_plain.specs.Opening.{Opening, starts_of, near_of, coef_of}
use Rattle.run_shares.specs.Shares.{RunNearOne, RunMove}

pub run-near-one : (o : Opening) → RunNearOne o
unfolding starts_of coef_of
run-near-one o = defined-near-one o.centroids o.goal.radius o.mirrors o.volumes

pub run-move : (o : Opening) → RunMove o
unfolding starts_of near_of coef_of
run-move o = defined-move o.centroids o.goal.radius o.mirrors o.volumes
