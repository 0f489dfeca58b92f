-- 01's proved cases, all in one theorem. Assumes nothing.
use mathlib.Core.Path.{◌≡◌, refl}
use lib.Ieee as Ieee
use lib.Ieee.{binary64, of_bits}
use Rattle.lists.specs.Lists as Lists
use Rattle.ieee.specs.Basic as Basic
use Rattle.ieee_whole.specs.Whole as Whole
use Rattle.ieee_root.specs.Sqrt as Sqrt
use Rattle.geom.specs.Vectors as Vectors
use Rattle.cells.specs.Cells as Cells
use Rattle.filter_group.specs.Group as Group
use Rattle.filter.specs.Filter as Filter
use Rattle.oc_start.specs.Start as Start
use Rattle.run_plain.specs.Formulas as Formulas
use Rattle.run_plain.specs.Opening as Opening
use Rattle.run_plain.specs.Opening.{Kept}
use Rattle.update_rates.specs.Rates.{half}
use Rattle.geom.proofs.Cases.{image_in-x}
use Rattle.faces.proofs.Cases.{above-a-corner, above_the_face}
use Rattle.topo.proofs.Cases.{level_of-half, level_of-minus-three, level_of_seven_lem}
use Rattle.oc_project.proofs.Cases.{projection-ends}
use Rattle.region_off_centre.proofs.Cases.{reaches-one-and-none, even-at-half}
use Rattle.update_rates.proofs.Cases.{nan-slope}
use Rattle.proved_cases.specs.Cases.{ProvedCases, OwnRows, two_free}
use Rattle.proved_cases.proofs.Example.{worked-example}

no_room_lem : Opening.entry_of (two_free (of_bits binary64 0x3f50_624d_d2f1_a9fc)) ≡ Kept 7
unfolding Opening.entry_of Opening.first_refusal Lists.choose Lists.any_to Ieee.lt of_bits Ieee.le Ieee.mul Formulas.sum_of Lists.sum_to Ieee.add Start.solid_volume Ieee.sub
no_room_lem = refl

own-rows : OwnRows (two_free half)
unfolding Opening.starts_of Opening.near_of Opening.coef_of Lists.tabulate Filter.start Filter.neighbours Filter.coefficients Ieee.lt Group.image_in of_bits Ieee.sub Vectors.least Basic.min_of Ieee.is_nan Vectors.greatest Basic.max_of Cells.nearby Whole.floor_at Ieee.div Vectors.len Sqrt.sqrt_of Vectors.len2 Vectors.dot Ieee.mul Vectors.less
own-rows = record { starts = refl; near = refl; coef = refl }

pub proved_cases : ProvedCases
proved_cases =
    record {
      worked = worked-example;
      nan_slope = nan-slope;
      no_room = no_room_lem;
      own_rows = own-rows;
      level_of_half = level_of-half;
      level_of_minus_three = level_of-minus-three;
      level_of_seven = level_of_seven_lem;
      projects_none = λ k h. (projection-ends k h).none;
      projects_all = λ k h. (projection-ends k h).all;
      above_corner = above-a-corner;
      above_face = above_the_face;
      image_in_x = image_in-x;
      reaches = reaches-one-and-none;
      reaches_none = even-at-half;
    }
