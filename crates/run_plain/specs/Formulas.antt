-- 01, "The rounds": the formulas of a round, put together as `optimize` does, over what an opening was given. Definitions only.
use Rattle.std.specs.Prelude.{Bool, not, List, ℕ, length, get_or, Float, Option, Some, None}
use Rattle.std.specs.Float.{nan, binary64}
use Rattle.std.specs.Float.Ieee.{sub, mul, div, lt, of_bits}
use Rattle.lists.specs.Lists.{tabulate, sum_to, any_to, choose, zero64}
use Rattle.ieee.specs.Basic.{one64, abs_of, is_finite}
use Rattle.ieee_root.specs.Sqrt.{sqrt_of}
use Rattle.topo.specs.declared.Iteration.{Iteration}
use Rattle.oc_kept.specs.declared.Rule.TheVariants.{Straight, Sharpened}
use Rattle.oc_start.specs.Start.{solid_volume, free_volumes}
use Rattle.oc_goal.specs.Goal.{target_of, tolerance_of}
use Rattle.oc_seen.specs.Seen.{seen_density, seen_slope}
use Rattle.oc_slopes.specs.Slopes.{work_slope, volume_slope, straight_slope}
use Rattle.oc_record.specs.Record.{compliance_of, fraction_of, change_of, grey_of}
use Rattle.update_design.specs.Design.{gains_of}
use Rattle.update_rates.specs.Rates.{Given, Search, updated}

-- "The steepness runs 1, 2, 4, 8, 16"
pub data Steep : Type 0 where
  s1 s2 s4 s8 s16 : Steep

abbrev pub sharpness : Steep → Float
sharpness s1 = of_bits binary64 0x3ff0_0000_0000_0000
sharpness s2 = of_bits binary64 0x4000_0000_0000_0000
sharpness s4 = of_bits binary64 0x4010_0000_0000_0000
sharpness s8 = of_bits binary64 0x4020_0000_0000_0000
sharpness s16 = of_bits binary64 0x4030_0000_0000_0000

-- what the formulas of a round read: the elements, the filter's table, the goal
pub record Case : Type 0 where
  pub volumes : List Float
  pub passive : List Bool
  pub starts : List ℕ
  pub near : List ℕ
  pub coef : List Float
  pub fraction : Float
  pub sharpen : Bool

-- `vec![LEVELS; n]`: the solid part's densities
unfoldable pub ones : ℕ → List Float
ones n = tabulate (λ _. one64) n

-- `volumes.iter().sum()`
unfoldable pub sum_of : List Float → Float
sum_of l = sum_to (λ k. get_or l k nan) (length l)

module _ (c : Case) where
  abbrev pub total : Float
  total = sum_of c.volumes

  abbrev pub solid : Float
  solid = solid_volume c.volumes c.passive

  abbrev pub free : List Float
  free = free_volumes c.volumes c.passive

  -- `if g.sharpen { Some(..) } else { None }`
  abbrev pub seen_at : Steep → Option Float
  seen_at b = choose c.sharpen (Some (sharpness b)) None

  -- the densities that a round's solve is asked for
  unfoldable pub see : Steep → List Float → List Float
  see b x = seen_density (seen_at b) c.starts c.near c.coef c.passive x

  abbrev pub slopes_at : Steep → List Float → List Float
  slopes_at b x = seen_slope (seen_at b) c.starts c.near c.coef c.passive x

  -- "Move is 0.2 without sharpening, else 0.2/√steepness."
  abbrev pub move_at : Steep → Float
  move_at b = choose c.sharpen (div binary64 (of_bits binary64 0x3fc9_9999_9999_999a) (sqrt_of binary64 (sharpness b))) (of_bits binary64 0x3fc9_9999_9999_999a)

  -- how the volume goes with the design
  abbrev pub volume_at : Steep → List Float → List Float
  volume_at b x = choose c.sharpen (volume_slope c.starts c.near c.coef (slopes_at b x) free) (straight_slope c.starts c.near c.coef free)

  -- what a round's update is given: x the design, q the densities asked for
  abbrev pub given_at : Steep → List Float → List Float → List Float → Given
  given_at b x q energies =
      record {
        x = x;
        gain = gains_of (work_slope c.starts c.near c.coef c.passive q (slopes_at b x) energies) (volume_at b x);
        dv = volume_at b x;
        passive = c.passive;
        move = move_at b;
        target = target_of c.fraction total;
        tolerance = tolerance_of total;
        rule = choose c.sharpen (Sharpened (sharpness b)) (Straight solid);
        starts = c.starts;
        near = c.near;
        coef = c.coef;
        volumes = c.volumes;
      }

  -- "work and one update by the formulas above"
  unfoldable pub update_at : Steep → List Float → List Float → List Float → Search
  update_at b x q energies = updated (given_at b x q energies)

  -- "A round record holds its number, work, share, change, steepness and grey; reckonings are added here."
  unfoldable pub record_at : Steep → List Float → List Float → List Float → ℕ → Iteration
  record_at b x q energies n =
      record {
        number = n;
        compliance = compliance_of energies;
        fraction = fraction_of c.volumes q total;
        change = change_of (update_at b x q energies).design x;
        sharpness = sharpness b;
        grey = grey_of q free (sum_of free);
        passes = (update_at b x q energies).passes;
      }

-- 17: "an energy not finite"
unfoldable pub not_finite : List Float → Bool
not_finite energies = any_to (λ k. not (is_finite (get_or energies k nan))) (length energies)

-- 19: "solid part's work not above 0"
unfoldable pub idle : Float → Bool
idle w = not (lt zero64 w)

-- "change below 0.01"
unfoldable pub small : Float → Bool
small change = lt change (of_bits binary64 0x3f84_7ae1_47ae_147b)

-- "whose work differs from the round before's by less than 0.001 times their own"
unfoldable pub level : Float → Float → Bool
level before w = lt (abs_of (sub binary64 w before)) (mul binary64 (of_bits binary64 0x3f50_624d_d2f1_a9fc) w)
