-- 01's worked example, worked out: antt computes the reading of the strip, and the run with the 200 passes of its update. Assumes nothing.
use mathlib.Core.Path.{◌≡◌, ◌∙◌, refl, ap}
use mathlib.Core.List.{[], ◌∷◌}
use lib.Ieee as Ieee
use Rattle.lists.specs.Lists as Lists
use Rattle.ieee.specs.Basic as Basic
use Rattle.ieee_whole.specs.Whole as Whole
use Rattle.ieee_root.specs.Sqrt as Sqrt
use Rattle.geom.specs.Vectors as Vectors
use Rattle.topo.specs.Levels as Levels
use Rattle.topo.specs.Stages as Stages
use Rattle.cells.specs.Cells as Cells
use Rattle.lent.specs.Lent as Left
use Rattle.filter_group.specs.Group as Group
use Rattle.filter.specs.Filter as Filter
use Rattle.filter.specs.Build as Build
use Rattle.filter_table.specs.Table as Table
use Rattle.oc_start.specs.Start as Start
use Rattle.oc_seen.specs.Seen as Seen
use Rattle.oc_slopes.specs.Slopes as Slopes
use Rattle.oc_record.specs.Record as Record
use Rattle.oc_kept.specs.Kept as Kept
use Rattle.update_value.specs.Value as Value
use Rattle.update_design.specs.Design as Design
use Rattle.update_rates.specs.Rates as Rates
use Rattle.run_plain.specs.Lent as Lent
use Rattle.run_plain.specs.Formulas as Formulas
use Rattle.run_plain.specs.Opening as Opening
use Rattle.run_plain.specs.Plain as Plain
use Rattle.std.specs.Prelude.{Ok}
use Rattle.strip.specs.Strip as Strip
use Rattle.run_plain.proofs.Whole.{whole}
use Rattle.topo.specs.declared.Stop.TheVariants.{Limit}
use Rattle.shape_solver.specs.Energies as Energies
use Rattle.shape_report.specs.Report as Report
use Rattle.proved_cases.specs.Example as Example

is_read : Strip.read_strip Example.strip Example.empty ≡ Strip.reading (Ok Example.head) Example.full
unfolding Strip.read_strip Lists.choose Strip.accepted Example.strip Example.bytes_of Strip.word_at Strip.little_endian Lists.any_to Strip.misplaced Strip.stands Strip.place_at Strip.head_at Strip.part_at Strip.field_at Strip.short Strip.job_of Stages.sharpening_of Strip.filled Strip.number_of Lists.overwrite Strip.number_at Strip.point_at
is_read = refl

opens : Example.opening_from Example.head Example.full ≡ Example.job
unfolding Example.opening_from Stages.sharpening_of Lists.choose
opens = refl

-- the work of the solid part, and what each call shows
run-shown : ((Plain.run_from (Plain.plain_start Example.job) Example.answers).solid_work ≡ Basic.one64) × (Plain.plain_run Example.job Example.answers ≡ Example.shown_run)
unfolding Plain.plain_run Opening.entry_of Opening.first_refusal Lists.choose Lists.any_to Ieee.lt Ieee.of_bits Ieee.le Ieee.mul Formulas.sum_of Lists.sum_to Ieee.add Start.solid_volume Ieee.sub Basic.abs_of Group.planes_bad Group.planes_skew Lent.open_short Lent.run_short Left.short Opening.table_refusal Build.rows_refusal Group.image_in Vectors.least Basic.min_of Ieee.is_nan Vectors.greatest Basic.max_of Cells.nearby Whole.floor_at Ieee.div Vectors.len Sqrt.sqrt_of Vectors.len2 Vectors.dot Vectors.less Formulas.ones Plain.plain_from Lists.tabulate Opening.start_of Start.start_design Plain.answered Plain.judged Plain.checks_of Lent.answer_short Example.solved_by Opening.near_of Formulas.not_finite Basic.is_finite Energies.energy_of Energies.energies_of Levels.modulus_of Ieee.of_int Levels.level_of Whole.round_half_away Basic.clamp_of Formulas.idle Record.compliance_of Formulas.see Seen.seen_density Seen.densities Opening.case_of Seen.element_density Seen.sharpened Table.applied Table.row_sum Lists.sum_over Table.row_end Opening.starts_of Opening.coef_of Filter.coefficients Table.product Plain.first_stop Plain.sharpest Formulas.small Formulas.record_at Record.change_of Formulas.update_at Rates.updated Rates.while_to Rates.raised_all Rates.raises Rates.first Rates.reckoned Kept.kept_of Record.dot Slopes.straight_slope Table.backed Start.free_volumes Table.row_share Table.add_to Rates.trial Design.design_at Value.next_of Value.limited Value.grown Design.gains_of Slopes.work_slope Value.gain_of Slopes.work_by_density Slopes.element_work Seen.seen_slope Seen.slopes Seen.element_slope Seen.sharpened_slope Rates.halves Rates.middle Rates.first_rate Design.most_of Rates.halved Plain.steady_run Plain.level_with Record.fraction_of Record.grey_of Plain.run_from Filter.neighbours Filter.start
run-shown = (refl, refl)

printed : Report.text_of (Report.ran Basic.one64 (Example.first_round ∷ []) Limit Example.first_asked) ≡ Report.ascii Example.lines
unfolding Report.ascii Report.text_of Report.solid_line Report.hex Lists.choose Report.lines_from Ieee.to_bits Report.round_line Ieee.of_bits Report.decimal Report.decimal_in Report.stop_line Report.element_line
printed = refl

pub worked-example : Example.WorkedExample
worked-example =
    record {
      read = is_read;
      opens = opens;
      solid_work = run-shown.0;
      shows = run-shown.1;
      prints = ap (λ w. Report.text_of (Report.ran w (Example.first_round ∷ []) Limit Example.first_asked)) run-shown.0 ∙ printed;
      calls = λ w k g more idle o a. whole w k g more idle ∙ (λ i. Plain.plain_run (o i) (a i)) ∙ run-shown.1;
    }
