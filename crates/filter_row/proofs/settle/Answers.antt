-- `filter_row::settle` meets its contract: the marked elements rise, so they are within the lists and apart. Assumes nothing.
use Rattle.std.proofs.Common.{◌≡◌, ◌∙◌, sym, length, arith}
use Rattle.filter_look.proofs.Chosen.{chosen-le, found-rising, within-found}
use Rattle.filter_look.specs.Steps.{stamped}
use Rattle.filter_row.proofs.settle.Goals as goal

pub overflow_add-end : goal.overflow_add-end
overflow_add-end c = let m = c.args.met.now in omega (arith, c.requires, chosen-le (stamped m.stamp.now m.mark) (length m.stamp.now))

pub check-requires : goal.check-requires
check-requires c = let m = c.args.met.now in omega (arith, c.requires, chosen-le (stamped m.stamp.now m.mark) (length m.stamp.now))

pub sum_row-sum-requires : goal.sum_row-sum-requires
sum_row-sum-requires c = let m = c.args.met.now in
    let e = c.enumerate.ensures in
    let wide : length c.enumerate.new.met.weight.now ≡ length m.stamp.now = e.kept.weights ∙ c.requires.stamp_in_bounds.2 in
    (rw (e.alike.count, wide) (within-found (stamped m.stamp.now m.mark) (length m.stamp.now) c.enumerate.new.met.found.now m.count e.listed c.requires.count_value), wide ∙ sym c.requires.stamp_in_bounds.3)

pub put_row-requires-clause-within : goal.put_row-requires-clause-within
put_row-requires-clause-within c = let m = c.args.met.now in
    let e = c.enumerate.ensures in
    let wide : length c.enumerate.new.met.weight.now ≡ length m.stamp.now = e.kept.weights ∙ c.requires.stamp_in_bounds.2 in (
      rw (e.alike.count, wide) (within-found (stamped m.stamp.now m.mark) (length m.stamp.now) c.enumerate.new.met.found.now m.count e.listed c.requires.count_value),
      rw e.alike.count (found-rising (stamped m.stamp.now m.mark) (length m.stamp.now) c.enumerate.new.met.found.now m.count e.listed c.requires.count_value).rises,
      wide ∙ sym c.requires.stamp_in_bounds.3,
    )
