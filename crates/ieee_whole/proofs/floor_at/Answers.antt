-- `ieee_whole::floor_at` meets its contract: each way out is one case of `Floor`. Assumes nothing.
use Rattle.ieee.proofs.Comparing.{holds}
use Rattle.ieee_whole.proofs.Floor.{up-asks, up_small, up_is, neg-asks, neg_small, neg-over, neg-even, neg-whole, low-is, high_is, none_is}
use Rattle.ieee_whole.proofs.floor_at.Goals as goal
use Rattle.std.proofs.Common.{arith}
use lib.Ieee.{of_bits, neg}

pub truncating_f64_to_u64-requires : goal.truncating_f64_to_u64-requires
unfolding of_bits neg
truncating_f64_to_u64-requires c = let a = up-asks c.args.x c.if-x.true c.if-x-2.true in record { lower_bound = a.0; upper_bound = a.1 }

pub overflow_add-result : goal.overflow_add-result
unfolding of_bits neg
overflow_add-result c = omega (arith, c.truncating_f64_to_u64.ensures, up_small c.args.x c.if-x.true)

pub returns-then-x-2 : goal.returns-then-x-2
unfolding of_bits neg
returns-then-x-2 c = rw c.truncating_f64_to_u64.ensures (up_is c.args.x c.if-x.true c.if-x-2.true)

pub truncating_f64_to_u64-u-requires : goal.truncating_f64_to_u64-u-requires
unfolding of_bits neg
truncating_f64_to_u64-u-requires c = let a = neg-asks c.args.x c.if-x.true c.if-x-2.false c.if-x-3.true in record { lower_bound = a.0; upper_bound = a.1 }

pub returns-then-u-y : goal.returns-then-u-y
unfolding of_bits neg
returns-then-u-y c = neg-over c.args.x c.if-x.true c.if-x-2.false c.if-x-3.true c.truncating_f64_to_u64-u.result c.truncating_f64_to_u64-u.ensures (omega arith) c.if-u-y.true

pub returns-then-u-lt-WHOLE : goal.returns-then-u-lt-WHOLE
unfolding of_bits neg
returns-then-u-lt-WHOLE c = neg-even c.args.x c.if-x.true c.if-x-2.false c.if-x-3.true c.truncating_f64_to_u64-u.result c.truncating_f64_to_u64-u.ensures (omega arith) c.if-u-y.false

pub overflow_sub-result-then-x-3 : goal.overflow_sub-result-then-x-3
unfolding of_bits neg
overflow_sub-result-then-x-3 c = omega (arith, c.truncating_f64_to_u64-u.ensures, neg_small c.args.x c.if-x.true c.if-x-2.false c.if-x-3.true)

pub returns-then-x-3 : goal.returns-then-x-3
unfolding of_bits neg
returns-then-x-3 c = neg-whole c.args.x c.if-x.true c.if-x-2.false c.if-x-3.true c.truncating_f64_to_u64-u.result c.truncating_f64_to_u64-u.ensures (holds c.well_formed.0.1) (omega arith)

pub returns-then-x : goal.returns-then-x
unfolding of_bits neg
returns-then-x c = low-is c.args.x c.if-x.true c.if-x-2.false c.if-x-3.false

pub returns-then-x-4 : goal.returns-then-x-4
unfolding of_bits neg
returns-then-x-4 c = high_is c.args.x c.if-x.false c.if-x-4.true

pub returns : goal.returns
unfolding of_bits neg
returns c = none_is c.args.x c.if-x.false c.if-x-4.false
