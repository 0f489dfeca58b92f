-- `ieee_whole::round_half_away` meets its contract: each way out is one case of `Round`. Assumes nothing.
use Rattle.ieee.proofs.Comparing.{holds}
use Rattle.ieee_whole.proofs.Round.{halved, whole-asks, from-whole, high_is, none_is}
use Rattle.ieee_whole.proofs.round_half_away.Goals as goal
use Rattle.std.proofs.Common.{◌∙◌, arith}
use lib.Ieee.{of_bits}

pub truncating_f64_to_u64-requires : goal.truncating_f64_to_u64-requires
unfolding of_bits
truncating_f64_to_u64-requires c = let a = (halved c.args.x (holds c.well_formed.0.1) c.if-x.true c.if-x-2.true).asks in record { lower_bound = a.0; upper_bound = a.1 }

pub overflow_add-result : goal.overflow_add-result
unfolding of_bits
overflow_add-result c = omega (arith, c.truncating_f64_to_u64.ensures, (halved c.args.x (holds c.well_formed.0.1) c.if-x.true c.if-x-2.true).small)

pub returns-then-x-2 : goal.returns-then-x-2
unfolding of_bits
returns-then-x-2 c = rw c.truncating_f64_to_u64.ensures (halved c.args.x (holds c.well_formed.0.1) c.if-x.true c.if-x-2.true).is

pub truncating_f64_to_u64-requires-then-x-3 : goal.truncating_f64_to_u64-requires-then-x-3
unfolding of_bits
truncating_f64_to_u64-requires-then-x-3 c = let a = whole-asks c.args.x c.if-x.true c.if-x-3.true in record { lower_bound = a.0; upper_bound = a.1 }

pub returns-then-x-3 : goal.returns-then-x-3
unfolding of_bits
returns-then-x-3 c = c.truncating_f64_to_u64-then-x-3.ensures ∙ from-whole c.args.x (holds c.well_formed.0.1) c.if-x.true c.if-x-2.false

pub returns-then-x : goal.returns-then-x
unfolding of_bits
returns-then-x c = high_is c.args.x c.if-x.true c.if-x-3.false

pub returns : goal.returns
unfolding of_bits
returns c = none_is c.args.x c.if-x.false
