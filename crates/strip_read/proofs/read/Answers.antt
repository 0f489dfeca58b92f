-- Case by case of `Readings`; the strip's length and the lists' room come from there too.
use Rattle.std.proofs.Common.{◌≡◌, Ok, Err, false, sym, ap, ◌∙◌, arith, rules}
use Rattle.strip.proofs.Accepted.{sized}
use Rattle.strip.specs.Strip.{reading, short}
use Rattle.strip_read.specs.Lent.{held}
use Rattle.strip_read.proofs.Readings.{all-filled, malformed, too_short, all_read, roomy}
use Rattle.strip_read.proofs.read.Goals as goal

pub returns-in_err-job : goal.returns-in_err-job
returns-in_err-job c =
    let e : c.from_residual.result ≡ Err c.in_err-job.field-0.0 = search rules in
    ap (λ r. reading r (held c.args.lists)) e ∙ malformed c.args.bytes.now (held c.args.lists) _ (sym c.in_err-job.ensures)

pub returns-then-are_short : goal.returns-then-are_short
returns-then-are_short c =
    too_short c.args.bytes.now (held c.args.lists) c.in_ok-job.job (sym c.in_ok-job.ensures) (sym c.are_short.ensures ∙ c.if-are_short.true)

pub mirrors-requires : goal.mirrors-requires
mirrors-requires c =
    let enough : short (held c.args.lists) c.in_ok-job.job.elements c.in_ok-job.job.mirrors ≡ false = sym c.are_short.ensures ∙ c.if-are_short.false in
    let room = roomy (held c.args.lists) c.in_ok-job.job.elements c.in_ok-job.job.mirrors enough in
    (omega (arith, sized c.args.bytes.now c.in_ok-job.job (sym c.in_ok-job.ensures)), room.4)

pub elements-requires : goal.elements-requires
elements-requires c =
    let enough : short (held c.args.lists) c.in_ok-job.job.elements c.in_ok-job.job.mirrors ≡ false = sym c.are_short.ensures ∙ c.if-are_short.false in
    let room = roomy (held c.args.lists) c.in_ok-job.job.elements c.in_ok-job.job.mirrors enough in
    record { n_in_bounds = omega (arith, sized c.args.bytes.now c.in_ok-job.job (sym c.in_ok-job.ensures)); n_in_bounds_2 = (room.0, room.1, room.2, room.3) }

pub returns : goal.returns
returns c =
    let room : short (held c.args.lists) c.in_ok-job.job.elements c.in_ok-job.job.mirrors ≡ false = sym c.are_short.ensures ∙ c.if-are_short.false in
    let after = c.elements.ensures in
    ap (reading (Ok c.in_ok-job.job))
    (all-filled c.args.bytes.now c.in_ok-job.job.elements c.in_ok-job.job.mirrors (held c.args.lists) after.volumes_after after.centroids_after after.weights_after after.passive_after c.mirrors.ensures)
    ∙ all_read c.args.bytes.now (held c.args.lists) c.in_ok-job.job (sym c.in_ok-job.ensures) room

pub overflow_mul-k : goal.overflow_mul-k
overflow_mul-k c = omega (arith, sized c.args.bytes.now c.in_ok-job.job (sym c.in_ok-job.ensures))

pub overflow_add-k : goal.overflow_add-k
overflow_add-k c = omega (arith, sized c.args.bytes.now c.in_ok-job.job (sym c.in_ok-job.ensures))
