-- Case by case of `Laws`. `too_short` does not look at the list of held elements.
use Rattle.std.proofs.Common.{◌≡◌, Err, refl, sym, ◌∙◌, rules, lit<}
use Rattle.strip_read.specs.Lent.{held}
use Rattle.strip_lists.specs.Loaded.{lists_of, too_short}
use Rattle.strip_lists.proofs.Laws.{refused, too_few, ready, done}
use Rattle.strip_lists.proofs.load.Goals as goal

pub returns-in_err-job : goal.returns-in_err-job
returns-in_err-job c =
    let e : c.from_residual.result ≡ Err c.in_err-job.field-0.0 = search rules in
    rw e (refused c.args.bytes.now (held c.args.patterns) _ (lists_of c.args.lists c.args.patterns.passive.now) _ _ c.in_err-job.ensures)

pub returns-then-are_short : goal.returns-then-are_short
unfolding too_short
returns-then-are_short c =
    too_few c.args.bytes.now (held c.args.patterns) _ (lists_of c.args.lists c.args.patterns.passive.now) _ _ c.in_ok-job.ensures (sym c.are_short.ensures ∙ c.if-are_short.true)

pub numbers-requires : goal.numbers-requires
unfolding too_short
numbers-requires c =
    (ready c.args.bytes.now (held c.args.patterns) _ (lists_of c.args.lists c.args.patterns.passive.now) (lists_of c.args.lists c.args.patterns.passive.now) _ c.in_ok-job.ensures (sym c.are_short.ensures ∙ c.if-are_short.false)).volumes

pub rows-requires : goal.rows-requires
unfolding too_short
rows-requires c =
    (lit< tt, (lit< tt, (ready c.args.bytes.now (held c.args.patterns) _ (lists_of c.args.lists c.args.patterns.passive.now) (lists_of c.args.lists c.args.patterns.passive.now) _ c.in_ok-job.ensures (sym c.are_short.ensures ∙ c.if-are_short.false)).centroids))

pub numbers-requires-2 : goal.numbers-requires-2
unfolding too_short
numbers-requires-2 c =
    (ready c.args.bytes.now (held c.args.patterns) _ (lists_of c.args.lists c.args.patterns.passive.now) (lists_of c.args.lists c.args.patterns.passive.now) _ c.in_ok-job.ensures (sym c.are_short.ensures ∙ c.if-are_short.false)).weights

pub rows-requires-2 : goal.rows-requires-2
unfolding too_short
rows-requires-2 c =
    (lit< tt, (lit< tt, (ready c.args.bytes.now (held c.args.patterns) _ (lists_of c.args.lists c.args.patterns.passive.now) (lists_of c.args.lists c.args.patterns.passive.now) _ c.in_ok-job.ensures (sym c.are_short.ensures ∙ c.if-are_short.false)).mirrors))

pub returns : goal.returns
unfolding too_short
returns c =
    done c.args.bytes.now (held c.args.patterns) _ (lists_of c.args.lists c.args.patterns.passive.now) _ _ c.in_ok-job.ensures (sym c.are_short.ensures ∙ c.if-are_short.false)
    c.numbers.ensures c.rows.ensures c.numbers-2.ensures refl refl c.rows-2.ensures
