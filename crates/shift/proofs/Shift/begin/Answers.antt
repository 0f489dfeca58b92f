-- Places past the jobs hold zeros, as a job past the list's end has none.
use Rattle.std.proofs.Common.{◌≡◌, ◌≤◌, length, false, sym, ap, ◌∙◌, arith}
use Rattle.std.specs.Prelude.{replicate}
use Rattle.lists.specs.Lists.{overwrite}
use Rattle.shift.specs.Grants.{unfit_jobs, share_of, limit_of}
use Rattle.shift.proofs.Begins.{filled_up, share_past, limit_past}
use Rattle.shift.proofs.Replies.{begun-fit}
use Rattle.shift.proofs.Tests.{few_jobs}
use Rattle.shift.proofs.Shift.begin.Goals as goal

pub returns : goal.returns
returns c =
    let jobs = c.args.jobs.now in
    let fit : unfit_jobs jobs ≡ false = sym c.unfit.ensures ∙ c.if-unfit.false in
    let few : length jobs ≤ 16 = few_jobs jobs fit in
    let all : c.loop-j.j ≡ length jobs = omega arith in
    begun-fit jobs c.loop-j.share c.loop-j.limit fit
    (c.loop-j.invariant.0 ∙ ap (λ n. overwrite (share_of jobs) n (replicate 16 0)) all ∙ filled_up (share_of jobs) (length jobs) few (share_past jobs))
    (c.loop-j.invariant.1 ∙ ap (λ n. overwrite (limit_of jobs) n (replicate 16 0)) all ∙ filled_up (limit_of jobs) (length jobs) few (limit_past jobs))
