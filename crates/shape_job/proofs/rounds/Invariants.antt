-- The answers that are left give what all give.
use Rattle.std.proofs.Common.{◌≡◌, length, ◌-◌}
use Rattle.run_plain.specs.Calls.{lists_of}
use Rattle.run_plain.specs.Held.{core, working, lengths_of, SameFields, SameWork}
use Rattle.shape_job.specs.Held.{result_in}
use Rattle.shape_job.specs.Job.{answers_from}
use Rattle.shape_job.proofs.rounds.Given as goal

abbrev pub invariant-loop : goal.invariant-loop
invariant-loop l =
    let s = l.initial in
    let work = lengths_of (working s.work) in
    (answers_from l.weights (length s.energies) work (65 - l.counter) (result_in l.returned (lists_of (core l.elements l.fields) l.history))
    ≡ answers_from l.weights (length s.energies) work 65 (result_in s.returned (lists_of (core l.elements s.fields) s.history)))
    × (lengths_of (working l.work) ≡ work)
    × SameFields s.fields l.fields
    × SameWork s.work l.work
