-- The lists that the call works in, as the code holds them. Definitions only.
use Rattle.std.specs.Prelude.{ℕ, Bool, List, Float}
use Rattle.std.specs.Borrow.{MutBor}
use Rattle.region_asymmetry.specs.Asymmetry as Spec
use Rattle.region_asymmetry.specs.declared.Work.{Work}

-- as the call finds them
abbrev pub lent : Work → Spec.Lent
lent w = Spec.lent w.faces.now w.kx.now w.ky.now w.kz.now w.order.now w.scratch.now w.boxes.now w.seen.now

-- and as it leaves them: what is behind each field at the return
abbrev pub Left : Type 0
Left = MutBor (List (List Float)) × (MutBor (List ℕ) × (MutBor (List ℕ) × (MutBor (List ℕ) × (MutBor (List ℕ) × (MutBor (List ℕ) × (MutBor (List (List Float)) × (MutBor (List Bool) × Unit {0})))))))

abbrev pub left : Left → Spec.Lent
left w = Spec.lent w.0.now w.1.0.now w.1.1.0.now w.1.1.1.0.now w.1.1.1.1.0.now w.1.1.1.1.1.0.now w.1.1.1.1.1.1.0.now w.1.1.1.1.1.1.1.0.now
