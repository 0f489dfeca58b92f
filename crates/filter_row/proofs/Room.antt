-- A row that is not refused ends within the lists. Assumes nothing.
use mathlib.Core.Path.{◌≡◌}
use Prim.Native.Nat.{ℕ, ◌+◌, ◌*◌, ◌≤◌}
use native.Mathlib.Omega.{arith}
use lib.Dec.{ltb}
use borrow.Author.Tests.{ltb-false}
use Rattle.lists.proofs.Laws.{passes_on, neither}
use Rattle.filter.specs.Steps.{room_refusal}

pub has_room : (e end nears coefs : ℕ) → room_refusal e end nears coefs ≡ 0 → (4 * (e + 2) + 12 * end ≤ 536870912) × (end ≤ nears) × (end ≤ coefs)
has_room e end nears coefs h =
    let big = passes_on (ltb 536870912 (4 * (e + 2) + 12 * end)) 13 _ (omega arith) h in
    let short = passes_on (_) 14 0 (omega arith) big.1 in
    let each = neither (ltb nears end) (ltb coefs end) short.0 in
    (ltb-false 536870912 (4 * (e + 2) + 12 * end) big.0, ltb-false nears end each.0, ltb-false coefs end each.1)
