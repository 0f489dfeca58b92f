-- What is known of a table. Definitions only.
use Rattle.std.specs.Prelude.{ℕ, ◌≡◌}
use Rattle.filter_table.specs.declared.Table.{Table}
use Rattle.filter_table.specs.declared.formed.WellFormed.{WellFormed}

-- that this table is well formed for n rows over m columns
abbrev pub IsOf : WellFormed → Table → ℕ → ℕ → Type 0
IsOf w t n m = (w.table ≡ t) × (w.rows ≡ n) × (w.columns ≡ m)
