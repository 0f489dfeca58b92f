-- The same of a table that is lent as one. Definitions only.
use Rattle.std.specs.Prelude.{ℕ, ◌+◌, Bool, List, get_or, Float}
use Rattle.filter_table.specs.Table.{row_sum, applied, row_share, backed, Wf, well_of}
use Rattle.filter_table.specs.declared.Table.{Table}

-- `row`: what row e sums to, each density of x times its number
abbrev pub seen_at : Table → List Float → ℕ → Float
seen_at t x e = row_sum t.near.now t.coef.now x (get_or t.starts.now e 0) (get_or t.starts.now (e + 1) 0)

-- `apply`: the densities x seen through the table, one for each of its first n rows
abbrev pub seen_through : Table → List Float → ℕ → List Float
seen_through t x n = applied t.starts.now t.near.now t.coef.now x n

-- a list of slopes with row e's share of the slope v added
abbrev pub with_share : Table → Float → ℕ → List Float → List Float
with_share t v e out = row_share t.near.now t.coef.now v (get_or t.starts.now e 0) (get_or t.starts.now (e + 1) 0) out

-- `back`: the slopes g, one for each of its first n rows, carried back to m places
abbrev pub carried_back : Table → List Float → ℕ → ℕ → List Float
carried_back t g n m = backed t.starts.now t.near.now t.coef.now g n m

-- well formed for n rows over m columns
abbrev pub Formed : Table → ℕ → ℕ → Type 0
Formed t n m = Wf t.starts.now t.near.now t.coef.now n m

-- the same as a test
abbrev pub is_well : Table → ℕ → ℕ → Bool
is_well t n m = well_of t.starts.now t.near.now t.coef.now n m
