-- What a call is refused with is the number of a refusal. By cases on the tests. Assumes nothing.
use mathlib.Core.Path.{◌≡◌, refl, ◌∙◌}
use mathlib.Core.Bool.{Bool, true, false}
use mathlib.Core.List.{List, [], ◌∷◌, ◌++◌}
use Prim.Native.Nat.{ℕ, zero, suc}
use native.Mathlib.Omega.{arith}
use lib.ListN.{length}
use lib.Dec.{eqb}
use Rattle.std.specs.Prelude.{◌⊎◌}
use Rattle.std.proofs.Common.{inl, inr}
use Rattle.lists.specs.Lists.{choose}
use Rattle.lists.proofs.Laws.{fold_to-keeps}
use Rattle.lent.specs.Refusals.{Test, first_of}
use Rattle.refusal.specs.declared.Refusal.{Refusal}
use Rattle.refusal.specs.declared.Refusal.TheVariants.{CountsDiffer, NoElements, TooMany, VolumeOutside, ShareOutside, NoRounds, NoRoom, DistanceOutside, PointOutside, TooManyPlanes, PlaneOutside, PlanesNotSquare, TableTooLarge, ListTooShort, OutOfTurn}
use Rattle.refusal.specs.Refusals.{number_of}
use Rattle.filter.specs.Build.{Working, too_big, too_short, row_refusal, rows_refusal}
use Rattle.run_plain.specs.declared.State.{State}
use Rattle.run_plain.specs.Opening.{Opening, list_tests, mesh_tests, goal_tests, table_refusal, first_refusal, Entry, Kept, Zeroed, Shut, Opens, lastly, in_rows, at_first, entry_of}
use Rattle.run_plain.specs.Calls.{Core, Asked, in_turn}
use Rattle.run_open_checks.specs.Opens.{opening_in, entry_in}

abbrev pub Named : ℕ → Type 0
Named n = (x : Refusal) × (number_of x ≡ n)

abbrev AllNamed : List Test → Type 0
AllNamed [] = Unit {0}
AllNamed (t ∷ tests) = Named t.1 × AllNamed tests

first-named : (n : ℕ) (tests : List Test) → AllNamed tests → first_of tests ≡ suc n → Named (suc n)
unfolding choose
first-named n [] a e = absurd (omega (arith, e))
first-named n (t ∷ tests) a e = go t.0 (first-named n tests a.1) e
  where
    go : (b : Bool) → (first_of tests ≡ suc n → Named (suc n)) → choose b t.1 (first_of tests) ≡ suc n → Named (suc n)
    go true rest f = (a.0.0, a.0.1 ∙ f)
    go false rest f = rest f

-- none, or a refusal's
abbrev NoneOr : ℕ → Type 0
NoneOr n = (n ≡ 0) ⊎ Named n

named-of : (k n : ℕ) → NoneOr k → k ≡ suc n → Named (suc n)
named-of k n (inl z) e = absurd (omega (arith, z, e))
named-of k n (inr x) e = (x.0, x.1 ∙ e)

-- what an opening comes to
abbrev pub NamedEntry : Entry → Type 0
NamedEntry (Kept n) = Named n
NamedEntry (Zeroed n) = Named n
NamedEntry Shut = Unit {0}
NamedEntry Opens = Unit {0}

module _ (o : Opening) where
  all-named : AllNamed (list_tests o ++ goal_tests o ++ mesh_tests o)
  all-named =
      ((CountsDiffer, refl), ((NoElements, refl), ((TooMany, refl), ((VolumeOutside, refl), ((ShareOutside, refl), ((NoRounds, refl), ((NoRoom, refl), ((DistanceOutside, refl), ((PointOutside, refl), ((TooManyPlanes, refl), ((PlaneOutside, refl), ((PlanesNotSquare, refl), ((ListTooShort, refl), tt)))))))))))))

  before-rows : (n : ℕ) → first_refusal o ≡ suc n → Named (suc n)
  unfolding first_refusal
  before-rows n e = first-named n (list_tests o ++ goal_tests o ++ mesh_tests o) all-named e

  abbrev row : ℕ → ℕ
  row e = row_refusal o.centroids o.goal.radius o.mirrors o.lent.near o.lent.coef e

  row-named : (e : ℕ) → NoneOr (row e)
  unfolding row_refusal choose
  row-named e = go (too_big o.centroids o.goal.radius o.mirrors e) (too_short o.centroids o.goal.radius o.mirrors o.lent.near o.lent.coef e)
    where
      go : (a b : Bool) → NoneOr (choose a 13 (choose b 14 0))
      go true b = inr (TableTooLarge, refl)
      go false true = inr (ListTooShort, refl)
      go false false = inl refl

  rows-named : (e r : ℕ) → NoneOr r → NoneOr (choose (eqb r 0) (row e) r)
  unfolding choose
  rows-named e r p = go (eqb r 0)
    where
      go : (t : Bool) → NoneOr (choose t (row e) r)
      go true = row-named e
      go false = p

  table-named : NoneOr (table_refusal o)
  unfolding table_refusal rows_refusal
  table-named = fold_to-keeps NoneOr (λ e r. choose (eqb r 0) (row e) r) 0 rows-named (inl refl) (length o.centroids)

  last-named : (t : Bool) → NamedEntry (lastly o t)
  last-named true = tt
  last-named false = tt

  in-rows : (k : ℕ) → table_refusal o ≡ k → NamedEntry (in_rows o k)
  in-rows zero e = last-named o.flag
  in-rows (suc n) e = named-of (table_refusal o) n table-named e

  at-first : (k : ℕ) → first_refusal o ≡ k → NamedEntry (at_first o k)
  at-first zero e = in-rows (table_refusal o) refl
  at-first (suc n) e = before-rows n e

  entry-named : NamedEntry (entry_of o)
  unfolding entry_of
  entry-named = at-first (first_refusal o) refl

pub entry_named : (s : State) (g : Asked) (room : ℕ) (l : Core) (w : Working) → NamedEntry (entry_in s g room l w)
unfolding choose
entry_named s g room l w = go (in_turn s.phase)
  where
    go : (t : Bool) → NamedEntry (choose t (entry_of (opening_in g room l w)) (Kept 20))
    go true = entry-named (opening_in g room l w)
    go false = (OutOfTurn, refl)
