-- The lists of a row's elements, step by step. Assumes nothing.
use Rattle.std.proofs.Common.{◌≡◌, ◌∙◌, refl, ℕ, arith}
use Rattle.filter_look.specs.Steps.{Lists, Kept, SameMet, marked}
use Rattle.filter_look.specs.declared.met.Met.{Met}

-- lists that are kept are as long, and counted
pub lists_kept : (n : ℕ) (m m' : Met) → Lists n m → Kept m m' → m'.count ≡ marked m'.stamp.now m'.mark → Lists n m'
lists_kept n m m' l k e =
    record { few = l.few; stamps = k.stamps ∙ l.stamps; weights = k.weights ∙ l.weights; maps = omega (arith, l.maps, k.maps); counted = e }

-- what is kept step by step is kept
pub kept_on : (m₀ m m' : Met) → Kept m₀ m → Kept m m' → Kept m₀ m'
kept_on m₀ m m' a b =
    record {
      mark = b.mark ∙ a.mark;
      stamp = b.stamp ∙ a.stamp;
      weight = b.weight ∙ a.weight;
      bits = b.bits ∙ a.bits;
      found = b.found ∙ a.found;
      stamps = b.stamps ∙ a.stamps;
      weights = b.weights ∙ a.weights;
      maps = b.maps ∙ a.maps;
      founds = b.founds ∙ a.founds;
    }

pub kept_same : (m : Met) → Kept m m
kept_same m = record { mark = refl; stamp = refl; weight = refl; bits = refl; found = refl; stamps = refl; weights = refl; maps = refl; founds = refl }

pub met_on : (m₀ m m' : Met) → SameMet m₀ m → SameMet m m' → SameMet m₀ m'
met_on m₀ m m' a b =
    record {
      stamp = b.stamp ∙ a.stamp;
      weight = b.weight ∙ a.weight;
      bits = b.bits ∙ a.bits;
      found = b.found ∙ a.found;
      stamps = b.stamps ∙ a.stamps;
      weights = b.weights ∙ a.weights;
      maps = b.maps ∙ a.maps;
      founds = b.founds ∙ a.founds;
    }

pub met_kept : (m m' : Met) → Kept m m' → SameMet m m'
met_kept m m' k = record { stamp = k.stamp; weight = k.weight; bits = k.bits; found = k.found; stamps = k.stamps; weights = k.weights; maps = k.maps; founds = k.founds }

pub met_same : (m : Met) → SameMet m m
met_same m = record { stamp = refl; weight = refl; bits = refl; found = refl; stamps = refl; weights = refl; maps = refl; founds = refl }
