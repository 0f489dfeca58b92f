-- A triangle as a list of numbers: its corners, coordinate by coordinate. Definitions only.
use Rattle.std.specs.Prelude.{List, [], ◌∷◌, get_or, Float}
use Rattle.std.specs.Float.{nan}
use Rattle.geom.specs.Vectors.{vec}
use Rattle.faces.specs.declared.Triangle.{Triangle}

unfoldable pub corners_of : List Float → Triangle
corners_of t =
    record {
      a = vec (get_or t 0 nan) (get_or t 1 nan) (get_or t 2 nan);
      b = vec (get_or t 3 nan) (get_or t 4 nan) (get_or t 5 nan);
      c = vec (get_or t 6 nan) (get_or t 7 nan) (get_or t 8 nan);
    }

abbrev pub flat : Triangle → List Float
flat t = t.a.x ∷ t.a.y ∷ t.a.z ∷ t.b.x ∷ t.b.y ∷ t.b.z ∷ t.c.x ∷ t.c.y ∷ t.c.z ∷ []
