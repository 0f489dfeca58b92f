-- The lists that a strip is read into. Definitions only.
use Rattle.strip.specs.Strip.{Lists, lent}
use Rattle.strip_read.specs.declared.Lists.{Lists as Handed}

-- as they are handed over
abbrev pub held : Handed → Lists
held l = lent l.volumes.now l.centroids.now l.weights.now l.passive.now l.mirrors.now
