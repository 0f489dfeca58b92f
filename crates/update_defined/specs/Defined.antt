-- What an update as it is defined is given. Definitions only.
use Rattle.update_rates.specs.Rates.{Given}
use Rattle.update_rates.specs.Steps.{given_of}
use Rattle.update_defined.specs.declared.defined.Defined.{Defined}

abbrev pub defined_of : Defined → Given
defined_of d = given_of d.problem d.rule d.table d.volumes.now
