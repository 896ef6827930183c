-- What C is told of a halving.
use Rattle.halving.specs.declared.Halved.{Halved}
use Rattle.halving_bytes.specs.declared.Place.{Place}

-- Place and count of a halving.
abbrev pub place_of : Halved → Place
place_of halved = record { place = halved.place; count = halved.count }
