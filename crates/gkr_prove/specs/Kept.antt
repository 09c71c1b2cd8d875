-- The place of a claim that is kept between two layers
use Rattle.std.specs.Prelude.{if◌then◌else◌}
use Rattle.field_ext.specs.Field.{K}
use Rattle.gkr_layers.specs.Places.{Place}
use Rattle.gkr_layers.specs.Places.Place.{At, AtBoth}
use Rattle.gkr_prove.specs.declared.kept.KeptPlace.{KeptPlace}

abbrev pub kept_place : KeptPlace → Place K
kept_place kept = if kept.both then AtBoth kept.first.items kept.second.items kept.weight
    else At kept.first.items
