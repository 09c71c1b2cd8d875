use Rattle.arr_compile.proofs.PlacesForgotten.{places_play_no_part}
use Rattle.arr_compile.proofs.laws.places_play_no_part.Goals as goal

pub returns : goal.returns
returns c = places_play_no_part
