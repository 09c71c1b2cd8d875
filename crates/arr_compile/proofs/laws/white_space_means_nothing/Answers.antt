use Rattle.arr_compile.proofs.laws.white_space_means_nothing.Goals as goal

pub returns : goal.returns
returns c = λ lang front back blanks others tokens found blank blank' a b read read' inputs.
    c.places_play_no_part.ensures lang a b (c.white_space.ensures lang front back blanks others tokens found blank blank' a b read read') inputs
