use Rattle.gkr_layers.proofs.api.Shapes as shapes
use Rattle.gkr_layers.proofs.laws.sound.Goals as goal

pub returns-clause-forms : goal.returns-clause-forms
returns-clause-forms c = λ form circuit inputs outputs qs rs count degrees all drawn accepted false'. shapes.sound_in circuit inputs outputs count form qs rs degrees all drawn accepted false'

pub returns-clause-lists : goal.returns-clause-lists
returns-clause-lists c = λ form circuit inputs outputs messages rs count shape drawn accepted false'. shapes.sound circuit inputs outputs count form messages rs shape drawn accepted false'

pub returns-clause-draws : goal.returns-clause-draws
returns-clause-draws c = λ form circuit inputs outputs messages source state shape. shapes.drawn form circuit.parts inputs outputs source state messages shape
