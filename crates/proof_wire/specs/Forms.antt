-- The forms of proofs: how the messages of a layer end, and the bytes that tell the forms apart.
use Rattle.std.specs.Prelude.{ℕ, List, [], ◌∷◌, ◌++◌, codes, slice_index_or, if◌then◌else◌, ◌==◌}
use Rattle.proof_wire.specs.declared.form.ProofForm.{ProofForm}
use Rattle.proof_wire.specs.declared.form.ProofForm.TheVariants.{Line, Pair}

-- the degree of a layer's last message, over 2 ^ k positions: k on a line, and 1 for a pair u, w, which is the polynomial u + w X
abbrev pub last_degree : ProofForm → ℕ → ℕ
last_degree Line k = k
last_degree Pair k = 1

-- the fourth byte of a proof: the digit 1, or the letter P
abbrev pub mark : ProofForm → ℕ
mark Line = 49
mark Pair = 80

-- the four bytes before the first coefficient
abbrev pub magic : ProofForm → List ℕ
magic form = codes "GKR" ++ mark form ∷ []

-- the form that bytes are read in, by the fourth
abbrev pub form_of : List ℕ → ProofForm
form_of bytes = if slice_index_or bytes 3 0 == 80 then Pair else Line
