-- Laws of the word of a polar code.
use Rattle.std.specs.Prelude.{◌≡◌, Bool, IsTrue, List, length}
use Rattle.bits_core.specs.CodeLengths.{is_code_length}
use Rattle.polar_kernel.specs.MatrixWord.{matrix_word}

-- the word of the word is the input bits, so that one transform undoes another
abbrev pub WordIsOwnInverse : Type 0
WordIsOwnInverse = (u : List Bool) → IsTrue (is_code_length (length u)) → matrix_word (matrix_word u) ≡ u
