-- The text of pieces.
use Rattle.std.specs.Prelude.{ℕ, List}
use Rattle.std.specs.List.{flat_map}
use Rattle.std.specs.Fmt.{decimal}
use Rattle.plain_text.specs.declared.pieces.Piece.{Piece}
use Rattle.plain_text.specs.declared.pieces.Piece.TheVariants.{Text, Number, HexWord}
use Rattle.plain_text.specs.Hexadecimal.{hex_word}

-- the text of a piece
abbrev pub piece_text : Piece → List ℕ
piece_text (Text bytes) = bytes.now
piece_text (Number n) = decimal n
piece_text (HexWord n) = hex_word n

-- the texts of pieces, one after the other
abbrev pub pieces_text : List Piece → List ℕ
pieces_text pieces = flat_map piece_text pieces
