-- The text of a message.
use Rattle.std.specs.Prelude.{ℕ, List, [], ◌∷◌, ◌++◌, codes, decimal}
use Rattle.bus.specs.declared.Message.{Message}

-- numbers in decimal, one space between each two
abbrev pub spaced : List ℕ → List ℕ
spaced [] = []
spaced (n ∷ []) = decimal n
spaced (n ∷ m ∷ ns) = decimal n ++ (codes " " ++ spaced (m ∷ ns))

-- the six fields
abbrev pub fields : Message → List ℕ
fields m = spaced (m.time ∷ m.source ∷ m.number ∷ m.destination ∷ m.kind ∷ m.payload ∷ [])
