-- What a board makes of a message: its words afterwards, and what it sends.
use Rattle.std.specs.Prelude.{List, [], ◌∷◌}
use Rattle.bus.specs.declared.Message.{Message}
use Rattle.bus.specs.declared.Words.{Words}
use Rattle.bus.specs.declared.Send.{Send}
use Rattle.bus.specs.declared.up_to_two.UpToTwo.{UpToTwo}
use Rattle.bus.specs.declared.up_to_two.UpToTwo.TheVariants.{Nothing, One, Two}

-- the sends of one reaction: at most two, by the type
abbrev pub Sends : Type 0
Sends = UpToTwo Send

-- one reaction
pub record Reaction : Type 0 where
  pub words : Words
  pub sends : Sends

-- how boards of one kind react
abbrev pub Rule : Type 0
Rule = Words → Message → Reaction

-- four zeros
abbrev pub zeros : Words
zeros = record { w0 = 0; w1 = 0; w2 = 0; w3 = 0 }

-- a reaction that leaves the words and sends nothing
abbrev pub unmoved : Rule
unmoved w m = record { words = w; sends = Nothing }

-- none, one or two as a list, in their order
abbrev pub listed : {X : Type 0} → UpToTwo X → List X
listed Nothing = []
listed (One x) = x ∷ []
listed (Two x y) = x ∷ y ∷ []
