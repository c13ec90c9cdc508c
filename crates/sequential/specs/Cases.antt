-- Worked cases of the one-by-one machine, with a fare computer at address 0, a reader at 1 and a ticker at 2.
-- The kinds in them are 2 card, 3 inquiry and 4 verdict.
use Rattle.std.specs.Prelude.{◌≡◌, ℕ, List, [], ◌∷◌}
use Rattle.bus.specs.declared.Message.{Message}
use Rattle.bus.specs.declared.Words.{Words}
use Rattle.bus.specs.Reactions.{zeros}
use Rattle.boards.specs.Ticker.{ticker_rule}
use Rattle.boards.specs.Reader.{reader_rule}
use Rattle.boards.specs.FareComputer.{fare_computer_rule}
use Rattle.addressing.specs.Settings.{Setting}
use Rattle.sequential.specs.Sequential.{Machine}
use Rattle.sequential.specs.Laws.{after}

abbrev setting : Setting
setting = record { rules = fare_computer_rule ∷ reader_rule ∷ ticker_rule ∷ []; end = 1000 }

abbrev starts : List Words
starts = zeros ∷ zeros ∷ zeros ∷ []

abbrev message : ℕ → ℕ → ℕ → ℕ → ℕ → ℕ → Message
message time source number destination kind payload =
    record { time = time; source = source; number = number; destination = destination; kind = kind; payload = payload }

-- the machine n steps after it got a card for the reader at this time
abbrev after_card_at : ℕ → ℕ → ℕ → Machine
after_card_at time card n = after setting starts (message time 255 0 1 2 card ∷ []) n

-- a card at 995: the inquiry is for 1000, the end time, and takes the reader's number 0
abbrev pub SendForEndTimePasses : Type 0
SendForEndTimePasses =
    (card : ℕ) → ((after_card_at 995 card 1).pending ≡ message 1000 1 0 0 3 card ∷ []) × ((after_card_at 995 card 1).sent ≡ 0 ∷ 1 ∷ 0 ∷ [])

-- a card at 996: the inquiry would be for 1001; it is dropped, and number 0 stays free
abbrev pub SendPastEndTimeIsDropped : Type 0
SendPastEndTimeIsDropped = (card : ℕ) → ((after_card_at 996 card 1).pending ≡ []) × ((after_card_at 996 card 1).sent ≡ 0 ∷ 0 ∷ 0 ∷ [])

-- two cards: the first three lines are a card, its inquiry and the verdict, though the second card is pending from the start
abbrev pub FirstThreeLines : Type 0
FirstThreeLines =
    (after setting starts (message 10 255 0 1 2 77 ∷ message 30 255 1 1 2 5 ∷ []) 3).log
    ≡ message 10 255 0 1 2 77 ∷ message 15 1 0 0 3 77 ∷ message 18 0 0 1 4 1 ∷ []
