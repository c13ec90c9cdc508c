-- A listing in front of the caller's memory.
use Rattle.std.specs.Prelude.{◌≡◌, ℕ, ◌-◌, ◌^◌, ◌⊎◌, List, ◌++◌, length, drop}
use Rattle.playing.specs.Runs.{play_text}

-- the listing is in front and its length is answered, or nothing is written and the largest number is answered
abbrev pub Answers : List ℕ → List ℕ → List ℕ → ℕ → Type 0
Answers input before after r =
    ((r ≡ length (play_text input)) × (after ≡ play_text input ++ drop (length (play_text input)) before))
    ⊎ ((r ≡ 2 ^ 64 - 1) × (after ≡ before))
