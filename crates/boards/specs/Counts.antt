-- A count of 32 bits: after 4294967295 comes 0.
use Rattle.std.specs.Prelude.{ℕ, ◌+◌, ◌%◌, ◌^◌}

abbrev pub raised : ℕ → ℕ
raised n = (n + 1) % 2 ^ 32
