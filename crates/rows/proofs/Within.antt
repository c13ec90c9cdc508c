-- A row that owns its memory has no more records than places.
use Rattle.std.proofs.Common.{ℕ, ◌≤◌, length, arith, length-take}
use Rattle.rows.specs.declared.owned.Row.{Row}
use Rattle.rows.specs.Held.{held}

pub held_within : {T : Type 0} {N : ℕ} (r : Row T N) → length (held r) ≤ N
unfolding held
held_within {N = N} r = omega (arith, length-take r.count r.memory, r.fits)
