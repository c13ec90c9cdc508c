-- Where a pair has an address k, when its left rack has n savers.
use Rattle.std.specs.Prelude.{◌≡◌, ℕ, ◌-◌, ◌<◌, ◌≤◌}
use Rattle.racks.specs.declared.pair.Side.{Side}
use Rattle.racks.specs.declared.pair.Side.TheVariants.{Left, Right}

abbrev pub Sided : ℕ → ℕ → Side → Type 0
Sided n k (Left j) = (k < n) × (j ≡ k)
Sided n k (Right j) = (n ≤ k) × (j ≡ k - n)
