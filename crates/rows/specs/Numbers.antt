-- Numbers as records of a row: their order is total.
use Rattle.std.specs.Prelude.{◌<◌, ◌≤◌, nat_lt}
use Rattle.std.proofs.Common.{arith, ltb-true, ltb-false, lt-ltb, le-ltb}
use Rattle.rows.specs.Order.{Total}

pub total_numbers : Total nat_lt
total_numbers = record {
  irreflexive = λ x. le-ltb x x (omega arith);
  transitive = λ x y z h k. lt-ltb x z (let p : x < y = ltb-true x y h in let q : y < z = ltb-true y z k in omega arith);
  decided = λ x y h k. let p : y ≤ x = ltb-false x y h in let q : x ≤ y = ltb-false y x k in omega arith;
}
