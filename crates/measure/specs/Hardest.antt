-- Hardest: the largest cost of all.
use Rattle.std.specs.Prelude.{ℕ, min, max, nat_le}
use Rattle.measure.specs.declared.hardest.Hardest.{Hardest}
use Rattle.measure.specs.Ops.{Ops, cost_limit}

abbrev pub of_hardest : ℕ → Hardest
of_hardest n = record { cost = n }

-- The operations: the number held at the highest cost, so that a number above it counts as heaviest.
abbrev pub hardest_ops : Ops Hardest
hardest_ops = record {
  nothing = of_hardest 0;
  heaviest = of_hardest cost_limit;
  norm = λ a. of_hardest (min a.cost cost_limit);
  effort = λ c. of_hardest (min c cost_limit);
  join = λ a b. of_hardest (min (max a.cost b.cost) cost_limit);
  leb = λ a b. nat_le (min a.cost cost_limit) (min b.cost cost_limit);
}
