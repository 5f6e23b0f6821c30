-- Total: the sum of all costs, held at a thousand million.
use Rattle.std.specs.Prelude.{ℕ, ◌+◌, min, nat_le}
use Rattle.measure.specs.declared.total.Total.{Total}
use Rattle.measure.specs.Ops.{Ops, cost_limit}

abbrev pub total_limit : ℕ
total_limit = 1000000000

abbrev pub of_total : ℕ → Total
of_total n = record { total = n }

-- The operations: the number held at the limit, so that a number above it counts as heaviest.
abbrev pub total_ops : Ops Total
total_ops = record {
  nothing = of_total 0;
  heaviest = of_total total_limit;
  norm = λ a. of_total (min a.total total_limit);
  effort = λ c. of_total (min c cost_limit);
  join = λ a b. of_total (min (a.total + b.total) total_limit);
  leb = λ a b. nat_le (min a.total total_limit) (min b.total total_limit);
}
