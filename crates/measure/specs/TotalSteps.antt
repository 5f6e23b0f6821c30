-- Total-steps: the sum of all costs and the number of rules, compared by the sum first.
use Rattle.std.specs.Prelude.{ℕ, ◌+◌, min, Bool, cond, ◌&&◌, ◌||◌, ◌==◌, nat_le, nat_lt}
use Rattle.measure.specs.declared.total_steps.TotalSteps.{TotalSteps}
use Rattle.measure.specs.Ops.{Ops, cost_limit}
use Rattle.measure.specs.Total.{total_limit}

abbrev pub steps_limit : ℕ
steps_limit = 65535

abbrev pub pair : ℕ → ℕ → TotalSteps
pair t s = record { total = t; steps = s }

-- In range: a total below the limit with at most steps_limit steps. At the limit there is the one pair (limit, 0).
abbrev pub inside : TotalSteps → Bool
inside a = nat_lt a.total total_limit && nat_le a.steps steps_limit

-- The two numbers that a record counts as.
abbrev pub total_of : TotalSteps → ℕ
total_of a = cond (inside a) a.total total_limit

abbrev pub steps_of : TotalSteps → ℕ
steps_of a = cond (inside a) a.steps 0

abbrev pub held : ℕ → ℕ → TotalSteps
held t s = cond (nat_lt t total_limit) (pair t (min s steps_limit)) (pair total_limit 0)

abbrev pub total_steps_ops : Ops TotalSteps
total_steps_ops = record {
  nothing = pair 0 0;
  heaviest = pair total_limit 0;
  norm = λ a. pair (total_of a) (steps_of a);
  effort = λ c. pair (min c cost_limit) 1;
  join = λ a b. held (total_of a + total_of b) (steps_of a + steps_of b);
  leb = λ a b. nat_lt (total_of a) (total_of b) || (total_of a == total_of b && nat_le (steps_of a) (steps_of b));
}
