-- The limits that a rule of a file keeps.
use Rattle.std.specs.Prelude.{◌≤◌, length}
use Rattle.std.specs.List.{AllByRecursion}
use Rattle.file.specs.Rules.{Entry}

pub record Within (e : Entry) : Type 0 where
  pub head : e.head ≤ 65535
  pub body : AllByRecursion (λ f. f ≤ 65535) e.body
  pub few : length e.body ≤ 4
  pub cost : e.cost ≤ 1000000
