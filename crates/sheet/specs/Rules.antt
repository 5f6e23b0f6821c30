-- Rules: the record that a slot holds, and the inference that it is read as.
use Rattle.std.specs.Prelude.{ℕ, min, Bool, true, false, ◌&&◌, ◌||◌, List, ◌++◌, length, take, replicate, nat_lt}
use Rattle.std.specs.List.{list_all}
use Rattle.measure.specs.Ops.{cost_limit}
use Rattle.sheet.specs.declared.rule.Rule.{Rule}

-- The most facts in a body.
abbrev pub body_limit : ℕ
body_limit = 4

-- An inference: from the facts of the body, in order, conclude the head, at a cost. A struck one is out of use.
pub record Inference : Type 0 where
  pub head : ℕ
  pub body : List ℕ
  pub cost : ℕ
  pub struck : Bool

-- The body of a rule: as many of its places as its arity says, at most body_limit.
abbrev pub body_of : Rule → List ℕ
body_of r = take (min r.arity body_limit) r.body

-- How a rule is read: a body or a cost above the limit counts as the limit.
abbrev pub read : Rule → Inference
read r = record { head = r.head; body = body_of r; cost = min r.cost cost_limit; struck = r.struck }

-- The rule that is made from a head, a body and a cost: the first places of the body, and 0 beyond it.
abbrev pub made : ℕ → List ℕ → ℕ → Rule
made h b c = record { head = h; body = take body_limit (b ++ replicate body_limit 0); arity = min (length b) body_limit; cost = c; struck = false }

abbrev pub all_below : ℕ → List ℕ → Bool
all_below n xs = list_all (λ x. nat_lt x n) xs

-- A rule keeps within n facts if it is struck, or its head and its body are below n.
abbrev pub within : ℕ → Rule → Bool
within n r = r.struck || (nat_lt r.head n && all_below n (body_of r))

-- A rule with the mark of a struck one.
abbrev pub marked : Rule → Rule
marked r = record { head = r.head; body = r.body; arity = r.arity; cost = r.cost; struck = true }
