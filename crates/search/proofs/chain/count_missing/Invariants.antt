use Rattle.std.proofs.Common.{◌≡◌, ℕ, ◌<◌, get_or}
use Rattle.sheet.specs.Slots.{rule_at}
use Rattle.search.specs.Waiting.{arity}
use Rattle.search.proofs.chain.count_missing.Given as goal

abbrev pub invariant-loop-i : goal.invariant-loop-i
invariant-loop-i l = (k : ℕ) → k < l.i → get_or l.missing k 0 ≡ arity (rule_at l.sheet.slots.now k)
