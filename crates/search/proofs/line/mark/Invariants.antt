use Rattle.std.proofs.Common.{◌≡◌, ℕ, cond, get_or, take}
use Rattle.derivation.specs.Search.{among}
use Rattle.search.proofs.line.mark.Given as goal

abbrev pub invariant-loop-fact : goal.invariant-loop-fact
invariant-loop-fact l = (f : ℕ) → get_or l.needed f 0 ≡ cond (among (take l.fact-index l.body) f) 1 (get_or l.initial.needed f 0)
