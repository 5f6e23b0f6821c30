-- What is left in the column, in the words of chains.
use Rattle.std.proofs.Common.{◌≡◌, ℕ, ◌<◌, ◌≤◌, true, List, ◌++◌, get_or, drop, sym, ap, ◌∙◌, subst, arith}
use Rattle.measure.specs.Ops.{Ops, Laws}
use Rattle.sheet.specs.Slots.{Slot}
use Rattle.derivation.specs.Contexts.{context}
use Rattle.derivation.specs.Maps.{LeastChain}
use Rattle.derivation.proofs.Chains.{chain_least, context_target}
use Rattle.guide.specs.Weighted.{weighted}
use Rattle.search.specs.Answered.{column, work_length}
use Rattle.search.specs.Entries.{held}
use Rattle.search.proofs.Promised.{column_at}
use Rattle.contexts.specs.Answered.{queue_length, contexts_long, Rests}
use Rattle.std.proofs.lemmas.Bool.Decides.{nat_tests}

-- the columns are long enough
pub long_queue : (f r a b c d : ℕ) → contexts_long f r a b c d ≡ true → queue_length r ≤ c
long_queue f r a b c d h = grind (arith, nat_tests)

pub long_work : (f r a b c d : ℕ) → contexts_long f r a b c d ≡ true → work_length f r ≤ d
long_work f r a b c d h = grind (arith, nat_tests)

module _ {W : Type 0} {m : Ops W} (laws : Laws m) (floors : List W) (xs : List Slot) (facts target : ℕ) (rests rests₀ : List W)
    (low : target < facts) (is : rests ≡ column (context m (held m floors) (weighted m xs) target) facts ++ drop facts rests₀) where
  rest_here : (k : ℕ) → k < facts → get_or rests k m.heaviest ≡ context m (held m floors) (weighted m xs) target k
  rest_here k h = ap (λ l. get_or l k m.heaviest) is ∙ column_at (context m (held m floors) (weighted m xs) target) facts k m.heaviest (drop facts rests₀) h

  pub rests_least : Rests m floors xs facts target rests
  rests_least = record {
    least = λ k h. subst (LeastChain m (held m floors) (weighted m xs) target k) (sym (rest_here k h)) (chain_least laws (held m floors) (weighted m xs) target k);
    at_target = rest_here target low ∙ context_target laws (held m floors) (weighted m xs) target;
  }
