-- The state of the main loop: which groups are closed, and at which weights.
use Rattle.std.specs.Prelude.{◌≡◌, ℕ, ◌<◌, true, List, length, slice_index}
use Rattle.std.specs.List.{AllByRecursion}
use Rattle.measure.specs.Ops.{Ops}
use Rattle.queue.specs.declared.entry.Entry.{Entry}
use Rattle.derivation.specs.Rules.{Rule, rule_at, Standing}
use Rattle.derivation.specs.Fit.{beside}
use Rattle.derivation.specs.Contexts.{Move, Chain, chain_weight}
use Rattle.search.specs.Entries.{held}
use Rattle.contexts.specs.Offers.{Done, Settled, Weighs, Honest}

pub record Closing {W : Type 0} (m : Ops W) (floor : ℕ → W) (rules : List (Rule W)) (facts target : ℕ) (rests : List W) (done : List ℕ) (entries : List (Entry W)) : Type 0 where
  -- the rest of a closed group is the weight of a chain from it, and no chain from it is lighter; any other is heaviest
  pub attained : (f : ℕ) → Done done f → Weighs m floor rules target f (held m rests f)
  pub least : (f : ℕ) → Done done f → (moves : List Move) → Chain m rules moves f target → m.leb (held m rests f) (chain_weight m floor rules moves) ≡ true
  pub blank : (f : ℕ) → (Done done f → ⊥) → held m rests f ≡ m.heaviest
  -- the target, and each place of a rule whose head is closed, is closed or in the queue
  pub start : Settled m done entries target m.nothing
  pub onward : (r i : ℕ) → Standing m rules r → Done done (rule_at m rules r).head → i < length (rule_at m rules r).body
      → Settled m done entries (slice_index (rule_at m rules r).body i) (m.join (beside m floor (rule_at m rules r) i) (held m rests (rule_at m rules r).head))
  pub honest : AllByRecursion (Honest m floor rules facts target) entries
