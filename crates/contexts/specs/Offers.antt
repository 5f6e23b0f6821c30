-- Entries of the queue: each offers its group the weight of a chain.
use Rattle.std.specs.Prelude.{◌≡◌, ℕ, ◌<◌, true, ◌⊎◌, List, ◌∷◌, length, slice_index}
use Rattle.std.specs.List.{ContainsAt as Has, AllByRecursion}
use Rattle.std.specs.List.Sorted.{IsPermutation}
use Rattle.measure.specs.Ops.{Ops}
use Rattle.queue.specs.declared.entry.Entry.{Entry}
use Rattle.derivation.specs.Rules.{Rule, rule_at}
use Rattle.derivation.specs.Fit.{beside}
use Rattle.derivation.specs.Contexts.{Move, Chain, chain_weight}

-- The entry that offers a group a weight.
abbrev pub entry_for : {W : Type 0} → ℕ → W → Entry W
entry_for g w = record { priority = w; weight = w; rule = g }

-- A group is closed where its mark is 1.
abbrev pub Done : List ℕ → ℕ → Type 0
Done done g = slice_index done g ≡ 1

-- A weight was offered to a group: it was closed already, or its entry was put in.
abbrev pub Offering : {W : Type 0} → List ℕ → ℕ → W → List (Entry W) → List (Entry W) → Type 0
Offering done g w entries entries' = (Done done g × (entries' ≡ entries)) ⊎ IsPermutation (entry_for g w ∷ entries) entries'

module _ {W : Type 0} (m : Ops W) where
  -- An entry offers the group a weight no heavier than w.
  abbrev pub Offered : List (Entry W) → ℕ → W → Type 0
  Offered entries g w = (e : Entry W) × Has entries e × (e.rule ≡ g) × (m.leb e.weight w ≡ true)

  -- The group is closed or offered such a weight.
  abbrev pub Settled : List ℕ → List (Entry W) → ℕ → W → Type 0
  Settled done entries g w = Done done g ⊎ Offered entries g w

module _ {W : Type 0} (m : Ops W) (floor : ℕ → W) (rules : List (Rule W)) where
  -- A chain from f to the target weighs just w.
  abbrev pub Weighs : ℕ → ℕ → W → Type 0
  Weighs target f w = (moves : List Move) × Chain m rules moves f target × (chain_weight m floor rules moves ≡ w)

  -- An entry names a group below the fact count, and its weight, which is its priority too, is that of a chain from there.
  abbrev pub Honest : ℕ → ℕ → Entry W → Type 0
  Honest facts target e = (e.rule < facts) × (e.priority ≡ e.weight) × Weighs target e.rule e.weight

  -- From some entries to later ones: what was offered still is, entries stay honest where a chain from g weighs w,
  -- and each place in P is closed or offered the weight beside it joined with w.
  pub record Follows (facts : ℕ) (done : List ℕ) (g : ℕ) (w : W) (P : ℕ → ℕ → Type 0) (entries entries' : List (Entry W)) : Type 0 where
    pub grows : (b : ℕ) (v : W) → Offered m entries b v → Offered m entries' b v
    pub honest : (target : ℕ) → Weighs target g w → AllByRecursion (Honest facts target) entries → AllByRecursion (Honest facts target) entries'
    pub places : (r i : ℕ) → P r i → i < length (rule_at m rules r).body
        → Settled m done entries' (slice_index (rule_at m rules r).body i) (m.join (beside m floor (rule_at m rules r) i) w)
