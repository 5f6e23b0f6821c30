-- What a search promises, in the words of derivations, of its answer and of what it leaves in its columns.
use Rattle.std.specs.Prelude.{◌≡◌, ℕ, Bool, true, false, ◌&&◌, List, length, take, nat_lt, slice_index_or}
use Rattle.measure.specs.Ops.{Ops}
use Rattle.sheet.specs.Slots.{Slot}
use Rattle.sheet.specs.Refusals.{Answer, accepted, refused, Told}
use Rattle.derivation.specs.Trees.{Tree, Derives, weight, Derivable, Least, Lightest}
use Rattle.derivation.specs.Search.{no_reason}
use Rattle.derivation.specs.Line.{line_tree}
use Rattle.derivation.specs.Theorems.{count_below}
use Rattle.guide.specs.Weighted.{weighted}
use Rattle.search.specs.declared.columns.Found.{Found}
use Rattle.search.specs.Answered.{ran}

-- The facts closed are those below the fact count whose reason is a rule.
abbrev pub closed_in : List Slot → ℕ → List ℕ → ℕ → Bool
closed_in xs facts reasons k = nat_lt k facts && nat_lt (slice_index_or reasons k no_reason) (length xs)

-- A target that was found.
pub record Kept {W : Type 0} (m : Ops W) (rest : ℕ → W) (xs : List Slot) (facts target : ℕ) (weights : List W) (reasons line : List ℕ) (f : Found W) : Type 0 where
  -- the line's derivation derives the target and weighs what is answered, and no derivation of the target is lighter
  pub derives : Derives m (weighted m xs) (line_tree m (weighted m xs) (take f.line line)) target
  pub weighs : weight m (weighted m xs) (line_tree m (weighted m xs) (take f.line line)) ≡ f.weight
  pub lightest : Least m (weighted m xs) target f.weight
  -- every fact with a derivation of a priority below the target's is closed, and none whose own priority is above it
  pub closes : (k : ℕ) (t : Tree) → Derives m (weighted m xs) t k
      → m.leb (m.join f.weight (rest target)) (m.join (weight m (weighted m xs) t) (rest k)) ≡ false → closed_in xs facts reasons k ≡ true
  pub spares : (k : ℕ) (w : W) → closed_in xs facts reasons k ≡ true → Lightest m (weighted m xs) k w
      → m.leb (m.join w (rest k)) (m.join f.weight (rest target)) ≡ true
  -- each closed fact has its lightest weight in its column, and they are counted
  pub each : (k : ℕ) → closed_in xs facts reasons k ≡ true → Lightest m (weighted m xs) k (slice_index_or weights k m.heaviest)
  pub counts : f.closed ≡ count_below (closed_in xs facts reasons) facts

pub record Promise {W : Type 0} (m : Ops W) (rest : ℕ → W) (xs : List Slot) (facts target : ℕ) (a : Answer (Found W)) (weights : List W) (reasons line : List ℕ) : Type 0 where
  -- once its tests are passed, a search answers out of reach exactly where the target has no derivation
  pub out_of_reach : (vs : List Told) → a ≡ refused 14 vs → Derivable m (weighted m xs) target → ⊥
  pub in_reach : ran a ≡ true → Derivable m (weighted m xs) target → (f : Found W) × (a ≡ accepted f)
  pub found : (f : Found W) → a ≡ accepted f → Kept m rest xs facts target weights reasons line f
