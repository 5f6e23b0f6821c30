-- The promise of a search over weighted rules, wherever they come from.
use Rattle.std.specs.Prelude.{◌≡◌, ℕ, Bool, true, false, ◌&&◌, List, length, take, nat_lt, slice_index_or}
use Rattle.measure.specs.Ops.{Ops}
use Rattle.sheet.specs.Refusals.{Answer, accepted, refused, Told}
use Rattle.derivation.specs.Rules.{Rule}
use Rattle.derivation.specs.Trees.{Tree, Derives, weight, Derivable, Least, Lightest}
use Rattle.derivation.specs.Search.{no_reason}
use Rattle.derivation.specs.Line.{line_tree}
use Rattle.derivation.specs.Theorems.{count_below}
use Rattle.search.specs.declared.columns.Found.{Found}
use Rattle.search.specs.Answered.{ran}

-- The facts closed are those below the fact count whose reason is one of n rules.
abbrev pub closed_among : ℕ → ℕ → List ℕ → ℕ → Bool
closed_among n facts reasons k = nat_lt k facts && nat_lt (slice_index_or reasons k no_reason) n

-- A target that was found.
pub record KeptOver {W : Type 0} (m : Ops W) (rest : ℕ → W) (rules : List (Rule W)) (facts target : ℕ) (weights : List W) (reasons line : List ℕ) (f : Found W) : Type 0 where
  -- the line's derivation derives the target and weighs what is answered, and no derivation of the target is lighter
  pub derives : Derives m rules (line_tree m rules (take f.line line)) target
  pub weighs : weight m rules (line_tree m rules (take f.line line)) ≡ f.weight
  pub lightest : Least m rules target f.weight
  -- every fact with a derivation of a priority below the target's is closed, and none whose own priority is above it
  pub closes : (k : ℕ) (t : Tree) → Derives m rules t k
      → m.leb (m.join f.weight (rest target)) (m.join (weight m rules t) (rest k)) ≡ false → closed_among (length rules) facts reasons k ≡ true
  pub spares : (k : ℕ) (w : W) → closed_among (length rules) facts reasons k ≡ true → Lightest m rules k w
      → m.leb (m.join w (rest k)) (m.join f.weight (rest target)) ≡ true
  -- each closed fact has its lightest weight in its column, and they are counted
  pub each : (k : ℕ) → closed_among (length rules) facts reasons k ≡ true → Lightest m rules k (slice_index_or weights k m.heaviest)
  pub counts : f.closed ≡ count_below (closed_among (length rules) facts reasons) facts

pub record PromiseOver {W : Type 0} (m : Ops W) (rest : ℕ → W) (rules : List (Rule W)) (facts target : ℕ) (a : Answer (Found W)) (weights : List W) (reasons line : List ℕ) : Type 0 where
  -- once its tests are passed, a search answers out of reach exactly where the target has no derivation
  pub out_of_reach : (vs : List Told) → a ≡ refused 14 vs → Derivable m rules target → ⊥
  pub in_reach : ran a ≡ true → Derivable m rules target → (f : Found W) × (a ≡ accepted f)
  pub found : (f : Found W) → a ≡ accepted f → KeptOver m rest rules facts target weights reasons line f
