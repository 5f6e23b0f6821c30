-- The whole promise, over the rules that a list of calls leaves, in the words of derivations.
use Rattle.std.specs.Prelude.{◌≡◌, ℕ, ◌<◌, ◌≤◌, false, List, ◌++◌, length, slice_index}
use Rattle.std.specs.List.{AllByRecursion}
use Rattle.measure.specs.Ops.{Ops}
use Rattle.sheet.specs.Refusals.{Answer, accepted, refused, Told}
use Rattle.sheet.specs.Rules.{Inference}
use Rattle.derivation.specs.Rules.{Rule, rule_at, Standing}
use Rattle.derivation.specs.Trees.{Derivable}
use Rattle.derivation.specs.Fit.{Fit}
use Rattle.derivation.specs.Theorems.{heavier}
use Rattle.guide.specs.Map.{by_group}
use Rattle.abstraction.specs.Made.{Made}
use Rattle.search.specs.declared.columns.Found.{Found}
use Rattle.search.specs.Answered.{work_length}
use Rattle.search.specs.PromiseOver.{KeptOver}
use Rattle.replay.specs.declared.call.Call.{Call}
use Rattle.replay.specs.Rules.{rules_after, weighted_after, allowed}
use Rattle.replay.specs.Run.{Lengths, sought, slots_after}

-- No refusal of a passing or of the target and the columns of a search applies, and the guide fits.
pub record InOrder {W : Type 0} (m : Ops W) (rules : List (Rule W)) (floor rest : ℕ → W) (facts target : ℕ) (long : Lengths) : Type 0 where
  -- the fact count is in range, and every standing rule names only facts below it
  pub some : 0 < facts
  pub few : facts ≤ 4096
  pub heads : (r : ℕ) → Standing m rules r → (rule_at m rules r).head < facts
  pub bodies : (r i : ℕ) → Standing m rules r → i < length (rule_at m rules r).body → slice_index (rule_at m rules r).body i < facts
  -- the target is below it, and no column is too short
  pub below : target < facts
  pub weights : facts ≤ long.weights
  pub reasons : facts ≤ long.reasons
  pub line : facts ≤ long.line
  pub queue : length rules ≤ long.queue
  pub work : work_length facts (length rules) ≤ long.work
  pub fit : Fit m floor rest rules target

-- The same grade: an equal weight, or out of reach as well.
pub record Same {W : Type 0} (a b : Answer (Found W)) : Type 0 where
  pub found : (f : Found W) → a ≡ accepted f → (g : Found W) × (b ≡ accepted g) × (g.weight ≡ f.weight)
  pub lost : (vs : List Told) → a ≡ refused 14 vs → (us : List Told) × (b ≡ refused 14 us)

-- None of the calls is an accepted edit where the rules are rs and there are n slots.
abbrev pub Unedited : {G : Type 0} → ℕ → List Inference → List (Call G) → Type 0
Unedited n rs cs = AllByRecursion (λ c. allowed n rs c ≡ false) cs

-- What is promised of a search that ends a list of calls on a new sheet of n slots.
pub record Whole {W G : Type 0} (m : Ops W) (n : ℕ) (calls : List (Call G)) (rest : ℕ → W) (facts target : ℕ) (a : Answer (Found W)) (weights : List W) (reasons line : List ℕ) : Type 0 where
  -- out of reach is answered exactly where the target has no derivation, and otherwise it is found
  pub out_of_reach : (vs : List Told) → a ≡ refused 14 vs → Derivable m (weighted_after m n calls) target → ⊥
  pub underivable : (Derivable m (weighted_after m n calls) target → ⊥) → (vs : List Told) × (a ≡ refused 14 vs)
  pub in_reach : Derivable m (weighted_after m n calls) target → (f : Found W) × (a ≡ accepted f)
  -- a found target has a line that derives it at the answered weight, the lightest, and the facts closed are those that should be
  pub found : (f : Found W) → a ≡ accepted f → KeptOver m rest (weighted_after m n calls) facts target weights reasons line f
  -- a guide made for the target from any map fits, and so does the heavier of two guides that fit
  pub made_fits : (groups : List ℕ) (k : ℕ) (floors rests : List W) → Made m (weighted_after m n calls) facts target groups k floors rests
      → Fit m (by_group m groups floors rests) (by_group m groups rests floors) (weighted_after m n calls) target
  pub heavier_fits : (floor₁ rest₁ floor₂ rest₂ : ℕ → W)
      → Fit m floor₁ rest₁ (weighted_after m n calls) target
      → Fit m floor₂ rest₂ (weighted_after m n calls) target
      → Fit m (λ f. heavier m (floor₁ f) (floor₂ f)) (λ f. heavier m (rest₁ f) (rest₂ f)) (weighted_after m n calls) target
  -- a second search for the target after further calls, none of them an accepted edit,
  -- with its own fact count, columns and fitting guide, gives the same grade
  pub agrees : (more : List (Call G)) → Unedited n (rules_after n calls) more
      → (floor₂ rest₂ : ℕ → W) (facts₂ : ℕ) (long₂ : Lengths) → InOrder m (weighted_after m n calls) floor₂ rest₂ facts₂ target long₂
      → Same a (sought m floor₂ rest₂ (slots_after n (calls ++ more)) long₂ facts₂ target)
