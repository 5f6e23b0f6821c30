-- What is proved of fit, of the search and of its line, for every measure that keeps its laws.
use Rattle.std.specs.Prelude.{◌≡◌, ℕ, zero, suc, ◌+◌, ◌<◌, ◌≤◌, Bool, true, false, cond, List, [], ◌∷◌, map, length, Some, None, ◌≢◌, nat_lt, slice_index}
use Rattle.measure.specs.Ops.{Ops}
use Rattle.derivation.specs.Rules.{Rule, rule_at, Standing}
use Rattle.derivation.specs.Trees.{Tree, Derives, weight, Derivable, Least, Lightest}
use Rattle.derivation.specs.Fit.{Fit, Keeps, Verdict, fits, target_fails, rule_fails, check_fit}
use Rattle.derivation.specs.Search.{Closed, State, no_reason, final, survey, answer, among, is_closed, weight_of, reason_of, closed_count}
use Rattle.derivation.specs.Line.{line, line_tree}

-- The floors of a fitting guide are no heavier than any derivation.
abbrev pub FloorsBelow : {W : Type 0} → Ops W → Type 0
FloorsBelow {W} m =
    (rules : List (Rule W)) (floor rest : ℕ → W) (target : ℕ)
    → Fit m floor rest rules target
    → (f : ℕ) → Least m rules f (floor f)

-- No number stands twice in a list.
abbrev pub Distinct : List ℕ → Type 0
Distinct [] = Unit {0}
Distinct (x ∷ xs) = (among xs x ≡ false) × Distinct xs

-- The facts that the rules of a line conclude.
abbrev pub heads : {W : Type 0} → Ops W → List (Rule W) → List ℕ → List ℕ
heads m rules rs = map (λ r. (rule_at m rules r).head) rs

-- A search fails exactly where the target cannot be derived. Where it finds the target, the line gives a derivation of it at the answered
-- weight, below which there is none. No two rules of a line conclude the same fact.
pub record OptimalAt {W : Type 0} (m : Ops W) (rules : List (Rule W)) (target : ℕ) (s : State W) : Type 0 where
  pub unreached : answer m target s ≡ None → Derivable m rules target → ⊥
  pub underivable : (Derivable m rules target → ⊥) → answer m target s ≡ None
  pub derives : (w : W) → answer m target s ≡ Some w → Derives m rules (line_tree m rules (line m rules s target)) target
  pub weighs : (w : W) → answer m target s ≡ Some w → weight m rules (line_tree m rules (line m rules s target)) ≡ w
  pub lightest : (w : W) → answer m target s ≡ Some w → Least m rules target w
  pub distinct : Distinct (heads m rules (line m rules s target))

abbrev pub Optimal : {W : Type 0} → Ops W → Type 0
Optimal {W} m =
    (rules : List (Rule W)) (floor rest : ℕ → W) (target : ℕ)
    → Fit m floor rest rules target
    → OptimalAt m rules target (final m rules rest (Some target))

-- No fact is closed twice.
abbrev pub Once : {W : Type 0} → List (Closed W) → Type 0
Once [] = Unit {0}
Once (c ∷ cs) = (is_closed cs c.fact ≡ false) × Once cs

-- How many of the numbers below n pass a test.
abbrev pub count_below : (ℕ → Bool) → ℕ → ℕ
count_below p zero = 0
count_below p (suc n) = count_below p n + cond (p n) 1 0

-- Whether the reason of a fact is a rule.
abbrev pub has_reason : {W : Type 0} → List (Rule W) → State W → ℕ → Bool
has_reason rules s f = nat_lt (reason_of s f) (length rules)

-- Which facts a search closes, and at which weights.
pub record ExactAt {W : Type 0} (m : Ops W) (rules : List (Rule W)) (rest : ℕ → W) (target facts : ℕ) (s : State W) : Type 0 where
  -- each is closed once, at its lightest weight
  pub once : Once s.closed
  pub lightest : (f : ℕ) → is_closed s.closed f ≡ true → Lightest m rules f (weight_of m s f)
  -- they are those whose reason is a rule, and are counted
  pub reasons : (f : ℕ) → has_reason rules s f ≡ is_closed s.closed f
  pub counted : closed_count s ≡ count_below (has_reason rules s) facts
  -- where the target is found, every fact is closed that has a derivation of a priority below the target's
  pub complete : (v : W) → answer m target s ≡ Some v → (f : ℕ) (t : Tree) → Derives m rules t f
      → m.leb (m.join v (rest target)) (m.join (weight m rules t) (rest f)) ≡ false → is_closed s.closed f ≡ true
  -- and none whose own priority is above it
  pub sharp : (v : W) → answer m target s ≡ Some v → (f : ℕ) (w : W) → is_closed s.closed f ≡ true → Lightest m rules f w
      → m.leb (m.join w (rest f)) (m.join v (rest target)) ≡ true

abbrev pub Exact : {W : Type 0} → Ops W → Type 0
Exact {W} m =
    (rules : List (Rule W)) (floor rest : ℕ → W) (target facts : ℕ)
    → Fit m floor rest rules target
    → ((r : ℕ) → Standing m rules r → (rule_at m rules r).head < facts)
    → length rules ≤ no_reason
    → ExactAt m rules rest target facts (final m rules rest (Some target))

-- Two guides that fit give one answer.
abbrev pub Agree : {W : Type 0} → Ops W → Type 0
Agree {W} m =
    (rules : List (Rule W)) (floor rest floor' rest' : ℕ → W) (target : ℕ)
    → Fit m floor rest rules target
    → Fit m floor' rest' rules target
    → answer m target (final m rules rest (Some target)) ≡ answer m target (final m rules rest' (Some target))

-- A survey closes exactly the derivable facts, each at its lightest weight.
pub record SurveyedAt {W : Type 0} (m : Ops W) (rules : List (Rule W)) (s : State W) (f : ℕ) : Type 0 where
  pub derivable : is_closed s.closed f ≡ true → Derivable m rules f
  pub closed : Derivable m rules f → is_closed s.closed f ≡ true
  pub lightest : Derivable m rules f → Lightest m rules f (weight_of m s f)
  pub absent : (Derivable m rules f → ⊥) → weight_of m s f ≡ m.heaviest

abbrev pub Surveyed : {W : Type 0} → Ops W → Type 0
Surveyed {W} m = (rules : List (Rule W)) (f : ℕ) → SurveyedAt m rules (survey m rules) f

-- The heavier of two weights.
abbrev pub heavier : {W : Type 0} → Ops W → W → W → W
heavier m a b = cond (m.leb a b) b a

-- The guide that answers nothing fits, and so does the heavier of two guides that fit.
abbrev pub BlankFits : {W : Type 0} → Ops W → Type 0
BlankFits {W} m = (rules : List (Rule W)) (target : ℕ) → Fit m (λ f. m.nothing) (λ f. m.nothing) rules target

abbrev pub HeavierFits : {W : Type 0} → Ops W → Type 0
HeavierFits {W} m =
    (rules : List (Rule W)) (floor rest floor' rest' : ℕ → W) (target : ℕ)
    → Fit m floor rest rules target
    → Fit m floor' rest' rules target
    → Fit m (λ f. heavier m (floor f) (floor' f)) (λ f. heavier m (rest f) (rest' f)) rules target

-- The check of fit decides it, and tells what fails: the target, or the first rule that does not keep the conditions.
pub record DecidedAt {W : Type 0} (m : Ops W) (floor rest : ℕ → W) (rules : List (Rule W)) (target : ℕ) (v : Verdict) : Type 0 where
  pub passes : v ≡ fits → Fit m floor rest rules target
  pub passed : Fit m floor rest rules target → v ≡ fits
  pub fails_target : v ≡ target_fails → m.norm (rest target) ≢ m.nothing
  pub fails_rule : (r : ℕ) → v ≡ rule_fails r
      → (m.norm (rest target) ≡ m.nothing)
      × Standing m rules r
      × (Keeps m floor rest (rule_at m rules r) → ⊥)
      × ((k : ℕ) → k < r → Standing m rules k → Keeps m floor rest (rule_at m rules k))

abbrev pub Decided : {W : Type 0} → Ops W → Type 0
Decided {W} m =
    (rules : List (Rule W)) (floor rest : ℕ → W) (target : ℕ)
    → DecidedAt m floor rest rules target (check_fit m floor rest rules target)

-- Whether a guide fits depends only on what it answers for the facts that standing rules name, and for the target.
abbrev pub FitBelow : {W : Type 0} → Ops W → Type 0
FitBelow {W} m =
    (rules : List (Rule W)) (floor rest floor' rest' : ℕ → W) (target facts : ℕ)
    → ((r : ℕ) → Standing m rules r → (rule_at m rules r).head < facts)
    → ((r i : ℕ) → Standing m rules r → i < length (rule_at m rules r).body → slice_index (rule_at m rules r).body i < facts)
    → target < facts
    → ((f : ℕ) → f < facts → floor f ≡ floor' f)
    → ((f : ℕ) → f < facts → rest f ≡ rest' f)
    → Fit m floor rest rules target
    → Fit m floor' rest' rules target
