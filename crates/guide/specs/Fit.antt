-- What a check of fit answers, and what its answer tells.
use Rattle.std.specs.Prelude.{◌≡◌, ℕ, ◌<◌, List, [], ◌∷◌, ◌≢◌}
use Rattle.measure.specs.Ops.{Ops}
use Rattle.sheet.specs.Refusals.{Answer, accepted, refused, a_fact, a_rule}
use Rattle.derivation.specs.Rules.{Rule, rule_at, Standing}
use Rattle.derivation.specs.Fit.{Verdict, fits, target_fails, rule_fails, Fit, Keeps}

-- The answer that a verdict stands for: a refusal tells the target, or the rule.
abbrev pub fit_answer : Verdict → ℕ → Answer (Unit {0})
fit_answer fits target = accepted tt
fit_answer target_fails target = refused 13 (a_fact target ∷ [])
fit_answer (rule_fails r) target = refused 13 (a_rule r ∷ [])

-- A guide is accepted exactly where it fits. The target is told where its rest does not count as nothing;
-- else the rule that is told stands and breaks a condition, and each standing rule before it keeps both.
pub record Decides {W : Type 0} (m : Ops W) (floor rest : ℕ → W) (rules : List (Rule W)) (target : ℕ) (a : Answer (Unit {0})) : Type 0 where
  pub passes : a ≡ accepted tt → Fit m floor rest rules target
  pub passed : Fit m floor rest rules target → a ≡ accepted tt
  pub fails_target : (f : ℕ) → a ≡ refused 13 (a_fact f ∷ []) → (f ≡ target) × (m.norm (rest target) ≢ m.nothing)
  pub fails_rule : (r : ℕ) → a ≡ refused 13 (a_rule r ∷ [])
      → (m.norm (rest target) ≡ m.nothing)
      × Standing m rules r
      × (Keeps m floor rest (rule_at m rules r) → ⊥)
      × ((k : ℕ) → k < r → Standing m rules k → Keeps m floor rest (rule_at m rules k))
