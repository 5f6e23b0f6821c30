-- The check of fit, rule by rule, and what it decides.
use Rattle.std.proofs.Common.{◌≡◌, ℕ, zero, suc, ◌+◌, ◌<◌, ◌≤◌, Bool, true, false, ◌&&◌, ◌||◌, List, map, length, get_or, take, drop, sym, refl, ap, ◌∙◌, subst, inl, inr, add-one, arith}
use Rattle.std.proofs.lemmas.List.{at_drop_more, at_drop_all, take-map, drop-map}
use Rattle.std.proofs.lemmas.Bool.{cases_eq, and_from, and_left, and_right, or_left, cond-true, cond-false}
use Rattle.measure.specs.Ops.{Ops, Laws}
use Rattle.sheet.specs.declared.rule.Rule.{Rule as Record}
use Rattle.sheet.specs.Slots.{Slot}
use Rattle.std.specs.Prelude.{None, Some}
use Rattle.sheet.specs.Refusals.{Answer}
use Rattle.sheet.specs.Rules.{body_of}
use Rattle.sheet.specs.Slots.{rule_in}
use Rattle.derivation.specs.Rules.{Rule}
use Rattle.derivation.specs.Fit.{all_below, floor_kept, rest_kept, beside, rule_fits, Verdict, fits, target_fails, rule_fails, check_rules, check_fit}
use Rattle.derivation.specs.Joins.{joined, without}
use Rattle.derivation.specs.Theorems.{DecidedAt}
use Rattle.derivation.proofs.Checked.{decided_at}
use Rattle.guide.specs.Fit.{fit_answer, Decides}
use Rattle.guide.specs.Weighted.{weigh, weighted}
use Rattle.derivation.proofs.Weights.{map_without}
use Rattle.guide.proofs.Joining.{joined_without}

-- a test that holds of each number below i, and of i
pub all_more : (i : ℕ) (p : ℕ → Bool) → all_below i p ≡ true → p i ≡ true → all_below (i + 1) p ≡ true
all_more i p h e = rw add-one (and_from (all_below i p) (p i) h e)

pub and_true : (b : Bool) → (b && true) ≡ b
and_true true = refl
and_true false = refl

pub all_fails : (n i : ℕ) (p : ℕ → Bool) → i < n → p i ≡ false → all_below n p ≡ false
all_fails zero i p l e = absurd (omega arith)
all_fails (suc n) i p l e =
    elim (cases_eq i n) [
      | inl s ↦ and_right (all_below n p) (p n) (rw s at e)
      | inr s ↦ and_left (all_below n p) (p n) (all_fails n i p (omega arith) e)
    ]

module _ {W : Type 0} {m : Ops W} (laws : Laws m) (floor : ℕ → W) (r : Record) where
  abbrev joining : List ℕ → W
  joining facts = m.join (m.effort r.cost) (joined m (map floor facts))

  -- the effort of the cost is that of the limit, where it is above the limit
  pub joining_is : (facts : List ℕ) → joining facts ≡ m.join (weigh m (Some r)).effort (joined m (map floor facts))
  joining_is facts = ap (λ w. m.join w (joined m (map floor facts))) (laws.effort_limit r.cost)

  -- what the floors before and after a place give
  pub beside_is : (i : ℕ) → m.join (joining (take i (body_of r))) (joined m (map floor (drop (i + 1) (body_of r)))) ≡ beside m floor (weigh m (Some r)) i
  beside_is i =
      let fs = map floor (body_of r) in
      let parts : m.join (m.join (m.effort r.cost) (joined m (take i fs))) (joined m (drop (i + 1) fs)) ≡ joining (without (body_of r) i) =
      joined_without laws (m.effort r.cost) fs i ∙ ap (λ l. m.join (m.effort r.cost) (joined m l)) (sym (map_without floor (body_of r) i)) in
      simp (take-map, drop-map) at parts ∙ joining_is (without (body_of r) i)

module _ {W : Type 0} (m : Ops W) (floor rest : ℕ → W) where
  pub standing_fits : (a : Rule W) → a.struck ≡ false
      → rule_fits m floor rest a ≡ (floor_kept m floor a && all_below (length a.body) (rest_kept m floor rest a))
  unfolding rule_fits
  standing_fits a s = ap (λ b. b || (floor_kept m floor a && all_below (length a.body) (rest_kept m floor rest a))) s

  pub struck_fits : (a : Rule W) → a.struck ≡ true → rule_fits m floor rest a ≡ true
  unfolding rule_fits
  struck_fits a s = or_left a.struck _ s

  slot_fits : (x : Slot) → rule_fits m floor rest (weigh m (Some (rule_in x))) ≡ rule_fits m floor rest (weigh m x)
  unfolding rule_fits
  slot_fits None = refl
  slot_fits (Some r) = refl

  -- a rule that fits, and the first that does not
  pub rules_pass : (xs : List Slot) (i : ℕ) → i < length xs → rule_fits m floor rest (weigh m (Some (rule_in (get_or xs i None)))) ≡ true
      → check_rules m floor rest (weighted m (drop i xs)) i ≡ check_rules m floor rest (weighted m (drop (i + 1) xs)) (i + 1)
  rules_pass xs i l e =
      let step = at_drop_more (λ ys. check_rules m floor rest (weighted m ys) i) xs i None l in
      step ∙ cond-true _ _ _ (sym (slot_fits (get_or xs i None)) ∙ e) ∙ rw add-one

  pub rules_fail : (xs : List Slot) (i : ℕ) → i < length xs → rule_fits m floor rest (weigh m (Some (rule_in (get_or xs i None)))) ≡ false
      → check_rules m floor rest (weighted m (drop i xs)) i ≡ rule_fails i
  rules_fail xs i l e =
      let step = at_drop_more (λ ys. check_rules m floor rest (weighted m ys) i) xs i None l in
      step ∙ cond-false _ _ _ (sym (slot_fits (get_or xs i None)) ∙ e)

  pub rules_end : (xs : List Slot) (i : ℕ) → length xs ≤ i → check_rules m floor rest (weighted m (drop i xs)) i ≡ fits
  rules_end xs i l = at_drop_all (λ ys. check_rules m floor rest (weighted m ys) i) xs i l

  module _ (rules : List (Rule W)) (target : ℕ) where
    pub target_first : (v : Verdict) → m.leb (rest target) m.nothing ≡ true → check_rules m floor rest rules 0 ≡ v
        → fit_answer v target ≡ fit_answer (check_fit m floor rest rules target) target
    target_first v h e = ap (λ u. fit_answer u target) (sym (cond-true _ _ _ h ∙ e))

    verdict_decides : (v : Verdict) → DecidedAt m floor rest rules target v → Decides m floor rest rules target (fit_answer v target)
    verdict_decides fits d = record {
      passes = λ _. d.passes refl;
      passed = λ _. refl;
      fails_target = λ f e. let z : ◌≡◌ {A = ℕ} 0 1 = cc in absurd (omega arith);
      fails_rule = λ r e. let z : ◌≡◌ {A = ℕ} 0 1 = cc in absurd (omega arith);
    }
    verdict_decides target_fails d = record {
      passes = λ e. let z : ◌≡◌ {A = ℕ} 0 1 = cc in absurd (omega arith);
      passed = λ fit. ap (λ v. fit_answer v target) (d.passed fit);
      fails_target = λ f e. let same : f ≡ target = cc in (same, d.fails_target refl);
      fails_rule = λ r e. let z : ◌≡◌ {A = ℕ} 0 1 = cc in absurd (omega arith);
    }
    verdict_decides (rule_fails k) d = record {
      passes = λ e. let z : ◌≡◌ {A = ℕ} 0 1 = cc in absurd (omega arith);
      passed = λ fit. ap (λ v. fit_answer v target) (d.passed fit);
      fails_target = λ f e. let z : ◌≡◌ {A = ℕ} 0 1 = cc in absurd (omega arith);
      fails_rule = λ r e. let same : k ≡ r = cc in d.fails_rule r (ap rule_fails same);
    }

-- an answer that stands for the verdict decides the fit
pub decides_by : {W : Type 0} {m : Ops W} → Laws m → (floor rest : ℕ → W) (rules : List (Rule W)) (target : ℕ) (a : Answer (Unit {0}))
    → a ≡ fit_answer (check_fit m floor rest rules target) target → Decides m floor rest rules target a
decides_by {m = m} laws floor rest rules target a e =
    subst (Decides m floor rest rules target) (sym e) (verdict_decides m floor rest rules target _ (decided_at laws rules floor rest target))
