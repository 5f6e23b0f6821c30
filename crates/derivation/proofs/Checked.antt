-- The check of fit decides it.
use Rattle.std.proofs.Common.{◌≡◌, ℕ, zero, suc, ◌+◌, ◌<◌, Bool, true, false, cond, not, ◌&&◌, ◌||◌, List, [], ◌∷◌, length, sym, refl, ◌∙◌, subst, inl, inr, arith}
use Rattle.std.proofs.lemmas.Bool.{both_ways, cases_eq, and_parts, and_from, or_cases}
use Rattle.measure.specs.Ops.{Ops, Laws}
use Rattle.derivation.specs.Rules.{Rule, rule_at, Standing}
use Rattle.derivation.specs.Fit.{all_below, floor_kept, rest_kept, Keeps, Consistent, rule_fits, Verdict, fits, target_fails, rule_fails, check_rules}
use Rattle.derivation.specs.Theorems.{DecidedAt, Decided}

below_all : (n : ℕ) (p : ℕ → Bool) → all_below n p ≡ true → (i : ℕ) → i < n → p i ≡ true
below_all zero p h i k = absurd (omega arith)
below_all (suc n) p h i k =
    let q = and_parts (all_below n p) (p n) h in
    elim (cases_eq i n) [ inl e ↦ rw e q.1 | inr e ↦ below_all n p q.0 i (omega arith) ]

all_from : (n : ℕ) (p : ℕ → Bool) → ((i : ℕ) → i < n → p i ≡ true) → all_below n p ≡ true
all_from zero p h = refl
all_from (suc n) p h = and_from _ _ (all_from n p (λ i k. h i (omega arith))) (h n (omega arith))

not_both : (b : Bool) → b ≡ true → not b ≡ true → ⊥
not_both true e h = both_ways false refl h
not_both false e h = both_ways false refl e

not_of : (b : Bool) → (b ≡ true → ⊥) → not b ≡ true
not_of true h = absurd (h refl)
not_of false h = refl

module _ {W : Type 0} (m : Ops W) (floor rest : ℕ → W) where
  kept_all : (a : Rule W) → (floor_kept m floor a && all_below (length a.body) (rest_kept m floor rest a)) ≡ true → Keeps m floor rest a
  kept_all a h =
      let p = and_parts (floor_kept m floor a) (all_below (length a.body) (rest_kept m floor rest a)) h in
      record { floors = p.0; rests = below_all (length a.body) (rest_kept m floor rest a) p.1 }

  fits_keeps : (a : Rule W) → rule_fits m floor rest a ≡ true → not a.struck ≡ true → Keeps m floor rest a
  unfolding rule_fits
  fits_keeps a h stands =
      elim (or_cases a.struck (floor_kept m floor a && all_below (length a.body) (rest_kept m floor rest a)) h) [
        | inl e ↦ absurd (not_both a.struck e stands)
        | inr e ↦ kept_all a e
      ]

  keeps_fits : (a : Rule W) → (not a.struck ≡ true → Keeps m floor rest a) → rule_fits m floor rest a ≡ true
  unfolding rule_fits
  keeps_fits a h = go a.struck h
    where
      go : (b : Bool) → (not b ≡ true → Keeps m floor rest a)
          → (b || (floor_kept m floor a && all_below (length a.body) (rest_kept m floor rest a))) ≡ true
      go true k = refl
      go false k = and_from _ _ (k refl).floors (all_from (length a.body) (rest_kept m floor rest a) (k refl).rests)

  -- what the check of rules numbered from n tells
  abbrev Told : List (Rule W) → ℕ → Verdict → Type 0
  Told rules n fits = Consistent m floor rest rules
  Told rules n target_fails = ⊥
  Told rules n (rule_fails r) =
      (k : ℕ) × (r ≡ n + k) × Standing m rules k × (Keeps m floor rest (rule_at m rules k) → ⊥)
      × ((i : ℕ) → i < k → Standing m rules i → Keeps m floor rest (rule_at m rules i))

  kept_more : (a : Rule W) (rules : List (Rule W)) → rule_fits m floor rest a ≡ true
      → (k : ℕ) → ((i : ℕ) → i < k → Standing m rules i → Keeps m floor rest (rule_at m rules i))
      → (i : ℕ) → i < suc k → Standing m (a ∷ rules) i → Keeps m floor rest (rule_at m (a ∷ rules) i)
  kept_more a rules h k q zero l stands = fits_keeps a h stands
  kept_more a rules h k q (suc i) l stands = q i (omega arith) stands

  told_more : (a : Rule W) (rules : List (Rule W)) (n : ℕ) → rule_fits m floor rest a ≡ true → (v : Verdict)
      → Told rules (suc n) v → Told (a ∷ rules) n v
  told_more a rules n h fits q = λ r stands. kept_more a rules h r (λ i l. q i) r (omega arith) stands
  told_more a rules n h target_fails q = q
  told_more a rules n h (rule_fails r) q = (suc q.0, omega (arith, q.1), q.2, q.3, kept_more a rules h q.0 q.4)

  told_first : (a : Rule W) (rules : List (Rule W)) (n : ℕ) → rule_fits m floor rest a ≡ false → Told (a ∷ rules) n (rule_fails n)
  told_first a rules n h = (
    0,
    omega arith,
    not_of a.struck (λ e. both_ways _ h (keeps_fits a (λ k. absurd (not_both a.struck e k)))),
    (λ k. both_ways _ h (keeps_fits a (λ _. k))),
    (λ i l. absurd (omega arith)),
  )

  told : (rules : List (Rule W)) (n : ℕ) → Told rules n (check_rules m floor rest rules n)
  told [] n = λ r stands. absurd (both_ways false refl stands)
  told (a ∷ rules) n = go (rule_fits m floor rest a) refl (told rules (suc n))
    where
      go : (b : Bool) → rule_fits m floor rest a ≡ b → Told rules (suc n) (check_rules m floor rest rules (suc n))
          → Told (a ∷ rules) n (cond b (check_rules m floor rest rules (suc n)) (rule_fails n))
      go true h q = told_more a rules n h _ q
      go false h q = told_first a rules n h

module _ {W : Type 0} {m : Ops W} (laws : Laws m) where
  counts_nothing : (a : W) → m.leb a m.nothing ≡ true → m.norm a ≡ m.nothing
  counts_nothing a h = laws.antisym a m.nothing h (laws.lightest a) ∙ laws.norm_nothing

  nothing_counts : (a : W) → m.norm a ≡ m.nothing → m.leb a m.nothing ≡ true
  nothing_counts a e = sym (laws.leb_norm a m.nothing) ∙ (rw e (laws.lightest m.nothing))

  module _ (rules : List (Rule W)) (floor rest : ℕ → W) (target : ℕ) where
    decide_rules : m.leb (rest target) m.nothing ≡ true → (v : Verdict) → Told m floor rest rules 0 v → DecidedAt m floor rest rules target v
    decide_rules h fits q = record {
      passes = λ _. record { target_rest = counts_nothing _ h; consistent = q };
      passed = λ _. refl;
      fails_target = λ e. let z : ◌≡◌ {A = ℕ} 0 1 = cc in absurd (omega arith);
      fails_rule = λ r e. let z : ◌≡◌ {A = ℕ} 0 1 = cc in absurd (omega arith);
    }
    decide_rules h target_fails q = absurd q
    decide_rules h (rule_fails r) q = record {
      passes = λ e. let z : ◌≡◌ {A = ℕ} 0 1 = cc in absurd (omega arith);
      passed = λ fit. absurd (q.3 (fit.consistent q.0 q.2));
      fails_target = λ e. let z : ◌≡◌ {A = ℕ} 0 1 = cc in absurd (omega arith);
      fails_rule = λ k e.
          let same : r ≡ k = cc in
          let at : q.0 ≡ k = omega (arith, q.1) in
          let P : ℕ → Type 0 = λ x.
          Standing m rules x
          × (Keeps m floor rest (rule_at m rules x) → ⊥)
          × ((i : ℕ) → i < x → Standing m rules i → Keeps m floor rest (rule_at m rules i)) in
          let p = subst P at (q.2, q.3, q.4) in
          (counts_nothing _ h, p.0, p.1, p.2);
    }

    decide_target : m.leb (rest target) m.nothing ≡ false → DecidedAt m floor rest rules target target_fails
    decide_target h = record {
      passes = λ e. let z : ◌≡◌ {A = ℕ} 0 1 = cc in absurd (omega arith);
      passed = λ fit. absurd (both_ways _ h (nothing_counts _ fit.target_rest));
      fails_target = λ _ e. both_ways _ h (nothing_counts _ e);
      fails_rule = λ r e. let z : ◌≡◌ {A = ℕ} 0 1 = cc in absurd (omega arith);
    }

  pub decided_at : Decided m
  decided_at rules floor rest target = go (m.leb (rest target) m.nothing) refl
    where
      go : (b : Bool) → m.leb (rest target) m.nothing ≡ b
          → DecidedAt m floor rest rules target (cond b (check_rules m floor rest rules 0) target_fails)
      go true h = decide_rules rules floor rest target h _ (told m floor rest rules 0)
      go false h = decide_target rules floor rest target h
