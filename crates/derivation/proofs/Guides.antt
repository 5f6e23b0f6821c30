-- The blank guide and the heavier of two guides fit.
use Rattle.std.proofs.Common.{◌≡◌, ℕ, true, ◌⊎◌, List, [], ◌∷◌, map, get_or, inl, inr}
use Rattle.std.proofs.lemmas.Bool.{both_ways, cases_Bool, cond-true, cond-false}
use Rattle.measure.specs.Ops.{Ops, Laws}
use Rattle.derivation.specs.Rules.{Rule, rule_at}
use Rattle.derivation.specs.Joins.{joined, without}
use Rattle.derivation.specs.Fit.{Consistent, beside}
use Rattle.derivation.specs.Theorems.{heavier, BlankFits, HeavierFits}
use Rattle.derivation.proofs.Weights.{Below, same, join_right, join_both, joined_below}

module _ {W : Type 0} {m : Ops W} (laws : Laws m) where
  pub blank_consistent : (rules : List (Rule W)) → Consistent m (λ f. m.nothing) (λ f. m.nothing) rules
  blank_consistent rules r stands = record { floors = laws.lightest _; rests = λ i h. laws.lightest _ }

  pub blank_fits : BlankFits m
  blank_fits rules target = record { target_rest = laws.norm_nothing; consistent = blank_consistent rules }

  heavier_cases : (a b : W) → ((heavier m a b ≡ a) × (m.leb b a ≡ true)) ⊎ ((heavier m a b ≡ b) × (m.leb a b ≡ true))
  heavier_cases a b =
      elim (cases_Bool (m.leb a b)) [
        | inl h ↦ inr (cond-true (m.leb a b) b a h, h)
        | inr h ↦ inl (cond-false (m.leb a b) b a h, elim (laws.total a b) [ inl k ↦ absurd (both_ways _ h k) | inr k ↦ k ])
      ]

  heavier_left : (a b : W) → m.leb a (heavier m a b) ≡ true
  heavier_left a b = elim (heavier_cases a b) [ inl p ↦ rw p.0 (same laws a) | inr p ↦ rw p.0 p.1 ]

  heavier_right : (a b : W) → m.leb b (heavier m a b) ≡ true
  heavier_right a b = elim (heavier_cases a b) [ inl p ↦ rw p.0 p.1 | inr p ↦ rw p.0 (same laws b) ]

  heavier_below : (a b c : W) → m.leb a c ≡ true → m.leb b c ≡ true → m.leb (heavier m a b) c ≡ true
  heavier_below a b c h k = elim (heavier_cases a b) [ inl p ↦ rw p.0 h | inr p ↦ rw p.0 k ]

  map_below : (f g : ℕ → W) → ((x : ℕ) → m.leb (f x) (g x) ≡ true) → (xs : List ℕ) → Below m (map f xs) (map g xs)
  map_below f g h [] = tt
  map_below f g h (x ∷ xs) = (h x, map_below f g h xs)

  -- what a rule asks of a guide, asked of another with the same head and larger elsewhere
  floors_up : (a : Rule W) (floor floor' : ℕ → W) → ((x : ℕ) → m.leb (floor x) (floor' x) ≡ true)
      → m.leb (floor a.head) (m.join a.effort (joined m (map floor a.body))) ≡ true
      → m.leb (floor a.head) (m.join a.effort (joined m (map floor' a.body))) ≡ true
  floors_up a floor floor' up h = laws.trans _ _ _ h (join_right laws _ _ _ (joined_below laws _ _ (map_below floor floor' up a.body)))

  rests_up : (a : Rule W) (i : ℕ) (floor rest floor' rest' : ℕ → W)
      → ((x : ℕ) → m.leb (floor x) (floor' x) ≡ true) → ((x : ℕ) → m.leb (rest x) (rest' x) ≡ true)
      → m.leb (rest (get_or a.body i 0)) (m.join (beside m floor a i) (rest a.head)) ≡ true
      → m.leb (rest (get_or a.body i 0)) (m.join (beside m floor' a i) (rest' a.head)) ≡ true
  rests_up a i floor rest floor' rest' up up' h =
      laws.trans _ _ _ h (join_both laws _ _ _ _ (join_right laws _ _ _ (joined_below laws _ _ (map_below floor floor' up (without a.body i)))) (up' a.head))

  pub heavier_fits : HeavierFits m
  heavier_fits rules floor rest floor' rest' target fit fit' = record {
    target_rest = elim (heavier_cases (rest target) (rest' target)) [
      | inl p ↦ rw p.0 fit.target_rest
      | inr p ↦ rw p.0 fit'.target_rest
    ];
    consistent = λ r stands.
        let a = rule_at m rules r in
        let k = fit.consistent r stands in
        let k' = fit'.consistent r stands in
        let up : (x : ℕ) → m.leb (floor x) (heavier m (floor x) (floor' x)) ≡ true = λ x. heavier_left (floor x) (floor' x) in
        let up' : (x : ℕ) → m.leb (floor' x) (heavier m (floor x) (floor' x)) ≡ true = λ x. heavier_right (floor x) (floor' x) in
        record {
          floors = heavier_below _ _ _ (floors_up a floor _ up k.floors) (floors_up a floor' _ up' k'.floors);
          rests = λ i h. heavier_below _ _ _
              (rests_up a i floor rest _ _ up (λ x. heavier_left (rest x) (rest' x)) (k.rests i h))
              (rests_up a i floor' rest' _ _ up' (λ x. heavier_right (rest x) (rest' x)) (k'.rests i h));
        };
  }
