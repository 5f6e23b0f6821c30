-- Fit depends only on what a guide answers for the facts that are named.
use Rattle.std.proofs.Common.{◌≡◌, ℕ, zero, suc, ◌<◌, List, [], ◌∷◌, map, sym, refl, ap, ◌∙◌, ap₂}
use Rattle.std.specs.List.{AllByRecursion}
use Rattle.std.proofs.ByRecursion.{All-from_get_or}
use Rattle.measure.specs.Ops.{Ops}
use Rattle.derivation.specs.Rules.{rule_at}
use Rattle.derivation.specs.Joins.{joined, without}
use Rattle.derivation.specs.Theorems.{FitBelow}

pub all_without : (P : ℕ → Type 0) (xs : List ℕ) (i : ℕ) → AllByRecursion P xs → AllByRecursion P (without xs i)
all_without P [] i h = tt
all_without P (x ∷ xs) zero h = h.1
all_without P (x ∷ xs) (suc i) h = (h.0, all_without P xs i h.1)

pub map_agree : {W : Type 0} (f g : ℕ → W) (n : ℕ) → ((x : ℕ) → x < n → f x ≡ g x) → (xs : List ℕ) → AllByRecursion (λ x. x < n) xs → map f xs ≡ map g xs
map_agree f g n same [] h = refl
map_agree f g n same (x ∷ xs) h = ap₂ ◌∷◌ (same x h.0) (map_agree f g n same xs h.1)

module _ {W : Type 0} (m : Ops W) where
  pub fit_below : FitBelow m
  fit_below rules floor rest floor' rest' target facts heads bodies low floors rests fit = record {
    target_rest = sym (ap m.norm (rests target low)) ∙ fit.target_rest;
    consistent = λ r stands.
        let a = rule_at m rules r in
        let k = fit.consistent r stands in
        let named : AllByRecursion (λ x. x < facts) a.body = All-from_get_or (λ x. x < facts) a.body 0 (λ i h. bodies r i stands h) in
        let whole : map floor a.body ≡ map floor' a.body = map_agree floor floor' facts floors a.body named in
        record {
          floors =
              sym (ap₂ (λ v ws. m.leb v (m.join a.effort (joined m ws))) (floors a.head (heads r stands)) whole) ∙ k.floors;
          rests = λ i h.
              let others : map floor (without a.body i) ≡ map floor' (without a.body i) =
              map_agree floor floor' facts floors (without a.body i) (all_without _ a.body i named) in
              sym (ap₂ (λ v w. m.leb v w) (rests _ (bodies r i stands h))
              (ap₂ (λ ws w. m.join (m.join a.effort (joined m ws)) w) others (rests a.head (heads r stands))))
              ∙ k.rests i h;
        };
  }
