-- A guide made from a map fits.
use Rattle.std.proofs.Common.{◌≡◌, ℕ, zero, suc, ◌<◌, true, false, not, List, [], ◌∷◌, map, length, get_or, sym, refl, ap, ◌∙◌, subst, ap₂, inl, inr, arith}
use Rattle.std.proofs.lemmas.List.{get_or-map, length-map}
use Rattle.std.proofs.lemmas.Bool.{both_ways, cases_Bool, and_parts, and_cases, cond-false, not-true}
use Rattle.measure.specs.Ops.{Ops, Laws}
use Rattle.derivation.specs.Rules.{Rule, rule_at, Standing}
use Rattle.derivation.specs.Joins.{joined, without}
use Rattle.derivation.specs.Trees.{node, Trees, leaf, branch, Derives, DeriveAll, weights}
use Rattle.derivation.specs.Fit.{floor_kept, beside, rest_kept}
use Rattle.derivation.specs.Search.{survey, is_closed, all_closed}
use Rattle.derivation.specs.Contexts.{move_rule, move_rules, context_rules, surveyed, context}
use Rattle.derivation.specs.Maps.{fold_rule, fold_rules, MapFits}
use Rattle.derivation.proofs.Weights.{part_left, part_right, map_without}
use Rattle.derivation.proofs.Surveys.{surveyed_at, weight_absent}
use Rattle.derivation.proofs.Moves.{move_number}
use Rattle.derivation.proofs.Chains.{context_target, join_nothing}

-- surveyed weights keep the condition on floors
module _ {W : Type 0} {m : Ops W} (laws : Laws m) (rules : List (Rule W)) where
  body_trees : (fs : List ℕ) → all_closed (survey m rules).closed fs ≡ true
      → (ts : Trees) × DeriveAll m rules ts fs × (weights m rules ts ≡ map (surveyed m rules) fs)
  unfolding surveyed
  body_trees [] h = (leaf, tt, refl)
  body_trees (f ∷ fs) h =
      let p = and_parts (is_closed (survey m rules).closed f) (all_closed (survey m rules).closed fs) h in
      let q = surveyed_at laws rules f in
      let l = q.lightest (q.derivable p.0) in
      let more = body_trees fs p.1 in
      (branch l.0 more.0, (l.1, more.1), ap₂ ◌∷◌ l.2 more.2)

  -- one fact that is not derivable makes the join heaviest
  heaviest_below : (fs : List ℕ) → all_closed (survey m rules).closed fs ≡ false → m.leb m.heaviest (joined m (map (surveyed m rules) fs)) ≡ true
  unfolding surveyed
  heaviest_below [] h = absurd (both_ways true h refl)
  heaviest_below (f ∷ fs) h =
      elim (and_cases (is_closed (survey m rules).closed f) (all_closed (survey m rules).closed fs) h) [
        | inl e ↦ rw (weight_absent m (survey m rules).closed f e) (part_left laws m.heaviest _)
        | inr e ↦ laws.trans _ _ _ (heaviest_below fs e) (part_right laws _ _)
      ]

  reachable : (r : ℕ) → Standing m rules r → all_closed (survey m rules).closed (rule_at m rules r).body ≡ true
      → floor_kept m (surveyed m rules) (rule_at m rules r) ≡ true
  unfolding surveyed
  reachable r stands whole =
      let a = rule_at m rules r in
      let q = body_trees a.body whole in
      let t = node r q.0 in
      let d : Derives m rules t a.head = (stands, refl, q.1) in
      let l = (surveyed_at laws rules a.head).lightest (t, d) in
      subst (λ ws. m.leb (surveyed m rules a.head) (m.join a.effort (joined m ws)) ≡ true) q.2 (l.3 t d)

  pub survey_keeps : (r : ℕ) → Standing m rules r → floor_kept m (surveyed m rules) (rule_at m rules r) ≡ true
  survey_keeps r stands =
      elim (cases_Bool (all_closed (survey m rules).closed (rule_at m rules r).body)) [
        | inl whole ↦ reachable r stands whole
        | inr missing ↦
            laws.trans _ _ _ (laws.most _) (laws.trans _ _ _ (heaviest_below (rule_at m rules r).body missing) (part_right laws _ _))
      ]

map_map : {A B C : Type 0} (f : B → C) (g : A → B) (xs : List A) → map f (map g xs) ≡ map (λ x. f (g x)) xs
map_map f g [] = refl
map_map f g (x ∷ xs) = ap (λ ys. f (g x) ∷ ys) (map_map f g xs)

pub folded_at : {W : Type 0} (m : Ops W) (group : ℕ → ℕ) (rules : List (Rule W)) (r : ℕ)
    → rule_at m (fold_rules group rules) r ≡ fold_rule group (rule_at m rules r)
folded_at m group [] r = refl
folded_at m group (a ∷ rules) zero = refl
folded_at m group (a ∷ rules) (suc r) = folded_at m group rules r

module _ {W : Type 0} {m : Ops W} (laws : Laws m) (rules : List (Rule W)) (group : ℕ → ℕ) (target : ℕ) where
  abbrev folded : List (Rule W)
  folded = fold_rules group rules

  abbrev lowest : ℕ → W
  lowest = surveyed m folded

  -- a standing rule over groups
  abbrev grouped : ℕ → Rule W
  grouped r =
      let a = rule_at m rules r in
      record { head = group a.head; body = map group a.body; effort = a.effort; struck = false }

  grouped_at : (r : ℕ) → Standing m rules r → rule_at m folded r ≡ grouped r
  grouped_at r stands = folded_at m group rules r ∙ cond-false (rule_at m rules r).struck _ _ (not-true _ stands)

  grouped_stands : (r : ℕ) → Standing m rules r → Standing m folded r
  grouped_stands r stands = ap (λ x. not x.struck) (grouped_at r stands)

  floors_kept : (r : ℕ) → Standing m rules r → floor_kept m (λ f. lowest (group f)) (rule_at m rules r) ≡ true
  floors_kept r stands =
      let a = rule_at m rules r in
      let kept : floor_kept m lowest (grouped r) ≡ true =
      subst (λ x. floor_kept m lowest x ≡ true) (grouped_at r stands) (survey_keeps laws folded r (grouped_stands r stands)) in
      subst (λ ws. m.leb (lowest (group a.head)) (m.join a.effort (joined m ws)) ≡ true) (map_map lowest group a.body) kept

  abbrev chained : List (Rule W)
  chained = record { head = group target; body = []; effort = m.nothing; struck = false } ∷ move_rules m lowest folded

  abbrev ahead : ℕ → W
  ahead = surveyed m chained

  -- the condition at the rule of contexts for this place
  move_kept : (r i : ℕ) → Standing m rules r → i < length (rule_at m rules r).body
      → floor_kept m ahead (move_rule m lowest (grouped r) i) ≡ true
  move_kept r i stands within =
      let long : length (map group (rule_at m rules r).body) ≡ length (rule_at m rules r).body = length-map (rule_at m rules r).body group in
      let inside : i < length (rule_at m folded r).body =
      subst (λ x. i < length x.body) (sym (grouped_at r stands)) (omega arith) in
      let k = move_number m lowest folded r i (grouped_stands r stands) inside in
      let is : rule_at m chained (suc k.0) ≡ move_rule m lowest (grouped r) i =
      k.1 ∙ ap (λ x. move_rule m lowest x i) (grouped_at r stands) in
      subst (λ x. floor_kept m ahead x ≡ true) is
      (survey_keeps laws chained (suc k.0) (ap (λ x. not x.struck) is))

  rests_kept : (r i : ℕ) → Standing m rules r → i < length (rule_at m rules r).body
      → rest_kept m (λ f. lowest (group f)) (λ f. ahead (group f)) (rule_at m rules r) i ≡ true
  rests_kept r i stands within =
      let a = rule_at m rules r in
      let place : get_or (map group a.body) i 0 ≡ group (get_or a.body i 0) = get_or-map group a.body i 0 0 within in
      let floors : map lowest (without (map group a.body) i) ≡ map (λ f. lowest (group f)) (without a.body i) =
      ap (map lowest) (sym (map_without group a.body i)) ∙ map_map lowest group (without a.body i) in
      let last : m.join (beside m lowest (grouped r) i) (m.join (ahead (group a.head)) m.nothing)
      ≡ m.join (beside m (λ f. lowest (group f)) a i) (ahead (group a.head)) =
      ap (m.join _) (join_nothing laws _)
      ∙ laws.comm _ _ ∙ laws.join_norm _ _ ∙ laws.comm _ _
      ∙ ap (λ ws. m.join (m.join a.effort (joined m ws)) (ahead (group a.head))) floors in
      let kept = move_kept r i stands within in
      subst (λ x. m.leb (ahead x) (m.join (beside m (λ f. lowest (group f)) a i) (ahead (group a.head))) ≡ true) place
      (subst (λ x. m.leb (ahead (get_or (map group a.body) i 0)) x ≡ true) last kept)

module _ {W : Type 0} {m : Ops W} (laws : Laws m) where
  pub map_fits : MapFits m
  unfolding context context_rules
  map_fits rules group target = record {
    target_rest = ap m.norm (context_target laws (surveyed m (fold_rules group rules)) (fold_rules group rules) (group target)) ∙ laws.norm_nothing;
    consistent = λ r stands. record {
      floors = floors_kept laws rules group target r stands;
      rests = λ i h. rests_kept laws rules group target r i stands h;
    };
  }
