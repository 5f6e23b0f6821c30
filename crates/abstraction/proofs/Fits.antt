-- The map guide over columns that were made fits.
use Rattle.std.proofs.Common.{◌≡◌, ℕ, ◌<◌, true, false, not, ◌&&◌, ltb, List, [], ◌∷◌, map, length, get_or, sym, refl, ap, ◌∙◌, subst, ap₂, inl, inr, arith}
use lib.ListN.{length-map}
use Rattle.std.specs.List.{AllByRecursion}
use Rattle.std.proofs.ByRecursion.{All-from_get_or}
use Rattle.std.proofs.lemmas.List.{get_or-map, get_or_default}
use Rattle.std.proofs.lemmas.Bool.{both_ways, cases_Bool, cond-true, cond-false, and_from, lt-ltb, not-true, not_from_false}
use Rattle.measure.specs.Ops.{Ops, Laws}
use Rattle.derivation.specs.Rules.{Rule, rule_at, Standing}
use Rattle.derivation.specs.Joins.{joined, without}
use Rattle.derivation.specs.Trees.{Derivable}
use Rattle.derivation.specs.Fit.{beside}
use Rattle.derivation.specs.Search.{survey, is_closed}
use Rattle.derivation.specs.Contexts.{Move, Chain, chain_weight, surveyed}
use Rattle.derivation.specs.Maps.{fold_rule, fold_rules, group_floor, group_rest, LeastChain}
use Rattle.derivation.proofs.Answered.{lightest_unique}
use Rattle.derivation.proofs.Chains.{least_chain_is}
use Rattle.derivation.proofs.MapGuide.{folded_at, map_fits}
use Rattle.derivation.proofs.Named.{all_without, map_agree, fit_below}
use Rattle.derivation.proofs.Surveys.{surveyed_at}
use Rattle.guide.specs.Map.{by_group}
use Rattle.abstraction.specs.Fold.{group_of}
use Rattle.abstraction.specs.Made.{Made, MadeFits}

-- what a chain weighs depends only on the floors of the facts that standing rules name
module _ {W : Type 0} (m : Ops W) (rules : List (Rule W)) (n : ℕ) (floor floor' : ℕ → W)
    (bodies : (r i : ℕ) → Standing m rules r → i < length (rule_at m rules r).body → get_or (rule_at m rules r).body i 0 < n)
    (same : (k : ℕ) → k < n → floor k ≡ floor' k) where
  beside_same : (r i : ℕ) → Standing m rules r → beside m floor (rule_at m rules r) i ≡ beside m floor' (rule_at m rules r) i
  beside_same r i stands =
      let a = rule_at m rules r in
      let named : AllByRecursion (λ x. x < n) a.body = All-from_get_or (λ x. x < n) a.body 0 (λ j h. bodies r j stands h) in
      ap (λ ws. m.join a.effort (joined m ws)) (map_agree floor floor' n same (without a.body i) (all_without _ a.body i named))

  chain_same : (moves : List Move) (f target : ℕ) → Chain m rules moves f target → chain_weight m floor rules moves ≡ chain_weight m floor' rules moves
  chain_same [] f target c = refl
  chain_same (a ∷ moves) f target c = ap₂ m.join (beside_same a.rule a.place c.0) (chain_same moves _ target c.3)

  pub least_same : (target f : ℕ) (w : W) → LeastChain m floor rules target f w → LeastChain m floor' rules target f w
  least_same target f w l = record {
    least = λ moves c. subst (λ x. m.leb w x ≡ true) (chain_same moves f target c) (l.least moves c);
    attained = λ moves c. let b = l.attained moves c in (b.0, b.1, sym (chain_same b.0 f target b.1) ∙ b.2);
    absent = l.absent;
  }

-- a folded rule that stands
module _ {W : Type 0} (m : Ops W) (group : ℕ → ℕ) where
  fold_stands : (a : Rule W) → not (fold_rule group a).struck ≡ true → a.struck ≡ false
  fold_stands a h =
      elim (cases_Bool a.struck) [
        | inl s ↦ absurd (both_ways _ (not-true _ h) (ap (λ (x : Rule W). x.struck) (cond-true a.struck a _ s) ∙ s))
        | inr s ↦ s
      ]

  fold_body : (a : Rule W) → a.struck ≡ false → (fold_rule group a).body ≡ map group a.body
  fold_body a s = ap (λ (x : Rule W). x.body) (cond-false a.struck a _ s)

  module _ (rules : List (Rule W)) (facts n : ℕ) (grouped : (f : ℕ) → f < facts → group f < n)
      (bodies : (r i : ℕ) → Standing m rules r → i < length (rule_at m rules r).body → get_or (rule_at m rules r).body i 0 < facts) where
    pub folded_bodies : (r i : ℕ) → Standing m (fold_rules group rules) r → i < length (rule_at m (fold_rules group rules) r).body
        → get_or (rule_at m (fold_rules group rules) r).body i 0 < n
    folded_bodies r i stands h =
        let a = rule_at m rules r in
        let s = fold_stands a (subst (λ (x : Rule W). not x.struck ≡ true) (folded_at m group rules r) stands) in
        let e : (rule_at m (fold_rules group rules) r).body ≡ map group a.body =
        ap (λ (x : Rule W). x.body) (folded_at m group rules r) ∙ fold_body a s in
        let l : i < length a.body = omega (arith, ap length e, length-map a.body group) in
        let b = grouped (get_or a.body i 0) (bodies r i (not_from_false _ s) l) in
        subst (λ x. x < n) (sym (ap (λ xs. get_or xs i 0) e ∙ get_or-map group a.body i 0 0 l)) b

-- the entry of a group that both columns have
by_group_at : {W V : Type 0} (m : Ops W) (groups : List ℕ) (column : List W) (beside : List V) (f : ℕ)
    → f < length groups → group_of groups f < length column → group_of groups f < length beside
    → by_group m groups column beside f ≡ get_or column (group_of groups f) m.heaviest
by_group_at m groups column beside f h k l =
    let g = group_of groups f in
    cond-true (ltb f (length groups)) _ _ (lt-ltb f (length groups) h)
    ∙ cond-true (ltb g (length column) && ltb g (length beside)) _ _ (and_from _ _ (lt-ltb g (length column) k) (lt-ltb g (length beside) l))
    ∙ get_or_default column g m.nothing m.heaviest k

module _ {W : Type 0} {m : Ops W} (laws : Laws m) (rules : List (Rule W)) (facts target : ℕ) (groups : List ℕ) (n : ℕ) (floors rests : List W)
    (made : Made m rules facts target groups n floors rests) where
  abbrev group : ℕ → ℕ
  group = group_of groups

  abbrev folded : List (Rule W)
  folded = fold_rules group rules

  floor_is : (g : ℕ) → g < n → get_or floors g m.heaviest ≡ surveyed m folded g
  unfolding surveyed
  floor_is g l =
      let q = surveyed_at laws folded g in
      elim (cases_Bool (is_closed (survey m folded).closed g)) [
        | inl h ↦ lightest_unique laws folded g _ _ (made.lightest g l (q.derivable h)) (q.lightest (q.derivable h))
        | inr h ↦
            let never : Derivable m folded g → ⊥ = λ d. both_ways _ h (q.closed d) in
            made.absent g l never ∙ sym (q.absent never)
      ]

  module _ (bodies : (r i : ℕ) → Standing m rules r → i < length (rule_at m rules r).body → get_or (rule_at m rules r).body i 0 < facts) where
    rest_is : (g : ℕ) → g < n → get_or rests g m.heaviest ≡ group_rest m rules group target g
    rest_is g l =
        least_chain_is laws (surveyed m folded) folded (group target) g _
        (least_same m folded n (λ k. get_or floors k m.heaviest) (surveyed m folded) (folded_bodies m group rules facts n made.grouped bodies) floor_is (group target) g _ (made.least g l))

  in_map : (f : ℕ) → f < facts → f < length groups
  in_map f l = omega (arith, made.mapped)

  in_floors : (f : ℕ) → f < facts → group f < length floors
  in_floors f l = omega (arith, made.grouped f l, made.floors_long)

  in_rests : (f : ℕ) → f < facts → group f < length rests
  in_rests f l = omega (arith, made.grouped f l, made.rests_long)

module _ {W : Type 0} {m : Ops W} (laws : Laws m) where
  pub made_fits : MadeFits m
  made_fits rules facts target groups n floors rests heads bodies low made =
      let g = group_of groups in
      let inside = in_map laws rules facts target groups n floors rests made in
      let low_floors = in_floors laws rules facts target groups n floors rests made in
      let low_rests = in_rests laws rules facts target groups n floors rests made in
      fit_below m rules (λ f. group_floor m rules g (g f)) (λ f. group_rest m rules g target (g f)) _ _ target facts heads bodies low
      (λ f l. sym (by_group_at m groups floors rests f (inside f l) (low_floors f l) (low_rests f l) ∙ floor_is laws rules facts target groups n floors rests made (g f) (made.grouped f l)))
      (λ f l. sym (by_group_at m groups rests floors f (inside f l) (low_rests f l) (low_floors f l) ∙ rest_is laws rules facts target groups n floors rests made bodies (g f) (made.grouped f l)))
      (map_fits laws rules g target)
