-- The whole promise, from the search's own promise and the rules that a list leaves.
use Rattle.std.proofs.Common.{◌≡◌, ℕ, zero, suc, ◌<◌, ◌≤◌, Bool, true, false, not, ◌&&◌, ◌||◌, eqb, ltb, List, [], ◌∷◌, ◌++◌, map, length, get_or, replicate, Some, None, Option, sym, refl, ap, ◌∙◌, subst, arith}
use lib.ListN.{length-map}
use Rattle.std.specs.List.{AllByRecursion}
use Rattle.std.proofs.lemmas.Bool.{and_from, or_from, lt-ltb, le-ltb, le-leb, ne_eqb, cond-true, cond-false}
use Rattle.measure.specs.Ops.{Ops, Laws}
use Rattle.sheet.specs.declared.rule.Rule.{Rule}
use Rattle.sheet.specs.Slots.{Slot, passes}
use Rattle.std.specs.Prelude.{None, Some}
use Rattle.sheet.specs.Refusals.{Answer, accepted, refused, verdict, Told, closed, taken}
use Rattle.sheet.specs.Rules.{Inference, body_of, read, all_below, within}
use Rattle.sheet.specs.Passing.{scan, pass_answer}
use Rattle.derivation.specs.Rules as theory
use Rattle.derivation.specs.Trees.{Derivable}
use Rattle.derivation.specs.Fit.{Fit}
use Rattle.derivation.specs.Search.{State, answer, closed_count, taken_count}
use Rattle.derivation.proofs.Answered.{lightest_unique}
use Rattle.derivation.proofs.Checked.{decided_at}
use Rattle.derivation.proofs.Guides.{heavier_fits}
use Rattle.guide.specs.Fit.{fit_answer}
use Rattle.guide.specs.Weighted.{weighted}
use Rattle.abstraction.proofs.Fits.{made_fits}
use Rattle.search.specs.declared.columns.Found.{Found}
use Rattle.search.specs.Answered.{long_enough, search_answer, checked, told_found, end, end_line, ran}
use Rattle.search.specs.PromiseOver.{PromiseOver}
use Rattle.search.proofs.Promised.{promised_over}
use Rattle.replay.specs.declared.call.Call.{Call}
use Rattle.replay.specs.Rules.{rules_after, weighing, weighted_after}
use Rattle.replay.specs.Run.{Board, Lengths, shown, found_on, searched, slots_after}
use Rattle.replay.specs.Whole.{InOrder, Same, Unedited, Whole}
use Rattle.replay.proofs.Seeking.{sought_passed}
use Rattle.replay.proofs.Tidy.{Tidy, laid, all_used, length_rules, tidy_shown, tidy_weighted, tidy_new}
use Rattle.replay.proofs.Judging.{tidy_from, unedited, rules_append}

below_all : (n : ℕ) (b : List ℕ) → ((j : ℕ) → j < length b → get_or b j 0 < n) → all_below n b ≡ true
below_all n [] h = refl
below_all n (x ∷ xs) h = and_from _ _ (lt-ltb _ _ (h 0 (omega arith))) (below_all n xs (λ j k. h (suc j) (omega arith)))

-- standing rules that name only facts below the count let a passing through
module _ {W : Type 0} (m : Ops W) (facts : ℕ) where
  within_one : (q : Rule) (b : Bool) → q.struck ≡ b → (not b ≡ true → q.head < facts) → (not b ≡ true → (j : ℕ) → j < length (body_of q) → get_or (body_of q) j 0 < facts) → within facts q ≡ true
  within_one q true e h k = ap (λ b. b || (ltb q.head facts && all_below facts (body_of q))) e
  within_one q false e h k =
      ap (λ b. b || (ltb q.head facts && all_below facts (body_of q))) e ∙ and_from _ _ (lt-ltb _ _ (h refl)) (below_all facts (body_of q) (k refl))

  within_all : (qs : List Rule)
      → ((r : ℕ) → theory.Standing m (map (weighing m) (map read qs)) r → (theory.rule_at m (map (weighing m) (map read qs)) r).head < facts)
      → ((r i : ℕ) → theory.Standing m (map (weighing m) (map read qs)) r → i < length (theory.rule_at m (map (weighing m) (map read qs)) r).body → get_or (theory.rule_at m (map (weighing m) (map read qs)) r).body i 0 < facts)
      → AllByRecursion (λ q. within facts q ≡ true) qs
  within_all [] h k = tt
  within_all (q ∷ qs) h k =
      (within_one q q.struck refl (λ e. h 0 e) (λ e j l. k 0 j e l), within_all qs (λ r s. h (suc r) s) (λ r i s l. k (suc r) i s l))

  scan_all : (qs : List Rule) (left k : ℕ) → AllByRecursion (λ q. within facts q ≡ true) qs → verdict (scan facts k (laid qs left)) ≡ accepted tt
  scan_all [] zero k a = refl
  scan_all [] (suc left) k a = refl
  scan_all (q ∷ qs) left k a = ap verdict (cond-true (within facts q) _ _ a.0) ∙ scan_all qs left (suc k) a.1

  passes_all : (qs : List Rule) → AllByRecursion (λ q. within facts q ≡ true) qs → passes facts (map Some qs) ≡ true
  passes_all [] a = refl
  passes_all (q ∷ qs) a = and_from _ _ a.0 (passes_all qs a.1)

-- a search that has passed its tests, and what it left
pub record Settled {W : Type 0} (m : Ops W) (rest : ℕ → W) (rules : List (theory.Rule W)) (facts target : ℕ) (a : Answer (Found W)) (left : Board W) : Type 0 where
  pub promise : PromiseOver m rest rules facts target a left.weights left.reasons left.line
  pub ran_it : ran a ≡ true
  pub underivable : (Derivable m rules target → ⊥) → (vs : List Told) × (a ≡ refused 14 vs)

module _ {W : Type 0} {m : Ops W} (laws : Laws m) (n : ℕ) (few : n ≤ 16000) (rs : List Inference) (b : Board W) (t : Tidy n few rs b.slots)
    (floor rest : ℕ → W) (facts target : ℕ) (long : Lengths) (o : InOrder m (map (weighing m) rs) floor rest facts target long) where
  abbrev xs : List Slot
  xs = b.slots

  abbrev rules : List (theory.Rule W)
  rules = map (weighing m) rs

  keep : AllByRecursion (λ q. within facts q ≡ true) t.records
  keep =
      within_all m facts t.records
      (subst (λ l. (r : ℕ) → theory.Standing m (map (weighing m) l) r → (theory.rule_at m (map (weighing m) l) r).head < facts) (sym t.reads) o.heads)
      (subst (λ l. (r i : ℕ) → theory.Standing m (map (weighing m) l) r → i < length (theory.rule_at m (map (weighing m) l) r).body → get_or (theory.rule_at m (map (weighing m) l) r).body i 0 < facts) (sym t.reads) o.bodies)

  goes_through : accepted tt ≡ pass_answer xs facts
  goes_through =
      sym (cond-false (eqb facts 0 || ltb 4096 facts) _ _ (or_from _ _ (ne_eqb facts 0 (λ e. let h = o.some in omega arith)) (le-ltb 4096 facts o.few))
      ∙ ap (λ l. verdict (scan facts 0 l)) (all_used n few rs xs t)
      ∙ scan_all m facts t.records t.left 0 keep)

  keeps_within : passes facts (shown xs) ≡ true
  keeps_within = ap (passes facts) (tidy_shown n few rs xs t) ∙ passes_all m facts t.records keep

  shown_length : length (shown xs) ≡ length rules
  shown_length = ap length (tidy_shown n few rs xs t) ∙ length-map t.records Some ∙ sym (length_rules n few rs xs t) ∙ sym (length-map rs (weighing m))

  shown_few : length (shown xs) ≤ 16000
  shown_few = let e = ap length (tidy_shown n few rs xs t) ∙ length-map t.records Some in omega (arith, e, t.size)

  all_long : long_enough facts (length (shown xs)) long.weights long.reasons long.line long.queue long.work ≡ true
  all_long =
      ap (λ (k : ℕ). long_enough facts k long.weights long.reasons long.line long.queue long.work) shown_length
      ∙ and_from _ _ (le-leb _ _ o.weights) (and_from _ _ (le-leb _ _ o.reasons) (and_from _ _ (le-leb _ _ o.line) (and_from _ _ (le-leb _ _ o.queue) (le-leb _ _ o.work))))

  abbrev ending : State W
  ending = end m rest (shown xs) target

  weighed : weighted m (shown xs) ≡ rules
  weighed = tidy_weighted n few rs xs t m

  runs_to : search_answer m floor rest (shown xs) facts target true ≡ told_found (end_line m rest (shown xs) target) ending (answer m target ending)
  unfolding search_answer
  runs_to =
      cond-true (ltb target facts) _ _ (lt-ltb target facts o.below)
      ∙ ap (λ v. checked (fit_answer v target) (told_found (end_line m rest (shown xs) target) ending (answer m target ending)))
      ((decided_at laws (weighted m (shown xs)) floor rest target).passed (subst (λ l. Fit m floor rest l target) (sym weighed) o.fit))

  -- the search ran
  told : found_on m long floor rest facts target b ≡ told_found (end_line m rest (shown xs) target) ending (answer m target ending)
  told = sought_passed m floor rest xs long facts target goes_through ∙ ap (search_answer m floor rest (shown xs) facts target) all_long ∙ runs_to

  told_ran : (l : List ℕ) (s : State W) (w : Option W) → ran (told_found l s w) ≡ true
  told_ran l s None = refl
  told_ran l s (Some w) = refl

  abbrev left_here : Board W
  left_here = searched m long floor rest facts target b

  kept : PromiseOver m rest rules facts target (found_on m long floor rest facts target b) left_here.weights left_here.reasons left_here.line
  kept =
      subst (λ l. PromiseOver m rest l facts target (found_on m long floor rest facts target b) left_here.weights left_here.reasons left_here.line) weighed
      (promised_over laws floor rest (shown xs) facts target keeps_within shown_few _ _ (sought_passed m floor rest xs long facts target goes_through) _ b.weights _ b.reasons _ b.line refl refl refl)

  lost : (w : Option W) → found_on m long floor rest facts target b ≡ told_found (end_line m rest (shown xs) target) ending w → (Derivable m rules target → ⊥)
      → (vs : List Told) × (found_on m long floor rest facts target b ≡ refused 14 vs)
  lost None e never = (closed (closed_count ending) ∷ taken (taken_count ending) ∷ [], e)
  lost (Some w) e never = absurd (never (_, (kept.found _ e).derives))

  pub settled : Settled m rest rules facts target (found_on m long floor rest facts target b) left_here
  settled = record {
    promise = kept;
    ran_it = ap ran told ∙ told_ran (end_line m rest (shown xs) target) ending (answer m target ending);
    underivable = lost (answer m target ending) told;
  }

-- two searches of the same rules
agree : {W : Type 0} {m : Ops W} → Laws m → (rules : List (theory.Rule W)) (rest rest₂ : ℕ → W) (facts facts₂ target : ℕ) (a b : Answer (Found W)) (left left₂ : Board W)
    → Settled m rest rules facts target a left → Settled m rest₂ rules facts₂ target b left₂ → Same a b
agree laws rules rest rest₂ facts facts₂ target a b left left₂ p q = record {
  found = λ f e.
      let k = p.promise.found f e in
      let g = q.promise.in_reach q.ran_it (_, k.derives) in
      let l = q.promise.found g.0 g.1 in
      (g.0, g.1, lightest_unique laws rules target _ _ (_, l.derives, l.weighs, l.lightest) (_, k.derives, k.weighs, k.lightest));
  lost = λ vs e. q.underivable (λ d. p.promise.out_of_reach vs e d);
}

module _ {W G : Type 0} {m : Ops W} (laws : Laws m) (n : ℕ) (few : n ≤ 16000) (calls : List (Call G)) where
  -- a later search with no accepted edit between finds a sheet of the same rules
  tidy_later : (more : List (Call G)) → Unedited n (rules_after n calls) more → Tidy n few (rules_after n calls) (slots_after n (calls ++ more))
  tidy_later more u =
      subst (λ l. Tidy n few l (slots_after n (calls ++ more))) (rules_append n [] calls more ∙ unedited n few (rules_after n calls) more u)
      (tidy_from n few [] (replicate n None) (tidy_new n few) (calls ++ more))

  module _ (b : Board W) (t : Tidy n few (rules_after n calls) b.slots) (floor rest : ℕ → W) (facts target : ℕ) (long : Lengths) (o : InOrder m (weighted_after m n calls) floor rest facts target long) where
    abbrev left_on : Board W
    left_on = searched m long floor rest facts target b

    pub whole : Whole m n calls rest facts target (found_on m long floor rest facts target b) left_on.weights left_on.reasons left_on.line
    whole =
        let s = settled laws n few (rules_after n calls) b t floor rest facts target long o in
        record {
          out_of_reach = s.promise.out_of_reach;
          underivable = s.underivable;
          in_reach = s.promise.in_reach s.ran_it;
          found = s.promise.found;
          made_fits = λ groups k floors rests. made_fits laws (weighted_after m n calls) facts target groups k floors rests o.heads o.bodies o.below;
          heavier_fits = λ floor₁ rest₁ floor₂ rest₂ f₁ f₂. heavier_fits laws (weighted_after m n calls) floor₁ rest₁ floor₂ rest₂ target f₁ f₂;
          agrees = λ more u floor₂ rest₂ facts₂ long₂ o₂.
              let later : Board W = record { slots = slots_after n (calls ++ more); weights = []; reasons = []; line = [] } in
              agree laws (weighted_after m n calls) rest rest₂ facts facts₂ target _ _ left_on _ s
              (settled laws n few (rules_after n calls) later (tidy_later more u) floor₂ rest₂ facts₂ target long₂ o₂);
        }
