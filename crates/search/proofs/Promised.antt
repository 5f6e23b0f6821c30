-- The promise follows from the definition and the theory.
use Rattle.std.proofs.Common.{◌≡◌, ℕ, ◌<◌, ◌≤◌, Bool, true, false, cond, ◌&&◌, ltb, List, [], ◌++◌, length, get_or, take, drop, Some, None, Option, sym, refl, ap, ◌∙◌, subst, inl, inr, arith}
use Rattle.std.proofs.lemmas.List.FromFn.{length-map-range_with_len, get_or-map-range_with_len}
use Rattle.std.proofs.lemmas.List.{get_or_append_left, take_at}
use Rattle.std.proofs.lemmas.Bool.{cases_lt, both_ways, lt-ltb, le-ltb, cond-true, not-true}
use Rattle.measure.specs.Ops.{Ops, Laws}
use Rattle.sheet.specs.Slots.{Slot}
use Rattle.sheet.specs.Refusals.{Answer, accepted, refused, Told, after}
use Rattle.sheet.specs.Slots.{passes, rule_at}
use Rattle.sheet.proofs.Within.{passes_at, within_parts}
use Rattle.derivation.specs.Rules as theory
use Rattle.derivation.specs.Trees.{Tree, node, Derives, Lightest}
use Rattle.derivation.specs.Fit.{Verdict, fits, target_fails, rule_fails, Fit, check_fit}
use Rattle.derivation.specs.Search.{State, is_closed, no_reason, answer, closed_count, taken_count, weight_of, reason_of}
use Rattle.derivation.specs.Theorems.{OptimalAt, ExactAt, count_below}
use Rattle.derivation.proofs.Answered.{optimal}
use Rattle.derivation.proofs.Checked.{decided_at}
use Rattle.derivation.proofs.Counts.{count_same}
use Rattle.derivation.proofs.Explored.{exact_at}
use Rattle.derivation.proofs.Invariant.{standing_under}
use Rattle.derivation.proofs.Surveys.{surveyed_at}
use Rattle.guide.specs.Fit.{fit_answer}
use Rattle.guide.specs.Weighted.{weighted}
use Rattle.search.specs.declared.columns.Found.{Found}
use Rattle.search.specs.Shown.{outcome}
use Rattle.search.specs.Answered.{column, told_found, checked, end, end_line, search_answer, ran}
use Rattle.search.specs.Left.{weights_left, reasons_left, line_left}
use Rattle.search.specs.Promise.{closed_in, Kept, Promise}
use Rattle.search.specs.PromiseOver.{closed_among, KeptOver, PromiseOver}
use Rattle.search.specs.Surveyed.{explored, Floors}
use Rattle.search.proofs.Matching.{head_is, struck_is, length_weighted}

pub column_at : {A : Type 0} (f : ℕ → A) (n k : ℕ) (d : A) (xs : List A) → k < n → get_or (column f n ++ xs) k d ≡ f k
column_at f n k d xs h =
    get_or_append_left (column f n) xs d k (let e = length-map-range_with_len f 0 n in omega (arith, e, h))
    ∙ get_or-map-range_with_len f 0 n k k d h (omega arith)

module _ {W : Type 0} {m : Ops W} (laws : Laws m) (floor rest : ℕ → W) (xs : List Slot) (facts target : ℕ) where
  abbrev s : State W
  s = end m rest xs target

  abbrev rules : List (theory.Rule W)
  rules = weighted m xs

  -- a search that ran passed all tests
  pub record Passed (a : Answer (Found W)) : Type 0 where
    pub fit : Fit m floor rest rules target
    pub told : a ≡ told_found (end_line m rest xs target) s (answer m target s)

  tests : (a : Answer (Found W)) (b long : Bool) (v : Verdict) → check_fit m floor rest rules target ≡ v
      → a ≡ cond b (cond long (checked (fit_answer v target) (told_found (end_line m rest xs target) s (answer m target s))) (refused 11 [])) (refused 10 [])
      → ran a ≡ true → Passed a
  tests a true true fits v e r = record { fit = (decided_at laws rules floor rest target).passes v; told = e }
  tests a true true target_fails v e r = absurd (both_ways _ (ap ran e) r)
  tests a true true (rule_fails n) v e r = absurd (both_ways _ (ap ran e) r)
  tests a true false v q e r = absurd (both_ways _ (ap ran e) r)
  tests a false long v q e r = absurd (both_ways _ (ap ran e) r)

  pub passed : (a : Answer (Found W)) (long : Bool) → a ≡ search_answer m floor rest xs facts target long → ran a ≡ true → Passed a
  unfolding search_answer
  passed a long e r = tests a (ltb target facts) long (check_fit m floor rest rules target) refl e r

  module _ (within : passes facts xs ≡ true) (few : length xs ≤ 16000) (fit : Fit m floor rest rules target) where
    heads_under : (r : ℕ) → theory.Standing m rules r → (theory.rule_at m rules r).head < facts
    heads_under r h =
        let u : r < length xs = let z = standing_under m rules r h in omega (arith, z, length_weighted m xs) in
        let q : (rule_at xs r).struck ≡ false = sym (struck_is m xs r) ∙ not-true _ h in
        let p = (within_parts facts (rule_at xs r) (passes_at facts xs r within u).1 q).0 in
        omega (arith, p, head_is m xs r)

    exact : ExactAt m rules rest target facts s
    unfolding outcome
    exact = exact_at laws rules floor rest target facts fit heads_under (let z = length_weighted m xs in omega (arith, z, few))

    best : OptimalAt m rules target s
    unfolding outcome
    best = optimal laws rules floor rest target fit

    closed_under : (k : ℕ) → is_closed s.closed k ≡ true → k < facts
    closed_under k h = root (exact.lightest k h)
      where
        root : Lightest m rules k (weight_of m s k) → k < facts
        root l = below l.0 l.1
          where
            below : (t : Tree) → Derives m rules t k → k < facts
            below (node r ts) d = let z = heads_under r d.0 in omega (arith, z, d.1)

    module _ (reasons reasons₀ : List ℕ) (is : reasons ≡ column (reason_of s) facts ++ drop facts reasons₀) where
      closed_is : (k : ℕ) → closed_among (length rules) facts reasons k ≡ is_closed s.closed k
      closed_is k =
          elim (cases_lt k facts) [
            | inl h ↦ (
                let e : get_or reasons k no_reason ≡ reason_of s k = ap (λ l. get_or l k no_reason) is ∙ column_at (reason_of s) facts k no_reason (drop facts reasons₀) h in
                rw (lt-ltb k facts h, e) (exact.reasons k))
            | inr h ↦ rw (le-ltb k facts h) (sym (open_above k h (is_closed s.closed k) refl))
          ]
        where
          open_above : (k : ℕ) → facts ≤ k → (b : Bool) → is_closed s.closed k ≡ b → is_closed s.closed k ≡ false
          open_above k h true e = absurd (let z = closed_under k e in omega (arith, z, h))
          open_above k h false e = e

      closed_counted : closed_count s ≡ count_below (closed_among (length rules) facts reasons) facts
      closed_counted = exact.counted ∙ count_same _ _ (λ k. exact.reasons k ∙ sym (closed_is k)) facts

      -- all that is promised of a target that was found
      module _ (weights weights₀ : List W) (line line₀ : List ℕ) (f : Found W)
          (weights_are : weights ≡ column (weight_of m s) facts ++ drop facts weights₀)
          (line_is : line ≡ end_line m rest xs target ++ drop (length (end_line m rest xs target)) line₀)
          (found : answer m target s ≡ Some f.weight) (closed : f.closed ≡ closed_count s) (long : f.line ≡ length (end_line m rest xs target)) where
        drawn : take f.line line ≡ end_line m rest xs target
        drawn = ap (take f.line) line_is ∙ take_at (end_line m rest xs target) _ f.line (sym long)

        pub kept : KeptOver m rest rules facts target weights reasons line f
        kept = record {
          derives = rw drawn (best.derives f.weight found);
          weighs = rw drawn (best.weighs f.weight found);
          lightest = best.lightest f.weight found;
          closes = λ k t d h. closed_is k ∙ exact.complete f.weight found k t d h;
          spares = λ k w h l. exact.sharp f.weight found k w (sym (closed_is k) ∙ h) l;
          each = λ k h.
              let c = sym (closed_is k) ∙ h in
              subst (Lightest m rules k) (sym (ap (λ l. get_or l k m.heaviest) weights_are ∙ column_at (weight_of m s) facts k m.heaviest (drop facts weights₀) (closed_under k c)))
              (exact.lightest k c);
          counts = closed ∙ closed_counted;
        }

  -- an answer that tells the end of the search
  module _ (a : Answer (Found W)) where
    told_none : (o : Option W) → a ≡ told_found (end_line m rest xs target) s o → (vs : List Told) → a ≡ refused 14 vs → o ≡ None
    told_none None e vs q = refl
    told_none (Some w) e vs q = let z : ◌≡◌ {A = ℕ} 0 1 = cc in absurd (omega arith)

    told_some : (o : Option W) → a ≡ told_found (end_line m rest xs target) s o → (f : Found W) → a ≡ accepted f
        → (o ≡ Some f.weight) × (f.closed ≡ closed_count s) × (f.line ≡ length (end_line m rest xs target))
    told_some None e f q = let z : ◌≡◌ {A = ℕ} 0 1 = cc in absurd (omega arith)
    told_some (Some w) e f q =
        let z : record { weight = w; closed = closed_count s; taken = taken_count s; line = length (end_line m rest xs target) } ≡ f = cc in
        (ap (λ (y : Found W). Some y.weight) z, ap (λ (y : Found W). y.closed) (sym z), ap (λ (y : Found W). y.line) (sym z))

    told_in : (o : Option W) → a ≡ told_found (end_line m rest xs target) s o → (o ≡ None → ⊥) → (f : Found W) × (a ≡ accepted f)
    told_in None e h = absurd (h refl)
    told_in (Some w) e h = (record { weight = w; closed = closed_count s; taken = taken_count s; line = length (end_line m rest xs target) }, e)

  accepted_ran : (a : Answer (Found W)) (f : Found W) → a ≡ accepted f → ran a ≡ true
  accepted_ran a f e = ap ran e

  pub promised_over : passes facts xs ≡ true → length xs ≤ 16000 → (a : Answer (Found W)) (long : Bool) → a ≡ search_answer m floor rest xs facts target long
      → (weights weights₀ : List W) (reasons reasons₀ line line₀ : List ℕ)
      → weights ≡ weights_left m rest xs facts target a weights₀ → reasons ≡ reasons_left m rest xs facts target a reasons₀ → line ≡ line_left m rest xs facts target a line₀
      → PromiseOver m rest rules facts target a weights reasons line
  promised_over within few a long e weights weights₀ reasons reasons₀ line line₀ we re li = record {
    out_of_reach = λ vs q d.
        let p = passed a long e (ap ran q) in
        (best within few p.fit).unreached (told_none a _ p.told vs q) d;
    in_reach = λ r d.
        let p = passed a long e r in
        told_in a _ p.told (λ n. (best within few p.fit).unreached n d);
    found = λ f q.
        let r = accepted_ran a f q in
        let p = passed a long e r in
        let t = told_some a _ p.told f q in
        kept within few p.fit reasons reasons₀ (re ∙ cond-true (ran a) _ _ r) weights weights₀ line line₀ f
        (we ∙ cond-true (ran a) _ _ r)
        (li ∙ ap (λ z. after z (λ _. end_line m rest xs target ++ drop (length (end_line m rest xs target)) line₀) line₀) q)
        t.0 t.1 t.2;
  }

  -- the same over the rules of a sheet
  closed_same : (reasons : List ℕ) (k : ℕ) → closed_in xs facts reasons k ≡ closed_among (length rules) facts reasons k
  closed_same reasons k = ap (λ (n : ℕ). ltb k facts && ltb (get_or reasons k no_reason) n) (sym (length_weighted m xs))

  kept_of : (weights : List W) (reasons line : List ℕ) (f : Found W) → KeptOver m rest rules facts target weights reasons line f
      → Kept m rest xs facts target weights reasons line f
  kept_of weights reasons line f k = record {
    derives = k.derives;
    weighs = k.weighs;
    lightest = k.lightest;
    closes = λ n t d h. closed_same reasons n ∙ k.closes n t d h;
    spares = λ n w h l. k.spares n w (sym (closed_same reasons n) ∙ h) l;
    each = λ n h. k.each n (sym (closed_same reasons n) ∙ h);
    counts = k.counts ∙ sym (count_same _ _ (closed_same reasons) facts);
  }

  pub promise_of : (a : Answer (Found W)) (weights : List W) (reasons line : List ℕ) → PromiseOver m rest rules facts target a weights reasons line
      → Promise m rest xs facts target a weights reasons line
  promise_of a weights reasons line p = record {
    out_of_reach = p.out_of_reach;
    in_reach = p.in_reach;
    found = λ f e. kept_of weights reasons line f (p.found f e);
  }

  -- all that a search promises follows from what it answers and leaves
  pub promised : passes facts xs ≡ true → length xs ≤ 16000 → (a : Answer (Found W)) (long : Bool) → a ≡ search_answer m floor rest xs facts target long
      → (weights weights₀ : List W) (reasons reasons₀ line line₀ : List ℕ)
      → weights ≡ weights_left m rest xs facts target a weights₀ → reasons ≡ reasons_left m rest xs facts target a reasons₀ → line ≡ line_left m rest xs facts target a line₀
      → Promise m rest xs facts target a weights reasons line
  promised within few a long e weights weights₀ reasons reasons₀ line line₀ we re li =
      promise_of a weights reasons line (promised_over within few a long e weights weights₀ reasons reasons₀ line line₀ we re li)

-- a search that did not run promises nothing
pub promise_of_refusal : {W : Type 0} (m : Ops W) (rest : ℕ → W) (xs : List Slot) (facts target : ℕ) (a : Answer (Found W)) (weights : List W) (reasons line : List ℕ)
    → ran a ≡ false → Promise m rest xs facts target a weights reasons line
promise_of_refusal m rest xs facts target a weights reasons line h = record {
  out_of_reach = λ vs e d. both_ways _ h (ap ran e);
  in_reach = λ r d. absurd (both_ways _ h r);
  found = λ f e. absurd (both_ways _ h (ap ran e));
}

-- What a survey leaves, in the words of derivations.
module _ {W : Type 0} {m : Ops W} (laws : Laws m) (xs : List Slot) (facts : ℕ) (weights weights₀ : List W)
    (is : weights ≡ column (weight_of m (explored m xs)) facts ++ drop facts weights₀) where
  weight_here : (k : ℕ) → k < facts → get_or weights k m.heaviest ≡ weight_of m (explored m xs) k
  weight_here k h = ap (λ l. get_or l k m.heaviest) is ∙ column_at (weight_of m (explored m xs)) facts k m.heaviest (drop facts weights₀) h

  pub floors : Floors m xs facts weights
  unfolding outcome
  floors = record {
    lightest = λ k h d. subst (Lightest m (weighted m xs) k) (sym (weight_here k h)) ((surveyed_at laws (weighted m xs) k).lightest d);
    absent = λ k h n. weight_here k h ∙ (surveyed_at laws (weighted m xs) k).absent n;
  }
