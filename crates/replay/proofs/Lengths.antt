-- A search leaves each column as long as it was.
use Rattle.std.proofs.Common.{◌≡◌, ℕ, zero, suc, ◌≤◌, Bool, true, false, cond, List, [], ◌∷◌, ◌++◌, length, drop, Some, None, Option, sym, refl, ap, ◌∙◌, inl, inr, arith, length-append, length-drop}
use Rattle.std.proofs.lemmas.List.{length-reverse}
use Rattle.std.proofs.lemmas.List.FromFn.{length-map-range_with_len}
use Rattle.std.proofs.lemmas.Bool.{and_parts, both_ways, cases_Bool, leb-true}
use Rattle.measure.specs.Ops.{Ops, Laws}
use Rattle.sheet.specs.Slots.{Slot}
use Rattle.sheet.specs.Refusals.{Answer, accepted, refused}
use Rattle.derivation.specs.Rules.{Rule, rule_at}
use Rattle.derivation.specs.Search.{Closed, State, among, closed_count, taken_count}
use Rattle.derivation.specs.Line.{unwound}
use Rattle.derivation.specs.Theorems.{count_below}
use Rattle.guide.specs.Weighted.{weighted}
use Rattle.search.specs.declared.columns.Columns.{Columns}
use Rattle.search.specs.declared.columns.Found.{Found}
use Rattle.search.specs.Answered.{column, long_enough, search_answer, told_found, end, end_line, ran}
use Rattle.search.specs.Left.{weights_left, reasons_left, line_left, Scratch}
use Rattle.search.specs.Promise.{closed_in, Promise}
use Rattle.search.proofs.Promised.{passed}
use Rattle.replay.specs.Run.{lengths_of}

count_below_all : (p : ℕ → Bool) (n : ℕ) → count_below p n ≤ n
count_below_all p zero = omega arith
count_below_all p (suc n) =
    let k = count_below_all p n in
    elim (cases_Bool (p n)) [
      | inl e ↦ rw e (omega (arith, k))
      | inr e ↦ rw e (omega (arith, k))
    ]

-- a line has at most one rule of each fact that is closed
unwound_all : {W : Type 0} (m : Ops W) (rules : List (Rule W)) (cs : List (Closed W)) (needed : List ℕ) → length (unwound m rules cs needed) ≤ length cs
unwound_all m rules [] needed = omega arith
unwound_all m rules (c ∷ cs) needed =
    elim (cases_Bool (among needed c.fact)) [
      | inl e ↦ let k = unwound_all m rules cs ((rule_at m rules c.rule).body ++ needed) in rw e (omega (arith, k))
      | inr e ↦ let k = unwound_all m rules cs needed in rw e (omega (arith, k))
    ]

module _ {W : Type 0} {m : Ops W} (laws : Laws m) (floor rest : ℕ → W) (xs : List Slot) (facts target : ℕ) (a : Answer (Found W)) (before left : Columns W)
    (is : a ≡ search_answer m floor rest xs facts target (long_enough facts (length xs) (length before.weights.now) (length before.reasons.now) (length before.line.now) (length before.queue.now) (length before.work.now)))
    (p : Promise m rest xs facts target a left.weights.now left.reasons.now left.line.now) where
  enough : (b l : Bool) (x : Answer (Found W)) → a ≡ cond b (cond l x (refused 11 [])) (refused 10 []) → ran a ≡ true → l ≡ true
  enough true true x e r = refl
  enough true false x e r = absurd (both_ways _ (ap ran e) r)
  enough false l x e r = absurd (both_ways _ (ap ran e) r)

  -- a search that ran has columns as long as the fact count
  record Long : Type 0 where
    pub weights : facts ≤ length before.weights.now
    pub reasons : facts ≤ length before.reasons.now
    pub line : facts ≤ length before.line.now

  ran_long : ran a ≡ true → Long
  unfolding search_answer
  ran_long r =
      let p = and_parts _ _ (enough _ _ _ is r) in
      let q = and_parts _ _ p.1 in
      record { weights = leb-true _ _ p.0; reasons = leb-true _ _ q.0; line = leb-true _ _ (and_parts _ _ q.1).0 }

  column_kept : {A : Type 0} (f : ℕ → A) (ws : List A) → (ran a ≡ true → facts ≤ length ws) → length (cond (ran a) (column f facts ++ drop facts ws) ws) ≡ length ws
  column_kept f ws h =
      elim (cases_Bool (ran a)) [
        | inl r ↦ rw r (omega (arith, h r, length-append (column f facts) (drop facts ws), length-map-range_with_len f 0 facts, length-drop facts ws))
        | inr r ↦ rw r refl
      ]

  told_closed : (l : List ℕ) (s : State W) (o : Option W) (f : Found W) → accepted f ≡ told_found l s o → f.closed ≡ closed_count s
  told_closed l s None f e = let z : ◌≡◌ {A = ℕ} 0 1 = cc in absurd (omega arith)
  told_closed l s (Some w) f e = let z : f ≡ record { weight = w; closed = closed_count s; taken = taken_count s; line = length l } = cc in ap (λ (g : Found W). g.closed) z

  line_short : (f : Found W) → a ≡ accepted f → length (end_line m rest xs target) ≤ facts
  line_short f e =
      let s = end m rest xs target in
      let k = unwound_all m (weighted m xs) s.closed (target ∷ []) in
      let r = length-reverse (unwound m (weighted m xs) s.closed (target ∷ [])) in
      let c = told_closed _ _ _ f (sym e ∙ (passed laws floor rest xs facts target a _ is (ap ran e)).told) in
      let n = count_below_all (closed_in xs facts left.reasons.now) facts in
      omega (arith, k, r, c, n, (p.found f e).counts)

  line_kept : (b : Answer (Found W)) → a ≡ b → length (line_left m rest xs facts target b before.line.now) ≡ length before.line.now
  line_kept (refused n vs) e = refl
  line_kept (accepted f) e =
      let l = before.line.now in
      let d = end_line m rest xs target in
      omega (arith, (ran_long (ap ran e)).line, line_short f e, length-append d (drop (length d) l), length-drop (length d) l)

  pub lengths_kept : left.weights.now ≡ weights_left m rest xs facts target a before.weights.now → left.reasons.now ≡ reasons_left m rest xs facts target a before.reasons.now
      → left.line.now ≡ line_left m rest xs facts target a before.line.now → {b : Bool} {n k : ℕ} → Scratch b n before.queue.now left.queue.now → Scratch b k before.work.now left.work.now
      → lengths_of left ≡ lengths_of before
  lengths_kept we re li q w =
      let e : length left.weights.now ≡ length before.weights.now = ap length we ∙ column_kept _ _ (λ r. (ran_long r).weights) in
      let f : length left.reasons.now ≡ length before.reasons.now = ap length re ∙ column_kept _ _ (λ r. (ran_long r).reasons) in
      let g : length left.line.now ≡ length before.line.now = ap length li ∙ line_kept a refl in
      rw (e, f, g, q.long, w.long)
