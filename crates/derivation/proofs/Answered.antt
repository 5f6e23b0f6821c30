-- The search is optimal.
use Rattle.std.proofs.Common.{◌≡◌, ℕ, Bool, true, false, List, Some, None, Option, sym, refl, ap, ◌∙◌, subst, inl, inr, arith}
use Rattle.std.proofs.lemmas.Bool.{both_ways, cases_Bool, cond-true, cond-false}
use Rattle.measure.specs.Ops.{Ops, Laws}
use Rattle.derivation.specs.Rules.{Rule}
use Rattle.derivation.specs.Trees.{Tree, node, weight, Derivable, Lightest}
use Rattle.derivation.specs.Fit.{Consistent}
use Rattle.derivation.specs.Search.{State, answer, is_closed, weight_in, reached, queued}
use Rattle.derivation.specs.Line.{line, line_tree}
use Rattle.derivation.specs.Theorems.{FloorsBelow, OptimalAt, Optimal, Agree}
use Rattle.derivation.proofs.Floors.{floor_below}
use Rattle.derivation.proofs.Frontier.{frontier}
use Rattle.derivation.proofs.Log.{Recorded, line_recorded}
use Rattle.derivation.proofs.Distinct.{distinct_line}
use Rattle.derivation.proofs.Run.{Ended, final_ended}

module _ {W : Type 0} {m : Ops W} (laws : Laws m) where
  pub floors : FloorsBelow m
  floors rules floor rest target fit f t d = floor_below laws rules floor (λ r h. (fit.consistent r h).floors) t f d

-- what an answer says of the target
module _ {W : Type 0} (m : Ops W) (t : ℕ) (s : State W) where
  pub answer_some : is_closed s.closed t ≡ true → answer m t s ≡ Some (weight_in m s.closed t)
  answer_some h = cond-true (is_closed s.closed t) _ _ h

  pub answer_none : is_closed s.closed t ≡ false → answer m t s ≡ None
  answer_none h = cond-false (is_closed s.closed t) _ _ h

  pub some_closed : (w : W) → answer m t s ≡ Some w → (is_closed s.closed t ≡ true) × (weight_in m s.closed t ≡ w)
  some_closed w e =
      elim (cases_Bool (is_closed s.closed t)) [
        | inl h ↦ let a = answer_some h in (h, cc)
        | inr h ↦ let a = answer_none h in let z : ◌≡◌ {A = ℕ} 0 1 = cc in absurd (omega arith)
      ]

  pub none_open : answer m t s ≡ None → is_closed s.closed t ≡ false
  none_open e =
      elim (cases_Bool (is_closed s.closed t)) [
        | inl h ↦ let a = answer_some h in let z : ◌≡◌ {A = ℕ} 0 1 = cc in absurd (omega arith)
        | inr h ↦ h
      ]

module _ {W : Type 0} {m : Ops W} (laws : Laws m) (rules : List (Rule W)) (floor rest : ℕ → W) (target : Option ℕ)
    (guided : Consistent m floor rest rules) (s : State W) (end : Ended laws rules floor rest target guided s) where
  -- with an empty queue, what is not closed has no derivation
  pub none_left : ((r : ℕ) → queued m rules s r ≡ false) → (f : ℕ) → is_closed s.closed f ≡ false → Derivable m rules f → ⊥
  none_left empty f away d =
      let a = frontier laws rules floor rest guided s end.sound.lightest end.sound.untaken d.0 f d.1 away in
      both_ways _ (empty a.rule) a.waits

  pub target_closed : (t : ℕ) → target ≡ Some t → Derivable m rules t → is_closed s.closed t ≡ true
  target_closed t is_t d =
      elim end.over [
        | inl h ↦ subst (λ o. reached o s ≡ true) is_t h
        | inr empty ↦ elim (cases_Bool (is_closed s.closed t)) [ inl h ↦ h | inr h ↦ absurd (none_left empty t h d) ]
      ]

  pub optimal_at : (t : ℕ) → target ≡ Some t → OptimalAt m rules t s
  optimal_at t is_t =
      let tree : (w : W) → answer m t s ≡ Some w → Recorded m rules s.closed t (line_tree m rules (line m rules s t)) =
      λ w e. line_recorded m rules s.closed end.sound.log t (some_closed m t s w e).0 in
      record {
        unreached = λ e d. both_ways _ (none_open m t s e) (target_closed t is_t d);
        underivable = λ never.
            elim (cases_Bool (is_closed s.closed t)) [
              | inl h ↦ absurd (never (_, (line_recorded m rules s.closed end.sound.log t h).derives))
              | inr h ↦ answer_none m t s h
            ];
        derives = λ w e. (tree w e).derives;
        weighs = λ w e. (tree w e).weighs ∙ (some_closed m t s w e).1;
        lightest = λ w e d derives.
            let c = some_closed m t s w e in
            subst (λ x. m.leb x (weight m rules d) ≡ true) c.1 (end.sound.lightest t c.0 d derives);
        distinct = distinct_line m rules s.closed end.sound.log t;
      }

module _ {W : Type 0} {m : Ops W} (laws : Laws m) where
  -- the weight of a tree is a weight of the measure
  pub weight_norm : (rules : List (Rule W)) (t : Tree) → m.norm (weight m rules t) ≡ weight m rules t
  weight_norm rules (node r ts) = laws.norm_join _ _

  -- a fact has one lightest weight
  pub lightest_unique : (rules : List (Rule W)) (f : ℕ) (v w : W) → Lightest m rules f v → Lightest m rules f w → v ≡ w
  lightest_unique rules f v w a b =
      let le : m.leb v w ≡ true = subst (λ x. m.leb v x ≡ true) b.2 (a.3 b.0 b.1) in
      let ge : m.leb w v ≡ true = subst (λ x. m.leb w x ≡ true) a.2 (b.3 a.0 a.1) in
      let nv : m.norm v ≡ v = subst (λ x. m.norm x ≡ x) a.2 (weight_norm rules a.0) in
      let nw : m.norm w ≡ w = subst (λ x. m.norm x ≡ x) b.2 (weight_norm rules b.0) in
      sym nv ∙ laws.antisym v w le ge ∙ nw

  pub optimal : Optimal m
  optimal rules floor rest target fit =
      optimal_at laws rules floor rest (Some target) fit.consistent _
      (final_ended laws rules floor rest (Some target) fit.consistent) target refl

  -- two states that are optimal for a target give one answer
  same_answer : (rules : List (Rule W)) (t : ℕ) (s s' : State W) → OptimalAt m rules t s → OptimalAt m rules t s'
      → (b b' : Bool) → is_closed s.closed t ≡ b → is_closed s'.closed t ≡ b' → answer m t s ≡ answer m t s'
  same_answer rules t s s' o o' true true h h' =
      let a = answer_some m t s h in
      let a' = answer_some m t s' h' in
      a ∙ ap Some (lightest_unique rules t _ _ (_, o.derives _ a, o.weighs _ a, o.lightest _ a) (_, o'.derives _ a', o'.weighs _ a', o'.lightest _ a'))
      ∙ sym a'
  same_answer rules t s s' o o' true false h h' = absurd (o'.unreached (answer_none m t s' h') (_, o.derives _ (answer_some m t s h)))
  same_answer rules t s s' o o' false true h h' = absurd (o.unreached (answer_none m t s h) (_, o'.derives _ (answer_some m t s' h')))
  same_answer rules t s s' o o' false false h h' = answer_none m t s h ∙ sym (answer_none m t s' h')

  pub agree : Agree m
  agree rules floor rest floor' rest' t fit fit' =
      same_answer rules t _ _ (optimal rules floor rest t fit) (optimal rules floor' rest' t fit') _ _ refl refl
