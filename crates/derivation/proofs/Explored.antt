-- Which facts a search closes.
use Rattle.std.proofs.Common.{◌≡◌, ℕ, true, Some, sym, refl, ◌∙◌, subst, inl, inr}
use Rattle.std.proofs.lemmas.Bool.{both_ways, cases_Bool}
use Rattle.measure.specs.Ops.{Ops, Laws}
use Rattle.derivation.specs.Trees.{weight}
use Rattle.derivation.specs.Search.{final, is_closed, weight_in}
use Rattle.derivation.specs.Theorems.{Exact}
use Rattle.derivation.proofs.Log.{Recorded, line_recorded}
use Rattle.derivation.proofs.Run.{final_ended}
use Rattle.derivation.proofs.Answered.{some_closed}
use Rattle.derivation.proofs.Counts.{log_once, log_reasons, log_count, count_same}

module _ {W : Type 0} {m : Ops W} (laws : Laws m) where
  pub exact_at : Exact m
  exact_at rules floor rest target facts fit within short =
      let s = final m rules rest (Some target) in
      let end = final_ended laws rules floor rest (Some target) fit.consistent in
      let log = end.sound.log in
      let reasons = log_reasons m rules short s.closed log in
      let tree : (f : ℕ) → is_closed s.closed f ≡ true → Recorded m rules s.closed f _ = line_recorded m rules s.closed log in
      record {
        once = log_once m rules s.closed log;
        lightest = λ f h. (_, (tree f h).derives, (tree f h).weighs, end.sound.lightest f h);
        reasons = reasons;
        counted = log_count m rules facts within s.closed log ∙ sym (count_same _ _ reasons facts);
        complete = λ v e f t derives lighter.
            let c = some_closed m target s v e in
            elim (cases_Bool (is_closed s.closed f)) [
              | inl h ↦ h
              | inr h ↦ absurd (both_ways _ lighter
                  (subst (λ x. m.leb (m.join x (rest target)) (m.join (weight m rules t) (rest f)) ≡ true) c.1
                  (end.sound.beyond target refl c.0 f h t derives)))
            ];
        sharp = λ v e f w h lightest.
            let c = some_closed m target s v e in
            let root = tree target c.0 in
            let above = end.sound.bounded target refl f h _ root.derives in
            let below = subst (λ x. m.leb w x ≡ true) (tree f h).weighs (lightest.3 _ (tree f h).derives) in
            laws.trans _ _ _ (laws.mono _ _ (rest f) below)
            (subst (λ x. m.leb (m.join (weight_in m s.closed f) (rest f)) (m.join x (rest target)) ≡ true) (root.weighs ∙ c.1) above);
      }
