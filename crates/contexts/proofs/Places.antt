-- The offers to the places of one rule, as the code computes them.
use Rattle.std.proofs.Common.{◌≡◌, ℕ, ◌<◌, true, false, List, length, get_or, sym, ap, ◌∙◌, subst}
use Rattle.std.proofs.lemmas.Bool.{not_from_false}
use Rattle.measure.specs.Ops.{Ops, Laws}
use Rattle.queue.specs.declared.entry.Entry.{Entry}
use Rattle.sheet.specs.Slots.{Slot, passes, rule_at}
use Rattle.std.specs.Prelude.{Some}
use Rattle.sheet.specs.Rules.{body_of}
use Rattle.sheet.proofs.Within.{passes_at, within_parts, below_at}
use Rattle.derivation.specs.Rules as theory
use Rattle.derivation.specs.Fit.{beside}
use Rattle.guide.specs.Weighted.{weigh, weighted}
use Rattle.search.specs.Entries.{held}
use Rattle.search.proofs.Matching.{weighted_at, head_is, body_is, struck_is}
use Rattle.contexts.specs.Offers.{Offering, Follows}
use Rattle.contexts.proofs.Offering.{follows_one}

module _ (xs : List Slot) (n facts : ℕ) (within : passes facts xs ≡ true) (under : n < length xs) (stands : (rule_at xs n).struck ≡ false) where
  pub place_under : (j : ℕ) → j < length (body_of (rule_at xs n)) → get_or (body_of (rule_at xs n)) j 0 < facts
  place_under j h = below_at facts (body_of (rule_at xs n)) j (within_parts facts (rule_at xs n) (passes_at facts xs n within under).1 stands).1 h

  -- the offer to one place of the rule, as the code makes it
  pub place_follows : {W : Type 0} {m : Ops W} → Laws m → (floors : List W) (done : List ℕ) (w : W) (j : ℕ) (body : List ℕ) (v : W)
      → body ≡ body_of (rule_at xs n) → j < length body
      → v ≡ m.join (beside m (held m floors) (weigh m (Some (rule_at xs n))) j) w
      → (entries entries' : List (Entry W)) → Offering done (get_or body j 0) v entries entries'
      → Follows m (held m floors) (weighted m xs) facts done (rule_at xs n).head w (λ r i. (r ≡ n) × (i ≡ j)) entries entries'
  place_follows {m = m} laws floors done w j body v whole l is entries entries' o =
      let rules = weighted m xs in
      let rule : weigh m (Some (rule_at xs n)) ≡ theory.rule_at m rules n = sym (weighted_at m xs n ∙ ap (weigh m) (passes_at facts xs n within under).0) in
      let e : body ≡ (theory.rule_at m rules n).body = whole ∙ sym (body_is m xs n) in
      let inside : j < length (theory.rule_at m rules n).body = subst (λ (z : List ℕ). j < length z) e l in
      let low : get_or (theory.rule_at m rules n).body j 0 < facts =
      subst (λ (z : List ℕ). get_or z j 0 < facts) (sym (body_is m xs n)) (place_under j (subst (λ (z : List ℕ). j < length z) whole l)) in
      let o₁ = subst (λ (z : List ℕ). Offering done (get_or z j 0) v entries entries') e o in
      let o₂ = subst (λ z. Offering done (get_or (theory.rule_at m rules n).body j 0) z entries entries')
      (is ∙ ap (λ (a : theory.Rule _). m.join (beside m (held m floors) a j) w) rule) o₁ in
      follows_one m (held m floors) rules facts done (rule_at xs n).head w laws n j
      (not_from_false _ (struck_is m xs n ∙ stands)) (head_is m xs n) inside low entries entries' o₂
