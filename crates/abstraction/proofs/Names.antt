-- Folded rules name groups.
use Rattle.std.proofs.Common.{◌≡◌, ℕ, ◌<◌, true, false, ltb, List, [], ◌∷◌, map, length, take, drop, refl, ap, ◌∙◌, ⊎_elim}
use lib.ListN.{length-map}
use Rattle.std.proofs.lemmas.List.{take_at}
use Rattle.std.proofs.lemmas.Bool.{and_parts, and_from, or_left, both_ways, cases_Bool, cond-true, cond-false, lt-ltb, ltb-true}
use Rattle.sheet.specs.declared.rule.Rule.{Rule}
use Rattle.sheet.specs.Slots.{Slot, passes}
use Rattle.std.specs.Prelude.{None, Some}
use Rattle.sheet.specs.Rules.{body_of, all_below, within}
use Rattle.sheet.proofs.Within.{within_parts}
use Rattle.abstraction.specs.Fold.{fold_record, fold_slot, folded}
use Rattle.abstraction.proofs.Reading.{folded_body}

module _ (group : ℕ → ℕ) (facts n : ℕ) (grouped : (f : ℕ) → f < facts → group f < n) where
  body_names : (fs : List ℕ) → all_below facts fs ≡ true → all_below n (map group fs) ≡ true
  body_names [] h = refl
  body_names (f ∷ fs) h =
      let p = and_parts (ltb f facts) (all_below facts fs) h in
      and_from (ltb (group f) n) (all_below n (map group fs)) (lt-ltb (group f) n (grouped f (ltb-true f facts p.0))) (body_names fs p.1)

  rule_names : (r : Rule) → within facts r ≡ true → within n (fold_record group r) ≡ true
  rule_names r h =
      ⊎_elim {C = within n (fold_record group r) ≡ true}
      (λ s. ap (within n) (cond-true r.struck r _ s) ∙ or_left r.struck _ s)
      (λ s.
      let p = within_parts facts r h s in
      ap (within n) (cond-false r.struck r _ s)
      ∙ and_from (ltb (group r.head) n) _ (lt-ltb (group r.head) n (grouped r.head p.0)) (ap (all_below n) (folded_body group r) ∙ body_names (body_of r) p.1))
      (cases_Bool r.struck)

  pub slots_name : (xs : List Slot) → passes facts xs ≡ true → passes n (map (fold_slot group) xs) ≡ true
  slots_name [] h = refl
  slots_name (None ∷ xs) h = absurd (both_ways false refl h)
  slots_name (Some r ∷ xs) h =
      let p = and_parts (within facts r) (passes facts xs) h in
      and_from (within n (fold_record group r)) (passes n (map (fold_slot group) xs)) (rule_names r p.0) (slots_name xs p.1)

  pub names_groups : (xs second : List Slot) → passes facts xs ≡ true → passes n (take (length xs) (folded group xs second)) ≡ true
  names_groups xs second h =
      ap (passes n) (take_at (map (fold_slot group) xs) (drop (length xs) second) (length xs) (length-map xs (fold_slot group))) ∙ slots_name xs h
