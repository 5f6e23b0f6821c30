-- Filling the empty slots is entering the rules one after another.
use Rattle.std.proofs.Common.{◌≡◌, ℕ, zero, suc, ◌<◌, ◌≤◌, List, [], ◌∷◌, length, take, set, sym, refl, ap, ◌∙◌, arith}
use Rattle.std.proofs.lemmas.Bool.Decides.{nat_tests}
use Rattle.std.specs.List.{AllByRecursion}
use Rattle.std.specs.Prelude.{None, Some}
use Rattle.sheet.specs.declared.rule.Rule.{Rule}
use Rattle.sheet.specs.Slots.{Slot, fulls, empties, count, free}
use Rattle.sheet.specs.Edits.{enter_slots}
use Rattle.file.specs.Rules.{Entry, rule_of}
use Rattle.file.specs.Limits.{Within}
use Rattle.file.specs.Entering.{filled, entered}
use Rattle.file.proofs.Filled.{filled_full}

-- the first rule goes into the first empty slot
first_filled : (k : ℕ) (e : Entry) (es : List Entry) (xs : List Slot) → 0 < empties (take k xs) → filled (e ∷ es) xs ≡ filled es (set xs (fulls (take k xs)) (Some (rule_of e)))
first_filled zero e es xs h = absurd (omega arith)
first_filled (suc k) e es [] h = absurd (omega arith)
first_filled (suc k) e es (None ∷ xs) h = grind (arith, filled_full)
first_filled (suc k) e es (Some r ∷ xs) h = grind (arith, filled_full, first_filled k e es xs h)

one_less : (k : ℕ) (r : Rule) (xs : List Slot) → 0 < empties (take k xs) → empties (take k xs) ≡ suc (empties (take k (set xs (fulls (take k xs)) (Some r))))
one_less zero r xs h = absurd (omega arith)
one_less (suc k) r [] h = absurd (omega arith)
one_less (suc k) r (None ∷ xs) h = grind arith
one_less (suc k) r (Some q ∷ xs) h = grind (arith, one_less k r xs h)

first_entered : (e : Entry) (xs : List Slot) → Within e → 0 < free xs → enter_slots xs e.head e.body e.cost ≡ set xs (count xs) (Some (rule_of e))
first_entered e xs w h = let few = w.few in let cheap = w.cost in grind (arith, nat_tests)

pub filled_entered : (es : List Entry) (xs : List Slot) → AllByRecursion Within es → length es ≤ free xs → filled es xs ≡ entered es xs
unfolding count free
filled_entered [] xs w h = refl
filled_entered (e ∷ es) xs w h =
    let less = one_less 16000 (rule_of e) xs (omega arith) in
    first_filled 16000 e es xs (omega arith) ∙ filled_entered es _ w.1 (omega arith) ∙ ap (entered es) (sym (first_entered e xs w.0 (omega arith)))
