-- What keeping within n facts says, place by place.
use Rattle.std.proofs.Common.{◌≡◌, ℕ, zero, suc, ◌<◌, true, false, ◌&&◌, ltb, List, [], ◌∷◌, length, get_or, refl, arith}
use Rattle.std.proofs.lemmas.Bool.{and_parts, ltb-true, both_ways}
use Rattle.sheet.specs.declared.rule.Rule.{Rule}
use Rattle.sheet.specs.Slots.{Slot}
use Rattle.std.specs.Prelude.{None, Some}
use Rattle.sheet.specs.Rules.{all_below, within, body_of}
use Rattle.sheet.specs.Slots.{passes, rule_at}

pub below_at : (n : ℕ) (xs : List ℕ) (i : ℕ) → all_below n xs ≡ true → i < length xs → get_or xs i 0 < n
below_at n [] i h l = absurd (omega arith)
below_at n (x ∷ xs) zero h l = ltb-true x n (and_parts (ltb x n) (all_below n xs) h).0
below_at n (x ∷ xs) (suc i) h l = below_at n xs i (and_parts (ltb x n) (all_below n xs) h).1 (omega arith)

-- each slot that is passed holds a rule that keeps within n facts
pub passes_at : (n : ℕ) (xs : List Slot) (i : ℕ) → passes n xs ≡ true → i < length xs → (get_or xs i None ≡ Some (rule_at xs i)) × (within n (rule_at xs i) ≡ true)
passes_at n [] i h l = absurd (omega arith)
passes_at n (None ∷ xs) i h l = absurd (both_ways false refl h)
passes_at n (Some r ∷ xs) zero h l = (refl, (and_parts (within n r) (passes n xs) h).0)
passes_at n (Some r ∷ xs) (suc i) h l = passes_at n xs i (and_parts (within n r) (passes n xs) h).1 (omega arith)

-- a standing rule's head and body are below n
pub within_parts : (n : ℕ) (r : Rule) → within n r ≡ true → r.struck ≡ false → (r.head < n) × (all_below n (body_of r) ≡ true)
within_parts n r h s =
    let p : (ltb r.head n && all_below n (body_of r)) ≡ true = rw s at h in
    let q = and_parts (ltb r.head n) (all_below n (body_of r)) p in
    (ltb-true r.head n q.0, q.1)
