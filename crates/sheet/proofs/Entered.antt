-- What the number of rules entered says of the slots.
use Rattle.std.proofs.Common.{◌≡◌, ℕ, zero, suc, ◌<◌, ◌≤◌, min, List, [], ◌∷◌, length, get_or, refl, arith, length-take}
use Rattle.std.proofs.lemmas.List.{get_or-take}
use Rattle.sheet.specs.Slots.{Slot}
use Rattle.std.specs.Prelude.{None, Some}
use Rattle.sheet.specs.Slots.{used, fulls, empties, count, free, rule_in, rule_at}

pub fulls_bound : (xs : List Slot) → fulls xs ≤ length xs
fulls_bound [] = omega arith
fulls_bound (None ∷ xs) = omega arith
fulls_bound (Some r ∷ xs) = let h = fulls_bound xs in omega arith

-- a column with no empty slot is full to its end, and the other way round
pub full_up : (xs : List Slot) → length xs ≤ fulls xs → empties xs ≡ 0
full_up [] h = refl
full_up (None ∷ xs) h = omega arith
full_up (Some r ∷ xs) h = full_up xs (omega arith)

pub not_full : (xs : List Slot) → fulls xs < length xs → 0 < empties xs
not_full [] h = omega arith
not_full (None ∷ xs) h = omega arith
not_full (Some r ∷ xs) h = not_full xs (omega arith)

pub count_bound : (xs : List Slot) → count xs ≤ min (length xs) 16000
unfolding count
count_bound xs = let h = fulls_bound (used xs) in omega (arith, length-take 16000 xs)

pub none_free : (xs : List Slot) → min (length xs) 16000 ≤ count xs → free xs ≡ 0
unfolding count free
none_free xs h = full_up (used xs) (omega (arith, length-take 16000 xs))

pub some_free : (xs : List Slot) → count xs < min (length xs) 16000 → 0 < free xs
unfolding count free
some_free xs h = not_full (used xs) (omega (arith, length-take 16000 xs))

-- a slot before the first empty one holds a rule
pub full_at : (xs : List Slot) (n : ℕ) → n < fulls xs → get_or xs n None ≡ Some (rule_in (get_or xs n None))
full_at [] n h = absurd (omega arith)
full_at (None ∷ xs) n h = absurd (omega arith)
full_at (Some r ∷ xs) zero h = refl
full_at (Some r ∷ xs) (suc n) h = full_at xs n (omega arith)

pub entered_at : (xs : List Slot) (n : ℕ) → n < count xs → get_or xs n None ≡ Some (rule_at xs n)
unfolding count
entered_at xs n h =
    let b : n < 16000 = omega (arith, count_bound xs) in
    let e = get_or-take 16000 xs n None b in
    rw e at (full_at (used xs) n h)
