-- Going through the slots for a passing.
use Rattle.std.proofs.Common.{◌≡◌, ℕ, suc, ◌+◌, ◌-◌, ◌≤◌, true, ◌&&◌, ◌||◌, eqb, ltb, List, [], ◌∷◌, length, take, sym, refl, ap, ◌∙◌, ⊎_elim, arith, length-take}
use Rattle.std.proofs.lemmas.List.{take-take}
use Rattle.std.proofs.lemmas.Bool.{cond-true, cond-false, cases_Bool, or_from, ne_eqb, le-ltb}
use Rattle.sheet.specs.Slots.{Slot}
use Rattle.std.specs.Prelude.{None, Some}
use Rattle.sheet.specs.Refusals.{accepted, refused, verdict, a_rule}
use Rattle.sheet.specs.Rules.{within}
use Rattle.sheet.specs.Slots.{used, fulls, count, passes}
use Rattle.sheet.specs.Passing.{scan, pass_answer}
use Rattle.sheet.proofs.Entered.{fulls_bound}

-- An accepted scan counts the rules entered, and they keep within n facts.
pub scan_counts : (n k m : ℕ) (xs : List Slot) → scan n k xs ≡ accepted m → (m ≡ k + fulls xs) × (passes n (take (fulls xs) xs) ≡ true)
scan_counts n k m [] e = (let f : m ≡ k = cc in omega arith, refl)
scan_counts n k m (None ∷ xs) e = (let f : m ≡ k = cc in omega arith, refl)
scan_counts n k m (Some r ∷ xs) e =
    let one : 1 + fulls xs ≡ suc (fulls xs) = omega arith in
    rw one (⊎_elim {C = (m ≡ k + suc (fulls xs)) × ((within n r && passes n (take (fulls xs) xs)) ≡ true)}
    (λ w. let f = scan_counts n (suc k) m xs (sym (cond-true (within n r) _ _ w) ∙ e) in
    (omega (arith, f.0), rw w f.1))
    (λ w. let f : refused 9 (a_rule k ∷ []) ≡ accepted m = sym (cond-false (within n r) _ _ w) ∙ e in
    let z : ◌≡◌ {A = ℕ} 0 1 = cc in absurd (omega arith))
    (cases_Bool (within n r)))

-- The rules entered are those of the slots in use.
pub entered_slots : (xs : List Slot) → take (fulls (used xs)) (used xs) ≡ take (count xs) xs
unfolding count
entered_slots xs = take-take (fulls (used xs)) 16000 xs (omega (arith, fulls_bound (used xs), length-take 16000 xs))

-- What an accepted scan of the slots in use says of the part that it counts.
pub record Counted (n m : ℕ) (xs ys : List Slot) : Type 0 where
  pub ends : m ≤ length ys
  pub few : length ys ≤ 16000
  pub within_facts : passes n (take (m - 0) ys) ≡ true
  pub shown : take (m - 0) ys ≡ take (count xs) xs

pub counted : (n m : ℕ) (xs ys : List Slot) → ys ≡ used xs → accepted m ≡ scan n 0 ys → Counted n m xs ys
counted n m xs ys u e =
    let f = scan_counts n 0 m ys (sym e) in
    let g : m - 0 ≡ fulls ys = omega (arith, f.0) in
    record {
      ends = omega (arith, fulls_bound ys);
      few = rw u (omega (arith, length-take 16000 xs));
      within_facts = rw g f.1;
      shown = rw (g, u) (entered_slots xs);
    }

pub pass_fits : (n k : ℕ) (xs : List Slot) → (n ≡ 0 → ⊥) → n ≤ 4096 → accepted k ≡ scan n 0 (used xs) → pass_answer xs n ≡ accepted tt
pass_fits n k xs z h e = cond-false (eqb n 0 || ltb 4096 n) _ _ (or_from _ _ (ne_eqb n 0 z) (le-ltb 4096 n h)) ∙ ap verdict (sym e)
