-- What folding promises, from what it answers and leaves.
use Rattle.std.proofs.Common.{◌≡◌, ℕ, zero, suc, ◌+◌, ◌<◌, ◌≤◌, Bool, true, false, cond, ltb, List, [], ◌∷◌, length, get_or, take, sym, refl, ap, ◌∙◌, inl, inr, arith, length-take}
use Rattle.std.proofs.lemmas.List.{get_or-take}
use Rattle.std.proofs.lemmas.Bool.{cases_Bool, cond-true, cond-false, leb-true, leb-false, ltb-false}
use Rattle.std.proofs.lemmas.Iterator.Adapters.{position_from-zero}
use Rattle.std.proofs.lemmas.Option.{none-some}
use Rattle.std.proofs.lemmas.List.Quantifiers.{position-Some}
use Rattle.std.specs.List.{position_from}
use Rattle.std.specs.Prelude.{None, Some, Option, nat_le}
use Rattle.sheet.specs.Slots.{Slot, count, free, passes}
use Rattle.sheet.specs.Refusals.{Answer, accepted, refused, after, a_fact}
use Rattle.abstraction.specs.Fold.{group_of, folded, fact_answer, map_answer, fold_answer, fold_slots}
use Rattle.abstraction.specs.Folds.{Folds}
use Rattle.abstraction.proofs.Reading.{sheet_begins, sheet_alone}
use Rattle.abstraction.proofs.Names.{names_groups}

-- what an answer says of the lowest fact outside
none_told : (o : Option ℕ) → fact_answer o ≡ accepted tt → o ≡ None
none_told None e = refl
none_told (Some f) e = let z : ◌≡◌ {A = ℕ} 0 1 = cc in absurd (omega arith)

some_told : (o : Option ℕ) (f : ℕ) → fact_answer o ≡ refused 12 (a_fact f ∷ []) → o ≡ Some f
some_told None f e = let z : ◌≡◌ {A = ℕ} 0 1 = cc in absurd (omega arith)
some_told (Some k) f e = cc

head_and_rest : (n g : ℕ) (gs : List ℕ) → g < n → ((f : ℕ) → f < length gs → get_or gs f 0 < n) → (f : ℕ) → f < length (g ∷ gs) → get_or (g ∷ gs) f 0 < n
head_and_rest n g gs l under zero h = l
head_and_rest n g gs l under (suc f) h = under f (omega arith)

none_outside : (n k : ℕ) (xs : List ℕ) → position_from (λ g. nat_le n g) k xs ≡ None → (f : ℕ) → f < length xs → get_or xs f 0 < n
none_outside n k [] e f h = absurd (omega arith)
none_outside n k (g ∷ gs) e f h =
    elim (cases_Bool (nat_le n g)) [
      | inl b ↦ absurd (none-some k (sym e ∙ cond-true (nat_le n g) _ _ b))
      | inr b ↦ head_and_rest n g gs (leb-false n g b) (none_outside n (k + 1) gs (sym (cond-false (nat_le n g) _ _ b) ∙ e)) f h
    ]

-- the groups of the first facts
groups_length : (facts : ℕ) (groups : List ℕ) → facts ≤ length groups → length (take facts groups) ≡ facts
groups_length facts groups l = omega (arith, length-take facts groups)

pub map_grouped : (facts : ℕ) (groups : List ℕ) (n : ℕ) → facts ≤ length groups → map_answer n 0 (take facts groups) ≡ accepted tt
    → (f : ℕ) → f < facts → group_of groups f < n
map_grouped facts groups n long e f l =
    let g = none_outside n 0 (take facts groups) (none_told _ e) f (omega (arith, groups_length facts groups long)) in
    rw (get_or-take facts groups f 0 l) at g

-- an answer that is none of the first refusals is that of the map
pub past : (b : Bool) (k : ℕ) (x a : Answer (Unit {0})) → (refused k [] ≡ a → ⊥) → cond b (refused k []) x ≡ a → (b ≡ false) × (x ≡ a)
past true k x a o e = absurd (o e)
past false k x a o e = (refl, e)

module _ (xs : List Slot) (facts : ℕ) (groups : List ℕ) (n : ℕ) (second : List Slot) where
  pub record Judged (a : Answer (Unit {0})) : Type 0 where
    pub room : length xs ≤ free second
    pub long : facts ≤ length groups
    pub mapped : map_answer n 0 (take facts groups) ≡ a

  pub judged : (a : Answer (Unit {0})) → ((k : ℕ) → refused k [] ≡ a → ⊥) → fold_answer xs facts groups n second ≡ a → Judged a
  judged a o e =
      let unused = past (ltb 0 (count second)) 4 _ a (o 4) e in
      let roomy = past (ltb (free second) (length xs)) 7 _ a (o 7) unused.1 in
      let given = past (ltb (length groups) facts) 11 _ a (o 11) roomy.1 in
      record { room = ltb-false _ _ roomy.0; long = ltb-false _ _ given.0; mapped = given.1 }

  pub judged_in : fold_answer xs facts groups n second ≡ accepted tt → Judged (accepted tt)
  judged_in = judged (accepted tt) (λ k e. let z : ◌≡◌ {A = ℕ} 0 1 = cc in absurd (omega arith))

  judged_map : (f : ℕ) → fold_answer xs facts groups n second ≡ refused 12 (a_fact f ∷ []) → Judged (refused 12 (a_fact f ∷ []))
  judged_map f = judged (refused 12 (a_fact f ∷ [])) (λ k e. let z : ◌≡◌ {A = ℕ} 0 1 = cc in absurd (omega arith))

  pub slots_are : (a : Answer (Unit {0})) → fold_answer xs facts groups n second ≡ a
      → fold_slots xs facts groups n second ≡ after a (λ _. folded (group_of groups) xs second) second
  slots_are a e = ap (λ x. after x (λ _. folded (group_of groups) xs second) second) e

  each_grouped : fold_answer xs facts groups n second ≡ accepted tt → (f : ℕ) → f < facts → group_of groups f < n
  each_grouped e = let j = judged_in e in map_grouped facts groups n j.long j.mapped

  fact_told : (f : ℕ) → fold_answer xs facts groups n second ≡ refused 12 (a_fact f ∷ [])
      → (f < facts) × (n ≤ group_of groups f) × ((k : ℕ) → k < f → group_of groups k < n)
  fact_told f e =
      let j = judged_map f e in
      let w = position-Some (λ g. nat_le n g) (take facts groups) f 0 (position_from-zero (λ g. nat_le n g) (take facts groups) ∙ some_told _ f j.mapped) in
      let long = groups_length facts groups j.long in
      let read = λ (k : ℕ) (h : k < facts). get_or-take facts groups k 0 h in
      let l : f < facts = omega (arith, w.0, long) in
      (l, omega (arith, leb-true n _ w.1, read f l), λ k h. omega (arith, leb-false n _ (w.2 k h), read k (omega arith)))

  pub folds_by : passes facts xs ≡ true → length xs ≤ 16000 → (out : List Slot) (a : Answer (Unit {0}))
      → a ≡ fold_answer xs facts groups n second → out ≡ fold_slots xs facts groups n second → Folds xs facts groups n second out a
  folds_by h few out a e left =
      let written : a ≡ accepted tt → out ≡ folded (group_of groups) xs second = λ y. left ∙ slots_are (accepted tt) (sym e ∙ y) in
      record {
        rules = λ y. rw (written y) (sheet_begins (group_of groups) facts xs second h few);
        alone = λ y o. rw (written y) (sheet_alone (group_of groups) facts xs second h few o);
        names = λ y. rw (written y) (names_groups (group_of groups) facts n (each_grouped (sym e ∙ y)) xs second h);
        grouped = λ y. each_grouped (sym e ∙ y);
        lowest = λ f y. fact_told f (sym e ∙ y);
        kept = λ k vs y. left ∙ slots_are (refused k vs) (sym e ∙ y);
      }
