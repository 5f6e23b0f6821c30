-- How folded rules are read, and what they weigh.
use Rattle.std.proofs.Common.{◌≡◌, ℕ, zero, suc, ◌+◌, ◌-◌, ◌≤◌, min, Bool, true, false, cond, List, [], ◌∷◌, ◌++◌, map, length, get_or, take, drop, replicate, sym, refl, ap, ◌∙◌, arith, length-take}
use lib.ListN.{length-map}
use lib.Seq.{take-append-add}
use Rattle.std.proofs.lemmas.List.{take_at, take-take, take_all, get_or-drop, append-nil}
use Rattle.std.proofs.lemmas.Bool.{and_parts, both_ways}
use Rattle.measure.specs.Ops.{Ops}
use Rattle.sheet.specs.declared.rule.Rule.{Rule as Record}
use Rattle.sheet.specs.Slots.{Slot, front, sheet, passes}
use Rattle.std.specs.Prelude.{None, Some}
use Rattle.sheet.specs.Rules.{Inference, body_of, read, made, within}
use Rattle.derivation.specs.Rules.{Rule}
use Rattle.derivation.specs.Maps.{fold_rule, fold_rules}
use Rattle.guide.specs.Weighted.{weigh, weighted}
use Rattle.abstraction.specs.Fold.{fold_record, fold_slot, folded}
use Rattle.abstraction.specs.Folds.{fold_inference}

-- a new rule reads with the body that it was made of
pub made_body : (b : List ℕ) → length b ≤ 4 → take (min (min (length b) 4) 4) (take 4 (b ++ replicate 4 0)) ≡ b
made_body b h =
    let e : min (min (length b) 4) 4 ≡ length b = omega arith in
    rw e (take-take (length b) 4 (b ++ replicate 4 0) h ∙ take_at b (replicate 4 0) (length b) refl)

pub through : {A : Type 0} (F : Record → A) (b : Bool) (x y : Record) (z : A) → F y ≡ z → F (cond b x y) ≡ cond b (F x) z
through F true x y z e = refl
through F false x y z e = e

module _ (group : ℕ → ℕ) where
  pub folded_body : (r : Record) → body_of (made (group r.head) (map group (body_of r)) r.cost) ≡ map group (body_of r)
  folded_body r =
      made_body (map group (body_of r)) (omega (arith, length-map (body_of r) group, length-take (min r.arity 4) r.body))

  over : Record → List ℕ → Inference
  over r b = record { head = group r.head; body = b; cost = min r.cost 1000000; struck = false }

  pub read_fold : (r : Record) → read (fold_record group r) ≡ fold_inference group (read r)
  unfolding over
  read_fold r = through read r.struck r _ _ (ap (over r) (folded_body r))

  module _ {W : Type 0} (m : Ops W) where
    weighed_over : Record → List ℕ → Rule W
    weighed_over r b = record { head = group r.head; body = b; effort = m.effort (min r.cost 1000000); struck = false }

    weigh_fold : (x : Slot) → weigh m (fold_slot group x) ≡ fold_rule group (weigh m x)
    unfolding weighed_over
    weigh_fold None = refl
    weigh_fold (Some r) = through (λ s. weigh m (Some s)) r.struck r _ _ (ap (weighed_over r) (folded_body r))

    pub weighted_fold : (xs : List Slot) → weighted m (map (fold_slot group) xs) ≡ fold_rules group (weighted m xs)
    weighted_fold [] = refl
    weighted_fold (x ∷ xs) =
        ap (λ a. a ∷ weighted m (map (fold_slot group) xs)) (weigh_fold x) ∙ ap (λ l. fold_rule group (weigh m x) ∷ l) (weighted_fold xs)

    pub weighted_written : (xs second : List Slot) → weighted m (take (length xs) (folded group xs second)) ≡ fold_rules group (weighted m xs)
    weighted_written xs second =
        ap (weighted m) (take_at (map (fold_slot group) xs) (drop (length xs) second) (length xs) (length-map xs (fold_slot group))) ∙ weighted_fold xs

  -- passed slots and what follows them
  front_fold : (n : ℕ) (xs zs : List Slot) → passes n xs ≡ true
      → front (map (fold_slot group) xs ++ zs) ≡ map (fold_inference group) (front xs) ++ front zs
  front_fold n [] zs h = refl
  front_fold n (None ∷ xs) zs h = absurd (both_ways false refl h)
  front_fold n (Some r ∷ xs) zs h =
      ap (λ a. a ∷ front (map (fold_slot group) xs ++ zs)) (read_fold r)
      ∙ ap (λ l. fold_inference group (read r) ∷ l) (front_fold n xs zs (and_parts (within n r) (passes n xs) h).1)

  front_length : (n : ℕ) (xs : List Slot) → passes n xs ≡ true → length (front xs) ≡ length xs
  front_length n [] h = refl
  front_length n (None ∷ xs) h = absurd (both_ways false refl h)
  front_length n (Some r ∷ xs) h = ap suc (front_length n xs (and_parts (within n r) (passes n xs) h).1)

  front_none : (k : ℕ) (zs : List Slot) → get_or zs 0 None ≡ None → front (take k zs) ≡ []
  front_none zero zs h = refl
  front_none (suc k) [] h = refl
  front_none (suc k) (None ∷ zs) h = refl
  front_none (suc k) (Some r ∷ zs) h = let z : ◌≡◌ {A = ℕ} 0 1 = cc in absurd (omega arith)

  module _ (n : ℕ) (xs second : List Slot) (h : passes n xs ≡ true) (few : length xs ≤ 16000) where
    sheet_parts : sheet (folded group xs second) ≡ map (fold_inference group) (sheet xs) ++ front (take (16000 - length xs) (drop (length xs) second))
    unfolding sheet
    sheet_parts =
        let k = 16000 - length xs in
        let ys = map (fold_slot group) xs in
        let e : 16000 ≡ length ys + k = omega (arith, length-map xs (fold_slot group)) in
        ap (λ (i : ℕ). front (take i (folded group xs second))) e
        ∙ ap front (take-append-add ys (drop (length xs) second) k)
        ∙ front_fold n xs (take k (drop (length xs) second)) h
        ∙ ap (λ l. map (fold_inference group) (front l) ++ front (take k (drop (length xs) second))) (sym (take_all 16000 xs few))

    sheet_length : length (map (fold_inference group) (sheet xs)) ≡ length xs
    unfolding sheet
    sheet_length =
        length-map (sheet xs) (fold_inference group) ∙ ap (λ l. length (front l)) (take_all 16000 xs few) ∙ front_length n xs h

    pub sheet_begins : take (length xs) (sheet (folded group xs second)) ≡ map (fold_inference group) (sheet xs)
    sheet_begins = ap (take (length xs)) sheet_parts ∙ take_at _ _ (length xs) sheet_length

    pub sheet_alone : get_or second (length xs) None ≡ None → sheet (folded group xs second) ≡ map (fold_inference group) (sheet xs)
    sheet_alone e =
        let at : get_or (drop (length xs) second) 0 None ≡ None = get_or-drop (length xs) second 0 None ∙ ap (λ (i : ℕ). get_or second i None) (omega arith) ∙ e in
        sheet_parts ∙ ap (λ l. map (fold_inference group) (sheet xs) ++ l) (front_none (16000 - length xs) (drop (length xs) second) at) ∙ append-nil _
