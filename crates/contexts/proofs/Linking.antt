-- Rules linked by their heads, and how many of them are left.
use Rattle.std.proofs.Common.{◌≡◌, ℕ, zero, suc, ◌+◌, ◌<◌, ◌≤◌, Bool, true, false, cond, not, ◌&&◌, eqb, List, length, get_or, set, sym, refl, ap, ◌∙◌, subst, inl, inr, add-one, arith, length-set}
use Rattle.std.proofs.lemmas.List.{get_or-set_same, get_or-set_other, get_or_past}
use Rattle.std.proofs.lemmas.Bool.{cases_eq, cases_Bool, cases_lt, both_ways, eqb-true, eq-eqb, ne_eqb, and_parts, not-true}
use Rattle.sheet.specs.Slots.{Slot, rule_in, rule_at, passes}
use Rattle.std.specs.Prelude.{None}
use Rattle.sheet.specs.declared.rule.Rule.{Rule}
use Rattle.sheet.proofs.Within.{passes_at, within_parts}
use Rattle.measure.specs.Ops.{Ops}
use Rattle.derivation.specs.Rules as theory
use Rattle.derivation.specs.Theorems.{count_below}
use Rattle.guide.specs.Weighted.{weighted}
use Rattle.search.proofs.Matching.{head_is, struck_is}
use Rattle.contexts.specs.Links.{concludes, last_rule, Linked, concluding, open_rules}

pub concludes_struck : (xs : List Slot) (r : ℕ) → (rule_at xs r).struck ≡ true → (g : ℕ) → concludes xs g r ≡ false
unfolding concludes
concludes_struck xs r s g = rw s

pub concludes_is : (xs : List Slot) (r : ℕ) → (rule_at xs r).struck ≡ false → (g : ℕ) → concludes xs g r ≡ eqb (rule_at xs r).head g
unfolding concludes
concludes_is xs r s g = rw s

pub concludes_parts : (xs : List Slot) (g r : ℕ) → concludes xs g r ≡ true → ((rule_at xs r).struck ≡ false) × ((rule_at xs r).head ≡ g)
unfolding concludes
concludes_parts xs g r h =
    let p = and_parts (not (rule_at xs r).struck) (eqb (rule_at xs r).head g) h in
    (not-true _ p.0, eqb-true _ _ p.1)

-- a standing rule of the theory concludes its head
pub standing_concludes : {W : Type 0} (m : Ops W) (xs : List Slot) (g r : ℕ) → theory.Standing m (weighted m xs) r → (theory.rule_at m (weighted m xs) r).head ≡ g → concludes xs g r ≡ true
standing_concludes m xs g r stands head =
    concludes_is xs r (sym (struck_is m xs r) ∙ not-true _ stands) g ∙ eq-eqb _ _ (sym (head_is m xs r) ∙ head)

-- only a rule of the sheet concludes
pub concludes_under : (xs : List Slot) (g r : ℕ) → concludes xs g r ≡ true → r < length xs
concludes_under xs g r h =
    elim (cases_lt r (length xs)) [
      | inl l ↦ l
      | inr l ↦ absurd (both_ways _ (concludes_parts xs g r h).0 (ap (λ z. (rule_in z).struck) (get_or_past xs r None l)))
    ]

-- a standing rule of a passed sheet concludes one of its facts
pub head_under : {n : ℕ} {xs ys : List Slot} (k : ℕ) (r : Rule) → passes n xs ≡ true → ys ≡ xs → k < length ys → r ≡ rule_at ys k → r.struck ≡ false → r.head < n
head_under {n} {xs} k r h e l is s =
    let e' : r ≡ rule_at xs k = is ∙ ap (λ z. rule_at z k) e in
    let under = within_parts n (rule_at xs k) (passes_at n xs k h (omega (arith, l, ap length e))).1 (ap (λ (z : Rule). z.struck) (sym e') ∙ s) in
    omega (arith, under.0, ap (λ (z : Rule). z.head) e')

last_more : (xs : List Slot) (g k : ℕ) (b : Bool) → concludes xs g k ≡ b → last_rule xs g (k + 1) ≡ cond b (k + 1) (last_rule xs g k)
last_more xs g k b e = rw (add-one, e)

module _ {xs : List Slot} {first next : List ℕ} (k : ℕ) (old : Linked xs first next k) where
  pub linked_skip : ((g : ℕ) → concludes xs g k ≡ false) → Linked xs first next (k + 1)
  linked_skip none = record {
    first_at = λ g h. old.first_at g h ∙ sym (last_more xs g k false (none g));
    next_at = λ r g h e. elim (cases_eq r k) [
      | inl q ↦ absurd (both_ways _ (none g) (rw q at e))
      | inr q ↦ old.next_at r g (omega arith) e
    ];
  }

  -- rule k concludes h
  pub linked_more : (h : ℕ) → h < length first → k < length next → ((g : ℕ) → concludes xs g k ≡ eqb h g)
      → Linked xs (set first h (k + 1)) (set next k (get_or first h 0)) (k + 1)
  linked_more h in_first in_next only = record { first_at = at_first; next_at = at_next }
    where
      at_first : (g : ℕ) → g < length (set first h (k + 1)) → get_or (set first h (k + 1)) g 0 ≡ last_rule xs g (k + 1)
      at_first g l = elim (cases_eq g h) [
        | inl e ↦ rw e (get_or-set_same first h (k + 1) 0 in_first ∙ sym (last_more xs h k true (only h ∙ eq-eqb h h refl)))
        | inr e ↦ get_or-set_other first h g (k + 1) 0 e ∙ old.first_at g (rw (length-set first h (k + 1)) at l) ∙ sym (last_more xs g k false (only g ∙ ne_eqb h g (λ q. e (sym q))))
      ]

      at_next : (r g : ℕ) → r < k + 1 → concludes xs g r ≡ true → get_or (set next k (get_or first h 0)) r 0 ≡ last_rule xs g r
      at_next r g l e = elim (cases_eq r k) [
        | inl q ↦ rw q (get_or-set_same next k (get_or first h 0) 0 in_next ∙ old.first_at h in_first ∙ ap (λ z. last_rule xs z k) (eqb-true h g (sym (only g) ∙ (rw q at e))))
        | inr q ↦ get_or-set_other next k r (get_or first h 0) 0 q ∙ old.next_at r g (omega arith) e
      ]

module _ (xs : List Slot) (g : ℕ) where
  pub last_bound : (n : ℕ) → last_rule xs g n ≤ n
  last_bound zero = omega arith
  last_bound (suc n) =
      elim (cases_Bool (concludes xs g n)) [
        | inl h ↦ rw h (omega arith)
        | inr h ↦ rw h (omega (arith, last_bound n))
      ]

  pub last_fixed : (n : ℕ) → last_rule xs g (last_rule xs g n) ≡ last_rule xs g n
  last_fixed zero = refl
  last_fixed (suc n) =
      elim (cases_Bool (concludes xs g n)) [
        | inl h ↦ rw h (rw h)
        | inr h ↦ rw h (last_fixed n)
      ]

  -- no rule from the link up to n concludes g
  pub none_between : (n r : ℕ) → last_rule xs g n ≤ r → r < n → concludes xs g r ≡ true → ⊥
  none_between zero r l u h = omega arith
  none_between (suc n) r l u h =
      elim (cases_Bool (concludes xs g n)) [
        | inl c ↦ (let z : suc n ≤ r = rw c at l in omega (arith, z, u))
        | inr c ↦ elim (cases_eq r n) [
          | inl e ↦ both_ways _ c (rw e at h)
          | inr e ↦ (let z : last_rule xs g n ≤ r = rw c at l in none_between n r z (omega arith) h)
        ]
      ]

  pub concluding_last : (n : ℕ) → concluding xs g (last_rule xs g n) ≡ concluding xs g n
  concluding_last zero = refl
  concluding_last (suc n) =
      elim (cases_Bool (concludes xs g n)) [
        | inl h ↦ rw h (rw h)
        | inr h ↦ rw h (concluding_last n ∙ omega arith)
      ]

  last_concludes : (n : ℕ) → last_rule xs g (suc n) ≡ suc n → concludes xs g n ≡ true
  last_concludes n e =
      elim (cases_Bool (concludes xs g n)) [
        | inl h ↦ h
        | inr h ↦ absurd (let z : last_rule xs g n ≡ suc n = rw h at e in omega (arith, z, last_bound n))
      ]

  -- the rule of a link
  module _ (number link : ℕ) (is : suc number ≡ link) (fixed : last_rule xs g link ≡ link) where
    pub link_concludes : concludes xs g number ≡ true
    link_concludes = last_concludes number (subst (λ (k : ℕ). last_rule xs g k ≡ k) (sym is) fixed)

    pub link_concluding : concluding xs g link ≡ concluding xs g number + 1
    link_concluding =
        let one : ◌≡◌ {A = ℕ} (cond (concludes xs g number) 1 0) 1 = rw link_concludes in
        ap (concluding xs g) (sym is) ∙ ap (λ (k : ℕ). concluding xs g number + k) one

pub count_bound : (p : ℕ → Bool) (n : ℕ) → count_below p n ≤ n
count_bound p zero = omega arith
count_bound p (suc n) =
    elim (cases_Bool (p n)) [
      | inl h ↦ rw h (omega (arith, count_bound p n))
      | inr h ↦ rw h (omega (arith, count_bound p n))
    ]

pub open_bound : (xs : List Slot) (done : List ℕ) (n : ℕ) → open_rules xs done n ≤ n
unfolding open_rules
open_bound xs done n = count_bound _ n

-- closing g leaves fewer open rules, by those that conclude it
module _ (xs : List Slot) (done : List ℕ) (g : ℕ) (under : g < length done) (new : get_or done g 0 ≡ 1 → ⊥) where
  abbrev bit : Bool → ℕ
  bit b = cond b 1 0

  one_rule : (s : Bool) (h : ℕ) → bit (not s && not (eqb (get_or (set done g 1) h 0) 1)) + bit (not s && eqb h g) ≡ bit (not s && not (eqb (get_or done h 0) 1))
  one_rule true h = refl
  one_rule false h =
      elim (cases_eq h g) [
        | inl e ↦ rw (e, get_or-set_same done g 1 0 under, eq-eqb g g refl, ne_eqb (get_or done g 0) 1 new)
        | inr e ↦ rw (get_or-set_other done g h 1 0 e, ne_eqb h g e) (omega arith)
      ]

  fewer : (n : ℕ) → open_rules xs (set done g 1) n + concluding xs g n ≡ open_rules xs done n
  unfolding open_rules concludes
  fewer zero = refl
  fewer (suc n) = omega (arith, fewer n, one_rule (rule_at xs n).struck (rule_at xs n).head)

  pub open_fewer : (done' : List ℕ) → done' ≡ set done g 1 → (n : ℕ) → open_rules xs done' n + concluding xs g n ≡ open_rules xs done n
  open_fewer done' e n = rw e (fewer n)
