-- Walking a chain down, place by place.
use Rattle.std.proofs.Common.{◌≡◌, ℕ, zero, suc, ◌+◌, ◌-◌, ◌/◌, ◌%◌, ◌<◌, ◌≤◌, Bool, true, false, not, ◌&&◌, eqb, ltb, List, length, get_or, set, sym, refl, ap, ◌∙◌, subst, inl, inr, arith}
use Rattle.std.proofs.lemmas.List.{get_or-set_same, get_or-set_other}
use Rattle.std.proofs.lemmas.Bool.{cases_eq, cases_Bool, eq-eqb, ne_eqb, and_parts, not-true}
use Rattle.sheet.specs.Slots.{Slot}
use Rattle.sheet.specs.Rules.{body_of}
use Rattle.sheet.specs.Slots.{rule_at}
use Rattle.search.specs.Chains.{holds, last_below, uses}
use Rattle.search.proofs.Filling.{bit}

module _ (xs : List Slot) (f : ℕ) where
  pub last_bound : (p : ℕ) → last_below xs f p ≤ p
  last_bound zero = omega arith
  last_bound (suc p) =
      elim (cases_Bool (holds xs f p)) [
        | inl h ↦ rw h (omega arith)
        | inr h ↦ rw h (omega (arith, last_bound p))
      ]

  -- a link that is not 0 is a place that names the fact, one more
  pub last_holds : (p : ℕ) → last_below xs f (suc p) ≡ suc p → holds xs f p ≡ true
  last_holds p e =
      elim (cases_Bool (holds xs f p)) [
        | inl h ↦ h
        | inr h ↦ absurd (let z : last_below xs f p ≡ suc p = rw h at e in omega (arith, z, last_bound p))
      ]

  pub last_fixed : (p : ℕ) → last_below xs f (last_below xs f p) ≡ last_below xs f p
  last_fixed zero = refl
  last_fixed (suc p) =
      elim (cases_Bool (holds xs f p)) [
        | inl h ↦ rw h (rw h)
        | inr h ↦ rw h (last_fixed p)
      ]

  -- no place between the link and p names the fact
  pub uses_last : (r p : ℕ) → uses xs f r (last_below xs f p) ≡ uses xs f r p
  uses_last r zero = refl
  uses_last r (suc p) =
      elim (cases_Bool (holds xs f p)) [
        | inl h ↦ rw h (rw h)
        | inr h ↦ rw h (uses_last r p ∙ omega arith)
      ]

  pub uses_here : (p : ℕ) → holds xs f p ≡ true → uses xs f (p / 4) (suc p) ≡ uses xs f (p / 4) p + 1
  uses_here p h = rw (h, eq-eqb (p / 4) (p / 4) refl)

  pub uses_there : (r p : ℕ) → (p / 4 ≡ r → ⊥) → uses xs f r (suc p) ≡ uses xs f r p
  uses_there r p n =
      let z : (holds xs f p && eqb (p / 4) r) ≡ false = rw (ne_eqb (p / 4) r n) (neither (holds xs f p)) in
      let e : bit (holds xs f p && eqb (p / 4) r) ≡ 0 = ap bit z in
      omega (arith, e)
    where
      neither : (b : Bool) → (b && false) ≡ false
      neither true = refl
      neither false = refl

-- a place that names a fact belongs to a standing rule
pub holds_stands : (xs : List Slot) (f p : ℕ) → holds xs f p ≡ true → (rule_at xs (p / 4)).struck ≡ false
unfolding holds
holds_stands xs f p h = not-true _ (and_parts (not (rule_at xs (p / 4)).struck) (ltb (p % 4) (length (body_of (rule_at xs (p / 4)))) && eqb (get_or (body_of (rule_at xs (p / 4))) (p % 4) 0) f) h).0

-- the place below a link
module _ (xs : List Slot) (f link : ℕ) (some : 0 < link) (fixed : last_below xs f link ≡ link) where
  pub link_holds : holds xs f (link - 1) ≡ true
  link_holds =
      let e : link ≡ suc (link - 1) = omega arith in
      last_holds xs f (link - 1) (subst (λ (k : ℕ). last_below xs f k ≡ k) e fixed)

  pub link_uses : uses xs f ((link - 1) / 4) link ≡ uses xs f ((link - 1) / 4) (link - 1) + 1
  link_uses =
      let e : suc (link - 1) ≡ link = omega arith in
      ap (uses xs f ((link - 1) / 4)) (sym e) ∙ uses_here xs f (link - 1) link_holds

  pub link_others : (r : ℕ) → ((link - 1) / 4 ≡ r → ⊥) → uses xs f r link ≡ uses xs f r (link - 1)
  link_others r n =
      let e : suc (link - 1) ≡ link = omega arith in
      ap (uses xs f r) (sym e) ∙ uses_there xs f r (link - 1) n

  -- after the visit, at the next link
  pub left_next : (start : ℕ → ℕ) (whole : ℕ → ℕ) (ms ms' : List ℕ) (link' : ℕ)
      → (link - 1) / 4 < length ms
      → ((r : ℕ) → get_or ms r 0 + whole r ≡ start r + uses xs f r link)
      → 0 < get_or ms ((link - 1) / 4) 0
      → ms' ≡ set ms ((link - 1) / 4) (get_or ms ((link - 1) / 4) 0 - 1)
      → link' ≡ last_below xs f (link - 1)
      → (r : ℕ) → get_or ms' r 0 + whole r ≡ start r + uses xs f r link'
  left_next start whole ms ms' link' u left p changed next r =
      let q = (link - 1) / 4 in
      let end : uses xs f r link' ≡ uses xs f r (link - 1) = ap (uses xs f r) next ∙ uses_last xs f r (link - 1) in
      elim (cases_eq r q) [
        | inl e ↦ (
            let now : get_or ms' r 0 ≡ get_or ms q 0 - 1 = ap (λ (l : List ℕ). get_or l r 0) changed ∙ ap (λ (k : ℕ). get_or (set ms q (get_or ms q 0 - 1)) k 0) e ∙ get_or-set_same ms q (get_or ms q 0 - 1) 0 u in
            let was : get_or ms q 0 + whole r ≡ start r + uses xs f r link = ap (λ (k : ℕ). get_or ms k 0 + whole r) (sym e) ∙ left r in
            let one : uses xs f r link ≡ uses xs f r (link - 1) + 1 = rw e link_uses in
            omega (arith, now, was, one, end, p))
        | inr e ↦ (
            let now : get_or ms' r 0 ≡ get_or ms r 0 = ap (λ (l : List ℕ). get_or l r 0) changed ∙ get_or-set_other ms q r (get_or ms q 0 - 1) 0 e in
            omega (arith, now, left r, link_others r (λ z. e (sym z)), end))
      ]
