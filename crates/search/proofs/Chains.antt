-- Chains of places, one place more.
use Rattle.std.proofs.Common.{◌≡◌, ℕ, zero, suc, ◌+◌, ◌*◌, ◌/◌, ◌%◌, ◌<◌, ◌≤◌, min, Bool, true, false, cond, not, ◌&&◌, eqb, List, length, get_or, set, sym, refl, ap, ◌∙◌, subst, inl, inr, add-one, arith, length-set, length-take}
use Rattle.std.proofs.lemmas.List.{get_or-set_same, get_or-set_other}
use Rattle.std.proofs.lemmas.Bool.{cases_eq, eqb-true, ne_eqb, eq-eqb, both_ways, le-ltb, lt-ltb}
use Rattle.sheet.specs.Slots.{Slot}
use Rattle.sheet.specs.declared.rule.Rule.{Rule}
use Rattle.sheet.specs.Rules.{body_of}
use Rattle.sheet.specs.Slots.{rule_at}
use Rattle.search.specs.Chains.{names, holds, last_below, Chained}

pub rule_of_place : (r i : ℕ) → i < 4 → (4 * r + i) / 4 ≡ r
rule_of_place r i h = omega arith

pub index_of_place : (r i : ℕ) → i < 4 → (4 * r + i) % 4 ≡ i
index_of_place r i h = omega arith

pub at_place : (xs : List Slot) (f r i : ℕ) → i < 4 → holds xs f (4 * r + i) ≡ names (rule_at xs r) i f
unfolding holds
at_place xs f r i h = rw (rule_of_place r i h, index_of_place r i h)

last_more : (xs : List Slot) (f k : ℕ) (b : Bool) → holds xs f k ≡ b → last_below xs f (k + 1) ≡ cond b (k + 1) (last_below xs f k)
last_more xs f k b e = rw (add-one, e)

module _ {xs : List Slot} {heads next : List ℕ} (k : ℕ) (old : Chained xs heads next k) where
  pub chained_skip : ((f : ℕ) → holds xs f k ≡ false) → Chained xs heads next (k + 1)
  chained_skip none = record {
    heads_at = λ f h. old.heads_at f h ∙ sym (last_more xs f k false (none f));
    next_at = λ p f h e. elim (cases_eq p k) [
      | inl q ↦ absurd (both_ways _ (none f) (rw q at e))
      | inr q ↦ old.next_at p f (omega arith) e
    ];
  }

  -- the place k names g alone
  pub chained_link : (g : ℕ) → g < length heads → k < length next → ((f : ℕ) → holds xs f k ≡ eqb g f)
      → Chained xs (set heads g (k + 1)) (set next k (get_or heads g 0)) (k + 1)
  chained_link g in_heads in_next only = record { heads_at = at_head; next_at = at_next }
    where
      at_head : (f : ℕ) → f < length (set heads g (k + 1)) → get_or (set heads g (k + 1)) f 0 ≡ last_below xs f (k + 1)
      at_head f h = elim (cases_eq f g) [
        | inl e ↦ rw e (get_or-set_same heads g (k + 1) 0 in_heads ∙ sym (last_more xs g k true (only g ∙ eq-eqb g g refl)))
        | inr e ↦ get_or-set_other heads g f (k + 1) 0 e ∙ old.heads_at f (rw (length-set heads g (k + 1)) at h) ∙ sym (last_more xs f k false (only f ∙ ne_eqb g f (λ q. e (sym q))))
      ]

      at_next : (p f : ℕ) → p < k + 1 → holds xs f p ≡ true → get_or (set next k (get_or heads g 0)) p 0 ≡ last_below xs f p
      at_next p f h e = elim (cases_eq p k) [
        | inl q ↦ rw q (get_or-set_same next k (get_or heads g 0) 0 in_next ∙ old.heads_at g in_heads ∙ ap (λ z. last_below xs z k) (eqb-true g f (sym (only f) ∙ (rw q at e))))
        | inr q ↦ get_or-set_other next k p (get_or heads g 0) 0 q ∙ old.next_at p f (omega arith) e
      ]

-- the places of rule r from index i on name nothing
pub chained_skips : (xs : List Slot) (heads next : List ℕ) (r i d : ℕ) → i + d ≡ 4
    → ((j f : ℕ) → i ≤ j → names (rule_at xs r) j f ≡ false)
    → Chained xs heads next (4 * r + i) → Chained xs heads next (4 * r + 4)
chained_skips xs heads next r i zero e none old = let q : i ≡ 4 = omega arith in rw q at old
chained_skips xs heads next r i (suc d) e none old =
    let h : i < 4 = omega arith in
    let a : 4 * r + i + 1 ≡ 4 * r + (i + 1) = omega arith in
    let more = chained_skip (4 * r + i) old (λ f. at_place xs f r i h ∙ none i f (omega arith)) in
    chained_skips xs heads next r (i + 1) d (omega arith) (λ j f l. none j f (omega arith)) (rw a at more)

pub names_struck : (r : Rule) → r.struck ≡ true → (i f : ℕ) → names r i f ≡ false
names_struck r s i f = rw s

pub names_beyond : (r : Rule) (i f : ℕ) → length (body_of r) ≤ i → names r i f ≡ false
names_beyond r i f h = rw (le-ltb i (length (body_of r)) h) (both (not r.struck))
  where
    both : (b : Bool) → (b && false) ≡ false
    both true = refl
    both false = refl

pub names_at : (r : Rule) (i f : ℕ) → r.struck ≡ false → i < length (body_of r) → names r i f ≡ eqb (get_or (body_of r) i 0) f
names_at r i f s h = rw (s, lt-ltb i (length (body_of r)) h)

pub body_bound : (r : Rule) → length (body_of r) ≤ 4
body_bound r = omega (arith, length-take (min r.arity 4) r.body)

-- a place of a standing rule, with the rule and its body as the code has them
module _ (xs : List Slot) (r i : ℕ) (rule : Rule) (body : List ℕ)
    (is : rule ≡ rule_at xs r) (stands : rule.struck ≡ false) (whole : body ≡ body_of rule) (h : i < length body) where
  pub place_holds : (f : ℕ) → holds xs f (4 * r + i) ≡ eqb (get_or body i 0) f
  place_holds f =
      let l : i < length (body_of rule) = rw whole at h in
      at_place xs f r i (omega (arith, body_bound rule)) ∙ ap (λ z. names z i f) (sym is) ∙ names_at rule i f stands l ∙ ap (λ z. eqb (get_or z i 0) f) (sym whole)

  pub link_step : (heads next : List ℕ) → Chained xs heads next (4 * r + i) → get_or body i 0 < length heads → 4 * r + i < length next
      → Chained xs (set heads (get_or body i 0) (4 * r + i + 1)) (set next (4 * r + i) (get_or heads (get_or body i 0) 0)) (4 * r + (i + 1))
  link_step heads next old a b =
      let e : 4 * r + i + 1 ≡ 4 * r + (i + 1) = omega arith in
      let p : ℕ → Type 0 = λ k. Chained xs (set heads (get_or body i 0) (4 * r + i + 1)) (set next (4 * r + i) (get_or heads (get_or body i 0) 0)) k in
      subst p e (chained_link (4 * r + i) old (get_or body i 0) a b place_holds)
