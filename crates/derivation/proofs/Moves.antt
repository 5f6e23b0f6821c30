-- The rules of contexts are the moves of the standing rules.
use Rattle.std.proofs.Common.{◌≡◌, ℕ, zero, suc, ◌+◌, ◌-◌, ◌<◌, Bool, true, false, cond, not, List, [], ◌∷◌, ◌++◌, length, get_or, sym, refl, ap, ◌∙◌, subst, inl, inr, arith}
use Rattle.std.proofs.lemmas.List.{length_push, get_or_append_left, get_or-append_right, get_or-append-add, get_or_push}
use Rattle.std.proofs.lemmas.Bool.{both_ways, cases_eq, cases_lt, cond-false, not-true, not_from_false}
use Rattle.measure.specs.Ops.{Ops}
use Rattle.derivation.specs.Rules.{Rule, rule_at, Standing}
use Rattle.derivation.specs.Contexts.{move_rule, place_rules, move_rules}

module _ {W : Type 0} (m : Ops W) (floor : ℕ → W) where
  places_length : (a : Rule W) (n : ℕ) → length (place_rules m floor a n) ≡ n
  places_length a zero = refl
  places_length a (suc n) = omega (arith, length_push (place_rules m floor a n) (move_rule m floor a n), places_length a n)

  place_at : (a : Rule W) (n i : ℕ) (d : Rule W) → i < n → get_or (place_rules m floor a n) i d ≡ move_rule m floor a i
  place_at a zero i d h = absurd (omega arith)
  place_at a (suc n) i d h =
      elim (cases_eq i n) [
        | inl e ↦ get_or_push (place_rules m floor a n) (move_rule m floor a n) d i (places_length a n ∙ sym e) ∙ ap (move_rule m floor a) (sym e)
        | inr e ↦
            let inside : i < length (place_rules m floor a n) = rw (places_length a n) (omega arith) in
            get_or_append_left (place_rules m floor a n) (move_rule m floor a n ∷ []) d i inside ∙ place_at a n i d (omega arith)
      ]

  -- each move of a standing rule is a rule of contexts
  pub move_number : (rules : List (Rule W)) (r i : ℕ) → Standing m rules r → i < length (rule_at m rules r).body
      → (k : ℕ) × (rule_at m (move_rules m floor rules) k ≡ move_rule m floor (rule_at m rules r) i)
  move_number [] r i stands h = absurd (both_ways false refl stands)
  move_number (a ∷ rules) zero i stands h =
      let block : cond a.struck [] (place_rules m floor a (length a.body)) ≡ place_rules m floor a (length a.body) =
      cond-false a.struck _ _ (not-true _ stands) in
      let inside : i < length (place_rules m floor a (length a.body)) = rw (places_length a (length a.body)) h in (
        i,
        ap (λ xs. rule_at m (xs ++ move_rules m floor rules) i) block
            ∙ get_or_append_left (place_rules m floor a (length a.body)) (move_rules m floor rules) _ i inside
            ∙ place_at a (length a.body) i _ h,
      )
  move_number (a ∷ rules) (suc r) i stands h =
      let more = move_number rules r i stands h in
      let xs = cond a.struck [] (place_rules m floor a (length a.body)) in
      (length xs + more.0, get_or-append-add xs (move_rules m floor rules) more.0 _ ∙ more.1)

  -- a move that makes a rule
  pub record Made (rules : List (Rule W)) (b : Rule W) : Type 0 where
    pub rule : ℕ
    pub place : ℕ
    pub stands : Standing m rules rule
    pub within : place < length (rule_at m rules rule).body
    pub is : b ≡ move_rule m floor (rule_at m rules rule) place

  made_more : (a : Rule W) (rules : List (Rule W)) (b : Rule W) → Made rules b → Made (a ∷ rules) b
  made_more a rules b q = record { rule = suc q.rule; place = q.place; stands = q.stands; within = q.within; is = q.is }

  made_in : (a : Rule W) (rules : List (Rule W)) (s : Bool) → a.struck ≡ s
      → ((k : ℕ) → Standing m (move_rules m floor rules) k → Made rules (rule_at m (move_rules m floor rules) k))
      → (k : ℕ) → Standing m (cond s [] (place_rules m floor a (length a.body)) ++ move_rules m floor rules) k
      → Made (a ∷ rules) (rule_at m (cond s [] (place_rules m floor a (length a.body)) ++ move_rules m floor rules) k)
  made_in a rules true e ih k stands = made_more a rules _ (ih k stands)
  made_in a rules false e ih k stands =
      let n = length a.body in
      let xs = place_rules m floor a n in
      let ys = move_rules m floor rules in
      elim (cases_lt k n) [
        | inl h ↦
            let inside : k < length xs = rw (places_length a n) h in
            record {
              rule = 0;
              place = k;
              stands = not_from_false a.struck e;
              within = h;
              is = get_or_append_left xs ys _ k inside ∙ place_at a n k _ h;
            }
        | inr h ↦
            let there : rule_at m (xs ++ ys) k ≡ rule_at m ys (k - n) = get_or-append_right xs ys n k _ (places_length a n) h in
            subst (Made (a ∷ rules)) (sym there)
            (made_more a rules _ (ih (k - n) (subst (λ x. not x.struck ≡ true) there stands)))
      ]

  -- each rule of contexts, but the first, is such a move
  pub move_made : (rules : List (Rule W)) (k : ℕ) → Standing m (move_rules m floor rules) k → Made rules (rule_at m (move_rules m floor rules) k)
  move_made [] k stands = absurd (both_ways false refl stands)
  move_made (a ∷ rules) k stands = made_in a rules a.struck refl (move_made rules) k stands
