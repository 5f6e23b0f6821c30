-- From the columns of a finished search to what the definitions give.
use Rattle.std.proofs.Common.{◌≡◌, ℕ, ◌<◌, ◌≤◌, Bool, true, false, cond, List, [], ◌∷◌, ◌++◌, map, reverse, length, get_or, take, drop, Some, None, Ok, Err, Result, sym, refl, ap, ◌∙◌, arith, length-take}
use mathlib.Core.List.{reverse-reverse, reverse-cons}
use Rattle.std.specs.List.{AllByRecursion}
use Rattle.std.proofs.lemmas.List.FromFn.{fill_by_all}
use Rattle.std.proofs.lemmas.List.{length-reverse, length-map}
use Rattle.std.proofs.ByRecursion.{All-push, All-map, All-weaker}
use Rattle.measure.specs.Ops.{Ops}
use Rattle.sheet.specs.Slots.{Slot}
use Rattle.sheet.specs.declared.refusal.Refusal.{Refusal}
use Rattle.sheet.specs.declared.refusal.Refusal.TheVariants.{OutOfReach}
use Rattle.sheet.specs.Refusals.{accepted}
use Rattle.sheet.specs.Rules.{body_of}
use Rattle.sheet.specs.Slots.{rule_at}
use Rattle.derivation.specs.Search.{Closed, State, no_reason, is_closed, weight_in, weight_of, reason_of, closed_count, taken_count, answer as found_weight}
use Rattle.derivation.specs.Line.{unwound, line}
use Rattle.guide.specs.Weighted.{weighted}
use Rattle.search.specs.Unwound.{unwound_rules, drawn_line}
use Rattle.search.specs.declared.columns.Found.{Found}
use Rattle.search.specs.declared.columns.Counts.{Counts}
use Rattle.search.specs.Shown.{Shows, run_answer}
use Rattle.search.specs.Answered.{column, told_found}
use Rattle.search.proofs.Matching.{body_is}

all_reverse : {A : Type 0} (P : A → Type 0) (l : List A) → AllByRecursion P l → AllByRecursion P (reverse l)
all_reverse P [] h = tt
all_reverse P (x ∷ l) h = rw (reverse-cons x l) (All-push P (reverse l) x (all_reverse P l h.1) h.0)

-- a closed fact is the head of its rule
abbrev pub Named : {W : Type 0} → List Slot → Closed W → Type 0
Named xs c = (c.rule < length xs) × ((rule_at xs c.rule).struck ≡ false) × ((rule_at xs c.rule).head ≡ c.fact)

module _ {W : Type 0} (m : Ops W) (xs : List Slot) where
  unwound_is : (cs : List (Closed W)) → AllByRecursion (Named xs) cs → (needed : List ℕ)
      → unwound_rules xs (map (λ c. c.rule) cs) needed ≡ unwound m (weighted m xs) cs needed
  unwound_is [] h needed = refl
  unwound_is (c ∷ cs) h needed =
      rw (h.0.2, body_is m xs c.rule, unwound_is cs h.1 (body_of (rule_at xs c.rule) ++ needed), unwound_is cs h.1 needed)

  module _ (s : State W) (weights : List W) (reasons order : List ℕ) (closed taken : ℕ) (shown : Shows m xs s weights reasons order closed taken) where
    pub line_is : (target : ℕ) → drawn_line xs (take closed order) target ≡ line m (weighted m xs) s target
    line_is target =
        ap (λ l. reverse (unwound_rules xs l (target ∷ []))) (ap reverse shown.order_is ∙ reverse-reverse _)
        ∙ ap reverse (unwound_is s.closed shown.named (target ∷ []))

    pub rules_stand : AllByRecursion (λ r. (r < length xs) × ((rule_at xs r).struck ≡ false)) (take closed order)
    rules_stand = rw shown.order_is (all_reverse _ _ (All-map _ (λ (c : Closed W). c.rule) s.closed (All-weaker (Named xs) _ (λ c h. (h.0, h.1)) s.closed shown.named)))

    pub order_long : closed ≤ length order
    order_long =
        let a = ap length shown.order_is in
        let b = length-reverse (map (λ (c : Closed W). c.rule) s.closed) in
        let d = length-map s.closed (λ (c : Closed W). c.rule) in
        omega (arith, a, b, d, length-take closed order, shown.closed_is)

    pub weights_are : (n : ℕ) → length weights ≡ n → weights ≡ column (weight_of m s) n
    weights_are n e = fill_by_all (weight_of m s) weights n m.heaviest e (λ k _. shown.weights_at k)

    pub reasons_are : (n : ℕ) → length reasons ≡ n → reasons ≡ column (reason_of s) n
    reasons_are n e = fill_by_all (reason_of s) reasons n no_reason e (λ k _. shown.reasons_at k)

-- What the main loop's answer tells.
module _ {W : Type 0} (m : Ops W) (s : State W) (target : ℕ) where
  pub record Reached (k : Counts) : Type 0 where
    pub closed_is : k.closed ≡ closed_count s
    pub taken_is : k.taken ≡ taken_count s
    pub found : found_weight m target s ≡ Some (weight_in m s.closed target)

  pub told_in : (k : Counts) → Ok k ≡ run_answer (Some target) s → Reached k
  told_in k h = go (is_closed s.closed target) refl h
    where
      go : (b : Bool) → is_closed s.closed target ≡ b
          → ◌≡◌ {A = Result Counts Refusal} (Ok k) (cond b (Ok (record { closed = closed_count s; taken = taken_count s })) (Err (OutOfReach (closed_count s) (taken_count s))))
          → Reached k
      go true e q =
          let z : k ≡ record { closed = closed_count s; taken = taken_count s } = cc in
          record { closed_is = ap (λ (c : Counts). c.closed) z; taken_is = ap (λ (c : Counts). c.taken) z; found = ap (λ b. cond b (Some (weight_in m s.closed target)) None) e }
      go false e q = let z : ◌≡◌ {A = ℕ} 0 1 = cc in absurd (omega arith)

-- A target that is closed: what is answered and drawn.
module _ {W : Type 0} (m : Ops W) (xs : List Slot) (s : State W) (weights : List W) (reasons order : List ℕ) (target : ℕ) (k : Counts)
    (shown : Shows m xs s weights reasons order (closed_count s) (taken_count s)) (reached : Reached m s target k) where
  pub drawn_is : drawn_line xs (take k.closed order) target ≡ line m (weighted m xs) s target
  drawn_is = ap (λ (n : ℕ). drawn_line xs (take n order) target) reached.closed_is ∙ line_is m xs s weights reasons order (closed_count s) (taken_count s) shown target

  abbrev found_at : W → ℕ → ℕ → List ℕ → Found W
  found_at w a b l = record { weight = w; closed = a; taken = b; line = length l }

  pub found_told : (r : Found W) → r ≡ found_at (get_or weights target m.heaviest) k.closed k.taken (drawn_line xs (take k.closed order) target)
      → accepted r ≡ told_found (line m (weighted m xs) s target) s (found_weight m target s)
  found_told r e =
      let same : r ≡ found_at (weight_in m s.closed target) (closed_count s) (taken_count s) (line m (weighted m xs) s target) =
      e
      ∙ ap (λ w. found_at w k.closed k.taken (drawn_line xs (take k.closed order) target)) (shown.weights_at target)
      ∙ ap (λ (n : ℕ). found_at (weight_in m s.closed target) n k.taken (drawn_line xs (take k.closed order) target)) reached.closed_is
      ∙ ap (λ (n : ℕ). found_at (weight_in m s.closed target) (closed_count s) n (drawn_line xs (take k.closed order) target)) reached.taken_is
      ∙ ap (found_at (weight_in m s.closed target) (closed_count s) (taken_count s)) drawn_is in
      ap accepted same ∙ sym (ap (told_found (line m (weighted m xs) s target) s) reached.found)

  pub line_drawn : (l l₀ : List ℕ) → l ≡ drawn_line xs (take k.closed order) target ++ drop (length (drawn_line xs (take k.closed order) target)) l₀
      → l ≡ line m (weighted m xs) s target ++ drop (length (line m (weighted m xs) s target)) l₀
  line_drawn l l₀ e = e ∙ ap (λ z. z ++ drop (length z) l₀) drawn_is
