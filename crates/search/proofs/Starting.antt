-- The start of a search: nothing is closed, and every place is open.
use Rattle.std.proofs.Common.{◌≡◌, ℕ, zero, suc, ◌<◌, cond, eqb, List, [], ◌∷◌, length, get_or, replicate, count_by, sym, refl, ap, ◌∙◌, inl, inr, arith}
use Rattle.std.proofs.lemmas.List.{get_or_past, length-replicate}
use Rattle.std.proofs.lemmas.List.Sums.{sum_by-cons}
use Rattle.std.proofs.lemmas.Bool.{cases_lt, eq-eqb}
use Rattle.measure.specs.Ops.{Ops}
use Rattle.sheet.specs.declared.rule.Rule.{Rule}
use Rattle.sheet.specs.Slots.{Slot}
use Rattle.std.specs.Prelude.{None}
use Rattle.sheet.specs.Rules.{body_of}
use Rattle.sheet.specs.Slots.{rule_at, rule_in}
use Rattle.derivation.specs.Search.{start, no_reason}
use Rattle.search.specs.Waiting.{arity}
use Rattle.search.specs.Shown.{unclosed, open_places, Shows, Running}
use Rattle.search.proofs.Filling.{bit}

pub get_or_same : {A : Type 0} (n f : ℕ) (a : A) → get_or (replicate n a) f a ≡ a
get_or_same zero f a = refl
get_or_same (suc n) zero a = refl
get_or_same (suc n) (suc f) a = get_or_same n f a

all_none : (n : ℕ) → count_by (λ (r : ℕ). eqb r no_reason) (replicate n no_reason) ≡ n
all_none zero = refl
all_none (suc n) =
    let one : bit (eqb no_reason no_reason) ≡ 1 = ap bit (eq-eqb no_reason no_reason refl) in
    let c = sum_by-cons (λ (r : ℕ). bit (eqb r no_reason)) no_reason (replicate n no_reason) in
    omega (arith, one, c, all_none n)

module _ (W : Type 0) where
  none_closed : (body : List ℕ) → unclosed {W = W} [] body ≡ length body
  none_closed [] = refl
  none_closed (x ∷ xs) = omega (arith, none_closed xs)

  open_first : (a : Rule) → arity a ≡ open_places {W = W} [] a
  open_first a = ap (cond a.struck 0) (sym (none_closed (body_of a)))

  pub running_start : (xs : List Slot) (reasons missing : List ℕ) (n : ℕ) → reasons ≡ replicate n no_reason → length missing ≡ length xs
      → ((k : ℕ) → k < length xs → get_or missing k 0 ≡ arity (rule_at xs k))
      → Running xs (start {W = W}) reasons missing 0
  running_start xs reasons missing n e l m = record {
    missing_at = λ r. elim (cases_lt r (length xs)) [
      | inl h ↦ m r h ∙ open_first (rule_at xs r)
      | inr h ↦ get_or_past missing r 0 (omega (arith, l, h)) ∙ sym (ap (λ z. open_places {W = W} [] (rule_in z)) (get_or_past xs r None h))
    ];
    closed_at = λ f. refl;
    free = rw e (let a = all_none n in let b = length-replicate {A = ℕ} n no_reason in omega (arith, a, b));
  }

pub shows_start : {W : Type 0} (m : Ops W) (xs : List Slot) (weights : List W) (reasons order : List ℕ) (n k : ℕ)
    → weights ≡ replicate n m.heaviest → reasons ≡ replicate k no_reason → Shows m xs start weights reasons order 0 0
shows_start m xs weights reasons order n k e f = record {
  weights_at = λ z. ap (λ l. get_or l z m.heaviest) e ∙ get_or_same n z m.heaviest;
  reasons_at = λ z. ap (λ l. get_or l z no_reason) f ∙ get_or_same k z no_reason;
  order_is = refl;
  named = tt;
  closed_is = refl;
  taken_is = refl;
}
