-- Filling the empty slots, one slot at a time.
use Rattle.std.proofs.Common.{◌≡◌, ℕ, ◌+◌, ◌<◌, ◌≤◌, true, false, None, Some, is_some, List, [], ◌∷◌, ◌++◌, length, get_or, take, drop, set, Ok, Err, refl, ◌∙◌, arith}
use Rattle.std.proofs.lemmas.List.{append-nil, append_assoc, take-append-drop, take_more, take_more_set, take_all, drop_more, drop_all, drop-set-lt}
use Rattle.sheet.specs.declared.rule.Rule.{Rule}
use Rattle.sheet.specs.Slots.{Slot}
use Rattle.file.specs.Faults.{Report}
use Rattle.file.specs.Number.{number, short}
use Rattle.file.specs.Rules.{Entry, rule_of, as_rule, rule}
use Rattle.file.specs.Whole.{closing}
use Rattle.file.specs.Entering.{filled}

pub filled_full : (es : List Entry) (r : Rule) (xs : List Slot) → filled es (Some r ∷ xs) ≡ Some r ∷ filled es xs
filled_full [] r xs = refl
filled_full (e ∷ es) r xs = refl

filled_none : (es : List Entry) → filled es [] ≡ []
filled_none [] = refl
filled_none (e ∷ es) = refl

-- i slots that are done, and what the rules that are left make of the others
abbrev so_far : List Entry → ℕ → List Slot → List Slot
so_far es i xs = take i xs ++ filled es (drop i xs)

past_full : (es : List Entry) (i : ℕ) (xs : List Slot) → i < length xs → is_some (get_or xs i None) ≡ true → so_far es (i + 1) xs ≡ so_far es i xs
past_full es i xs h e =
    let d = drop_more xs i None h in
    let t = take_more xs i None h in
    grind (arith, append_assoc, filled_full)

past_empty : (e : Entry) (es : List Entry) (i : ℕ) (xs : List Slot) → i < length xs → is_some (get_or xs i None) ≡ false → so_far es (i + 1) (set xs i (Some (rule_of e))) ≡ so_far (e ∷ es) i xs
past_empty e es i xs h k =
    let d = drop_more xs i None h in
    let t = take_more_set xs i (Some (rule_of e)) h in
    let a = drop-set-lt (i + 1) xs i (Some (rule_of e)) (omega arith) in
    grind (arith, append_assoc)

-- The bytes left are rules and nothing else, which with the first i slots done make ys of all the slots.
pub record Due (size : ℕ) (bs : List ℕ) (i : ℕ) (xs ys : List Slot) : Type 0 where
  pub entries : List Entry
  pub left : Ok entries ≡ closing size (length entries) bs
  pub makes : so_far entries i xs ≡ ys

module _ (size : ℕ) (bs : List ℕ) (i : ℕ) (xs ys : List Slot) where
  one_more : (es : List Entry) → Ok es ≡ closing size (length es) bs → so_far es i xs ≡ ys → (r : Rule) (rest : List ℕ) → i < length xs → is_some (get_or xs i None) ≡ false → Ok (r, rest) ≡ as_rule (rule size bs) → Due size rest (i + 1) (set xs i (Some r)) ys
  unfolding closing rule short number
  one_more [] k m r rest h n got = absurd (grind arith)
  one_more (e ∷ es) k m r rest h n got =
      let same : r ≡ rule_of e = grind arith in
      record { entries = es; left = grind arith; makes = rw same (past_empty e es i xs h n) ∙ m }

  no_more : (es : List Entry) → Ok es ≡ closing size (length es) bs → so_far es i xs ≡ ys → (e : Report) → Err e ≡ as_rule (rule size bs) → xs ≡ ys
  unfolding closing
  no_more [] k m e got = grind (arith, take-append-drop)
  no_more (f ∷ es) k m e got = absurd (grind arith)

  module _ (due : Due size bs i xs ys) where
    pub entering : (r : Rule) (rest : List ℕ) → i < length xs → is_some (get_or xs i None) ≡ false → Ok (r, rest) ≡ as_rule (rule size bs) → Due size rest (i + 1) (set xs i (Some r)) ys
    entering = one_more due.entries due.left due.makes

    pub passing : i < length xs → is_some (get_or xs i None) ≡ true → Due size bs (i + 1) xs ys
    passing h k = record { entries = due.entries; left = due.left; makes = past_full due.entries i xs h k ∙ due.makes }

    pub stopped : (e : Report) → Err e ≡ as_rule (rule size bs) → xs ≡ ys
    stopped = no_more due.entries due.left due.makes

    pub at_end : length xs ≤ i → xs ≡ ys
    at_end h =
        let d = drop_all i xs h in
        let t = take_all i xs h in
        grind (arith, append-nil, filled_none)
