-- Weighted rules: what a search works on.
use Rattle.std.specs.Prelude.{◌≡◌, ℕ, Bool, true, not, List, [], slice_index_or}
use Rattle.measure.specs.Ops.{Ops}

-- A rule concludes its head from the facts of its body, in order, at an effort. A struck rule is out of use.
pub record Rule (W : Type 0) : Type 0 where
  pub head : ℕ
  pub body : List ℕ
  pub effort : W
  pub struck : Bool

-- A rule's number is its place in the list. A number beyond the list reads as a struck rule.
abbrev pub rule_at : {W : Type 0} → Ops W → List (Rule W) → ℕ → Rule W
rule_at m rules r = slice_index_or rules r (record { head = 0; body = []; effort = m.nothing; struck = true })

-- A rule is standing where its number is below the length of the list and it is not struck.
abbrev pub standing : {W : Type 0} → Ops W → List (Rule W) → ℕ → Bool
standing m rules r = not (rule_at m rules r).struck

abbrev pub Standing : {W : Type 0} → Ops W → List (Rule W) → ℕ → Type 0
Standing m rules r = standing m rules r ≡ true
