-- The line, from the rules in closing order.
use Rattle.std.specs.Prelude.{ℕ, cond, List, [], ◌∷◌, ◌++◌, reverse}
use Rattle.sheet.specs.Slots.{Slot}
use Rattle.sheet.specs.Rules.{body_of}
use Rattle.sheet.specs.Slots.{rule_at}
use Rattle.derivation.specs.Search.{among}

-- Going back from the last rule: those whose head is needed. A rule's body is needed where its head is.
abbrev pub unwound_rules : List Slot → List ℕ → List ℕ → List ℕ
unwound_rules xs [] needed = []
unwound_rules xs (r ∷ rs) needed =
    cond (among needed (rule_at xs r).head) (r ∷ unwound_rules xs rs (body_of (rule_at xs r) ++ needed)) (unwound_rules xs rs needed)

-- The line of rules in closing order.
abbrev pub drawn_line : List Slot → List ℕ → ℕ → List ℕ
drawn_line xs order target = reverse (unwound_rules xs (reverse order) (target ∷ []))
