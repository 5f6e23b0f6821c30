-- The rules that a list of calls leaves on a new sheet, by the list and the number of slots alone.
use Rattle.std.specs.Prelude.{ℕ, Bool, true, false, cond, not, ◌&&◌, List, [], ◌∷◌, ◌++◌, map, length, nat_le, nat_lt, slice_index_or, slice_set}
use Rattle.std.specs.List.{fold}
use Rattle.measure.specs.Ops.{Ops, cost_limit}
use Rattle.sheet.specs.Rules.{Inference, body_limit}
use Rattle.derivation.specs.Rules.{Rule}
use Rattle.replay.specs.declared.call.Call.{Call}
use Rattle.replay.specs.declared.call.Call.TheVariants.{Enter, Reprice, Strike, Search}

-- The rule of a number; a number beyond the list reads as a struck rule.
abbrev pub inference_at : List Inference → ℕ → Inference
inference_at rs k = slice_index_or rs k (record { head = 0; body = []; cost = 0; struck = true })

-- Whether a rule of this number is entered and not struck.
abbrev pub stands : List Inference → ℕ → Bool
stands rs k = not (inference_at rs k).struck

-- Whether a call is an edit that is accepted where the rules are rs and there are n slots: none of its refusals holds.
abbrev pub allowed : {G : Type 0} → ℕ → List Inference → Call G → Bool
allowed n rs (Enter h b c) = nat_le (length b.now) body_limit && (nat_le c cost_limit && nat_lt (length rs) n)
allowed n rs (Reprice k c) = stands rs k && nat_le c cost_limit
allowed n rs (Strike k) = stands rs k
allowed n rs (Search f t g) = false

abbrev pub priced : Inference → ℕ → Inference
priced a c = record a { cost = c }

abbrev pub stricken : Inference → Inference
stricken a = record a { struck = true }

-- What an accepted edit makes of the rules: one more at the end, another cost, or a mark.
abbrev pub edited : {G : Type 0} → Call G → List Inference → List Inference
edited (Enter h b c) rs = rs ++ record { head = h; body = b.now; cost = c; struck = false } ∷ []
edited (Reprice k c) rs = slice_set rs k (priced (inference_at rs k) c)
edited (Strike k) rs = slice_set rs k (stricken (inference_at rs k))
edited (Search f t g) rs = rs

-- The rules after a call: an accepted edit changes them, and nothing else does.
abbrev pub rules_next : {G : Type 0} → ℕ → List Inference → Call G → List Inference
rules_next n rs c = cond (allowed n rs c) (edited c rs) rs

-- The rules after a list of calls that finds the rules rs.
abbrev pub rules_from : {G : Type 0} → ℕ → List Inference → List (Call G) → List Inference
rules_from n rs cs = fold (rules_next n) rs cs

-- The rules after a list of calls on a new sheet of n slots.
abbrev pub rules_after : {G : Type 0} → ℕ → List (Call G) → List Inference
rules_after n cs = rules_from n [] cs

-- A rule with the effort of its cost.
abbrev pub weighing : {W : Type 0} → Ops W → Inference → Rule W
weighing m a = record { head = a.head; body = a.body; effort = m.effort a.cost; struck = a.struck }

abbrev pub weighted_after : {W G : Type 0} → Ops W → ℕ → List (Call G) → List (Rule W)
weighted_after m n cs = map (weighing m) (rules_after n cs)
