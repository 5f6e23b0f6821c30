-- The entry that a rule has where a column holds the weights of its body.
use Rattle.std.specs.Prelude.{ℕ, List, map, slice_index_or}
use Rattle.measure.specs.Ops.{Ops}
use Rattle.queue.specs.declared.entry.Entry.{Entry}
use Rattle.sheet.specs.declared.rule.Rule.{Rule}
use Rattle.sheet.specs.Rules.{body_of, read}
use Rattle.derivation.specs.Joins.{joined}

-- The weight that a column holds for a fact.
abbrev pub held : {W : Type 0} → Ops W → List W → ℕ → W
held m ws f = slice_index_or ws f m.heaviest

-- A rule's effort joined with the weights of its body.
unfoldable pub rule_weight : {W : Type 0} → Ops W → Rule → List W → W
rule_weight m r ws = m.join (m.effort (read r).cost) (joined m (map (held m ws) (body_of r)))

unfoldable pub rule_entry : {W : Type 0} → Ops W → (ℕ → W) → Rule → ℕ → List W → Entry W
rule_entry m rest r n ws = record { priority = m.join (rule_weight m r ws) (rest r.head); weight = rule_weight m r ws; rule = n }
