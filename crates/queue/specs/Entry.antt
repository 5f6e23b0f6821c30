-- The order of entries.
use Rattle.std.specs.Prelude.{Bool, true, false, cond, nat_le}
use Rattle.measure.specs.Ops.{Ops}
use Rattle.queue.specs.declared.entry.Entry.{Entry}

-- One key before the next: whether a comes no later than b by this key, b than a, and by the keys after it.
abbrev pub before : Bool → Bool → Bool → Bool
before ab ba then = cond ab (cond ba then true) false

-- By priority, then by weight, then by rule number.
abbrev pub entry_leb : {W : Type 0} → Ops W → Entry W → Entry W → Bool
entry_leb m a b =
    before (m.leb a.priority b.priority) (m.leb b.priority a.priority)
    (before (m.leb a.weight b.weight) (m.leb b.weight a.weight) (nat_le a.rule b.rule))

-- What an entry counts as: its priority and weight as its measure counts them.
abbrev pub entry_canon : {W : Type 0} → Ops W → Entry W → Entry W
entry_canon m a = record { priority = m.norm a.priority; weight = m.norm a.weight; rule = a.rule }
