-- The rules whose body is closed throughout, and the queue of their entries.
use Rattle.std.specs.Prelude.{◌≡◌, ℕ, ◌≤◌, Bool, true, cond, not, ◌&&◌, ltb, List, length, take, count_by, ◌==◌, nat_eq, nat_lt, slice_index}
use Rattle.std.specs.List.{AllByRecursion}
use Rattle.measure.specs.Ops.{Ops}
use Rattle.queue.specs.declared.entry.Entry.{Entry}
use Rattle.queue.specs.Entry.{entry_leb}
use Rattle.queue.specs.Heap.{Heap}
use Rattle.sheet.specs.Slots.{Slot}
use Rattle.sheet.specs.declared.rule.Rule.{Rule}
use Rattle.sheet.specs.Rules.{body_of}
use Rattle.sheet.specs.Slots.{rule_at}
use Rattle.derivation.specs.Search.{among}
use Rattle.search.specs.Entries.{rule_entry}

-- The open places of a rule before any fact is closed: its body's length, none for a struck rule.
abbrev pub arity : Rule → ℕ
arity r = cond r.struck 0 (length (body_of r))

-- How many rules have an open place.
unfoldable pub unready : List ℕ → ℕ
unready missing = count_by (λ n. ltb 0 n) missing

-- Whether a rule stands, has no open place, and was not taken.
unfoldable pub waiting : List Slot → List ℕ → List ℕ → ℕ → Bool
waiting xs taken missing r = nat_lt r (length missing) && (not (rule_at xs r).struck && (slice_index missing r == 0 && not (among taken r)))

-- The first count elements of the queue are the entries of the flagged rules, each once, in heap order.
pub record Filled {W : Type 0} (m : Ops W) (entry_of : ℕ → Entry W) (flag : ℕ → Bool) (queue : List (Entry W)) (count : ℕ) : Type 0 where
  pub inside : count ≤ length queue
  pub ordered : Heap (entry_leb m) (take count queue)
  pub entries : AllByRecursion (λ e. e ≡ entry_of e.rule) (take count queue)
  pub members : (r : ℕ) → count_by (λ e. nat_eq e.rule r) (take count queue) ≡ cond (flag r) 1 0

-- The entry of rule r under the weights of a column.
abbrev pub entry_at : {W : Type 0} → Ops W → (ℕ → W) → List Slot → List W → ℕ → Entry W
entry_at m rest xs ws r = rule_entry m rest (rule_at xs r) r ws

-- The queue is filled with the entries of the waiting rules, and a rule taken has no open place.
pub record Ready {W : Type 0} (m : Ops W) (rest : ℕ → W) (xs : List Slot) (ws : List W) (taken missing : List ℕ) (queue : List (Entry W)) (count : ℕ) : Type 0 where
  pub filled : Filled m (entry_at m rest xs ws) (waiting xs taken missing) queue count
  pub spent : (r : ℕ) → among taken r ≡ true → slice_index missing r ≡ 0
