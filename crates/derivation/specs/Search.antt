-- The search as a definition that computes.
use Rattle.std.specs.Prelude.{ℕ, zero, suc, Bool, true, false, cond, not, ◌&&◌, ◌||◌, List, [], ◌∷◌, map, length, Some, None, Option, ◌==◌}
use Rattle.measure.specs.Ops.{Ops}
pub use Rattle.queue.specs.declared.entry.Entry.{Entry}
pub use Rattle.queue.specs.Entry.{before as ahead}
use Rattle.queue.specs.Entry.{entry_leb}
use Rattle.derivation.specs.Rules.{Rule, rule_at, standing}
use Rattle.derivation.specs.Joins.{joined}

-- A closed fact, with the weight and the rule that it was closed at.
pub record Closed (W : Type 0) : Type 0 where
  pub fact : ℕ
  pub weight : W
  pub rule : ℕ

-- The reason of a fact that is not closed.
abbrev pub no_reason : ℕ
no_reason = 65535

-- Whether a fact is closed.
abbrev pub is_closed : {W : Type 0} → List (Closed W) → ℕ → Bool
is_closed [] f = false
is_closed (c ∷ cs) f = c.fact == f || is_closed cs f

-- The weight that a fact was closed at; heaviest for any other.
abbrev pub weight_in : {W : Type 0} → Ops W → List (Closed W) → ℕ → W
weight_in m [] f = m.heaviest
weight_in m (c ∷ cs) f = cond (c.fact == f) c.weight (weight_in m cs f)

-- The rule that a fact was closed by; 65,535 for any other.
abbrev pub reason_in : {W : Type 0} → List (Closed W) → ℕ → ℕ
reason_in [] f = no_reason
reason_in (c ∷ cs) f = cond (c.fact == f) c.rule (reason_in cs f)

-- Whether every fact of a body is closed.
abbrev pub all_closed : {W : Type 0} → List (Closed W) → List ℕ → Bool
all_closed cs [] = true
all_closed cs (f ∷ fs) = is_closed cs f && all_closed cs fs

-- Whether a number is in a list.
abbrev pub among : List ℕ → ℕ → Bool
among [] n = false
among (x ∷ xs) n = x == n || among xs n

-- The order of entries: by priority, then by weight, then by rule number.
abbrev pub before : {W : Type 0} → Ops W → Entry W → Entry W → Bool
before m a b = entry_leb m a b

-- The first of two entries, where there are any.
abbrev pub first : {W : Type 0} → Ops W → Option (Entry W) → Option (Entry W) → Option (Entry W)
first m None b = b
first m (Some a) None = Some a
first m (Some a) (Some b) = Some (cond (before m a b) a b)

-- The closed facts, the last closed first, and the numbers of the rules taken, the last taken first.
pub record State (W : Type 0) : Type 0 where
  pub closed : List (Closed W)
  pub taken : List ℕ

module _ {W : Type 0} (m : Ops W) (rules : List (Rule W)) where
  -- A rule is in the queue where it is standing, its body is closed throughout, and it was not taken.
  unfoldable pub queued : State W → ℕ → Bool
  queued s r = standing m rules r && (all_closed s.closed (rule_at m rules r).body && not (among s.taken r))

  -- Taking an entry: its head is closed by it, unless it is closed already.
  unfoldable pub take_entry : State W → Entry W → State W
  take_entry s e =
      let f = (rule_at m rules e.rule).head in
      record {
        closed = cond (is_closed s.closed f) s.closed (record { fact = f; weight = e.weight; rule = e.rule } ∷ s.closed);
        taken = e.rule ∷ s.taken;
      }

module _ {W : Type 0} (m : Ops W) (rules : List (Rule W)) (rest : ℕ → W) where
  -- The entry of a rule: it weighs the effort and the weights that its body was closed at, joined.
  unfoldable pub entry : List (Closed W) → ℕ → Entry W
  entry cs r =
      let a = rule_at m rules r in
      let w = m.join a.effort (joined m (map (weight_in m cs) a.body)) in
      record { priority = m.join w (rest a.head); weight = w; rule = r }

  unfoldable pub candidate : State W → ℕ → Option (Entry W)
  candidate s r = cond (queued m rules s r) (Some (entry s.closed r)) None

  -- The first entry of the queue, among the rules with numbers below n.
  abbrev pub least : State W → ℕ → Option (Entry W)
  least s zero = None
  least s (suc n) = first m (least s n) (candidate s n)

-- Whether the target is closed; a survey has no target.
abbrev pub reached : {W : Type 0} → Option ℕ → State W → Bool
reached None s = false
reached (Some t) s = is_closed s.closed t

module _ {W : Type 0} (m : Ops W) (rules : List (Rule W)) where
  abbrev pub after : State W → Option (Entry W) → Option (State W)
  after s None = None
  after s (Some e) = Some (take_entry m rules s e)

abbrev pub onward : {W : Type 0} → State W → (State W → State W) → Option (State W) → State W
onward s go None = s
onward s go (Some s') = go s'

-- The state in which nothing is closed or taken.
abbrev pub start : {W : Type 0} → State W
start = record { closed = []; taken = [] }

module _ {W : Type 0} (m : Ops W) (rules : List (Rule W)) (rest : ℕ → W) (target : Option ℕ) where
  -- One step: none where the target is closed or the queue is empty.
  unfoldable pub step : State W → Option (State W)
  step s = cond (reached target s) None (after m rules s (least m rules rest s (length rules)))

  -- Steps as long as there are any, at most so many.
  abbrev pub run : ℕ → State W → State W
  run zero s = s
  run (suc k) s = onward s (run k) (step s)

  -- The state at the end: each step takes another rule, so that there are no more steps than rules.
  unfoldable pub final : State W
  final = run (suc (length rules)) start

-- A survey: no target, and nothing for every rest.
abbrev pub survey : {W : Type 0} → Ops W → List (Rule W) → State W
survey m rules = final m rules (λ f. m.nothing) None

-- What a search for a target answers: the target's weight, or out of reach.
abbrev pub answer : {W : Type 0} → Ops W → ℕ → State W → Option W
answer m t s = cond (is_closed s.closed t) (Some (weight_in m s.closed t)) None

-- How many facts are closed, and how many entries were taken.
abbrev pub closed_count : {W : Type 0} → State W → ℕ
closed_count s = length s.closed

abbrev pub taken_count : {W : Type 0} → State W → ℕ
taken_count s = length s.taken

-- The weight and the reason column.
abbrev pub weight_of : {W : Type 0} → Ops W → State W → ℕ → W
weight_of m s f = weight_in m s.closed f

abbrev pub reason_of : {W : Type 0} → State W → ℕ → ℕ
reason_of s f = reason_in s.closed f
