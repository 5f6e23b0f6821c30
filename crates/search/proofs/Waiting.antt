-- Which rules wait after one open place fewer.
use Rattle.std.proofs.Common.{◌≡◌, ℕ, ◌+◌, ◌-◌, ◌<◌, true, false, not, ◌&&◌, ◌||◌, eqb, ltb, List, length, get_or, set, sym, refl, ap, ◌∙◌, inl, inr, arith, length-set}
use Rattle.std.proofs.lemmas.List.Sums.{sum_by-set, get_or-le-sum_by}
use Rattle.std.proofs.lemmas.List.{get_or-set_same, get_or-set_other}
use Rattle.std.proofs.lemmas.Bool.{cases_eq, cases_Bool, both_ways, eqb-true, eq-eqb, ne_eqb, lt-ltb, ltb-true, and_parts, not-true}
use Rattle.measure.specs.Ops.{Ops}
use Rattle.queue.specs.declared.entry.Entry.{Entry}
use Rattle.queue.specs.Entry.{entry_leb}
use Rattle.queue.specs.Heap.{Added}
use Rattle.sheet.specs.Slots.{Slot}
use Rattle.sheet.specs.Slots.{rule_at}
use Rattle.derivation.specs.Search.{among}
use Rattle.search.specs.Entries.{rule_entry}
use Rattle.search.specs.Waiting.{unready, waiting, entry_at, Ready}
use Rattle.search.proofs.Filling.{bit, filled_same, filled_put}

-- the rules with an open place, after a change of one count
pub unready_set : (ms : List ℕ) (i v : ℕ) → i < length ms → unready (set ms i v) + bit (ltb 0 (get_or ms i 0)) ≡ unready ms + bit (ltb 0 v)
unfolding unready
unready_set ms i v h = sum_by-set (λ (n : ℕ). bit (ltb 0 n)) ms i v 0 h

pub unready_some : (ms : List ℕ) (i : ℕ) → i < length ms → 0 < get_or ms i 0 → 0 < unready ms
unfolding unready
unready_some ms i h p =
    let e : bit (ltb 0 (get_or ms i 0)) ≡ 1 = ap bit (lt-ltb 0 (get_or ms i 0) p) in
    omega (arith, get_or-le-sum_by (λ (n : ℕ). bit (ltb 0 n)) ms i 0 h, e)

-- a waiting rule's parts
pub record Waits (xs : List Slot) (taken ms : List ℕ) (r : ℕ) : Type 0 where
  pub under : r < length ms
  pub stands : (rule_at xs r).struck ≡ false
  pub none_open : get_or ms r 0 ≡ 0
  pub untaken : among taken r ≡ false

pub waiting_parts : (xs : List Slot) (taken ms : List ℕ) (r : ℕ) → waiting xs taken ms r ≡ true → Waits xs taken ms r
unfolding waiting
waiting_parts xs taken ms r h =
    let a = and_parts (ltb r (length ms)) (not (rule_at xs r).struck && (eqb (get_or ms r 0) 0 && not (among taken r))) h in
    let b = and_parts (not (rule_at xs r).struck) (eqb (get_or ms r 0) 0 && not (among taken r)) a.1 in
    let c = and_parts (eqb (get_or ms r 0) 0) (not (among taken r)) b.1 in
    record { under = ltb-true r (length ms) a.0; stands = not-true _ b.0; none_open = eqb-true (get_or ms r 0) 0 c.0; untaken = not-true _ c.1 }

pub waiting_here : (xs : List Slot) (taken ms : List ℕ) (r : ℕ) → Waits xs taken ms r → waiting xs taken ms r ≡ true
unfolding waiting
waiting_here xs taken ms r w = rw (lt-ltb r (length ms) w.under, w.stands, eq-eqb (get_or ms r 0) 0 w.none_open, w.untaken)

pub waiting_not : (xs : List Slot) (taken ms : List ℕ) (r : ℕ) → (Waits xs taken ms r → ⊥) → waiting xs taken ms r ≡ false
waiting_not xs taken ms r n = elim (cases_Bool (waiting xs taken ms r)) [ inl h ↦ absurd (n (waiting_parts xs taken ms r h)) | inr h ↦ h ]

module _ (xs : List Slot) (taken ms : List ℕ) (i v : ℕ) (under : i < length ms) (open_before : 0 < get_or ms i 0) where
  waiting_other : (r : ℕ) → (r ≡ i → ⊥) → waiting xs taken (set ms i v) r ≡ waiting xs taken ms r
  unfolding waiting
  waiting_other r ne = rw (length-set ms i v, get_or-set_other ms i r v 0 ne)

  -- a place is still open
  pub waiting_still : 0 < v → (r : ℕ) → waiting xs taken (set ms i v) r ≡ waiting xs taken ms r
  waiting_still p r =
      elim (cases_eq r i) [
        | inl e ↦ waiting_not _ _ _ _ (λ w. let z = w.none_open in let q = get_or-set_same ms i v 0 under in omega (arith, (rw e at z), q))
            ∙ sym (waiting_not _ _ _ _ (λ w. let z = w.none_open in omega (arith, (rw e at z))))
        | inr e ↦ waiting_other r e
      ]

  -- the last open place is closed
  pub waiting_now : v ≡ 0 → (rule_at xs i).struck ≡ false → among taken i ≡ false → (r : ℕ) → waiting xs taken (set ms i v) r ≡ (eqb i r || waiting xs taken ms r)
  waiting_now z s t r =
      elim (cases_eq r i) [
        | inl e ↦ rw (e, eq-eqb i i refl) (waiting_here xs taken (set ms i v) i (record { under = rw (length-set ms i v) under; stands = s; none_open = get_or-set_same ms i v 0 under ∙ z; untaken = t }))
        | inr e ↦ rw (ne_eqb i r (λ q. e (sym q))) (waiting_other r e)
      ]

  pub waiting_before : waiting xs taken ms i ≡ false
  waiting_before = waiting_not _ _ _ _ (λ w. omega (arith, w.none_open))

-- Ready, after one open place fewer of rule i
module _ {W : Type 0} (m : Ops W) (rest : ℕ → W) (xs : List Slot) (ws : List W) (taken ms : List ℕ) (i : ℕ)
    (under : i < length ms) (stands : (rule_at xs i).struck ≡ false) (some : 0 < get_or ms i 0)
    (queue : List (Entry W)) (count : ℕ) (ready : Ready m rest xs ws taken ms queue count) where
  untaken : among taken i ≡ false
  untaken = elim (cases_Bool (among taken i)) [ inl h ↦ absurd (let e = ready.spent i h in omega arith) | inr h ↦ h ]

  spent_still : (v r : ℕ) → among taken r ≡ true → get_or (set ms i v) r 0 ≡ 0
  spent_still v r h =
      elim (cases_eq r i) [
        | inl e ↦ absurd (both_ways _ untaken (rw e at h))
        | inr e ↦ get_or-set_other ms i r v 0 e ∙ ready.spent r h
      ]

  pub ready_still : 0 < get_or ms i 0 - 1 → Ready m rest xs ws taken (set ms i (get_or ms i 0 - 1)) queue count
  ready_still p = record {
    filled = filled_same m (entry_at m rest xs ws) _ _ queue count (waiting_still xs taken ms i (get_or ms i 0 - 1) under some p) ready.filled;
    spent = spent_still (get_or ms i 0 - 1);
  }

  pub ready_put : get_or ms i 0 - 1 ≡ 0 → (x : Entry W) (queue' : List (Entry W)) (n : ℕ) → x ≡ entry_at m rest xs ws i
      → Added (entry_leb m) queue count x queue' n → Ready m rest xs ws taken (set ms i (get_or ms i 0 - 1)) queue' n
  unfolding rule_entry
  ready_put z x queue' n is a =
      let e : x.rule ≡ i = ap (λ (y : Entry W). y.rule) is in
      record {
        filled = filled_put m (entry_at m rest xs ws) (waiting xs taken ms) _ queue queue' count n x ready.filled a
            (is ∙ ap (entry_at m rest xs ws) (sym e))
            (ap (waiting xs taken ms) e ∙ waiting_before xs taken ms i 0 under some)
            (λ r. waiting_now xs taken ms i (get_or ms i 0 - 1) under some z stands untaken r ∙ ap (λ k. eqb k r || waiting xs taken ms r) (sym e));
        spent = spent_still (get_or ms i 0 - 1);
      }
