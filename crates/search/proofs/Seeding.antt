-- The first entries, one rule more.
use Rattle.std.proofs.Common.{◌≡◌, ℕ, ◌+◌, ◌<◌, ◌≤◌, Bool, true, false, ◌&&◌, ◌||◌, eqb, ltb, List, [], length, get_or, take, sym, refl, ap, ◌∙◌, inl, inr, arith}
use Rattle.std.proofs.lemmas.List.Sums.{sum_by_more}
use Rattle.std.proofs.lemmas.Bool.{cases_eq, cases_Bool, eq-eqb, ne_eqb, lt-ltb, le-ltb, cases_lt}
use Rattle.measure.specs.Ops.{Ops}
use Rattle.queue.specs.declared.entry.Entry.{Entry}
use Rattle.queue.specs.Entry.{entry_leb}
use Rattle.queue.specs.Heap.{Added}
use Rattle.sheet.specs.Slots.{Slot}
use Rattle.search.specs.Waiting.{unready, waiting, Filled}
use Rattle.search.proofs.Filling.{bit, filled_same, filled_put}
use Rattle.search.proofs.Waiting.{waiting_parts}

-- the rules below i that wait
abbrev pub seeded : List Slot → List ℕ → ℕ → ℕ → Bool
seeded xs ms i r = ltb r i && waiting xs [] ms r

pub seeded_more : (xs : List Slot) (ms : List ℕ) (i r : ℕ) → seeded xs ms (i + 1) r ≡ ((eqb i r && waiting xs [] ms i) || seeded xs ms i r)
seeded_more xs ms i r =
    elim (cases_eq r i) [
      | inl e ↦ rw (e, eq-eqb i i refl, lt-ltb i (i + 1) (omega arith), le-ltb i i (omega arith)) (alone (waiting xs [] ms i))
      | inr e ↦ (elim (cases_lt r i) [
        | inl h ↦ rw (ne_eqb i r (λ q. e (sym q)), lt-ltb r (i + 1) (omega arith), lt-ltb r i h)
        | inr h ↦ rw (ne_eqb i r (λ q. e (sym q)), le-ltb r (i + 1) (omega arith), le-ltb r i h)
      ])
    ]
  where
    alone : (b : Bool) → b ≡ (b || false)
    alone true = refl
    alone false = refl

pub seeded_not : (xs : List Slot) (ms : List ℕ) (i : ℕ) → seeded xs ms i i ≡ false
seeded_not xs ms i = rw (le-ltb i i (omega arith))

pub seeded_all : (xs : List Slot) (ms : List ℕ) (r : ℕ) → waiting xs [] ms r ≡ seeded xs ms (length ms) r
unfolding waiting
seeded_all xs ms r = twice (ltb r (length ms)) _
  where
    twice : (a b : Bool) → (a && b) ≡ (a && (a && b))
    twice true b = refl
    twice false b = refl

pub unready_more : (ms : List ℕ) (i : ℕ) → i < length ms → unready (take (i + 1) ms) ≡ unready (take i ms) + bit (ltb 0 (get_or ms i 0))
unfolding unready
unready_more ms i h = sum_by_more (λ (n : ℕ). bit (ltb 0 n)) ms i 0 h

-- a rule waits or has an open place, not both
pub either_way : (xs : List Slot) (ms : List ℕ) (i : ℕ) → bit (waiting xs [] ms i) + bit (ltb 0 (get_or ms i 0)) ≤ 1
either_way xs ms i =
    elim (cases_Bool (waiting xs [] ms i)) [
      | inl h ↦ (
          let w = waiting_parts xs [] ms i h in
          let a : bit (waiting xs [] ms i) ≡ 1 = ap bit h in
          let b : bit (ltb 0 (get_or ms i 0)) ≡ 0 = ap bit (le-ltb 0 (get_or ms i 0) (omega (arith, w.none_open))) in
          omega (arith, a, b))
      | inr h ↦ (
          let a : bit (waiting xs [] ms i) ≡ 0 = ap bit h in
          omega (arith, a, at_most (ltb 0 (get_or ms i 0))))
    ]
  where
    at_most : (b : Bool) → bit b ≤ 1
    at_most true = omega arith
    at_most false = omega arith

module _ {W : Type 0} (m : Ops W) (of : ℕ → Entry W) where
  pub filled_none : (flag : ℕ → Bool) (queue : List (Entry W)) → ((r : ℕ) → flag r ≡ false) → Filled m of flag queue 0
  filled_none flag queue none = record {
    inside = omega arith;
    ordered = λ k d h l. absurd (omega arith);
    entries = tt;
    members = λ r. ap bit (sym (none r));
  }

  -- nothing is put in
  pub filled_kept : (flag : ℕ → Bool) (i : ℕ) (b : Bool) (queue : List (Entry W)) (count : ℕ) → b ≡ false
      → Filled m of flag queue count → Filled m of (λ k. (eqb i k && b) || flag k) queue count
  filled_kept flag i b queue count e f = filled_same m of flag _ queue count (λ k. rw e (neither (eqb i k) (flag k))) f
    where
      neither : (a c : Bool) → ((a && false) || c) ≡ c
      neither true c = refl
      neither false c = refl

  pub filled_new : (flag : ℕ → Bool) (i : ℕ) (b : Bool) (queue queue' : List (Entry W)) (count n : ℕ) (x : Entry W) → b ≡ true
      → x.rule ≡ i → x ≡ of i → flag i ≡ false → Added (entry_leb m) queue count x queue' n
      → Filled m of flag queue count → Filled m of (λ k. (eqb i k && b) || flag k) queue' n
  filled_new flag i b queue queue' count n x e r is absent a f =
      filled_put m of flag _ queue queue' count n x f a (is ∙ ap of (sym r)) (ap flag r ∙ absent) (λ k. rw (e, r) (both (eqb i k) (flag k)))
    where
      both : (a c : Bool) → ((a && true) || c) ≡ (a || c)
      both true c = refl
      both false c = refl
