-- The main loop's turns, as the code has them.
use Rattle.std.proofs.Common.{◌≡◌, ℕ, ◌+◌, ◌-◌, ◌*◌, ◌<◌, ◌≤◌, Bool, true, false, not, eqb, List, length, get_or, set, Ok, Err, Option, Result, sym, ap, ◌∙◌, subst, arith}
use Rattle.std.proofs.lemmas.List.{get_or_default}
use Rattle.std.proofs.lemmas.Bool.{cond-true, cond-false}
use Rattle.measure.specs.Ops.{Ops, Laws}
use Rattle.queue.specs.declared.entry.Entry.{Entry}
use Rattle.queue.specs.Entry.{entry_leb}
use Rattle.queue.specs.Heap.{Removed}
use Rattle.sheet.specs.Slots.{Slot}
use Rattle.sheet.specs.declared.rule.Rule.{Rule}
use Rattle.sheet.specs.declared.refusal.Refusal.{Refusal}
use Rattle.sheet.specs.declared.refusal.Refusal.TheVariants.{OutOfReach}
use Rattle.sheet.specs.Slots.{rule_at}
use Rattle.derivation.specs.Search.{State, is_closed, no_reason, reached, closed_count, taken_count}
use Rattle.search.specs.declared.columns.Counts.{Counts}
use Rattle.search.specs.Shown.{Shows, wanted, outcome, run_answer}
use Rattle.search.specs.Chains.{uses}
use Rattle.search.specs.Waiting.{unready, Ready}
use Rattle.search.proofs.Steps.{Loop, ended, head_under, dropped, found_shows, chain_open, walked}

abbrev counts : ℕ → ℕ → Counts
counts c t = record { closed = c; taken = t }

-- a state that the columns show, as the answer tells it
told : {W : Type 0} (m : Ops W) (xs : List Slot) (s : State W) (target : Option ℕ) (weights : List W) (reasons order : List ℕ) (closed taken : ℕ)
    → Shows m xs s weights reasons order closed taken → Shows m xs s weights reasons order (closed_count s) (taken_count s)
told m xs s target weights reasons order closed taken h =
    subst (λ (k : ℕ). Shows m xs s weights reasons order (closed_count s) k) h.taken_is
    (subst (λ (k : ℕ). Shows m xs s weights reasons order k taken) h.closed_is h)

module _ {W : Type 0} {m : Ops W} (laws : Laws m) {xs : List Slot} {rest : ℕ → W} {target : Option ℕ}
    {weights : List W} {reasons order missing : List ℕ} {queue : List (Entry W)} {count closed taken : ℕ}
    (now : Loop m xs rest target weights reasons order missing queue count closed taken) where
  abbrev end : State W
  end = outcome m xs rest target

  pub shown_out : count ≡ 0 → (Err (OutOfReach closed taken) ≡ run_answer target end) × Shows m xs end weights reasons order (closed_count end) (taken_count end)
  shown_out z =
      let e = ended laws now z in
      let shows = subst (λ (s : State W). Shows m xs s weights reasons order closed taken) e now.shows in
      let none : reached target end ≡ false = ap (reached target) (sym e) ∙ now.unreached in
      let answer : ℕ → ℕ → Result Counts Refusal = λ k l. Err (OutOfReach k l) in
      let same = ap (λ (k : ℕ). answer k taken) shows.closed_is ∙ ap (answer (closed_count end)) shows.taken_is in (
        same ∙ sym (cond-false (reached target end) (Ok (counts (closed_count end) (taken_count end))) (Err (OutOfReach (closed_count end) (taken_count end))) none),
        told m xs end target weights reasons order closed taken shows,
      )

  module _ {queue' : List (Entry W)} {x : Entry W} (out : Removed (entry_leb m) queue count queue' x)
      {rule : Rule} (is : rule ≡ rule_at xs x.rule) where
    abbrev head : ℕ
    head = rule.head

    is_head : head ≡ (rule_at xs x.rule).head
    is_head = ap (λ (a : Rule). a.head) is

    pub turn_head : head < length weights
    turn_head = omega (arith, is_head, head_under laws now out)

    -- whether the head is closed, as its reason tells it
    closed_is : (b : Bool) → not (eqb (get_or reasons head 0) no_reason) ≡ b → is_closed now.state.closed (rule_at xs x.rule).head ≡ b
    closed_is b h =
        let e : get_or reasons head no_reason ≡ get_or reasons head 0 = get_or_default reasons head no_reason 0 (omega (arith, turn_head, now.reasons_long)) in
        ap (is_closed now.state.closed) (sym is_head)
        ∙ now.running.closed_at head
        ∙ ap (λ k. not (eqb k no_reason)) (sym (now.shows.reasons_at head) ∙ e)
        ∙ h

    -- the head is closed already: the entry is dropped
    pub turn_dropped : not (eqb (get_or reasons head 0) no_reason) ≡ true → Loop m xs rest target weights reasons order missing queue' (count - 1) closed (taken + 1)
    turn_dropped has = dropped laws now out (closed_is true has)

    module _ (none : not (eqb (get_or reasons head 0) no_reason) ≡ false) where
      -- the rules that name the head are visited
      pub turn_open : (k : ℕ) → uses xs head k (4 * length xs) ≤ get_or missing k 0
      turn_open = rw is_head (chain_open laws now out (closed_is false none))

      -- the columns with the head closed
      module _ {weights' : List W} {reasons' order' : List ℕ} {closed' : ℕ}
          (weights_are : weights' ≡ set weights head x.weight) (reasons_are : reasons' ≡ set reasons head x.rule)
          (order_is : order' ≡ set order closed x.rule) (count_is : closed' ≡ closed + 1) where
        -- the head is the target
        pub turn_found : wanted target head ≡ true
            → (Ok (counts closed' (taken + 1)) ≡ run_answer target end) × Shows m xs end weights' reasons' order' (closed_count end) (taken_count end)
        turn_found w =
            let f = found_shows laws now out (closed_is false none) (rw is_head at w) in
            let answer : ℕ → ℕ → Result Counts Refusal = λ k l. Ok (counts k l) in
            let same = ap (λ (k : ℕ). answer k (taken + 1)) (count_is ∙ f.shows.closed_is) ∙ ap (answer (closed_count end)) f.shows.taken_is in (
              same ∙ sym (cond-true (reached target end) (Ok (counts (closed_count end) (taken_count end))) (Err (OutOfReach (closed_count end) (taken_count end))) f.reached_target),
              rw (weights_are, reasons_are, order_is, is_head) (told m xs end target _ _ _ _ _ f.shows),
            )

        pub turn_walked : {missing' : List ℕ} {queue'' : List (Entry W)} {count' : ℕ}
            → wanted target head ≡ false → length missing' ≡ length missing
            → ((k : ℕ) → get_or missing' k 0 + uses xs head k (4 * length xs) ≡ get_or missing k 0)
            → count' + unready missing' ≡ (count - 1) + unready missing
            → ((gone : List ℕ) → Ready m rest xs weights' gone missing queue' (count - 1) → Ready m rest xs weights' gone missing' queue'' count')
            → Loop m xs rest target weights' reasons' order' missing' queue'' count' closed' (taken + 1)
        turn_walked w long left total kept =
            rw (weights_are, reasons_are, order_is, count_is, is_head)
            (walked laws now out (closed_is false none) _ _ _ (rw is_head at w) long (rw is_head at left) total (rw (weights_are, is_head) at kept))
