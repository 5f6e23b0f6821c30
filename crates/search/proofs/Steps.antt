-- The main loop, turn by turn.
use Rattle.std.proofs.Common.{◌≡◌, ℕ, suc, ◌+◌, ◌-◌, ◌*◌, ◌<◌, ◌≤◌, Bool, true, false, not, ◌&&◌, ◌||◌, eqb, ltb, List, [], ◌∷◌, ◌++◌, map, length, get_or, take, set, Some, None, count_by, Option, sym, refl, ap, ◌∙◌, subst, inl, inr, add-one, arith, length-set}
use mathlib.Core.List.{reverse-cons}
use Rattle.std.proofs.lemmas.List.{get_or-set_same, get_or-set_other, take_more_set}
use Rattle.std.proofs.lemmas.List.Sums.{sum_by-set, get_or-le-sum_by}
use Rattle.std.proofs.lemmas.Bool.{cases_eq, cases_Bool, eq-eqb, eqb-true, ne_eqb, not_from_false, not-false}
use Rattle.measure.specs.Ops.{Ops, Laws}
use Rattle.queue.specs.declared.entry.Entry.{Entry}
use Rattle.queue.specs.Entry.{entry_leb}
use Rattle.queue.specs.Heap.{Removed}
use Rattle.sheet.specs.Slots.{Slot}
use Rattle.sheet.specs.Slots.{rule_at, passes}
use Rattle.sheet.proofs.Within.{passes_at, within_parts}
use Rattle.derivation.specs.Search.{Closed, State, start, is_closed, no_reason, among, queued, entry, take_entry, reached, step, run, final}
use Rattle.guide.specs.Weighted.{weighted}
use Rattle.search.specs.Chains.{uses}
use Rattle.search.specs.Waiting.{unready, waiting, entry_at, Ready}
use Rattle.search.proofs.Filling.{bit, Taken, filled_take}
use Rattle.search.proofs.Waiting.{Waits, waiting_parts}
use Rattle.search.specs.Shown.{Shows, Running, wanted, outcome}
use Rattle.search.proofs.Least.{least_is, none_least, step_none, step_reached, step_some, run_ended, run_on}
use Rattle.search.proofs.Opening.{uses_whole, open_less}
use Rattle.search.proofs.Matching.{head_is, length_weighted, queued_is, entry_is, entry_kept, filled_swap}

-- What holds at the start of each turn.
pub record Loop {W : Type 0} (m : Ops W) (xs : List Slot) (rest : ℕ → W) (target : Option ℕ)
    (weights : List W) (reasons order missing : List ℕ) (queue : List (Entry W)) (count closed taken : ℕ) : Type 0 where
  pub state : State W
  pub shows : Shows m xs state weights reasons order closed taken
  pub running : Running xs state reasons missing closed
  pub ready : Ready m rest xs weights state.taken missing queue count
  pub room : taken + (count + unready missing) ≤ length xs
  pub on : run m (weighted m xs) rest target (suc (length xs) - taken) state ≡ outcome m xs rest target
  pub unreached : reached target state ≡ false
  pub missing_long : length missing ≡ length xs
  pub reasons_long : length reasons ≡ length weights
  pub order_long : length order ≡ length weights
  pub within : passes (length weights) xs ≡ true
  pub few : length xs ≤ 16000

start_unreached : (W : Type 0) (target : Option ℕ) → reached target (start {W = W}) ≡ false
start_unreached W None = refl
start_unreached W (Some t) = refl

module _ {W : Type 0} (m : Ops W) (xs : List Slot) (rest : ℕ → W) (target : Option ℕ) where
  pub loop_start : (weights : List W) (reasons order missing : List ℕ) (queue : List (Entry W)) (count closed : ℕ)
      → Shows m xs start weights reasons order closed 0 → Running xs (start {W = W}) reasons missing closed
      → Ready m rest xs weights [] missing queue count → count + unready missing ≤ length xs
      → length missing ≡ length xs → length reasons ≡ length weights → length order ≡ length weights
      → passes (length weights) xs ≡ true → length xs ≤ 16000
      → Loop m xs rest target weights reasons order missing queue count closed 0
  unfolding outcome final
  loop_start weights reasons order missing queue count closed a b c d e f g h i = record {
    state = start;
    shows = a;
    running = b;
    ready = c;
    room = omega (arith, d);
    on = ap (λ k. run m (weighted m xs) rest target k start) (let e : suc (length xs) - 0 ≡ suc (length (weighted m xs)) = omega (arith, length_weighted m xs) in e);
    unreached = start_unreached W target;
    missing_long = e;
    reasons_long = f;
    order_long = g;
    within = h;
    few = i;
  }

waiting_taken : (xs : List Slot) (taken ms : List ℕ) (r k : ℕ) → waiting xs (r ∷ taken) ms k ≡ (not (eqb r k) && waiting xs taken ms k)
unfolding waiting
waiting_taken xs taken ms r k = shift (ltb k (length ms)) (not (rule_at xs k).struck) (eqb (get_or ms k 0) 0) (eqb r k) (among taken k)
  where
    shift : (a b c d e : Bool) → (a && (b && (c && not (d || e)))) ≡ (not d && (a && (b && (c && not e))))
    shift true true true true e = refl
    shift true true false true e = refl
    shift true false c true e = refl
    shift false b c true e = refl
    shift a b c false e = refl

-- a closed fact that is not the target
reached_next : {W : Type 0} (target : Option ℕ) (cs : List (Closed W)) (c : Closed W) (taken taken' : List ℕ)
    → reached target (record { closed = cs; taken = taken }) ≡ false
    → reached target (record { closed = c ∷ cs; taken = taken' }) ≡ wanted target c.fact
reached_next None cs c taken taken' h = refl
reached_next (Some t) cs c taken taken' h = rw h (alone (eqb c.fact t))
  where
    alone : (b : Bool) → (b || false) ≡ b
    alone true = refl
    alone false = refl

module _ {W : Type 0} {m : Ops W} (laws : Laws m) {xs : List Slot} {rest : ℕ → W} {target : Option ℕ}
    {weights : List W} {reasons order missing : List ℕ} {queue : List (Entry W)} {count closed taken : ℕ}
    (now : Loop m xs rest target weights reasons order missing queue count closed taken) where
  abbrev s : State W
  s = now.state

  queue_is : (r : ℕ) → queued m (weighted m xs) s r ≡ waiting xs s.taken missing r
  queue_is r = queued_is m xs s missing r now.missing_long (now.running.missing_at r)

  -- the queue is empty: the state is the last one
  pub ended : count ≡ 0 → s ≡ outcome m xs rest target
  ended z =
      let none : (r : ℕ) → waiting xs s.taken missing r ≡ false = λ r.
      elim (cases_Bool (waiting xs s.taken missing r)) [
        | inl h ↦ (
            let e : bit (waiting xs s.taken missing r) ≡ 1 = ap bit h in
            let c = now.ready.filled.members r in
            let t : count_by (λ (e : Entry W). eqb e.rule r) (take count queue) ≡ 0 = ap (λ k. count_by (λ (e : Entry W). eqb e.rule r) (take k queue)) z in
            absurd (omega (arith, e, c, t)))
        | inr h ↦ h
      ] in
      let l = none_least laws (weighted m xs) rest target s (λ r. queue_is r ∙ none r) (length (weighted m xs)) in
      sym (run_ended laws (weighted m xs) rest target s (step_none laws (weighted m xs) rest target s l) (suc (length xs) - taken)) ∙ now.on

  module _ {queue' : List (Entry W)} {x : Entry W} (out : Removed (entry_leb m) queue count queue' x) where
    abbrev r : ℕ
    r = x.rule

    abbrev h : ℕ
    h = (rule_at xs r).head

    taken_out : Taken m (entry_at m rest xs weights) (waiting xs s.taken missing) (waiting xs (r ∷ s.taken) missing) queue' (count - 1) x
    taken_out = filled_take m (entry_at m rest xs weights) _ _ queue queue' count x now.ready.filled out (waiting_taken xs s.taken missing r)

    waits : Waits xs s.taken missing r
    waits = waiting_parts xs s.taken missing r taken_out.flagged

    pub rule_under : r < length xs
    rule_under = omega (arith, waits.under, now.missing_long)

    pub head_under : h < length weights
    head_under = (within_parts (length weights) (rule_at xs r) (passes_at (length weights) xs r now.within rule_under).1 waits.stands).0

    least_entry : step m (weighted m xs) rest target s ≡ Some (take_entry m (weighted m xs) s x)
    least_entry =
        let entries : (k : ℕ) → k < length xs → entry m (weighted m xs) rest s.closed k ≡ entry_at m rest xs weights k =
        λ k b. entry_is m rest xs s.closed weights k (length weights) now.within b now.shows.weights_at in
        let under : (k : ℕ) → waiting xs s.taken missing k ≡ true → k < length xs =
        λ k q. omega (arith, (waiting_parts xs s.taken missing k q).under, now.missing_long) in
        let l = least_is laws (weighted m xs) rest s x (queue_is r ∙ taken_out.flagged) (taken_out.is ∙ sym (entries r rule_under))
        (λ k q. let w = sym (queue_is k) ∙ q in rw (entries k (under k w)) (taken_out.least k w))
        (length (weighted m xs)) (rw (length_weighted m xs) rule_under) in
        step_some laws (weighted m xs) rest target s x now.unreached l

    spent : (k : ℕ) → among (r ∷ s.taken) k ≡ true → get_or missing k 0 ≡ 0
    spent k q = elim (cases_Bool (eqb r k)) [
      | inl e ↦ ap (λ z. get_or missing z 0) (sym (eqb-true r k e)) ∙ waits.none_open
      | inr e ↦ now.ready.spent k (rw e at q)
    ]

    ready_next : Ready m rest xs weights (r ∷ s.taken) missing queue' (count - 1)
    ready_next = record { filled = taken_out.filled; spent = spent }

    pub room_next : (taken + 1) + ((count - 1) + unready missing) ≤ length xs
    room_next = omega (arith, now.room, out.some)

    on_next : run m (weighted m xs) rest target (suc (length xs) - (taken + 1)) (take_entry m (weighted m xs) s x) ≡ outcome m xs rest target
    on_next = sym (run_on laws (weighted m xs) rest target s _ (length xs) taken (omega (arith, now.room)) least_entry) ∙ now.on

    -- the head is closed already
    is_dropped : is_closed s.closed h ≡ true → take_entry m (weighted m xs) s x ≡ record { closed = s.closed; taken = r ∷ s.taken }
    unfolding take_entry
    is_dropped c = rw (head_is m xs r, c)

    same_reached : (taken' : List ℕ) → reached target (record { closed = s.closed; taken = taken' }) ≡ reached target s
    same_reached taken' = alike target
      where
        alike : (t : Option ℕ) → reached t (record { closed = s.closed; taken = taken' }) ≡ reached t s
        alike None = refl
        alike (Some t) = refl

    pub dropped : is_closed s.closed h ≡ true → Loop m xs rest target weights reasons order missing queue' (count - 1) closed (taken + 1)
    dropped c = record {
      state = record { closed = s.closed; taken = r ∷ s.taken };
      shows = record {
        weights_at = now.shows.weights_at;
        reasons_at = now.shows.reasons_at;
        order_is = now.shows.order_is;
        named = now.shows.named;
        closed_is = now.shows.closed_is;
        taken_is = rw add-one (ap suc now.shows.taken_is);
      };
      running = record { missing_at = now.running.missing_at; closed_at = now.running.closed_at; free = now.running.free };
      ready = ready_next;
      room = room_next;
      on = rw (is_dropped c) at on_next;
      unreached = same_reached (r ∷ s.taken) ∙ now.unreached;
      missing_long = now.missing_long;
      reasons_long = now.reasons_long;
      order_long = now.order_long;
      within = now.within;
      few = now.few;
    }

    module _ (unclosed_head : is_closed s.closed h ≡ false) where
      abbrev c : Closed W
      c = record { fact = h; weight = x.weight; rule = r }

      abbrev s' : State W
      s' = record { closed = c ∷ s.closed; taken = r ∷ s.taken }

      free_head : get_or reasons h no_reason ≡ no_reason
      free_head = now.shows.reasons_at h ∙ eqb-true _ no_reason (not-false _ (sym (now.running.closed_at h) ∙ unclosed_head))

      is_closing : take_entry m (weighted m xs) s x ≡ s'
      unfolding take_entry
      is_closing = rw (head_is m xs r, unclosed_head)

      -- fewer facts are closed than there are
      order_room : closed < length order
      order_room =
          let one : bit (eqb (get_or reasons h no_reason) no_reason) ≡ 1 = ap bit (eq-eqb _ _ free_head) in
          let le = get_or-le-sum_by (λ (k : ℕ). bit (eqb k no_reason)) reasons h no_reason (omega (arith, head_under, now.reasons_long)) in
          omega (arith, now.running.free, one, le, now.reasons_long, now.order_long)

      shows_closed : Shows m xs s' (set weights h x.weight) (set reasons h r) (set order closed r) (closed + 1) (taken + 1)
      shows_closed = record {
        weights_at = λ f. elim (cases_eq f h) [
          | inl e ↦ rw (e, eq-eqb h h refl) (get_or-set_same weights h x.weight m.heaviest head_under)
          | inr e ↦ rw (ne_eqb h f (λ q. e (sym q))) (get_or-set_other weights h f x.weight m.heaviest e ∙ now.shows.weights_at f)
        ];
        reasons_at = λ f. elim (cases_eq f h) [
          | inl e ↦ rw (e, eq-eqb h h refl) (get_or-set_same reasons h r no_reason (omega (arith, head_under, now.reasons_long)))
          | inr e ↦ rw (ne_eqb h f (λ q. e (sym q))) (get_or-set_other reasons h f r no_reason e ∙ now.shows.reasons_at f)
        ];
        order_is = take_more_set order closed r order_room ∙ ap (λ l. l ++ (r ∷ [])) now.shows.order_is ∙ sym (reverse-cons r (map (λ (d : Closed W). d.rule) s.closed));
        named = ((rule_under, waits.stands, refl), now.shows.named);
        closed_is = rw add-one (ap suc now.shows.closed_is);
        taken_is = rw add-one (ap suc now.shows.taken_is);
      }

      on_closed : run m (weighted m xs) rest target (suc (length xs) - (taken + 1)) s' ≡ outcome m xs rest target
      on_closed = rw is_closing at on_next

      is_reached : reached target s' ≡ wanted target h
      is_reached = reached_next target s.closed c s.taken (r ∷ s.taken) (same_reached s.taken ∙ now.unreached)

      -- the target is closed: the state is the last one
      pub found : wanted target h ≡ true → s' ≡ outcome m xs rest target
      found e = sym (run_ended laws (weighted m xs) rest target s' (step_reached laws (weighted m xs) rest target s' (is_reached ∙ e)) (suc (length xs) - (taken + 1))) ∙ on_closed

      pub record Found : Type 0 where
        pub shows : Shows m xs (outcome m xs rest target) (set weights h x.weight) (set reasons h r) (set order closed r) (closed + 1) (taken + 1)
        pub reached_target : reached target (outcome m xs rest target) ≡ true

      pub found_shows : wanted target h ≡ true → Found
      found_shows e = record {
        shows = subst (λ (z : State W). Shows m xs z (set weights h x.weight) (set reasons h r) (set order closed r) (closed + 1) (taken + 1)) (found e) shows_closed;
        reached_target = ap (reached target) (sym (found e)) ∙ is_reached ∙ e;
      }

      -- every place of the chain is open
      pub chain_open : (k : ℕ) → uses xs h k (4 * length xs) ≤ get_or missing k 0
      chain_open k = omega (arith, uses_whole xs h k, open_less s.closed c unclosed_head (rule_at xs k), now.running.missing_at k)

      pub ready_closed : Ready m rest xs (set weights h x.weight) (r ∷ s.taken) missing queue' (count - 1)
      ready_closed = record {
        filled = filled_swap m _ _ (waiting xs (r ∷ s.taken) missing) queue' (count - 1)
            (λ k w. let v = waiting_parts xs (r ∷ s.taken) missing k w in
            entry_kept m rest xs weights h x.weight s.closed k unclosed_head v.stands (sym (now.running.missing_at k) ∙ v.none_open))
            taken_out.filled;
        spent = spent;
      }

      running_closed : (missing' : List ℕ) → ((k : ℕ) → get_or missing' k 0 + uses xs h k (4 * length xs) ≡ get_or missing k 0)
          → Running xs s' (set reasons h r) missing' (closed + 1)
      running_closed missing' left = record {
        missing_at = λ k. omega (arith, left k, uses_whole xs h k, open_less s.closed c unclosed_head (rule_at xs k), now.running.missing_at k);
        closed_at = λ f. elim (cases_Bool (eqb h f)) [
          | inl e ↦ rw e (sym (not_from_false _ not_none))
          | inr e ↦ rw e (now.running.closed_at f)
        ];
        free =
            let was : bit (eqb (get_or reasons h no_reason) no_reason) ≡ 1 = ap bit (eq-eqb _ _ free_head) in
            let is : bit (eqb r no_reason) ≡ 0 = ap bit not_none in
            let change = sum_by-set (λ (k : ℕ). bit (eqb k no_reason)) reasons h r no_reason (omega (arith, head_under, now.reasons_long)) in
            omega (arith, was, is, change, now.running.free, length-set reasons h r);
      }
        where
          not_none : eqb r no_reason ≡ false
          not_none = ne_eqb r no_reason (λ e. omega (arith, rule_under, now.few))

      -- the next turn, after the walk
      pub walked : (missing' : List ℕ) (queue'' : List (Entry W)) (count' : ℕ) → wanted target h ≡ false → length missing' ≡ length missing
          → ((k : ℕ) → get_or missing' k 0 + uses xs h k (4 * length xs) ≡ get_or missing k 0)
          → count' + unready missing' ≡ (count - 1) + unready missing
          → ((gone : List ℕ) → Ready m rest xs (set weights h x.weight) gone missing queue' (count - 1) → Ready m rest xs (set weights h x.weight) gone missing' queue'' count')
          → Loop m xs rest target (set weights h x.weight) (set reasons h r) (set order closed r) missing' queue'' count' (closed + 1) (taken + 1)
      walked missing' queue'' count' w same left total kept = record {
        state = s';
        shows = shows_closed;
        running = running_closed missing' left;
        ready = kept (r ∷ s.taken) ready_closed;
        room = omega (arith, room_next, total);
        on = on_closed;
        unreached = is_reached ∙ w;
        missing_long = same ∙ now.missing_long;
        reasons_long = length-set reasons h r ∙ now.reasons_long ∙ sym (length-set weights h x.weight);
        order_long = length-set order closed r ∙ now.order_long ∙ sym (length-set weights h x.weight);
        within = rw (length-set weights h x.weight) now.within;
        few = now.few;
      }
