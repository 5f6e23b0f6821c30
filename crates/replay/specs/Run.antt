-- A run: what each call of a list is replied, and what it leaves.
use Rattle.std.specs.Prelude.{◌≡◌, ℕ, Bool, true, false, cond, None, List, [], map, length, take, drop, replicate, nat_lt}
use Rattle.std.specs.List.{fold, scan}
use Rattle.measure.specs.Ops.{Ops}
use Rattle.search.specs.declared.columns.Columns.{Columns}
use Rattle.search.specs.declared.columns.Found.{Found}
use Rattle.search.specs.Answered.{long_enough, work_length, search_answer, checked}
use Rattle.search.specs.Left.{weights_left, reasons_left, line_left, Scratch}
use Rattle.search.specs.Same.{SameColumns}
use Rattle.sheet.specs.Refusals.{Answer, accepted, refused, answer}
use Rattle.sheet.specs.Slots.{Slot, slot_limit, count}
use Rattle.sheet.specs.Edits.{enter_answer, enter_slots, reprice_answer, reprice_slots, strike_answer, strike_slots}
use Rattle.sheet.specs.Passing.{pass_answer}
use Rattle.replay.specs.declared.call.Call.{Call}
use Rattle.replay.specs.declared.call.Call.TheVariants.{Enter, Reprice, Strike, Search}
use Rattle.replay.specs.declared.call.Done.{Done}
use Rattle.replay.specs.declared.call.Done.TheVariants as done
use Rattle.replay.specs.Replies.{Reply, giving}

-- The slots of the rules entered: what a passed view shows.
abbrev pub shown : List Slot → List Slot
shown xs = take (count xs) xs

-- The lengths of the columns lent to a search.
pub record Lengths : Type 0 where
  pub weights : ℕ
  pub reasons : ℕ
  pub line : ℕ
  pub queue : ℕ
  pub work : ℕ

abbrev pub lengths_of : {W : Type 0} → Columns W → Lengths
lengths_of c = record { weights = length c.weights.now; reasons = length c.reasons.now; line = length c.line.now; queue = length c.queue.now; work = length c.work.now }

-- What calls on a sheet of n slots leave of the columns lent to them: the queue and the working column are kept
-- beyond what a search of it may use, and each column is the same reference, as long as it was.
pub record ColumnsLeft {W : Type 0} (n : ℕ) (before left : Columns W) : Type 0 where
  pub queues : Scratch true n before.queue.now left.queue.now
  pub works : Scratch true (work_length 4096 n) before.work.now left.work.now
  pub lengths : lengths_of left ≡ lengths_of before
  pub same : SameColumns before left

-- A search of a sheet: it is passed with a fact count and, where that is accepted, searched for the target.
unfoldable pub sought : {W : Type 0} → Ops W → (ℕ → W) → (ℕ → W) → List Slot → Lengths → ℕ → ℕ → Answer (Found W)
sought m floor rest xs long facts target =
    checked (pass_answer xs facts)
    (search_answer m floor rest (shown xs) facts target
    (long_enough facts (length (shown xs)) long.weights long.reasons long.line long.queue long.work))

-- What a run changes: the slots, and the columns that its searches write.
pub record Board (W : Type 0) : Type 0 where
  pub slots : List Slot
  pub weights : List W
  pub reasons : List ℕ
  pub line : List ℕ

-- The board of the slots and the columns that a call is lent.
abbrev pub board_of : {W : Type 0} → List Slot → Columns W → Board W
board_of xs c = record { slots = xs; weights = c.weights.now; reasons = c.reasons.now; line = c.line.now }

-- The slots that a call leaves; a search leaves them as they are.
abbrev pub slots_next : {G : Type 0} → List Slot → Call G → List Slot
slots_next xs (Enter h body c) = enter_slots xs h body.now c
slots_next xs (Reprice k c) = reprice_slots xs k c
slots_next xs (Strike k) = strike_slots xs k
slots_next xs (Search f t g) = xs

abbrev pub slots_from : {G : Type 0} → List Slot → List (Call G) → List Slot
slots_from xs calls = fold slots_next xs calls

-- The slots after a list of calls on a new sheet of n slots.
abbrev pub slots_after : {G : Type 0} → ℕ → List (Call G) → List Slot
slots_after n cs = slots_from (replicate n None) cs

abbrev pub with_slots : {W : Type 0} → Board W → List Slot → Board W
with_slots b xs = record b { slots = xs }

-- The lengths of the columns are the same throughout.
module _ {W : Type 0} (m : Ops W) (long : Lengths) where
  -- A search of the sheet on a board, and what it leaves.
  module _ (floor rest : ℕ → W) (facts target : ℕ) (b : Board W) where
    abbrev pub found_on : Answer (Found W)
    found_on = sought m floor rest b.slots long facts target

    abbrev pub searched : Board W
    searched = record {
      slots = b.slots;
      weights = weights_left m rest (shown b.slots) facts target found_on b.weights;
      reasons = reasons_left m rest (shown b.slots) facts target found_on b.reasons;
      line = line_left m rest (shown b.slots) facts target found_on b.line;
    }

  -- A guide's floors and rests are functions of the guide.
  module _ {G : Type 0} (floor rest : G → ℕ → W) where
    -- The reply to a call.
    unfoldable pub replied : Board W → Call G → Answer (Done W)
    replied b (Enter h body c) = giving done.Entered (enter_answer b.slots body.now c)
    replied b (Reprice k c) = giving (λ _. done.Changed) (reprice_answer b.slots k c)
    replied b (Strike k) = giving (λ _. done.Changed) (strike_answer b.slots k)
    replied b (Search f t g) = giving done.Found (found_on (floor g) (rest g) f t b)

    -- What a call leaves.
    unfoldable pub next : Board W → Call G → Board W
    next b (Enter h body c) = with_slots b (enter_slots b.slots h body.now c)
    next b (Reprice k c) = with_slots b (reprice_slots b.slots k c)
    next b (Strike k) = with_slots b (strike_slots b.slots k)
    next b (Search f t g) = searched (floor g) (rest g) f t b

    -- A list of calls, each finding what the earlier ones have made of the sheet and the columns.
    abbrev pub board_after : Board W → List (Call G) → Board W
    board_after b calls = fold next b calls

    abbrev pub replies_to : Board W → List (Call G) → List (Answer (Done W))
    replies_to b calls = scan next replied b calls

-- The board over a new sheet.
abbrev pub opened : {W : Type 0} → Board W → Board W
opened b = with_slots b (replicate (length b.slots) None)

-- A list of calls on a new sheet: what it leaves, and its replies.
module _ {W G : Type 0} (m : Ops W) (long : Lengths) (floor rest : G → ℕ → W) (b : Board W) (calls : List (Call G)) where
  abbrev pub board_left : Board W
  board_left = board_after m long floor rest (opened b) calls

  abbrev pub answers : List (Answer (Done W))
  answers = replies_to m long floor rest (opened b) calls

-- The tests before a list of calls is run: of the number of slots, then of the reply column.
abbrev pub start_answer : ℕ → ℕ → ℕ → Answer (Unit {0})
start_answer slots calls replies = cond (nat_lt slot_limit slots) (refused 1 []) (cond (nat_lt replies calls) (refused 11 []) (accepted tt))

-- The same of the slots, the calls and the reply column of a run.
abbrev pub started : {W G : Type 0} → List Slot → List (Call G) → List (Reply W) → Answer (Unit {0})
started slots calls replies = start_answer (length slots) (length calls) (length replies)

-- Whether a call is accepted.
abbrev pub is_accepted : {A : Type 0} → Answer A → Bool
is_accepted (accepted x) = true
is_accepted (refused n vs) = false

-- A reply column in which these answers were written, one after another from the start.
pub record Written {W : Type 0} (before left : List (Reply W)) (answers : List (Answer (Done W))) : Type 0 where
  pub told : map answer (take (length answers) left) ≡ answers
  pub beyond : drop (length answers) left ≡ drop (length answers) before
  pub long : length left ≡ length before
