-- The law of edits over a whole list.
use Rattle.std.specs.Prelude.{◌≡◌, ℕ, Bool, true, false, List, [], ◌∷◌, length}
use Rattle.sheet.specs.Slots.{Slot, sheet}
use Rattle.sheet.specs.Refusals.{Answer, accepted, refused, Told}
use Rattle.sheet.specs.Rules.{Inference}
use Rattle.replay.specs.declared.call.Call.{Call}
use Rattle.replay.specs.declared.call.Call.TheVariants.{Enter, Reprice, Strike, Search}
use Rattle.replay.specs.declared.call.Done.{Done}
use Rattle.replay.specs.declared.call.Done.TheVariants.{Entered, Changed}
use Rattle.replay.specs.Rules.{allowed, rules_next, rules_after}

-- A reply that accepts an edit, with x, exactly where ok says so.
pub record Judged {A : Type 0} (ok : Bool) (x : A) (a : Answer A) : Type 0 where
  pub accepts : ok ≡ true → a ≡ accepted x
  pub refuses : ok ≡ false → (k : ℕ) × (vs : List Told) × (a ≡ refused k vs)

-- What an accepted edit gives.
abbrev pub edit_gives : {W G : Type 0} → List Inference → Call G → Done W
edit_gives rs (Enter h b c) = Entered (length rs)
edit_gives rs (Reprice k c) = Changed
edit_gives rs (Strike k) = Changed
edit_gives rs (Search f t g) = Changed

abbrev pub is_edit : {G : Type 0} → Call G → Bool
is_edit (Enter h b c) = true
is_edit (Reprice k c) = true
is_edit (Strike k) = true
is_edit (Search f t g) = false

-- Each edit of a list is accepted exactly where none of its refusals holds: n slots, and the rules rs before the list.
abbrev pub JudgedAll : {W G : Type 0} → ℕ → List Inference → List (Call G) → List (Answer (Done W)) → Type 0
JudgedAll n rs [] answers = Unit {0}
JudgedAll n rs (c ∷ cs) [] = ⊥
JudgedAll n rs (c ∷ cs) (a ∷ answers) =
    (is_edit c ≡ true → Judged (allowed n rs c) (edit_gives rs c) a) × JudgedAll n (rules_next n rs c) cs answers

-- Each edit of a list is judged as it should be, and the sheet then holds the rules that the list leaves.
pub record Lawful {W G : Type 0} (n : ℕ) (calls : List (Call G)) (answers : List (Answer (Done W))) (slots : List Slot) : Type 0 where
  pub judged : JudgedAll n [] calls answers
  pub leaves : sheet slots ≡ rules_after n calls
