-- Reading undoes writing, and accepts nothing else.
use Rattle.std.proofs.Common.{◌≡◌, ℕ, ◌<◌, List, length, get_or, IfOk, Ok, Err, Result, refl, ◌∙◌, arith}
use Rattle.std.proofs.ByRecursion.{All-from_get_or}
use Rattle.sheet.specs.Slots.{Slot}
use Rattle.file.specs.declared.header.Header.{Header}
use Rattle.sheet.specs.Edits.{new_answer}
use Rattle.file.specs.declared.fault.Field.TheVariants as field
use Rattle.file.specs.Faults.{Report, mapped, at_field, says}
use Rattle.file.specs.Rules.{Entry}
use Rattle.file.specs.Whole.{File, opening, closing, file}
use Rattle.file.specs.Entering.{entered, filled, after_reading, read_answer, read_slots}
use Rattle.file.specs.Written.{written, Fits, Faithful}
use Rattle.file.proofs.Written.{file_back}
use Rattle.file.proofs.Taken.{opening_took, closing_took, file_took}
use Rattle.file.proofs.Closed.{verdict}
use Rattle.file.proofs.Entered.{filled_entered}

only_so : (bs : List ℕ) (xs : List Slot) (h : Header) (r : Result File Report) → IfOk r (λ w. Fits xs w.header w.entries × (bs ≡ written w.header w.entries)) → mapped (λ f. f.header) r ≡ Ok h → (es : List Entry) × Fits xs h es × (bs ≡ written h es) × (after_reading r xs ≡ entered es xs)
only_so bs xs h (Ok w) k e = let same : w.header ≡ h = cc in (w.entries, rw same at k.0, rw same at k.1, refl)
only_so bs xs h (Err f) k e = absurd cc

kept : (xs : List Slot) (r : Result File Report) (e : Report) → mapped (λ f. f.header) r ≡ Err e → after_reading r xs ≡ xs
kept xs (Ok w) e h = absurd cc
kept xs (Err f) e h = refl

pub faithful : (bs : List ℕ) (xs ys : List Slot) (r : Result Header Report) → r ≡ read_answer bs xs → ys ≡ read_slots bs xs → ((i : ℕ) → get_or bs i 0 < 256) → Faithful bs xs ys r
faithful bs xs ys r answered left small =
    let t = file_took xs bs (All-from_get_or (λ b. b < 256) bs 0 (λ i k. small i)) in
    record {
      reads = λ h es f e. let b = file_back xs h es f in (grind arith, grind arith);
      only = λ h e. let o = only_so bs xs h (file xs bs) t cc in (o.0, o.1, o.2, cc);
      keeps = λ e h. left ∙ kept xs (file xs bs) e cc;
    }

accepted : (r : Result (List Entry) Report) → Ok tt ≡ verdict r → (es : List Entry) × (Ok es ≡ r)
accepted (Ok es) h = (es, refl)
accepted (Err e) h = absurd cc

-- a file that is accepted enters its rules
pub entered_so : (bs : List ℕ) (xs ys : List Slot) (size : ℕ) → ((i : ℕ) → get_or bs i 0 < 256) → size ≡ length bs → Ok tt ≡ at_field field.Facts 0 (says (new_answer xs)) →
    (o : (Header × ℕ) × List ℕ) → Ok o ≡ opening xs size bs → Ok tt ≡ verdict (closing size o.0.1 o.1) →
    ((es : List Entry) → Ok es ≡ closing size (length es) o.1 → ys ≡ filled es xs) → ys ≡ read_slots bs xs
unfolding file
entered_so bs xs ys size small whole unused o opened h fill =
    let t = opening_took xs size bs (All-from_get_or (λ b. b < 256) bs 0 (λ i k. small i)) in
    let u = rw (← opened) at t in
    let a = accepted (closing size o.0.1 o.1) h in
    let k = rw (← a.1) at (closing_took size o.0.1 o.1 u.2) in
    let e : ys ≡ entered a.0 xs = fill a.0 (cc k.0) ∙ filled_entered a.0 xs k.1 (omega arith) in
    grind arith
