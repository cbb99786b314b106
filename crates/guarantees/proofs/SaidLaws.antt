-- What an exported read or write says tells its answer, and how many numbers it leaves of a view. Assumes nothing.
use Prim.Native.Nat.{ℕ}
use mathlib.Core.{Path.{◌≡◌, refl, ap, ◌∙◌}, Bool.{Bool, true, false, cond}, List.List}
use lib.{Dec.eqb, ListN.{length, get_or, set, length-set}}
use Rattle.judgement.proofs.JudgingLaws.{names_sector, names_some, read_holds, write_holds}
use Rattle.answers.specs.Answers.{answer_sector, Answer, refuse, refuse_at, refusal_number}
use Rattle.view.specs.{Outcomes.{view_read, view_write}, declared.View.View}
use Rattle.boundary_numbers.specs.BoundaryNumbers.{lock_index}
use Rattle.boundary_answers.specs.BoundaryAnswers.{view_left, sector_left, Tells}
use Rattle.guarantees.specs.BoundaryRuns.{answer_said}
use Rattle.std.specs.Prelude.{Ok, ⊤}

pub length_left : (number : ℕ) (before : List ℕ) → length (view_left number before) ≡ length before
unfolding view_left
length_left number before = go (eqb number 18)
  where
    go : (b : Bool) → length (cond b (set before lock_index 1) before) ≡ length before
    go true = length-set before lock_index 1
    go false = refl

-- an answer is told by its number and the sector that it leaves, whatever was there
abbrev pub Told : Answer ⊤ → Type 0
Told answer = (before : List ℕ) → answer_said (record { number = refusal_number answer; sector = sector_left (answer_sector answer) before }) ≡ answer

accepted_told : Told (Ok tt)
unfolding answer_said refusal_number
accepted_told before = refl

refused_told : (number : ℕ) → eqb number 0 ≡ false → names_sector number ≡ false → Told (refuse number)
unfolding answer_said refusal_number answer_sector sector_left
refused_told number some other before =
    let told = refuse_at number (get_or before 0 0) in
    ap (λ (accepts : Bool). cond accepts (Ok tt) (cond (names_sector number) told (refuse number))) some
    ∙ ap (λ (names : Bool). cond names told (refuse number)) other

refused_at_told : (number sector : ℕ) → names_sector number ≡ true → Told (refuse_at number sector)
unfolding answer_said refusal_number answer_sector sector_left
refused_at_told number sector names before = rw (names_some number names, names)

pub read_told : (view : View) (image_size first count buffer_size : ℕ) → Told (view_read view image_size first count buffer_size)
read_told view = read_holds Told accepted_told refused_told refused_at_told view.layout view.protection

pub write_told : (view : View) (image_size first count buffer_size : ℕ) → Told (view_write view image_size first count buffer_size)
write_told view image_size first count buffer_size =
    write_holds Told accepted_told refused_told refused_at_told view.layout view.protection image_size first count buffer_size view.locked

pub told_back : {answer : Answer ⊤} {before sector : List ℕ} {number : ℕ} → Tells answer before number sector → Told answer
    → answer_said (record { number = number; sector = sector }) ≡ answer
told_back {before = before} tells told = ap answer_said (λ i. record { number = tells.returns i; sector = tells.names i }) ∙ told before
