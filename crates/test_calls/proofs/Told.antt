-- What a call gave, told by the lines that were written. Assumes nothing.
use mathlib.Core.Path.{refl, ◌≡◌}
use mathlib.Core.Bool.{Bool, true, false, cond}
use mathlib.Core.List.{[], ◌∷◌, ◌++◌}
use Prim.Native.Nat.{ℕ, ◌+◌, ◌≤◌}
use native.Mathlib.Omega.{arith}
use lib.ListN.{length}
use mir.Val.{bool_byte}
use Rattle.model.specs.Record.{Bytes}
use Rattle.model.specs.Areas.{Areas}
use Rattle.model.specs.Calls.{Applied, check_call, longest_report}
use Rattle.model.specs.Text.{line}
use Rattle.network.specs.Reading.{result_with}
use Rattle.std.specs.Prelude.{Ok, Err}
use Rattle.std.specs.Result.{result_unwrap_or}
use Rattle.std.specs.declared.result.Result.{Result as Answer}
use Rattle.verdicts.specs.Verdicts.{verdict_of}
use Rattle.verdicts.specs.declared.Refusal.{Refusal}
use Rattle.checking.specs.Answer.{check_answer_of}
use Rattle.reporting.specs.Answer.{report_answer_of}
use Rattle.lines.specs.Written.{PutLine}
use Rattle.lines.proofs.Written.{put_more}
use Rattle.test_calls.specs.Lines.{Applies, Writes, apply_word, head_word, report_line}

-- a truth value as a number
bit_is : (t : Bool) → bool_byte t ≡ cond t 1 0
bit_is true = refl
bit_is false = refl

-- an answer's parts
report_is : (v : Answer ℕ Refusal) (out : Bytes) → line [] ((verdict_of v).number ∷ (verdict_of v).place ∷ result_unwrap_or v 0 ∷ []) ≡ report_line (report_answer_of v out)
report_is (Ok x) out = refl
report_is (Err x) out = refl

check_is : (c : Answer Bool Refusal) → ((check_answer_of c).verdict ≡ verdict_of c) × ((check_answer_of c).yes? ≡ result_unwrap_or c false)
check_is (Ok x) = (refl, refl)
check_is (Err x) = (refl, refl)

-- its line
pub answered : (v : Answer ℕ Refusal) (n p s : ℕ) {text shown : Bytes} {r : ℕ} (out : Bytes) → n ≡ (verdict_of v).number → p ≡ (verdict_of v).place → s ≡ result_unwrap_or v 0 →
    Writes (line [] (n ∷ p ∷ s ∷ [])) text shown r → Writes (report_line (report_answer_of v out)) text shown r
answered v n p s {text} {shown} {r} out e f g w =
    rw (← report_is v out) (rw (e, f, g) at w)

-- two lines
pub applied : {X : Type 0} (net batch : Bytes) (a after : Areas) (v : Answer X Refusal) (c : Answer Bool Refusal) (n p m : ℕ) (y : Bool) {k r : ℕ} {text mid shown : Bytes} →
    length text ≡ 65536 → length after.head ≤ longest_report →
    n ≡ (verdict_of v).number → p ≡ (verdict_of v).place → m ≡ (verdict_of c).number → y ≡ result_unwrap_or c false →
    Applied net batch a (result_with v after) → check_answer_of c ≡ check_call net after →
    PutLine (line apply_word (n ∷ p ∷ m ∷ bool_byte y ∷ [])) apply_word 4 0 text mid k →
    PutLine (line head_word after.head) head_word (0 + length after.head) k mid shown r → Applies net batch a after text shown r
applied net batch a after v c n p m y {r = r} {text = text} {shown = shown} room few en ep em ey t e w q =
    let first = line apply_word (n ∷ p ∷ m ∷ bool_byte y ∷ []) in
    let both = put_more first (line head_word after.head) w q in
    let all : Writes (first ++ line head_word after.head) text shown r = record { bytes = both.bytes; next = both.next; short = omega (arith, both.short) } in
    let is = check_is c in
    record { result = result_with v after; applied = t; areas = refl; wrote = rw (← e, is.0, is.1) (rw (en, ep, em, bit_is y, ey) at all) }
