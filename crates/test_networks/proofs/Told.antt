-- The four lines of the reader's answer, written one after the other. Assumes nothing.
use mathlib.Core.Path.{◌≡◌, refl}
use mathlib.Core.List.{[], ◌∷◌, ◌++◌}
use Prim.Native.Nat.{ℕ}
use native.Mathlib.Omega.{arith}
use Rattle.model.specs.Record.{Bytes}
use Rattle.model.specs.Calls.{read_call}
use Rattle.model.specs.Text.{line}
use Rattle.model.specs.Row.{max_nodes}
use Rattle.lines.specs.Written.{Put, PutLine}
use Rattle.lines.proofs.Written.{put_more}
use Rattle.std.specs.Prelude.{Result, Ok, Err}
use Rattle.std.specs.Result.{result_unwrap_or}
use Rattle.verdicts.specs.Verdicts.{verdict_of}
use Rattle.verdicts.specs.declared.Refusal.{Refusal}
use Rattle.model.specs.Areas.{padded}
use Rattle.reader.specs.Answer.{answer_of}
use Rattle.reader.specs.declared.Answer.{Answer}
use Rattle.test_networks.specs.Cases.{answer_lines, kinds_word, levels_word, widths_word}

-- what is told beside a refusal
abbrev pub nothing : Answer
nothing = record { count = 0; kinds = padded max_nodes []; widths = padded max_nodes []; levels = padded max_nodes [] }

-- four lines of numbers
abbrev lines_of : ℕ → ℕ → Answer → Bytes
lines_of n p t = line [] (n ∷ p ∷ t.count ∷ []) ++ line kinds_word t.kinds ++ line widths_word t.widths ++ line levels_word t.levels

-- they are those of the answer
lines_are : (x : Result Answer Refusal) (n p : ℕ) (t : Answer) → n ≡ (verdict_of x).number → p ≡ (verdict_of x).place → t ≡ result_unwrap_or x nothing →
    lines_of n p t ≡ answer_lines (answer_of x)
lines_are (Ok y) n p t e f g = rw (e, f, g) refl
lines_are (Err y) n p t e f g = rw (e, f, g) refl

pub told : (net : Bytes) (x : Result Answer Refusal) (n p : ℕ) (t : Answer) {text one two three four : Bytes} {a b c r : ℕ} → answer_of x ≡ read_call net →
    n ≡ (verdict_of x).number → p ≡ (verdict_of x).place → t ≡ result_unwrap_or x nothing →
    PutLine (line [] (n ∷ p ∷ t.count ∷ [])) [] 3 0 text one a → PutLine (line kinds_word t.kinds) kinds_word max_nodes a one two b →
    PutLine (line widths_word t.widths) widths_word max_nodes b two three c → PutLine (line levels_word t.levels) levels_word max_nodes c three four r →
    Put (answer_lines (read_call net)) 4096 0 text four r
told net x n p t {text} {one} {two} {three} {four} {a} {b} {c} {r} e en ep et p1 p2 p3 p4 =
    let first = line [] (n ∷ p ∷ t.count ∷ []) in
    let p12 = put_more first (line kinds_word t.kinds) p1 p2 in
    let p123 = put_more (first ++ line kinds_word t.kinds) (line widths_word t.widths) p12 p3 in
    let all = put_more (first ++ line kinds_word t.kinds ++ line widths_word t.widths) (line levels_word t.levels) p123 p4 in
    let put : Put (lines_of n p t) 4096 0 text four r = record { bytes = all.bytes; next = all.next; short = omega (arith, all.short) } in
    rw (← e) (rw (lines_are x n p t en ep et) at put)
