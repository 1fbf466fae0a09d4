use mathlib.Core.Path.{◌≡◌, sym, ap, ◌∙◌}
use Prim.Native.Nat.{ℕ, ◌+◌, ◌-◌}
use native.Mathlib.Omega.{arith}
use lib.Dec.{leb, ltb}
use lib.ListN.{get_or, set, take}
use borrow.Author.Tests.{le-ltb, lt-leb}
use mathlib.Core.Bool.{Bool, ◌&&◌, false, and-false}
use mathlib.Core.List.{List}
use Rattle.masks.proofs.Masks.{column-kept, column_passed, keeping_more, keeping_none}
use Rattle.masks.specs.Masks.{columns_from, keeping}
use Rattle.masks.proofs.keep_columns.Goals as goal
use Rattle.masks.proofs.keep_columns.Goals.{then-first-c+then-c-end, else-first-c, else-first-c-via-then-first-c+else-c-end, else-first-c-via-else-first-c}

pub loop-j-init : goal.loop-j-init
loop-j-init c = keeping_none c.args.used.now c.requires.0

pub loop-j-preserved : goal.loop-j-preserved
loop-j-preserved c =
    let a = c.args in
    let l = c.loop-j in
    let columns = a.columns.now in
    let d = get_or columns l.j 0 in
    let with : List ℕ → List ℕ = λ x. keeping x a.used.now in
    let after : List ℕ = with (columns_from a.first a.end (take (l.j + 1) columns)) in
    let passed : (leb a.first d && ltb d a.end) ≡ false → l.used ≡ after = λ e. l.invariant ∙ ap with (sym (column_passed a.first a.end columns l.j (omega arith) e)) in
    let more : c.if-first-c.used ≡ after = elim c.if-first-c.branch [
      | then-first-c+then-c-end w ↦ w.used-is ∙ ap (λ (u : List ℕ). set u (d - a.first) (d - a.first)) l.invariant
          ∙ keeping_more (columns_from a.first a.end (take l.j columns)) a.used.now (d - a.first) (omega arith)
          ∙ ap with (sym (column-kept a.first a.end columns l.j (omega arith) w.if-first-c.true w.if-c-end.true))
      | else-first-c w ↦ w.used-is ∙ passed (elim w.else-first-c.branch [
        | else-first-c-via-then-first-c+else-c-end v ↦ ap (λ (t : Bool). leb a.first d && t) (le-ltb d a.end v.if-c-end.false) ∙ and-false (leb a.first d)
        | else-first-c-via-else-first-c v ↦ ap (λ (t : Bool). t && ltb d a.end) (lt-leb a.first d v.if-first-c.false)
      ])
    ] in
    more
