use Prim.Native.Nat.{ℕ, ◌≤◌, ◌<◌}
use mathlib.Core.Path.{◌≡◌, sym, ap, ◌∙◌}
use mathlib.Core.Bool.{Bool}
use mathlib.Core.List.{List}
use native.Mathlib.Omega.{arith}
use lib.ListN.{length, length-set}
use Rattle.insertions.proofs.Gaps.{gap}
use Rattle.worklist.specs.Listed.{is_above, place_for, put_at}
use Rattle.worklist.proofs.Putting.{above_some, above_same, place_down, place_stop, gap_before, gap_down, gap_put}
use Rattle.worklist.proofs.put_node.Goals as goal

-- the answer is that of the first entries, since those before the index are as they were
answer : (levels : List ℕ) (level : ℕ) (first : List ℕ) (k : ℕ) → k < length first → (at : ℕ) → at ≤ k → (entries : List ℕ) →
    entries ≡ gap 1 at k first → (b : Bool) → b ≡ is_above levels level entries at → b ≡ is_above levels level first at
answer levels level first k h at i entries g b e = e ∙ above_same levels level entries first at (gap_before first k h at i entries g)

pub loop-entries-preserved : goal.loop-entries-preserved
loop-entries-preserved c =
    let a = c.args in
    let l = c.loop-entries in
    let told = answer a.levels.now a.level a.entries.now a.k c.requires.1
    l.at l.invariant.0 l.entries l.invariant.2 c.is_above.result c.is_above.ensures in
    let some = above_some a.levels.now a.level l.entries l.at (sym c.is_above.ensures ∙ c.loop-entries-test.true) in (
      omega (arith, l.invariant.0),
      simp length-set l.invariant.1,
      gap_down a.entries.now a.k c.requires.1 l.at some l.invariant.0 l.entries l.invariant.2,
      place_down a.levels.now a.level a.entries.now l.at (sym told ∙ c.loop-entries-test.true) ∙ l.invariant.3,
    )

pub returns : goal.returns
returns c =
    let a = c.args in
    let l = c.loop-entries in
    let told = answer a.levels.now a.level a.entries.now a.k c.requires.1
    l.at l.invariant.0 l.entries l.invariant.2 c.is_above.result c.is_above.ensures in
    let e : l.at ≡ place_for a.levels.now a.level a.entries.now a.k = sym
    (place_stop a.levels.now a.level a.entries.now l.at (sym told ∙ c.loop-entries-test.false)) ∙ l.invariant.3
    in gap_put a.entries.now a.k c.requires.1 l.at a.i l.invariant.0 l.entries l.invariant.2
    ∙ ap (λ (x : ℕ). put_at x a.k a.i a.entries.now) e
