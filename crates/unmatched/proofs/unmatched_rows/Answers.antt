use mathlib.Core.Bool.{false, not}
use mathlib.Core.Path.{◌≡◌, ap}
use native.Mathlib.Omega.{arith}
use Rattle.model.specs.Row.{some_of}
use Rattle.model.specs.Algebra.{agree}
use Rattle.model.specs.Areas.{stride}
use Rattle.nodes.specs.Nodes.{pairs_of}
use Rattle.rows.specs.Rows.{row_at, first_rows}
use Rattle.keys.proofs.Keys.{key_agrees, key_differs}
use Rattle.places.specs.Places.{Kept}
use Rattle.places.proofs.Places.{kept_start, kept_no, kept_copied}
use Rattle.unmatched.proofs.Unmatched.{unmet, none_of_0, none_more, some_at, unmatched_fills}
use Rattle.unmatched.proofs.unmatched_rows.Goals as goal

pub rows-init : goal.rows-init
rows-init c =
    let a = c.args in kept_start (unmet (pairs_of a.p a.pairs.now) (first_rows a.right.now a.m)) a.left.now a.out.now c.requires.7

pub loop-j-init : goal.loop-j-init
loop-j-init c =
    let a = c.args in none_of_0 (agree (pairs_of a.p a.pairs.now) (row_at stride a.left.now c.rows.i)) a.right.now

pub rows-preserved-then-keys-j : goal.rows-preserved-then-keys-j
rows-preserved-then-keys-j c =
    let a = c.args in
    let pairs = pairs_of a.p a.pairs.now in
    let l = row_at stride a.left.now c.rows.i in
    let key = c.key_of-key in
    let keys = c.keys_of-keys in
    let j = c.loop-j.j in
    let met = key_agrees pairs l key.result key.ensures a.right.now a.m keys.result keys.ensures j (omega arith) c.if-keys-j.true in
    kept_no (unmet pairs (first_rows a.right.now a.m)) a.left.now c.rows.i c.rows.out c.rows.count
    (ap not (some_at (agree pairs l) a.right.now j a.m (omega arith) met)) c.rows.invariant

pub loop-j-preserved : goal.loop-j-preserved
loop-j-preserved c =
    let a = c.args in
    let pairs = pairs_of a.p a.pairs.now in
    let l = row_at stride a.left.now c.rows.i in
    let key = c.key_of-key in
    let keys = c.keys_of-keys in
    let j = c.loop-j.j in
    let unlike = key_differs pairs l key.result key.ensures a.right.now a.m keys.result keys.ensures j (omega arith) c.if-keys-j.false in
    none_more (agree pairs l) a.right.now j c.loop-j.invariant unlike

pub rows-preserved : goal.rows-preserved
rows-preserved c =
    let a = c.args in
    let pairs = pairs_of a.p a.pairs.now in
    let copied = c.copy_run in
    let end : c.loop-j.j ≡ a.m = omega arith in
    let none : some_of (agree pairs (row_at stride a.left.now c.rows.i)) (first_rows a.right.now a.m) ≡ false = rw (← end) c.loop-j.invariant in
    kept_copied (unmet pairs (first_rows a.right.now a.m)) a.left.now c.rows.i c.rows.out copied.new.dst c.rows.count (ap not none)
    (omega arith) (omega arith) c.rows.invariant copied.ensures

pub returns : goal.returns
returns c =
    let a = c.args in
    let pairs = pairs_of a.p a.pairs.now in
    let end : c.rows.i ≡ a.n = omega arith in
    let kept : Kept (unmet pairs (first_rows a.right.now a.m)) a.left.now a.n c.rows.out c.rows.count = rw (← end) c.rows.invariant in
    λ v w pl pr below. unmatched_fills pairs v w a.left.now a.n a.right.now a.m c.rows.out c.rows.count pl pr below kept
