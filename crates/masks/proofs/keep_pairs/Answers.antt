use mathlib.Core.Path.{sym, ap, ◌∙◌}
use Prim.Native.Nat.{ℕ, ◌+◌, ◌*◌}
use native.Mathlib.Omega.{arith}
use lib.ListN.{get_or, set}
use mathlib.Core.List.{List}
use Rattle.masks.proofs.Masks.{keeping_more, keeping_none, pairs_more, side_below}
use Rattle.masks.specs.Masks.{keeping, pair_columns}
use Rattle.masks.proofs.keep_pairs.Goals as goal

pub loop-j-init : goal.loop-j-init
loop-j-init c = keeping_none c.args.used.now c.requires.0

pub bounds-used-c : goal.bounds-used-c
bounds-used-c c = let a = c.args in
    side_below a.pairs.now a.p c.loop-j.j a.side c.requires.3 (omega arith) (omega arith)

pub loop-j-preserved : goal.loop-j-preserved
loop-j-preserved c =
    let a = c.args in
    let l = c.loop-j in
    let d = get_or a.pairs.now (2 * l.j + a.side) 0 in
    let h = side_below a.pairs.now a.p l.j a.side c.requires.3 (omega arith) (omega arith) in
    ap (λ (u : List ℕ). set u d d) l.invariant ∙ keeping_more (pair_columns a.pairs.now l.j a.side) a.used.now d h
    ∙ ap (λ (x : List ℕ). keeping x a.used.now) (sym (pairs_more a.pairs.now a.side l.j))
