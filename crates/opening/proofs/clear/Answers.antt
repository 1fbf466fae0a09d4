use mathlib.Core.Path.{◌∙◌}
use native.Mathlib.Omega.{arith}
use Rattle.model.specs.Areas.{cleared, area_size, head_words}
use Rattle.opening.proofs.Opening.{cleared_run}
use Rattle.areas.proofs.Good.{long_parts}
use Rattle.opening.proofs.clear.Goals as goal

pub clear_run-requires : goal.clear_run-requires
clear_run-requires c =
    let a = c.args in
    let long = long_parts a.rows.now a.gained.now a.lost.now a.head.now c.requires in
    (omega arith, omega (arith, long.0))

pub clear_run-requires-2 : goal.clear_run-requires-2
clear_run-requires-2 c =
    let a = c.args in
    let long = long_parts a.rows.now a.gained.now a.lost.now a.head.now c.requires in
    (omega arith, omega (arith, long.1))

pub clear_run-requires-3 : goal.clear_run-requires-3
clear_run-requires-3 c =
    let a = c.args in
    let long = long_parts a.rows.now a.gained.now a.lost.now a.head.now c.requires in
    (omega arith, omega (arith, long.2))

pub clear_run-requires-4 : goal.clear_run-requires-4
clear_run-requires-4 c =
    let a = c.args in
    let long = long_parts a.rows.now a.gained.now a.lost.now a.head.now c.requires in
    (omega arith, omega (arith, long.3))

pub returns : goal.returns
unfolding cleared
returns c =
    let a = c.args in
    let r = c.clear_run.ensures ∙ cleared_run area_size a.rows.now in
    let g = c.clear_run-2.ensures ∙ cleared_run area_size a.gained.now in
    let l = c.clear_run-3.ensures ∙ cleared_run area_size a.lost.now in
    let h = c.clear_run-4.ensures ∙ cleared_run head_words a.head.now in
    λ i. record { rows = r i; gained = g i; lost = l i; head = h i }
