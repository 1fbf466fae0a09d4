use mathlib.Core.Path.{refl, sym, ◌∙◌}
use lib.ListN.{get_or}
use Rattle.model.specs.Network.{widths}
use Rattle.folding.proofs.Ready.{node_counts, node_foldable}
use Rattle.folding.proofs.Written.{made_place, write_none, write_some, write_fits}
use Rattle.folding.proofs.write_node.Goals as goal

pub is_touched-requires : goal.is_touched-requires
is_touched-requires c =
    let a = c.args in
    let k = node_counts c.requires.0 a.gained.now a.lost.now a.head.now a.pending.now c.requires.1 a.i c.requires.3 in
    (k.0, c.requires.2.long, c.requires.1.changed.head-long)

pub returns-then-not-is_touched : goal.returns-then-not-is_touched
returns-then-not-is_touched c =
    let a = c.args in
    let t = c.is_touched in
    λ net o s h fit. write_none net a.gained.now a.lost.now a.head.now a.pending.now o a.i h a.signs.now s (sym t.ensures ∙ c.if-not-is_touched.true)

pub fold_node-requires : goal.fold_node-requires
fold_node-requires c =
    let a = c.args in
    let net = c.requires.0 in
    ((get_or (widths net.nodes) a.i 0, node_foldable net a.gained.now a.lost.now a.head.now a.pending.now c.requires.1 a.i c.requires.3), refl)

pub put_rows-requires : goal.put_rows-requires
put_rows-requires c =
    let a = c.args in
    let net = c.requires.0 in
    let o = c.requires.1 in
    let h = c.requires.3 in
    let w = get_or (widths net.nodes) a.i 0 in
    let t = c.is_touched in
    let f = c.fold_node in
    let ready = node_foldable net a.gained.now a.lost.now a.head.now a.pending.now o a.i h in
    let touched = sym t.ensures ∙ c.if-not-is_touched.false in
    let place = made_place net a.gained.now a.lost.now a.head.now a.pending.now o a.i h a.signs.now c.requires.2 touched f.new.out f.result
    (f.ensures w ready) c.in-Some.count c.in-Some.is in
    (ready.inside, ready.pending-long, (w, place.0, ready.pending_at))

pub returns-in-Some : goal.returns-in-Some
returns-in-Some c =
    let a = c.args in
    let t = c.is_touched in
    let f = c.fold_node in
    let p = c.put_rows in
    let touched = sym t.ensures ∙ c.if-not-is_touched.false in
    λ net o s h fit.
    let w = get_or (widths net.nodes) a.i 0 in
    let ready = node_foldable net a.gained.now a.lost.now a.head.now a.pending.now o a.i h in
    write_some net a.gained.now a.lost.now a.head.now a.pending.now o a.i h a.signs.now s touched f.new.out f.result
    (f.ensures w ready) c.in-Some.count c.in-Some.is p.new.pending p.ensures

pub returns-in_default : goal.returns-in_default
returns-in_default c =
    let a = c.args in
    let t = c.is_touched in
    let f = c.fold_node in
    let touched = sym t.ensures ∙ c.if-not-is_touched.false in
    λ net o s h fit.
    let w = get_or (widths net.nodes) a.i 0 in
    let ready = node_foldable net a.gained.now a.lost.now a.head.now a.pending.now o a.i h in
    absurd (write_fits net a.gained.now a.lost.now a.head.now a.pending.now o a.i h a.signs.now s touched f.new.out f.result
    (f.ensures w ready) c.in_default.is fit)
