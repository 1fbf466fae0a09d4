use mathlib.Core.Path.{sym, ◌∙◌}
use Rattle.records.proofs.Header.{whole}
use Rattle.node_records.proofs.Body.{watch_least, watch_size, watch_no_node, watch_low, watch_high, watch_second, watch_above, watch_ok}
use native.Mathlib.Omega.{arith}
use Rattle.node_records.proofs.read_watch.Goals as goal

pub returns-then-not-watch_shape : goal.returns-then-not-watch_shape
returns-then-not-watch_shape c =
    let a = c.args in
    let w = c.watch_shape in
    λ ws. watch_size a.signs.now a.count c.requires.1 ws a.bytes.now a.at (sym w.ensures ∙ c.if-not-watch_shape.true)

pub field_at-node-requires : goal.field_at-node-requires
field_at-node-requires c =
    let a = c.args in
    let w = c.watch_shape in
    omega (arith, (whole a.bytes.now a.at c.requires.0).inside, watch_least a.bytes.now a.at (sym w.ensures ∙ c.if-not-watch_shape.false))

pub returns-then-count-node : goal.returns-then-count-node
returns-then-count-node c =
    let a = c.args in
    let w = c.watch_shape in
    λ ws. watch_no_node a.signs.now a.count c.requires.1 ws a.bytes.now a.at (sym w.ensures ∙ c.if-not-watch_shape.false)
    c.field_at-node.result c.field_at-node.ensures.is c.if-count-node.true

pub field_at-sign-requires : goal.field_at-sign-requires
field_at-sign-requires c =
    let a = c.args in
    let w = c.watch_shape in
    omega (arith, (whole a.bytes.now a.at c.requires.0).inside, watch_least a.bytes.now a.at (sym w.ensures ∙ c.if-not-watch_shape.false))

pub returns-then-sign-lt1 : goal.returns-then-sign-lt1
returns-then-sign-lt1 c =
    let a = c.args in
    let w = c.watch_shape in
    λ ws. watch_low a.signs.now a.count c.requires.1 ws a.bytes.now a.at (sym w.ensures ∙ c.if-not-watch_shape.false)
    c.field_at-node.result c.field_at-node.ensures.is c.if-count-node.false c.field_at-sign.result
    c.field_at-sign.ensures.is c.if-sign-lt1.true

pub returns-then-sign-gt3 : goal.returns-then-sign-gt3
returns-then-sign-gt3 c =
    let a = c.args in
    let w = c.watch_shape in
    λ ws. watch_high a.signs.now a.count c.requires.1 ws a.bytes.now a.at (sym w.ensures ∙ c.if-not-watch_shape.false)
    c.field_at-node.result c.field_at-node.ensures.is c.if-count-node.false c.field_at-sign.result
    c.field_at-sign.ensures.is c.if-sign-lt1.false c.if-sign-gt3.true

pub returns-then-signs-node-ne0 : goal.returns-then-signs-node-ne0
returns-then-signs-node-ne0 c =
    let a = c.args in
    let w = c.watch_shape in
    λ ws. watch_second a.signs.now a.count c.requires.1 ws a.bytes.now a.at (sym w.ensures ∙ c.if-not-watch_shape.false)
    c.field_at-node.result c.field_at-node.ensures.is
    c.if-count-node.false c.field_at-sign.result c.field_at-sign.ensures.is
    c.if-sign-lt1.false c.if-sign-gt3.false c.if-signs-node-ne0.true

pub returns-then-priority-gt-MAX_PRIORITY : goal.returns-then-priority-gt-MAX_PRIORITY
returns-then-priority-gt-MAX_PRIORITY c =
    let a = c.args in
    let w = c.watch_shape in
    λ ws. watch_above a.signs.now a.count c.requires.1 ws a.bytes.now a.at (sym w.ensures ∙ c.if-not-watch_shape.false)
    c.field_at-node.result c.field_at-node.ensures.is
    c.if-count-node.false c.field_at-sign.result
    c.field_at-sign.ensures.is c.if-sign-lt1.false c.if-sign-gt3.false
    c.if-signs-node-ne0.false
    c.priority_at-priority.result c.priority_at-priority.ensures c.if-priority-gt-MAX_PRIORITY.true

pub returns : goal.returns
returns c =
    let a = c.args in
    let w = c.watch_shape in
    λ ws. watch_ok a.signs.now a.count c.requires.1 ws a.bytes.now a.at (sym w.ensures ∙ c.if-not-watch_shape.false)
    c.field_at-node.result c.field_at-node.ensures.is
    c.if-count-node.false c.field_at-sign.result
    c.field_at-sign.ensures.is c.if-sign-lt1.false c.if-sign-gt3.false
    c.if-signs-node-ne0.false
    c.priority_at-priority.result c.priority_at-priority.ensures c.if-priority-gt-MAX_PRIORITY.false
