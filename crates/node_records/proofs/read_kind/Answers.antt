use mathlib.Core.Path.{◌≡◌, sym, ap}
use Rattle.std.proofs.Common.{rules}
use denote.Enum.Bare.{same_true}
use lib.ListN.{take}
use lib.Seq.{length-take-le}
use Rattle.nodes.specs.Nodes.{kind_number}
use Rattle.nodes.specs.contracts.Kind.{the_type}
use Rattle.nodes.specs.declared.Kind.TheVariants.{Table, Watch}
use Rattle.derived_records.proofs.Body.{as_kind}
use Rattle.node_records.proofs.ByKind.{record_5, record_node, record_watch}
use Rattle.node_records.proofs.read_kind.Goals as goal

pub returns-then-eq : goal.returns-then-eq
returns-then-eq c =
    let a = c.args in
    let watch : a.kind ≡ Watch = same_true the_type (search rules) _ _ (sym c.if-eq.ensures) in
    record_watch (take a.count a.widths.now) (take a.count a.signs.now) a.bytes.now a.at
    c.requires.1 a.kind c.requires.0 c.read_watch.result
    (ap kind_number watch) (c.read_watch.ensures (take a.count a.widths.now))

pub returns-then-count-ge-MAX_NODES : goal.returns-then-count-ge-MAX_NODES
returns-then-count-ge-MAX_NODES c =
    let a = c.args in
    record_5 (take a.count a.widths.now) (take a.count a.signs.now) a.bytes.now a.at
    c.requires.1 a.kind c.requires.0 (search rules)
    (rw (length-take-le a.count a.widths.now c.requires.2) c.if-count-ge-MAX_NODES.true)

pub returns-then-eq-2 : goal.returns-then-eq-2
returns-then-eq-2 c =
    let a = c.args in
    let table : a.kind ≡ Table = same_true the_type (search rules) _ _ (sym c.if-eq-2.ensures) in
    record_node (take a.count a.widths.now) (take a.count a.signs.now) a.bytes.now a.at
    c.requires.1 a.kind c.requires.0 (search rules) c.read_table.result
    (rw (length-take-le a.count a.widths.now c.requires.2) c.if-count-ge-MAX_NODES.false) (as_kind (kind_number a.kind) 1 (ap kind_number table)
    (c.read_table.ensures (take a.count a.widths.now) (take a.count a.signs.now)))

pub returns : goal.returns
returns c =
    let a = c.args in
    record_node (take a.count a.widths.now) (take a.count a.signs.now) a.bytes.now a.at
    c.requires.1 a.kind c.requires.0 (search rules) c.read_derived.result
    (rw (length-take-le a.count a.widths.now c.requires.2) c.if-count-ge-MAX_NODES.false)
    (as_kind (kind_number a.kind) _ c.requires.0 (c.read_derived.ensures.body (take a.count a.signs.now)))
