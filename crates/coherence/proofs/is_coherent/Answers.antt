use mathlib.Core.Path.{sym, ◌∙◌}
use Prim.Native.Nat.{◌+◌}
use native.Mathlib.Omega.{arith}
use lib.ListN.{get_or}
use Rattle.laws.proofs.All.{all_more, all_done, all_not}
use Rattle.coherence.proofs.Coherent.{coherent_is, level_derived, level_table}
use Rattle.coherence.proofs.Agree.{fewer}
use Rattle.network.specs.Reading.{no_slot}
use Rattle.coherence.specs.Held.{slot_agrees}
use Rattle.coherence.proofs.is_coherent.Goals as goal

pub node_agrees-requires : goal.node_agrees-requires
node_agrees-requires c =
    let a = c.args in (
      fewer a.net.widths a.net.count (c.loop-i.i + 1) a.rows.now a.head.now (omega arith)
          c.requires.places,
      level_table a.net c.requires.built
          c.requires.fit c.loop-i.i (omega arith),
      level_derived a.net c.requires.built
          c.requires.fit c.loop-i.i (omega arith),
    )

pub returns-then-not-node_agrees : goal.returns-then-not-node_agrees
returns-then-not-node_agrees c =
    let a = c.args in
    record {
      tells = sym (sym (coherent_is a.net c.requires.built
          c.requires.fit a.rows.now a.head.now)
          ∙ all_not (λ j. slot_agrees (get_or a.net.slots j no_slot) a.net.widths a.head.now a.rows.now j) a.net.count
          c.loop-i.i c.node_agrees.result
          (omega arith) c.node_agrees.ensures (rw c.if-not-node_agrees.true));
    }

pub loop-i-preserved : goal.loop-i-preserved
loop-i-preserved c = let a = c.args in (
  c.loop-i.invariant.0,
  all_more (λ j. slot_agrees (get_or a.net.slots j no_slot) a.net.widths a.head.now a.rows.now j) a.net.count
      c.loop-i.i c.node_agrees.result
      c.loop-i.invariant.1 c.node_agrees.ensures (rw c.if-not-node_agrees.false),
)

pub returns : goal.returns
returns c =
    let a = c.args in
    record {
      tells = sym (sym (coherent_is a.net c.requires.built c.requires.fit a.rows.now a.head.now)
          ∙ all_done (λ j. slot_agrees (get_or a.net.slots j no_slot) a.net.widths a.head.now a.rows.now j) a.net.count c.loop-i.i (omega arith)
          c.loop-i.invariant.1);
    }
