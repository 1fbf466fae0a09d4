use mathlib.Core.Path.{◌≡◌, ◌∙◌}
use lib.ListN.{length-set, get_or, take}
use Rattle.nodes.specs.Nodes.{lists_of, pairs_of}
use Rattle.network.specs.Reading.{no_slot}
use Rattle.reader.proofs.Answered.{kinds_more}
use native.Mathlib.Omega.{arith}
use Rattle.reader.proofs.kinds_of.Goals as goal

pub loop-i-preserved : goal.loop-i-preserved
loop-i-preserved c =
    let net = c.args.net.now in
    let i = c.loop-i.i in
    let slot = get_or net.slots i no_slot in (
      simp length-set c.loop-i.invariant.0,
      kinds_more net.slots i c.number.result c.loop-i.kinds
          (omega (arith, c.requires.sound.few, c.requires.slots_length)) (omega (arith, c.requires.sound.few)) c.loop-i.invariant.1
          (c.number.ensures ∙ c.parts_of.ensures.kind (take (lists_of slot.node).columns slot.columns) (pairs_of (lists_of slot.node).pairs slot.pairs)),
    )

pub returns : goal.returns
returns c = let e : c.loop-i.i ≡ c.args.net.now.count = omega arith in c.loop-i.invariant.1 ∙ rw e
