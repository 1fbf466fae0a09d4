use mathlib.Core.Path.{◌≡◌, ap}
use Rattle.std.proofs.Common.{rules, Err, length}
use Prim.Native.Nat.{ℕ, ◌+◌}
use Rattle.nodes.specs.Nodes.{number_of}
use Rattle.network.proofs.Building.{extends_watch}
use Rattle.network.proofs.ReadAll.{reached_start, reached_refused, reached_whole, reached_next, reached_end, reached_empty, follows}
use native.Mathlib.Omega.{arith}
use Rattle.network.proofs.read_network.Goals as goal

pub returns-then-is_empty : goal.returns-then-is_empty
returns-then-is_empty c =
    let none : length c.args.bytes.now ≡ 0 = search rules in
    record { reads = record { is = rw c.at.ensures (reached_empty c.args.bytes.now none); built = tt } }

pub loop-at-init : goal.loop-at-init
loop-at-init c =
    let some : length c.args.bytes.now ≡ 0 → ⊥ = search rules in
    let net = c.no_network-net in
    reached_start c.args.bytes.now net.result some net.ensures.built net.ensures.empty

pub returns-in_default : goal.returns-in_default
returns-in_default c =
    let l = c.loop-at in
    let r = c.read_record-reading in
    let k = c.unwrap_err in
    record {
      reads = record {
        is = rw c.at-in_default.ensures
            (reached_refused c.args.bytes.now l.net l.at l.invariant c.loop-at-test.true r.result r.ensures
            (number_of (Err k.result)) (ap number_of k.ensures) (rw k.ensures at r.ensures.fits));
        built = tt;
      };
    }

pub u16_at-requires : goal.u16_at-requires
u16_at-requires c =
    let l = c.loop-at in
    let r = c.read_record-reading in
    let w = reached_whole c.args.bytes.now l.net l.at l.invariant c.loop-at-test.true r.result r.ensures (ap number_of c.in-Ok.is) in
    omega (arith, w.header)

pub loop-at-smaller-in-Node : goal.loop-at-smaller-in-Node
loop-at-smaller-in-Node c =
    let l = c.loop-at in
    let r = c.read_record-reading in
    let w = reached_whole c.args.bytes.now l.net l.at l.invariant c.loop-at-test.true r.result r.ensures (ap number_of c.in-Ok.is) in
    omega (arith, w.least, c.u16_at.ensures.is, c.loop-at-test.true)

pub loop-at-preserved-in-Node : goal.loop-at-preserved-in-Node
loop-at-preserved-in-Node c =
    let l = c.loop-at in
    let r = c.read_record-reading in
    reached_next c.args.bytes.now l.net l.at l.invariant c.loop-at-test.true r.result r.ensures (ap number_of c.in-Ok.is) _
    (l.at + c.u16_at.result) (rw (c.in-Ok.is, c.in-Node.is) c.add_node.ensures) (ap (λ (n : ℕ). l.at + n) c.u16_at.ensures.is)

pub loop-at-smaller : goal.loop-at-smaller
loop-at-smaller c =
    let l = c.loop-at in
    let r = c.read_record-reading in
    let w = reached_whole c.args.bytes.now l.net l.at l.invariant c.loop-at-test.true r.result r.ensures (ap number_of c.in-Ok.is) in
    omega (arith, w.least, c.u16_at.ensures.is, c.loop-at-test.true)

pub loop-at-preserved : goal.loop-at-preserved
loop-at-preserved c =
    let l = c.loop-at in
    let r = c.read_record-reading in
    let i = c.in-Watch in
    let there = rw i.is at (follows c.in-Ok.item l.net c.args.bytes.now l.at l.invariant.built (rw c.in-Ok.is at r.ensures.fits) (rw c.in-Ok.is at r.ensures.room)) in
    reached_next c.args.bytes.now l.net l.at l.invariant c.loop-at-test.true r.result r.ensures (ap number_of c.in-Ok.is) _
    (l.at + c.u16_at.result) (rw (c.in-Ok.is, i.is) (extends_watch l.net i.node i.sign i.priority l.invariant.built there))
    (ap (λ (n : ℕ). l.at + n) c.u16_at.ensures.is)

pub returns : goal.returns
returns c =
    let l = c.loop-at in
    record { reads = record { is = reached_end c.args.bytes.now l.net l.at l.invariant c.loop-at-test.false; built = l.invariant.built } }
