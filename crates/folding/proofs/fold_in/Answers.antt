use mathlib.Core.Bool.{false, not}
use mathlib.Core.Path.{◌≡◌}
use Rattle.network.specs.Reading.{network_of}
use Rattle.network.proofs.Building.{sign_at}
use Rattle.network.proofs.Nodes.{nodes-count}
use Rattle.folding.proofs.Answered.{signed, folded_17, ready, folded_over, fit_to, folded_all}
use Rattle.folding.proofs.fold_in.Goals as goal
use Rattle.folding.proofs.fold_in.Goals.{then-not-good_pending-via-then-not-good_pending, then-not-good_pending-via-else-not-good_pending+then-not-all_fit}

pub returns-then-not-good_pending : goal.returns-then-not-good_pending
returns-then-not-good_pending c =
    let a = c.args in
    let net = a.network in
    let b = c.requires.0 in
    let g = c.good_pending in
    let good = g.ensures.tells (network_of net) b.sound.widths (sign_at net b) in
    rw c.at.ensures (elim c.then-not-good_pending.branch [
      | then-not-good_pending-via-then-not-good_pending w ↦ folded_17 net b a.gained.now a.lost.now a.head.now a.pending.now c.requires.1 g.result good (rw w.if-not-good_pending.true)
      | then-not-good_pending-via-else-not-good_pending+then-not-all_fit w ↦
          let passed : not g.result ≡ false = rw w.if-not-good_pending.false in
          let o = ready net b a.gained.now a.lost.now a.head.now a.pending.now c.requires.1 g.result good passed in
          folded_over net b a.gained.now a.lost.now a.head.now a.pending.now c.requires.1 g.result good passed w.all_fit.result
          (w.all_fit.ensures (network_of net) o (nodes-count net b)) (rw w.if-not-all_fit.true)
    ])

pub all_fit-requires : goal.all_fit-requires
all_fit-requires c =
    let a = c.args in
    let net = a.network in
    let b = c.requires.0 in
    let g = c.good_pending in (
      network_of net,
      ready net b a.gained.now a.lost.now a.head.now a.pending.now c.requires.1 g.result (g.ensures.tells (network_of net) b.sound.widths (sign_at net b))
          (rw c.if-not-good_pending.false),
      nodes-count net b,
    )

pub write_nodes-requires : goal.write_nodes-requires
write_nodes-requires c =
    let a = c.args in
    let net = a.network in
    let b = c.requires.0 in
    let g = c.good_pending in
    let good = g.ensures.tells (network_of net) b.sound.widths (sign_at net b) in
    let o = ready net b a.gained.now a.lost.now a.head.now a.pending.now c.requires.1 g.result good (rw c.if-not-good_pending.false) in
    let f = c.all_fit in (
      network_of net,
      o,
      signed net b a.gained.now a.lost.now a.head.now a.pending.now c.requires.1,
      nodes-count net b,
      fit_to net b a.gained.now a.lost.now a.head.now a.pending.now c.requires.1 g.result good (rw c.if-not-good_pending.false) f.result
          (f.ensures (network_of net) o (nodes-count net b)) (rw c.if-not-all_fit.false),
    )

pub returns : goal.returns
returns c =
    let a = c.args in
    let net = a.network in
    let b = c.requires.0 in
    let g = c.good_pending in
    let good = g.ensures.tells (network_of net) b.sound.widths (sign_at net b) in
    let o = ready net b a.gained.now a.lost.now a.head.now a.pending.now c.requires.1 g.result good
    (rw c.if-not-good_pending.false) in
    let f = c.all_fit in
    let fits = fit_to net b a.gained.now a.lost.now a.head.now a.pending.now c.requires.1 g.result good
    (rw c.if-not-good_pending.false) f.result (f.ensures (network_of net) o (nodes-count net b))
    (rw c.if-not-all_fit.false) in
    let w = c.write_nodes in
    folded_all net b a.gained.now a.lost.now a.head.now a.pending.now c.requires.1 g.result good
    (rw c.if-not-good_pending.false) f.result (f.ensures (network_of net) o (nodes-count net b))
    (rw c.if-not-all_fit.false)
    w.new.pending (w.ensures (network_of net) o (signed net b a.gained.now a.lost.now a.head.now a.pending.now c.requires.1) (nodes-count net b) fits)
