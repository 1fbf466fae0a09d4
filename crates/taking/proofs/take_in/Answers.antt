use lib.ListN.{get_or}
use mathlib.Core.Path.{ap}
use Rattle.std.specs.Prelude.{Err}
use Rattle.verdicts.specs.declared.Rule.TheVariants.{BadPending, NothingPending}
use Rattle.model.specs.Network.{widths}
use Rattle.network.specs.Reading.{network_of, nodes_of}
use Rattle.network.proofs.Building.{sign_at}
use Rattle.taking.proofs.Answered.{refused_takes, taken_17, taken_18, held, long, takes}
use Rattle.taking.proofs.take_in.Goals as goal

pub returns-then-not-good_pending : goal.returns-then-not-good_pending
returns-then-not-good_pending c =
    let net = c.args.network in
    let p = c.args.pending.now in
    let g = c.good_pending in
    refused_takes (record { rule = BadPending; place = 0 }) p _ (taken_17 net c.requires p g.result (g.ensures.tells (network_of net) c.requires.sound.widths (sign_at net c.requires)) (rw c.if-not-good_pending.true)) _
    (ap Err c.at.ensures)

pub highest_rank-rank-requires : goal.highest_rank-rank-requires
highest_rank-rank-requires c =
    let net = c.args.network in
    let p = c.args.pending.now in
    let g = c.good_pending in (
      c.requires.sound.few,
      c.requires.priorities-length,
      long net c.requires p g.result (g.ensures.tells (network_of net) c.requires.sound.widths (sign_at net c.requires)) (rw c.if-not-good_pending.false),
    )

pub returns-then-rank-eq0 : goal.returns-then-rank-eq0
returns-then-rank-eq0 c =
    let net = c.args.network in
    let p = c.args.pending.now in
    let g = c.good_pending in
    let top = c.highest_rank-rank in
    refused_takes (record { rule = NothingPending; place = 0 }) p _
    (taken_18 net c.requires p g.result (g.ensures.tells (network_of net) c.requires.sound.widths (sign_at net c.requires)) (rw c.if-not-good_pending.false) top.result
    top.ensures c.if-rank-eq0.true) _
    (ap Err c.at-then-rank-eq0.ensures)

pub lowest_with-node-requires : goal.lowest_with-node-requires
lowest_with-node-requires c =
    let net = c.args.network in
    let p = c.args.pending.now in
    let g = c.good_pending in (
      c.requires.sound.few,
      c.requires.priorities-length,
      long net c.requires p g.result (g.ensures.tells (network_of net) c.requires.sound.widths (sign_at net c.requires)) (rw c.if-not-good_pending.false),
    )

pub take_row-row-requires : goal.take_row-row-requires
take_row-row-requires c =
    let net = c.args.network in
    let p = c.args.pending.now in
    let g = c.good_pending in
    let top = c.highest_rank-rank in
    let low = c.lowest_with-node in (
      get_or (widths (nodes_of net)) low.result 0,
      held net c.requires p g.result (g.ensures.tells (network_of net) c.requires.sound.widths (sign_at net c.requires))
          (rw c.if-not-good_pending.false) top.result top.ensures c.if-rank-eq0.false
          low.result low.ensures,
    )

pub returns : goal.returns
returns c =
    let net = c.args.network in
    let p = c.args.pending.now in
    let g = c.good_pending in
    let top = c.highest_rank-rank in
    let low = c.lowest_with-node in
    let row = c.take_row-row in
    let w = get_or (widths (nodes_of net)) low.result 0 in
    let good = g.ensures.tells (network_of net) c.requires.sound.widths (sign_at net c.requires) in
    takes net c.requires p g.result good (rw c.if-not-good_pending.false) top.result top.ensures
    c.if-rank-eq0.false low.result low.ensures row.new.pending row.result
    (row.ensures w (held net c.requires p g.result good (rw c.if-not-good_pending.false) top.result
    top.ensures c.if-rank-eq0.false low.result low.ensures))
