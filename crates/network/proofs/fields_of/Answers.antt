use mathlib.Core.Path.{◌≡◌, ap, ◌∙◌}
use lib.ListN.{length-set}
use Rattle.model.specs.Areas.{padded}
use Rattle.network.proofs.Building.{set_ends}
use Rattle.network.proofs.Kept.{ends_padded}
use Rattle.derived_records.proofs.Lists.{fields-turn}
use native.Mathlib.Omega.{arith}
use Rattle.network.proofs.fields_of.Goals as goal

pub loop-i-preserved : goal.loop-i-preserved
loop-i-preserved g c =
    let a = c.args in
    let l = c.loop-i in (
      simp length-set l.invariant.0,
      fields-turn a.bytes.now a.at a.k l.fields l.i c.field_at.result (omega arith) c.field_at.ensures.is l.invariant.1,
      set_ends l.fields l.i c.field_at.result l.invariant.2,
    )

pub returns : goal.returns
returns g c =
    let a = c.args in
    let l = c.loop-i in
    let e : l.i ≡ a.n = omega arith in
    ends_padded g.row.N a.n l.fields l.invariant.0 (omega arith) (rw e at l.invariant.2) ∙ ap (padded g.row.N) (rw e at l.invariant.1)
