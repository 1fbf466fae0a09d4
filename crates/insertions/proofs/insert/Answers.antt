use mathlib.Core.Path.{ap, ◌∙◌}
use mathlib.Core.List.{List}
use lib.ListN.{drop}
use lib.Seq.{paste}
use Prim.Native.Nat.{ℕ, ◌*◌}
use Rattle.model.specs.Areas.{stride}
use Rattle.rows.proofs.Words.{length-rows}
use Rattle.insertions.proofs.Gaps.{put_copied}
use Rattle.insertions.proofs.Edit.{spot, missing_within, inserts_present, inserts_full, inserts_new}
use native.Mathlib.Omega.{arith}
use Rattle.insertions.proofs.insert.Goals as goal

pub returns-then-capacity-n : goal.returns-then-capacity-n
returns-then-capacity-n c =
    inserts_full _ _ _ _ _ (spot _ _ _ _ c.requires.3 c.find_from_end.ensures c.in-Err.is) (rw length-rows c.if-capacity-n.true)

pub returns-in-Ok : goal.returns-in-Ok
returns-in-Ok c = inserts_present _ _ _ _ _ (spot _ _ _ _ c.requires.3 c.find_from_end.ensures c.in-Ok.is)

pub returns-else-capacity-n : goal.returns-else-capacity-n
returns-else-capacity-n c =
    let a = c.args in
    inserts_new _ _ _ _ _ _
    (spot _ _ _ _ c.requires.3 c.find_from_end.ensures c.in-Err.is)
    (rw length-rows c.if-capacity-n.false)
    (c.copy_run.ensures
    ∙ ap (λ (l : List ℕ). paste l (c.in-Err.p * stride) (drop (a.at * stride) a.src.now) stride)
    c.open_gap.ensures
    ∙ put_copied stride a.src.now a.words.now a.at a.n c.in-Err.p (omega arith)
    (omega arith) (missing_within _ _ _ _ _ c.requires.3 c.find_from_end.ensures c.in-Err.is))
