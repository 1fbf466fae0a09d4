use mathlib.Core.Path.{◌≡◌, ap, ◌∙◌}
use mathlib.Core.List.{List}
use lib.ListN.{replicate}
use lib.Seq.{paste}
use Prim.Native.Nat.{ℕ, ◌*◌, ◌-◌}
use Rattle.model.specs.Areas.{stride}
use Rattle.insertions.proofs.Gaps.{taken_cleared}
use Rattle.insertions.proofs.Edit.{spot, present_within, removes-not, removes-row}
use native.Mathlib.Omega.{arith}
use Rattle.insertions.proofs.remove.Goals as goal

pub returns-in-Err : goal.returns-in-Err
returns-in-Err c = removes-not _ _ _ _ (spot _ _ _ _ c.requires.2 c.find.ensures c.in-Err.is)

pub returns-in-Ok : goal.returns-in-Ok
returns-in-Ok c =
    let a = c.args in
    let size : a.n * stride - (a.n * stride - stride) ≡ stride = omega (arith, present_within _ _ _ _ _ c.requires.2 c.find.ensures c.in-Ok.is) in
    removes-row _ _ _ _ _
    (spot _ _ _ _ c.requires.2 c.find.ensures c.in-Ok.is)
    (c.clear_run.ensures
    ∙ ap (λ (k : ℕ). paste c.close_gap.new.words (a.n * stride - stride) (replicate k 0) k) size
    ∙ ap (λ (l : List ℕ). paste l (a.n * stride - stride) (replicate stride 0) stride) c.close_gap.ensures
    ∙ taken_cleared stride a.words.now a.n c.in-Ok.p (omega arith)
    (present_within _ _ _ _ _ c.requires.2 c.find.ensures c.in-Ok.is))
