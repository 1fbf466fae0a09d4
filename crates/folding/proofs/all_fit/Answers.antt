use mathlib.Core.Bool.{true, false}
use mathlib.Core.Path.{◌≡◌, refl, sym}
use native.Mathlib.Omega.{arith}
use Prim.Native.Nat.{◌<◌}
use Rattle.std.proofs.Common.{rules}
use Rattle.std.proofs.lemmas.Iterator.{YieldsList-from_range, cases_from_all}
use Rattle.folding.proofs.All.{all_below-from_cases}
use Rattle.folding.proofs.Ready.{all_fitted, fits_at}
use Rattle.folding.proofs.all_fit.Goals as goal

pub returns : goal.returns
returns c =
    let a = c.args in
    λ net o e.
    let fits = fits_at net a.gained.now a.lost.now a.head.now a.pending.now in
    let cases = cases_from_all _ _ c.all.result (λ i. i < a.n → fits i ≡ true) (λ i. i < a.n → fits i ≡ false) c.all.ensures.ran
    (YieldsList-from_range 0 a.n a.n refl (omega arith)) (λ x q k. search rules) (λ x q k. search rules) in
    all_fitted net a.n a.gained.now a.lost.now a.head.now a.pending.now e _ (sym (all_below-from_cases fits a.n c.all.result cases))
