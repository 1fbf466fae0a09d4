use mathlib.Core.Path.{ap, refl, ◌∙◌}
use Prim.Native.Nat.{ℕ, Ordering, ◌*◌, ◌+◌, ◌<◌}
use Rattle.comparisons.proofs.Truth.{truth}
use Rattle.model.specs.Algebra.{holds_of}
use Rattle.nodes.proofs.Codes.{code_below}
use native.Mathlib.Omega.{arith}
use Rattle.comparisons.proofs.holds.Goals as goal

pub returns-in-Less : goal.returns-in-Less
returns-in-Less c =
    let k = c.number-code in
    let low : k.result < 6 = rw k.ensures (code_below c.args.comparison) in
    rw c.in-Less.is (truth k.result Ordering.lt (3 * k.result) low (omega arith)
    ∙ ap (λ (n : ℕ). holds_of n Ordering.lt) k.ensures)

pub returns-in-Equal : goal.returns-in-Equal
returns-in-Equal c =
    let k = c.number-code in
    let low : k.result < 6 = rw k.ensures (code_below c.args.comparison) in
    rw c.in-Equal.is (truth k.result Ordering.eq (3 * k.result + 1) low refl ∙ ap (λ (n : ℕ). holds_of n Ordering.eq) k.ensures)

pub returns-in-Greater : goal.returns-in-Greater
returns-in-Greater c =
    let k = c.number-code in
    let low : k.result < 6 = rw k.ensures (code_below c.args.comparison) in
    rw c.in-Greater.is (truth k.result Ordering.gt (3 * k.result + 2) low refl ∙ ap (λ (n : ℕ). holds_of n Ordering.gt) k.ensures)
