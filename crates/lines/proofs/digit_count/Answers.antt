use mathlib.Core.Path.{ap, ◌∙◌}
use Prim.Native.Nat.{ℕ, ◌+◌}
use Rattle.lines.proofs.Digits.{log_counts}
use Rattle.lines.proofs.digit_count.Goals as goal

pub returns-clause-counts : goal.returns-clause-counts
returns-clause-counts c =
    let e = c.checked_ilog10.ensures in
    ap (λ (n : ℕ). n + 1) c.unwrap_or.ensures ∙ log_counts c.args.x c.checked_ilog10.result e.none e.power_le e.next_power_gt e.bound
