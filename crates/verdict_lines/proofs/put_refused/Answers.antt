use native.Mathlib.Omega.{arith}
use Rattle.model.specs.Text.{refused_line}
use Rattle.verdict_lines.proofs.put_refused.Goals as goal

pub returns-else-out-lt-LINE : goal.returns-else-out-lt-LINE
unfolding refused_line
returns-else-out-lt-LINE c = record { whole = λ h. c.put_line_at.ensures; nothing = λ h. absurd (omega (arith, h, c.if-out-lt-LINE.false)) }
