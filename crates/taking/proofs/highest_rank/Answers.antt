use mathlib.Core.Path.{ap₂, sym, ◌∙◌}
use Prim.Native.Nat.{ℕ, max}
use Rattle.taking.proofs.Ranks.{highest-next, max_is}
use Rattle.taking.proofs.highest_rank.Goals as goal

pub loop-i-preserved : goal.loop-i-preserved
loop-i-preserved c =
    let a = c.args in
    let l = c.loop-i in
    c.max-highest.ensures ∙ max_is l.highest c.rank_of.result ∙ ap₂ {A = ℕ} {B = ℕ} {C = ℕ} (λ x y. max x y) l.invariant c.rank_of.ensures ∙ sym (highest-next a.priorities.now a.pending.now l.i)
