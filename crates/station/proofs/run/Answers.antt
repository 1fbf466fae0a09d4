use Rattle.station.proofs.Running.{run_end, run_more, run_part, run_start, small_count}
use Rattle.program.specs.Runs.{Turn}
use Rattle.program.proofs.Theorem.{falls_again}
use Rattle.stages.specs.Stages.{Files, files}
use Rattle.model.specs.Areas.{Areas}
use Rattle.areas.specs.Lent.{lent}
use lib.Seq.{length-take-le}
use lib.ListN.{length, take}
use Prim.Native.Nat.{◌≤◌}
use mathlib.Core.Path.{sym, ◌∙◌, ◌≡◌}
use native.Mathlib.Omega.{arith}
use Rattle.station.proofs.run.Goals.{After-step-said}
use Rattle.station.proofs.run.Goals as goal

-- the files, and the areas before a step
abbrev inputs : After-step-said → Files
inputs c = let a = c.args in files a.n a.b a.net.now a.file.now

abbrev held : After-step-said → Areas
held c = lent c.loop-last.rows c.loop-last.gained c.loop-last.lost c.loop-last.head

-- the step
abbrev turn : After-step-said → Turn
turn c = record {
  before = c.loop-last.out;
  out = c.step-said.new.out;
  areas = lent c.step-said.new.rows c.step-said.new.gained c.step-said.new.lost c.step-said.new.head;
  said = c.step-said.result;
}

-- what it wrote, and what was told before it
size : (c : After-step-said) → length (take c.step-said.result.size c.step-said.new.out) ≡ c.step-said.result.size
size c = length-take-le c.step-said.result.size c.step-said.new.out (omega (arith, c.step-said.ensures.says.wrote.fits))

small : (c : After-step-said) → c.loop-last.told ≤ 60000000000
small c = small_count (inputs c) c.loop-last.stage (held c) c.loop-last.told c.loop-last.invariant c.requires.1

room : (c : After-step-said) → c.step-said.result.size ≤ 13696
room c = omega (arith, c.step-said.ensures.says.wrote.fits, c.loop-last.auto.out, c.requires.2)

pub loop-last-init : goal.loop-last-init
loop-last-init c = let a = c.args in
    run_start (files a.n a.b a.net.now a.file.now) (lent a.rows.now a.gained.now a.lost.now a.head.now) c.requires.0

pub step-said-requires : goal.step-said-requires
step-said-requires c = (c.loop-last.invariant.ready, omega (arith, c.loop-last.auto.out, c.requires.2))

pub overflow_add-told : goal.overflow_add-told
overflow_add-told c = let s = (goal.at.overflow_add-told c).After-step-said in omega (arith, c.in-Ok.ensures, size s, small s, room s)

pub overflow_add-result : goal.overflow_add-result
overflow_add-result c = let s = (goal.at.overflow_add-result c).After-step-said in omega (arith, c.in-Err.ensures, size s, small s, room s)

pub loop-last-smaller : goal.loop-last-smaller
loop-last-smaller c =
    let s = (goal.at.loop-last-smaller c).After-step-said in
    falls_again (inputs s) c.loop-last.stage (held s) c.loop-last.invariant.ready (turn s) c.step-said.ensures.says (sym c.is_over.ensures ∙ c.loop-last-test.true)

pub loop-last-preserved : goal.loop-last-preserved
loop-last-preserved c =
    let s = (goal.at.loop-last-preserved c).After-step-said in
    run_more (inputs s) c.loop-last.stage (held s) c.loop-last.told c.loop-last.invariant (turn s) c.step-said.ensures.says (sym c.is_over.ensures ∙ c.loop-last-test.true) (room s)
    c.in-Ok.taken (c.in-Ok.ensures ∙ size s)

pub returns-in-Err : goal.returns-in-Err
returns-in-Err c =
    let s = (goal.at.returns-in-Err c).After-step-said in
    run_part (inputs s) c.loop-last.stage (held s) c.loop-last.told c.loop-last.invariant (turn s) c.step-said.ensures.says c.in-Err.stopped.told (omega (arith, c.in-Err.ensures, size s))

pub returns : goal.returns
returns c = let a = c.args in run_end (files a.n a.b a.net.now a.file.now) c.loop-last.stage
    (lent c.loop-last.rows c.loop-last.gained c.loop-last.lost c.loop-last.head) c.loop-last.told
    c.loop-last.invariant (sym c.is_over.ensures ∙ c.loop-last-test.false)
