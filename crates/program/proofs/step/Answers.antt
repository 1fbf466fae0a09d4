use Rattle.stages.specs.Stages.{files}
use Rattle.areas.specs.Lent.{lent}
use Rattle.stages.proofs.Steps.{says-over}
use Rattle.program.proofs.step.Goals as goal

pub begin-requires : goal.begin-requires
begin-requires c = rw c.in-Begin.is
    at c.requires

pub cut-requires : goal.cut-requires
cut-requires c = rw c.in-Cut.is
    at c.requires

pub tell-requires : goal.tell-requires
tell-requires c = rw c.in-Tell.is
    at c.requires

pub returns-in-Begin : goal.returns-in-Begin
returns-in-Begin c = record {
  says = rw c.in-Begin.is
      c.begin.ensures;
}

pub returns-in-Cut : goal.returns-in-Cut
returns-in-Cut c = record {
  says = rw c.in-Cut.is
      c.cut.ensures;
}

pub returns-in-Tell : goal.returns-in-Tell
returns-in-Tell c = record { says = rw c.in-Tell.is c.tell.ensures }

pub returns-in-End : goal.returns-in-End
returns-in-End c = let a = c.args in record {
  says = rw c.in-End.is
      (says-over (files a.n a.b a.net.now a.file.now) (lent a.rows.now a.gained.now a.lost.now a.head.now) a.out.now);
}
