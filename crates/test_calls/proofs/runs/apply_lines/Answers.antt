use mathlib.Core.Path.{◌≡◌}
use Prim.Native.Nat.{◌≤◌}
use lib.ListN.{length}
use Rattle.model.specs.Calls.{longest_report}
use Rattle.areas.specs.Lent.{lent}
use Rattle.test_calls.proofs.Told.{applied}
use borrow.Author.Rules.{rules}
use Rattle.test_calls.proofs.runs.apply_lines.Goals as goal

pub returns : goal.returns
returns c =
    let a = c.args in
    let after = lent c.apply-v.new.rows c.apply-v.new.gained c.apply-v.new.lost c.apply-v.new.head in
    let room : length a.text.now ≡ 65536 = search rules in
    let few : length after.head ≤ longest_report = search rules in
    applied a.net.now a.batch.now (lent a.rows.now a.gained.now a.lost.now a.head.now) after c.apply-v.result c.check-c.result
    c.number_of.result c.place_of.result c.number_of-2.result c.unwrap_or.result room few
    c.number_of.ensures c.place_of.ensures c.number_of-2.ensures c.unwrap_or.ensures c.apply-v.ensures.applies c.check-c.ensures.checks c.put_line_at-k.ensures c.values_line.ensures
