use native.Mathlib.Omega.{arith}
use Rattle.rows.proofs.Words.{length_fields}
use Rattle.station_lines.proofs.Changes.{numbers_taken}
use Rattle.station_lines.proofs.put_change.Goals as goal

pub returns : goal.returns
returns c = let a = c.args in let t = numbers_taken a.node a.w a.words.now a.from
    c.change_numbers-numbers.result c.requires.0
    c.change_numbers-numbers.ensures in let e = rw t at c.put_line_at.ensures
    in record {
      bytes = e.bytes;
      next = e.next;
      short = omega (arith, e.short, length_fields a.w a.words.now a.from, c.requires.0);
    }
