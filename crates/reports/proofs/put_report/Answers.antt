use mathlib.Core.List.{◌++◌}
use Prim.Native.Nat.{◌+◌}
use mathlib.Core.Path.{ap, sym, ◌∙◌, ◌≡◌}
use native.Mathlib.Omega.{arith}
use lib.ListN.{length, length-append}
use Rattle.reports.proofs.Bytes.{allowed_size_is, report_parts}
use Rattle.laws.proofs.Parts.{sets_first, sets_more}
use Rattle.reports.specs.Written.{allowed_of}
use Rattle.model.specs.Calls.{written_to}
use Rattle.model.specs.Watched.{allows, was_gained, was_lost}
use Rattle.model.specs.Areas.{held_in, layout}
use Rattle.reports.proofs.put_report.Goals as goal

pub returns : goal.returns
returns c =
    let a = c.args in
    let more = allows a.sign was_gained in
    let less = allows a.sign was_lost in
    let came = allowed_of more 64 a.node (held_in layout a.w a.g a.gained.now a.node) in
    let gone = allowed_of less 65 a.node (held_in layout a.w a.l a.lost.now a.node) in
    let came-size = allowed_size_is more 64 a.node a.w a.g a.gained.now in
    let gone-size = allowed_size_is less 65 a.node a.w a.l a.lost.now in
    let at : c.put_allowed-at.result ≡ 0 + length came = omega (arith, c.put_allowed-at.ensures.size, came-size) in
    sets_more a.out.now c.put_allowed-at.new.out c.put_allowed.new.out 0 c.put_allowed-at.result came gone c.put_allowed-at.ensures.writes at c.put_allowed.ensures.writes
    ∙ sets_first a.out.now (came ++ gone) (omega (arith, length-append came gone, came-size, gone-size, c.requires.6))
    ∙ ap (written_to a.out.now)
    (sym (report_parts a.sign a.node (record { gained = held_in layout a.w a.g a.gained.now a.node; lost = held_in layout a.w a.l a.lost.now a.node })))
