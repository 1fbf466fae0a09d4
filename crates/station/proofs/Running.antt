-- The program's steps and how many bytes were handed over. Assumes nothing.
use mathlib.Core.Bool.{true, false}
use mathlib.Core.List.{List}
use mathlib.Core.Path.{ap, sym, ◌∙◌, ◌≡◌}
use Prim.Native.Nat.{ℕ, ◌+◌, ◌-◌, ◌*◌, ◌≤◌, ◌<◌}
use native.Mathlib.Omega.{arith}
use lib.ListN.{drop, length, length-append, length-drop, take}
use lib.Seq.{length-take-le}
use Rattle.model.specs.Areas.{Areas, layout, long_enough}
use Rattle.stages.specs.declared.Stage.{Stage}
use Rattle.stages.specs.declared.Stage.TheVariants.{Begin}
use Rattle.stages.specs.Stages.{Files, Ready, Says, is_over, text_at}
use Rattle.program.specs.Runs.{Turn, left, output_of}
use Rattle.program.proofs.Theorem.{falls_again, output_again, output_from, over_output, ready_again, written}
use Rattle.station_lines.specs.Lines.{node_room}

-- the rest of some bytes
pub rest_length : (bytes : List ℕ) (from : ℕ) → from ≤ length bytes → length (take (length bytes - from) (drop from bytes)) ≡ length bytes - from
rest_length bytes from h = length-take-le (length bytes - from) (drop from bytes) (rw length-drop (omega arith))

-- what was handed over before a stage, and that the counts stay small
pub record Running (f : Files) (s : Stage) (a : Areas) (told : ℕ) : Type 0 where
  pub ready : Ready f s a
  pub output : told + length (output_from f s a) ≡ length (output_of f)
  pub small : told + node_room * left f s ≤ node_room * left f Begin

module _ (f : Files) where
  pub run_start : (a : Areas) → long_enough layout a ≡ true → Running f Begin a 0
  run_start a long = record { ready = long; output = omega arith; small = omega arith }

  module _ (s : Stage) (a : Areas) (told : ℕ) (k : Running f s a told) where
    module _ (t : Turn) (d : Says f s a t.areas t.before t.out t.said) where
      -- the step's bytes come next
      pub next-bytes : length (output_from f s a) ≡ t.said.size + length (output_from f t.said.stage t.areas)
      next-bytes =
          let size : length (take t.said.size t.out) ≡ t.said.size = ap length (written (text_at f s a) t.before t.out t.said.size d.wrote) ∙ sym d.wrote.is in
          ap length (output_again f s a k.ready t d)
          ∙ length-append (take t.said.size t.out) (output_from f t.said.stage t.areas)
          ∙ ap (λ (n : ℕ). n + length (output_from f t.said.stage t.areas)) size

      pub run_more : is_over s ≡ false → t.said.size ≤ node_room → (taken : ℕ) → taken ≡ t.said.size → Running f t.said.stage t.areas (told + taken)
      run_more n h taken e =
          record {
            ready = ready_again f s a k.ready t d;
            output = omega (arith, k.output, next-bytes, e);
            small = omega (arith, k.small, h, falls_again f s a k.ready t d n, e);
          }

      -- fewer of them are fewer than the output's
      pub run_part : (taken : ℕ) → taken < t.said.size → told + taken < length (output_of f)
      run_part taken h = omega (arith, k.output, next-bytes, h)

    pub run_end : is_over s ≡ true → told ≡ length (output_of f)
    run_end o = omega (arith, k.output, ap length (over_output f s a o))

    pub small_count : length f.batches ≤ 65537 → told ≤ 60000000000
    small_count h = omega (arith, k.small, h)
